-- The bytes that came, as far as they are kept.
use Rattle.std.proofs.Common.{◌≡◌, ◌∙◌, ℕ, Bool, false, List, ◌++◌, IfSome, refl, ap, Option, None, Some}
use Rattle.std.specs.Borrow.{Bor}
use Rattle.std.specs.Option.{option_copied}
use Rattle.bg_endpoint_side.specs.KeptBytes.{IsKeptOf, IsKeptWith}

-- more bytes came
pub kept_more : (before after : Option (List ℕ)) (is_asked : Bool) (came bytes : List ℕ) → IsKeptWith before bytes after
    → IsKeptOf before is_asked came → IsKeptOf after is_asked (came ++ bytes)
kept_more before None is_asked came bytes more kept = record { all_came = tt; only_if_asked = λ is. refl }
kept_more None (Some all) is_asked came bytes more kept = absurd more
kept_more (Some first) (Some all) is_asked came bytes more kept = record {
  all_came = more ∙ ap (λ xs. xs ++ bytes) kept.all_came;
  only_if_asked = λ is. let none = kept.only_if_asked is in absurd (cc);
}

-- what is lent of them is all that came, and nothing if they are not wanted
pub lends_all : (lent : Option (Bor (List ℕ))) (kept : Option (List ℕ)) (is_asked : Bool) (came : List ℕ)
    → option_copied lent ≡ kept → IsKeptOf kept is_asked came → IfSome lent (λ bytes. bytes.now ≡ came)
lends_all None kept is_asked came is all = tt
lends_all (Some bytes) None is_asked came is all = absurd (cc)
lends_all (Some bytes) (Some first) is_asked came is all =
    let same : bytes.now ≡ first = cc in same ∙ all.all_came

pub lends_none : (lent : Option (Bor (List ℕ))) (kept : Option (List ℕ)) (is_asked : Bool) (came : List ℕ)
    → option_copied lent ≡ kept → IsKeptOf kept is_asked came → is_asked ≡ false → lent ≡ None
lends_none None kept is_asked came is all unwanted = refl
lends_none (Some bytes) None is_asked came is all unwanted = absurd (cc)
lends_none (Some bytes) (Some first) is_asked came is all unwanted =
    let none = all.only_if_asked unwanted in absurd (cc)
