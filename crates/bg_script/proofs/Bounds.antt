-- Lemmas on the bounds of request numbers that a start finds.
use Rattle.std.proofs.Common.{◌≡◌, ◌⊎◌, ℕ, List, [], ◌∷◌, ◌++◌, map, reverse, Option, Some, None, refl, sym, ap, ◌∙◌, inl, inr}
use Rattle.std.specs.Prelude.{unwrap_or}
use Rattle.std.proofs.lemmas.Grind.{reverse_onto}
use Rattle.std.proofs.lemmas.List.{append_assoc, map-append, reverse-append}
use Rattle.bg_history.specs.declared.entry.Entry.{Entry}
use Rattle.bg_journal.specs.Bounds.{bound_in, last_bound, newest_bound}
use Rattle.bg_journal.specs.Texts.{entries_text}

-- no text of entries says a bound
abbrev pub SayNone : Type 0
SayNone = (entries : List Entry) → bound_in (entries_text entries) ≡ None

-- the texts of orders leave the bound of what is older
skipped : SayNone → (orders : List (List Entry)) (older : List (List ℕ))
    → newest_bound (reverse (map entries_text orders) ++ older) ≡ newest_bound older
skipped none [] older = refl
skipped none (order ∷ orders) older =
    let later = map entries_text orders in
    ap (λ (l : List (List ℕ)). newest_bound (l ++ older)) (reverse_onto later (entries_text order) [])
    ∙ ap newest_bound (append_assoc (reverse later) (entries_text order ∷ []) older)
    ∙ skipped none orders (entries_text order ∷ older)
    ∙ ap (λ (o : Option ℕ). unwrap_or o (newest_bound older)) (none order)

-- the last bound that texts say is that of this text, if those behind it are of orders
last_is : SayNone → (before : List (List ℕ)) (text : List ℕ) (n : ℕ) (orders : List (List Entry)) → bound_in text ≡ Some n
    → last_bound (before ++ text ∷ map entries_text orders) ≡ n
last_is none before text n orders is =
    let later = map entries_text orders in
    ap newest_bound (reverse-append before (text ∷ later) ∙ ap (λ l. l ++ reverse before) (reverse_onto later text [])
    ∙ append_assoc (reverse later) (text ∷ []) (reverse before))
    ∙ skipped none orders (text ∷ reverse before)
    ∙ ap (λ (o : Option ℕ). unwrap_or o (newest_bound (reverse before))) is

-- the same of what a start finds: what is kept, and the order in doubt or none
pub survive : SayNone → (before : List (List ℕ)) (text : List ℕ) (n : ℕ) (orders unsure : List (List Entry)) (kept doubt found : List (List ℕ))
    → bound_in text ≡ Some n → kept ≡ before ++ text ∷ map entries_text orders → doubt ≡ map entries_text unsure
    → (found ≡ kept) ⊎ (found ≡ kept ++ doubt) → last_bound found ≡ n
survive none before text n orders unsure kept doubt found is kept_is doubt_is (inl same) =
    ap last_bound (same ∙ kept_is) ∙ last_is none before text n orders is
survive none before text n orders unsure kept doubt found is kept_is doubt_is (inr same) =
    let all : kept ++ doubt ≡ before ++ text ∷ map entries_text (orders ++ unsure) =
    ap (λ l. l ++ doubt) kept_is ∙ ap (λ l. (before ++ text ∷ map entries_text orders) ++ l) doubt_is
    ∙ append_assoc before (text ∷ map entries_text orders) (map entries_text unsure)
    ∙ ap (λ l. before ++ text ∷ l) (sym (map-append entries_text orders unsure)) in
    ap last_bound (same ∙ all) ∙ last_is none before text n (orders ++ unsure) is
