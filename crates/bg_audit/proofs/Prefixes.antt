-- The oldest entries of a past.
use Rattle.std.proofs.Common.{◌≡◌, ◌≤◌, ◌+◌, ℕ, Bool, true, false, ◌&&◌, List, [], ◌∷◌, ◌++◌, length, reverse, take, drop, Some, refl, ap, sym, ◌∙◌, arith}
use Rattle.std.specs.Prelude.{slice_get, nat_le}
use Rattle.std.proofs.lemmas.Option.{slice_get_within, get_or_from_slice_get}
use Rattle.std.proofs.Math.Seq.{take-suc}
use Rattle.std.proofs.Math.Numerals.{add-one}
use Rattle.std.proofs.lemmas.List.{reverse-append, reverse-reverse, take-append-drop, take_all, length-reverse, length-take-le}
use Rattle.bg_strategy.specs.declared.strategy.Strategy.{Strategy}
use Rattle.bg_history.specs.declared.entry.Entry.{Entry}
use Rattle.bg_history.specs.declared.entry.Entry.TheVariants.{Enter, Leave}
use Rattle.bg_history.specs.Kept.{Opening}
use Rattle.bg_history.specs.Requests.{entered, request_numbers}
use Rattle.bg_history.specs.Allowed.{is_allowed}
use Rattle.bg_history.specs.Steps.{all_allowed, all_given}
use Rattle.bg_audit.specs.Openings.{oldest}
use Rattle.bg_audit.proofs.Tests.{and_parts}

-- one more of the oldest entries
pub oldest-next : (n : ℕ) (past : List Entry) (e : Entry) → slice_get (reverse past) n ≡ Some e → oldest (n + 1) past ≡ e ∷ oldest n past
oldest-next n past e is =
    ap (λ k. reverse (take k (reverse past))) (add-one n)
    ∙ ap (λ ys. reverse ys) (take-suc (reverse past) n e (slice_get_within (reverse past) n e is))
    ∙ ap (λ y. reverse (take n (reverse past) ++ y ∷ [])) (get_or_from_slice_get (reverse past) n e e is)
    ∙ reverse-append (take n (reverse past)) (e ∷ [])

-- the oldest entries are all entries
pub oldest-all : (n : ℕ) (past : List Entry) → length past ≤ n → oldest n past ≡ past
oldest-all n past all =
    ap (λ ys. reverse ys) (take_all n (reverse past) (omega (arith, length-reverse past))) ∙ reverse-reverse past

-- the number of oldest entries
pub oldest-length : (n : ℕ) (past : List Entry) → n ≤ length past → length (oldest n past) ≡ n
oldest-length n past le = length-reverse (take n (reverse past)) ∙ length-take-le n (reverse past) (omega (arith, length-reverse past))

-- the past is the newer entries, followed by the oldest ones
oldest-part : (n : ℕ) (past : List Entry) → past ≡ reverse (drop n (reverse past)) ++ oldest n past
oldest-part n past =
    sym (reverse-reverse past) ∙ ap (λ ys. reverse ys) (sym (take-append-drop n (reverse past))) ∙ reverse-append (take n (reverse past)) (drop n (reverse past))

allowed-part : (s : Strategy) (o : Opening) (later p : List Entry) → all_allowed s o (later ++ p) ≡ true → all_allowed s o p ≡ true
allowed-part s o [] p h = h
allowed-part s o (e ∷ later) p h = allowed-part s o later p (and_parts (is_allowed s o e (later ++ p)) _ h).1

no-test : (b : Bool) → (b ≡ true → true ≡ false) → b ≡ false
no-test true h = h refl
no-test false h = refl

-- if one entry isn't allowed, not all are
pub not-allowed : (s : Strategy) (o : Opening) (n : ℕ) (past : List Entry) (e : Entry) → slice_get (reverse past) n ≡ Some e → is_allowed s o e (oldest n past) ≡ false
    → all_allowed s o past ≡ false
not-allowed s o n past e is refused = no-test (all_allowed s o past) (λ h.
    let part : all_allowed s o (oldest (n + 1) past) ≡ true =
    allowed-part s o (reverse (drop (n + 1) (reverse past))) (oldest (n + 1) past) (sym (ap (all_allowed s o) (oldest-part (n + 1) past)) ∙ h) in
    sym (and_parts (is_allowed s o e (oldest n past)) _ (sym (ap (all_allowed s o) (oldest-next n past e is)) ∙ part)).0 ∙ refused)

given-part : (g : ℕ) (later p : List Entry) → all_given g (request_numbers (later ++ p)) ≡ true → all_given g (request_numbers p) ≡ true
given-part g [] p h = h
given-part g (Enter seat service number r port ∷ later) p h = given-part g later p (and_parts (nat_le 1 number && nat_le number g) _ h).1
given-part g (Leave seat number r ∷ later) p h = given-part g later p (and_parts (nat_le 1 number && nat_le number g) _ h).1
given-part g (_ ∷ later) p h = given-part g later p h

and-true : (a b : Bool) → a && b ≡ (a && true) && b
and-true true b = refl
and-true false b = refl

-- the numbers of one more entry
pub given-cons : (g : ℕ) (e : Entry) (p : List Entry) → all_given g (request_numbers (e ∷ p)) ≡ (all_given g (request_numbers (e ∷ [])) && all_given g (request_numbers p))
given-cons g (Enter seat service number r port) p = and-true (nat_le 1 number && nat_le number g) _
given-cons g (Leave seat number r) p = and-true (nat_le 1 number && nat_le number g) _
given-cons g _ p = refl

-- if one number isn't given, not all are
pub not-given : (g n : ℕ) (past : List Entry) (e : Entry) → slice_get (reverse past) n ≡ Some e → all_given g (request_numbers (e ∷ [])) ≡ false
    → all_given g (request_numbers past) ≡ false
not-given g n past e is refused = no-test (all_given g (request_numbers past)) (λ h.
    let part : all_given g (request_numbers (oldest (n + 1) past)) ≡ true =
    given-part g (reverse (drop (n + 1) (reverse past))) (oldest (n + 1) past) (sym (ap (λ p. all_given g (request_numbers p)) (oldest-part (n + 1) past)) ∙ h) in
    sym (and_parts (all_given g (request_numbers (e ∷ []))) _
    (sym (ap (λ p. all_given g (request_numbers p)) (oldest-next n past e is) ∙ given-cons g e (oldest n past)) ∙ part)).0 ∙ refused)

-- the number of Enters, with one more entry
pub entered-cons : (e : Entry) (p : List Entry) → entered (e ∷ p) ≡ entered (e ∷ []) + entered p
entered-cons (Enter seat service number r port) p = omega arith
entered-cons _ p = omega arith
