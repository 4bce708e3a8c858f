-- One settled past follows an event, and only one.
use Rattle.std.proofs.Common.{◌≡◌, ◌<◌, ◌≤◌, ℕ, zero, suc, true, List, [], ◌∷◌, length, Option, Some, None, is_none, refl, arith, sym, ap, ◌∙◌, inl, inr}
use Rattle.std.proofs.lemmas.Bool.Decides.{nat_tests, eqb_tells}
use Rattle.bg_history.specs.declared.entry.Entry.{Entry}
use Rattle.bg_history.specs.declared.entry.Entry.TheVariants.{Outcome}
use Rattle.bg_history.specs.declared.entry.Outcome as outcome
use Rattle.bg_strategy.specs.declared.strategy.Strategy.{Strategy}
use Rattle.bg_history.specs.Sizes.{existing, Ascends}
use Rattle.bg_history.specs.Steps.{first_allowed, is_settled, with_outcomes, Follows, Step}
use Rattle.bg_history_laws.specs.Settling.{Settling}
use Rattle.bg_history_laws.specs.Work.{work}
use Rattle.bg_history_laws.proofs.Ended.Work.{work-falls}

-- an option has at most one value
same-found : (o : Option outcome.Outcome) (x y : outcome.Outcome) → o ≡ Some x → o ≡ Some y → x ≡ y
same-found o x y h k = cc

-- an option with a value isn't none
none-found : (o : Option outcome.Outcome) (x : outcome.Outcome) → o ≡ Some x → is_none o ≡ true → ⊥
none-found None x h k = cc
none-found (Some y) x h k = cc

-- two lists of the same number of outcomes that follow from one past are the same
same-many : (s : Strategy) (past : List Entry) (xs ys : List outcome.Outcome) → Follows s xs past → Follows s ys past → length xs ≡ length ys → xs ≡ ys
same-many s past [] [] f g same = refl
same-many s past [] (y ∷ ys) f g same = absurd (omega arith)
same-many s past (x ∷ xs) [] f g same = absurd (omega arith)
same-many s past (x ∷ xs) (y ∷ ys) f g same =
    let rest : xs ≡ ys = same-many s past xs ys f.0 g.0 (omega arith) in
    let here : x ≡ y = same-found (first_allowed s (with_outcomes xs past)) x y f.1 (ap (λ zs. first_allowed s (with_outcomes zs past)) rest ∙ g.1) in
    cc

-- no outcome follows after those with which none is left undone
no-more : (s : Strategy) (past : List Entry) (xs ys : List outcome.Outcome) → Follows s xs past → is_settled s (with_outcomes xs past) ≡ true → Follows s ys past → length ys ≤ length xs
no-more s past xs [] f settled g = omega arith
no-more s past xs (y ∷ ys) f settled g =
    let most : length ys ≤ length xs = no-more s past xs ys f settled g.0 in
    elim (eqb_tells (length ys) (length xs)) [
      | inl h ↦
          let is : ys ≡ xs = same-many s past ys xs g.0 f h.1 in
          absurd (none-found (first_allowed s (with_outcomes xs past)) y (ap (λ zs. first_allowed s (with_outcomes zs past)) (sym is) ∙ g.1) settled)
      | inr h ↦ grind (arith, nat_tests, h.0, most)
    ]

-- so two settled pasts that follow one event are the same
pub step-once : (s : Strategy) (e : Entry) (past : List Entry) (xs ys : List outcome.Outcome) (new other : List Entry) → Step s e past xs new → Step s e past ys other → (xs ≡ ys) × (new ≡ other)
step-once s e past xs ys new other p q =
    let settled : is_settled s (with_outcomes xs (e ∷ past)) ≡ true = ap (is_settled s) (sym p.new_is) ∙ p.settled in
    let other_settled : is_settled s (with_outcomes ys (e ∷ past)) ≡ true = ap (is_settled s) (sym q.new_is) ∙ q.settled in
    let more : length ys ≤ length xs = no-more s (e ∷ past) xs ys p.follow settled q.follow in
    let fewer : length xs ≤ length ys = no-more s (e ∷ past) ys xs q.follow other_settled p.follow in
    let same : xs ≡ ys = same-many s (e ∷ past) xs ys p.follow q.follow (omega arith) in
    (same, p.new_is ∙ ap (λ zs. with_outcomes zs (e ∷ past)) same ∙ sym q.new_is)

-- outcomes after which no allowed outcome is left undone
record Ended (s : Strategy) (past : List Entry) : Type 0 where
  outcomes : List outcome.Outcome
  follow : Follows s outcomes past
  settled : is_settled s (with_outcomes outcomes past) ≡ true

-- the outcomes come to an end, because each reduces the work
ended : ((past : List Entry) → Ascends (existing past)) → (n : ℕ) (s : Strategy) (past : List Entry) (xs : List outcome.Outcome) → Follows s xs past → work s (with_outcomes xs past) < n → Ended s past
ended ascends zero s past xs f less = absurd (omega arith)
ended ascends (suc n) s past xs f less =
    go (first_allowed s (with_outcomes xs past)) refl
    (λ x is.
    let falls : work s (Outcome x ∷ with_outcomes xs past) < work s (with_outcomes xs past) = work-falls s (with_outcomes xs past) x (ascends (with_outcomes xs past)) is in
    ended ascends n s past (x ∷ xs) (f, is) (omega arith)) where
      go : (o : Option outcome.Outcome) → first_allowed s (with_outcomes xs past) ≡ o
          → ((x : outcome.Outcome) → first_allowed s (with_outcomes xs past) ≡ Some x → Ended s past) → Ended s past
      go None is more = record { outcomes = xs; follow = f; settled = ap is_none is }
      go (Some x) is more = more x is

-- an event is followed by a settled past
pub settles : ((past : List Entry) → Ascends (existing past)) → (s : Strategy) (e : Entry) (past : List Entry) → Settling s e past
settles ascends s e past =
    let end : Ended s (e ∷ past) = ended ascends (suc (work s (e ∷ past))) s (e ∷ past) [] tt (omega arith) in
    record {
      outcomes = end.outcomes;
      new = with_outcomes end.outcomes (e ∷ past);
      step = record { new_is = refl; follow = end.follow; settled = end.settled };
    }
