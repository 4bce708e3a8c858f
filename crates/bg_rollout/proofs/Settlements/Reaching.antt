-- How outcomes follow one another.
use Rattle.std.proofs.Common.{◌≡◌, ◌<◌, ◌≤◌, ◌+◌, ℕ, List, [], ◌∷◌, length, Option, Some, None, is_none, true, refl, sym, ap, ◌∙◌, subst, arith}
use Rattle.bg_history.specs.declared.entry.Entry.{Entry}
use Rattle.bg_history.specs.declared.entry.Entry.TheVariants as entry
use Rattle.bg_history.specs.declared.entry.Outcome.{Outcome}
use Rattle.bg_history.specs.Steps.{first_allowed, is_settled, Follows, with_outcomes}
use Rattle.bg_strategy.specs.declared.strategy.Strategy.{Strategy}
use Rattle.std.specs.Option.{option_or}
use Rattle.bg_history.specs.Promotion.{first_promotion}
use Rattle.bg_history_laws.specs.Work.{work}
use Rattle.bg_rollout.specs.Changes.{with_past}
use Rattle.bg_rollout.specs.Routing.{Routing}
use Rattle.bg_rollout.specs.PastState.{lists_of}
use Rattle.bg_rollout.specs.Settling.{Reached}
use Rattle.bg_rollout.specs.State.{state_of}

-- no outcome has been recorded yet
pub reached_none : (b : Routing) → b.lists ≡ lists_of b.past → b.running ≡ state_of b.strategy b.opening b.closed b.past → Reached b b 0
reached_none b lists running = record {
  outcomes = [];
  count_is = refl;
  follow = tt;
  now_is = ap (λ ls. record b { lists = ls }) lists ∙ ap (λ x. record b { lists = lists_of b.past; running = x }) running;
}

-- one more outcome was recorded
pub reached_more : (from now new : Routing) (n : ℕ) (x : Outcome) → Reached from now n → first_allowed now.strategy now.past ≡ Some x
    → new ≡ with_past now (entry.Outcome x ∷ now.past) now.seats → Reached from new (n + 1)
reached_more from now new n x reached first made =
    let allowed : first_allowed from.strategy (with_outcomes reached.outcomes from.past) ≡ Some x =
    subst (λ (b : Routing). first_allowed b.strategy b.past ≡ Some x) reached.now_is first in
    record {
      outcomes = x ∷ reached.outcomes;
      count_is = omega (arith, reached.count_is);
      follow = (reached.follow, allowed);
      now_is = made ∙ ap (λ (b : Routing). with_past b (entry.Outcome x ∷ b.past) b.seats) reached.now_is;
    }

-- there was a reserved place for it
pub place_left : (from now : Routing) (n spare left : ℕ) (x : Outcome) → Reached from now n → first_allowed now.strategy now.past ≡ Some x
    → ((outcomes : List Outcome) → Follows from.strategy outcomes from.past → length outcomes ≤ spare) → left + n ≡ spare → 1 ≤ left
place_left from now n spare left x reached first room sum =
    let allowed : first_allowed from.strategy (with_outcomes reached.outcomes from.past) ≡ Some x =
    subst (λ (b : Routing). first_allowed b.strategy b.past ≡ Some x) reached.now_is first in
    let most : length (x ∷ reached.outcomes) ≤ spare = room (x ∷ reached.outcomes) (reached.follow, allowed) in
    omega (arith, most, reached.count_is, sum)

-- each outcome reduces the work
pub work_left : (falls : (s : Strategy) (past : List Entry) (x : Outcome) → first_allowed s past ≡ Some x → work s (entry.Outcome x ∷ past) < work s past)
    → (now new : Routing) (x : Outcome) → first_allowed now.strategy now.past ≡ Some x → new ≡ with_past now (entry.Outcome x ∷ now.past) now.seats
    → work new.strategy new.past < work now.strategy now.past
work_left falls now new x first made = subst (λ (b : Routing). work b.strategy b.past < work now.strategy now.past) (sym made) (falls now.strategy now.past x first)

-- if no outcome is allowed, none is left undone
pub nothing_left : (b : Routing) → None ≡ first_allowed b.strategy b.past → is_settled b.strategy b.past ≡ true
nothing_left b none = rw (← none) refl

-- so the number of outcomes that follow is at most the work
pub follow_few : (falls : (s : Strategy) (past : List Entry) (x : Outcome) → first_allowed s past ≡ Some x → work s (entry.Outcome x ∷ past) < work s past)
    → (s : Strategy) (past : List Entry) (outcomes : List Outcome) → Follows s outcomes past → length outcomes + work s (with_outcomes outcomes past) ≤ work s past
follow_few falls s past [] follow = omega arith
follow_few falls s past (x ∷ earlier) follow =
    let before = follow_few falls s past earlier follow.0 in
    let less = falls s (with_outcomes earlier past) x follow.1 in
    omega (arith, before, less)

-- if no outcome is left undone, no step of an attempt is next
none_first : (a b : Option Outcome) → is_none (option_or a b) ≡ true → a ≡ None
none_first None b h = refl
none_first (Some x) b h = absurd (cc)

pub no_step_left : (s : Strategy) (past : List Entry) → is_settled s past ≡ true → first_promotion s past ≡ None
no_step_left s past settled = none_first (first_promotion s past) _ settled
