-- The book after an event and its outcomes.
use Rattle.std.proofs.Common.{◌≡◌, ◌≤◌, ◌+◌, ℕ, List, [], ◌∷◌, length, true, refl, ap, ◌∙◌, subst, arith}
use Rattle.bg_strategy.specs.declared.strategy.Strategy.{Strategy}
use Rattle.bg_history.specs.declared.entry.Entry.{Entry}
use Rattle.bg_history.specs.declared.entry.Outcome.{Outcome}
use Rattle.bg_history.specs.Requests.{open_requests}
use Rattle.bg_history.specs.Steps.{is_settled, Follows, with_outcomes}
use Rattle.bg_history_laws.specs.Work.{work}
use Rattle.bg_ledger.specs.declared.holding.Holding.{Holding}
use Rattle.bg_history.specs.declared.control.Control.{Control}
use Rattle.bg_history.specs.declared.control.Control.TheVariants.{Tick}
use Rattle.bg_rollout.specs.Changes.{with_past, Stepped}
use Rattle.bg_rollout.specs.Refusals.{all_open, event_of}
use Rattle.bg_rollout.specs.Routing.{Routing}
use Rattle.bg_rollout.specs.Settling.{Reached}

-- an event, and the outcomes after it
pub stepped_by : (b made new : Routing) (e : Entry) (seats : List Holding) (n : ℕ) → made ≡ with_past b (e ∷ b.past) seats → Reached made new n → is_settled new.strategy new.past ≡ true → Stepped b.strategy e b.past new.past n
stepped_by b made new e seats n event reached settled =
    let from : Reached (with_past b (e ∷ b.past) seats) new n = subst (λ (m : Routing). Reached m new n) event reached in
    let past : new.past ≡ with_outcomes from.outcomes (e ∷ b.past) = ap (λ (m : Routing). m.past) from.now_is in
    record {
      outcomes = from.outcomes;
      step = record {
        new_is = past;
        follow = from.follow;
        settled = subst (λ (m : Routing). is_settled m.strategy new.past ≡ true) from.now_is settled;
      };
      count_is = from.count_is;
    }

-- outcomes don't change the open requests
open_same : (outcomes : List Outcome) (past : List Entry) → open_requests (with_outcomes outcomes past) ≡ open_requests past
open_same [] past = refl
open_same (x ∷ earlier) past = open_same earlier past

length_more : (outcomes : List Outcome) (past : List Entry) → length (with_outcomes outcomes past) ≡ length outcomes + length past
length_more [] past = omega arith
length_more (x ∷ earlier) past = omega (arith, length_more earlier past)

-- so the number of open requests is the same, and the past has one more entry for each outcome
pub open_after : (from new : Routing) (n : ℕ) → Reached from new n → all_open new.past ≡ all_open from.past
open_after from new n reached = ap (λ (b : Routing). all_open b.past) reached.now_is ∙ ap length (open_same reached.outcomes from.past)

pub length_after : (from new : Routing) (n : ℕ) → Reached from new n → length new.past ≡ n + length from.past
length_after from new n reached = ap (λ (b : Routing). length b.past) reached.now_is ∙ length_more reached.outcomes from.past ∙ ap (λ (m : ℕ). m + length from.past) reached.count_is

pub limits_after : (from new : Routing) (n : ℕ) → Reached from new n → new.limits ≡ from.limits
limits_after from new n reached = ap (λ (b : Routing). b.limits) reached.now_is

-- the number of outcomes that follow is at most the work
pub reached_few : (few : (s : Strategy) (past : List Entry) (outcomes : List Outcome) → Follows s outcomes past → length outcomes ≤ work s past)
    → (from new : Routing) (n most : ℕ) → Reached from new n → work from.strategy from.past ≤ most → n ≤ most
reached_few few from new n most reached bound = omega (arith, few from.strategy from.past reached.outcomes reached.follow, bound, reached.count_is)

-- a control doesn't change the open requests
pub control_opens_none : (b : Routing) (c : Control) (past : List Entry) → all_open (event_of b c ∷ past) ≡ all_open past
control_opens_none b (Tick m) past = refl
control_opens_none b c past = refl
