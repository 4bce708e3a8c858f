-- What compaction keeps of a past.
use Rattle.std.proofs.Common.{◌≡◌, ℕ, ◌+◌, Bool, true, ◌&&◌, nat_le, List, [], ◌∷◌, ◌++◌, length, sum, is_none, subst, refl, ap, sym, ◌∙◌}
use Rattle.bg_history.specs.declared.entry.Entry.{Entry}
use Rattle.bg_history.specs.declared.entry.Outcome as outcome
use Rattle.bg_strategy.specs.declared.strategy.Strategy.{Strategy}
use Rattle.bg_history.specs.Kept.{Opening}
use Rattle.bg_history.specs.AttemptBounds.{moment}
use Rattle.bg_history_laws.specs.Alike.{Alike}
use Rattle.bg_history.specs.Requests.{request_numbers, given, calls_of}
use Rattle.bg_history.specs.Steps.{all_allowed, all_given, IsLegal, is_settled, Step, with_outcomes}
use Rattle.bg_history.specs.Compacted.{left_numbers, is_among, without, compacted, raised, closed_after}
use Rattle.bg_history_laws.specs.Compaction.{Same, Answers, Compacts, Commutes, enters_anew}
use Rattle.bg_history_laws.proofs.Compacted.Alike.{alike_then}
use Rattle.bg_history_laws.proofs.Compacted.Without.{without-moment, without-alike}
use Rattle.bg_history_laws.proofs.Compacted.Thin.{thin-moment, thin-alike, thin-open, thin-numbers, thin-entered, thin-calls}
use Rattle.bg_history_laws.proofs.Compacted.Allowed.{without-numbers}
use Rattle.bg_history_laws.proofs.Compacted.Legal.{without-allowed, thin-allowed}
use Rattle.bg_history_laws.proofs.Compacted.Closed.{compacted-open, none-left, all-among}
use Rattle.bg_history_laws.proofs.Compacted.Counts.{raised-length, raised-given, raised-calls}
use Rattle.bg_history_laws.proofs.Compacted.Same.{same_both, same_outcomes, same_follows, first-same}
use Rattle.bg_history_laws.proofs.Compacted.Questions.{attempted, preview-same, steady-same, scaling-same, awaits_pre-same, paused-same, sizing-same, awaits_post-same, deadline-same, due-same, namesake-same, selection-same}
use Rattle.bg_history_laws.proofs.Compacted.Commuting.{commuting, outcomes-front, front-apart}
use Rattle.bg_history_laws.proofs.Compacted.Raising.{commuting-closed}

gone_of : List Entry → ℕ → Bool
gone_of past = is_among (left_numbers past)

pub compacted-same : (s : Strategy) (o : Opening) (past : List Entry) → all_allowed s o past ≡ true → Same s o past (compacted past)
compacted-same s o past h =
    let g : ℕ → Bool = is_among (left_numbers past) in
    record {
      alike = alike_then (without-alike s o g past) (thin-alike s o (without g past));
      now = without-moment g past ∙ thin-moment (without g past);
      held = sym (compacted-open s o past h);
    }

pub compacted-allowed : (s : Strategy) (o : Opening) (past : List Entry) → all_allowed s o past ≡ true → all_allowed s o (compacted past) ≡ true
compacted-allowed s o past h =
    let g : ℕ → Bool = is_among (left_numbers past) in
    thin-allowed s o (without g past) (without-allowed s o g past h)

pub compacted-given : (s : Strategy) (o : Opening) (closed : List ℕ) (past : List Entry) → length closed ≡ o.seats → all_allowed s o past ≡ true
    → given (closed_after past closed) (compacted past) ≡ given closed past
compacted-given s o closed past count h =
    let g : ℕ → Bool = is_among (left_numbers past) in
    ap (λ t. t + sum (raised g past closed)) (thin-entered (without g past)) ∙ raised-given s o g closed past count h

pub compacted-calls : (s : Strategy) (o : Opening) (closed : List ℕ) (past : List Entry) → length closed ≡ o.seats → all_allowed s o past ≡ true
    → (i : ℕ) → calls_of (closed_after past closed) i (compacted past) ≡ calls_of closed i past
compacted-calls s o closed past count h i =
    let g : ℕ → Bool = is_among (left_numbers past) in
    let same = compacted-open s o past h in
    rw (thin-calls i (without g past))
    (raised-calls s o g closed i past count h (without-allowed s o g past h) (none-left g past (all-among (left_numbers past))) (sym (thin-open (without g past)) ∙ same))

pub compacted-legal : (s : Strategy) (o : Opening) (closed : List ℕ) (past : List Entry) → IsLegal s o closed past → IsLegal s o (closed_after past closed) (compacted past)
compacted-legal s o closed past h =
    let g : ℕ → Bool = is_among (left_numbers past) in
    record {
      opening = h.opening;
      seats = raised-length g past closed ∙ h.seats;
      allowed = compacted-allowed s o past h.allowed;
      numbers =
          ap (λ t. all_given t (request_numbers (compacted past))) (compacted-given s o closed past h.seats h.allowed)
          ∙ ap (λ t. all_given (given closed past) t) (thin-numbers (without g past))
          ∙ without-numbers g (λ n. nat_le 1 n && nat_le n (given closed past)) past h.numbers;
    }

-- pasts that are alike give the same answers at one moment
pub answers-alike : (s : Strategy) (o : Opening) (a b : List Entry) → Alike s o a b → moment a ≡ moment b → Answers s o a b
answers-alike s o a b h now = record {
  attempted = attempted h;
  preview = preview-same h;
  steady = steady-same h;
  scaling = scaling-same h;
  pre = awaits_pre-same h;
  paused = paused-same h;
  sizing = sizing-same h;
  post = awaits_post-same h;
  due_at = λ r. deadline-same r h;
  due = λ r. due-same r h now;
  namesake_is = λ name. namesake-same name h;
  selected = λ v. selection-same v h;
}

answers : (s : Strategy) (o : Opening) (a b : List Entry) → Same s o a b → Answers s o a b
answers s o a b h = answers-alike s o a b h.alike h.now

pub compacts : (s : Strategy) (o : Opening) (closed : List ℕ) (past : List Entry) → IsLegal s o closed past → Compacts s o closed past
compacts s o closed past h = record {
  legal = compacted-legal s o closed past h;
  same = compacted-same s o past h.allowed;
  answers = answers s o past (compacted past) (compacted-same s o past h.allowed);
  given = compacted-given s o closed past h.seats h.allowed;
  calls = compacted-calls s o closed past h.seats h.allowed;
  first = sym (first-same (compacted-same s o past h.allowed));
}

pub settled-stays : (s : Strategy) (o : Opening) (past : List Entry) → all_allowed s o past ≡ true → is_settled s past ≡ true → is_settled s (compacted past) ≡ true
settled-stays s o past h k = ap is_none (sym (first-same (compacted-same s o past h))) ∙ k

pub commutes : (s : Strategy) (o : Opening) (closed : List ℕ) (e : Entry) (past : List Entry) (outcomes : List outcome.Outcome) (new : List Entry)
    → all_allowed s o past ≡ true → enters_anew e past ≡ true → Step s e past outcomes new → Commutes s o closed e past outcomes new
commutes s o closed e past outcomes new was anew step =
    let same : Same s o (e ∷ past) (e ∷ compacted past) = same_both e (compacted-same s o past was) in
    let front : with_outcomes outcomes (e ∷ compacted past) ≡ with_outcomes outcomes (e ∷ []) ++ compacted past = outcomes-front outcomes e (compacted past) in
    let new_is : with_outcomes outcomes (e ∷ []) ++ past ≡ new = sym (step.new_is ∙ outcomes-front outcomes e past) in
    let apart = front-apart outcomes e past anew in
    let alike : Same s o new (with_outcomes outcomes (e ∷ compacted past)) =
    subst (λ p. Same s o p (with_outcomes outcomes (e ∷ compacted past))) (sym step.new_is) (same_outcomes outcomes same) in
    record {
      step = record {
        new_is = refl;
        follow = same_follows outcomes same step.follow;
        settled = ap is_none (sym (first-same (same_outcomes outcomes same))) ∙ (ap (is_settled s) (sym step.new_is) ∙ step.settled);
      };
      same = alike;
      answers = answers s o new (with_outcomes outcomes (e ∷ compacted past)) alike;
      past_is = ap compacted front ∙ commuting (with_outcomes outcomes (e ∷ [])) past apart ∙ ap compacted new_is;
      closed_is =
          ap (λ p. closed_after p (closed_after past closed)) front
          ∙ commuting-closed (with_outcomes outcomes (e ∷ [])) past closed apart
          ∙ ap (λ p. closed_after p closed) new_is;
    }

pub past-once : (past : List Entry) → compacted (compacted past) ≡ compacted past
past-once past = commuting [] past refl
