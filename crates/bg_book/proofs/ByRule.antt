-- In every legal history, only the documented rule moves the active service.
use Rattle.std.proofs.Common.{◌≡◌, ℕ, Bool, true, false, cond, ◌==◌, ◌&&◌, ◌||◌, List, [], ◌∷◌, refl, ap, ◌∙◌}
use Rattle.bg_strategy.specs.declared.strategy.Strategy.{Strategy}
use Rattle.bg_history.specs.declared.entry.Entry.{Entry}
use Rattle.bg_history.specs.declared.entry.Entry.TheVariants.{Deploy, Outcome}
use Rattle.bg_history.specs.declared.entry.Outcome.TheVariants.{Switched}
use Rattle.bg_history.specs.Kept.{Opening}
use Rattle.bg_history.specs.AttemptBounds.{stable_of, is_halt}
use Rattle.bg_history.specs.Selections.{active_of}
use Rattle.bg_history.specs.Allowed.{is_allowed}
use Rattle.bg_history.specs.Steps.{all_allowed}
use Rattle.bg_book.specs.Headline.{switches_by_rule, may_go_back, moves_by_rule, is_reached_by_rule}
use Rattle.bg_book.proofs.Tests.{and_parts, and_both, eq_refl, eq_from}

or_true : (a : Bool) → (a || true) ≡ true
or_true true = refl
or_true false = refl

-- the active service keeps its revision
stays : (s : Strategy) (e : Entry) (before : List Entry) → active_of (e ∷ before) ≡ active_of before → moves_by_rule s e before ≡ true
stays s e before same =
    ap (λ (n : ℕ). (n == active_of before) || switches_by_rule s e before || (may_go_back e before && (active_of (e ∷ before) == stable_of before))) same
    ∙ ap (λ b. b || switches_by_rule s e before || (may_go_back e before && (active_of (e ∷ before) == stable_of before))) (eq_refl (active_of before))

-- the active service goes back to the stable revision
returns_to_stable : (s : Strategy) (e : Entry) (before : List Entry) → may_go_back e before ≡ true → active_of (e ∷ before) ≡ stable_of before → moves_by_rule s e before ≡ true
returns_to_stable s e before back same =
    ap (λ b. (active_of (e ∷ before) == active_of before) || switches_by_rule s e before || b)
    (and_both (may_go_back e before) (active_of (e ∷ before) == stable_of before) back (ap (λ (n : ℕ). n == stable_of before) same ∙ eq_refl (stable_of before)))
    ∙ or_true ((active_of (e ∷ before) == active_of before) || switches_by_rule s e before)

-- the active service switches by the rule
switches : (s : Strategy) (e : Entry) (before : List Entry) → switches_by_rule s e before ≡ true → moves_by_rule s e before ≡ true
switches s e before allowed =
    ap (λ b. (active_of (e ∷ before) == active_of before) || b || (may_go_back e before && (active_of (e ∷ before) == stable_of before))) allowed
    ∙ ap (λ b. b || (may_go_back e before && (active_of (e ∷ before) == stable_of before))) (or_true (active_of (e ∷ before) == active_of before))

deploys : (s : Strategy) (r : ℕ) (name ports : List ℕ) (before : List Entry) (b : Bool) → (r == stable_of before) ≡ b → moves_by_rule s (Deploy r name ports) before ≡ true
deploys s r name ports before true e =
    returns_to_stable s (Deploy r name ports) before e (ap (λ b. cond b r (active_of before)) e ∙ eq_from r (stable_of before) e)
deploys s r name ports before false e = stays s (Deploy r name ports) before (ap (λ b. cond b r (active_of before)) e)

-- the active service goes back if it may, else it keeps its revision
returns_or_stays : (s : Strategy) (e : Entry) (before : List Entry) (back : Bool) → may_go_back e before ≡ back → active_of (e ∷ before) ≡ cond back (stable_of before) (active_of before)
    → moves_by_rule s e before ≡ true
returns_or_stays s e before true may same = returns_to_stable s e before may same
returns_or_stays s e before false may same = stays s e before same

pub moves : (s : Strategy) (o : Opening) (e : Entry) (before : List Entry) → is_allowed s o e before ≡ true → moves_by_rule s e before ≡ true
moves s o (Deploy r name ports) before h = deploys s r name ports before (r == stable_of before) refl
moves s o (Outcome (Switched r)) before h = switches s (Outcome (Switched r)) before h
moves s o e before h = returns_or_stays s e before (is_halt e) refl refl

-- each entry of a legal history moves the active service by the rule or doesn't move it
pub reached_by_rule : (s : Strategy) (o : Opening) (past : List Entry) → all_allowed s o past ≡ true → is_reached_by_rule s past ≡ true
reached_by_rule s o [] h = refl
reached_by_rule s o (e ∷ before) h =
    let both = and_parts (is_allowed s o e before) (all_allowed s o before) h in
    and_both (moves_by_rule s e before) (is_reached_by_rule s before) (moves s o e before both.0) (reached_by_rule s o before both.1)
