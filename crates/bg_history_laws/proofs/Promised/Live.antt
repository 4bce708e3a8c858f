-- Live requests reach only the first revision, or one that went live as the strategy requires.
use Rattle.std.proofs.Common.{◌≡◌, ◌≤◌, ℕ, Bool, true, false, not, cond, ◌==◌, ◌&&◌, ◌||◌, List, [], ◌∷◌, Option, Some, None, is_some, refl, arith, ap, sym, subst, ◌∙◌}
use Rattle.std.proofs.lemmas.Bool.Decides.{nat_tests}
use Rattle.bg_strategy.specs.declared.strategy.Strategy.{Strategy}
use Rattle.bg_revisions.specs.declared.revision.Service.TheVariants as service
use Rattle.bg_history.specs.declared.entry.Entry.{Entry}
use Rattle.bg_history.specs.declared.entry.Entry.TheVariants.{Tick, Deploy, Verdict, Retry, Enter, Outcome}
use Rattle.bg_history.specs.declared.entry.Outcome.TheVariants.{Ready, Resumed, Switched, Promoted}
use Rattle.bg_history.specs.declared.entry.Analysis.TheVariants.{Pre}
use Rattle.bg_history.specs.declared.entry.AnalysisResult.TheVariants.{Successful}
use Rattle.bg_history.specs.Kept.{Opening}
use Rattle.bg_history.specs.AttemptBounds.{moment, stable_of, is_halt, is_attempt_bound, is_running}
use Rattle.bg_history.specs.Attempts.{is_ready, has_ready, has_resumed, is_promote, has_promote, is_promote_full, has_promote_full, first_at, passes, pass_moment, is_passed}
use Rattle.bg_history.specs.Selections.{active_of}
use Rattle.bg_history.specs.Phases.{needs_pause}
use Rattle.bg_history.specs.Promotion.{attempts, waited, may_resume, may_switch}
use Rattle.bg_history.specs.Allowed.{may_enter, is_allowed}
use Rattle.bg_history.specs.Steps.{all_allowed}
use Rattle.bg_history_laws.specs.Live.{is_pre_success, has_pre_success, is_pause_over, may_go_live, is_tested, met_tested, switched_tested, OnlyTestedIsLive}
use Rattle.bg_history_laws.proofs.Tests.{and_parts, and_both, or_left, or_right, not_true, both_ways, equal_itself, equal_numbers}
use Rattle.bg_history_laws.proofs.Promised.Attempts.{promoted-step}
use Rattle.bg_history_laws.proofs.Reached.Allowing.{allowed_now, allowed_before, promoted-switched}
use Rattle.bg_history_laws.proofs.Reached.Running.{in_attempt-running}
use Rattle.bg_history_laws.proofs.Reached.Steady.{switched-active}

-- if there is a moment, there was one before or the test holds
first_at-some : (b : Bool) (at : ℕ) (kept : Option ℕ) → is_some (first_at b at kept) ≡ true → b || is_some kept ≡ true
first_at-some true at kept h = refl
first_at-some false at kept h = h

-- if an analysis is set, the attempt passes with the success of that analysis
passes-success : (s : Strategy) (e : Entry) (before : List Entry) → s.pre ≡ true → passes s e before ≡ true → (is_pre_success e ≡ true) × (is_running before ≡ true)
passes-success s (Outcome (Ready r)) before pre h = absurd (grind arith)
passes-success s (Verdict Pre Successful) before pre h = let ready : has_ready before ≡ true = grind arith in (refl, in_attempt-running is_ready before ready)
passes-success s e before pre h = absurd (cc)

-- so if an analysis is set, an attempt that has passed has its success
passed-success : (s : Strategy) (past : List Entry) → s.pre ≡ true → is_passed s past ≡ true → has_pre_success past ≡ true
passed-success s [] pre h = absurd (cc)
passed-success s (e ∷ before) pre h = go (is_attempt_bound e) h (passed-success s before pre) where
  go : (bound : Bool) → is_some (cond bound None (first_at (passes s e before) (moment before) (pass_moment s before))) ≡ true
      → (is_passed s before ≡ true → has_pre_success before ≡ true) → not bound && ((is_pre_success e && is_running before) || has_pre_success before) ≡ true
  go true h rest = absurd (cc)
  go false h rest = by-pass (passes s e before) refl (first_at-some (passes s e before) (moment before) (pass_moment s before) h) where
    by-pass : (b : Bool) → passes s e before ≡ b → b || is_passed s before ≡ true → (is_pre_success e && is_running before) || has_pre_success before ≡ true
    by-pass true is h =
        let both = passes-success s e before pre is in
        or_left (is_pre_success e && is_running before) (has_pre_success before) (and_both (is_pre_success e) (is_running before) both.0 both.1)
    by-pass false is h = or_right (is_pre_success e && is_running before) (has_pre_success before) (rest h)

-- a pause that was waited for belongs to an attempt that has passed
waited-some : (auto : Bool) (seconds now : ℕ) (at : Option ℕ) → waited auto seconds now at ≡ true → is_some at ≡ true
waited-some auto seconds now None h = absurd (cc)
waited-some auto seconds now (Some at) h = refl

-- an attempt that has passed has the success that the strategy requires
passed-asked : (s : Strategy) (past : List Entry) → is_passed s past ≡ true → not s.pre || has_pre_success past ≡ true
passed-asked s past h = go s.pre refl where
  go : (b : Bool) → s.pre ≡ b → not b || has_pre_success past ≡ true
  go true is = passed-success s past is h
  go false is = refl

-- an attempt that may be resumed may go live
resumes-live : (s : Strategy) (r : ℕ) (past : List Entry) → may_resume s r past ≡ true → may_go_live s past ≡ true
resumes-live s r past h = go (has_promote_full past) (is_passed s past) refl refl (and_parts (attempts r past && has_ready past && not (has_resumed past)) _ h).1 where
  go : (full passed : Bool) → has_promote_full past ≡ full → is_passed s past ≡ passed
      → full || (passed && not (needs_pause s)) || (passed && has_promote past) || waited s.auto_promotion s.auto_seconds (moment past) (pass_moment s past) ≡ true
      → may_go_live s past ≡ true
  go true passed is was h = or_left (has_promote_full past) _ is
  go false true is was h = or_right (has_promote_full past) _ (and_both _ (is_pause_over s past) (passed-asked s past was) h)
  go false false is was h = both_ways (is_passed s past) (waited-some s.auto_promotion s.auto_seconds (moment past) (pass_moment s past) h) was

-- a pause that is over stays over
waited-more : (auto : Bool) (seconds now later : ℕ) (at : Option ℕ) (b : Bool) (m : ℕ) → now ≤ later → waited auto seconds now at ≡ true → waited auto seconds later (first_at b m at) ≡ true
waited-more auto seconds now later None b m le h = absurd (cc)
waited-more auto seconds now later (Some at) true m le h = grind (arith, nat_tests)
waited-more auto seconds now later (Some at) false m le h = grind (arith, nat_tests)

-- if an attempt may go live, it may go live after an entry that is no bound
live-more : (s : Strategy) (e : Entry) (before : List Entry) → is_attempt_bound e ≡ false → moment before ≤ moment (e ∷ before) → may_go_live s before ≡ true → may_go_live s (e ∷ before) ≡ true
live-more s e before bound le h =
    rw bound (go (is_promote_full e && is_running before) (is_pre_success e && is_running before) (is_promote e && is_running before) (has_promote_full before) (has_pre_success before) (has_promote before)
    (waited s.auto_promotion s.auto_seconds (moment before) (pass_moment s before))
    (waited s.auto_promotion s.auto_seconds (moment (e ∷ before)) (first_at (passes s e before) (moment before) (pass_moment s before)))
    (waited-more s.auto_promotion s.auto_seconds (moment before) (moment (e ∷ before)) (pass_moment s before) (passes s e before) (moment before) le) h) where
      go : (a b c full success promote w v : Bool) → (w ≡ true → v ≡ true) → full || ((not s.pre || success) && (not (needs_pause s) || promote || w)) ≡ true
          → (a || full) || ((not s.pre || (b || success)) && (not (needs_pause s) || (c || promote) || v)) ≡ true
      go a b c full success promote true v f h = let k : v ≡ true = f refl in grind arith
      go a b c full success promote false v f h = grind arith

-- a tick goes to no earlier moment
tick-later : (s : Strategy) (o : Opening) (m : ℕ) (before : List Entry) → is_allowed s o (Tick m) before ≡ true → moment before ≤ m
tick-later s o m before h = grind (arith, nat_tests)

-- an attempt that was resumed may go live
resumed-live : (s : Strategy) (o : Opening) (past : List Entry) → all_allowed s o past ≡ true → has_resumed past ≡ true → may_go_live s past ≡ true
resumed-live s o [] a h = absurd (cc)
resumed-live s o (Outcome (Resumed r) ∷ before) a h = live-more s (Outcome (Resumed r)) before refl (omega arith) (resumes-live s r before (allowed_now s o (Outcome (Resumed r)) before a))
resumed-live s o (Tick m ∷ before) a h = live-more s (Tick m) before refl (tick-later s o m before (allowed_now s o (Tick m) before a)) (resumed-live s o before (allowed_before s o (Tick m) before a) h)
resumed-live s o (Deploy r name ports ∷ before) a h = absurd (cc)
resumed-live s o (Retry ∷ before) a h = absurd (cc)
resumed-live s o (Outcome (Promoted r) ∷ before) a h = absurd (cc)
resumed-live s o (e ∷ before) a h =
    let parts = and_parts (not (is_halt e)) (has_resumed before) h in
    live-more s e before (not_true (is_halt e) parts.0) (omega arith) (resumed-live s o before (allowed_before s o e before a) parts.1)

-- so a switch comes in an attempt that may go live
switches-live : (s : Strategy) (o : Opening) (r : ℕ) (past : List Entry) → all_allowed s o past ≡ true → may_switch s r past ≡ true → may_go_live s past ≡ true
switches-live s o r past a h = let resumed : has_resumed past ≡ true = grind (arith, nat_tests) in resumed-live s o past a resumed

-- a tested revision stays tested
tested-more : (s : Strategy) (r : ℕ) (e : Entry) (before : List Entry) → is_tested s r before ≡ true → is_tested s r (e ∷ before) ≡ true
tested-more s r (Outcome (Switched q)) before h = grind arith
tested-more s r e before h = h

-- a switch makes its revision tested
tested-now : (s : Strategy) (r : ℕ) (before : List Entry) → may_go_live s before ≡ true → is_tested s r (Outcome (Switched r) ∷ before) ≡ true
tested-now s r before h = rw (equal_itself r, h) (or_right (r == 1) true refl)

-- the active and the stable revision were tested
record AreTested (s : Strategy) (past : List Entry) : Type 0 where
  active : is_tested s (active_of past) past ≡ true
  stable : is_tested s (stable_of past) past ≡ true

-- the case in which both stay the same
tested-kept : (s : Strategy) (e : Entry) (before : List Entry) → AreTested s before → active_of (e ∷ before) ≡ active_of before → stable_of (e ∷ before) ≡ stable_of before
    → AreTested s (e ∷ before)
tested-kept s e before h active stable = record {
  active = subst (λ (r : ℕ). is_tested s r (e ∷ before) ≡ true) (sym active) (tested-more s (active_of before) e before h.active);
  stable = subst (λ (r : ℕ). is_tested s r (e ∷ before) ≡ true) (sym stable) (tested-more s (stable_of before) e before h.stable);
}

-- the case in which the active service goes back
tested-back : (s : Strategy) (e : Entry) (before : List Entry) → AreTested s before → active_of (e ∷ before) ≡ stable_of before → stable_of (e ∷ before) ≡ stable_of before
    → AreTested s (e ∷ before)
tested-back s e before h active stable = record {
  active = subst (λ (r : ℕ). is_tested s r (e ∷ before) ≡ true) (sym active) (tested-more s (stable_of before) e before h.stable);
  stable = subst (λ (r : ℕ). is_tested s r (e ∷ before) ≡ true) (sym stable) (tested-more s (stable_of before) e before h.stable);
}

tested-deployed : (s : Strategy) (r : ℕ) (name ports : List ℕ) (before : List Entry) → AreTested s before → AreTested s (Deploy r name ports ∷ before)
tested-deployed s r name ports before h = go (r == stable_of before) refl where
  go : (b : Bool) → (r == stable_of before) ≡ b → AreTested s (Deploy r name ports ∷ before)
  go true is = tested-back s (Deploy r name ports) before h (ap (λ b. cond b r (active_of before)) is ∙ equal_numbers r (stable_of before) is) refl
  go false is = tested-kept s (Deploy r name ports) before h (ap (λ b. cond b r (active_of before)) is) refl

are-tested : (s : Strategy) (o : Opening) (past : List Entry) → all_allowed s o past ≡ true → AreTested s past
are-tested s o [] a = record { active = refl; stable = refl }
are-tested s o (Deploy r name ports ∷ before) a = tested-deployed s r name ports before (are-tested s o before (allowed_before s o (Deploy r name ports) before a))
are-tested s o (Outcome (Switched r) ∷ before) a =
    let earlier = allowed_before s o (Outcome (Switched r)) before a in
    let h = are-tested s o before earlier in
    record {
      active = tested-now s r before (switches-live s o r before earlier (allowed_now s o (Outcome (Switched r)) before a));
      stable = tested-more s (stable_of before) (Outcome (Switched r)) before h.stable;
    }
are-tested s o (Outcome (Promoted r) ∷ before) a =
    let earlier = allowed_before s o (Outcome (Promoted r)) before a in
    let may = allowed_now s o (Outcome (Promoted r)) before a in
    let h = are-tested s o before earlier in
    let same : active_of before ≡ r = switched-active s o before earlier (promoted-switched s r before may) ∙ sym (promoted-step s r before may).newest in
    record {
      active = h.active;
      stable = subst (λ (k : ℕ). is_tested s k before ≡ true) same h.active;
    }
are-tested s o (e ∷ before) a =
    let h = are-tested s o before (allowed_before s o e before a) in record { active = active (is_halt e) h; stable = h.stable } where
      active : (halt : Bool) → AreTested s before → is_tested s (cond halt (stable_of before) (active_of before)) before ≡ true
      active true h = h.stable
      active false h = h.active

-- each switch came in an attempt that might go live
all-switched : (s : Strategy) (o : Opening) (past : List Entry) → all_allowed s o past ≡ true → switched_tested s past ≡ true
all-switched s o [] a = refl
all-switched s o (Outcome (Switched r) ∷ before) a =
    let earlier = allowed_before s o (Outcome (Switched r)) before a in
    and_both (may_go_live s before) (switched_tested s before) (switches-live s o r before earlier (allowed_now s o (Outcome (Switched r)) before a)) (all-switched s o before earlier)
all-switched s o (e ∷ before) a = all-switched s o before (allowed_before s o e before a)

-- a request that enters at the active service gets the active revision
enters-active : (s : Strategy) (o : Opening) (seat number r port : ℕ) (before : List Entry) → may_enter s o seat service.Active number r port before ≡ true → active_of before ≡ r
enters-active s o seat number r port before h = grind (arith, nat_tests)

all-met : (s : Strategy) (o : Opening) (past : List Entry) → all_allowed s o past ≡ true → met_tested s past ≡ true
all-met s o [] a = refl
all-met s o (Enter seat service.Active number r port ∷ before) a =
    let earlier = allowed_before s o (Enter seat service.Active number r port) before a in
    let same = enters-active s o seat number r port before (allowed_now s o (Enter seat service.Active number r port) before a) in
    and_both (is_tested s r before) (met_tested s before) (subst (λ (k : ℕ). is_tested s k before ≡ true) same (are-tested s o before earlier).active) (all-met s o before earlier)
all-met s o (e ∷ before) a = all-met s o before (allowed_before s o e before a)

pub only-tested : (s : Strategy) (o : Opening) (past : List Entry) → all_allowed s o past ≡ true → OnlyTestedIsLive s past
only-tested s o past a =
    let tested = are-tested s o past a in
    record { active = tested.active; stable = tested.stable; switches = all-switched s o past a; requests = all-met s o past a }

-- if an analysis is set, it succeeded or the attempt was fully promoted
pub live-tested : (s : Strategy) (past : List Entry) → s.pre ≡ true → may_go_live s past ≡ true → has_pre_success past || has_promote_full past ≡ true
live-tested s past pre h = grind arith

-- if promotion isn't automatic, an operator has promoted the attempt
pub live-by_hand : (s : Strategy) (past : List Entry) → s.auto_promotion ≡ false → may_go_live s past ≡ true → has_promote past || has_promote_full past ≡ true
live-by_hand s past auto h =
    go (waited s.auto_promotion s.auto_seconds (moment past) (pass_moment s past)) (never (pass_moment s past)) h where
      never : (at : Option ℕ) → waited s.auto_promotion s.auto_seconds (moment past) at ≡ false
      never None = refl
      never (Some at) = rw auto refl

      go : (w : Bool) → w ≡ false → has_promote_full past || ((not s.pre || has_pre_success past) && (not (needs_pause s) || has_promote past || w)) ≡ true
          → has_promote past || has_promote_full past ≡ true
      go true is h = absurd (cc)
      go false is h = grind arith
