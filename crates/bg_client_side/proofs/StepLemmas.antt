-- What each call makes of a connection.
use Rattle.std.proofs.Common.{◌≡◌, ◌∙◌, ℕ, ◌≤◌, Bool, true, false, cond, ◌&&◌, nat_le, nat_lt, List, [], ◌++◌, inr, refl, sym, ap, subst, arith, append-nil, Option}
use Rattle.bg_http.specs.declared.persistence.Persistence.{Persistence}
use Rattle.bg_http.specs.declared.request.Request.{Request}
use Rattle.bg_client_side.specs.Outgoing.{Outgoing}
use Rattle.bg_client_side.proofs.PassingSteps.{begins_step, cuts_step, passes_step}
use Rattle.bg_client_side.proofs.ReadSteps.{feeds_step, continues_step}
use Rattle.bg_client_side.proofs.Steps.{Step, stage_step, no_later_than_left, left_step, quiet_step, leaves_if}
use Rattle.bg_client_side.proofs.WriteSteps.{writes_step}
use Rattle.bg_client_side.specs.Clients.{Client, answered, answering, at, discarded_at, failed_at, left, taken}
use Rattle.bg_client_side.specs.Facts.{later}
use Rattle.bg_client_side.specs.Runs.{Calls, ClientCall, answers, answers_by, asked_by, begins_closing, begins_passing_on, continues, count_if, cuts, discards, ends_input, fails, feeds, given_by, looks, passes_on, takes, writes, written_by}
use Rattle.bg_client_side.specs.Stages.{awaits_answer, has_timeout, is_idle, is_inside, rank, takes_bytes, to_write, waiting_request}
use Rattle.bg_client_side.specs.declared.stage.Lingering.{Lingering}
use Rattle.bg_client_side.specs.declared.stage.Stage.TheVariants as stage
use Rattle.bg_client_side.specs.declared.stage.Stage.{Stage}

takes_step : (old new : Client) (request : Option Request) → Calls old (takes request) new → Step old (takes request) new
takes_step old new request is =
    subst (Step old (takes request)) (sym (is.1 ∙ ap (λ r. taken r old) is.0)) (go old.stage refl) where
      go : (s : Stage) → old.stage ≡ s → Step old (takes request) (taken (waiting_request s) old)
      go stage.Idle at_is = quiet_step old (takes request) refl refl refl refl
      go stage.Reading at_is = quiet_step old (takes request) refl refl refl refl
      go stage.Continuing at_is = quiet_step old (takes request) refl refl refl refl
      go (stage.Waiting waits) at_is =
          let nothing = ap to_write at_is in
          let awaits = ap (λ t. count_if (awaits_answer t)) at_is in
          let early = ap rank at_is in
          stage_step old (at stage.Inside old) (takes request) stage.Inside refl refl refl refl (sym nothing)
          (omega (arith, awaits)) (omega (arith, early))
      go stage.Inside at_is = quiet_step old (takes request) refl refl refl refl
      go (stage.PassingOn passing) at_is = quiet_step old (takes request) refl refl refl refl
      go (stage.Refused named) at_is = quiet_step old (takes request) refl refl refl refl
      go (stage.Answering answering) at_is = quiet_step old (takes request) refl refl refl refl
      go (stage.Lingering lingering) at_is = quiet_step old (takes request) refl refl refl refl
      go stage.Left at_is = quiet_step old (takes request) refl refl refl refl

-- an answer is awaited
awaiting : (s : Stage) → awaits_answer s ≡ true → (to_write s ≡ []) × (rank s ≤ 5)
awaiting stage.Idle is = absurd (cc)
awaiting stage.Reading is = absurd (cc)
awaiting stage.Continuing is = absurd (cc)
awaiting (stage.Waiting request) is = (refl, omega arith)
awaiting stage.Inside is = (refl, omega arith)
awaiting (stage.PassingOn passing) is = (refl, omega arith)
awaiting (stage.Refused named) is = (refl, omega arith)
awaiting (stage.Answering answering) is = absurd (cc)
awaiting (stage.Lingering lingering) is = absurd (cc)
awaiting stage.Left is = absurd (cc)

answers_step : (old new : Client) (text : List ℕ) (weight : ℕ) (persistence : Persistence) (now : ℕ) (awaited : Bool)
    → Calls old (answers text weight persistence now awaited) new → Step old (answers text weight persistence now awaited) new
answers_step old new text weight persistence now awaited is =
    subst (Step old (answers text weight persistence now awaited)) (sym is.1)
    (subst (λ b. Step old (answers text weight persistence now b) (answered outgoing persistence now old)) (sym is.0)
    (go (awaits_answer old.stage) refl old.facts.has_failed)) where
      outgoing : Outgoing
      outgoing = record { sent = []; rest = text; weight = weight }

      go : (b : Bool) → awaits_answer old.stage ≡ b → (failed : Bool)
          → Step old (answers text weight persistence now b)
          (cond b (cond failed (left old) (answering outgoing persistence now old)) old)
      go true awaits true =
          let before = awaiting old.stage awaits in
          let counts = ap count_if awaits in
          record {
            cut = text;
            in_sequence = ap (λ rest. rest ++ text) before.0;
            lost = 0;
            once = omega (arith, counts);
            none = λ stays. absurd (cc);
            forward = inr (refl, no_later_than_left old.stage);
          }
      go true awaits false =
          let before = awaiting old.stage awaits in
          let counts = ap count_if awaits in
          record {
            cut = [];
            in_sequence = ap (λ rest. rest ++ text) before.0 ∙ sym (append-nil text);
            lost = 0;
            once = omega (arith, counts);
            none = λ stays. (refl, refl);
            forward = inr (refl, omega (arith, before.1));
          }
      go false awaits failed = quiet_step old (answers text weight persistence now false) refl refl refl refl

-- a call by which the connection has failed, and which neither gives an answer nor writes one
failed_step : (old : Client) (call : ClientCall) → given_by call ≡ [] → written_by call ≡ [] → asked_by call ≡ 0
    → answers_by call ≡ 0 → Step old call (failed_at old.stage old)
failed_step old call given written asked none = go (is_inside old.stage) where
  noted : Client
  noted = record old { facts = record old.facts { has_failed = true } }

  go : (b : Bool) → Step old call (cond b noted (left old))
  go true = leaves_if false old call given written asked none noted refl refl noted refl
  go false = left_step old call given written asked none

looks_step : (old new : Client) (now : ℕ) → Calls old (looks now) new → Step old (looks now) new
looks_step old new now is =
    subst (Step old (looks now)) (sym is) (go (has_timeout old.stage && nat_le old.facts.until now)) where
      go : (b : Bool) → Step old (looks now) (cond b (failed_at old.stage old) old)
      go true = failed_step old (looks now) refl refl refl refl
      go false = quiet_step old (looks now) refl refl refl refl

discards_step : (old new : Client) (count : ℕ) → Calls old (discards count) new → Step old (discards count) new
discards_step old new count is = subst (Step old (discards count)) (sym is) (go old.stage refl) where
  on : (l : Lingering) → old.stage ≡ stage.Lingering l → (b : Bool)
      → Step old (discards count) (cond b (at (stage.Lingering (record l { passed = later l.passed count })) old) (left old))
  on l at_is true =
      let nothing = ap to_write at_is in
      let awaits = ap (λ t. count_if (awaits_answer t)) at_is in
      let early = ap rank at_is in
      stage_step old (at (stage.Lingering (record l { passed = later l.passed count })) old) (discards count)
      (stage.Lingering (record l { passed = later l.passed count })) refl refl refl refl (sym nothing)
      (omega (arith, awaits)) (omega (arith, early))
  on l at_is false = left_step old (discards count) refl refl refl refl

  go : (s : Stage) → old.stage ≡ s → Step old (discards count) (discarded_at s count old)
  go (stage.Lingering lingering) at_is = on lingering at_is (nat_lt (later lingering.passed count) 16777216)
  go stage.Idle at_is = quiet_step old (discards count) refl refl refl refl
  go stage.Reading at_is = quiet_step old (discards count) refl refl refl refl
  go stage.Continuing at_is = quiet_step old (discards count) refl refl refl refl
  go (stage.Waiting request) at_is = quiet_step old (discards count) refl refl refl refl
  go stage.Inside at_is = quiet_step old (discards count) refl refl refl refl
  go (stage.PassingOn passing) at_is = quiet_step old (discards count) refl refl refl refl
  go (stage.Refused named) at_is = quiet_step old (discards count) refl refl refl refl
  go (stage.Answering answering) at_is = quiet_step old (discards count) refl refl refl refl
  go stage.Left at_is = quiet_step old (discards count) refl refl refl refl

pub step : (old new : Client) (call : ClientCall) → Calls old call new → Step old call new
step old new (feeds bytes now result whole) is = feeds_step old new bytes now result whole is
step old new (continues result whole) is = continues_step old new result whole is
step old new (takes request) is = takes_step old new request is
step old new (answers text weight persistence now awaited) is = answers_step old new text weight persistence now awaited is
step old new (begins_passing_on persistence now begun) is = begins_step old new persistence now begun is
step old new (passes_on bytes waits now passes) is = passes_step old new bytes waits now passes is
step old new (cuts was) is = cuts_step old new was is
step old new (writes bytes now result whole) is = writes_step old new bytes now result whole is
step old new ends_input is =
    leaves_if (takes_bytes old.stage) old ends_input refl refl refl refl
    (record old { facts = record old.facts { has_ended = true } }) refl refl new is
step old new begins_closing is =
    leaves_if (is_idle old.stage) old begins_closing refl refl refl refl
    (record old { facts = record old.facts { is_closing = true } }) refl refl new is
step old new fails is = subst (Step old fails) (sym is) (failed_step old fails refl refl refl refl)
step old new (discards count) is = discards_step old new count is
step old new (looks now) is = looks_step old new now is
