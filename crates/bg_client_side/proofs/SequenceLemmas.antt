-- The requests of a connection, and the bytes that came on it.
use Rattle.std.proofs.Common.{◌≡◌, ◌∙◌, ℕ, Bool, true, false, cond, ◌&&◌, List, [], ◌∷◌, ◌++◌, length, refl, sym, ap, subst, append_assoc, nat_le, nat_lt, Option, Some, None}
use Rattle.bg_http.specs.Persistences.{keeps}
use Rattle.bg_http.specs.declared.persistence.Persistence.{Persistence}
use Rattle.bg_http.specs.declared.request.Request.{Request}
use Rattle.bg_http_read.specs.Sequences.{AreRequestsOf}
use Rattle.bg_client_side.specs.Outgoing.{Outgoing, with_written}
use Rattle.bg_client_side.proofs.ReadSequences.{SequenceLaws, Has, read_has, kept_has, left_has, waiting_read, nothing_read, leaves_has, reading_goes_on, owing_goes_on, begun_since}
use Rattle.bg_client_side.proofs.SoundLemmas.{both}
use Rattle.bg_client_side.specs.Clients.{Client, ContinuesIf, FeedsIf, Finishes, WritesOn, WritesRest, answered, answering, at, at_until, begun_at, begun_passing_on, cut_off, discarded_at, failed_at, left, looked, may_pass_on, next, passed_at, passing_on, stays_after, taken}
use Rattle.bg_client_side.specs.Facts.{keeps_after, later}
use Rattle.bg_client_side.specs.Laws.{GivesTheSequence}
use Rattle.bg_client_side.specs.Runs.{Calls, ClientCall, answers, became_whole, begins_closing, begins_passing_on, continues, cuts, discards, ends_input, fails, feeds, looks, one_if, passes_on, read_as, read_by, read_in, takes, whole_by, whole_in, writes}
use Rattle.bg_client_side.specs.Stages.{as_answering, awaits_answer, goes_on, has_timeout, is_idle, is_inside, is_passing_on, owes_continue, reads, takes_bytes, waiting_request, was_whole}
use Rattle.bg_client_side.specs.declared.reading.Fed.{Fed}
use Rattle.bg_client_side.specs.declared.stage.Answering.{Answering}
use Rattle.bg_client_side.specs.declared.stage.Lingering.{Lingering}
use Rattle.bg_client_side.specs.declared.stage.Stage.TheVariants as stage
use Rattle.bg_client_side.specs.declared.stage.Stage.{Stage}

feeds_has : SequenceLaws → (requests : List Request) (came : List ℕ) (old new : Client) (bytes : List ℕ) (now : ℕ)
    (result : Fed) (whole : Option Request) → Has requests came old → FeedsIf (reads old.stage) old bytes now result new
    → whole ≡ became_whole result new → Has (requests ++ one_if whole) (came ++ read_as result bytes) new
feeds_has laws requests came old new bytes now result whole has fed_is whole_is = go (reads old.stage) refl fed_is where
  go : (b : Bool) → reads old.stage ≡ b → FeedsIf b old bytes now result new
      → Has (requests ++ one_if whole) (came ++ read_as result bytes) new
  go true reading read stays =
      let begins = begun_at old.stage bytes now old in
      let has_now = subst (AreRequestsOf requests came) (sym (begun_since old.stage bytes now old))
      (has (reading_goes_on old.stage reading)) in
      subst (λ o. AreRequestsOf (requests ++ one_if o) (came ++ read_as result bytes) new.since) (sym whole_is)
      (read_has laws requests came begins new bytes result has_now read stays)
  go false reading kept stays =
      subst (λ r. AreRequestsOf (requests ++ one_if whole) (came ++ read_as r bytes) new.since) (sym kept.0)
      (nothing_read requests came old new result whole has kept.0 kept.1 whole_is stays)

continues_has : SequenceLaws → (requests : List Request) (came : List ℕ) (old new : Client) (result : Fed)
    (whole : Option Request) → Has requests came old → ContinuesIf (owes_continue old.stage) old result new
    → whole ≡ became_whole result new → Has (requests ++ one_if whole) (came ++ []) new
continues_has laws requests came old new result whole has is whole_is = go (owes_continue old.stage) refl is where
  go : (b : Bool) → owes_continue old.stage ≡ b → ContinuesIf b old result new → Has (requests ++ one_if whole) (came ++ []) new
  go true owed read =
      waiting_read laws requests came (at stage.Reading old) new result whole (has (owing_goes_on old.stage owed)) read whole_is
  go false owed kept = nothing_read requests came old new result whole has kept.0 kept.1 whole_is

takes_has : (requests : List Request) (came : List ℕ) (old : Client) → Has requests came old
    → Has (requests ++ []) (came ++ []) (taken (waiting_request old.stage) old)
takes_has requests came old has = go old.stage refl where
  same : Has (requests ++ []) (came ++ []) old
  same = kept_has requests came old old has refl (λ goes. goes)

  go : (s : Stage) → old.stage ≡ s → Has (requests ++ []) (came ++ []) (taken (waiting_request s) old)
  go stage.Idle is = same
  go stage.Reading is = same
  go stage.Continuing is = same
  go (stage.Waiting request) is =
      kept_has requests came old (at stage.Inside old) has refl (λ goes. ap goes_on is)
  go stage.Inside is = same
  go (stage.PassingOn passing) is = same
  go (stage.Refused named) is = same
  go (stage.Answering answering) is = same
  go (stage.Lingering lingering) is = same
  go stage.Left is = same

-- a connection that goes on after an answer may go on before it
goes_on_before : (c : Client) (persistence : Persistence) → (keeps persistence && stays_after c) ≡ true → goes_on c.stage ≡ true
goes_on_before c persistence is =
    let stays = (both (keeps persistence) (stays_after c) is).1 in
    let whole = (both (goes_on c.stage && was_whole c.stage) (keeps_after c.facts) stays).0 in
    (both (goes_on c.stage) (was_whole c.stage) whole).0

answers_has : (requests : List Request) (came : List ℕ) (old : Client) (text : Outgoing) (persistence : Persistence) (now : ℕ)
    → Has requests came old → Has (requests ++ []) (came ++ []) (answered text persistence now old)
answers_has requests came old text persistence now has = go (awaits_answer old.stage) old.facts.has_failed where
  go : (b failed : Bool)
      → Has (requests ++ []) (came ++ []) (cond b (cond failed (left old) (answering text persistence now old)) old)
  go true true = λ goes. absurd (cc)
  go true false =
      kept_has requests came old (answering text persistence now old) has refl (goes_on_before old persistence)
  go false failed = kept_has requests came old old has refl (λ goes. goes)

begins_has : (requests : List Request) (came : List ℕ) (old : Client) (persistence : Persistence) (now : ℕ)
    → Has requests came old → Has (requests ++ []) (came ++ []) (begun_passing_on persistence now old)
begins_has requests came old persistence now has = go (may_pass_on old) where
  go : (b : Bool) → Has (requests ++ []) (came ++ []) (cond b (passing_on persistence now old) old)
  go true = kept_has requests came old (passing_on persistence now old) has refl (goes_on_before old persistence)
  go false = kept_has requests came old old has refl (λ goes. goes)

passes_has : (requests : List Request) (came : List ℕ) (old : Client) (count : ℕ) (waits : Bool) (now : ℕ)
    → Has requests came old → Has (requests ++ []) (came ++ []) (passed_at old.stage count waits now old)
passes_has requests came old count waits now has = go old.stage refl where
  same : Has (requests ++ []) (came ++ []) old
  same = kept_has requests came old old has refl (λ goes. goes)

  go : (s : Stage) → old.stage ≡ s → Has (requests ++ []) (came ++ []) (passed_at s count waits now old)
  go stage.Idle is = same
  go stage.Reading is = same
  go stage.Continuing is = same
  go (stage.Waiting request) is = same
  go stage.Inside is = same
  go (stage.PassingOn passing) is =
      kept_has requests came old (passed_at (stage.PassingOn passing) count waits now old) has refl
      (λ goes. ap goes_on is ∙ goes)
  go (stage.Refused named) is = same
  go (stage.Answering answering) is = same
  go (stage.Lingering lingering) is = same
  go stage.Left is = same

cuts_has : (requests : List Request) (came : List ℕ) (old : Client) → Has requests came old
    → Has (requests ++ []) (came ++ []) (cut_off old)
cuts_has requests came old has = go (is_passing_on old.stage) where
  go : (b : Bool) → Has (requests ++ []) (came ++ []) (cond b (left old) old)
  go true = left_has (requests ++ []) (came ++ []) old
  go false = kept_has requests came old old has refl (λ goes. goes)

answering_goes_on : (s : Stage) (a : Answering) → as_answering s ≡ Some a → goes_on s ≡ a.goes_on
answering_goes_on stage.Idle a is = absurd (cc)
answering_goes_on stage.Reading a is = absurd (cc)
answering_goes_on stage.Continuing a is = absurd (cc)
answering_goes_on (stage.Waiting request) a is = absurd (cc)
answering_goes_on stage.Inside a is = absurd (cc)
answering_goes_on (stage.PassingOn passing) a is = absurd (cc)
answering_goes_on (stage.Refused named) a is = absurd (cc)
answering_goes_on (stage.Answering answering) a is = cc
answering_goes_on (stage.Lingering lingering) a is = absurd (cc)
answering_goes_on stage.Left a is = absurd (cc)

writes_has : SequenceLaws → (requests : List Request) (came : List ℕ) (old new : Client) (count now : ℕ) (result : Fed)
    (whole : Option Request) → Has requests came old → WritesOn (as_answering old.stage) count now old result new
    → whole ≡ became_whole result new → Has (requests ++ one_if whole) (came ++ []) new
writes_has laws requests came old new count now result whole has is whole_is = go (as_answering old.stage) refl is where
  finish : (goes : Bool) (was : Bool) → goes_on old.stage ≡ goes → Finishes goes was now old result new
      → Has (requests ++ one_if whole) (came ++ []) new
  finish true was goes read = waiting_read laws requests came (next now old) new result whole (has goes) read whole_is
  finish false was goes last = none old.facts.has_ended last.1 where
    none : (b : Bool)
        → new ≡ cond b (left old) (at_until (stage.Lingering (record { was_whole = was; passed = 0 })) (later now 10000) old)
        → Has (requests ++ one_if whole) (came ++ []) new
    none true to = λ stays. let out = ap (λ (n : Client). goes_on n.stage) to in absurd (cc)
    none false to = λ stays. let out = ap (λ (n : Client). goes_on n.stage) to in absurd (cc)

  rest_of : (a : Answering) → goes_on old.stage ≡ a.goes_on → (rest : List ℕ) → WritesRest rest a count now old result new
      → Has (requests ++ one_if whole) (came ++ []) new
  rest_of a goes [] last = finish a.goes_on a.was_whole goes last
  rest_of a goes (byte ∷ bytes) kept =
      subst (λ o. Has (requests ++ one_if o) (came ++ []) new) (sym (whole_is ∙ ap (λ r. became_whole r new) kept.0))
      (kept_has requests came old new has (ap (λ (n : Client). n.since) kept.1)
      (λ stays. goes ∙ sym (ap (λ (n : Client). goes_on n.stage) kept.1) ∙ stays))

  go : (o : Option Answering) → as_answering old.stage ≡ o → WritesOn o count now old result new
      → Has (requests ++ one_if whole) (came ++ []) new
  go None none kept = nothing_read requests came old new result whole has kept.0 kept.1 whole_is
  go (Some a) some written = rest_of a (answering_goes_on old.stage a some) (with_written a.text count).rest written

fails_has : (requests : List Request) (came : List ℕ) (old : Client) → Has requests came old
    → Has (requests ++ []) (came ++ []) (failed_at old.stage old)
fails_has requests came old has = go (is_inside old.stage) where
  noted : Client
  noted = record old { facts = record old.facts { has_failed = true } }

  go : (b : Bool) → Has (requests ++ []) (came ++ []) (cond b noted (left old))
  go true = kept_has requests came old noted has refl (λ goes. goes)
  go false = left_has (requests ++ []) (came ++ []) old

looks_has : (requests : List Request) (came : List ℕ) (old : Client) (now : ℕ) → Has requests came old
    → Has (requests ++ []) (came ++ []) (looked old now)
looks_has requests came old now has = go (has_timeout old.stage && nat_le old.facts.until now) where
  go : (b : Bool) → Has (requests ++ []) (came ++ []) (cond b (failed_at old.stage old) old)
  go true = fails_has requests came old has
  go false = kept_has requests came old old has refl (λ goes. goes)

discards_has : (requests : List Request) (came : List ℕ) (old : Client) (count : ℕ) → Has requests came old
    → Has (requests ++ []) (came ++ []) (discarded_at old.stage count old)
discards_has requests came old count has = go old.stage where
  same : Has (requests ++ []) (came ++ []) old
  same = kept_has requests came old old has refl (λ goes. goes)

  on : (l : Lingering) (b : Bool) → Has (requests ++ []) (came ++ [])
      (cond b (at (stage.Lingering (record l { passed = later l.passed count })) old) (left old))
  on l true = λ goes. absurd (cc)
  on l false = λ goes. absurd (cc)

  go : (s : Stage) → Has (requests ++ []) (came ++ []) (discarded_at s count old)
  go stage.Idle = same
  go stage.Reading = same
  go stage.Continuing = same
  go (stage.Waiting request) = same
  go stage.Inside = same
  go (stage.PassingOn passing) = same
  go (stage.Refused named) = same
  go (stage.Answering answering) = same
  go (stage.Lingering lingering) = on lingering (nat_lt (later lingering.passed count) 16777216)
  go stage.Left = same

call_has : SequenceLaws → (requests : List Request) (came : List ℕ) (old new : Client) (call : ClientCall)
    → Has requests came old → Calls old call new → Has (requests ++ whole_by call) (came ++ read_by call) new
call_has laws requests came old new (feeds bytes now result whole) has is =
    feeds_has laws requests came old new bytes now result whole has is.0 is.1
call_has laws requests came old new (continues result whole) has is =
    continues_has laws requests came old new result whole has is.0 is.1
call_has laws requests came old new (takes request) has is =
    subst (Has (requests ++ []) (came ++ [])) (sym (is.1 ∙ ap (λ r. taken r old) is.0)) (takes_has requests came old has)
call_has laws requests came old new (answers text weight persistence now awaited) has is =
    subst (Has (requests ++ []) (came ++ [])) (sym is.1)
    (answers_has requests came old (record { sent = []; rest = text; weight = weight }) persistence now has)
call_has laws requests came old new (begins_passing_on persistence now begun) has is =
    subst (Has (requests ++ []) (came ++ [])) (sym is.1) (begins_has requests came old persistence now has)
call_has laws requests came old new (passes_on bytes waits now passes) has is =
    subst (Has (requests ++ []) (came ++ [])) (sym is.1) (passes_has requests came old (length bytes) waits now has)
call_has laws requests came old new (cuts was) has is =
    subst (Has (requests ++ []) (came ++ [])) (sym is.1) (cuts_has requests came old has)
call_has laws requests came old new (writes bytes now result whole) has is =
    writes_has laws requests came old new (length bytes) now result whole has is.1 is.2
call_has laws requests came old new ends_input has is =
    leaves_has (takes_bytes old.stage) requests came old (record old { facts = record old.facts { has_ended = true } }) new has
    refl refl is
call_has laws requests came old new begins_closing has is =
    leaves_has (is_idle old.stage) requests came old (record old { facts = record old.facts { is_closing = true } }) new has
    refl refl is
call_has laws requests came old new fails has is =
    subst (Has (requests ++ []) (came ++ [])) (sym is) (fails_has requests came old has)
call_has laws requests came old new (discards count) has is =
    subst (Has (requests ++ []) (came ++ [])) (sym is) (discards_has requests came old count has)
call_has laws requests came old new (looks now) has is =
    subst (Has (requests ++ []) (came ++ [])) (sym is) (looks_has requests came old now has)

pub gives_the_sequence : SequenceLaws → (calls : List ClientCall) (old new : Client) (requests : List Request) (came : List ℕ)
    → GivesTheSequence old calls new requests came
gives_the_sequence laws [] old new requests came is has stays =
    kept_has requests came old new has (ap (λ (c : Client). c.since) (sym is))
    (λ goes. ap (λ (c : Client). goes_on c.stage) is ∙ goes) stays
gives_the_sequence laws (call ∷ more) old new requests came is has stays =
    subst (λ rs. AreRequestsOf rs (came ++ (read_by call ++ read_in more)) new.since)
    (append_assoc requests (whole_by call) (whole_in more))
    (subst (λ bytes. AreRequestsOf ((requests ++ whole_by call) ++ whole_in more) bytes new.since)
    (append_assoc came (read_by call) (read_in more))
    (gives_the_sequence laws more is.0 new (requests ++ whole_by call) (came ++ read_by call) is.2
    (call_has laws requests came old is.0 call has is.1) stays))
