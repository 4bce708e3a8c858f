-- Whether a request is inside after an event on the client's connection.
use Rattle.std.proofs.Common.{◌≡◌, ◌∙◌, ℕ, Bool, true, false, cond, ◌&&◌, ◌||◌, nat_le, nat_lt, List, [], ◌∷◌, refl, sym, ap, Option, Some, None, Err}
use Rattle.std.proofs.lemmas.Bool.{or_left, or_right}
use Rattle.std.specs.Prelude.{⊤}
use Rattle.bg_http.specs.Statuses.{request_status}
use Rattle.bg_http.specs.declared.persistence.Persistence.{Persistence}
use Rattle.bg_http.specs.declared.persistence.Persistence.TheVariants.{Close}
use Rattle.bg_http.specs.declared.refusal.RefusalPage.{RefusalPage}
use Rattle.bg_client_side.specs.Outgoing.{Outgoing, with_written}
use Rattle.bg_client_side.specs.Clients.{Client, Continues, ContinuesIf, Feeds, FeedsIf, Finishes, ReadsOn, Writes, WritesOn, WritesRest, answered, answering, at, begun_at, closing, discarded_at, ended, failed_at, left, looked, next, with_bytes}
use Rattle.bg_client_side.specs.Facts.{later}
use Rattle.bg_client_side.specs.Stages.{as_answering, awaits_answer, has_timeout, is_idle, is_inside, owes_continue, reads, takes_bytes}
use Rattle.bg_client_side.specs.declared.reading.Fed.{Fed}
use Rattle.bg_client_side.specs.declared.reading.Fed.TheVariants as fed
use Rattle.bg_client_side.specs.declared.stage.Answering.{Answering}
use Rattle.bg_client_side.specs.declared.stage.Lingering.{Lingering}
use Rattle.bg_client_side.specs.declared.stage.Stage.{Stage}
use Rattle.bg_client_side.specs.declared.stage.Stage.TheVariants as stage
use Rattle.bg_both_sides.specs.Answers.{Answer, RefusesWith, lacks, page_of, says, unwritten, with_answer}
use Rattle.bg_both_sides.specs.ClientEvents.{RefusesBy, RefusesFault}

outside_if : (b : Bool) (c : Client) → is_inside c.stage ≡ false → is_inside (cond b (left c) c).stage ≡ false
outside_if true c out = refl
outside_if false c out = out

-- a request that is read is not inside
reads_outside : (c : Client) (bytes : List ℕ) (result : Fed) (new : Client) → ReadsOn c bytes result new
    → is_inside c.stage ≡ false → is_inside new.stage ≡ false
reads_outside c bytes fed.NotReading new is out = absurd is
reads_outside c bytes fed.More new is out =
    ap (λ (n : Client). is_inside n.stage) is.0
    ∙ outside_if (c.facts.has_ended || (is_idle c.stage && c.facts.is_closing)) (with_bytes c bytes) out
reads_outside c bytes fed.OwesContinue new is out = ap (λ (n : Client). is_inside n.stage) is.1
reads_outside c bytes fed.Whole new is out = ap (λ (n : Client). is_inside n.stage) is.1
reads_outside c bytes (fed.Refused named) new is out = ap is_inside is.0

-- no request is inside while one is read, and while `100 Continue` is owed
early_outside : (s : Stage) → (reads s || owes_continue s) ≡ true → is_inside s ≡ false
early_outside stage.Idle is = refl
early_outside stage.Reading is = refl
early_outside stage.Continuing is = refl
early_outside (stage.Waiting request) is = refl
early_outside stage.Inside is = absurd (cc)
early_outside (stage.PassingOn passing) is = absurd (cc)
early_outside (stage.Refused named) is = refl
early_outside (stage.Answering answering) is = refl
early_outside (stage.Lingering lingering) is = refl
early_outside stage.Left is = refl

begun_outside : (s : Stage) (bytes : List ℕ) (now : ℕ) (c : Client) → is_inside c.stage ≡ false
    → is_inside (begun_at s bytes now c).stage ≡ false
begun_outside stage.Idle [] now c out = out
begun_outside stage.Idle (byte ∷ bytes) now c out = refl
begun_outside stage.Reading bytes now c out = out
begun_outside stage.Continuing bytes now c out = out
begun_outside (stage.Waiting request) bytes now c out = out
begun_outside stage.Inside bytes now c out = out
begun_outside (stage.PassingOn passing) bytes now c out = out
begun_outside (stage.Refused named) bytes now c out = out
begun_outside (stage.Answering answering) bytes now c out = out
begun_outside (stage.Lingering lingering) bytes now c out = out
begun_outside stage.Left bytes now c out = out

pub fed_alike : (c : Client) (bytes : List ℕ) (now : ℕ) (result : Fed) (new : Client) → Feeds c bytes now result new
    → is_inside new.stage ≡ is_inside c.stage
fed_alike c bytes now result new is = go (reads c.stage) refl is where
  go : (b : Bool) → reads c.stage ≡ b → FeedsIf b c bytes now result new → is_inside new.stage ≡ is_inside c.stage
  go true reading is =
      let out = early_outside c.stage (or_left (reads c.stage) (owes_continue c.stage) reading) in
      reads_outside (begun_at c.stage bytes now c) bytes result new is (begun_outside c.stage bytes now c out) ∙ sym out
  go false none is = ap (λ (n : Client). is_inside n.stage) is.1

pub continued_alike : (c : Client) (result : Fed) (new : Client) → Continues c result new
    → is_inside new.stage ≡ is_inside c.stage
continued_alike c result new is = go (owes_continue c.stage) refl is where
  go : (b : Bool) → owes_continue c.stage ≡ b → ContinuesIf b c result new → is_inside new.stage ≡ is_inside c.stage
  go true owes is =
      let out = early_outside c.stage (or_right (reads c.stage) (owes_continue c.stage) owes) in
      reads_outside (at stage.Reading c) [] result new is refl ∙ sym out
  go false none is = ap (λ (n : Client). is_inside n.stage) is.1

last_outside : (has_ended was_whole : Bool) (now : ℕ) (c : Client)
    → is_inside (cond has_ended (left c) (record c {
      stage = stage.Lingering (record { was_whole = was_whole; passed = 0 });
      facts = record c.facts { until = later now 10000 };
    })).stage ≡ false
last_outside true was_whole now c = refl
last_outside false was_whole now c = refl

finished_outside : (goes_on was_whole : Bool) (now : ℕ) (c : Client) (result : Fed) (new : Client)
    → Finishes goes_on was_whole now c result new → is_inside new.stage ≡ false
finished_outside true was_whole now c result new is = reads_outside (next now c) [] result new is refl
finished_outside false was_whole now c result new is =
    ap (λ (n : Client). is_inside n.stage) is.1 ∙ last_outside c.facts.has_ended was_whole now c

written_outside : (rest : List ℕ) (a : Answering) (count now : ℕ) (c : Client) (result : Fed) (new : Client)
    → WritesRest rest a count now c result new → is_inside new.stage ≡ false
written_outside [] a count now c result new is = finished_outside a.goes_on a.was_whole now c result new is
written_outside (byte ∷ bytes) a count now c result new is = ap (λ (n : Client). is_inside n.stage) is.1

pub wrote_alike : (c : Client) (count now : ℕ) (result : Fed) (new : Client) → Writes c count now result new
    → is_inside new.stage ≡ is_inside c.stage
wrote_alike c count now result new is = go c.stage refl is where
  stays : (result ≡ fed.NotReading) × (new ≡ c) → is_inside new.stage ≡ is_inside c.stage
  stays is = ap (λ (n : Client). is_inside n.stage) is.1

  go : (s : Stage) → c.stage ≡ s → WritesOn (as_answering s) count now c result new
      → is_inside new.stage ≡ is_inside c.stage
  go stage.Idle at_is is = stays is
  go stage.Reading at_is is = stays is
  go stage.Continuing at_is is = stays is
  go (stage.Waiting request) at_is is = stays is
  go stage.Inside at_is is = stays is
  go (stage.PassingOn passing) at_is is = stays is
  go (stage.Refused named) at_is is = stays is
  go (stage.Answering a) at_is is =
      written_outside (with_written a.text count).rest a count now c result new is ∙ sym (ap is_inside at_is)
  go (stage.Lingering lingering) at_is is = stays is
  go stage.Left at_is is = stays is

pub ended_alike : (c : Client) → is_inside (ended c).stage ≡ is_inside c.stage
ended_alike c = go c.stage refl where
  late : Client
  late = record c { facts = record c.facts { has_ended = true } }

  go : (s : Stage) → c.stage ≡ s → is_inside (cond (takes_bytes s) (left late) late).stage ≡ is_inside c.stage
  go stage.Idle at_is = sym (ap is_inside at_is)
  go stage.Reading at_is = sym (ap is_inside at_is)
  go stage.Continuing at_is = refl
  go (stage.Waiting request) at_is = refl
  go stage.Inside at_is = refl
  go (stage.PassingOn passing) at_is = refl
  go (stage.Refused named) at_is = refl
  go (stage.Answering answering) at_is = refl
  go (stage.Lingering lingering) at_is = sym (ap is_inside at_is)
  go stage.Left at_is = refl

pub closing_alike : (c : Client) → is_inside (closing c).stage ≡ is_inside c.stage
closing_alike c = go c.stage refl where
  late : Client
  late = record c { facts = record c.facts { is_closing = true } }

  go : (s : Stage) → c.stage ≡ s → is_inside (cond (is_idle s) (left late) late).stage ≡ is_inside c.stage
  go stage.Idle at_is = sym (ap is_inside at_is)
  go stage.Reading at_is = refl
  go stage.Continuing at_is = refl
  go (stage.Waiting request) at_is = refl
  go stage.Inside at_is = refl
  go (stage.PassingOn passing) at_is = refl
  go (stage.Refused named) at_is = refl
  go (stage.Answering answering) at_is = refl
  go (stage.Lingering lingering) at_is = refl
  go stage.Left at_is = refl

pub failed_alike : (c : Client) → is_inside (failed_at c.stage c).stage ≡ is_inside c.stage
failed_alike c = go (is_inside c.stage) refl where
  noted : Client
  noted = record c { facts = record c.facts { has_failed = true } }

  go : (b : Bool) → is_inside c.stage ≡ b → is_inside (cond b noted (left c)).stage ≡ b
  go true inside = inside
  go false out = refl

pub discarded_alike : (c : Client) (count : ℕ) → is_inside (discarded_at c.stage count c).stage ≡ is_inside c.stage
discarded_alike c count = go c.stage refl where
  on : (l : Lingering) (b : Bool) → is_inside (cond b (at (stage.Lingering (record l { passed = later l.passed count })) c) (left c)).stage ≡ false
  on l true = refl
  on l false = refl

  go : (s : Stage) → c.stage ≡ s → is_inside (discarded_at s count c).stage ≡ is_inside c.stage
  go stage.Idle at_is = refl
  go stage.Reading at_is = refl
  go stage.Continuing at_is = refl
  go (stage.Waiting request) at_is = refl
  go stage.Inside at_is = refl
  go (stage.PassingOn passing) at_is = refl
  go (stage.Refused named) at_is = refl
  go (stage.Answering answering) at_is = refl
  go (stage.Lingering l) at_is = on l (nat_lt (later l.passed count) 16777216) ∙ sym (ap is_inside at_is)
  go stage.Left at_is = refl

pub looked_alike : (c : Client) (now : ℕ) → is_inside (looked c now).stage ≡ is_inside c.stage
looked_alike c now = go (has_timeout c.stage && nat_le c.facts.until now) where
  go : (b : Bool) → is_inside (cond b (failed_at c.stage c) c).stage ≡ is_inside c.stage
  go true = failed_alike c
  go false = refl

awaiting_stage : (s : Stage) → awaits_answer s ≡ false → is_inside s ≡ false
awaiting_stage stage.Idle is = refl
awaiting_stage stage.Reading is = refl
awaiting_stage stage.Continuing is = refl
awaiting_stage (stage.Waiting request) is = refl
awaiting_stage stage.Inside is = absurd (cc)
awaiting_stage (stage.PassingOn passing) is = absurd (cc)
awaiting_stage (stage.Refused named) is = refl
awaiting_stage (stage.Answering answering) is = refl
awaiting_stage (stage.Lingering lingering) is = refl
awaiting_stage stage.Left is = refl

answered_outside : (text : Outgoing) (persistence : Persistence) (now : ℕ) (c : Client)
    → is_inside (answered text persistence now c).stage ≡ false
answered_outside text persistence now c = go (awaits_answer c.stage) refl c.facts.has_failed where
  go : (b : Bool) → awaits_answer c.stage ≡ b → (failed : Bool)
      → is_inside (cond b (cond failed (left c) (answering text persistence now c)) c).stage ≡ false
  go true awaits true = refl
  go true awaits false = refl
  go false none failed = awaiting_stage c.stage none

-- after an answer no request is inside
pub replied_outside : (answer : Answer) (now : ℕ) (c : Client) → is_inside (with_answer answer now c).stage ≡ false
replied_outside (says text weight persistence) now c = answered_outside (unwritten text weight) persistence now c
replied_outside (lacks weight) now c = answered_outside (unwritten [] weight) Close now (failed_at c.stage c)

refused_outside : (page : Option RefusalPage) (status now : ℕ) (old : Client) (answer : Option Answer) (new : Client)
    → RefusesWith page status now old answer new → is_inside new.stage ≡ false
refused_outside page status now old None new is = absurd is
refused_outside page status now old (Some answer) new is =
    ap (λ (n : Client). is_inside n.stage) is.1 ∙ replied_outside answer now old

-- what was read with this result is refused at this stage, if it is no request
abbrev pub IsAt : Fed → Client → Type 0
IsAt (fed.Refused named) read = read.stage ≡ stage.Refused named
IsAt other read = ⊤

pub fault_alike : (result : Fed) (now : ℕ) (read : Client) (answer : Option Answer) (new : Client) → IsAt result read
    → RefusesFault result now read answer new → is_inside new.stage ≡ is_inside read.stage
fault_alike fed.NotReading now read answer new none is = ap (λ (n : Client). is_inside n.stage) is.1
fault_alike fed.More now read answer new none is = ap (λ (n : Client). is_inside n.stage) is.1
fault_alike fed.OwesContinue now read answer new none is = ap (λ (n : Client). is_inside n.stage) is.1
fault_alike fed.Whole now read answer new none is = ap (λ (n : Client). is_inside n.stage) is.1
fault_alike (fed.Refused named) now read answer new at_is is = go (request_status named) is where
  go : (status : Option ℕ) → RefusesBy named status now read answer new → is_inside new.stage ≡ is_inside read.stage
  go None is = ap (λ (n : Client). is_inside n.stage) is.1
  go (Some status) is = refused_outside (page_of read (Err named)) status now read answer new is ∙ sym (ap is_inside at_is)

-- a fault ends the reading
read_at : (c : Client) (bytes : List ℕ) (result : Fed) (new : Client) → ReadsOn c bytes result new → IsAt result new
read_at c bytes fed.NotReading new is = absurd is
read_at c bytes fed.More new is = tt
read_at c bytes fed.OwesContinue new is = tt
read_at c bytes fed.Whole new is = tt
read_at c bytes (fed.Refused named) new is = is.0

nothing_read : (result : Fed) (new : Client) → result ≡ fed.NotReading → IsAt result new
nothing_read fed.NotReading new is = tt
nothing_read fed.More new is = tt
nothing_read fed.OwesContinue new is = tt
nothing_read fed.Whole new is = tt
nothing_read (fed.Refused named) new is = absurd (cc)

pub fed_at : (c : Client) (bytes : List ℕ) (now : ℕ) (result : Fed) (new : Client) → Feeds c bytes now result new
    → IsAt result new
fed_at c bytes now result new is = go (reads c.stage) is where
  go : (b : Bool) → FeedsIf b c bytes now result new → IsAt result new
  go true is = read_at (begun_at c.stage bytes now c) bytes result new is
  go false is = nothing_read result new is.0

pub continued_at : (c : Client) (result : Fed) (new : Client) → Continues c result new → IsAt result new
continued_at c result new is = go (owes_continue c.stage) is where
  go : (b : Bool) → ContinuesIf b c result new → IsAt result new
  go true is = read_at (at stage.Reading c) [] result new is
  go false is = nothing_read result new is.0

pub wrote_at : (c : Client) (count now : ℕ) (result : Fed) (new : Client) → Writes c count now result new
    → IsAt result new
wrote_at c count now result new is = go (as_answering c.stage) is where
  finished : (goes_on : Bool) (a : Answering) → Finishes goes_on a.was_whole now c result new → IsAt result new
  finished true a is = read_at (next now c) [] result new is
  finished false a is = nothing_read result new is.0

  rest_of : (rest : List ℕ) (a : Answering) → WritesRest rest a count now c result new → IsAt result new
  rest_of [] a is = finished a.goes_on a is
  rest_of (byte ∷ bytes) a is = nothing_read result new is.0

  go : (a : Option Answering) → WritesOn a count now c result new → IsAt result new
  go None is = nothing_read result new is.0
  go (Some a) is = rest_of (with_written a.text count).rest a is
