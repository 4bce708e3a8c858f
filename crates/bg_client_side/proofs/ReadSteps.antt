-- What a call that reads makes of a connection.
use Rattle.std.proofs.Common.{◌≡◌, ◌∙◌, ℕ, ◌≤◌, Bool, true, false, cond, ◌&&◌, ◌||◌, List, [], ◌∷◌, refl, sym, ap, subst, arith, Option}
use Rattle.bg_http.specs.declared.request.Request.{Request}
use Rattle.bg_client_side.proofs.Steps.{Step, stage_step, no_later_than_left, quiet_step}
use Rattle.bg_client_side.specs.Clients.{Client, ContinuesIf, FeedsIf, ReadsOn, answering, at, begun_at, left, with_bytes}
use Rattle.bg_client_side.specs.Facts.{later}
use Rattle.bg_client_side.specs.Runs.{Calls, ClientCall, answers_by, asked_by, asks_answer, continues, count_if, feeds, given_by, written_by}
use Rattle.bg_client_side.specs.Stages.{awaits_answer, is_idle, owes_continue, rank, reads, to_write}
use Rattle.bg_client_side.specs.declared.reading.Fed.TheVariants as fed
use Rattle.bg_client_side.specs.declared.reading.Fed.{Fed}
use Rattle.bg_client_side.specs.declared.stage.Stage.TheVariants as stage
use Rattle.bg_client_side.specs.declared.stage.Stage.{Stage}

-- what bytes that were read lead to
pub record IsRead (c : Client) (result : Fed) (new : Client) : Type 0 where
  pub to_stage : Stage
  pub stage_is : new.stage ≡ to_stage
  pub nothing : to_write to_stage ≡ []
  pub asks : count_if (asks_answer result) ≡ count_if (awaits_answer to_stage)
  pub same : new.facts.answered ≡ c.facts.answered
  pub later : rank c.stage ≤ rank to_stage

-- a stage that reads
pub record Reads (s : Stage) : Type 0 where
  pub nothing : to_write s ≡ []
  pub none : awaits_answer s ≡ false
  pub early : rank s ≤ 1

pub reads_early : (s : Stage) → reads s ≡ true → Reads s
reads_early stage.Idle is = record { nothing = refl; none = refl; early = omega arith }
reads_early stage.Reading is = record { nothing = refl; none = refl; early = omega arith }
reads_early stage.Continuing is = absurd (cc)
reads_early (stage.Waiting request) is = absurd (cc)
reads_early stage.Inside is = absurd (cc)
reads_early (stage.PassingOn passing) is = absurd (cc)
reads_early (stage.Refused named) is = absurd (cc)
reads_early (stage.Answering answering) is = absurd (cc)
reads_early (stage.Lingering lingering) is = absurd (cc)
reads_early stage.Left is = absurd (cc)

rested : (b : Bool) (c new : Client) → Reads c.stage → new ≡ cond b (left c) c → IsRead c fed.More new
rested true c new early is = record {
  to_stage = stage.Left;
  stage_is = ap (λ (n : Client). n.stage) is;
  nothing = refl;
  asks = refl;
  same = ap (λ (n : Client). n.facts.answered) is;
  later = no_later_than_left c.stage;
}
rested false c new early is = record {
  to_stage = c.stage;
  stage_is = ap (λ (n : Client). n.stage) is;
  nothing = early.nothing;
  asks = ap count_if (sym early.none);
  same = ap (λ (n : Client). n.facts.answered) is;
  later = omega arith;
}

pub is_read : (c new : Client) (bytes : List ℕ) (result : Fed) → Reads c.stage → ReadsOn c bytes result new → IsRead c result new
is_read c new bytes fed.NotReading early is = absurd is
is_read c new bytes fed.More early is =
    let came = with_bytes c bytes in
    let read = rested (came.facts.has_ended || (is_idle came.stage && came.facts.is_closing)) came new early is.0 in
    record {
      to_stage = read.to_stage;
      stage_is = read.stage_is;
      nothing = read.nothing;
      asks = read.asks;
      same = read.same;
      later = read.later;
    }
is_read c new bytes fed.OwesContinue early is = record {
  to_stage = stage.Continuing;
  stage_is = ap (λ (n : Client). n.stage) is.1;
  nothing = refl;
  asks = refl;
  same = ap (λ (n : Client). n.facts.answered) is.1;
  later = early.early;
}
is_read c new bytes fed.Whole early is = record {
  to_stage = stage.Waiting is.0;
  stage_is = ap (λ (n : Client). n.stage) is.1;
  nothing = refl;
  asks = refl;
  same = ap (λ (n : Client). n.facts.answered) is.1;
  later = omega (arith, early.early);
}
is_read c new bytes (fed.Refused named) early is = record {
  to_stage = stage.Refused named;
  stage_is = is.0;
  nothing = refl;
  asks = refl;
  same = ap (λ facts. facts.answered) is.1;
  later = omega (arith, early.early);
}

-- a connection to which bytes come
record IsBegun (c begins : Client) : Type 0 where
  early : Reads begins.stage
  same : begins.facts.answered ≡ c.facts.answered
  later : rank c.stage ≤ rank begins.stage

begins : (s : Stage) (bytes : List ℕ) (now : ℕ) (c : Client) → c.stage ≡ s → reads s ≡ true → IsBegun c (begun_at s bytes now c)
begins stage.Idle [] now c is reading = record {
  early = reads_early c.stage (ap reads is);
  same = refl;
  later = omega arith;
}
begins stage.Idle (byte ∷ bytes) now c is reading = record {
  early = reads_early stage.Reading refl;
  same = refl;
  later = subst (λ t. rank t ≤ 1) (sym is) (omega arith);
}
begins stage.Reading bytes now c is reading = record {
  early = reads_early c.stage (ap reads is);
  same = refl;
  later = omega arith;
}
begins stage.Continuing bytes now c is reading = absurd (cc)
begins (stage.Waiting request) bytes now c is reading = absurd (cc)
begins stage.Inside bytes now c is reading = absurd (cc)
begins (stage.PassingOn passing) bytes now c is reading = absurd (cc)
begins (stage.Refused named) bytes now c is reading = absurd (cc)
begins (stage.Answering answering) bytes now c is reading = absurd (cc)
begins (stage.Lingering lingering) bytes now c is reading = absurd (cc)
begins stage.Left bytes now c is reading = absurd (cc)

-- a call that reads, on a connection that begins to read at no earlier stage
read_step : (old c new : Client) (call : ClientCall) (result : Fed) → to_write old.stage ≡ [] → awaits_answer old.stage ≡ false
    → given_by call ≡ [] → written_by call ≡ [] → asked_by call ≡ count_if (asks_answer result) → answers_by call ≡ 0
    → c.facts.answered ≡ old.facts.answered → rank old.stage ≤ rank c.stage → IsRead c result new → Step old call new
read_step old c new call result nothing awaits given written asked none same later read =
    let none_awaits = ap count_if awaits in
    stage_step old new call read.to_stage read.stage_is (read.same ∙ same) given written (read.nothing ∙ sym nothing)
    (omega (arith, none_awaits, asked, none, read.asks)) (omega (arith, later, read.later))

pub feeds_step : (old new : Client) (bytes : List ℕ) (now : ℕ) (result : Fed) (whole : Option Request)
    → Calls old (feeds bytes now result whole) new → Step old (feeds bytes now result whole) new
feeds_step old new bytes now result whole is = go (reads old.stage) refl is.0 where
  go : (b : Bool) → reads old.stage ≡ b → FeedsIf b old bytes now result new → Step old (feeds bytes now result whole) new
  go true reading fed =
      let early = reads_early old.stage reading in
      let begun = begins old.stage bytes now old refl reading in
      read_step old (begun_at old.stage bytes now old) new (feeds bytes now result whole) result early.nothing early.none refl
      refl refl refl begun.same begun.later (is_read (begun_at old.stage bytes now old) new bytes result begun.early fed)
  go false reading fed =
      let none = ap (λ r. count_if (asks_answer r)) fed.0 in
      subst (Step old (feeds bytes now result whole)) (sym fed.1)
      (quiet_step old (feeds bytes now result whole) refl refl none refl)

-- a stage at which `100 Continue` is owed is as early as one that reads
owes_early : (s : Stage) → owes_continue s ≡ true → Reads s
owes_early stage.Idle is = absurd (cc)
owes_early stage.Reading is = absurd (cc)
owes_early stage.Continuing is = record { nothing = refl; none = refl; early = omega arith }
owes_early (stage.Waiting request) is = absurd (cc)
owes_early stage.Inside is = absurd (cc)
owes_early (stage.PassingOn passing) is = absurd (cc)
owes_early (stage.Refused named) is = absurd (cc)
owes_early (stage.Answering answering) is = absurd (cc)
owes_early (stage.Lingering lingering) is = absurd (cc)
owes_early stage.Left is = absurd (cc)

pub continues_step : (old new : Client) (result : Fed) (whole : Option Request) → Calls old (continues result whole) new
    → Step old (continues result whole) new
continues_step old new result whole is = go (owes_continue old.stage) refl is.0 where
  go : (b : Bool) → owes_continue old.stage ≡ b → ContinuesIf b old result new → Step old (continues result whole) new
  go true owed read =
      let early = owes_early old.stage owed in
      let c = at stage.Reading old in
      read_step old c new (continues result whole) result early.nothing early.none refl refl refl refl refl early.early
      (is_read c new [] result (reads_early stage.Reading refl) read)
  go false owed read =
      let none = ap (λ r. count_if (asks_answer r)) read.0 in
      subst (Step old (continues result whole)) (sym read.1) (quiet_step old (continues result whole) refl refl none refl)
