-- The requests of a connection, and the bytes that came on it, after bytes were read.
use Rattle.std.proofs.Common.{◌≡◌, ◌∙◌, ℕ, Bool, true, false, cond, ◌&&◌, ◌||◌, List, [], ◌∷◌, ◌++◌, refl, sym, ap, subst, append-nil, Option}
use Rattle.bg_http.specs.declared.request.Request.{Request}
use Rattle.bg_http_read.specs.Sequences.{AddsRequest, AreRequestsOf}
use Rattle.bg_client_side.specs.Clients.{Client, ReadsOn, answering, begun_at, left, with_bytes}
use Rattle.bg_client_side.specs.Runs.{became_whole, one_if, read_as}
use Rattle.bg_client_side.specs.Stages.{goes_on, is_idle, owes_continue, reads, waiting_request}
use Rattle.bg_client_side.specs.declared.reading.Fed.TheVariants as fed
use Rattle.bg_client_side.specs.declared.reading.Fed.{Fed}
use Rattle.bg_client_side.specs.declared.stage.Stage.TheVariants as stage
use Rattle.bg_client_side.specs.declared.stage.Stage.{Stage}

-- bytes that come keep a sequence, and a request makes it longer by one
pub record SequenceLaws : Type 0 where
  pub bytes : (requests : List Request) (came since more : List ℕ) → AreRequestsOf requests came since
      → AreRequestsOf requests (came ++ more) (since ++ more)
  pub request : (asked : Bool) (requests : List Request) (request : Request) (came since left : List ℕ)
      → AddsRequest asked requests request came since left

-- while the connection may go on, its requests are the sequence of its bytes
abbrev pub Has : List Request → List ℕ → Client → Type 0
Has requests came c = goes_on c.stage ≡ true → AreRequestsOf requests came c.since

-- what bytes that were read make of the sequence
pub read_has : SequenceLaws → (requests : List Request) (came : List ℕ) (c new : Client) (bytes : List ℕ) (result : Fed)
    → AreRequestsOf requests came c.since → ReadsOn c bytes result new
    → Has (requests ++ one_if (became_whole result new)) (came ++ read_as result bytes) new
read_has laws requests came c new bytes fed.NotReading has is = absurd is
read_has laws requests came c new bytes fed.More has is =
    λ stays. subst (λ rs. AreRequestsOf rs (came ++ bytes) new.since) (sym (append-nil requests))
    (subst (AreRequestsOf requests (came ++ bytes)) (sym (rested (c.facts.has_ended || (is_idle c.stage && c.facts.is_closing)) is.0))
    (laws.bytes requests came c.since bytes has)) where
      rested : (b : Bool) → new ≡ cond b (left (with_bytes c bytes)) (with_bytes c bytes) → new.since ≡ c.since ++ bytes
      rested true made = ap (λ (n : Client). n.since) made
      rested false made = ap (λ (n : Client). n.since) made
read_has laws requests came c new bytes fed.OwesContinue has is =
    λ stays. subst (λ rs. AreRequestsOf rs (came ++ bytes) new.since) (sym (append-nil requests))
    (subst (AreRequestsOf requests (came ++ bytes)) (sym (ap (λ (n : Client). n.since) is.1))
    (laws.bytes requests came c.since bytes has))
read_has laws requests came c new bytes fed.Whole has is =
    λ stays. subst (λ o. AreRequestsOf (requests ++ one_if o) (came ++ bytes) new.since)
    (sym (ap (λ (n : Client). waiting_request n.stage) is.1))
    (laws.request c.asked requests is.0 (came ++ bytes) (c.since ++ bytes) new.since
    (laws.bytes requests came c.since bytes has) is.2)
read_has laws requests came c new bytes (fed.Refused named) has is =
    λ stays. let goes = ap goes_on is.0 in absurd (cc)

-- a call that reads nothing, and after which the connection goes on only if it went on before
pub kept_has : (requests : List Request) (came : List ℕ) (old new : Client) → Has requests came old → new.since ≡ old.since
    → (goes_on new.stage ≡ true → goes_on old.stage ≡ true) → Has (requests ++ []) (came ++ []) new
kept_has requests came old new has same before stays =
    subst (λ rs. AreRequestsOf rs (came ++ []) new.since) (sym (append-nil requests))
    (subst (λ bytes. AreRequestsOf requests bytes new.since) (sym (append-nil came))
    (subst (AreRequestsOf requests came) (sym same) (has (before stays))))

pub left_has : (requests : List Request) (came : List ℕ) (old : Client) → Has requests came (left old)
left_has requests came old stays = absurd (cc)

pub reading_goes_on : (s : Stage) → reads s ≡ true → goes_on s ≡ true
reading_goes_on stage.Idle is = refl
reading_goes_on stage.Reading is = refl
reading_goes_on stage.Continuing is = refl
reading_goes_on (stage.Waiting request) is = refl
reading_goes_on stage.Inside is = refl
reading_goes_on (stage.PassingOn passing) is = absurd (cc)
reading_goes_on (stage.Refused named) is = absurd (cc)
reading_goes_on (stage.Answering answering) is = absurd (cc)
reading_goes_on (stage.Lingering lingering) is = absurd (cc)
reading_goes_on stage.Left is = absurd (cc)

pub owing_goes_on : (s : Stage) → owes_continue s ≡ true → goes_on s ≡ true
owing_goes_on stage.Idle is = refl
owing_goes_on stage.Reading is = refl
owing_goes_on stage.Continuing is = refl
owing_goes_on (stage.Waiting request) is = refl
owing_goes_on stage.Inside is = refl
owing_goes_on (stage.PassingOn passing) is = absurd (cc)
owing_goes_on (stage.Refused named) is = absurd (cc)
owing_goes_on (stage.Answering answering) is = absurd (cc)
owing_goes_on (stage.Lingering lingering) is = absurd (cc)
owing_goes_on stage.Left is = absurd (cc)

pub begun_since : (s : Stage) (bytes : List ℕ) (now : ℕ) (c : Client) → (begun_at s bytes now c).since ≡ c.since
begun_since stage.Idle [] now c = refl
begun_since stage.Idle (byte ∷ bytes) now c = refl
begun_since stage.Reading bytes now c = refl
begun_since stage.Continuing bytes now c = refl
begun_since (stage.Waiting request) bytes now c = refl
begun_since stage.Inside bytes now c = refl
begun_since (stage.PassingOn passing) bytes now c = refl
begun_since (stage.Refused named) bytes now c = refl
begun_since (stage.Answering answering) bytes now c = refl
begun_since (stage.Lingering lingering) bytes now c = refl
begun_since stage.Left bytes now c = refl

none_read : (result : Fed) → read_as result [] ≡ []
none_read fed.NotReading = refl
none_read fed.More = refl
none_read fed.OwesContinue = refl
none_read fed.Whole = refl
none_read (fed.Refused named) = refl

-- bytes that wait are read
pub waiting_read : SequenceLaws → (requests : List Request) (came : List ℕ) (c new : Client) (result : Fed) (whole : Option Request)
    → AreRequestsOf requests came c.since → ReadsOn c [] result new → whole ≡ became_whole result new
    → Has (requests ++ one_if whole) (came ++ []) new
waiting_read laws requests came c new result whole has read whole_is stays =
    subst (λ o. AreRequestsOf (requests ++ one_if o) (came ++ []) new.since) (sym whole_is)
    (subst (λ bytes. AreRequestsOf (requests ++ one_if (became_whole result new)) (came ++ bytes) new.since) (none_read result)
    (read_has laws requests came c new [] result has read stays))

-- nothing was read, and nothing changed
pub nothing_read : (requests : List Request) (came : List ℕ) (old new : Client) (result : Fed) (whole : Option Request)
    → Has requests came old → result ≡ fed.NotReading → new ≡ old → whole ≡ became_whole result new
    → Has (requests ++ one_if whole) (came ++ []) new
nothing_read requests came old new result whole has not_reading same whole_is stays =
    subst (λ o. AreRequestsOf (requests ++ one_if o) (came ++ []) new.since)
    (sym (whole_is ∙ ap (λ r. became_whole r new) not_reading))
    (kept_has requests came old new has (ap (λ (n : Client). n.since) same)
    (λ goes. ap (λ (n : Client). goes_on n.stage) (sym same) ∙ goes) stays)

-- a connection that leaves, or goes on as before
pub leaves_has : (b : Bool) (requests : List Request) (came : List ℕ) (old stays new : Client) → Has requests came old
    → stays.since ≡ old.since → stays.stage ≡ old.stage → new ≡ cond b (left stays) stays
    → Has (requests ++ []) (came ++ []) new
leaves_has true requests came old stays new has since_is stage_is is =
    λ goes. let out = ap (λ (n : Client). goes_on n.stage) is in absurd (cc)
leaves_has false requests came old stays new has since_is stage_is is =
    kept_has requests came old new has (ap (λ (n : Client). n.since) is ∙ since_is)
    (λ goes. ap goes_on (sym (ap (λ (n : Client). n.stage) is ∙ stage_is)) ∙ goes)
