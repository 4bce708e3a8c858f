-- The laws of a client's connection.
use Rattle.std.specs.Prelude.{◌≡◌, ℕ, ◌+◌, true, false, List, [], ◌++◌, None}
use Rattle.bg_http.specs.declared.request.Request.{Request}
use Rattle.bg_http_read.specs.Sequences.{AreRequestsOf}
use Rattle.bg_client_side.specs.Clients.{Client, accepted}
use Rattle.bg_client_side.specs.Runs.{Calls, ClientCall, IsNoEarlier, Runs, answers_by, answers_in, asked_in, count_if, given_in, passed_in, read_in, whole_in, written_in}
use Rattle.bg_client_side.specs.Stages.{awaits_answer, goes_on, has_left, is_idle, is_inside, is_passing_on, to_write, waiting_request}
use Rattle.bg_client_side.specs.declared.facts.ClientSettings.{ClientSettings}

-- what is left of the answer at hand and the answers that were given are, in their sequence, what was written and what is
-- left; a part is cut off only if the connection has left
abbrev pub IsWrittenInSequence : Client → List ClientCall → Client → Type 0
IsWrittenInSequence old calls new =
    Runs old calls new
    → (cut : List ℕ) × (to_write old.stage ++ given_in calls ≡ written_in calls ++ to_write new.stage ++ cut)
    × (has_left new.stage ≡ false → cut ≡ [])

-- each request that became whole, and each refusal, was answered once, except one for which an answer is awaited; and one
-- that was not answered, if the connection has left. A response that was cut counts as an answer
abbrev pub IsAnsweredOnce : Client → List ClientCall → Client → Type 0
IsAnsweredOnce old calls new =
    Runs old calls new
    → (lost : ℕ) × (count_if (awaits_answer old.stage) + asked_in calls
    ≡ answers_in calls + count_if (awaits_answer new.stage) + lost)
    × (has_left new.stage ≡ false → lost ≡ 0)

-- calls do not lead back
abbrev pub GoesForward : Client → List ClientCall → Client → Type 0
GoesForward old calls new = Runs old calls new → IsNoEarlier old new

-- a connection that has left stays so, gives no request and writes nothing
abbrev pub StaysLeft : Client → List ClientCall → Client → Type 0
StaysLeft old calls new =
    Runs old calls new → has_left old.stage ≡ true
    → (has_left new.stage ≡ true) × (whole_in calls ≡ []) × (written_in calls ≡ [])

-- a connection whose request is inside leaves only by the answer to it, or as its response is cut
abbrev pub LeavesByAnswer : Client → ClientCall → Client → Type 0
LeavesByAnswer old call new =
    Calls old call new → is_inside old.stage ≡ true → has_left new.stage ≡ true → answers_by call ≡ 1

-- what calls did while a response was passed on: what they wrote is what they passed on, they read nothing, and the response
-- is passed on still, after which a further request may be read, or not, as before
pub record PassedOnAlone (old : Client) (calls : List ClientCall) (new : Client) : Type 0 where
  pub only_it : written_in calls ≡ passed_in calls
  pub none_read : read_in calls ≡ []
  pub none_whole : whole_in calls ≡ []
  pub passes_still : is_passing_on new.stage ≡ true
  pub goes_on_as_before : goes_on new.stage ≡ goes_on old.stage

-- so it is from the begin of the response until it is answered or cut
abbrev pub PassesOnAlone : Client → List ClientCall → Client → Type 0
PassesOnAlone old calls new =
    Runs old calls new → is_passing_on old.stage ≡ true → answers_in calls ≡ 0 → PassedOnAlone old calls new

-- an idle connection has no request that waits, is inside or awaits an answer, and no part of an answer is left
pub record HasNone (c : Client) : Type 0 where
  pub none_waits : waiting_request c.stage ≡ None
  pub none_inside : is_inside c.stage ≡ false
  pub none_awaits : awaits_answer c.stage ≡ false
  pub nothing_left : to_write c.stage ≡ []

abbrev pub IdleHasNone : Client → Type 0
IdleHasNone c = is_idle c.stage ≡ true → HasNone c

-- a connection that is idle has answered all that came to it
abbrev pub IdleHasAnswered : ClientSettings → ℕ → List ClientCall → Client → Type 0
IdleHasAnswered settings now calls new =
    Runs (accepted settings now) calls new → is_idle new.stage ≡ true → answers_in calls ≡ asked_in calls

-- the requests that became whole are the sequence of the bytes that were read, while the connection may go on
abbrev pub GivesTheSequence : Client → List ClientCall → Client → List Request → List ℕ → Type 0
GivesTheSequence old calls new requests came =
    Runs old calls new → (goes_on old.stage ≡ true → AreRequestsOf requests came old.since)
    → goes_on new.stage ≡ true → AreRequestsOf (requests ++ whole_in calls) (came ++ read_in calls) new.since
