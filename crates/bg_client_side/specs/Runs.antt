-- The calls of a client's connection, one after the other.
use Rattle.std.specs.Prelude.{◌≡◌, ◌⊎◌, ℕ, ◌+◌, ◌<◌, ◌≤◌, Bool, true, false, List, [], ◌∷◌, ◌++◌, length, if◌then◌else◌, Option, Some, None}
use Rattle.bg_http.specs.declared.persistence.Persistence.{Persistence}
use Rattle.bg_http.specs.declared.request.Request.{Request}
use Rattle.bg_client_side.specs.Clients.{Client, Continues, Feeds, Writes, answered, begun_passing_on, closing, cut_off, discarded_at, ended, failed_at, looked, may_pass_on, passed_at, taken}
use Rattle.bg_client_side.specs.Stages.{awaits_answer, is_passing_on, rank, to_write, waiting_request}
use Rattle.bg_client_side.specs.declared.reading.Fed.{Fed}
use Rattle.bg_client_side.specs.declared.reading.Fed.TheVariants as fed

-- a call, with what it was given and what it gave. Where it reads, it has the request that became whole by it, if one did
pub data ClientCall : Type 0 where
  feeds : List ℕ → ℕ → Fed → Option Request → ClientCall
  continues : Fed → Option Request → ClientCall
  takes : Option Request → ClientCall
  -- the text of an answer, the memory that it takes, whether it keeps the connection, a moment, and whether it was awaited
  answers : List ℕ → ℕ → Persistence → ℕ → Bool → ClientCall
  -- whether the head of the response keeps the connection, a moment, and whether the response began to be passed on
  begins_passing_on : Persistence → ℕ → Bool → ClientCall
  -- these bytes of the response were written, whether more wait, a moment, and whether a response was passed on
  passes_on : List ℕ → Bool → ℕ → Bool → ClientCall
  -- whether a response was passed on
  cuts : Bool → ClientCall
  -- these bytes were written
  writes : List ℕ → ℕ → Fed → Option Request → ClientCall
  ends_input : ClientCall
  begins_closing : ClientCall
  fails : ClientCall
  discards : ℕ → ClientCall
  looks : ℕ → ClientCall

-- the request that became whole with this result
abbrev pub became_whole : Fed → Client → Option Request
became_whole fed.Whole new = waiting_request new.stage
became_whole other new = None

-- what the call says of the connection before and after it, by its contract. The bytes that were written are the first ones
-- of the rest of the answer
abbrev pub Calls : Client → ClientCall → Client → Type 0
Calls old (feeds bytes now result whole) new = Feeds old bytes now result new × (whole ≡ became_whole result new)
Calls old (continues result whole) new = Continues old result new × (whole ≡ became_whole result new)
Calls old (takes request) new = (request ≡ waiting_request old.stage) × (new ≡ taken request old)
Calls old (answers text weight persistence now awaited) new =
    (awaited ≡ awaits_answer old.stage)
    × (new ≡ answered (record { sent = []; rest = text; weight = weight }) persistence now old)
Calls old (begins_passing_on persistence now begun) new =
    (begun ≡ may_pass_on old) × (new ≡ begun_passing_on persistence now old)
Calls old (passes_on bytes waits now passes) new =
    (passes ≡ is_passing_on old.stage) × (new ≡ passed_at old.stage (length bytes) waits now old)
Calls old (cuts was) new = (was ≡ is_passing_on old.stage) × (new ≡ cut_off old)
Calls old (writes bytes now result whole) new =
    ((rest : List ℕ) × (to_write old.stage ≡ bytes ++ rest)) × Writes old (length bytes) now result new
    × (whole ≡ became_whole result new)
Calls old ends_input new = new ≡ ended old
Calls old begins_closing new = new ≡ closing old
Calls old fails new = new ≡ failed_at old.stage old
Calls old (discards count) new = new ≡ discarded_at old.stage count old
Calls old (looks now) new = new ≡ looked old now

-- these calls, one after the other
abbrev pub Runs : Client → List ClientCall → Client → Type 0
Runs old [] new = old ≡ new
Runs old (call ∷ more) new = (between : Client) × Calls old call between × Runs between more new

abbrev pub one_if : Option Request → List Request
one_if None = []
one_if (Some request) = request ∷ []

-- the requests that became whole by a call, and by calls in their sequence
abbrev pub whole_by : ClientCall → List Request
whole_by (feeds bytes now result whole) = one_if whole
whole_by (continues result whole) = one_if whole
whole_by (writes bytes now result whole) = one_if whole
whole_by other = []

abbrev pub whole_in : List ClientCall → List Request
whole_in [] = []
whole_in (call ∷ more) = whole_by call ++ whole_in more

-- the bytes that a call read: none if the connection was not reading
abbrev pub read_as : Fed → List ℕ → List ℕ
read_as fed.NotReading bytes = []
read_as other bytes = bytes

abbrev pub read_by : ClientCall → List ℕ
read_by (feeds bytes now result whole) = read_as result bytes
read_by other = []

abbrev pub read_in : List ClientCall → List ℕ
read_in [] = []
read_in (call ∷ more) = read_by call ++ read_in more

-- the bytes of a response that were passed on
abbrev pub passed_by : ClientCall → List ℕ
passed_by (passes_on bytes waits now passes) = if passes then bytes else []
passed_by other = []

abbrev pub passed_in : List ClientCall → List ℕ
passed_in [] = []
passed_in (call ∷ more) = passed_by call ++ passed_in more

-- the text of an answer that was given and awaited, and the bytes of a response that were passed on
abbrev pub given_by : ClientCall → List ℕ
given_by (answers text weight persistence now awaited) = if awaited then text else []
given_by other = passed_by other

abbrev pub given_in : List ClientCall → List ℕ
given_in [] = []
given_in (call ∷ more) = given_by call ++ given_in more

-- what was written
abbrev pub written_by : ClientCall → List ℕ
written_by (writes bytes now result whole) = bytes
written_by other = passed_by other

abbrev pub written_in : List ClientCall → List ℕ
written_in [] = []
written_in (call ∷ more) = written_by call ++ written_in more

abbrev pub count_if : Bool → ℕ
count_if true = 1
count_if false = 0

-- a result after which an answer is awaited: a request became whole, or what came is no request
abbrev pub asks_answer : Fed → Bool
asks_answer fed.Whole = true
asks_answer (fed.Refused named) = true
asks_answer other = false

abbrev pub asked_by : ClientCall → ℕ
asked_by (feeds bytes now result whole) = count_if (asks_answer result)
asked_by (continues result whole) = count_if (asks_answer result)
asked_by (writes bytes now result whole) = count_if (asks_answer result)
asked_by other = 0

abbrev pub asked_in : List ClientCall → ℕ
asked_in [] = 0
asked_in (call ∷ more) = asked_by call + asked_in more

-- how many answers were given that were awaited; a response that was cut counts as one
abbrev pub answers_by : ClientCall → ℕ
answers_by (answers text weight persistence now awaited) = count_if awaited
answers_by (cuts was) = count_if was
answers_by other = 0

abbrev pub answers_in : List ClientCall → ℕ
answers_in [] = 0
answers_in (call ∷ more) = answers_by call + answers_in more

-- the pair of the number of answered requests and the stage does not go back
abbrev pub IsNoEarlier : Client → Client → Type 0
IsNoEarlier old new =
    (old.facts.answered < new.facts.answered)
    ⊎ ((new.facts.answered ≡ old.facts.answered) × (rank old.stage ≤ rank new.stage))
