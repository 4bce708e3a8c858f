-- The stages of a connection.
use Rattle.std.specs.Prelude.{ℕ, Bool, true, false, ◌||◌, List, [], Option, Some, None}
use Rattle.bg_http.specs.declared.request.Request.{Request}
use Rattle.bg_client_side.specs.declared.stage.Answering.{Answering}
use Rattle.bg_client_side.specs.declared.stage.Stage.{Stage}
use Rattle.bg_client_side.specs.declared.stage.Stage.TheVariants as stage

-- no byte came since the last answer
abbrev pub is_idle : Stage → Bool
is_idle stage.Idle = true
is_idle other = false

-- bytes of a request may come
abbrev pub reads : Stage → Bool
reads stage.Idle = true
reads stage.Reading = true
reads other = false

-- bytes are read from the socket: those of a request, or those that are discarded
abbrev pub takes_bytes : Stage → Bool
takes_bytes stage.Idle = true
takes_bytes stage.Reading = true
takes_bytes (stage.Lingering lingering) = true
takes_bytes other = false

-- `100 Continue` is owed
abbrev pub owes_continue : Stage → Bool
owes_continue stage.Continuing = true
owes_continue other = false

-- the request that waits for a seat
abbrev pub waiting_request : Stage → Option Request
waiting_request (stage.Waiting request) = Some request
waiting_request other = None

-- the request was handed out, and nothing of its response was passed on
abbrev pub is_handed_out : Stage → Bool
is_handed_out stage.Inside = true
is_handed_out other = false

-- a response is passed on as it comes
abbrev pub is_passing_on : Stage → Bool
is_passing_on (stage.PassingOn passing) = true
is_passing_on other = false

-- the request was handed out, and holds a seat
abbrev pub is_inside : Stage → Bool
is_inside s = is_handed_out s || is_passing_on s

-- an answer may be given
abbrev pub awaits_answer : Stage → Bool
awaits_answer (stage.Waiting request) = true
awaits_answer stage.Inside = true
awaits_answer (stage.PassingOn passing) = true
awaits_answer (stage.Refused named) = true
awaits_answer other = false

-- the request of the answer, or of the answer that is awaited, was read whole
abbrev pub was_whole : Stage → Bool
was_whole (stage.Waiting request) = true
was_whole stage.Inside = true
was_whole (stage.PassingOn passing) = true
was_whole (stage.Answering answering) = answering.was_whole
was_whole (stage.Lingering lingering) = lingering.was_whole
was_whole other = false

-- the stage has a timeout
abbrev pub has_timeout : Stage → Bool
has_timeout stage.Idle = true
has_timeout stage.Reading = true
has_timeout stage.Continuing = true
has_timeout (stage.PassingOn passing) = passing.waits
has_timeout (stage.Answering answering) = true
has_timeout (stage.Lingering lingering) = true
has_timeout other = false

-- the answer that is written
abbrev pub as_answering : Stage → Option Answering
as_answering (stage.Answering answering) = Some answering
as_answering other = None

-- what is left of the answer that is written
abbrev pub to_write : Stage → List ℕ
to_write (stage.Answering answering) = answering.text.rest
to_write other = []

-- a further request may be read on the connection
abbrev pub goes_on : Stage → Bool
goes_on (stage.PassingOn passing) = passing.goes_on
goes_on (stage.Refused named) = false
goes_on (stage.Answering answering) = answering.goes_on
goes_on (stage.Lingering lingering) = false
goes_on stage.Left = false
goes_on other = true

-- the connection has left
abbrev pub has_left : Stage → Bool
has_left stage.Left = true
has_left other = false

-- how far a request is at a stage; a request to which `100 Continue` is owed is as far as before and after it
abbrev pub rank : Stage → ℕ
rank stage.Idle = 0
rank stage.Reading = 1
rank stage.Continuing = 1
rank (stage.Waiting request) = 2
rank stage.Inside = 3
rank (stage.PassingOn passing) = 4
rank (stage.Refused named) = 5
rank (stage.Answering answering) = 6
rank (stage.Lingering lingering) = 7
rank stage.Left = 8
