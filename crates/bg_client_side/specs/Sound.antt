-- What holds at each stage of a connection.
use Rattle.std.specs.Prelude.{◌≡◌, ◌<◌, Bool, true, IsTrue, ⊤}
use Rattle.bg_client_side.specs.declared.facts.ClientFacts.{ClientFacts}
use Rattle.bg_client_side.specs.declared.stage.Stage.{Stage}
use Rattle.bg_client_side.specs.declared.stage.Stage.TheVariants as stage

-- the stream of requests has given no fault, if a further request may be read on the connection; and an answer after which
-- it goes on is not the last one
abbrev pub IsSound : Bool → Stage → ClientFacts → Type 0
IsSound is_open (stage.Refused named) facts = ⊤
IsSound is_open (stage.Answering answering) facts =
    IsTrue answering.goes_on → IsTrue is_open × (facts.answered < facts.settings.most_requests)
IsSound is_open (stage.Lingering lingering) facts = ⊤
IsSound is_open stage.Left facts = ⊤
IsSound is_open other facts = IsTrue is_open

-- no byte behind the request that waits, or is inside, was read as one of a further request
abbrev pub KeepsUnread : Stage → Bool → Type 0
KeepsUnread (stage.Waiting request) waits = waits ≡ true
KeepsUnread stage.Inside waits = waits ≡ true
KeepsUnread (stage.PassingOn passing) waits = waits ≡ true
KeepsUnread other waits = ⊤
