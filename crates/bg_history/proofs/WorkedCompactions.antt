-- Worked examples of compacted histories. Read each from its last line up: the oldest entry is first.
use Rattle.std.proofs.Common.{◌≡◌, true, false, List, [], ◌∷◌, Some, refl}
use Rattle.bg_history.specs.declared.entry.Entry.{Entry}
use Rattle.bg_history.specs.declared.entry.Entry.TheVariants.{Tick, Available, Enter, Leave}
use Rattle.bg_revisions.specs.declared.revision.Service.TheVariants as service
use Rattle.bg_history.proofs.Examples.{plain, opening}
use Rattle.bg_history.specs.Requests.{given, held_by, calls_of}
use Rattle.bg_history.specs.Steps.{all_allowed}
use Rattle.bg_history.specs.Compacted.{compacted, closed_after}
use Rattle.bg_history.specs.Sound.{is_sound}

-- two requests left, and one is open
abbrev two_closed : List Entry
two_closed =
    Enter 0 service.Active 3 1 9002
    ∷ Leave 0 1 1
    ∷ Leave 1 2 1
    ∷ Enter 1 service.Active 2 1 9001
    ∷ Enter 0 service.Active 1 1 9002
    ∷ Available 1 2
    ∷ []

two_closed_is_legal : all_allowed plain opening two_closed ≡ true
two_closed_is_legal = refl

two_closed_is_sound : is_sound 4 two_closed ≡ true
two_closed_is_sound = refl

-- the open request stays, and each closed request counts for its seat
two_closed-compacted : compacted two_closed ≡ Enter 0 service.Active 3 1 9002 ∷ Available 1 2 ∷ []
two_closed-compacted = refl

two_closed-counts : closed_after two_closed (7 ∷ 0 ∷ 0 ∷ 0 ∷ []) ≡ 8 ∷ 1 ∷ 0 ∷ 0 ∷ []
two_closed-counts = refl

-- seat 0 has three answered calls, also after the compaction
two_closed-calls : calls_of (0 ∷ 0 ∷ 0 ∷ 0 ∷ []) 0 two_closed ≡ 3
two_closed-calls = refl

compacted-calls : calls_of (1 ∷ 1 ∷ 0 ∷ 0 ∷ []) 0 (compacted two_closed) ≡ 3
compacted-calls = refl

two_closed-once : compacted (compacted two_closed) ≡ compacted two_closed
two_closed-once = refl

-- of consecutive ticks, only the newest stays
ticks-compacted : compacted (Tick 3 ∷ Tick 2 ∷ Tick 2 ∷ Available 1 2 ∷ Tick 1 ∷ []) ≡ Tick 3 ∷ Available 1 2 ∷ Tick 1 ∷ []
ticks-compacted = refl

-- an open request between two ticks keeps both of them
parted : compacted (Tick 2 ∷ Enter 0 service.Active 1 1 9002 ∷ Tick 1 ∷ []) ≡ Tick 2 ∷ Enter 0 service.Active 1 1 9002 ∷ Tick 1 ∷ []
parted = refl

-- once the request is closed, only the newer tick stays
joined : compacted (Leave 0 1 1 ∷ Tick 2 ∷ Enter 0 service.Active 1 1 9002 ∷ Tick 1 ∷ []) ≡ Tick 2 ∷ []
joined = refl

-- two requests enter, and the first leaves
abbrev one_left : List Entry
one_left = Leave 0 1 1 ∷ Enter 1 service.Active 2 1 9001 ∷ Enter 0 service.Active 1 1 9002 ∷ Available 1 2 ∷ []

-- the two entries of the first request are dropped
one_left-compacted : compacted one_left ≡ Enter 1 service.Active 2 1 9001 ∷ Available 1 2 ∷ []
one_left-compacted = refl

-- of two later ticks, one is dropped
two_ticks_later : compacted (Tick 2 ∷ Tick 1 ∷ compacted one_left) ≡ Tick 2 ∷ compacted one_left
two_ticks_later = refl

-- two requests enter and leave, and two more at moment 1
abbrev four_closed : List Entry
four_closed =
    Leave 0 4 1
    ∷ Enter 0 service.Active 4 1 9001
    ∷ Leave 0 3 1
    ∷ Enter 0 service.Active 3 1 9002
    ∷ Tick 1
    ∷ Leave 0 2 1
    ∷ Enter 0 service.Active 2 1 9001
    ∷ Leave 0 1 1
    ∷ Enter 0 service.Active 1 1 9002
    ∷ Available 1 2
    ∷ []

-- eight of the ten entries are dropped
four_closed-compacted : compacted four_closed ≡ Tick 1 ∷ Available 1 2 ∷ []
four_closed-compacted = refl

four_closed-counts : closed_after four_closed (0 ∷ []) ≡ 4 ∷ []
four_closed-counts = refl

-- the next request has number 5, so it gets the second port
four_closed-given : given (4 ∷ []) (compacted four_closed) ≡ 4
four_closed-given = refl

fifth_may_enter : all_allowed plain opening (Enter 0 service.Active 5 1 9002 ∷ Tick 2 ∷ compacted four_closed) ≡ true
fifth_may_enter = refl

-- an open request stays, and its seat still holds it
open_request-stays : held_by 0 (compacted (Tick 1 ∷ Enter 0 service.Active 1 1 9002 ∷ Available 1 2 ∷ []))
    ≡ Some (record { seat = 0; number = 1; revision = 1; port = 9002 })
open_request-stays = refl

-- entries that no book makes: a Leave without its Enter, a Leave from another seat, and a repeated number
leaves_nothing : is_sound 4 (Leave 0 1 1 ∷ []) ≡ false
leaves_nothing = refl

leaves_elsewhere : is_sound 4 (Leave 1 1 1 ∷ Enter 0 service.Active 1 1 9002 ∷ []) ≡ false
leaves_elsewhere = refl

leaves_twice : is_sound 4 (Leave 0 1 1 ∷ Leave 0 1 1 ∷ Enter 0 service.Active 1 1 9002 ∷ []) ≡ false
leaves_twice = refl

enters_twice : is_sound 4 (Enter 0 service.Active 1 1 9002 ∷ Leave 0 1 1 ∷ Enter 0 service.Active 1 1 9002 ∷ []) ≡ false
enters_twice = refl

no_such_seat : is_sound 4 (Enter 4 service.Active 1 1 9002 ∷ []) ≡ false
no_such_seat = refl
