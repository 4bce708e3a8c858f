-- How the reply of a book is written.
use Rattle.std.specs.Prelude.{ℕ, List, ◌++◌, codes}
use Rattle.std.specs.Fmt.{decimal}
use Rattle.bg_rollout.specs.FaultNames.{enter_fault_name, control_fault_name}
use Rattle.bg_rollout.specs.declared.ticket.Ticket.{Ticket}
use Rattle.bg_rollout.specs.declared.ticket.Left.{Left}
use Rattle.bg_book.specs.declared.calls.Reply.{Reply}
use Rattle.bg_book.specs.declared.calls.Reply.TheVariants as reply

-- the line of a refusal
abbrev pub refused : List ℕ → List ℕ
refused name = codes "refused " ++ name ++ codes "\n"

-- the line of a request that entered
abbrev pub entered_text : Ticket → List ℕ
entered_text t =
    codes "entered " ++ decimal t.number
    ++ codes " revision " ++ decimal t.revision
    ++ codes " port " ++ decimal t.port ++ codes "\n"

-- the line of a request that left
abbrev pub left_text : Left → List ℕ
left_text l =
    codes "left " ++ decimal l.number ++ codes " revision " ++ decimal l.revision ++ codes "\n"

-- the line of a reply
abbrev pub reply_text : Reply → List ℕ
reply_text (reply.Entered ticket) = entered_text ticket
reply_text (reply.EnterRefused fault) = refused (enter_fault_name fault)
reply_text (reply.Left left) = left_text left
reply_text (reply.Done outcomes) = codes "ok " ++ decimal outcomes ++ codes "\n"
reply_text (reply.ControlRefused fault) = refused (control_fault_name fault)
reply_text reply.NoSuchSeat = refused (codes "NoSuchSeat")
reply_text reply.SeatBusy = refused (codes "SeatBusy")
reply_text reply.SeatIdle = refused (codes "SeatIdle")
