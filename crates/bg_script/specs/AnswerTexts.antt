-- The texts of the answers to the lines of a script.
use Rattle.std.specs.Prelude.{ℕ, Bool, true, false, List, ◌++◌, codes}
use Rattle.std.specs.Fmt.{decimal}
use Rattle.bg_rollout.specs.FaultNames.{open_fault_name}
use Rattle.bg_operator.specs.FaultNames.{line_fault_name}
use Rattle.bg_book.specs.declared.calls.Reply.TheVariants.{Done}
use Rattle.bg_report.specs.Replies.{refused, reply_text}
use Rattle.bg_script.specs.declared.answer.Answer.{Answer}
use Rattle.bg_script.specs.declared.answer.Answer.TheVariants.{Opened, OpenRefused, NotOpen, AlreadyOpen, Made, Compacted, MarkedDown, BadPorts, NotHere, TooLate, Unsaved, JournalFailed, OutOfMemory, Unread}

-- the line of an answer
abbrev pub answer_text : Answer → List ℕ
answer_text Opened = codes "ok 0\n"
answer_text (OpenRefused fault) = refused (open_fault_name fault)
answer_text NotOpen = refused (codes "NotOpen")
answer_text AlreadyOpen = refused (codes "AlreadyOpen")
answer_text (Made answer) = reply_text answer
answer_text (Compacted count) = codes "compacted " ++ decimal count ++ codes "\n"
answer_text (MarkedDown count) = codes "ok " ++ decimal count ++ codes "\n"
answer_text BadPorts = refused (codes "BadPorts")
answer_text NotHere = refused (codes "NotHere")
answer_text TooLate = refused (codes "TooLate")
answer_text (Unsaved count) = codes "unsaved " ++ decimal count ++ codes "\n"
answer_text JournalFailed = refused (codes "JournalFailed")
answer_text OutOfMemory = refused (codes "OutOfMemory")
answer_text (Unread fault) = codes "fault " ++ line_fault_name fault ++ codes "\n"

-- the answer counts as a fault, which makes the exit status 1
abbrev pub is_fault : Answer → Bool
is_fault (Unread fault) = true
is_fault _ = false

-- the line was carried out: it opened the book, gave an event that the book took, or told which ports are down
abbrev pub was_carried_out : Answer → Bool
was_carried_out Opened = true
was_carried_out (Made (Done outcomes)) = true
was_carried_out (MarkedDown count) = true
was_carried_out (Unsaved outcomes) = true
was_carried_out _ = false

-- the journal is known to lack an order, or not known to keep it
abbrev pub lacks_order : Answer → Bool
lacks_order (Unsaved outcomes) = true
lacks_order JournalFailed = true
lacks_order _ = false
