-- Which lines of operators make a decision.
use Rattle.std.specs.Prelude.{Bool, true, false, Result, Ok}
use Rattle.bg_operator.specs.declared.command.Command.{Command}
use Rattle.bg_operator.specs.declared.command.Command.TheVariants.{Before, Control, Open, Quit}
use Rattle.bg_operator.specs.declared.line_fault.LineFault.{LineFault}
use Rattle.bg_history.specs.declared.control.Control.{Control as Event}
use Rattle.bg_history.specs.declared.control.Control.TheVariants.{Available, Tick}

-- an event that somebody decides: each but a moment and a number of available endpoints
abbrev pub is_decision : Event → Bool
is_decision (Tick moment) = false
is_decision (Available revision size) = false
is_decision _ = true

-- whether a line opens the book, changes the rollout by a decision, or ends the program
abbrev pub makes_decision : Result Command LineFault → Bool
makes_decision (Ok (Control event)) = is_decision event
makes_decision (Ok (Before milliseconds event)) = is_decision event
makes_decision (Ok (Open name ports)) = true
makes_decision (Ok Quit) = true
makes_decision _ = false

-- whether a line gives an event to the book
abbrev pub is_order : Result Command LineFault → Bool
is_order (Ok (Control event)) = true
is_order (Ok (Before milliseconds event)) = true
is_order _ = false
