use Rattle.std.specs.Prelude.{IfOk, OnErr}
use Rattle.std.proofs.Common.{◌≡◌, ◌≤◌, [], ℕ, Result, Ok, Err, refl}
use Rattle.bg_history.specs.declared.control.Control.{Control}
use Rattle.bg_rollout.specs.declared.control_fault.ControlFault.{ControlFault}
use Rattle.bg_rollout.specs.declared.control_fault.ControlFault.TheVariants.{OutOfMemory}
use Rattle.bg_rollout.specs.Changes.{Stepped, with_past}
use Rattle.bg_rollout.specs.Refusals.{AnswersBy, control_refusal, event_of}
use Rattle.bg_rollout.specs.Routing.{Routing}
use Rattle.bg_book.specs.Desks.{control_reply}
use Rattle.bg_book.specs.Runs.{ControlStep}
use Rattle.bg_book.proofs.book.Book.control.Goals as goal

-- the answer as a reply
replied : (b new : Routing) (event : Control) (answer : Result ℕ ControlFault) → AnswersBy (control_refusal b event) OutOfMemory answer
    → IfOk answer (λ n. Stepped b.strategy (event_of b event) b.past new.past n) → IfOk answer (λ n. n ≤ 140) → IfOk answer (λ n. new ≡ with_past b new.past b.seats)
    → OnErr answer (new ≡ b) → ControlStep b [] event (control_reply answer) new []
replied b new event (Ok n) none step few book unchanged = (none, few, book, refl, step)
replied b new event (Err e) refused step few book unchanged = (refused, (unchanged, refl))

pub returns : goal.returns
returns g c =
    let answer = c.record_event-answer.ensures in record {
      headline = c.headline.ensures;
      step = replied c.args.self.now c.record_event-answer.new.self c.args.control.now c.record_event-answer.result answer.refusal answer.step answer.few answer.book answer.unchanged;
      new_headline = c.headline-2.ensures;
    }
