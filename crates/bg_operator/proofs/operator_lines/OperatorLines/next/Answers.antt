use Rattle.bg_operator.specs.Reading.{Gives}
use Rattle.bg_operator.specs.OperatorLines.{NextIs}
use Rattle.bg_operator.proofs.Pieces.{Known-weaker}
use Rattle.bg_operator.proofs.operator_lines.OperatorLines.next.Goals as goal

pub returns : goal.returns
returns g c =
    Known-weaker (Gives c.in_ok-found.found c.next_line.new.line.items) (NextIs c.line_read-read.result.0 c.line_read-read.result.1) _ _
    (λ xs ys given. c.line_read-read.ensures xs ys (rw c.deref.ensures.value given))
    c.in_ok-found.ensures
