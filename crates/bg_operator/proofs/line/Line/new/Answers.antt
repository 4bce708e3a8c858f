use Rattle.std.proofs.Common.{◌≡◌, ap, subst, ◌∙◌}
use Rattle.bg_operator.specs.OperatorLines.{IsRead, text_of}
use Rattle.bg_operator.proofs.WholeLines.{one_line}
use Rattle.bg_operator.proofs.line.Line.new.Goals as goal

pub returns-clause-one : goal.returns-clause-one
returns-clause-one c one =
    let bytes = c.args.bytes.now in
    let same : c.deref.result.now ≡ text_of bytes = c.deref.ensures.value ∙ c.strip_end.ensures ∙ ap text_of c.in_ok-text.ensures.items in
    let read = subst (λ text. IsRead text c.read_text-read.result.0 c.read_text-read.result.1) same c.read_text-read.ensures in
    (text_of bytes, one_line bytes one, read.0, read.1)
