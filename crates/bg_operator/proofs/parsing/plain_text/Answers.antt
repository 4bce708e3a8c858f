use Rattle.std.proofs.Common.{rules}
use Rattle.bg_operator.proofs.PlainLines.{printable_is_text}
use Rattle.bg_operator.proofs.parsing.plain_text.Goals as goal

pub returns : goal.returns
returns c = search (rules, printable_is_text c.args.line.now)
