use Rattle.bg_http_read.proofs.ForwardedHeads.{good_via}
use Rattle.bg_http_read.proofs.PlainHeads.{words_plain}
use Rattle.bg_http_read.proofs.laws.written_fields_are_plain.Goals as goal

pub returns-clause-via : goal.returns-clause-via
returns-clause-via c = good_via

pub returns-clause-words : goal.returns-clause-words
returns-clause-words c = words_plain
