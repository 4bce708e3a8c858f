use Rattle.std.specs.Prelude.{codes}
use Rattle.bg_http.specs.Elements.{elements_named}
use Rattle.bg_http.proofs.GivenLengths.{length_has_digits}
use Rattle.bg_http.proofs.response_rules.framing_by_length.Goals as goal

pub value_within-requires : goal.value_within-requires
value_within-requires c =
    length_has_digits (elements_named (codes "content-length") c.args.head.now.fields) c.in-Is.digits.now c.in-Is.ensures
