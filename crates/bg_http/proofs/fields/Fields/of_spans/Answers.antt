use Rattle.bg_http.proofs.TextParts.{fields_of_spans}
use Rattle.bg_http.proofs.fields.Fields.of_spans.Goals as goal

pub returns : goal.returns
returns c =
    fields_of_spans c.args.text.now _ c.end_of.result _ c.args.spans.now c.in_ok-copy.ensures.items c.in_ok-places.ensures.spans c.end_of.ensures.within
