use Rattle.std.specs.Prelude.{codes}
use Rattle.bg_http.specs.Elements.{elements_named}
use Rattle.bg_http.proofs.NamedCodings.{codings_found}
use Rattle.bg_http.proofs.codings.named_codings.Goals as goal

pub returns : goal.returns
returns c =
    let seen = rw c.in-None.ensures.steps.0 at c.loop-element.invariant in
    let both = codings_found (elements_named (codes "transfer-encoding") c.args.fields.now) c.loop-element.found seen in
    record { count = both.0; chunked_last = both.1 }
