use Rattle.std.proofs.Common.{◌≡◌, fold}
use Rattle.std.specs.Prelude.{codes}
use Rattle.bg_http.specs.Elements.{elements_named}
use Rattle.bg_http.specs.Held.{elements_left}
use Rattle.bg_http.specs.Held.{add_coding, no_codings}
use Rattle.bg_http.proofs.codings.named_codings.Given as goal

abbrev pub invariant-loop-element : goal.invariant-loop-element
invariant-loop-element l =
    fold add_coding l.found (elements_left l.element-iterator) ≡ fold add_coding no_codings (elements_named (codes "transfer-encoding") l.fields)
