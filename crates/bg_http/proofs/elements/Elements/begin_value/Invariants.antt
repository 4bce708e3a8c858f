use Rattle.std.proofs.Common.{◌≡◌, length}
use Rattle.bg_http.specs.Held.{elements_left}
use Rattle.bg_http.proofs.elements.Elements.begin_value.Given as goal

abbrev pub invariant-loop-self : goal.invariant-loop-self
invariant-loop-self l = elements_left l.self ≡ elements_left l.fn.self

abbrev pub decreases-loop-self : goal.decreases-loop-self
decreases-loop-self l = length l.self.fields
