use Rattle.std.proofs.Common.{◌≡◌, map, take}
use Rattle.bg_http.specs.Elements.{field_lent}
use Rattle.bg_http.proofs.fields.Fields.new.Given as goal

abbrev pub invariant-loop-name : goal.invariant-loop-name
invariant-loop-name l = l.fields ≡ map field_lent (take l.name-index l.pairs)
