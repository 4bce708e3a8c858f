use Rattle.std.proofs.Common.{◌+◌, map, ap, ◌∙◌, refl}
use Rattle.std.proofs.lemmas.List.{take_rest}
use Rattle.bg_http.specs.Elements.{trimmed, is_comma}
use Rattle.bg_http.proofs.Splits.{split_at_first, split_nowhere}
use Rattle.bg_http.proofs.elements.first_element.Goals as goal

pub returns-in-Some : goal.returns-in-Some
returns-in-Some c =
    ap (map trimmed) (split_at_first is_comma c.args.value.now c.in-Some.place c.in-Some.ensures)
    ∙ rw (take_rest c.args.value.now (c.in-Some.place + 1), c.trim.ensures) refl

pub returns-in-None : goal.returns-in-None
returns-in-None c =
    ap (map trimmed) (split_nowhere is_comma c.args.value.now c.in-None.ensures)
    ∙ rw c.trim-in-None.ensures refl
