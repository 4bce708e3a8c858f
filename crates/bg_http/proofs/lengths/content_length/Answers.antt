use Rattle.std.proofs.Common.{sym, ◌∙◌, ap}
use Rattle.std.specs.List.{list_all}
use Rattle.bg_http.specs.Lengths.{has_digits}
use Rattle.bg_http.proofs.GivenLengths.{length_of_all}
use Rattle.bg_http.proofs.lengths.content_length.Goals as goal

pub returns-then-all_have_digits : goal.returns-then-all_have_digits
returns-then-all_have_digits c =
    sym (length_of_all _ _ c.in-Some.first.now c.without_zeros-digits.result.now _ (sym c.elements_named.ensures ∙ c.in-Some.ensures.steps) c.without_zeros-digits.ensures
    (c.if-all_have_digits.ensures ∙ ap (list_all (has_digits c.without_zeros-digits.result.now)) c.elements_named-elements.ensures))

pub returns-else-all_have_digits : goal.returns-else-all_have_digits
returns-else-all_have_digits c =
    sym (length_of_all _ _ c.in-Some.first.now c.without_zeros-digits.result.now _ (sym c.elements_named.ensures ∙ c.in-Some.ensures.steps) c.without_zeros-digits.ensures
    (c.if-all_have_digits.ensures ∙ ap (list_all (has_digits c.without_zeros-digits.result.now)) c.elements_named-elements.ensures))
