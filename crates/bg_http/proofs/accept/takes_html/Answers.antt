use Rattle.std.proofs.Common.{◌≡◌, ℕ, ◌+◌, Bool, true, false, not, List, map, take, drop, refl, ap, sym, ◌∙◌}
use Rattle.std.specs.Prelude.{Some, ◌&&◌, position}
use Rattle.std.specs.List.{list_any}
use Rattle.std.proofs.lemmas.List.{take_rest}
use Rattle.bg_http.specs.Accepts.{is_html, is_html_with, is_semicolon, is_zero_weight, parts, takes_html}
use Rattle.bg_http.specs.Elements.{trimmed}
use Rattle.bg_http.proofs.Splits.{split_at_first, split_nowhere}
use Rattle.bg_http.proofs.accept.takes_html.Goals as goal

with_parameters : (element : List ℕ) (place : ℕ) (html zero : Bool) → Some place ≡ position is_semicolon element
    → html ≡ is_html (trimmed (take place element))
    → zero ≡ list_any is_zero_weight (parts (drop (place + 1) element)) → (html && not zero) ≡ takes_html element
with_parameters element place html zero first media weights =
    rw (media, weights) (sym (ap (λ parts. is_html_with (map trimmed parts)) (split_at_first is_semicolon element place first)))

and_more : (b : Bool) → b ≡ (b && true)
and_more true = refl
and_more false = refl

pub returns-then-is_html : goal.returns-then-is_html
returns-then-is_html c =
    with_parameters c.args.element.now c.in-Some.place true c.has_zero_weight.result c.in-Some.ensures c.if-is_html.ensures
    (rw (take_rest c.args.element.now (c.in-Some.place + 1)) at c.has_zero_weight.ensures)

pub returns-else-is_html : goal.returns-else-is_html
returns-else-is_html c =
    c.if-is_html.false
    ∙ with_parameters c.args.element.now c.in-Some.place false _ c.in-Some.ensures c.if-is_html.ensures refl

pub returns-in-None : goal.returns-in-None
returns-in-None c =
    c.is_html-in-None.ensures ∙ and_more (is_html (trimmed c.args.element.now))
    ∙ sym (ap (λ parts. is_html_with (map trimmed parts)) (split_nowhere is_semicolon c.args.element.now c.in-None.ensures))
