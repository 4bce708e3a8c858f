use Rattle.std.proofs.Common.{◌≡◌, ℕ, Bool, List, [], ◌∷◌, ◌||◌, map, rules, tests, refl, ap, sym, ◌∙◌}
use Rattle.std.specs.List.{list_any, slice_split}
use Rattle.std.proofs.lemmas.Iterator.Search.{any_from_yields_List}
use Rattle.std.proofs.lemmas.Iterator.Splits.{YieldsList-from_slice_split}
use Rattle.bg_http.specs.Accepts.{is_semicolon, is_zero_weight}
use Rattle.bg_http.specs.Elements.{trimmed}
use Rattle.bg_http.proofs.accept.has_zero_weight.Goals as goal

any_map : (p : List ℕ → Bool) (h : List ℕ → List ℕ) (xs : List (List ℕ))
    → list_any p (map h xs) ≡ list_any (λ x. p (h x)) xs
any_map p h [] = refl
any_map p h (x ∷ xs) = ap (λ t. p (h x) || t) (any_map p h xs)

pub returns : goal.returns
returns c =
    any_from_yields_List (λ part. is_zero_weight (trimmed part)) c.any.new.self _ _ c.any.ensures.ran
    (YieldsList-from_slice_split _ is_semicolon c.args.parameters.now c.split.ensures.rest c.split.ensures.done c.split.ensures.closure (λ x b q k. search (rules, tests)))
    (λ x b q k. search (rules, tests))
    ∙ sym (any_map is_zero_weight trimmed (slice_split is_semicolon c.args.parameters.now))
