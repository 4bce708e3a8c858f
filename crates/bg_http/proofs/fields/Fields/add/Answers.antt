use Rattle.std.proofs.Common.{◌∷◌, [], ◌++◌, List, ℕ, ap, length, ◌∙◌}
use Rattle.bg_http.specs.declared.field_place.FieldPlace.{FieldPlace}
use Rattle.bg_http.proofs.TextParts.{fields_grown, fields_kept, field_added, on_err_holds}
use Rattle.bg_http.proofs.fields.Fields.add.Goals as goal

pub returns-in_err-value-clause-err : goal.returns-in_err-value-clause-err
returns-in_err-value-clause-err c =
    let text = c.in_err-value.ensures.err ∙ c.in_ok-name.ensures.ok ∙ ap (λ t. t ++ c.args.name.now) c.reserve-2.ensures.items in
    on_err_holds c.from_residual-in_err-value.result
    (rw (text, c.reserve.ensures.items) (fields_grown c.self.inside.text.items c.args.name.now c.self.inside.places.items c.self.invariant ∙ c.self.view_is))

pub invariant_of-self-in_err-push : goal.invariant_of-self-in_err-push
invariant_of-self-in_err-push c =
    let named = c.in_ok-name.ensures.ok ∙ ap (λ t. t ++ c.args.name.now) c.reserve-2.ensures.items in
    let text = c.in_ok-value.ensures.ok ∙ ap (λ t. t ++ c.args.value.now) named in
    rw (text, c.in_err-push.ensures.items, c.reserve.ensures.items) (fields_kept c.self.inside.text.items c.args.name.now c.args.value.now c.self.inside.places.items c.self.invariant).0

pub returns-in_err-push-clause-err : goal.returns-in_err-push-clause-err
returns-in_err-push-clause-err c =
    let named = c.in_ok-name.ensures.ok ∙ ap (λ t. t ++ c.args.name.now) c.reserve-2.ensures.items in
    let text = c.in_ok-value.ensures.ok ∙ ap (λ t. t ++ c.args.value.now) named in
    on_err_holds c.from_residual-in_err-push.result
    (rw (text, c.in_err-push.ensures.items, c.reserve.ensures.items) ((fields_kept c.self.inside.text.items c.args.name.now c.args.value.now c.self.inside.places.items c.self.invariant).1 ∙ c.self.view_is))

pub invariant_of-self-2 : goal.invariant_of-self-2
invariant_of-self-2 c =
    let named = c.in_ok-name.ensures.ok ∙ ap (λ t. t ++ c.args.name.now) c.reserve-2.ensures.items in
    let text = c.in_ok-value.ensures.ok ∙ ap (λ t. t ++ c.args.value.now) named in
    let place : FieldPlace = record { spans = record { name = c.in_ok-name.name; value = c.in_ok-value.value }; ruled = c.ruled_name-ruled.result } in
    let size : List ℕ → ℕ = λ t. length t in
    rw (text, c.in_ok-push.ensures.items, c.reserve.ensures.items) (field_added c.self.inside.text.items c.args.name.now c.args.value.now c.self.inside.places.items place c.self.invariant
    (c.in_ok-name.ensures.start ∙ ap size c.reserve-2.ensures.items) (c.in_ok-name.ensures.end ∙ ap size named)
    (c.in_ok-value.ensures.start ∙ ap size named) (c.in_ok-value.ensures.end ∙ ap size text) c.ruled_name-ruled.ensures).0

pub returns-clause-ok : goal.returns-clause-ok
returns-clause-ok c =
    let named = c.in_ok-name.ensures.ok ∙ ap (λ t. t ++ c.args.name.now) c.reserve-2.ensures.items in
    let text = c.in_ok-value.ensures.ok ∙ ap (λ t. t ++ c.args.value.now) named in
    let place : FieldPlace = record { spans = record { name = c.in_ok-name.name; value = c.in_ok-value.value }; ruled = c.ruled_name-ruled.result } in
    let size : List ℕ → ℕ = λ t. length t in
    let fields : List (List ℕ × List ℕ) → List (List ℕ × List ℕ) = λ xs. xs ++ (c.args.name.now, c.args.value.now) ∷ [] in
    rw (text, c.in_ok-push.ensures.items, c.reserve.ensures.items) ((field_added c.self.inside.text.items c.args.name.now c.args.value.now c.self.inside.places.items place c.self.invariant
    (c.in_ok-name.ensures.start ∙ ap size c.reserve-2.ensures.items) (c.in_ok-name.ensures.end ∙ ap size named)
    (c.in_ok-value.ensures.start ∙ ap size named) (c.in_ok-value.ensures.end ∙ ap size text) c.ruled_name-ruled.ensures).1 ∙ ap fields c.self.view_is)
