use Rattle.std.proofs.Common.{◌∷◌, [], ◌++◌, ap₂, sym, ◌∙◌, arith}
use Rattle.std.proofs.lemmas.List.{map-append, take_more}
use Rattle.std.proofs.lemmas.List.Elements.{All-push}
use Rattle.bg_http.specs.FieldPlaces.{IsPlaceIn}
use Rattle.bg_http.specs.declared.field_place.FieldPlace.{FieldPlace}
use Rattle.bg_http.proofs.fields.places_of.Goals as goal

pub loop-span-preserved : goal.loop-span-preserved
loop-span-preserved c =
    rw c.in_ok-push.ensures.items (
      All-push (IsPlaceIn c.args.text.now) c.loop-span.places.items c.new.result c.loop-span.invariant.0 c.new.ensures.is_place,
      map-append (λ (p : FieldPlace). p.spans) c.loop-span.places.items (c.new.result ∷ [])
          ∙ ap₂ (λ xs x. xs ++ x ∷ []) c.loop-span.invariant.1 c.new.ensures.same
          ∙ sym (take_more c.args.spans.now c.loop-span.span-index _ (omega arith)),
    )
