use Rattle.std.proofs.Common.{◌≡◌, map, take}
use Rattle.std.specs.Prelude.{All}
use Rattle.bg_http.specs.FieldPlaces.{IsPlaceIn}
use Rattle.bg_http.specs.declared.field_place.FieldPlace.{FieldPlace}
use Rattle.bg_http.proofs.fields.places_of.Given as goal

abbrev pub invariant-loop-span : goal.invariant-loop-span
invariant-loop-span l =
    All (IsPlaceIn l.text) l.places.items
    × (map (λ (p : FieldPlace). p.spans) l.places.items ≡ take l.span-index l.spans)
