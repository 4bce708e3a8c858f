-- The positions of the fields of a head in its text. Only private functions and the models cite
-- them.
use Rattle.std.specs.Prelude.{ℕ, List, length}
use Rattle.httparse.specs.Spans.{IsHeaderWithin, header_bytes, span_bytes}
use Rattle.bg_http.specs.Elements.{Field}
use Rattle.bg_http.specs.Names.{IsRuledAs}
use Rattle.bg_http.specs.declared.field_place.FieldPlace.{FieldPlace}

-- the field at this position
abbrev pub field_at : List ℕ → FieldPlace → Field
field_at text place = header_bytes text place.spans

-- the field lies in the text, and its name was looked up
abbrev pub IsPlaceIn : List ℕ → FieldPlace → Type 0
IsPlaceIn text place =
    IsHeaderWithin (length text) place.spans
    × IsRuledAs (span_bytes text place.spans.name) place.ruled
