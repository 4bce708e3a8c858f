-- The fields of a text that is cut off after them, or that grows.
use Rattle.std.proofs.Common.{◌≡◌, ℕ, ◌+◌, ◌-◌, ◌≤◌, List, [], ◌∷◌, ◌++◌, length, take, drop, map, arith, refl, ap, ap₂, sym, subst, ◌∙◌}
use Rattle.std.specs.Prelude.{All, slice_range, Result, Ok, Err, OnErr}
use Rattle.std.proofs.Math.Seq.{take-append_seam, drop-append_seam, take-length}
use Rattle.std.proofs.lemmas.List.{take-take, drop-take, length-append, map-append}
use Rattle.std.proofs.lemmas.List.Elements.{All-head, All-push, All-tail, All-weaker}
use Rattle.httparse.specs.declared.spans.HeaderSpan.{HeaderSpan}
use Rattle.httparse.specs.Spans.{IsHeaderWithin, header_bytes, span_bytes}
use Rattle.bg_http.specs.Names.{IsRuledAs}
use Rattle.bg_http.specs.FieldPlaces.{IsPlaceIn, field_at}
use Rattle.bg_http.specs.declared.field_place.FieldPlace.{FieldPlace}

part_of_front : (t : List ℕ) (n a b : ℕ) → a ≤ b → b ≤ n → slice_range (take n t) a b ≡ slice_range t a b
part_of_front t n a b ab bn =
    let whole : n ≡ a + (n - a) = omega arith in
    let part : ℕ → List ℕ = λ m. slice_range (take m t) a b in
    ap part whole ∙ ap (take (b - a)) (drop-take a (n - a) t) ∙ take-take (b - a) (n - a) (drop a t) (omega arith)

span_of_front : (t : List ℕ) (n : ℕ) (s : HeaderSpan) → IsHeaderWithin n s → header_bytes (take n t) s ≡ header_bytes t s
span_of_front t n s h =
    ap₂ (λ x y. (x, y)) (part_of_front t n s.name.start s.name.end h.0.0 h.0.1) (part_of_front t n s.value.start s.value.end h.1.0 h.1.1)

-- the fields of a text are those of its front if they lie in the front
pub spans_of_front : (t : List ℕ) (n : ℕ) (ss : List HeaderSpan) → All (IsHeaderWithin n) ss → map (header_bytes (take n t)) ss ≡ map (header_bytes t) ss
spans_of_front t n [] h = refl
spans_of_front t n (s ∷ ss) h =
    ap₂ (λ x xs. x ∷ xs) (span_of_front t n s (All-head (IsHeaderWithin n) s ss h)) (spans_of_front t n ss (All-tail (IsHeaderWithin n) s ss h))

-- a field within the first bytes is within a longer front too
pub within_more : (m n : ℕ) → m ≤ n → (s : HeaderSpan) → IsHeaderWithin m s → IsHeaderWithin n s
within_more m n le s h = ((h.0.0, omega arith), (h.1.0, omega arith))

part_of_grown : (t more : List ℕ) (a b : ℕ) → a ≤ b → b ≤ length t → slice_range t a b ≡ slice_range (t ++ more) a b
part_of_grown t more a b ab bn =
    ap (λ x. slice_range x a b) (sym (take-append_seam t more)) ∙ part_of_front (t ++ more) (length t) a b ab bn

-- a place in a text is a place in the text with more bytes at its end
place_grown : (t more : List ℕ) (p : FieldPlace) → IsPlaceIn t p → IsPlaceIn (t ++ more) p
place_grown t more p h =
    let wide : length t ≤ length (t ++ more) = omega (arith, length-append t more) in
    let name = part_of_grown t more p.spans.name.start p.spans.name.end h.0.0.0 h.0.0.1 in
    let IsRuled : List ℕ → Type 0 = λ x. IsRuledAs x p.ruled in
    (within_more (length t) (length (t ++ more)) wide p.spans h.0, subst IsRuled name h.1)

pub places_grown : (t more : List ℕ) (ps : List FieldPlace) → All (IsPlaceIn t) ps → All (IsPlaceIn (t ++ more)) ps
places_grown t more ps h = All-weaker (IsPlaceIn t) (IsPlaceIn (t ++ more)) (place_grown t more) ps h

pub fields_grown : (t more : List ℕ) (ps : List FieldPlace) → All (IsPlaceIn t) ps → map (field_at (t ++ more)) ps ≡ map (field_at t) ps
fields_grown t more [] h = refl
fields_grown t more (p ∷ ps) h =
    let here = (All-head (IsPlaceIn t) p ps h).0 in
    let same : field_at (t ++ more) p ≡ field_at t p =
    ap₂ (λ x y. (x, y)) (sym (part_of_grown t more p.spans.name.start p.spans.name.end here.0.0 here.0.1)) (sym (part_of_grown t more p.spans.value.start p.spans.value.end here.1.0 here.1.1)) in
    ap₂ (λ x xs. x ∷ xs) same (fields_grown t more ps (All-tail (IsPlaceIn t) p ps h))

-- the part that was appended to a text
pub part_at_end : (t more : List ℕ) → slice_range (t ++ more) (length t) (length (t ++ more)) ≡ more
part_at_end t more =
    let size : length (t ++ more) - length t ≡ length more = omega (arith, length-append t more) in
    ap (λ n. take n (drop (length t) (t ++ more))) size ∙ ap (take (length more)) (drop-append_seam t more) ∙ take-length more

-- the field whose name and value were appended
pub field_at_end : (t n v : List ℕ) (p : FieldPlace) → p.spans.name.start ≡ length t → p.spans.name.end ≡ length (t ++ n)
    → p.spans.value.start ≡ length (t ++ n) → p.spans.value.end ≡ length ((t ++ n) ++ v) → field_at ((t ++ n) ++ v) p ≡ (n, v)
field_at_end t n v p a b c d =
    let name : span_bytes ((t ++ n) ++ v) p.spans.name ≡ n =
    ap₂ (λ x y. slice_range ((t ++ n) ++ v) x y) a b ∙ sym (part_of_grown (t ++ n) v (length t) (length (t ++ n)) (omega (arith, length-append t n)) (omega arith)) ∙ part_at_end t n in
    let value : span_bytes ((t ++ n) ++ v) p.spans.value ≡ v =
    ap₂ (λ x y. slice_range ((t ++ n) ++ v) x y) c d ∙ part_at_end (t ++ n) v in
    ap₂ (λ x y. (x, y)) name value

pub place_at_end : (t n v : List ℕ) (p : FieldPlace) → p.spans.name.start ≡ length t → p.spans.name.end ≡ length (t ++ n)
    → p.spans.value.start ≡ length (t ++ n) → p.spans.value.end ≡ length ((t ++ n) ++ v) → IsRuledAs n p.ruled → IsPlaceIn ((t ++ n) ++ v) p
place_at_end t n v p a b c d ruled =
    let IsRuled : List ℕ → Type 0 = λ x. IsRuledAs x p.ruled in
    let name = ap (λ f. f.0) (field_at_end t n v p a b c d) in
    let one = length-append t n in
    let both = length-append (t ++ n) v in
    (((omega arith, omega arith), (omega arith, omega arith)), subst IsRuled (sym name) ruled)

-- the fields that spans cover, in a copy of the front of the text
pub fields_of_spans : (text copy : List ℕ) (n : ℕ) (ps : List FieldPlace) (ss : List HeaderSpan) → copy ≡ take n text → map (λ (p : FieldPlace). p.spans) ps ≡ ss
    → All (IsHeaderWithin n) ss → map (field_at copy) ps ≡ map (header_bytes text) ss
fields_of_spans text copy n ps ss e f h =
    ap (λ t. map (field_at t) ps) e ∙ fields_by_spans (take n text) ps ∙ ap (map (header_bytes (take n text))) f ∙ spans_of_front text n ss h
  where
    fields_by_spans : (t : List ℕ) (ps : List FieldPlace) → map (field_at t) ps ≡ map (header_bytes t) (map (λ (p : FieldPlace). p.spans) ps)
    fields_by_spans t [] = refl
    fields_by_spans t (p ∷ ps) = ap (λ xs. field_at t p ∷ xs) (fields_by_spans t ps)

-- appending to a text doesn't change its fields
pub fields_kept : (t n v : List ℕ) (ps : List FieldPlace) → All (IsPlaceIn t) ps → All (IsPlaceIn ((t ++ n) ++ v)) ps × (map (field_at ((t ++ n) ++ v)) ps ≡ map (field_at t) ps)
fields_kept t n v ps h =
    let here = places_grown t n ps h in
    (places_grown (t ++ n) v ps here, fields_grown (t ++ n) v ps here ∙ fields_grown t n ps h)

-- a name and a value that were appended to a text are one more field
pub field_added : (t n v : List ℕ) (ps : List FieldPlace) (p : FieldPlace) → All (IsPlaceIn t) ps → p.spans.name.start ≡ length t → p.spans.name.end ≡ length (t ++ n)
    → p.spans.value.start ≡ length (t ++ n) → p.spans.value.end ≡ length ((t ++ n) ++ v) → IsRuledAs n p.ruled
    → All (IsPlaceIn ((t ++ n) ++ v)) (ps ++ p ∷ []) × (map (field_at ((t ++ n) ++ v)) (ps ++ p ∷ []) ≡ map (field_at t) ps ++ (n, v) ∷ [])
field_added t n v ps p h a b c d ruled =
    let kept = fields_kept t n v ps h in (
      All-push (IsPlaceIn ((t ++ n) ++ v)) ps p kept.0 (place_at_end t n v p a b c d ruled),
      map-append (field_at ((t ++ n) ++ v)) ps (p ∷ []) ∙ ap₂ (λ xs x. xs ++ x ∷ []) kept.1 (field_at_end t n v p a b c d),
    )

pub on_err_holds : {T E P : Type 0} (r : Result T E) → P → OnErr r P
on_err_holds (Ok v) h = tt
on_err_holds (Err e) h = h
