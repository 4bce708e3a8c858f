-- The heads whose parts were copied from the places that the parser found.
use Rattle.std.proofs.Common.{◌≡◌, ℕ, ◌≤◌, List, length, take, drop, map, ap, ◌∙◌, arith}
use Rattle.std.proofs.lemmas.List.{length-map, length-take}
use Rattle.httparse.specs.Grammar as grammar
use Rattle.httparse.specs.Spans.{AreFieldsAt, IsRequestWithin, IsRequestOf, IsResponseWithin, IsResponseOf, header_bytes, name_and_value, span_bytes}
use Rattle.httparse.specs.declared.spans.HeaderSpan.{HeaderSpan}
use Rattle.httparse.specs.declared.spans.RequestSpans.{RequestSpans}
use Rattle.httparse.specs.declared.spans.ResponseSpans.{ResponseSpans}
use Rattle.bg_http_read.specs.Heads.{ReadsRequestHead, ReadsResponseHead}

-- the number of fields that were found is that of the head
pub fields_found : (buf : List ℕ) (headers : List HeaderSpan) (count : ℕ)
    (fields : List grammar.Field) → count ≤ length headers → AreFieldsAt buf headers count fields
    → length fields ≡ count
fields_found buf headers count fields fits at =
    let same = ap length at in
    let spans = length-map (take count headers) (header_bytes buf) in
    let names = length-map fields name_and_value in
    let front = length-take count headers in
    omega (arith, same, spans, names, front)

-- the parts that were copied are those of the head of a request
pub whole_request_head : (buf : List ℕ) (headers : List HeaderSpan) (r : RequestSpans)
    → IsRequestWithin buf headers r → (h : IsRequestOf buf headers r) → length buf ≤ 16384
    → r.headers ≤ 64 → (method target : List ℕ) (fields : List (List ℕ × List ℕ))
    → method ≡ span_bytes buf r.method → target ≡ span_bytes buf r.path
    → fields ≡ map (header_bytes buf) (take r.headers headers)
    → ReadsRequestHead buf
    (record { method = method; target = target; minor = r.version; fields = fields })
    (drop r.len buf)
whole_request_head buf headers r within h size few method target fields m t f =
    let count = fields_found buf headers r.headers h.0.fields within.section.count_fits h.1.fields in
    let fits = within.section.len_fits in
    let len = h.1.len in
    let same_method : method ≡ h.0.method = m ∙ h.1.method in
    let same_target : target ≡ h.0.target = t ∙ h.1.path in
    let same_minor : r.version ≡ h.0.minor = h.1.version in
    let same_fields : fields ≡ map name_and_value h.0.fields = f ∙ h.1.fields in
    record {
      tree = h.0;
      reads = h.1.reads;
      size = omega (arith, fits, len, size);
      count = omega (arith, count, few);
      head_is = cc;
    }

-- the same for the head of a response
pub whole_response_head : (buf : List ℕ) (headers : List HeaderSpan) (r : ResponseSpans)
    → IsResponseWithin buf headers r → (h : IsResponseOf buf headers r) → length buf ≤ 16384
    → r.headers ≤ 64 → (reason : List ℕ) (fields : List (List ℕ × List ℕ))
    → reason ≡ span_bytes buf r.reason → fields ≡ map (header_bytes buf) (take r.headers headers)
    → ReadsResponseHead buf
    (record { minor = r.version; code = r.code; reason = reason; fields = fields })
    (drop r.len buf)
whole_response_head buf headers r within h size few reason fields m f =
    let count = fields_found buf headers r.headers h.0.fields within.section.count_fits h.1.fields in
    let fits = within.section.len_fits in
    let len = h.1.len in
    let same_reason : reason ≡ grammar.reason_phrase h.0.reason = m ∙ h.1.reason in
    let same_code : r.code ≡ grammar.status_code h.0 = h.1.code in
    let same_minor : r.version ≡ h.0.minor = h.1.version in
    let same_fields : fields ≡ map name_and_value h.0.fields = f ∙ h.1.fields in
    record {
      tree = h.0;
      reads = h.1.reads;
      size = omega (arith, fits, len, size);
      count = omega (arith, count, few);
      head_is = cc;
    }
