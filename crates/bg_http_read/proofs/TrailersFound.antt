-- Trailers at the beginning of bytes.
use Rattle.std.proofs.Common.{◌≡◌, ℕ, ◌<◌, ◌≤◌, List, [], ◌++◌, length, take, drop, ap, sym, ◌∙◌, arith, append_assoc, take-append-drop, take_all, min, subst, inl, inr}
use Rattle.std.proofs.lemmas.List.{append-nil, length-take, length-append, length-map, take-append-le}
use Rattle.std.specs.List.{flat_map}
use Rattle.httparse.specs.Grammar.{Field, LineEnd, crlf, lf, print_end, print_field, print_section, HasNoSection, MayBecomeSection}
use Rattle.httparse.specs.Spans.{IsSectionAt, SectionOverflows, header_bytes, name_and_value}
use Rattle.httparse.specs.declared.spans.HeaderSpan.{HeaderSpan}
use Rattle.httparse.proofs.GrammarLemmas.{section_unique, ReadsSection-append}
use Rattle.bg_http_read.specs.BodyFaults.{malformed, cut, TrailersFail}
use Rattle.bg_http_read.specs.Chunks.{ReadsTrailers}
use Rattle.bg_http_read.proofs.Fronts.{prefix_of, front_is, front_grows}

-- a section has at least one byte
pub section_some : (fields : List Field) (last : LineEnd) → 0 < length (print_section fields last)
section_some fields last =
    let long = length-append (flat_map print_field fields) (print_end last) in
    let some = end_some last in
    omega (arith, long, some)
  where
    end_some : (last : LineEnd) → 0 < length (print_end last)
    end_some crlf = omega arith
    end_some lf = omega arith

-- the trailers that begin the first bytes begin all bytes
pub trailers_front : (bytes : List ℕ) (m : ℕ) (headers : List HeaderSpan) (n count : ℕ)
    (fields : List Field) (last : LineEnd) → m ≤ 16384 → count ≤ length headers
    → length headers ≡ 64 → IsSectionAt (take m bytes) 0 headers n count fields last
    → ReadsTrailers bytes (drop n bytes) × ((0 < n) × (n ≤ length bytes))
trailers_front bytes m headers n count fields last few fits_count room at =
    let text = print_section fields last in
    let reads = at.reads in
    let front = reads.1 in
    let long = length-append text (drop n (take m bytes)) in
    let short : length text ≤ 16384 = omega (arith, ap length front, long, length-take m bytes, few) in
    let fits : length text ≤ length bytes = omega (arith, ap length front, long, length-take m bytes) in
    let whole : bytes ++ [] ≡ text ++ (drop n (take m bytes) ++ drop m bytes) =
    append-nil bytes ∙ sym (take-append-drop m bytes) ∙ ap (λ x. x ++ drop m bytes) front
    ∙ append_assoc text (drop n (take m bytes)) (drop m bytes) in
    let at_text = prefix_of bytes [] text (drop n (take m bytes) ++ drop m bytes) whole fits in
    let len_is : n ≡ length text = omega (arith, at.len_is) in
    let some = section_some fields last in
    let same = ap length at.fields_are in
    let spans = length-map (take count headers) (header_bytes (take m bytes)) in
    let named = length-map fields name_and_value in
    let taken = length-take count headers in (
      record {
        fields = fields;
        last = last;
        reads = (reads.0, subst (λ k. bytes ≡ text ++ drop k bytes) (sym len_is) at_text);
        size = short;
        count = omega (arith, same, spans, named, taken, fits_count, room);
      },
      (omega (arith, some, len_is), omega (arith, fits, len_is)),
    )

-- if the first bytes can't become trailers of at most 64 fields, no trailers come
pub never_trailers : (bytes : List ℕ) (m : ℕ) → m ≡ min (length bytes) 16384
    → SectionOverflows 64 (take m bytes) → TrailersFail malformed bytes
never_trailers bytes m e h = inl (subst (SectionOverflows 64) (front_is bytes m 16384 e) h)

-- if 16,384 bytes have no complete trailers, no trailers come
pub full_trailers : (bytes : List ℕ) (m : ℕ) → m ≡ min (length bytes) 16384
    → 16384 ≤ length bytes → HasNoSection (take m bytes) → TrailersFail malformed bytes
full_trailers bytes m e full h = inr (full, subst HasNoSection (front_is bytes m 16384 e) h)

-- if fewer bytes have no complete trailers, trailers may come
pub open_trailers : (bytes : List ℕ) (m : ℕ) → m ≡ min (length bytes) 16384
    → length bytes < 16384 → HasNoSection (take m bytes) → MayBecomeSection (take m bytes)
    → TrailersFail cut bytes
open_trailers bytes m e few none may =
    let same : take m bytes ≡ bytes = take_all m bytes (omega (arith, e, few)) in
    (few, subst HasNoSection same none, subst MayBecomeSection same may)

-- if no trailers come, none come in any continuation
pub malformed_trailers_more : (bytes more : List ℕ) → TrailersFail malformed bytes
    → TrailersFail malformed (bytes ++ more)
malformed_trailers_more bytes more (inl h) =
    let front = front_grows bytes more 16384 in
    inl (subst (SectionOverflows 64) (sym front.1) (λ later. rw append_assoc (h (front.0 ++ later))))
malformed_trailers_more bytes more (inr (full, none)) =
    inr (
      omega (arith, full, length-append bytes more),
      subst HasNoSection (sym (take-append-le 16384 bytes more full)) none,
    )

-- an input begins with at most one section of trailers
pub one_section : (input a b : List ℕ) → ReadsTrailers input a → ReadsTrailers input b → a ≡ b
one_section input a b p q =
    (section_unique input p.fields q.fields p.last q.last a b p.reads q.reads).2

-- an input that begins with trailers does so in every continuation
pub trailers_more : (input more rest : List ℕ) → ReadsTrailers input rest
    → ReadsTrailers (input ++ more) (rest ++ more)
trailers_more input more rest p = record {
  fields = p.fields;
  last = p.last;
  reads = ReadsSection-append input p.fields p.last rest more p.reads;
  size = p.size;
  count = p.count;
}
