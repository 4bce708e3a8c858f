-- The line of a chunk, and a sequence of chunks, at the beginning of bytes.
use Rattle.std.proofs.Common.{◌≡◌, ℕ, ◌<◌, ◌≤◌, List, [], ◌∷◌, ◌++◌, length, take, drop, refl, ap, ap₂, sym, ◌∙◌, arith, append_assoc, take-append-drop, take_all, min, subst, inl, inr}
use Rattle.std.proofs.lemmas.List.{append-nil, append_cancel_left, length-take, length-append, take-append-le}
use Rattle.httparse.specs.Ascii.{crlf_bytes}
use Rattle.httparse.specs.Grammar.{ChunkLine, print_chunk_line, chunk_size, print_extension, HasNoChunkLine, NeverHasChunkLine, MayBecomeChunkLine}
use Rattle.httparse.specs.Spans.{IsChunkLineAt}
use Rattle.httparse.proofs.ChunkLemmas.{chunk_line_unique}
use Rattle.httparse.proofs.GrammarLemmas.{section_unique}
use Rattle.bg_http_read.specs.BodyFaults.{malformed, cut, LineFails}
use Rattle.bg_http_read.specs.Chunks.{IsLineOf, Leads, ReadsChunks, ReadsEnd, ReadsLine, ReadsTrailers, joined}
use Rattle.bg_http_read.proofs.Fronts.{equal_front, prefix_of, front_is, front_grows}

-- a line ends in CR LF
text_of : (line : ChunkLine) → print_chunk_line line
    ≡ (line.digits ++ line.pad ++ print_extension line.extension) ++ crlf_bytes
unfolding print_chunk_line
text_of line = refl

-- a line has at least one byte
pub line_some : (line : ChunkLine) → 0 < length (print_chunk_line line)
line_some line =
    let text_is = text_of line in
    let long = length-append (line.digits ++ line.pad ++ print_extension line.extension) crlf_bytes in
    omega (arith, long, ap length text_is)

-- the line that begins the first bytes begins all bytes
pub line_front : (bytes : List ℕ) (m n size : ℕ) (l : ChunkLine) → m ≤ 1024
    → IsChunkLineAt (take m bytes) n size l
    → ReadsLine bytes size (drop n bytes) × ((0 < n) × (n ≤ length bytes))
line_front bytes m n size l few at =
    let text = print_chunk_line l in
    let reads = at.reads in
    let front = reads.1 in
    let long = length-append text (drop n (take m bytes)) in
    let short : length text ≤ 1024 = omega (arith, ap length front, long, length-take m bytes, few) in
    let fits : length text ≤ length bytes = omega (arith, ap length front, long, length-take m bytes) in
    let whole : bytes ++ [] ≡ text ++ (drop n (take m bytes) ++ drop m bytes) =
    append-nil bytes ∙ sym (take-append-drop m bytes) ∙ ap (λ x. x ++ drop m bytes) front
    ∙ append_assoc text (drop n (take m bytes)) (drop m bytes) in
    let at_text = prefix_of bytes [] text (drop n (take m bytes) ++ drop m bytes) whole fits in
    let is : IsLineOf size l = record { valid = reads.0; short = short; size_is = at.size_is } in
    let some = line_some l in (
      record {
        line = l;
        is = is;
        input_is = subst (λ k. bytes ≡ text ++ drop k bytes) (sym at.len_is) at_text;
      },
      (omega (arith, some, at.len_is), omega (arith, fits, at.len_is)),
    )

-- if the first bytes can't become a line, no line comes
pub never_line : (bytes : List ℕ) (m : ℕ) → m ≡ min (length bytes) 1024
    → NeverHasChunkLine (take m bytes) → LineFails malformed bytes
never_line bytes m e h = inl (subst NeverHasChunkLine (front_is bytes m 1024 e) h)

-- if 1,024 bytes have no complete line, no line comes
pub full_line : (bytes : List ℕ) (m : ℕ) → m ≡ min (length bytes) 1024 → 1024 ≤ length bytes
    → HasNoChunkLine (take m bytes) → LineFails malformed bytes
full_line bytes m e full h = inr (full, subst HasNoChunkLine (front_is bytes m 1024 e) h)

-- if fewer bytes have no complete line, one may come
pub open_line : (bytes : List ℕ) (m : ℕ) → m ≡ min (length bytes) 1024 → length bytes < 1024
    → HasNoChunkLine (take m bytes) → MayBecomeChunkLine (take m bytes) → LineFails cut bytes
open_line bytes m e few none may =
    let same : take m bytes ≡ bytes = take_all m bytes (omega (arith, e, few)) in
    (few, subst HasNoChunkLine same none, subst MayBecomeChunkLine same may)

-- if no line comes, none comes in any continuation
pub malformed_line_more : (bytes more : List ℕ) → LineFails malformed bytes
    → LineFails malformed (bytes ++ more)
malformed_line_more bytes more (inl h) =
    let front = front_grows bytes more 1024 in
    inl (subst NeverHasChunkLine (sym front.1) (λ later. rw append_assoc (h (front.0 ++ later))))
malformed_line_more bytes more (inr (full, none)) =
    inr (
      omega (arith, full, length-append bytes more),
      subst HasNoChunkLine (sym (take-append-le 1024 bytes more full)) none,
    )

-- an input begins with at most one line
pub one_line : (input : List ℕ) (s t : ℕ) (a b : List ℕ) → ReadsLine input s a → ReadsLine input t b
    → (s ≡ t) × (a ≡ b)
one_line input s t a b p q =
    let same = chunk_line_unique input p.line q.line a b
    (p.is.valid, p.input_is) (q.is.valid, q.input_is) in
    (p.is.size_is ∙ ap chunk_size same.0 ∙ sym q.is.size_is, same.1)

-- an input that begins with a line does so in every continuation
pub line_more : (input more : List ℕ) (size : ℕ) (after : List ℕ) → ReadsLine input size after
    → ReadsLine (input ++ more) size (after ++ more)
line_more input more size after p = record {
  line = p.line;
  is = p.is;
  input_is = ap (λ l. l ++ more) p.input_is ∙ append_assoc (print_chunk_line p.line) after more;
}

-- an input begins with at most one of each part
one_trailers : (input one other : List ℕ) → ReadsTrailers input one → ReadsTrailers input other → one ≡ other
one_trailers input one other h k =
    (section_unique input h.fields k.fields h.last k.last one other h.reads k.reads).2

one_leads : (one other : List (List ℕ)) (input rest left : List ℕ) → Leads (ReadsEnd rest) one input
    → Leads (ReadsEnd left) other input → (joined one ≡ joined other) × (rest ≡ left)
one_leads [] [] input rest left h k =
    let lines = one_line input 0 0 h.after k.after h.line k.line in
    (refl, one_trailers k.after rest left (subst (λ l. ReadsTrailers l rest) lines.1 h.trailers) k.trailers)
one_leads [] (bytes ∷ more) input rest left h (next, chunk, leads) =
    let lines = one_line input 0 (length bytes) h.after chunk.after h.line chunk.line in
    let some = chunk.some in
    absurd (omega (arith, lines.0, some))
one_leads (bytes ∷ more) [] input rest left (next, chunk, leads) k =
    let lines = one_line input (length bytes) 0 chunk.after k.after chunk.line k.line in
    let some = chunk.some in
    absurd (omega (arith, lines.0, some))
one_leads (bytes ∷ more) (others ∷ most) input rest left (next, chunk, leads) (last, second, tail) =
    let lines = one_line input (length bytes) (length others) chunk.after second.after chunk.line second.line in
    let texts = sym chunk.bytes_are ∙ lines.1 ∙ second.bytes_are in
    let fronts = equal_front bytes (crlf_bytes ++ next) others (crlf_bytes ++ last) texts lines.0 in
    let tails = append_cancel_left crlf_bytes next last fronts.1 in
    let same = one_leads more most last rest left (subst (Leads (ReadsEnd rest) more) tails leads) tail in
    (ap₂ (λ a b. a ++ b) fronts.0 same.0, same.1)

pub one_chunks : (input one other rest left : List ℕ) → ReadsChunks input one rest
    → ReadsChunks input other left → (one ≡ other) × (rest ≡ left)
one_chunks input one other rest left h k =
    let same = one_leads h.chunks k.chunks input rest left h.leads k.leads in
    (h.body_is ∙ same.0 ∙ sym k.body_is, same.1)
