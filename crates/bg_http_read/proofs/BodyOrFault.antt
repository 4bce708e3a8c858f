-- An input that begins with a body has no fault of a body.
use Rattle.std.proofs.Common.{◌≡◌, ℕ, ◌≤◌, ◌+◌, List, [], ◌∷◌, ◌++◌, length, take, drop, refl, ap, sym, ◌∙◌, arith, take-append-drop, subst, inl, inr}
use Rattle.std.proofs.lemmas.List.{append-nil, length-append, length-take, append_cancel_left}
use Rattle.std.proofs.Math.Seq.{drop-append_seam}
use Rattle.httparse.specs.Ascii.{crlf_bytes}
use Rattle.httparse.specs.Grammar.{print_chunk_line, print_section, ReadsSection}
use Rattle.bg_http_read.specs.BodyFaults.{Failure, malformed, large, cut, LineFails, LineEndFails, TrailersFail, FailsAt, at_line, at_size, after_data, at_trailers, ChunksFail, LengthFails}
use Rattle.bg_http_read.specs.Chunks.{ReadsLine, ReadsChunk, ReadsTrailers, Leads, ReadsEnd, joined, ReadsChunks}
use Rattle.bg_http_read.proofs.Fronts.{prefix_of, equal_front}
use Rattle.bg_http_read.proofs.ChunkLines.{one_line}

-- a text that begins the input and fits in its first bytes begins them too
pub text_in_front : (most : ℕ) (input text after : List ℕ) → input ≡ text ++ after
    → length text ≤ most → take most input ≡ text ++ drop (length text) (take most input)
text_in_front most input text after whole short =
    let long = length-append text after in
    prefix_of (take most input) (drop most input) text after (take-append-drop most input ∙ whole)
    (omega (arith, length-take most input, short, long, ap length whole))

pub line_or_fault : (failure : Failure) (input : List ℕ) (size : ℕ) (after : List ℕ)
    → ReadsLine input size after → LineFails failure input → ⊥
line_or_fault malformed input size after line (inl never) =
    let text = print_chunk_line line.line in
    let front = text_in_front 1024 input text after line.input_is line.is.short in
    never [] line.line (drop (length text) (take 1024 input))
    (line.is.valid, append-nil (take 1024 input) ∙ front)
line_or_fault malformed input size after line (inr (full, none)) =
    let text = print_chunk_line line.line in
    let front = text_in_front 1024 input text after line.input_is line.is.short in
    none line.line (drop (length text) (take 1024 input)) (line.is.valid, front)
line_or_fault large input size after line h = h
line_or_fault cut input size after line (few, none, may) =
    none line.line after (line.is.valid, line.input_is)

pub line_end_or_fault : (failure : Failure) (after : List ℕ)
    → LineEndFails failure (crlf_bytes ++ after) → ⊥
line_end_or_fault malformed after h = h [] after (append-nil (crlf_bytes ++ after))
line_end_or_fault large after h = h
line_end_or_fault cut after (missing, some, whole) =
    let all = length-append (crlf_bytes ++ after) missing in
    let end = length-append crlf_bytes after in
    omega (arith, ap length whole, all, end, some)

trailers_or_fault : (failure : Failure) (input rest : List ℕ) → ReadsTrailers input rest
    → TrailersFail failure input → ⊥
trailers_or_fault malformed input rest t (inl many) =
    let whole : ReadsSection (take 16384 input ++ drop 16384 input) t.fields t.last rest =
    (t.reads.0, take-append-drop 16384 input ∙ t.reads.1) in
    omega (arith, many (drop 16384 input) t.fields t.last rest whole, t.count)
trailers_or_fault malformed input rest t (inr (full, none)) =
    let text = print_section t.fields t.last in
    let front = text_in_front 16384 input text rest t.reads.1 t.size in
    none t.fields t.last (drop (length text) (take 16384 input)) (t.reads.0, front)
trailers_or_fault large input rest t h = h
trailers_or_fault cut input rest t (few, none, may) = none t.fields t.last rest t.reads

-- a chunk within a limit doesn't fail
pub chunk_or_fault : (failure : Failure) (limit sum : ℕ) (input bytes next : List ℕ)
    → ReadsChunk input bytes next → sum + length bytes ≤ limit → FailsAt failure limit sum input → ⊥
chunk_or_fault failure limit sum input bytes next chunk fits (at_line h) =
    line_or_fault failure input (length bytes) chunk.after chunk.line h
chunk_or_fault failure limit sum input bytes next chunk fits (at_size size after line is above) =
    let same = one_line input (length bytes) size chunk.after after chunk.line line in
    omega (arith, same.0, above, fits)
chunk_or_fault failure limit sum input bytes next chunk fits (after_data size after line some within h) =
    let same = one_line input (length bytes) size chunk.after after chunk.line line in
    let behind : drop size after ≡ crlf_bytes ++ next =
    ap (λ l. drop size l) (sym same.1 ∙ chunk.bytes_are)
    ∙ ap (λ n. drop n (bytes ++ (crlf_bytes ++ next))) (sym same.0)
    ∙ drop-append_seam bytes (crlf_bytes ++ next) in
    line_end_or_fault failure next (subst (LineEndFails failure) behind h)
chunk_or_fault failure limit sum input bytes next chunk fits (at_trailers after line h) =
    let same = one_line input (length bytes) 0 chunk.after after chunk.line line in
    let some = chunk.some in
    omega (arith, same.0, some)

-- the text of chunks within a limit has no chunk that fails
chunks_or_fault : (failure : Failure) (limit sum before : ℕ) (input rest : List ℕ)
    (chunks others : List (List ℕ)) → Leads (ReadsEnd rest) chunks input
    → before + length (joined chunks) ≤ limit → Leads (FailsAt failure limit sum) others input
    → sum ≡ before + length (joined others) → ⊥
chunks_or_fault failure limit sum before input rest [] [] end fits (at_line h) e =
    line_or_fault failure input 0 end.after end.line h
chunks_or_fault failure limit sum before input rest [] [] end fits (at_size size after line is above) e =
    let same = one_line input 0 size end.after after end.line line in
    omega (arith, same.0, above, fits, e)
chunks_or_fault failure limit sum before input rest [] [] end fits (after_data size after line some within h) e =
    let same = one_line input 0 size end.after after end.line line in
    omega (arith, same.0, some)
chunks_or_fault failure limit sum before input rest [] [] end fits (at_trailers after line h) e =
    let same = one_line input 0 0 end.after after end.line line in
    trailers_or_fault failure end.after rest end.trailers (subst (TrailersFail failure) (sym same.1) h)
chunks_or_fault failure limit sum before input rest [] (other ∷ others) end fits (next, chunk, leads) e =
    let same = one_line input 0 (length other) end.after chunk.after end.line chunk.line in
    let some = chunk.some in
    omega (arith, same.0, some)
chunks_or_fault failure limit sum before input rest (bytes ∷ chunks) [] (next, chunk, leads) fits h e =
    let all = length-append bytes (joined chunks) in
    chunk_or_fault failure limit sum input bytes next chunk (omega (arith, fits, e, all)) h
chunks_or_fault failure limit sum before input rest (bytes ∷ chunks) (other ∷ others) (next, chunk, leads) fits (last, second, more) e =
    let same = one_line input (length bytes) (length other) chunk.after second.after chunk.line second.line in
    let texts = sym chunk.bytes_are ∙ same.1 ∙ second.bytes_are in
    let fronts = equal_front bytes (crlf_bytes ++ next) other (crlf_bytes ++ last) texts same.0 in
    let tails = append_cancel_left crlf_bytes next last fronts.1 in
    let one = length-append bytes (joined chunks) in
    let two = length-append other (joined others) in
    chunks_or_fault failure limit sum (before + length bytes) next rest chunks others leads
    (omega (arith, fits, one))
    (subst (Leads (FailsAt failure limit sum) others) (sym tails) more)
    (omega (arith, e, two, same.0))

pub body_or_fault : (failure : Failure) (limit : ℕ) (input body rest : List ℕ)
    → ReadsChunks input body rest → length body ≤ limit → ChunksFail failure limit 0 input → ⊥
body_or_fault failure limit input body rest h fits f =
    chunks_or_fault failure limit (0 + length (joined f.chunks)) 0 input rest h.chunks f.chunks h.leads
    (omega (arith, fits, ap length h.body_is)) f.leads refl

pub length_or_fault : (failure : Failure) (size : ℕ) (input body rest : List ℕ)
    → length body ≡ size → input ≡ body ++ rest → LengthFails failure size input → ⊥
length_or_fault malformed size input body rest is whole h = h
length_or_fault large size input body rest is whole h = h
length_or_fault cut size input body rest is whole h =
    omega (arith, h, is, ap length whole, length-append body rest)
