-- A body fails in at most one way.
use Rattle.std.proofs.Common.{◌≡◌, ◌⊎◌, ℕ, ◌≤◌, ◌+◌, List, [], ◌∷◌, ◌++◌, length, take, drop, refl, ap, sym, ◌∙◌, arith, subst, take_all, inl, inr}
use Rattle.std.proofs.lemmas.List.{append-nil, length-append, append_cancel_left}
use Rattle.httparse.specs.Ascii.{crlf_bytes}
use Rattle.httparse.specs.Grammar.{NeverHasChunkLine, MayBecomeSection}
use Rattle.httparse.specs.Spans.{SectionOverflows}
use Rattle.bg_http_read.specs.BodyFaults.{Failure, malformed, large, cut, LineFails, LineEndFails, TrailersFail, FailsAt, at_line, at_size, after_data, at_trailers, ChunksFail, LengthFails}
use Rattle.bg_http_read.specs.Chunks.{Leads, joined}
use Rattle.bg_http_read.specs.Laws.{EndsInManyTrailers}
use Rattle.bg_http_read.proofs.Fronts.{equal_front}
use Rattle.bg_http_read.proofs.ChunkLines.{one_line}
use Rattle.bg_http_read.proofs.BodyOrFault.{line_or_fault, chunk_or_fault}

-- the beginning of a line is not malformed
line_malformed_or_cut : (input : List ℕ) → LineFails malformed input → LineFails cut input → ⊥
line_malformed_or_cut input (inl never) (few, none, may) =
    let same = take_all 1024 input (omega (arith, few)) in
    subst NeverHasChunkLine same never may.0 may.1 [] may.2
line_malformed_or_cut input (inr (full, none)) (few, other, may) = omega (arith, full, few)

one_line_failure : (one other : Failure) (input : List ℕ) → LineFails one input
    → LineFails other input → one ≡ other
one_line_failure malformed malformed input h k = refl
one_line_failure malformed large input h k = absurd k
one_line_failure malformed cut input h k = absurd (line_malformed_or_cut input h k)
one_line_failure large other input h k = absurd h
one_line_failure cut malformed input h k = absurd (line_malformed_or_cut input k h)
one_line_failure cut large input h k = absurd k
one_line_failure cut cut input h k = refl

end_malformed_or_cut : (input : List ℕ) → LineEndFails malformed input → LineEndFails cut input → ⊥
end_malformed_or_cut input h (missing, some, whole) =
    h missing [] (whole ∙ sym (append-nil crlf_bytes))

one_end_failure : (one other : Failure) (input : List ℕ) → LineEndFails one input
    → LineEndFails other input → one ≡ other
one_end_failure malformed malformed input h k = refl
one_end_failure malformed large input h k = absurd k
one_end_failure malformed cut input h k = absurd (end_malformed_or_cut input h k)
one_end_failure large other input h k = absurd h
one_end_failure cut malformed input h k = absurd (end_malformed_or_cut input k h)
one_end_failure cut large input h k = absurd k
one_end_failure cut cut input h k = refl

-- trailers that are both malformed and cut off have more than 64 fields
many_trailers : (input : List ℕ) → TrailersFail malformed input → TrailersFail cut input
    → SectionOverflows 64 (take 16384 input) × MayBecomeSection input
many_trailers input (inl many) (few, none, may) = (many, may)
many_trailers input (inr (full, none)) (few, other, may) = absurd (omega (arith, full, few))

one_trailers_failure : (one other : Failure) (input : List ℕ) → TrailersFail one input
    → TrailersFail other input
    → (one ≡ other) ⊎ (SectionOverflows 64 (take 16384 input) × MayBecomeSection input)
one_trailers_failure malformed malformed input h k = inl refl
one_trailers_failure malformed large input h k = absurd k
one_trailers_failure malformed cut input h k = inr (many_trailers input h k)
one_trailers_failure large other input h k = absurd h
one_trailers_failure cut malformed input h k = inr (many_trailers input k h)
one_trailers_failure cut large input h k = absurd k
one_trailers_failure cut cut input h k = inl refl

-- a chunk fails in at most one way
one_failure_at : (one other : Failure) (limit sum : ℕ) (input : List ℕ) → sum ≤ limit
    → FailsAt one limit sum input → FailsAt other limit sum input
    → (one ≡ other) ⊎ EndsInManyTrailers input
one_failure_at one other limit sum input fits (at_line h) (at_line k) =
    inl (one_line_failure one other input h k)
one_failure_at one other limit sum input fits (at_line h) (at_size size after line is above) =
    absurd (line_or_fault one input size after line h)
one_failure_at one other limit sum input fits (at_line h) (after_data size after line some within k) =
    absurd (line_or_fault one input size after line h)
one_failure_at one other limit sum input fits (at_line h) (at_trailers after line k) =
    absurd (line_or_fault one input 0 after line h)
one_failure_at one other limit sum input fits (at_size size after line is above) (at_line k) =
    absurd (line_or_fault other input size after line k)
one_failure_at one other limit sum input fits (at_size size after line is above) (at_size second next more same beyond) =
    inl (is ∙ sym same)
one_failure_at one other limit sum input fits (at_size size after line is above) (after_data second next more some within k) =
    let same = one_line input size second after next line more in
    absurd (omega (arith, same.0, above, within))
one_failure_at one other limit sum input fits (at_size size after line is above) (at_trailers next more k) =
    let same = one_line input size 0 after next line more in
    absurd (omega (arith, same.0, above, fits))
one_failure_at one other limit sum input fits (after_data size after line some within h) (at_line k) =
    absurd (line_or_fault other input size after line k)
one_failure_at one other limit sum input fits (after_data size after line some within h) (at_size second next more is above) =
    let same = one_line input size second after next line more in
    absurd (omega (arith, same.0, above, within))
one_failure_at one other limit sum input fits (after_data size after line some within h) (after_data second next more any inside k) =
    let same = one_line input size second after next line more in
    let behind : drop second next ≡ drop size after =
    ap (λ n. drop n next) (sym same.0) ∙ ap (λ l. drop size l) (sym same.1) in
    inl (one_end_failure one other (drop size after) h (subst (LineEndFails other) behind k))
one_failure_at one other limit sum input fits (after_data size after line some within h) (at_trailers next more k) =
    let same = one_line input size 0 after next line more in
    absurd (omega (arith, same.0, some))
one_failure_at one other limit sum input fits (at_trailers after line h) (at_line k) =
    absurd (line_or_fault other input 0 after line k)
one_failure_at one other limit sum input fits (at_trailers after line h) (at_size second next more is above) =
    let same = one_line input 0 second after next line more in
    absurd (omega (arith, same.0, above, fits))
one_failure_at one other limit sum input fits (at_trailers after line h) (after_data second next more some within k) =
    let same = one_line input 0 second after next line more in
    absurd (omega (arith, same.0, some))
one_failure_at one other limit sum input fits (at_trailers after line h) (at_trailers next more k) =
    let same = one_line input 0 0 after next line more in
    by_trailers (one_trailers_failure one other after h (subst (TrailersFail other) (sym same.1) k))
  where
    by_trailers : (one ≡ other) ⊎ (SectionOverflows 64 (take 16384 after) × MayBecomeSection after)
        → (one ≡ other) ⊎ EndsInManyTrailers input
    by_trailers (inl e) = inl e
    by_trailers (inr (many, may)) = inr ([], (after, line, many, may))

-- chunks fail in at most one way
one_chunks_failure : (one other : Failure) (limit before : ℕ) (first second : ℕ) (input : List ℕ)
    (chunks others : List (List ℕ)) → Leads (FailsAt one limit first) chunks input
    → Leads (FailsAt other limit second) others input → first ≡ before + length (joined chunks)
    → second ≡ before + length (joined others) → first ≤ limit → second ≤ limit
    → (one ≡ other) ⊎ EndsInManyTrailers input
one_chunks_failure one other limit before first second input [] [] h k e d fits small =
    let same : second ≡ first = omega (arith, e, d) in
    one_failure_at one other limit first input fits h (subst (λ n. FailsAt other limit n input) same k)
one_chunks_failure one other limit before first second input [] (bytes ∷ others) h (next, chunk, leads) e d fits small =
    let all = length-append bytes (joined others) in
    absurd (chunk_or_fault one limit first input bytes next chunk (omega (arith, e, d, small, all)) h)
one_chunks_failure one other limit before first second input (bytes ∷ chunks) [] (next, chunk, leads) k e d fits small =
    let all = length-append bytes (joined chunks) in
    absurd (chunk_or_fault other limit second input bytes next chunk (omega (arith, e, d, fits, all)) k)
one_chunks_failure one other limit before first second input (bytes ∷ chunks) (part ∷ others) (next, chunk, leads) (last, found, more) e d fits small =
    let same = one_line input (length bytes) (length part) chunk.after found.after chunk.line found.line in
    let texts = sym chunk.bytes_are ∙ same.1 ∙ found.bytes_are in
    let fronts = equal_front bytes (crlf_bytes ++ next) part (crlf_bytes ++ last) texts same.0 in
    let tails = append_cancel_left crlf_bytes next last fronts.1 in
    let longer = length-append bytes (joined chunks) in
    let further = length-append part (joined others) in
    behind (one_chunks_failure one other limit (before + length bytes) first second next chunks others leads
    (subst (Leads (FailsAt other limit second) others) (sym tails) more)
    (omega (arith, e, longer)) (omega (arith, d, further, same.0)) fits small)
  where
    behind : (one ≡ other) ⊎ EndsInManyTrailers next → (one ≡ other) ⊎ EndsInManyTrailers input
    behind (inl e) = inl e
    behind (inr (front, ends)) = inr (bytes ∷ front, (next, chunk, ends))

pub one_body_failure : (one other : Failure) (limit : ℕ) (input : List ℕ)
    → ChunksFail one limit 0 input → ChunksFail other limit 0 input
    → (one ≡ other) ⊎ EndsInManyTrailers input
one_body_failure one other limit input h k =
    one_chunks_failure one other limit 0 (0 + length (joined h.chunks)) (0 + length (joined k.chunks))
    input h.chunks k.chunks h.leads k.leads refl refl h.fits k.fits

pub one_length_failure : (one other : Failure) (size : ℕ) (input : List ℕ)
    → LengthFails one size input → LengthFails other size input → one ≡ other
one_length_failure malformed other size input h k = absurd h
one_length_failure large other size input h k = absurd h
one_length_failure cut malformed size input h k = absurd k
one_length_failure cut large size input h k = absurd k
one_length_failure cut cut size input h k = refl
