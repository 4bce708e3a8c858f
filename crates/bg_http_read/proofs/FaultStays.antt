-- A failure other than a cut holds for every continuation of the input.
use Rattle.std.proofs.Common.{◌≡◌, ◌⊎◌, ℕ, ◌<◌, ◌≤◌, List, [], ◌∷◌, ◌++◌, length, drop, refl, ap, sym, ◌∙◌, arith, append_assoc, drop_of_length-le, inl, inr}
use Rattle.std.proofs.lemmas.List.{append-nil, drop-append-le}
use Rattle.httparse.specs.Ascii.{crlf_bytes}
use Rattle.bg_http.specs.declared.request_rules.Framing.{Framing}
use Rattle.bg_http.specs.declared.request_rules.Framing.TheVariants as framing
use Rattle.bg_http.specs.declared.request_fault.RequestFault.{RequestFault}
use Rattle.bg_http.specs.declared.request_fault.RequestFault.TheVariants as fault
use Rattle.bg_http_read.specs.declared.message_fault.MessageFault.TheVariants as message_fault
use Rattle.bg_http_read.specs.BodyFaults.{Failure, malformed, large, cut, LineFails, LineEndFails, TrailersFail, FailsAt, at_line, at_size, after_data, at_trailers, ChunksFail, LengthFails}
use Rattle.bg_http_read.specs.Chunks.{ReadsChunk, Leads}
use Rattle.bg_http_read.specs.HeadFaults.{RequestHeadFails}
use Rattle.bg_http_read.specs.Heads.{request_heads}
use Rattle.bg_http_read.specs.Requests.{FramedBodyFails, RequestBodyFails, RequestFails}
use Rattle.bg_http_read.proofs.ChunkLines.{line_more, malformed_line_more}
use Rattle.bg_http_read.proofs.InterimOrder.{compare}
use Rattle.bg_http_read.proofs.HeadsFound.{head_fails_more, head_more, request_laws}
use Rattle.bg_http_read.proofs.TrailersFound.{malformed_trailers_more}

line_stays : (failure : Failure) (input more : List ℕ) → (failure ≡ cut → ⊥)
    → LineFails failure input → LineFails failure (input ++ more)
line_stays malformed input more whole h = malformed_line_more input more h
line_stays large input more whole h = absurd h
line_stays cut input more whole h = absurd (whole refl)

trailers_stay : (failure : Failure) (input more : List ℕ) → (failure ≡ cut → ⊥)
    → TrailersFail failure input → TrailersFail failure (input ++ more)
trailers_stay malformed input more whole h = malformed_trailers_more input more h
trailers_stay large input more whole h = absurd h
trailers_stay cut input more whole h = absurd (whole refl)

-- a malformed end of a chunk's data is malformed in every continuation
other_end_stays : (size : ℕ) (after more : List ℕ) → LineEndFails malformed (drop size after)
    → LineEndFails malformed (drop size (after ++ more))
other_end_stays size after more h = by_order (compare size (length after))
  where
    within : size ≤ length after → LineEndFails malformed (drop size (after ++ more))
    within fits later next e =
        h (more ++ later) next
        (sym (append_assoc (drop size after) more later)
        ∙ ap (λ l. l ++ later) (sym (drop-append-le size after more fits)) ∙ e)

    beyond : length after < size → ⊥
    beyond less =
        let none = drop_of_length-le after (omega (arith, less)) in
        h crlf_bytes [] (ap (λ l. l ++ crlf_bytes) none ∙ sym (append-nil crlf_bytes))

    by_order : (size ≡ length after) ⊎ ((size < length after) ⊎ (length after < size))
        → LineEndFails malformed (drop size (after ++ more))
    by_order (inl e) = within (omega (arith, e))
    by_order (inr (inl less)) = within (omega (arith, less))
    by_order (inr (inr less)) = absurd (beyond less)

end_stays : (failure : Failure) (size : ℕ) (after more : List ℕ) → (failure ≡ cut → ⊥)
    → LineEndFails failure (drop size after) → LineEndFails failure (drop size (after ++ more))
end_stays malformed size after more whole h = other_end_stays size after more h
end_stays large size after more whole h = absurd h
end_stays cut size after more whole h = absurd (whole refl)

failure_stays_at : (failure : Failure) (limit sum : ℕ) (input more : List ℕ)
    → (failure ≡ cut → ⊥) → FailsAt failure limit sum input
    → FailsAt failure limit sum (input ++ more)
failure_stays_at failure limit sum input more whole (at_line h) =
    at_line (line_stays failure input more whole h)
failure_stays_at failure limit sum input more whole (at_size size after line is above) =
    at_size size (after ++ more) (line_more input more size after line) is above
failure_stays_at failure limit sum input more whole (after_data size after line some within h) =
    after_data size (after ++ more) (line_more input more size after line) some within
    (end_stays failure size after more whole h)
failure_stays_at failure limit sum input more whole (at_trailers after line h) =
    at_trailers (after ++ more) (line_more input more 0 after line)
    (trailers_stay failure after more whole h)

chunk_stays : (input more bytes rest : List ℕ) → ReadsChunk input bytes rest
    → ReadsChunk (input ++ more) bytes (rest ++ more)
chunk_stays input more bytes rest h = record {
  after = h.after ++ more;
  line = line_more input more (length bytes) h.after h.line;
  some = h.some;
  bytes_are = ap (λ l. l ++ more) h.bytes_are ∙ append_assoc bytes (crlf_bytes ++ rest) more
      ∙ ap (λ l. bytes ++ l) (append_assoc crlf_bytes rest more);
}

leads_stay : (failure : Failure) (limit sum : ℕ) (input more : List ℕ) (chunks : List (List ℕ))
    → (failure ≡ cut → ⊥) → Leads (FailsAt failure limit sum) chunks input
    → Leads (FailsAt failure limit sum) chunks (input ++ more)
leads_stay failure limit sum input more [] whole h =
    failure_stays_at failure limit sum input more whole h
leads_stay failure limit sum input more (bytes ∷ chunks) whole (next, chunk, leads) = (
  next ++ more,
  chunk_stays input more bytes next chunk,
  leads_stay failure limit sum next more chunks whole leads,
)

pub chunks_stay : (failure : Failure) (limit sum : ℕ) (input more : List ℕ)
    → (failure ≡ cut → ⊥) → ChunksFail failure limit sum input
    → ChunksFail failure limit sum (input ++ more)
chunks_stay failure limit sum input more whole h = record {
  chunks = h.chunks;
  fits = h.fits;
  leads = leads_stay failure limit _ input more h.chunks whole h.leads;
}

length_stays : (failure : Failure) (size : ℕ) (input more : List ℕ) → (failure ≡ cut → ⊥)
    → LengthFails failure size input → LengthFails failure size (input ++ more)
length_stays malformed size input more whole h = h
length_stays large size input more whole h = h
length_stays cut size input more whole h = absurd (whole refl)

framed_stays : (failure : Failure) (named : Framing) (input more : List ℕ) → (failure ≡ cut → ⊥)
    → FramedBodyFails failure named input → FramedBodyFails failure named (input ++ more)
framed_stays failure framing.NoBody input more whole h = h
framed_stays failure framing.Chunks input more whole h =
    chunks_stay failure 1048576 0 input more whole h
framed_stays failure (framing.Length size) input more whole h =
    length_stays failure size input more whole h

other_failure : (malformed ≡ cut → ⊥) × (large ≡ cut → ⊥)
other_failure = ((λ e. wrong e), λ e. above e)
  where
    wrong : malformed ≡ cut → ⊥
    wrong e = cc

    above : large ≡ cut → ⊥
    above e = cc

body_stays : (named : Framing) (input more : List ℕ) (e : RequestFault) → (e ≡ fault.Closed → ⊥)
    → RequestBodyFails named input e → RequestBodyFails named (input ++ more) e
body_stays named input more fault.ReadFailed whole h = tt
body_stays named input more fault.WriteFailed whole h = h
body_stays named input more fault.HeadTooLarge whole h = h
body_stays named input more fault.Bad whole h =
    framed_stays malformed named input more other_failure.0 h
body_stays named input more fault.Closed whole h = absurd (whole refl)
body_stays named input more fault.NotDone whole h = h
body_stays named input more fault.TooLarge whole h =
    framed_stays large named input more other_failure.1 h
body_stays named input more fault.OutOfMemory whole h = tt

head_stays : (input more : List ℕ) (e : RequestFault) → (e ≡ fault.Closed → ⊥)
    → RequestHeadFails input e → RequestHeadFails (input ++ more) e
head_stays input more fault.ReadFailed whole h = tt
head_stays input more fault.WriteFailed whole h = h
head_stays input more fault.HeadTooLarge whole h =
    head_fails_more request_heads request_laws input more message_fault.HeadTooLarge h
head_stays input more fault.Bad whole h =
    head_fails_more request_heads request_laws input more message_fault.Bad h
head_stays input more fault.Closed whole h = absurd (whole refl)
head_stays input more fault.NotDone whole h = h
head_stays input more fault.TooLarge whole h = h
head_stays input more fault.OutOfMemory whole h = tt

pub fault_stays : (input more : List ℕ) (e : RequestFault) → (e ≡ fault.Closed → ⊥)
    → RequestFails input e → RequestFails (input ++ more) e
fault_stays input more e whole (inl (inl h)) = inl (inl (record {
  head = h.head;
  after = h.after ++ more;
  reads = head_more request_heads request_laws input more h.head h.after h.reads;
  judged = h.judged;
}))
fault_stays input more e whole (inl (inr h)) = inl (inr (head_stays input more e whole h))
fault_stays input more e whole (inr (inl h)) = inr (inl (record {
  head = h.head;
  framing = h.framing;
  after = h.after ++ more;
  begins = record {
    reads = head_more request_heads request_laws input more h.head h.after h.begins.reads;
    judged = h.begins.judged;
  };
  holds = body_stays h.framing h.after more e whole h.holds;
}))
fault_stays input more e whole (inr (inr (is, h))) = inr (inr (
  is,
  record {
    head = h.head;
    framing = h.framing;
    after = h.after ++ more;
    begins = record {
      reads = head_more request_heads request_laws input more h.head h.after h.begins.reads;
      judged = h.begins.judged;
    };
    holds = h.holds;
  },
))
