-- Chunks, one after the other, and what follows them.
use Rattle.std.proofs.Common.{◌≡◌, ℕ, List, [], ◌∷◌, ◌++◌, length, refl, ap, sym, ◌∙◌, append_assoc}
use Rattle.httparse.specs.Ascii.{crlf_bytes}
use Rattle.httparse.specs.Grammar.{print_chunk_line}
use Rattle.bg_http_read.specs.Chunks.{Leads, ReadsChunk, ReadsLine, joined}

-- more bytes come behind a line, and behind a chunk
pub line_goes_on : (input more after : List ℕ) (size : ℕ) → ReadsLine input size after
    → ReadsLine (input ++ more) size (after ++ more)
line_goes_on input more after size h = record {
  line = h.line;
  is = h.is;
  input_is = ap (λ l. l ++ more) h.input_is ∙ append_assoc (print_chunk_line h.line) after more;
}

pub chunk_goes_on : (input more bytes rest : List ℕ) → ReadsChunk input bytes rest
    → ReadsChunk (input ++ more) bytes (rest ++ more)
chunk_goes_on input more bytes rest h = record {
  after = h.after ++ more;
  line = line_goes_on input more h.after (length bytes) h.line;
  some = h.some;
  bytes_are = ap (λ l. l ++ more) h.bytes_are ∙ append_assoc bytes (crlf_bytes ++ rest) more
      ∙ ap (λ l. bytes ++ l) (append_assoc crlf_bytes rest more);
}

-- more bytes come behind chunks, and lead on from what was behind them
pub leads_on : (E F : List ℕ → Type 0) (more : List ℕ) → ((last : List ℕ) → E last → F (last ++ more))
    → (chunks : List (List ℕ)) (input : List ℕ) → Leads E chunks input → Leads F chunks (input ++ more)
leads_on E F more next [] input h = next input h
leads_on E F more next (bytes ∷ chunks) input (rest, chunk, h) =
    (rest ++ more, chunk_goes_on input more bytes rest chunk, leads_on E F more next chunks rest h)

-- behind chunks come further ones
pub leads_both : (E : List ℕ → Type 0) (chunks more : List (List ℕ)) (input : List ℕ)
    → Leads (Leads E more) chunks input → Leads E (chunks ++ more) input
leads_both E [] more input h = h
leads_both E (bytes ∷ chunks) more input (rest, chunk, h) =
    (rest, chunk, leads_both E chunks more rest h)

pub joined_both : (chunks more : List (List ℕ)) → joined (chunks ++ more) ≡ joined chunks ++ joined more
joined_both [] more = refl
joined_both (bytes ∷ chunks) more =
    ap (λ l. bytes ++ l) (joined_both chunks more) ∙ sym (append_assoc bytes (joined chunks) (joined more))

-- what comes behind the chunks
pub last_of : (E : List ℕ → Type 0) (chunks : List (List ℕ)) (input : List ℕ) → Leads E chunks input
    → (last : List ℕ) × E last
last_of E [] input h = (input, h)
last_of E (bytes ∷ chunks) input (rest, chunk, h) = last_of E chunks rest h

-- what comes behind the chunks, in other words
pub leads_as : (E F : List ℕ → Type 0) → ((last : List ℕ) → E last → F last) → (chunks : List (List ℕ))
    (input : List ℕ) → Leads E chunks input → Leads F chunks input
leads_as E F same [] input h = same input h
leads_as E F same (bytes ∷ chunks) input (rest, chunk, h) = (rest, chunk, leads_as E F same chunks rest h)
