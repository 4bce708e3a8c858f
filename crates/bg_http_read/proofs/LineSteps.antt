-- The input that is still to be read after a chunk's line was taken.
use Rattle.std.proofs.Common.{◌≡◌, ◌⊎◌, ℕ, ◌<◌, ◌≤◌, ◌+◌, List, [], ◌∷◌, ◌++◌, length, drop, refl, ap, sym, ◌∙◌, arith, append_assoc, subst, inl, inr}
use Rattle.std.proofs.lemmas.List.{append-nil, length-append}
use Rattle.bg_http_read.specs.BodyFaults.{Failure, large, cut, malformed, LineFails, LineEndFails, FailsAt, at_line, at_size, after_data, at_trailers, ChunksFail}
use Rattle.bg_http_read.specs.Chunks.{ReadsLine, ReadsChunk, ReadsTrailers, Leads, joined}
use Rattle.bg_http_read.specs.Bodies.{ReadsMoreChunks, ReadsData, FailsAfterData, TakesOn}
use Rattle.bg_http_read.specs.declared.body.BodyStage.TheVariants as stage
use Rattle.bg_http_read.proofs.ChunkLines.{line_more, malformed_line_more}
use Rattle.bg_http_read.proofs.DataSteps.{takes_nothing}

-- a line and its data are a chunk
pub chunk_of : (input : List ℕ) (size : ℕ) (after done body rest : List ℕ)
    → ReadsLine input size after → 0 < size → ReadsData size done after body rest
    → ReadsMoreChunks done input body rest
chunk_of input size after done body rest line some h = record {
  bytes = h.bytes ++ h.chunks.bytes;
  chunks = record {
    chunks = h.bytes ∷ h.chunks.chunks.chunks;
    leads = (h.after, chunk, h.chunks.chunks.leads);
    body_is = ap (λ l. h.bytes ++ l) h.chunks.chunks.body_is;
  };
  body_is = h.chunks.body_is ∙ append_assoc done h.bytes h.chunks.bytes;
}
  where
    chunk : ReadsChunk input h.bytes h.after
    chunk = record {
      after = after;
      line = subst (λ n. ReadsLine input n after) (sym h.size_is) line;
      some = omega (arith, some, h.size_is);
      bytes_are = h.input_is;
    }

-- the line of size 0 and trailers are the end of the chunks
pub end_of : (input after done body rest : List ℕ) → ReadsLine input 0 after
    → ReadsTrailers after rest × (body ≡ done) → ReadsMoreChunks done input body rest
end_of input after done body rest line h = record {
  bytes = [];
  chunks = record {
    chunks = [];
    leads = record { after = after; line = line; trailers = h.0 };
    body_is = refl;
  };
  body_is = h.1 ∙ sym (append-nil done);
}

-- chunks fail if the next chunk fails
pub fails_next : (failure : Failure) (limit sum : ℕ) (input : List ℕ) → sum ≤ limit
    → FailsAt failure limit sum input → ChunksFail failure limit sum input
fails_next failure limit sum input fits h = record {
  chunks = [];
  fits = omega (arith, fits);
  leads = subst (λ n. FailsAt failure limit n input) (omega arith) h;
}

-- a failure after the line of a chunk is a failure of the chunks
pub fails_with : (failure : Failure) (limit sum : ℕ) (input : List ℕ) (size : ℕ) (after : List ℕ)
    → ReadsLine input size after → 0 < size → sum + size ≤ limit
    → LineEndFails failure (drop size after) ⊎ FailsAfterData failure limit sum size after
    → ChunksFail failure limit sum input
fails_with failure limit sum input size after line some fits (inl h) =
    fails_next failure limit sum input (omega (arith, fits)) (after_data size after line some fits h)
fails_with failure limit sum input size after line some fits (inr h) = record {
  chunks = h.bytes ∷ h.fails.chunks;
  fits = omega (arith, sums, h.fails.fits);
  leads = (
    h.after,
    record {
      after = after;
      line = subst (λ n. ReadsLine input n after) (sym h.size_is) line;
      some = omega (arith, some, h.size_is);
      bytes_are = h.input_is;
    },
    subst (λ n. Leads (FailsAt failure limit n) h.fails.chunks h.after) sums h.fails.leads,
  );
}
  where
    sums : (sum + size) + length (joined h.fails.chunks)
        ≡ sum + length (h.bytes ++ joined h.fails.chunks)
    sums =
        let long = length-append h.bytes (joined h.fails.chunks) in
        omega (arith, long, h.size_is)

-- the line of a chunk is taken
pub takes_line : (limit : ℕ) (done bytes : List ℕ) (count size : ℕ) → 0 < count
    → count ≤ length bytes → ReadsLine bytes size (drop count bytes) → 0 < size
    → length done + size ≤ limit
    → TakesOn limit stage.Line done (stage.Data size) done bytes count
takes_line limit done bytes count size took fits line some within = record {
  fits = fits;
  read = λ more body rest h.
      chunk_of (bytes ++ more) size (drop count bytes ++ more) done body rest
      (line_more bytes more size (drop count bytes) line) some h;
  fails = λ failure more h.
      fails_with failure limit (length done) (bytes ++ more) size (drop count bytes ++ more)
      (line_more bytes more size (drop count bytes) line) some within h;
  wants = λ none. absurd (omega (arith, none, took));
  empty = λ none. absurd (omega (arith, none, took));
  ends = λ e. cc;
}

-- the line of size 0 is taken
pub takes_end : (limit : ℕ) (done bytes : List ℕ) (count : ℕ) → 0 < count
    → count ≤ length bytes → ReadsLine bytes 0 (drop count bytes) → length done ≤ limit
    → TakesOn limit stage.Line done stage.Trailers done bytes count
takes_end limit done bytes count took fits line within = record {
  fits = fits;
  read = λ more body rest h.
      end_of (bytes ++ more) (drop count bytes ++ more) done body rest
      (line_more bytes more 0 (drop count bytes) line) h;
  fails = λ failure more h.
      fails_next failure limit (length done) (bytes ++ more) within
      (at_trailers (drop count bytes ++ more) (line_more bytes more 0 (drop count bytes) line) h);
  wants = λ none. absurd (omega (arith, none, took));
  empty = λ none. absurd (omega (arith, none, took));
  ends = λ e. cc;
}

-- the line is not complete
pub takes_no_line : (limit : ℕ) (done bytes : List ℕ) → LineFails cut bytes
    → length done ≤ limit → TakesOn limit stage.Line done stage.Line done bytes 0
takes_no_line limit done bytes h within =
    takes_nothing limit stage.Line done bytes
    (λ wanting. fails_next cut limit (length done) bytes within (at_line h)) (λ e. absurd (other e))
  where
    other : stage.Line ≡ stage.ToTheEnd → ⊥
    other e = cc

-- if no line comes, the body is malformed in every continuation
pub never_without_line : (limit sum : ℕ) (bytes more : List ℕ) → LineFails malformed bytes
    → sum ≤ limit → ChunksFail malformed limit sum (bytes ++ more)
never_without_line limit sum bytes more h within =
    fails_next malformed limit sum (bytes ++ more) within
    (at_line (malformed_line_more bytes more h))

-- a line that announces too many bytes does so in every continuation
pub large_by_line : (limit sum : ℕ) (bytes more : List ℕ) (count size : ℕ)
    → ReadsLine bytes size (drop count bytes) → limit < sum + size → sum ≤ limit
    → ChunksFail large limit sum (bytes ++ more)
large_by_line limit sum bytes more count size line above within =
    fails_next large limit sum (bytes ++ more) within
    (at_size size (drop count bytes ++ more) (line_more bytes more size (drop count bytes) line)
    refl above)
