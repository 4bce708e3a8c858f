-- The body of a message, read from its start.
use Rattle.std.proofs.Common.{◌≡◌, ◌⊎◌, ℕ, ◌≤◌, ◌+◌, ◌-◌, List, [], ◌∷◌, ◌++◌, length, refl, ap, sym, ◌∙◌, arith, subst, inl}
use Rattle.bg_http_read.specs.declared.body.Body.{Body}
use Rattle.bg_http_read.specs.declared.body.BodyFraming.{BodyFraming}
use Rattle.bg_http_read.specs.declared.body.BodyFraming.TheVariants as framing
use Rattle.bg_http_read.specs.declared.body.BodyStage.TheVariants as stage
use Rattle.bg_http_read.specs.Bodies.{FailsOn, Fails, KeepsLimit, Reads, ReadsMoreChunks, ReadsOn, announced}
use Rattle.bg_http_read.specs.BodyFaults.{Failure, malformed, large, cut, ChunksFail, EndFails, LengthFails}
use Rattle.bg_http_read.specs.BodyFramings.{FramedFails, FramedReads, StartsBody, first_stage, most_of}
use Rattle.bg_http_read.specs.Chunks.{ReadsChunks}
use Rattle.bg_http_read.specs.Laws.{EndsInManyTrailers}
use Rattle.bg_http_read.proofs.BodyOrFault.{body_or_fault, length_or_fault}
use Rattle.bg_http_read.proofs.ChunkLines.{one_chunks}
use Rattle.bg_http_read.proofs.Fronts.{equal_front}
use Rattle.bg_http_read.proofs.OneFailure.{one_body_failure, one_length_failure}

-- the input that a parser has still to read before the first byte, by its stage
module _ (b : Body) (none : b.bytes.items ≡ []) where
  chunks_of : b.stage ≡ stage.Line → (i x r : List ℕ) → Reads b i x r → ReadsChunks i x r
  chunks_of s i x r h =
      let more = subst (λ d. ReadsMoreChunks d i x r) none (subst (λ t. ReadsOn t b.bytes.items i x r) s h) in
      subst (λ l. ReadsChunks i l r) (sym more.body_is) more.chunks

  length_of : (n : ℕ) → b.stage ≡ stage.Length n → (i x r : List ℕ) → Reads b i x r
      → (length x ≡ n) × (i ≡ x ++ r)
  length_of n s i x r h =
      let l = subst (λ d. ReadsOn (stage.Length n) d i x r) none (subst (λ t. ReadsOn t b.bytes.items i x r) s h) in
      (ap length l.body_is ∙ l.size_is, l.input_is ∙ ap (λ q. q ++ r) (sym l.body_is))

  pub end_of : b.stage ≡ stage.ToTheEnd → (i x r : List ℕ) → Reads b i x r → (r ≡ []) × (x ≡ i)
  end_of s i x r h =
      subst (λ d. ReadsOn stage.ToTheEnd d i x r) none (subst (λ t. ReadsOn t b.bytes.items i x r) s h)

  failed_chunks : (most : ℕ) → b.stage ≡ stage.Line → b.limit ≡ most → (failure : Failure)
      (i : List ℕ) → Fails b failure i → ChunksFail failure most 0 i
  failed_chunks most s limit failure i h =
      subst (λ n. ChunksFail failure n 0 i) limit
      (subst (λ d. ChunksFail failure b.limit (length d) i) none
      (subst (λ t. FailsOn failure b.limit t (length b.bytes.items) i) s h))

  failed_length : (n : ℕ) → b.stage ≡ stage.Length n → (failure : Failure) (i : List ℕ)
      → Fails b failure i → LengthFails failure n i
  failed_length n s failure i h =
      subst (λ t. FailsOn failure b.limit t (length b.bytes.items) i) s h

  failed_end : (most : ℕ) → b.stage ≡ stage.ToTheEnd → b.limit ≡ most → (failure : Failure)
      (i : List ℕ) → Fails b failure i → EndFails failure most i
  failed_end most s limit failure i h =
      subst (λ n. EndFails failure n i) room
      (subst (λ t. FailsOn failure b.limit t (length b.bytes.items) i) s h)
    where
      room : b.limit - length b.bytes.items ≡ most
      room = let empty = ap length none in omega (arith, limit, empty)

no_bytes : (l : List ℕ) → length l ≡ 0 → l ≡ []
no_bytes [] e = refl
no_bytes (x ∷ l) e = absurd (omega (arith, e))

no_length : (failure : Failure) (i : List ℕ) → LengthFails failure 0 i → ⊥
no_length malformed i h = h
no_length large i h = h
no_length cut i h = omega (arith, h)

-- what is read from the start of a body is the body that the framing names
pub framed_reads : (named : BodyFraming) (b : Body) → StartsBody named b → (i x r : List ℕ)
    → length x ≤ b.limit → Reads b i x r → FramedReads named i x r
framed_reads framing.Empty b start i x r small h =
    let l = length_of b start.none 0 start.stage_is i x r h in
    let none = no_bytes x l.0 in
    (none, l.1 ∙ ap (λ q. q ++ r) none)
framed_reads (framing.Chunks most) b start i x r small h =
    (chunks_of b start.none start.stage_is i x r h, subst (λ n. length x ≤ n) start.limit_is small)
framed_reads (framing.Length size) b start i x r small h =
    length_of b start.none size start.stage_is i x r h
framed_reads (framing.ToTheEnd most) b start i x r small h =
    let e = end_of b start.none start.stage_is i x r h in
    (e.0, e.1, subst (λ n. length x ≤ n) start.limit_is small)

-- what fails from the start of a body is the body that the framing names
pub framed_fails : (named : BodyFraming) (b : Body) → StartsBody named b → (failure : Failure)
    (i : List ℕ) → Fails b failure i → FramedFails failure named i
framed_fails framing.Empty b start failure i h =
    no_length failure i (failed_length b start.none 0 start.stage_is failure i h)
framed_fails (framing.Chunks most) b start failure i h =
    failed_chunks b start.none most start.stage_is start.limit_is failure i h
framed_fails (framing.Length size) b start failure i h =
    failed_length b start.none size start.stage_is failure i h
framed_fails (framing.ToTheEnd most) b start failure i h =
    failed_end b start.none most start.stage_is start.limit_is failure i h

-- a body is within its limit before its first byte
pub body_starts : (named : BodyFraming) (body : Body) → StartsBody named body → KeepsLimit body
body_starts named body h =
    subst (λ n. length body.bytes.items + announced body.stage ≤ n) (sym h.limit_is)
    (subst (λ s. length body.bytes.items + announced s ≤ most_of named) (sym h.stage_is)
    (subst (λ l. length l + announced (first_stage named) ≤ most_of named) (sym h.none) (fits named)))
  where
    fits : (named : BodyFraming) → 0 + announced (first_stage named) ≤ most_of named
    fits framing.Empty = omega arith
    fits (framing.Chunks most) = omega arith
    fits (framing.Length size) = omega arith
    fits (framing.ToTheEnd most) = omega arith

-- an input has one body
pub one_framed : (named : BodyFraming) (input one other rest left : List ℕ)
    → FramedReads named input one rest → FramedReads named input other left
    → (one ≡ other) × (rest ≡ left)
one_framed framing.Empty input one other rest left h k = (h.0 ∙ sym k.0, sym h.1 ∙ k.1)
one_framed (framing.Chunks most) input one other rest left h k =
    one_chunks input one other rest left h.0 k.0
one_framed (framing.Length size) input one other rest left h k =
    equal_front one rest other left (sym h.1 ∙ k.1) (h.0 ∙ sym k.0)
one_framed (framing.ToTheEnd most) input one other rest left h k = (h.1 ∙ sym k.1, h.0 ∙ sym k.0)

end_or_fault : (failure : Failure) (limit : ℕ) (input body : List ℕ) → body ≡ input
    → length body ≤ limit → EndFails failure limit input → ⊥
end_or_fault malformed limit input body is fits f = f
end_or_fault large limit input body is fits f = omega (arith, f, fits, ap length is)
end_or_fault cut limit input body is fits f = f

-- an input that begins with a body does not fail
pub framed_or_fault : (named : BodyFraming) (failure : Failure) (input body rest : List ℕ)
    → FramedReads named input body rest → FramedFails failure named input → ⊥
framed_or_fault framing.Empty failure input body rest h f = f
framed_or_fault (framing.Chunks most) failure input body rest (reads, fits) f =
    body_or_fault failure most input body rest reads fits f
framed_or_fault (framing.Length size) failure input body rest (long, whole) f =
    length_or_fault failure size input body rest long whole f
framed_or_fault (framing.ToTheEnd most) failure input body rest (ends, is, fits) f =
    end_or_fault failure most input body is fits f

one_end_failure : (one other : Failure) (limit : ℕ) (input : List ℕ) → EndFails one limit input
    → EndFails other limit input → one ≡ other
one_end_failure malformed other limit input h k = absurd h
one_end_failure cut other limit input h k = absurd h
one_end_failure large malformed limit input h k = absurd k
one_end_failure large cut limit input h k = absurd k
one_end_failure large large limit input h k = refl

-- a body fails in one way
pub one_framed_failure : (named : BodyFraming) (one other : Failure) (input : List ℕ)
    → FramedFails one named input → FramedFails other named input
    → (one ≡ other) ⊎ EndsInManyTrailers input
one_framed_failure framing.Empty one other input h k = absurd h
one_framed_failure (framing.Chunks most) one other input h k = one_body_failure one other most input h k
one_framed_failure (framing.Length size) one other input h k =
    inl (one_length_failure one other size input h k)
one_framed_failure (framing.ToTheEnd most) one other input h k =
    inl (one_end_failure one other most input h k)
