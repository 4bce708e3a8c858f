-- The input that is still to be read after bytes of a body were taken.
use Rattle.std.proofs.Common.{◌≡◌, ℕ, zero, suc, ◌<◌, ◌≤◌, ◌+◌, ◌-◌, List, [], ◌∷◌, ◌++◌, length, take, drop, refl, ap, sym, ◌∙◌, arith, append_assoc, min, subst, IsFalse, true, ◌==◌, inl, inr, drop_of_length-le, get_or}
use Rattle.std.proofs.lemmas.List.{append-nil, length-append, length-take}
use Rattle.std.proofs.Math.Seq.{drop-append-add}
use Rattle.httparse.specs.Ascii.{crlf_bytes}
use Rattle.bg_http_read.specs.BodyFaults.{Failure, malformed, large, cut, LengthFails, LineEndFails, TrailersFail, EndFails, ChunksFail}
use Rattle.bg_http_read.specs.Chunks.{ReadsTrailers}
use Rattle.bg_http_read.specs.Bodies.{ReadsMoreChunks, ReadsLength, ReadsData, can_end, FailsOn, TakesOn}
use Rattle.bg_http_read.specs.declared.body.BodyStage.{BodyStage}
use Rattle.bg_http_read.specs.declared.body.BodyStage.TheVariants as stage
use Rattle.bg_http_read.proofs.Fronts.{front_more}
use Rattle.bg_http_read.proofs.TrailersFound.{trailers_more}

no_false : IsFalse true → ⊥
no_false e = cc

-- no byte is taken
pub takes_nothing : (limit : ℕ) (s : BodyStage) (done bytes : List ℕ)
    → (IsFalse (can_end s) → FailsOn cut limit s (length done) bytes)
    → (s ≡ stage.ToTheEnd → bytes ≡ []) → TakesOn limit s done s done bytes 0
takes_nothing limit s done bytes wants empty = record {
  fits = omega arith;
  read = λ more body rest h. h;
  fails = λ failure more h. h;
  wants = λ none. wants;
  empty = λ none. empty;
  ends = λ e. e;
}

-- the first bytes of a length
length_before : (left count : ℕ) (done t tail body rest : List ℕ) → length t ≡ count → count ≤ left
    → ReadsLength (left - count) (done ++ t) tail body rest
    → ReadsLength left done (t ++ tail) body rest
length_before left count done t tail body rest size fits h = record {
  bytes = t ++ h.bytes;
  size_is = omega (arith, length-append t h.bytes, h.size_is, size, fits);
  input_is = ap (λ l. t ++ l) h.input_is ∙ sym (append_assoc t h.bytes rest);
  body_is = h.body_is ∙ append_assoc done t h.bytes;
}

length_fails_before : (failure : Failure) (left count : ℕ) (t tail : List ℕ) → length t ≡ count
    → count ≤ left → LengthFails failure (left - count) tail → LengthFails failure left (t ++ tail)
length_fails_before malformed left count t tail size fits h = h
length_fails_before large left count t tail size fits h = h
length_fails_before cut left count t tail size fits h =
    omega (arith, h, length-append t tail, size, fits)

-- the first bytes of a chunk's data
data_before : (left count : ℕ) (done t tail body rest : List ℕ) → length t ≡ count → count ≤ left
    → ReadsData (left - count) (done ++ t) tail body rest → ReadsData left done (t ++ tail) body rest
data_before left count done t tail body rest size fits h = record {
  bytes = t ++ h.bytes;
  after = h.after;
  size_is = omega (arith, length-append t h.bytes, h.size_is, size, fits);
  input_is = ap (λ l. t ++ l) h.input_is ∙ sym (append_assoc t h.bytes (crlf_bytes ++ h.after));
  chunks = subst (λ l. ReadsMoreChunks l h.after body rest) (append_assoc done t h.bytes) h.chunks;
}

data_fails_before : (failure : Failure) (limit sum left count : ℕ) (t tail : List ℕ)
    → length t ≡ count → count ≤ left
    → FailsOn failure limit (stage.Data (left - count)) (sum + count) tail
    → FailsOn failure limit (stage.Data left) sum (t ++ tail)
data_fails_before failure limit sum left count t tail size fits (inl h) =
    inl (subst (LineEndFails failure) (sym same) h)
  where
    same : drop left (t ++ tail) ≡ drop (left - count) tail
    same =
        let whole : left ≡ length t + (left - count) = omega (arith, size, fits) in
        ap (λ n. drop n (t ++ tail)) whole ∙ drop-append-add t tail (left - count)
data_fails_before failure limit sum left count t tail size fits (inr h) = inr (record {
  bytes = t ++ h.bytes;
  after = h.after;
  size_is = omega (arith, length-append t h.bytes, h.size_is, size, fits);
  input_is = ap (λ l. t ++ l) h.input_is ∙ sym (append_assoc t h.bytes (crlf_bytes ++ h.after));
  fails = subst (λ n. ChunksFail failure limit n h.after) (omega (arith, fits)) h.fails;
})

-- the bytes that are there are taken, up to the length
pub takes_length : (limit left count : ℕ) (done bytes : List ℕ) → count ≡ min (length bytes) left
    → TakesOn limit (stage.Length left) done (stage.Length (left - count))
    (done ++ take count bytes) bytes count
takes_length limit left count done bytes e =
    let size : length (take count bytes) ≡ count = omega (arith, e, length-take count bytes) in
    let fits : count ≤ left = omega (arith, e) in
    record {
      fits = omega (arith, e);
      read = λ more body rest h.
          subst (λ l. ReadsLength left done l body rest) (sym (front_more bytes more count))
          (length_before left count done (take count bytes) (drop count bytes ++ more) body rest size
          fits h);
      fails = λ failure more h.
          subst (LengthFails failure left) (sym (front_more bytes more count))
          (length_fails_before failure left count (take count bytes) (drop count bytes ++ more) size
          fits h);
      wants = λ none wanting. omega (arith, none, e, positive (left - count) wanting);
      empty = λ none other. absurd (other_stage other);
      ends = λ other. absurd (other_stage other);
    }
  where
    positive : (n : ℕ) → IsFalse (n == 0) → 0 < n
    positive zero h = absurd (no_false h)
    positive (suc n) h = omega arith

    other_stage : stage.Length (left - count) ≡ stage.ToTheEnd → ⊥
    other_stage e = cc

-- a list of length 0 is empty
no_bytes : (bytes : List ℕ) → length bytes ≡ 0 → bytes ≡ []
no_bytes [] e = refl
no_bytes (x ∷ bytes) e = absurd (omega (arith, e))

-- the end of a line is cut off if no byte of it is there
line_end_missing : (size : ℕ) (input : List ℕ) → length input ≤ size
    → LineEndFails cut (drop size input)
line_end_missing size input short =
    let none = drop_of_length-le input short in
    (crlf_bytes, omega arith, ap (λ l. l ++ crlf_bytes) none)

-- the bytes that are there are taken, up to the size of the chunk
pub takes_data : (limit left count : ℕ) (done bytes : List ℕ) → 0 < left
    → count ≡ min (length bytes) left
    → TakesOn limit (stage.Data left) done (stage.Data (left - count))
    (done ++ take count bytes) bytes count
takes_data limit left count done bytes some e =
    let size : length (take count bytes) ≡ count = omega (arith, e, length-take count bytes) in
    let fits : count ≤ left = omega (arith, e) in
    record {
      fits = omega (arith, e);
      read = λ more body rest h.
          subst (λ l. ReadsData left done l body rest) (sym (front_more bytes more count))
          (data_before left count done (take count bytes) (drop count bytes ++ more) body rest size
          fits h);
      fails = λ failure more h.
          subst (FailsOn failure limit (stage.Data left) (length done))
          (sym (front_more bytes more count))
          (data_fails_before failure limit (length done) left count (take count bytes)
          (drop count bytes ++ more) size fits
          (subst (λ n. FailsOn failure limit (stage.Data (left - count)) n (drop count bytes ++ more))
          (sums size) h));
      wants = λ none wanting. inl (line_end_missing left bytes (omega (arith, none, e, some)));
      empty = λ none other. absurd (other_stage other);
      ends = λ other. absurd (other_stage other);
    }
  where
    other_stage : stage.Data (left - count) ≡ stage.ToTheEnd → ⊥
    other_stage e = cc

    sums : length (take count bytes) ≡ count
        → length (done ++ take count bytes) ≡ length done + count
    sums size = omega (arith, length-append done (take count bytes), size)

-- the CR LF after a chunk's data is taken
pub takes_line_end : (limit : ℕ) (done after : List ℕ)
    → TakesOn limit (stage.Data 0) done stage.Line done (crlf_bytes ++ after) 2
takes_line_end limit done after = record {
  fits = omega arith;
  read = λ more body rest h. record {
    bytes = [];
    after = after ++ more;
    size_is = refl;
    input_is = refl;
    chunks = subst (λ l. ReadsMoreChunks l (after ++ more) body rest) (sym (append-nil done)) h;
  };
  fails = λ failure more h. inr (record {
    bytes = [];
    after = after ++ more;
    size_is = refl;
    input_is = refl;
    fails = subst (λ n. ChunksFail failure limit n (after ++ more)) (omega arith) h;
  });
  wants = λ none. absurd (omega (arith, none));
  empty = λ none. absurd (omega (arith, none));
  ends = λ e. cc;
}

-- no byte of CR LF is there, or only CR
pub nothing_there : (bytes : List ℕ) → length bytes < 1 → LineEndFails cut bytes
nothing_there [] few = (crlf_bytes, omega arith, refl)
nothing_there (x ∷ bytes) few = absurd (omega (arith, few))

pub cr_alone : (bytes : List ℕ) → 1 ≤ length bytes → length bytes < 2 → get_or bytes 0 0 ≡ 13
    → LineEndFails cut bytes
cr_alone [] some few is = absurd (omega (arith, some))
cr_alone (x ∷ []) some few is = (10 ∷ [], omega arith, ap (λ b. b ∷ 10 ∷ []) is)
cr_alone (x ∷ y ∷ bytes) some few is = absurd (omega (arith, few))

-- the CR LF is not complete
pub takes_no_line_end : (limit : ℕ) (done bytes : List ℕ) → LineEndFails cut bytes
    → TakesOn limit (stage.Data 0) done (stage.Data 0) done bytes 0
takes_no_line_end limit done bytes h =
    takes_nothing limit (stage.Data 0) done bytes (λ wanting. inl h) (λ e. absurd (other e))
  where
    other : stage.Data 0 ≡ stage.ToTheEnd → ⊥
    other e = cc

-- trailers are taken
pub takes_trailers : (limit : ℕ) (done bytes : List ℕ) (count : ℕ) → 0 < count
    → count ≤ length bytes → ReadsTrailers bytes (drop count bytes)
    → TakesOn limit stage.Trailers done stage.Whole done bytes count
takes_trailers limit done bytes count took fits found = record {
  fits = fits;
  read = λ more body rest h. (
    subst (ReadsTrailers (bytes ++ more)) h.0 (trailers_more bytes more (drop count bytes) found),
    h.1,
  );
  fails = λ failure more h. absurd h;
  wants = λ none. absurd (omega (arith, none, took));
  empty = λ none. absurd (omega (arith, none, took));
  ends = λ e. cc;
}

-- the trailers are not complete
pub takes_no_trailers : (limit : ℕ) (done bytes : List ℕ) → TrailersFail cut bytes
    → TakesOn limit stage.Trailers done stage.Trailers done bytes 0
takes_no_trailers limit done bytes h =
    takes_nothing limit stage.Trailers done bytes (λ wanting. h) (λ e. absurd (other e))
  where
    other : stage.Trailers ≡ stage.ToTheEnd → ⊥
    other e = cc

-- all bytes are taken
pub takes_all : (limit : ℕ) (done bytes : List ℕ)
    → TakesOn limit stage.ToTheEnd done stage.ToTheEnd (done ++ bytes) bytes (length bytes)
takes_all limit done bytes = record {
  fits = omega arith;
  read = λ more body rest h. (
    h.0,
    h.1 ∙ ap (λ l. (done ++ bytes) ++ (l ++ more)) (all_dropped bytes)
        ∙ append_assoc done bytes more,
  );
  fails = λ failure more h.
      end_fails_before failure (limit - length (done ++ bytes)) (limit - length done) more
      (bytes ++ more) (subst (λ l. EndFails failure (limit - length (done ++ bytes)) (l ++ more))
      (all_dropped bytes) h)
      (λ more_left. omega (
        arith,
        more_left,
        length-append done bytes,
        length-append bytes more,
      ));
  wants = λ none wanting. absurd (no_false wanting);
  empty = λ none same. no_bytes bytes none;
  ends = λ e. e;
}
  where
    all_dropped : (l : List ℕ) → drop (length l) l ≡ []
    all_dropped [] = refl
    all_dropped (x ∷ l) = all_dropped l

    end_fails_before : (failure : Failure) (few many : ℕ) (more all : List ℕ)
        → EndFails failure few more → (few < length more → many < length all)
        → EndFails failure many all
    end_fails_before malformed few many more all h above = h
    end_fails_before large few many more all h above = above h
    end_fails_before cut few many more all h above = h
