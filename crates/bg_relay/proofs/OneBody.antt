-- An input stands at one place of one body.
use Rattle.std.proofs.Common.{◌≡◌, ℕ, zero, suc, ◌<◌, ◌+◌, ◌==◌, List, [], ◌∷◌, ◌++◌, length, refl, ap, ap₂, sym, ◌∙◌, arith, append_assoc, subst, true, false, flat_map, ◌⊎◌, inl, inr}
use Rattle.std.proofs.lemmas.List.{append-nil, append_cancel_left, length-append}
use Rattle.httparse.specs.Ascii.{crlf_bytes}
use Rattle.httparse.specs.Grammar.{ChunkLine, LineEnd, chunk_size, crlf, lf, print_chunk_line, print_end, print_extension, print_field, print_section}
use Rattle.httparse.proofs.ChunkLemmas.{chunk_line_unique}
use Rattle.httparse.proofs.GrammarLemmas.{section_unique}
use Rattle.std.proofs.lemmas.Bool.{eqb-true}
use Rattle.bg_http_read.specs.Bodies.{is_whole}
use Rattle.bg_http_read.specs.Chunks.{Leads, ReadsChunk, ReadsChunks, ReadsEnd, ReadsLine, ReadsTrailers, joined}
use Rattle.bg_http_read.specs.declared.body.BodyStage.{BodyStage}
use Rattle.bg_http_read.specs.declared.body.BodyStage.TheVariants as stage
use Rattle.bg_relay.specs.declared.framing.Framing.{Framing}
use Rattle.bg_relay.specs.declared.framing.Framing.TheVariants as framing
use Rattle.bg_relay.specs.Laws.{HasNoChunks, IsBody, IsNoBody}
use Rattle.bg_relay.specs.Places.{ChunksThen, DataOf, EndOf, NothingOf, StandsAt}
use Rattle.bg_relay.proofs.ChunkLists.{leads_as, leads_on, line_goes_on}

-- a line has bytes, and so have trailers
line_has_bytes : (line : ChunkLine) → 0 < length (print_chunk_line line)
unfolding print_chunk_line
line_has_bytes line =
    omega (arith, length-append (line.digits ++ line.pad ++ print_extension line.extension) crlf_bytes)

no_line : (input after : List ℕ) (size : ℕ) → input ≡ [] → ReadsLine input size after → ⊥
no_line input after size none h =
    omega (
      arith,
      line_has_bytes h.line,
      ap length none,
      ap length h.input_is,
      length-append (print_chunk_line h.line) after,
    )

end_has_bytes : (end : LineEnd) → 0 < length (print_end end)
end_has_bytes crlf = omega arith
end_has_bytes lf = omega arith

no_trailers : (input rest : List ℕ) → input ≡ [] → ReadsTrailers input rest → ⊥
no_trailers input rest none h =
    let section = print_section h.fields h.last in
    omega (
      arith,
      end_has_bytes h.last,
      ap length none,
      ap length h.reads.1,
      length-append section rest,
      length-append (flat_map print_field h.fields) (print_end h.last),
    )

-- an input begins with at most one line, and one chunk
pub one_line : (input after behind : List ℕ) (size other : ℕ) → ReadsLine input size after → ReadsLine input other behind
    → (size ≡ other) × (after ≡ behind)
one_line input after behind size other h k =
    let same = chunk_line_unique input h.line k.line after behind (h.is.valid, h.input_is) (k.is.valid, k.input_is) in
    (h.is.size_is ∙ ap chunk_size same.0 ∙ sym k.is.size_is, same.1)

pub fronts : (one rest other left : List ℕ) → one ++ rest ≡ other ++ left → length one ≡ length other
    → (one ≡ other) × (rest ≡ left)
fronts [] rest [] left same long = (refl, same)
fronts [] rest (y ∷ other) left same long = absurd (omega (arith, long))
fronts (x ∷ one) rest [] left same long = absurd (omega (arith, long))
fronts (x ∷ one) rest (y ∷ other) left same long =
    let tails : one ++ rest ≡ other ++ left = cc in
    let heads : x ≡ y = cc in
    let later = fronts one rest other left tails (omega (arith, long)) in
    (ap₂ (λ a b. a ∷ b) heads later.0, later.1)

pub one_chunk : (input one rest other left : List ℕ) → ReadsChunk input one rest → ReadsChunk input other left
    → (one ≡ other) × (rest ≡ left)
one_chunk input one rest other left h k =
    let lines = one_line input h.after k.after (length one) (length other) h.line k.line in
    let same = fronts one (crlf_bytes ++ rest) other (crlf_bytes ++ left) (sym h.bytes_are ∙ lines.1 ∙ k.bytes_are) lines.0 in
    (same.0, append_cancel_left crlf_bytes rest left same.1)

-- what comes behind the chunks is no chunk
abbrev pub NoChunk : (List ℕ → Type 0) → Type 0
NoChunk E = (input bytes rest : List ℕ) → ReadsChunk input bytes rest → E input → ⊥

-- an input begins with one list of chunks
pub one_list : (E F : List ℕ → Type 0) → NoChunk E → NoChunk F → (one other : List (List ℕ)) (input : List ℕ)
    → Leads E one input → Leads F other input → (one ≡ other) × ((last : List ℕ) × E last × F last)
one_list E F e f [] [] input h k = (refl, (input, h, k))
one_list E F e f [] (bytes ∷ more) input h (rest, chunk, k) = absurd (e input bytes rest chunk h)
one_list E F e f (bytes ∷ more) [] input (rest, chunk, h) k = absurd (f input bytes rest chunk k)
one_list E F e f (bytes ∷ more) (others ∷ most) input (rest, chunk, h) (left, second, k) =
    let same = one_chunk input bytes rest others left chunk second in
    let later = one_list E F e f more most left (subst (Leads E more) same.1 h) k in
    (ap₂ (λ a b. a ∷ b) same.0 later.0, later.1)

-- what comes behind the chunks at a stage
abbrev pub LastAt : BodyStage → List ℕ → List ℕ → Type 0
LastAt stage.Line last begun = NothingOf last begun
LastAt (stage.Data left) last begun = DataOf left last begun
LastAt stage.Trailers last begun = EndOf last begun
LastAt stage.Whole last begun = ReadsEnd [] last × (begun ≡ [])
LastAt other last begun = ⊥

pub end_no_chunk : (rest : List ℕ) → NoChunk (ReadsEnd rest)
end_no_chunk rest input bytes next chunk end =
    let same = one_line input chunk.after end.after (length bytes) 0 chunk.line end.line in
    let some = chunk.some in
    omega (arith, same.0, some)

pub last_no_chunk : (s : BodyStage) (begun : List ℕ) → NoChunk (λ last. LastAt s last begun)
last_no_chunk stage.Line begun input bytes rest chunk h = no_line input chunk.after (length bytes) h.0 chunk.line
last_no_chunk (stage.Data left) begun input bytes rest chunk h =
    let same = one_line input chunk.after begun (length bytes) h.size chunk.line h.line in
    omega (
      arith,
      same.0,
      ap length (sym same.1 ∙ chunk.bytes_are),
      length-append bytes (crlf_bytes ++ rest),
      length-append crlf_bytes rest,
      h.size_is,
    )
last_no_chunk stage.Trailers begun input bytes rest chunk h =
    let same = one_line input chunk.after [] (length bytes) 0 chunk.line h.0 in
    let some = chunk.some in
    omega (arith, same.0, some)
last_no_chunk stage.Whole begun input bytes rest chunk h = end_no_chunk [] input bytes rest chunk h.0
last_no_chunk (stage.Length left) begun input bytes rest chunk h = h
last_no_chunk stage.ToTheEnd begun input bytes rest chunk h = h

-- a chunk that is begun is not the end
pub begun_no_end : (s : BodyStage) (begun last rest : List ℕ) → is_whole s ≡ false → LastAt s last begun
    → ReadsEnd rest last → ⊥
begun_no_end stage.Line begun last rest missing h end = no_line last end.after 0 h.0 end.line
begun_no_end (stage.Data left) begun last rest missing h end =
    let same = one_line last begun end.after h.size 0 h.line end.line in
    let some = h.some in
    omega (arith, same.0, some)
begun_no_end stage.Trailers begun last rest missing h end =
    let same = one_line last [] end.after 0 0 h.0 end.line in
    no_trailers end.after rest (sym same.1) end.trailers
begun_no_end stage.Whole begun last rest missing h end = cc
begun_no_end (stage.Length left) begun last rest missing h end = h
begun_no_end stage.ToTheEnd begun last rest missing h end = h

-- the line that was begun, if there is one
line_begun : (s : BodyStage) (begun last : List ℕ) → LastAt s last begun
    → ((last ≡ []) × (begun ≡ [])) ⊎ ((size : ℕ) × (after : List ℕ) × ReadsLine last size after
    × ((size ≡ 0 → begun ≡ []) × (0 < size → begun ≡ after)))
line_begun stage.Line begun last h = inl h
line_begun (stage.Data left) begun last h =
    let some = h.some in inr (h.size, begun, h.line, (λ none. absurd (omega (arith, none, some)), λ more. refl))
line_begun stage.Trailers begun last h = inr (0, [], h.0, (λ none. h.1, λ more. absurd (omega (arith, more))))
line_begun stage.Whole begun last h =
    inr (0, h.0.after, h.0.line, (λ none. h.1, λ more. absurd (omega (arith, more))))
line_begun (stage.Length left) begun last h = absurd h
line_begun stage.ToTheEnd begun last h = absurd h

one_begun : (s t : BodyStage) (one other last : List ℕ) → LastAt s last one → LastAt t last other → one ≡ other
one_begun s t one other last h k = by_lines (line_begun s one last h) (line_begun t other last k)
  where
    by_size : (size more : ℕ) (after behind : List ℕ) → size ≡ more → after ≡ behind
        → (size ≡ 0 → one ≡ []) × (0 < size → one ≡ after) → (more ≡ 0 → other ≡ []) × (0 < more → other ≡ behind) → one ≡ other
    by_size zero more after behind same rest a b = a.0 refl ∙ sym (b.0 (sym same))
    by_size (suc size) more after behind same rest a b = a.1 (omega arith) ∙ rest ∙ sym (b.1 (omega (arith, same)))

    by_lines : ((last ≡ []) × (one ≡ [])) ⊎ ((size : ℕ) × (after : List ℕ) × ReadsLine last size after
        × ((size ≡ 0 → one ≡ []) × (0 < size → one ≡ after)))
        → ((last ≡ []) × (other ≡ [])) ⊎ ((size : ℕ) × (after : List ℕ) × ReadsLine last size after
        × ((size ≡ 0 → other ≡ []) × (0 < size → other ≡ after))) → one ≡ other
    by_lines (inl a) (inl b) = a.1 ∙ sym b.1
    by_lines (inl a) (inr b) = absurd (no_line last b.1 b.0 a.0 b.2)
    by_lines (inr a) (inl b) = absurd (no_line last a.1 a.0 b.0 a.2)
    by_lines (inr a) (inr b) =
        let same = one_line last a.1 b.1 a.0 b.0 a.2 b.2 in by_size a.0 b.0 a.1 b.1 same.0 same.1 a.3 b.3

-- ---- the places of a body

pub chunks_at : (s : BodyStage) (input body : List ℕ) → StandsAt framing.Chunks s input body
    → ChunksThen (LastAt s) input body
chunks_at stage.Line input body h = record { chunks = h.chunks; begun = h.begun; leads = h.leads; body_is = h.body_is }
chunks_at (stage.Data left) input body h =
    record { chunks = h.chunks; begun = h.begun; leads = h.leads; body_is = h.body_is }
chunks_at stage.Trailers input body h = record { chunks = h.chunks; begun = h.begun; leads = h.leads; body_is = h.body_is }
chunks_at stage.Whole input body h = record {
  chunks = h.chunks;
  begun = [];
  leads = leads_as (ReadsEnd []) (λ last. LastAt stage.Whole last []) (λ last end. (end, refl)) h.chunks input h.leads;
  body_is = h.body_is ∙ sym (append-nil (joined h.chunks));
}
chunks_at (stage.Length left) input body h = absurd h
chunks_at stage.ToTheEnd input body h = absurd h

-- without chunks, the input is the body
pub plain_body : (named : Framing) (s : BodyStage) (input body : List ℕ) → HasNoChunks named → StandsAt named s input body
    → body ≡ input
plain_body framing.Chunks s input body none h = absurd none
plain_body (framing.Length size) (stage.Length left) input body none h = h.0
plain_body (framing.Length size) s input body none h = absurd h
plain_body framing.ToTheEnd stage.ToTheEnd input body none h = h
plain_body framing.ToTheEnd stage.Whole input body none h = h
plain_body framing.ToTheEnd s input body none h = absurd h

-- an input has one body so far
pub one_body : (named : Framing) (s t : BodyStage) (input one other : List ℕ) → StandsAt named s input one
    → StandsAt named t input other → one ≡ other
one_body (framing.Length size) s t input one other h k =
    plain_body (framing.Length size) s input one tt h ∙ sym (plain_body (framing.Length size) t input other tt k)
one_body framing.ToTheEnd s t input one other h k =
    plain_body framing.ToTheEnd s input one tt h ∙ sym (plain_body framing.ToTheEnd t input other tt k)
one_body framing.Chunks s t input one other h k =
    let a = chunks_at s input one h in
    let b = chunks_at t input other k in
    let same = one_list (λ last. LastAt s last a.begun) (λ last. LastAt t last b.begun) (last_no_chunk s a.begun)
    (last_no_chunk t b.begun) a.chunks b.chunks input a.leads b.leads in
    let begun = one_begun s t a.begun b.begun same.1.0 same.1.1 same.1.2 in
    a.body_is ∙ ap₂ (λ x y. joined x ++ y) same.0 begun ∙ sym b.body_is

-- an input that stands before the end of a body begins with none
pub no_body : (named : Framing) (s : BodyStage) (input body : List ℕ) → is_whole s ≡ false → StandsAt named s input body
    → IsNoBody named input
no_body (framing.Length size) (stage.Length left) input body missing h = λ other rest reads.
    omega (
      arith,
      positive left missing,
      h.1,
      ap length h.0,
      reads.0,
      ap length reads.1,
      length-append other rest,
    )
  where
    positive : (n : ℕ) → (n == 0) ≡ false → 0 < n
    positive zero h = cc
    positive (suc n) h = omega arith
no_body (framing.Length size) s input body missing h = absurd h
no_body framing.ToTheEnd s input body missing h = tt
no_body framing.Chunks s input body missing h = λ other rest reads.
    let a = chunks_at s input body h in
    let same = one_list (λ last. LastAt s last a.begun) (ReadsEnd rest) (last_no_chunk s a.begun) (end_no_chunk rest)
    a.chunks reads.0.chunks input a.leads reads.0.leads in
    begun_no_end s a.begun same.1.0 rest missing same.1.1 same.1.2

-- ---- a whole body

chunks_are : (input body : List ℕ) → ReadsChunks input body [] → IsBody framing.Chunks input body
chunks_are input body h = record {
  reads = (h, omega arith);
  only = λ other left k.
      let same = one_list (ReadsEnd []) (ReadsEnd left) (end_no_chunk []) (end_no_chunk left) h.chunks k.0.chunks input
      h.leads k.0.leads in
      let first = same.1.1 in
      let second = same.1.2 in
      let lines = one_line same.1.0 first.after second.after 0 0 first.line second.line in (
        k.0.body_is ∙ sym (ap joined same.0) ∙ sym h.body_is,
        sym (one_rest first.after [] left first.trailers (subst (λ l. ReadsTrailers l left) (sym lines.1) second.trailers)),
      );
  ends = λ more. (
    record {
      chunks = h.chunks;
      leads = leads_on (ReadsEnd []) (ReadsEnd more) more (λ last end. record {
        after = end.after ++ more;
        line = line_goes_on last more end.after 0 end.line;
        trailers = trailers_go_on end.after more end.trailers;
      }) h.chunks input h.leads;
      body_is = h.body_is;
    },
    omega arith,
  );
}
  where
    one_rest : (after one other : List ℕ) → ReadsTrailers after one → ReadsTrailers after other → one ≡ other
    one_rest after one other a b =
        (section_unique after a.fields b.fields a.last b.last one other a.reads b.reads).2

    trailers_go_on : (after more : List ℕ) → ReadsTrailers after [] → ReadsTrailers (after ++ more) more
    trailers_go_on after more t = record {
      fields = t.fields;
      last = t.last;
      reads = (
        t.reads.0,
        ap (λ l. l ++ more) t.reads.1 ∙ append_assoc (print_section t.fields t.last) [] more,
      );
      size = t.size;
      count = t.count;
    }

length_is : (size left : ℕ) (input body : List ℕ) → left ≡ 0 → (body ≡ input) × (length body + left ≡ size)
    → IsBody (framing.Length size) input body
length_is size left input body none h =
    let whole : input ≡ body ++ [] = sym h.0 ∙ sym (append-nil body) in
    let long : length body ≡ size = omega (arith, h.1, none) in
    record {
      reads = (long, whole);
      only = λ other rest k. fronts other rest body [] (sym k.1 ∙ whole) (k.0 ∙ sym long);
      ends = λ more. (long, ap (λ l. l ++ more) (sym h.0));
    }

all_is : (input body : List ℕ) → body ≡ input → IsBody framing.ToTheEnd input body
all_is input body h = record {
  reads = (refl, h, omega arith);
  only = λ other left k. (k.1 ∙ sym h, k.0);
  ends = λ more. tt;
}

pub is_body : (named : Framing) (s : BodyStage) (input body : List ℕ) → is_whole s ≡ true → StandsAt named s input body
    → IsBody named input body
is_body (framing.Length size) (stage.Length left) input body whole h =
    length_is size left input body (eqb-true left 0 whole) h
is_body (framing.Length size) s input body whole h = absurd h
is_body framing.Chunks stage.Whole input body whole h = chunks_are input body h
is_body framing.Chunks stage.Line input body whole h = cc
is_body framing.Chunks (stage.Data left) input body whole h = cc
is_body framing.Chunks stage.Trailers input body whole h = cc
is_body framing.Chunks (stage.Length left) input body whole h = absurd h
is_body framing.Chunks stage.ToTheEnd input body whole h = absurd h
is_body framing.ToTheEnd stage.Whole input body whole h = all_is input body h
is_body framing.ToTheEnd stage.ToTheEnd input body whole h = cc
is_body framing.ToTheEnd s input body whole h = absurd h
