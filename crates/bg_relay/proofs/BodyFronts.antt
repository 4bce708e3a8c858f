-- The bytes of a body so far begin each body that the input may become.
use Rattle.std.proofs.Common.{◌≡◌, ℕ, ◌≤◌, List, [], ◌∷◌, ◌++◌, length, refl, ap, ap₂, sym, ◌∙◌, arith, append_assoc, subst}
use Rattle.httparse.specs.Ascii.{crlf_bytes}
use Rattle.bg_http_read.specs.Chunks.{Leads, ReadsEnd, joined}
use Rattle.bg_http_read.specs.declared.body.BodyStage.{BodyStage}
use Rattle.bg_http_read.specs.declared.body.BodyStage.TheVariants as stage
use Rattle.bg_relay.specs.declared.framing.Framing.{Framing}
use Rattle.bg_relay.specs.declared.framing.Framing.TheVariants as framing
use Rattle.bg_relay.specs.Framings.{ReadsBody}
use Rattle.bg_relay.specs.Laws.{BeginsBodies, IsFrontOf}
use Rattle.bg_relay.specs.Places.{StandsAt}
use Rattle.bg_relay.specs.Relays.{RelayState, stage_of_output}
use Rattle.bg_relay.proofs.ChunkLists.{joined_both, leads_on, line_goes_on}
use Rattle.bg_relay.proofs.OneBody.{LastAt, chunks_at, end_no_chunk, one_chunk, one_line, plain_body}

-- of two fronts of a list, the one that is not longer begins the other
front_of : (one rest other left : List ℕ) → one ++ rest ≡ other ++ left → length one ≤ length other → IsFrontOf one other
front_of [] rest other left same short = (other, refl)
front_of (x ∷ one) rest [] left same short = absurd (omega (arith, short))
front_of (x ∷ one) rest (y ∷ other) left same short =
    let tails : one ++ rest ≡ other ++ left = cc in
    let heads : y ≡ x = cc in
    let later = front_of one rest other left tails (omega (arith, short)) in
    (later.0, ap₂ (λ a b. a ∷ b) heads later.1)

-- the chunks of an input so far are the first ones of each body that it may become
first_chunks : (E : List ℕ → Type 0) (left : List ℕ) (chunks others : List (List ℕ)) (input : List ℕ) → Leads E chunks input
    → Leads (ReadsEnd left) others input
    → (more : List (List ℕ)) × (others ≡ chunks ++ more) × ((last : List ℕ) × E last × Leads (ReadsEnd left) more last)
first_chunks E left [] others input h k = (others, refl, (input, h, k))
first_chunks E left (bytes ∷ chunks) [] input (rest, chunk, h) k = absurd (end_no_chunk left input bytes rest chunk k)
first_chunks E left (bytes ∷ chunks) (other ∷ others) input (rest, chunk, h) (next, second, k) =
    let same = one_chunk input bytes rest other next chunk second in
    let later = first_chunks E left chunks others next (subst (Leads E chunks) same.1 h) k in
    (later.0, ap₂ (λ a b. a ∷ b) (sym same.0) later.1, later.2)

nothing_begun : (begun whole : List ℕ) → begun ≡ [] → IsFrontOf begun whole
nothing_begun begun whole none = (whole, ap (λ l. l ++ whole) (sym none))

-- the data of a chunk that is begun begins the bytes of the chunks that come
begun_front : (s : BodyStage) (begun last more left : List ℕ) (chunks : List (List ℕ)) → LastAt s last begun
    → Leads (ReadsEnd left) chunks (last ++ more) → IsFrontOf begun (joined chunks)
begun_front stage.Line begun last more left chunks h k = nothing_begun begun (joined chunks) h.1
begun_front stage.Trailers begun last more left chunks h k = nothing_begun begun (joined chunks) h.1
begun_front stage.Whole begun last more left chunks h k = nothing_begun begun (joined chunks) h.1
begun_front (stage.Length n) begun last more left chunks h k = absurd h
begun_front stage.ToTheEnd begun last more left chunks h k = absurd h
begun_front (stage.Data n) begun last more left [] h k =
    let line = line_goes_on last more begun h.size h.line in
    let same = one_line (last ++ more) (begun ++ more) k.after h.size 0 line k.line in
    let some = h.some in
    absurd (omega (arith, same.0, some))
begun_front (stage.Data n) begun last more left (bytes ∷ chunks) h (rest, chunk, k) =
    let line = line_goes_on last more begun h.size h.line in
    let same = one_line (last ++ more) (begun ++ more) chunk.after h.size (length bytes) line chunk.line in
    let front = front_of begun more bytes (crlf_bytes ++ rest) (same.1 ∙ chunk.bytes_are) (omega (arith, same.0, h.size_is)) in
    (front.0 ++ joined chunks, ap (λ l. l ++ joined chunks) front.1 ∙ append_assoc begun front.0 (joined chunks))

body_front : (named : Framing) (s : BodyStage) (input body more whole left : List ℕ) → StandsAt named s input body
    → ReadsBody named (input ++ more) whole left → IsFrontOf body whole
body_front (framing.Length size) (stage.Length n) input body more whole left h reads =
    front_of body more whole left (ap (λ l. l ++ more) h.0 ∙ reads.1) (omega (arith, h.1, reads.0))
body_front (framing.Length size) s input body more whole left h reads = absurd h
body_front framing.ToTheEnd s input body more whole left h reads =
    (more, reads.1 ∙ ap (λ l. l ++ more) (sym (plain_body framing.ToTheEnd s input body tt h)))
body_front framing.Chunks s input body more whole left h reads =
    let a = chunks_at s input body h in
    let leads = leads_on (λ last. LastAt s last a.begun) (λ all. (last : List ℕ) × LastAt s last a.begun × (all ≡ last ++ more))
    more (λ last begun. (last, begun, refl)) a.chunks input a.leads in
    let both = first_chunks (λ all. (last : List ℕ) × LastAt s last a.begun × (all ≡ last ++ more)) left a.chunks
    reads.0.chunks (input ++ more) leads reads.0.leads in
    let last = both.2.1 in
    let front = begun_front s a.begun last.0 more left both.0 last.1
    (subst (Leads (ReadsEnd left) both.0) last.2 both.2.2) in (
      front.0,
      reads.0.body_is ∙ ap joined both.1 ∙ joined_both a.chunks both.0 ∙ ap (λ l. joined a.chunks ++ l) front.1
          ∙ sym (append_assoc (joined a.chunks) a.begun front.0) ∙ ap (λ l. l ++ front.0) (sym a.body_is),
    )

pub begins_bodies : (relay : RelayState) (input output body more whole left : List ℕ)
    → BeginsBodies relay input output body more whole left
begins_bodies relay input output body more whole left passes = (
  λ reads. body_front relay.incoming relay.stage input body more whole left passes.comes reads,
  λ reads. body_front relay.outgoing (stage_of_output relay.outgoing relay.stage) output body more whole left passes.goes reads,
)
