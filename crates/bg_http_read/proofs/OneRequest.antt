-- An input begins with at most one request, which has bytes of its own.
use Rattle.std.proofs.Common.{◌≡◌, ◌⊎◌, inl, inr, ℕ, ◌<◌, ◌≤◌, Bool, List, [], ◌∷◌, ◌++◌, length, drop, refl, ap, sym, ◌∙◌, arith, subst, append_assoc, Option, Ok}
use Rattle.std.proofs.lemmas.List.{append-nil, append_cancel_left}
use Rattle.httparse.specs.Ascii.{crlf_bytes}
use Rattle.httparse.specs.Grammar.{print_chunk_line, print_request, print_section}
use Rattle.bg_http.specs.RequestRules.{request_framing}
use Rattle.bg_http.specs.declared.request.Request.{Request}
use Rattle.bg_http.specs.declared.request_rules.Framing.{Framing}
use Rattle.bg_http.specs.declared.request_rules.Framing.TheVariants as framing
use Rattle.bg_http_read.specs.Chunks.{Leads, ReadsEnd}
use Rattle.bg_http_read.specs.RequestStates.{IsReadThen, LacksRequest}
use Rattle.bg_http_read.specs.BodyFramings.{FramedReads}
use Rattle.bg_http_read.specs.Requests.{ReadsRequest, ReadsRequestBody, body_of_request}
use Rattle.bg_http_read.specs.RequestsFed.{framed_body}
use Rattle.bg_http_read.proofs.FramedBodies.{one_framed}
use Rattle.bg_http_read.proofs.Fronts.{prefix_of}
use Rattle.bg_http_read.proofs.InterimOrder.{compare}
use Rattle.bg_http_read.specs.Heads.{request_heads}
use Rattle.bg_http_read.proofs.HeadsFound.{one_head, request_laws}

-- the body of a request, by its bytes
pub named_bytes : (named : Framing) (input : List ℕ) (body : Option (List ℕ)) (rest : List ℕ)
    → ReadsRequestBody named input body rest
    → (bytes : List ℕ) × (body ≡ framed_body named bytes)
    × FramedReads (body_of_request named) input bytes rest
named_bytes framing.NoBody input body rest (is, whole) = ([], is, (refl, whole))
named_bytes framing.Chunks input body rest (bytes, is, reads, fits) = (bytes, is, (reads, fits))
named_bytes (framing.Length size) input body rest (bytes, is, long, whole) = (bytes, is, (long, whole))

pub one_body : (named : Framing) (input : List ℕ) (one other : Option (List ℕ)) (rest left : List ℕ)
    → ReadsRequestBody named input one rest → ReadsRequestBody named input other left
    → (one ≡ other) × (rest ≡ left)
one_body named input one other rest left h k =
    let a = named_bytes named input one rest h in
    let b = named_bytes named input other left k in
    let same = one_framed (body_of_request named) input a.0 b.0 rest left a.2 b.2 in
    (a.1 ∙ ap (framed_body named) same.0 ∙ sym b.1, same.1)

pub one_request : (input : List ℕ) (one other : Request) (rest left : List ℕ)
    → ReadsRequest input one rest → ReadsRequest input other left → (one ≡ other) × (rest ≡ left)
one_request input one other rest left h k =
    let heads = one_head request_heads request_laws input h.head k.head h.after k.after h.begins.reads k.begins.reads in
    let both : Ok h.framing ≡ Ok k.framing =
    sym h.begins.judged ∙ ap request_framing heads.0 ∙ k.begins.judged in
    let framings : h.framing ≡ k.framing = cc in
    let bodies = one_body k.framing k.after one.body other.body rest left
    (subst (λ n. ReadsRequestBody n k.after one.body rest) framings
    (subst (λ l. ReadsRequestBody h.framing l one.body rest) heads.1 h.body)) k.body in
    let methods : one.method ≡ other.method = h.method_is ∙ ap (λ t. t.method) heads.0 ∙ sym k.method_is in
    let targets : one.target ≡ other.target = h.target_is ∙ ap (λ t. t.target) heads.0 ∙ sym k.target_is in
    let minors : one.minor ≡ other.minor = h.minor_is ∙ ap (λ t. t.minor) heads.0 ∙ sym k.minor_is in
    let fields : one.fields ≡ other.fields = h.fields_are ∙ ap (λ t. t.fields) heads.0 ∙ sym k.fields_are in
    (same_parts one other methods targets minors fields bodies.0, bodies.1)
  where
    same_parts : (a b : Request) → a.method ≡ b.method → a.target ≡ b.target → a.minor ≡ b.minor
        → a.fields ≡ b.fields → a.body ≡ b.body → a ≡ b
    same_parts a b m t v f body = λ i. record {
      method = m i;
      target = t i;
      minor = v i;
      fields = f i;
      body = body i;
    }

-- ---- the bytes of a request itself, behind which any others may follow

regroup : (a b c d e : List ℕ) → (a ++ (b ++ (c ++ d))) ++ e ≡ a ++ (b ++ (c ++ (d ++ e)))
regroup a b c d e = simp append_assoc

leads_text : (chunks : List (List ℕ)) (input rest : List ℕ) → Leads (ReadsEnd rest) chunks input
    → (text : List ℕ) × (input ≡ text ++ rest)
    × ((more : List ℕ) → Leads (ReadsEnd more) chunks (text ++ more))
leads_text [] input rest h =
    let line = print_chunk_line h.line.line in
    let end = print_section h.trailers.fields h.trailers.last in (
      line ++ end,
      h.line.input_is ∙ ap (λ l. line ++ l) h.trailers.reads.1 ∙ sym (append_assoc line end rest),
      λ more. record {
        after = end ++ more;
        line = record { line = h.line.line; is = h.line.is; input_is = append_assoc line end more };
        trailers = record {
          fields = h.trailers.fields;
          last = h.trailers.last;
          reads = (h.trailers.reads.0, refl);
          size = h.trailers.size;
          count = h.trailers.count;
        };
      },
    )
leads_text (bytes ∷ chunks) input rest (next, chunk, leads) =
    let later = leads_text chunks next rest leads in
    let line = print_chunk_line chunk.line.line in (
      line ++ (bytes ++ (crlf_bytes ++ later.0)),
      chunk.line.input_is
          ∙ ap (λ l. line ++ l) (chunk.bytes_are ∙ ap (λ l. bytes ++ (crlf_bytes ++ l)) later.1)
          ∙ sym (regroup line bytes crlf_bytes later.0 rest),
      λ more. (
        later.0 ++ more,
        record {
          after = bytes ++ (crlf_bytes ++ (later.0 ++ more));
          line = record {
            line = chunk.line.line;
            is = chunk.line.is;
            input_is = regroup line bytes crlf_bytes later.0 more;
          };
          some = chunk.some;
          bytes_are = refl;
        },
        later.2 more,
      ),
    )

body_text : (named : Framing) (input : List ℕ) (body : Option (List ℕ)) (rest : List ℕ)
    → ReadsRequestBody named input body rest
    → (text : List ℕ) × (input ≡ text ++ rest)
    × ((more : List ℕ) → ReadsRequestBody named (text ++ more) body more)
body_text framing.NoBody input body rest h = ([], h.1, λ more. (h.0, refl))
body_text framing.Chunks input body rest (bytes, is, reads, fits) =
    let text = leads_text reads.chunks input rest reads.leads in (
      text.0,
      text.1,
      λ more. (
        bytes,
        is,
        record { chunks = reads.chunks; leads = text.2 more; body_is = reads.body_is },
        fits,
      ),
    )
body_text (framing.Length size) input body rest (bytes, is, long, whole) =
    (bytes, whole, λ more. (bytes, is, long, refl))

pub request_text : (input : List ℕ) (request : Request) (rest : List ℕ)
    → ReadsRequest input request rest
    → (text : List ℕ) × (input ≡ text ++ rest)
    × ((more : List ℕ) → ReadsRequest (text ++ more) request more)
request_text input request rest r =
    let head = r.begins.reads in
    let print = print_request head.tree in
    let body = body_text r.framing r.after request.body rest r.body in (
      print ++ body.0,
      head.reads.1 ∙ ap (λ l. print ++ l) body.1 ∙ sym (append_assoc print body.0 rest),
      λ more. record {
        head = r.head;
        framing = r.framing;
        after = body.0 ++ more;
        begins = record {
          reads = record {
            tree = head.tree;
            reads = (head.reads.0, append_assoc print body.0 more);
            size = head.size;
            count = head.count;
            head_is = head.head_is;
          };
          judged = r.begins.judged;
        };
        body = body.2 more;
        method_is = r.method_is;
        target_is = r.target_is;
        minor_is = r.minor_is;
        fields_are = r.fields_are;
      },
    )

-- a request that the first bytes did not hold ends behind them
pub waits_behind : (asked : Bool) (request : Request) (before fresh left : List ℕ)
    → LacksRequest before → IsReadThen asked request (before ++ fresh) left
    → (taken : List ℕ) × (fresh ≡ taken ++ left)
waits_behind asked request before fresh left lacks reads =
    by_order (compare (length text.0) (length before))
  where
    reads_now : ReadsRequest (before ++ fresh) request left
    reads_now =
        subst (λ l. ReadsRequest l request left) (append-nil (before ++ fresh))
        (subst (ReadsRequest ((before ++ fresh) ++ []) request) (append-nil left) (reads []).0)

    text : (text : List ℕ) × (before ++ fresh ≡ text ++ left)
        × ((more : List ℕ) → ReadsRequest (text ++ more) request more)
    text = request_text (before ++ fresh) request left reads_now

    within : length text.0 ≤ length before → (taken : List ℕ) × (fresh ≡ taken ++ left)
    within fits =
        let behind = drop (length text.0) before in
        let front = prefix_of before fresh text.0 left text.1 fits in
        absurd (lacks request behind (subst (λ l. ReadsRequest l request behind) (sym front) (text.2 behind)))

    by_order : (length text.0 ≡ length before) ⊎ ((length text.0 < length before) ⊎ (length before < length text.0))
        → (taken : List ℕ) × (fresh ≡ taken ++ left)
    by_order (inl same) = within (omega (arith, same))
    by_order (inr (inl shorter)) = within (omega (arith, shorter))
    by_order (inr (inr longer)) =
        let taken = drop (length before) text.0 in
        let front = prefix_of text.0 left before fresh (sym text.1) (omega (arith, longer)) in
        let whole : before ++ fresh ≡ before ++ (taken ++ left) =
        text.1 ∙ ap (λ l. l ++ left) front ∙ append_assoc before taken left in
        (taken, append_cancel_left before fresh (taken ++ left) whole)
