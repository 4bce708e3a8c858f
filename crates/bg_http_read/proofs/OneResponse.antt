-- An input begins with at most one response to a request.
use Rattle.std.proofs.Common.{◌≡◌, ◌⊎◌, ℕ, List, ap, ap₂, sym, ◌∙◌, subst, inl, inr, Ok}
use Rattle.bg_http.specs.ResponseRules.{response_framing}
use Rattle.bg_http.specs.declared.request.Request.{Request}
use Rattle.bg_http.specs.declared.response.Response.{Response}
use Rattle.bg_http.specs.declared.response.ResponseHead.{ResponseHead}
use Rattle.bg_http.specs.declared.response_rules.ResponseFraming.{ResponseFraming}
use Rattle.bg_http.specs.declared.response_rules.ResponseFraming.TheVariants as framing
use Rattle.bg_http_read.specs.BodyFramings.{FramedReads}
use Rattle.bg_http_read.specs.Responses.{IsFinalHead, IsResponse, ReadsResponseBody, ReadsResponseThen, body_of_response, length_of_response}
use Rattle.bg_http_read.proofs.FramedBodies.{one_framed}
use Rattle.bg_http_read.specs.Heads.{response_heads}
use Rattle.bg_http_read.proofs.HeadsFound.{one_head, response_laws}
use Rattle.bg_http_read.proofs.InterimOrder.{IsInterim, final_or_interim, in_order}

-- the body of a response, by its framing
pub named_body : (named : ResponseFraming) (input body rest : List ℕ)
    → ReadsResponseBody named input body rest → FramedReads (body_of_response named) input body rest
named_body framing.Interim input body rest h = absurd h
named_body framing.NoBody input body rest h = h
named_body framing.Chunks input body rest h = h
named_body (framing.Length size) input body rest h = h
named_body framing.ToTheEnd input body rest h = h

pub same_response : (a b : Response) → a.code ≡ b.code → a.reason ≡ b.reason → a.fields ≡ b.fields
    → a.length ≡ b.length → a.body ≡ b.body → a ≡ b
same_response a b c r f l body = λ i. record {
  code = c i;
  reason = r i;
  fields = f i;
  length = l i;
  body = body i;
}

-- one head and framing, and so one response
pub same_answer : (one other : Response) (head second : ResponseHead) (named called : ResponseFraming)
    (after next rest left : List ℕ) → head ≡ second → named ≡ called → after ≡ next
    → IsResponse one head named after rest → IsResponse other second called next left
    → (one ≡ other) × (rest ≡ left)
same_answer one other head second named called after next rest left heads names places is was =
    let first = subst (λ n. ReadsResponseBody n next one.body rest) names
    (subst (λ l. ReadsResponseBody named l one.body rest) places is.body) in
    let bodies = one_framed (body_of_response called) next one.body other.body rest left
    (named_body called next one.body rest first) (named_body called next other.body left was.body) in
    let lengths : one.length ≡ other.length =
    is.length_is ∙ ap (λ n. length_of_response n head one.body) names
    ∙ ap₂ (λ t b. length_of_response called t b) heads bodies.0 ∙ sym was.length_is in (
      same_response one other (is.code_is ∙ ap (λ t. t.code) heads ∙ sym was.code_is)
          (is.reason_is ∙ ap (λ t. t.reason) heads ∙ sym was.reason_is)
          (is.fields_are ∙ ap (λ t. t.fields) heads ∙ sym was.fields_are) lengths bodies.0,
      bodies.1,
    )

-- the same place, and so the same head
one_final : (request : Request) (input : List ℕ) (one other : Response) (head second : ResponseHead)
    (named called : ResponseFraming) (after next rest left : List ℕ)
    → IsFinalHead request head named after input → IsFinalHead request second called next input
    → IsResponse one head named after rest → IsResponse other second called next left
    → (one ≡ other) × (rest ≡ left)
one_final request input one other head second named called after next rest left h k is was =
    let heads = one_head response_heads response_laws input head second after next h.0.reads k.0.reads in
    let both : Ok named ≡ Ok called =
    sym h.0.judged ∙ ap (response_framing request) heads.0 ∙ k.0.judged in
    let names : named ≡ called = cc in
    same_answer one other head second named called after next rest left heads.0 names heads.1 is was

pub one_response : (request : Request) (input : List ℕ) (one other : Response) (rest left : List ℕ)
    → ReadsResponseThen request input one rest → ReadsResponseThen request input other left
    → (one ≡ other) × (rest ≡ left)
one_response request input one other rest left h k =
    by_order (in_order request h.count k.count input h.after k.after h.skips k.skips)
  where
    by_order : (h.after ≡ k.after) ⊎ (IsInterim request h.after ⊎ IsInterim request k.after)
        → (one ≡ other) × (rest ≡ left)
    by_order (inl same) =
        one_final request k.after one other h.holds.0 k.holds.0 h.holds.1 k.holds.1 h.holds.2 k.holds.2 rest left
        (subst (IsFinalHead request h.holds.0 h.holds.1 h.holds.2) same h.holds.3) k.holds.3 h.holds.4 k.holds.4
    by_order (inr (inl interim)) =
        absurd (final_or_interim request h.after h.holds.0 h.holds.1 h.holds.2 h.holds.3.0 h.holds.3.1 interim)
    by_order (inr (inr interim)) =
        absurd (final_or_interim request k.after k.holds.0 k.holds.1 k.holds.2 k.holds.3.0 k.holds.3.1 interim)
