-- What is written to one connection of an endpoint is read as the requests that were forwarded on it.
use Rattle.std.proofs.Common.{◌≡◌, ℕ, ◌<◌, ◌^◌, List, [], ◌++◌, refl, ap, sym, ◌∙◌, arith, subst, Option, Some, None, Ok}
use Rattle.std.specs.Prelude.{codes}
use Rattle.httparse.proofs.GrammarLemmas.{request_unique}
use Rattle.bg_http.specs.RequestRules.{request_framing}
use Rattle.bg_http.specs.Texts.{bytes_of}
use Rattle.bg_http.specs.declared.request.Request.{Request}
use Rattle.bg_http_read.specs.AnySize.{ReadsRequestOfAnySize, head_of}
use Rattle.bg_http_read.specs.ForwardedRequests.{AreReadAsForwarded, Forwarding, WasRead, forwarded, forwarded_text}
use Rattle.bg_http_read.specs.Heads.{request_parts}
use Rattle.bg_http_read.specs.Requests.{ReadsRequestBody}
use Rattle.bg_http_read.proofs.ForwardedHeads.{one_head_is_forwarded}
use Rattle.bg_http_read.proofs.ForwardedRules.{NoneGoesOn, body_within, forwarded_framing, forwarded_passes}
use Rattle.bg_http_read.proofs.HeadsOver.{no_request_yet}
use Rattle.bg_http_read.proofs.OneRequest.{one_body}
use Rattle.bg_http_read.proofs.OneSequence.{front_is_read, texts_are_read}

one_of_head : (one other : Request) → head_of one ≡ head_of other → one.body ≡ other.body → one ≡ other
one_of_head one other h body = λ i. record {
  method = (h i).method;
  target = (h i).target;
  minor = (h i).minor;
  fields = (h i).fields;
  body = body i;
}

one_of_any_size : (input : List ℕ) (one other : Request) (rest left : List ℕ)
    → ReadsRequestOfAnySize input one rest → ReadsRequestOfAnySize input other left → (one ≡ other) × (rest ≡ left)
one_of_any_size input one other rest left h k =
    let trees = request_unique input h.tree k.tree h.after k.after h.reads k.reads in
    let heads : head_of one ≡ head_of other = h.head_is ∙ ap request_parts trees.0 ∙ sym k.head_is in
    let both : Ok h.framing ≡ Ok k.framing = sym h.judged ∙ ap request_framing heads ∙ k.judged in
    let names : h.framing ≡ k.framing = cc in
    let bodies = one_body k.framing k.after one.body other.body rest left
    (subst (λ n. ReadsRequestBody n k.after one.body rest) names
    (subst (λ l. ReadsRequestBody h.framing l one.body rest) trees.1 h.body)) k.body in
    (one_of_head one other heads bodies.0, bodies.1)

-- no request is read from no bytes
none_of_nothing : (request : Request) (rest : List ℕ) → ReadsRequestOfAnySize [] request rest → ⊥
none_of_nothing request rest h = no_request_yet [] refl h.tree h.after h.reads

pub one_is_forwarded : NoneGoesOn (codes "transfer-encoding") → NoneGoesOn (codes "content-length") → (port : ℕ)
    → port < 2 ^ 16 → (forwarding : Forwarding) (more : List ℕ) → WasRead forwarding
    → ReadsRequestOfAnySize (forwarded_text port forwarding ++ more) (forwarded port forwarding) more
one_is_forwarded codings lengths port small forwarding more (input, rest, reads) =
    let request = forwarding.request in
    let fits = body_within input request rest reads in
    let found = one_head_is_forwarded forwarding.keeps input rest more request port reads small (omega (arith, fits)) in
    record {
      tree = found.0;
      after = bytes_of request.body ++ more;
      reads = found.1;
      head_is = sym found.2;
      framing = forwarded_framing request.body;
      judged = forwarded_passes codings lengths forwarding.keeps input rest request port reads fits;
      body = framed request.body;
    }
  where
    framed : (body : Option (List ℕ)) → ReadsRequestBody (forwarded_framing body) (bytes_of body ++ more) body more
    framed None = (refl, refl)
    framed (Some bytes) = (bytes, refl, refl, refl)

pub read_as_forwarded : NoneGoesOn (codes "transfer-encoding") → NoneGoesOn (codes "content-length") → (port : ℕ)
    (forwardings : List Forwarding) (others : List Request) (rest : List ℕ)
    → AreReadAsForwarded port forwardings others rest
read_as_forwarded codings lengths port forwardings others rest small read =
    let one = one_is_forwarded codings lengths port small in (
      texts_are_read ReadsRequestOfAnySize WasRead (forwarded_text port) (forwarded port) one forwardings read,
      front_is_read ReadsRequestOfAnySize WasRead (forwarded_text port) (forwarded port) one one_of_any_size none_of_nothing
          forwardings others rest read,
    )
