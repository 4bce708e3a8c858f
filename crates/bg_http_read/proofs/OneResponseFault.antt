-- An input has at most one fault of a response.
use Rattle.std.proofs.Common.{◌≡◌, ◌⊎◌, ℕ, true, false, List, [], take, refl, ap, sym, ◌∙◌, arith, subst, Ok, Err, inl, inr}
use Rattle.httparse.specs.Grammar as grammar
use Rattle.bg_http.specs.ResponseRules.{response_framing}
use Rattle.bg_http.specs.declared.request.Request.{Request}
use Rattle.bg_http.specs.declared.response_rules.ResponseFraming.{ResponseFraming}
use Rattle.bg_http.specs.declared.response_rules.ResponseFraming.TheVariants as framing
use Rattle.bg_http.specs.declared.response_fault.ResponseFault.{ResponseFault}
use Rattle.bg_http.specs.declared.response_fault.ResponseFault.TheVariants as fault
use Rattle.bg_http_read.specs.BodyFaults.{Failure, malformed, large, cut}
use Rattle.bg_http_read.specs.HeadFaults.{ResponseHeadFails}
use Rattle.bg_http_read.specs.Laws.{is_of_reading, EndsInManyTrailers, IsUndecidedResponse}
use Rattle.bg_http_read.specs.Heads.{response_heads}
use Rattle.bg_http_read.specs.Responses.{FramedResponseBodyFails, ResponseBodyFails, AfterInterim, HasManyInterim, BreaksResponseRule, FinalHeadThen, ResponseFails, body_of_response, breaks_rule, no_head, no_heads, many_interim, no_body}
use Rattle.bg_http_read.proofs.HeadsFound.{large_or_cut, large_or_malformed, malformed_or_cut, one_head, response_laws}
use Rattle.bg_http_read.proofs.InterimOrder.{IsInterim, in_order, interim_earlier, final_or_interim}
use Rattle.bg_http_read.proofs.ResponseOrFault.{head_or_fault}
use Rattle.bg_http_read.proofs.FramedBodies.{one_framed_failure}

of_both : {A : Type 0} (e : ResponseFault) → is_of_reading e ≡ true → is_of_reading e ≡ false → A
of_both e is isnt = absurd (differ (sym is ∙ isnt))
  where
    differ : true ≡ false → ⊥
    differ h = cc

-- the beginning of a head is not malformed
malformed_or_begun : (bytes : List ℕ)
    → grammar.NeverHasResponse bytes × grammar.MayBecomeResponse bytes → ⊥
malformed_or_begun bytes (never, (more, head, reads)) = never more head [] reads

one_head_fault : (input : List ℕ) (one other : ResponseFault) → ResponseHeadFails input one
    → ResponseHeadFails input other → is_of_reading one ≡ false → is_of_reading other ≡ false
    → one ≡ other
one_head_fault input fault.ReadFailed other h k isnt neither = of_both fault.ReadFailed refl isnt
one_head_fault input fault.TooLarge other h k isnt neither = absurd h
one_head_fault input fault.OutOfMemory other h k isnt neither = of_both fault.OutOfMemory refl isnt
one_head_fault input fault.HeadTooLarge fault.ReadFailed h k isnt neither = of_both fault.ReadFailed refl neither
one_head_fault input fault.HeadTooLarge fault.HeadTooLarge h k isnt neither = refl
one_head_fault input fault.HeadTooLarge fault.Bad h k isnt neither = absurd (malformed_or_begun (take 16384 input) (large_or_malformed response_heads input h k))
one_head_fault input fault.HeadTooLarge fault.TooLarge h k isnt neither = absurd k
one_head_fault input fault.HeadTooLarge fault.Closed h k isnt neither = absurd (large_or_cut response_heads input h k)
one_head_fault input fault.HeadTooLarge fault.OutOfMemory h k isnt neither = of_both fault.OutOfMemory refl neither
one_head_fault input fault.Bad fault.ReadFailed h k isnt neither = of_both fault.ReadFailed refl neither
one_head_fault input fault.Bad fault.HeadTooLarge h k isnt neither = absurd (malformed_or_begun (take 16384 input) (large_or_malformed response_heads input k h))
one_head_fault input fault.Bad fault.Bad h k isnt neither = refl
one_head_fault input fault.Bad fault.TooLarge h k isnt neither = absurd k
one_head_fault input fault.Bad fault.Closed h k isnt neither = absurd (malformed_or_begun (take 16384 input) (malformed_or_cut response_heads input h k))
one_head_fault input fault.Bad fault.OutOfMemory h k isnt neither = of_both fault.OutOfMemory refl neither
one_head_fault input fault.Closed fault.ReadFailed h k isnt neither = of_both fault.ReadFailed refl neither
one_head_fault input fault.Closed fault.HeadTooLarge h k isnt neither = absurd (large_or_cut response_heads input k h)
one_head_fault input fault.Closed fault.Bad h k isnt neither = absurd (malformed_or_begun (take 16384 input) (malformed_or_cut response_heads input k h))
one_head_fault input fault.Closed fault.TooLarge h k isnt neither = absurd k
one_head_fault input fault.Closed fault.Closed h k isnt neither = refl
one_head_fault input fault.Closed fault.OutOfMemory h k isnt neither = of_both fault.OutOfMemory refl neither

abbrev fault_of : Failure → ResponseFault
fault_of malformed = fault.Bad
fault_of large = fault.TooLarge
fault_of cut = fault.Closed

-- a fault of a body that isn't one of the machine is a failure of the body
body_failure : (named : ResponseFraming) (input : List ℕ) (e : ResponseFault)
    → ResponseBodyFails named input e → is_of_reading e ≡ false
    → (failure : Failure) × FramedResponseBodyFails failure named input × (e ≡ fault_of failure)
body_failure named input fault.ReadFailed h isnt = of_both fault.ReadFailed refl isnt
body_failure named input fault.HeadTooLarge h isnt = absurd h
body_failure named input fault.Bad h isnt = (malformed, h, refl)
body_failure named input fault.TooLarge h isnt = (large, h, refl)
body_failure named input fault.Closed h isnt = (cut, h, refl)
body_failure named input fault.OutOfMemory h isnt = of_both fault.OutOfMemory refl isnt

one_body_fault : (named : ResponseFraming) (input : List ℕ) (one other : ResponseFault)
    → ResponseBodyFails named input one → ResponseBodyFails named input other
    → is_of_reading one ≡ false → is_of_reading other ≡ false
    → (one ≡ other) ⊎ EndsInManyTrailers input
one_body_fault named input one other h k isnt neither =
    let first = body_failure named input one h isnt in
    let second = body_failure named input other k neither in
    same first.2 second.2 (one_framed_failure (body_of_response named) first.0 second.0 input first.1 second.1)
  where
    same : {f g : Failure} → one ≡ fault_of f → other ≡ fault_of g
        → (f ≡ g) ⊎ EndsInManyTrailers input → (one ≡ other) ⊎ EndsInManyTrailers input
    same a b (inl e) = inl (a ∙ ap fault_of e ∙ sym b)
    same a b (inr ends) = inr ends

-- what a fault says at a place after interim responses
data Stops (request : Request) (e : ResponseFault) (place : List ℕ) : Type 0 where
  by_rule : BreaksResponseRule request e place → Stops request e place
  by_head : ResponseHeadFails place e → Stops request e place
  by_body : FinalHeadThen request (λ named after. ResponseBodyFails named after e) place
      → Stops request e place

-- a place with a fault that isn't one of reading has no interim response
stops_or_interim : (request : Request) (e : ResponseFault) (place : List ℕ) → Stops request e place
    → IsInterim request place → is_of_reading e ≡ true
stops_or_interim request e place (by_rule (head, after, reads, broken)) (other, next, judged) =
    let same = one_head response_heads response_laws place head other after next reads judged.reads in
    let both : Err e ≡ Ok framing.Interim =
    sym broken ∙ ap (response_framing request) same.0 ∙ judged.judged in
    cc
stops_or_interim request e place (by_head fails) (other, next, judged) =
    head_or_fault place other next e judged.reads fails
stops_or_interim request e place (by_body (head, named, after, final, fails)) interim =
    absurd (final_or_interim request place head named after final.0 final.1 interim)

-- a place has at most one fault
one_stop : (request : Request) (one other : ResponseFault) (place : List ℕ)
    → Stops request one place → Stops request other place → is_of_reading one ≡ false
    → is_of_reading other ≡ false
    → (one ≡ other) ⊎ FinalHeadThen request (λ named after. EndsInManyTrailers after) place
one_stop request one other place (by_rule (head, after, reads, broken)) (by_rule (second, next, found, wrong)) isnt neither =
    let same = one_head response_heads response_laws place head second after next reads found in
    let both : Err one ≡ Err other =
    sym broken ∙ ap (response_framing request) same.0 ∙ wrong in
    inl cc
one_stop request one other place (by_rule (head, after, reads, broken)) (by_head fails) isnt neither =
    of_both other (head_or_fault place head after other reads fails) neither
one_stop request one other place (by_rule (head, after, reads, broken)) (by_body (second, named, next, final, fails)) isnt neither =
    let same = one_head response_heads response_laws place head second after next reads final.0.reads in
    let both : Err one ≡ Ok named =
    sym broken ∙ ap (response_framing request) same.0 ∙ final.0.judged in
    cc
one_stop request one other place (by_head fails) (by_rule (head, after, reads, broken)) isnt neither =
    of_both one (head_or_fault place head after one reads fails) isnt
one_stop request one other place (by_head fails) (by_head lacks) isnt neither =
    inl (one_head_fault place one other fails lacks isnt neither)
one_stop request one other place (by_head fails) (by_body (head, named, after, final, lacks)) isnt neither =
    of_both one (head_or_fault place head after one final.0.reads fails) isnt
one_stop request one other place (by_body (head, named, after, final, fails)) (by_rule (second, next, reads, broken)) isnt neither =
    let same = one_head response_heads response_laws place head second after next final.0.reads reads in
    let both : Ok named ≡ Err other =
    sym final.0.judged ∙ ap (response_framing request) same.0 ∙ broken in
    cc
one_stop request one other place (by_body (head, named, after, final, fails)) (by_head lacks) isnt neither =
    of_both other (head_or_fault place head after other final.0.reads lacks) neither
one_stop request one other place (by_body (head, named, after, final, fails)) (by_body (second, ending, next, last, lacks)) isnt neither =
    let same = one_head response_heads response_laws place head second after next final.0.reads last.0.reads in
    let both : Ok named ≡ Ok ending =
    sym final.0.judged ∙ ap (response_framing request) same.0 ∙ last.0.judged in
    let framings : named ≡ ending = cc in
    found (one_body_fault named after one other fails
    (subst (λ n. ResponseBodyFails n after other) (sym framings)
    (subst (λ l. ResponseBodyFails ending l other) (sym same.1) lacks)) isnt neither)
  where
    found : (one ≡ other) ⊎ EndsInManyTrailers after
        → (one ≡ other) ⊎ FinalHeadThen request (λ named after. EndsInManyTrailers after) place
    found (inl e) = inl e
    found (inr ends) = inr (head, named, after, final, ends)

-- two faults at places after interim responses
one_stop_of_two : (request : Request) (input : List ℕ) (one other : ResponseFault)
    → AfterInterim request input (Stops request one)
    → AfterInterim request input (Stops request other) → is_of_reading one ≡ false
    → is_of_reading other ≡ false → (one ≡ other) ⊎ IsUndecidedResponse request input
one_stop_of_two request input one other h k isnt neither =
    by_order (in_order request h.count k.count input h.after k.after h.skips k.skips)
  where
    undecided : (one ≡ other) ⊎ FinalHeadThen request (λ named after. EndsInManyTrailers after) h.after
        → (one ≡ other) ⊎ IsUndecidedResponse request input
    undecided (inl e) = inl e
    undecided (inr ends) = inr (record {
      count = h.count;
      few = h.few;
      after = h.after;
      skips = h.skips;
      holds = ends;
    })

    by_order : (h.after ≡ k.after) ⊎ (IsInterim request h.after ⊎ IsInterim request k.after)
        → (one ≡ other) ⊎ IsUndecidedResponse request input
    by_order (inl same) =
        undecided (one_stop request one other h.after h.holds
        (subst (Stops request other) (sym same) k.holds) isnt neither)
    by_order (inr (inl interim)) =
        of_both one (stops_or_interim request one h.after h.holds interim) isnt
    by_order (inr (inr interim)) =
        of_both other (stops_or_interim request other k.after k.holds interim) neither

-- a fault is at a place after interim responses, or there are too many of them
stopped : (request : Request) (input : List ℕ) (e : ResponseFault) → ResponseFails request input e
    → AfterInterim request input (Stops request e) ⊎ ((e ≡ fault.Bad) × HasManyInterim request input)
stopped request input e (no_heads (breaks_rule f)) =
    inl (record { count = f.count; few = f.few; after = f.after; skips = f.skips; holds = by_rule f.holds })
stopped request input e (no_heads (no_head f)) =
    inl (record { count = f.count; few = f.few; after = f.after; skips = f.skips; holds = by_head f.holds })
stopped request input e (no_heads (many_interim is many)) = inr (is, many)
stopped request input e (no_body f) =
    inl (record { count = f.count; few = f.few; after = f.after; skips = f.skips; holds = by_body f.holds })

stops_or_many : (request : Request) (input : List ℕ) (e : ResponseFault)
    → AfterInterim request input (Stops request e) → HasManyInterim request input
    → is_of_reading e ≡ true
stops_or_many request input e h (end, skips) =
    stops_or_interim request e h.after h.holds
    (interim_earlier request h.count 17 input h.after end (omega (arith, h.few)) h.skips skips)

pub one_response_fault : (request : Request) (input : List ℕ) (one other : ResponseFault)
    → ResponseFails request input one → ResponseFails request input other
    → is_of_reading one ≡ false → is_of_reading other ≡ false
    → (one ≡ other) ⊎ IsUndecidedResponse request input
one_response_fault request input one other h k isnt neither =
    by_place (stopped request input one h) (stopped request input other k)
  where
    by_place : AfterInterim request input (Stops request one) ⊎ ((one ≡ fault.Bad) × HasManyInterim request input)
        → AfterInterim request input (Stops request other) ⊎ ((other ≡ fault.Bad) × HasManyInterim request input)
        → (one ≡ other) ⊎ IsUndecidedResponse request input
    by_place (inl a) (inl b) = one_stop_of_two request input one other a b isnt neither
    by_place (inl a) (inr (is, many)) = of_both one (stops_or_many request input one a many) isnt
    by_place (inr (is, many)) (inl b) = of_both other (stops_or_many request input other b many) neither
    by_place (inr (is, many)) (inr (same, more)) = inl (is ∙ sym same)
