-- An input has at most one fault of a request.
use Rattle.std.proofs.Common.{◌≡◌, ◌⊎◌, ℕ, true, false, List, [], take, refl, ap, sym, ◌∙◌, subst, Ok, Err, inl, inr}
use Rattle.httparse.specs.Grammar as grammar
use Rattle.bg_http.specs.RequestRules.{request_framing}
use Rattle.bg_http.specs.declared.request_rules.Framing.{Framing}
use Rattle.bg_http.specs.declared.request_fault.RequestFault.{RequestFault}
use Rattle.bg_http.specs.declared.request_fault.RequestFault.TheVariants as fault
use Rattle.bg_http_read.specs.BodyFaults.{Failure, malformed, large, cut}
use Rattle.bg_http_read.specs.HeadFaults.{RequestHeadFails}
use Rattle.bg_http_read.specs.Laws.{is_of_machine, EndsInManyTrailers, EndsInWrongTarget, IsUndecided}
use Rattle.bg_http_read.specs.Heads.{request_heads}
use Rattle.bg_http_read.specs.Requests.{HeadRefused, BodyRefused, FramedBodyFails, RequestBodyFails, RequestFails, body_of_request}
use Rattle.bg_http_read.proofs.HeadsFound.{large_or_cut, large_or_malformed, malformed_or_cut, one_head, request_laws}
use Rattle.bg_http_read.proofs.RequestOrFault.{head_or_fault}
use Rattle.bg_http_read.proofs.FramedBodies.{one_framed_failure}

of_both : {A : Type 0} (e : RequestFault) → is_of_machine e ≡ true → is_of_machine e ≡ false → A
of_both e is isnt = absurd (differ (sym is ∙ isnt))
  where
    differ : true ≡ false → ⊥
    differ h = cc

-- the beginning of a head is not malformed unless it ends within its target
malformed_or_begun : (bytes : List ℕ)
    → grammar.NeverHasRequest bytes × grammar.MayBecomeRequest bytes → EndsInWrongTarget bytes
malformed_or_begun bytes (never, inl (more, head, reads)) = absurd (never more head [] reads)
malformed_or_begun bytes (never, inr ends) = (ends, never)

one_head_fault : (input : List ℕ) (one other : RequestFault) → RequestHeadFails input one
    → RequestHeadFails input other → is_of_machine one ≡ false → is_of_machine other ≡ false
    → (one ≡ other) ⊎ EndsInWrongTarget (take 16384 input)
one_head_fault input fault.ReadFailed other h k isnt neither = of_both fault.ReadFailed refl isnt
one_head_fault input fault.OutOfMemory other h k isnt neither = of_both fault.OutOfMemory refl isnt
one_head_fault input fault.WriteFailed other h k isnt neither = absurd h
one_head_fault input fault.NotDone other h k isnt neither = absurd h
one_head_fault input fault.TooLarge other h k isnt neither = absurd h
one_head_fault input fault.HeadTooLarge fault.ReadFailed h k isnt neither = of_both fault.ReadFailed refl neither
one_head_fault input fault.HeadTooLarge fault.WriteFailed h k isnt neither = absurd k
one_head_fault input fault.HeadTooLarge fault.HeadTooLarge h k isnt neither = inl refl
one_head_fault input fault.HeadTooLarge fault.Bad h k isnt neither = inr (malformed_or_begun (take 16384 input) (large_or_malformed request_heads input h k))
one_head_fault input fault.HeadTooLarge fault.Closed h k isnt neither = absurd (large_or_cut request_heads input h k)
one_head_fault input fault.HeadTooLarge fault.NotDone h k isnt neither = absurd k
one_head_fault input fault.HeadTooLarge fault.TooLarge h k isnt neither = absurd k
one_head_fault input fault.HeadTooLarge fault.OutOfMemory h k isnt neither = of_both fault.OutOfMemory refl neither
one_head_fault input fault.Bad fault.ReadFailed h k isnt neither = of_both fault.ReadFailed refl neither
one_head_fault input fault.Bad fault.WriteFailed h k isnt neither = absurd k
one_head_fault input fault.Bad fault.HeadTooLarge h k isnt neither = inr (malformed_or_begun (take 16384 input) (large_or_malformed request_heads input k h))
one_head_fault input fault.Bad fault.Bad h k isnt neither = inl refl
one_head_fault input fault.Bad fault.Closed h k isnt neither = inr (malformed_or_begun (take 16384 input) (malformed_or_cut request_heads input h k))
one_head_fault input fault.Bad fault.NotDone h k isnt neither = absurd k
one_head_fault input fault.Bad fault.TooLarge h k isnt neither = absurd k
one_head_fault input fault.Bad fault.OutOfMemory h k isnt neither = of_both fault.OutOfMemory refl neither
one_head_fault input fault.Closed fault.ReadFailed h k isnt neither = of_both fault.ReadFailed refl neither
one_head_fault input fault.Closed fault.WriteFailed h k isnt neither = absurd k
one_head_fault input fault.Closed fault.HeadTooLarge h k isnt neither = absurd (large_or_cut request_heads input k h)
one_head_fault input fault.Closed fault.Bad h k isnt neither = inr (malformed_or_begun (take 16384 input) (malformed_or_cut request_heads input k h))
one_head_fault input fault.Closed fault.Closed h k isnt neither = inl refl
one_head_fault input fault.Closed fault.NotDone h k isnt neither = absurd k
one_head_fault input fault.Closed fault.TooLarge h k isnt neither = absurd k
one_head_fault input fault.Closed fault.OutOfMemory h k isnt neither = of_both fault.OutOfMemory refl neither

abbrev fault_of : Failure → RequestFault
fault_of malformed = fault.Bad
fault_of large = fault.TooLarge
fault_of cut = fault.Closed

-- a fault of a body that isn't one of the machine is a failure of the body
body_failure : (named : Framing) (input : List ℕ) (e : RequestFault)
    → RequestBodyFails named input e → is_of_machine e ≡ false
    → (failure : Failure) × FramedBodyFails failure named input × (e ≡ fault_of failure)
body_failure named input fault.ReadFailed h isnt = of_both fault.ReadFailed refl isnt
body_failure named input fault.WriteFailed h isnt = absurd h
body_failure named input fault.HeadTooLarge h isnt = absurd h
body_failure named input fault.Bad h isnt = (malformed, h, refl)
body_failure named input fault.Closed h isnt = (cut, h, refl)
body_failure named input fault.NotDone h isnt = absurd h
body_failure named input fault.TooLarge h isnt = (large, h, refl)
body_failure named input fault.OutOfMemory h isnt = of_both fault.OutOfMemory refl isnt

one_body_fault : (named : Framing) (input : List ℕ) (one other : RequestFault)
    → RequestBodyFails named input one → RequestBodyFails named input other
    → is_of_machine one ≡ false → is_of_machine other ≡ false
    → (one ≡ other) ⊎ EndsInManyTrailers input
one_body_fault named input one other h k isnt neither =
    let first = body_failure named input one h isnt in
    let second = body_failure named input other k neither in
    same first.2 second.2 (one_framed_failure (body_of_request named) first.0 second.0 input first.1 second.1)
  where
    same : {f g : Failure} → one ≡ fault_of f → other ≡ fault_of g
        → (f ≡ g) ⊎ EndsInManyTrailers input → (one ≡ other) ⊎ EndsInManyTrailers input
    same a b (inl e) = inl (a ∙ ap fault_of e ∙ sym b)
    same a b (inr ends) = inr ends

-- two faults of a head
one_refused : (input : List ℕ) (one other : RequestFault) → HeadRefused input one
    → HeadRefused input other → is_of_machine one ≡ false → is_of_machine other ≡ false
    → (one ≡ other) ⊎ IsUndecided input
one_refused input one other (inl h) (inl k) isnt neither =
    let same = one_head request_heads request_laws input h.head k.head h.after k.after h.reads k.reads in
    let both : Err one ≡ Err other =
    sym h.judged ∙ ap request_framing same.0 ∙ k.judged in
    inl cc
one_refused input one other (inl h) (inr fails) isnt neither =
    of_both other (head_or_fault input h.head h.after other h.reads fails) neither
one_refused input one other (inr fails) (inl k) isnt neither =
    of_both one (head_or_fault input k.head k.after one k.reads fails) isnt
one_refused input one other (inr fails) (inr lacks) isnt neither =
    by_head (one_head_fault input one other fails lacks isnt neither)
  where
    by_head : (one ≡ other) ⊎ EndsInWrongTarget (take 16384 input)
        → (one ≡ other) ⊎ IsUndecided input
    by_head (inl e) = inl e
    by_head (inr ends) = inr (inl ends)

-- a head is not refused if its body is
refused_or_body : (input : List ℕ) (one other : RequestFault) → HeadRefused input one
    → BodyRefused input other → is_of_machine one ≡ false → ⊥
refused_or_body input one other (inl h) k isnt =
    let same = one_head request_heads request_laws input h.head k.head h.after k.after h.reads k.begins.reads in
    let both : Err one ≡ Ok k.framing =
    sym h.judged ∙ ap request_framing same.0 ∙ k.begins.judged in
    cc
refused_or_body input one other (inr fails) k isnt =
    of_both one (head_or_fault input k.head k.after one k.begins.reads fails) isnt

bodies : (input : List ℕ) (one other : RequestFault) → BodyRefused input one
    → BodyRefused input other → is_of_machine one ≡ false → is_of_machine other ≡ false
    → (one ≡ other) ⊎ IsUndecided input
bodies input one other h k isnt neither =
    let same = one_head request_heads request_laws input h.head k.head h.after k.after h.begins.reads k.begins.reads in
    let both : Ok h.framing ≡ Ok k.framing =
    sym h.begins.judged ∙ ap request_framing same.0 ∙ k.begins.judged in
    let framings : h.framing ≡ k.framing = cc in
    by_body (one_body_fault h.framing h.after one other h.holds
    (subst (λ n. RequestBodyFails n h.after other) (sym framings)
    (subst (λ l. RequestBodyFails k.framing l other) (sym same.1) k.holds)) isnt neither)
  where
    by_body : (one ≡ other) ⊎ EndsInManyTrailers h.after → (one ≡ other) ⊎ IsUndecided input
    by_body (inl e) = inl e
    by_body (inr ends) = inr (inr (record {
      head = h.head;
      framing = h.framing;
      after = h.after;
      begins = h.begins;
      holds = ends;
    }))

pub one_fault : (input : List ℕ) (one other : RequestFault) → RequestFails input one
    → RequestFails input other → is_of_machine one ≡ false → is_of_machine other ≡ false
    → (one ≡ other) ⊎ IsUndecided input
one_fault input one other (inl h) (inl k) isnt neither = one_refused input one other h k isnt neither
one_fault input one other (inl h) (inr (inl k)) isnt neither =
    absurd (refused_or_body input one other h k isnt)
one_fault input one other (inr (inl h)) (inl k) isnt neither =
    absurd (refused_or_body input other one k h neither)
one_fault input one other (inr (inl h)) (inr (inl k)) isnt neither = bodies input one other h k isnt neither
one_fault input one other (inr (inr h)) k isnt neither = of_both one (ap is_of_machine h.0) isnt
one_fault input one other h (inr (inr k)) isnt neither = of_both other (ap is_of_machine k.0) neither
