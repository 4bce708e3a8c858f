-- The head of a refused request, by the bytes that were fed.
use Rattle.std.proofs.Common.{◌≡◌, ◌⊎◌, Bool, true, false, ℕ, List, refl, ap, sym, subst, inl, inr, Option, Some, None, Result, Ok, Err, IfErr, IfOk, IsErrAnd, is_ok}
use Rattle.httparse.specs.Grammar.{HasNoRequest}
use Rattle.bg_http.specs.RequestRules.{request_framing}
use Rattle.bg_http.specs.declared.request.RequestHead.{RequestHead}
use Rattle.bg_http.specs.declared.request_fault.RequestFault.{RequestFault}
use Rattle.bg_http.specs.declared.request_rules.Framing.{Framing}
use Rattle.bg_http.specs.declared.request_fault.RequestFault.TheVariants as fault
use Rattle.bg_http_read.specs.RefusedHeads.{BeginsRefused, TellsHead}
use Rattle.bg_http_read.specs.Heads.{HeadIsCut, ReadsRequestHead, request_heads}
use Rattle.bg_http_read.specs.BodyFramings.{FedBody}
use Rattle.bg_http_read.specs.Requests.{JudgedHead}
use Rattle.bg_http_read.specs.RequestStates.{FailsAsked, IfWhole, goes_on}
use Rattle.bg_http_read.specs.RequestsFed.{AdvancesTo, IsAt, IsFedStage, LacksHead, RequestBody, head_after, known_head, requests, was_asked}
use Rattle.bg_http_read.specs.declared.refused_head.RefusedHead.{RefusedHead}
use Rattle.bg_http_read.specs.declared.request_progress.RequestStage.{RequestStage}
use Rattle.bg_http_read.specs.declared.request_progress.RequestStage.TheVariants as part
use Rattle.bg_http_read.specs.declared.request_step.RequestStep.{RequestStep}
use Rattle.bg_http_read.specs.declared.request_step.RequestStep.TheVariants as step

-- a head that passes all rules
pub tells_judged : (head back : RequestHead) (named : Framing) (after seen : List ℕ)
    → JudgedHead seen head named after → back ≡ head
    → BeginsRefused seen (record { head = back; is_sound = true })
tells_judged head back named after seen h same =
    subst (λ b. BeginsRefused seen (record { head = b; is_sound = true })) (sym same)
    (record { after = after; reads = h.reads; soundness = sym (ap is_ok h.judged) })

-- the head of a body that was fed
pub tells_sound : (p : RequestBody) (waits seen : List ℕ) (e : RequestFault) (told : Option RefusedHead)
    → told ≡ Some (record { head = p.head; is_sound = true }) → FedBody requests p waits seen
    → TellsHead seen e told
tells_sound p waits seen e told is h = subst (TellsHead seen e) (sym is)
    (tells_judged p.head p.head p.framing h.after seen h.found refl)

-- the body that was fed fails
pub tells_body : (A : Type 0) (r : Result A RequestFault) (p : RequestBody) (waits seen : List ℕ)
    (told : Option RefusedHead) → FedBody requests p waits seen
    → IfErr r (λ e. told ≡ Some (record { head = p.head; is_sound = true }))
    → IfErr r (λ e. TellsHead seen e told)
tells_body A (Ok a) p waits seen told h is = tt
tells_body A (Err e) p waits seen told h is = tells_sound p waits seen e told is h

-- a head that breaks a rule
pub tells_broken : (head : RequestHead) (after seen : List ℕ) (e : RequestFault)
    → ReadsRequestHead seen head after → request_framing head ≡ Err e
    → BeginsRefused seen (record { head = head; is_sound = false })
tells_broken head after seen e reads judged =
    record { after = after; reads = reads; soundness = sym (ap is_ok judged) }

-- an allocation failed
pub tells_without_memory : (s : RequestStage) (waits seen : List ℕ) → IsFedStage s waits seen
    → TellsHead seen fault.OutOfMemory (known_head s)
tells_without_memory (part.Head end) waits seen h = tt
tells_without_memory (part.Body p) waits seen h =
    tells_sound p waits seen fault.OutOfMemory (known_head (part.Body p)) refl h
tells_without_memory (part.Done told) waits seen h = absurd h

-- an allocation failed after a step
pub tells_after_step : (old new : RequestStage) (seen left : List ℕ) (at : RequestStep)
    → AdvancesTo old seen left at new → IfWhole at (λ request. known_head new ≡ None)
    → TellsHead seen fault.OutOfMemory (known_head new)
tells_after_step old new seen left step.More (cut, at, lacks, asked) none =
    tells_without_memory new left seen at.fed
tells_after_step old new seen left step.Continue (head, owed, at, lacks, asked) none =
    tells_without_memory new left seen at.fed
tells_after_step old new seen left (step.Whole request) h none =
    subst (TellsHead seen fault.OutOfMemory) (sym none) tt

-- the input ends, and no head was found
cut_head : (seen : List ℕ) → FailsAsked false seen fault.Closed → HasNoRequest seen → HeadIsCut request_heads seen
cut_head seen (inl (inl broken, none)) lacks = absurd (lacks broken.reads.tree broken.after broken.reads.reads)
cut_head seen (inl (inr cut, none)) lacks = cut
cut_head seen (inr found) lacks =
    absurd (lacks found.begins.reads.tree found.after found.begins.reads.reads)

-- the input ends
pub tells_cut_off : (asked : Bool) (s : RequestStage) (left seen : List ℕ) → asked ≡ was_asked s
    → FailsAsked asked seen fault.Closed → IsAt s left seen → LacksHead s left
    → TellsHead seen fault.Closed (known_head s)
tells_cut_off asked (part.Head end) left seen is fails at lacks =
    cut_head seen (subst (λ a. FailsAsked a seen fault.Closed) is fails) (subst HasNoRequest (sym at.fed) lacks)
tells_cut_off asked (part.Body p) left seen is fails at lacks =
    tells_sound p left seen fault.Closed (known_head (part.Body p)) refl at.fed
tells_cut_off asked (part.Done told) left seen is fails at lacks = absurd at.fed

-- the input ends while `100 Continue` is owed
pub tells_unanswered : (s : RequestStage) (left seen : List ℕ) → IsAt s left seen → was_asked s ≡ true
    → TellsHead seen fault.Closed (known_head s)
tells_unanswered (part.Head end) left seen at asked = cc
tells_unanswered (part.Body p) left seen at asked =
    tells_sound p left seen fault.Closed (known_head (part.Body p)) refl at.fed
tells_unanswered (part.Done told) left seen at asked = cc

-- an input that ends before its request does
pub tells_ended : (old new : RequestStage) (seen left : List ℕ) (at : RequestStep)
    → AdvancesTo old seen left at new → (at ≡ step.More) ⊎ (at ≡ step.Continue)
    → TellsHead seen fault.Closed (known_head new)
tells_ended old new seen left step.More (cut, at, lacks, asked) more =
    tells_cut_off (was_asked old) new left seen (sym asked) cut at lacks
tells_ended old new seen left step.Continue (head, owed, at, lacks, asked) more =
    tells_unanswered new left seen at asked
tells_ended old new seen left (step.Whole request) h (inl more) = cc
tells_ended old new seen left (step.Whole request) h (inr more) = cc

-- the answer is the fault that is known
pub tells_err : (A : Type 0) (r : Result A RequestFault) (seen : List ℕ) (e : RequestFault)
    (told : Option RefusedHead) → IsErrAnd r (λ f. f ≡ e) → TellsHead seen e told
    → IfErr r (λ f. TellsHead seen f told)
tells_err A (Ok a) seen e told is h = tt
tells_err A (Err f) seen e told is h = subst (λ f. TellsHead seen f told) (sym is) h

-- after a fault the parser is closed, and tells the head
pub tells_closed : (seen : List ℕ) (r : Result RequestStep RequestFault) (is_open : Bool)
    (at : RequestStage) → is_open ≡ goes_on r → IfErr r (λ e. TellsHead seen e (known_head at))
    → IfErr r (λ e. TellsHead seen e (head_after is_open at))
tells_closed seen (Ok step) is_open at goes h = tt
tells_closed seen (Err e) is_open at goes h =
    subst (λ o. TellsHead seen e (head_after o at)) (sym goes) h

-- after a request it tells none
pub tells_none : (r : Result RequestStep RequestFault) (is_open : Bool) (at : RequestStage)
    → is_open ≡ goes_on r → IfOk r (λ s. IfWhole s (λ request. known_head at ≡ None))
    → IfOk r (λ s. IfWhole s (λ request. head_after is_open at ≡ None))
tells_none (Ok step.More) is_open at goes h = tt
tells_none (Ok step.Continue) is_open at goes h = tt
tells_none (Ok (step.Whole request)) is_open at goes h = subst (λ o. head_after o at ≡ None) (sym goes) h
tells_none (Err e) is_open at goes h = tt
