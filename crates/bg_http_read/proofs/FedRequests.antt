-- The answers of a request's parser, by the bytes that it was fed.
use Rattle.std.proofs.Common.{◌≡◌, ◌&&◌, Bool, true, false, ℕ, List, [], ◌∷◌, ◌++◌, drop, refl, ap, sym, ◌∙◌, subst, inl, inr, Result, Ok, Err, IsErrAnd}
use Rattle.std.proofs.lemmas.List.{append-nil}
use Rattle.httparse.specs.Grammar.{HasNoRequest}
use Rattle.httparse.specs.Grammar as grammar
use Rattle.bg_http.specs.Codings.{is_empty}
use Rattle.bg_http.specs.RequestRules.{owes_continue, request_framing}
use Rattle.bg_http.specs.declared.request.Request.{Request}
use Rattle.bg_http.specs.declared.request.RequestHead.{RequestHead}
use Rattle.bg_http.specs.declared.request_fault.RequestFault.{RequestFault}
use Rattle.bg_http.specs.declared.request_fault.RequestFault.TheVariants as fault
use Rattle.bg_http.specs.declared.request_rules.Framing.{Framing}
use Rattle.bg_http.specs.declared.request_rules.Framing.TheVariants as framing
use Rattle.bg_http_read.specs.Bodies.{KeepsLimit, Reads, Fails, Refuses, can_end, is_whole}
use Rattle.bg_http_read.specs.BodyFaults.{malformed, large, cut}
use Rattle.bg_http_read.specs.BodyFramings.{FedBody, FramedReads, first_stage}
use Rattle.bg_http_read.specs.HeadEnds.{after_bytes, is_over}
use Rattle.bg_http_read.specs.MessageFaults.{as_request}
use Rattle.bg_http_read.specs.Heads.{HeadFails, HeadIsCut, ReadsRequestHead, request_heads}
use Rattle.bg_http_read.specs.Requests.{JudgedHead, ReadsRequestBody, RequestBodyFails, RequestFails, body_of_request}
use Rattle.bg_http_read.specs.RequestStates.{FailsAsked, IsReadThen, IsRefusedAsked, LacksRequest, OwesContinue}
use Rattle.bg_http_read.specs.RequestsFed.{Advances, AdvancesTo, AwaitsHead, HasParts, IsAt, IsFedStage, IsOpenStage, IsSeen, LacksHead, RequestBody, framed_body, is_head, requests, stage_seen, was_asked}
use Rattle.bg_http_read.specs.declared.body.BodyStage.{BodyStage}
use Rattle.bg_http_read.specs.declared.body.BodyStage.TheVariants as stage
use Rattle.bg_http_read.specs.declared.head_end.HeadEnd.{HeadEnd}
use Rattle.bg_http_read.specs.declared.head_end.HeadEnd.TheVariants as head_end
use Rattle.bg_http_read.specs.declared.message_fault.MessageFault.{MessageFault}
use Rattle.bg_http_read.specs.declared.message_fault.MessageFault.TheVariants as message_fault
use Rattle.bg_http_read.specs.declared.request_progress.RequestAdvance.{RequestAdvance}
use Rattle.bg_http_read.specs.declared.request_progress.RequestStage.{RequestStage}
use Rattle.bg_http_read.specs.declared.request_progress.RequestStage.TheVariants as part
use Rattle.bg_http_read.specs.declared.request_step.RequestStep.{RequestStep}
use Rattle.bg_http_read.specs.declared.request_step.RequestStep.TheVariants as step
use Rattle.bg_http_read.proofs.BodyLoop.{whole_reads}
use Rattle.bg_http_read.proofs.FedBodies.{fed_failure, fed_longer, fed_reads}
use Rattle.bg_http_read.proofs.HeadsOver.{after_bytes-append, no_request_yet}
use Rattle.bg_http_read.proofs.HeadsFound.{head_fails_more, head_more, request_head_fails, request_laws}
use Rattle.bg_http_read.proofs.RequestOrFault.{request_or_fault}

-- a head that passes the rules does so in every continuation
pub judged_more : (input more : List ℕ) (head : RequestHead) (named : Framing) (after : List ℕ)
    → JudgedHead input head named after → JudgedHead (input ++ more) head named (after ++ more)
judged_more input more head named after h =
    record { reads = head_more request_heads request_laws input more head after h.reads; judged = h.judged }

-- more bytes were fed
pub fed_behind : (s : RequestStage) (waits seen more : List ℕ) → IsFedStage s waits seen
    → IsFedStage s (waits ++ more) (seen ++ more)
fed_behind (part.Head end) waits seen more h = ap (λ l. l ++ more) h
fed_behind (part.Body p) waits seen more h = fed_longer requests judged_more p waits seen more h
fed_behind (part.Done told) waits seen more h = h

pub fed_added : (s : RequestStage) (waits now seen bytes : List ℕ) → IsFedStage s waits seen
    → now ≡ waits ++ bytes → IsFedStage s now (seen ++ bytes)
fed_added s waits now seen bytes h added =
    subst (λ w. IsFedStage s w (seen ++ bytes)) (sym added) (fed_behind s waits seen bytes h)

-- bytes were fed, and none waited
pub fed_first : (s : RequestStage) (waits seen bytes : List ℕ) → IsFedStage s waits seen
    → waits ≡ [] → IsFedStage s bytes (seen ++ bytes)
fed_first s waits seen bytes h none =
    fed_added s waits bytes seen bytes h (ap (λ l. l ++ bytes) (sym none))

-- the body that the framing names, by its bytes
as_named : (named : Framing) (input bytes rest : List ℕ)
    → FramedReads (body_of_request named) input bytes rest
    → ReadsRequestBody named input (framed_body named bytes) rest
as_named framing.NoBody input bytes rest h = (refl, h.1)
as_named framing.Chunks input bytes rest h = (bytes, refl, h.0, h.1)
as_named (framing.Length size) input bytes rest h = (bytes, refl, h.0, h.1)

-- the body is complete
pub fed_whole : (p : RequestBody) (waits seen : List ℕ) (request : Request) (asked : Bool)
    → FedBody requests p waits seen → KeepsLimit p.body → HasParts request p
    → is_whole p.body.stage ≡ true → owes_continue p.head p.framing ≡ asked
    → IsReadThen asked request seen waits
fed_whole p waits seen request asked h within parts whole owes more = (
  record {
    head = p.head;
    framing = p.framing;
    after = h.after ++ more;
    begins = judged_more seen more p.head p.framing h.after h.found;
    body = subst (λ b. ReadsRequestBody p.framing (h.after ++ more) b (waits ++ more)) (sym parts.body_is) body;
    method_is = parts.method_is;
    target_is = parts.target_is;
    minor_is = parts.minor_is;
    fields_are = parts.fields_are;
  },
  owes,
)
  where
    reads : Reads p.body (waits ++ more) p.body.bytes.items (waits ++ more)
    reads = whole_reads p.body.stage p.body.bytes.items (waits ++ more) whole

    body : ReadsRequestBody p.framing (h.after ++ more) (framed_body p.framing p.body.bytes.items) (waits ++ more)
    body =
        as_named p.framing (h.after ++ more) p.body.bytes.items (waits ++ more)
        (fed_reads requests p waits seen more (waits ++ more) h within reads)

-- a failure of the bytes that wait, and of those that follow, is one of the input
fed_fails : (p : RequestBody) (waits seen more : List ℕ) (e : RequestFault) (asked : Bool)
    → (h : FedBody requests p waits seen) → owes_continue p.head p.framing ≡ asked
    → RequestBodyFails p.framing (h.after ++ more) e → FailsAsked asked (seen ++ more) e
fed_fails p waits seen more e asked h owes fails = inr (record {
  head = p.head;
  framing = p.framing;
  after = h.after ++ more;
  begins = judged_more seen more p.head p.framing h.after h.found;
  holds = (fails, owes);
})

pub fed_refused : (p : RequestBody) (waits seen : List ℕ) (e : MessageFault) (asked : Bool)
    → FedBody requests p waits seen → owes_continue p.head p.framing ≡ asked → Refuses p.body waits e
    → IsRefusedAsked asked (as_request e) seen
fed_refused p waits seen message_fault.Bad asked h owes refused more =
    fed_fails p waits seen more fault.Bad asked h owes
    (fed_failure requests p waits seen more malformed h (refused more))
fed_refused p waits seen message_fault.HeadTooLarge asked h owes refused more = absurd refused
fed_refused p waits seen message_fault.TooLarge asked h owes refused more =
    fed_fails p waits seen more fault.TooLarge asked h owes
    (fed_failure requests p waits seen more large h (refused more))
fed_refused p waits seen message_fault.OutOfMemory asked h owes refused more =
    fed_fails p waits seen more fault.OutOfMemory asked h owes tt

-- the body is cut off
pub fed_cut_off : (p : RequestBody) (waits seen : List ℕ) (asked : Bool)
    → FedBody requests p waits seen → owes_continue p.head p.framing ≡ asked → Fails p.body cut waits
    → FailsAsked asked seen fault.Closed
fed_cut_off p waits seen asked h owes fails =
    subst (λ l. FailsAsked asked l fault.Closed) (append-nil seen)
    (fed_fails p waits seen [] fault.Closed asked h owes
    (fed_failure requests p waits seen [] cut h (subst (Fails p.body cut) (sym (append-nil waits)) fails)))

-- there is no head
pub head_refused : (seen : List ℕ) (e : MessageFault) → HeadFails request_heads seen e
    → IsRefusedAsked false (as_request e) seen
head_refused seen e h more =
    inl (inr (request_head_fails (seen ++ more) e (head_fails_more request_heads request_laws seen more e h)), refl)

-- the head breaks a rule
pub rule_refused : (seen after : List ℕ) (head : RequestHead) (e : RequestFault)
    → ReadsRequestHead seen head after → request_framing head ≡ Err e → IsRefusedAsked false e seen
rule_refused seen after head e reads broken more = inl (
  inl (record {
    head = head;
    after = after ++ more;
    reads = head_more request_heads request_laws seen more head after reads;
    judged = broken;
  }),
  refl,
)

-- the head is cut off
pub head_cut_off : (seen : List ℕ) → HeadIsCut request_heads seen → FailsAsked false seen fault.Closed
head_cut_off seen h = inl (inr h, refl)

-- nothing is said about an allocation failure
no_memory : (input : List ℕ) → FailsAsked false input fault.OutOfMemory
no_memory input = inl (inr tt, refl)

pub memory_refused : (s : RequestStage) (waits seen : List ℕ) → IsFedStage s waits seen
    → IsRefusedAsked (was_asked s) fault.OutOfMemory seen
memory_refused (part.Head end) waits seen h more = no_memory (seen ++ more)
memory_refused (part.Body p) waits seen h more =
    fed_fails p waits seen more fault.OutOfMemory (owes_continue p.head p.framing) h refl (unsaid p.framing)
  where
    unsaid : (named : Framing) → RequestBodyFails named (h.after ++ more) fault.OutOfMemory
    unsaid named = tt
memory_refused (part.Done told) waits seen h more = absurd h

-- `100 Continue` is owed to the head
pub owes : (seen after : List ℕ) (head : RequestHead) (named : Framing)
    → JudgedHead seen head named after → owes_continue head named ≡ true → OwesContinue seen
owes seen after head named h owed more = record {
  head = head;
  framing = named;
  after = after ++ more;
  begins = judged_more seen more head named after h;
  holds = owed;
}

-- a fault is one of the input whether or not `100 Continue` was asked for
pub fails_at_all : (asked : Bool) (input : List ℕ) (e : RequestFault) → FailsAsked asked input e
    → RequestFails input e
fails_at_all asked input e (inl (h, none)) = inl h
fails_at_all asked input e (inr h) = inr (inl (record {
  head = h.head;
  framing = h.framing;
  after = h.after;
  begins = h.begins;
  holds = h.holds.0;
}))

-- if the request is cut off, it is not complete
pub cut_off_lacks : (asked : Bool) (seen : List ℕ) → FailsAsked asked seen fault.Closed
    → LacksRequest seen
cut_off_lacks asked seen fails request rest reads =
    absurd (no_fault (request_or_fault seen rest request fault.Closed reads
    (fails_at_all asked seen fault.Closed fails)))
  where
    no_fault : false ≡ true → ⊥
    no_fault e = cc

-- no byte was fed if and only if none waits and the head comes next
pub blank_at : (s : RequestStage) (waits seen : List ℕ) → IsFedStage s waits seen
    → (is_empty waits && is_head s) ≡ is_empty seen
blank_at (part.Head end) [] seen h = ap is_empty (sym h)
blank_at (part.Head end) (byte ∷ waits) seen h = ap is_empty (sym h)
blank_at (part.Body p) waits [] h =
    absurd (no_request_yet [] refl h.found.reads.tree h.after h.found.reads.reads)
blank_at (part.Body p) [] (first ∷ seen) h = refl
blank_at (part.Body p) (byte ∷ waits) (first ∷ seen) h = refl
blank_at (part.Done told) waits seen h = absurd h

-- a parser that waits for an empty line needs more
pub awaits_more : (s : RequestStage) (waits seen : List ℕ) → IsFedStage s waits seen
    → IsSeen s waits → AwaitsHead s → LacksRequest seen × LacksHead s waits
awaits_more (part.Head end) waits seen h sees awaits = (
  λ request rest reads. none reads.begins.reads.tree reads.after
      (subst (λ l. grammar.ReadsRequest l reads.begins.reads.tree reads.after) h reads.begins.reads.reads),
  none,
)
  where
    none : HasNoRequest waits
    none = no_request_yet waits (ap is_over (sym sees) ∙ awaits)
awaits_more (part.Body p) waits seen h sees awaits = absurd awaits
awaits_more (part.Done told) waits seen h sees awaits = absurd awaits

-- more bytes were fed, and they wait
pub seen_behind : (s : RequestStage) (waits now bytes : List ℕ) → IsSeen s waits
    → now ≡ waits ++ bytes → IsSeen (stage_seen s bytes) now
seen_behind (part.Head end) waits now bytes sees added =
    ap (λ e. after_bytes e bytes) sees ∙ sym (after_bytes-append head_end.Blank waits bytes)
    ∙ ap (after_bytes head_end.Blank) (sym added)
seen_behind (part.Body p) waits now bytes sees added = tt
seen_behind (part.Done told) waits now bytes sees added = tt

pub fed_seen : (s : RequestStage) (waits seen bytes : List ℕ) → IsFedStage s waits seen
    → IsFedStage (stage_seen s bytes) waits seen
fed_seen (part.Head end) waits seen bytes h = h
fed_seen (part.Body p) waits seen bytes h = h
fed_seen (part.Done told) waits seen bytes h = h

pub open_seen : (s : RequestStage) (bytes : List ℕ) → IsOpenStage s
    → IsOpenStage (stage_seen s bytes)
open_seen (part.Head end) bytes h = h
open_seen (part.Body p) bytes h = h
open_seen (part.Done told) bytes h = h

pub asked_seen : (s : RequestStage) (bytes : List ℕ) → was_asked (stage_seen s bytes) ≡ was_asked s
asked_seen (part.Head end) bytes = refl
asked_seen (part.Body p) bytes = refl
asked_seen (part.Done told) bytes = refl

-- nothing was fed
pub nothing_fed : (s : RequestStage) → s ≡ part.Head head_end.Blank → IsAt s [] []
nothing_fed s e = subst (λ t. IsAt t [] []) (sym e) (record {
  fed = refl;
  ready = tt;
  sees = refl;
})

-- the answer is the fault that is known
pub advances_err : (old : RequestStage) (seen bytes : List ℕ) (new : RequestStage)
    (r : Result RequestAdvance RequestFault) (e : RequestFault) → IsErrAnd r (λ f. f ≡ e)
    → IsRefusedAsked (was_asked old) e seen → Advances old seen bytes r new
advances_err old seen bytes new (Ok advance) e is refused = absurd is
advances_err old seen bytes new (Err f) e is refused =
    subst (λ f. IsRefusedAsked (was_asked old) f seen) (sym is) refused

-- no complete head waits before the first byte
pub nothing_short : (s : RequestStage) → s ≡ part.Head head_end.Blank → LacksHead s []
nothing_short s e = subst (λ t. LacksHead t []) (sym e) (no_request_yet [] refl)

-- `100 Continue` is not owed at a stage that looks for the head, if no complete head waits
pub no_continue_here : (s : RequestStage) (waits seen : List ℕ) → IsFedStage s waits seen
    → LacksHead s waits → is_head s ≡ true → OwesContinue seen → ⊥
no_continue_here (part.Head end) waits seen fed lacks head owed =
    let found = owed [] in
    let reads = subst (λ l. ReadsRequestHead l found.head found.after) (append-nil seen ∙ fed) found.begins.reads in
    lacks reads.tree found.after reads.reads
no_continue_here (part.Body p) waits seen fed lacks head owed = cc
no_continue_here (part.Done told) waits seen fed lacks head owed = cc

-- no body of a request goes to the end of the input
never_to_the_end : (named : Framing) → first_stage (body_of_request named) ≡ stage.ToTheEnd → ⊥
never_to_the_end framing.NoBody e = cc
never_to_the_end framing.Chunks e = cc
never_to_the_end (framing.Length size) e = cc

cannot_end : (s : BodyStage) → is_whole s ≡ false → (s ≡ stage.ToTheEnd → ⊥) → can_end s ≡ false
cannot_end (stage.Length left) missing never = missing
cannot_end stage.Line missing never = refl
cannot_end (stage.Data left) missing never = refl
cannot_end stage.Trailers missing never = refl
cannot_end stage.ToTheEnd missing never = absurd (never refl)
cannot_end stage.Whole missing never = cc

pub fed_cannot_end : (p : RequestBody) (waits seen : List ℕ) → FedBody requests p waits seen
    → is_whole p.body.stage ≡ false → can_end p.body.stage ≡ false
fed_cannot_end p waits seen h missing =
    cannot_end p.body.stage missing
    (λ e. never_to_the_end p.framing (sym h.starts.stage_is ∙ h.follows.ends e))

-- a head that was read passes all rules
pub judged : (seen after : List ℕ) (head : RequestHead) (named : Framing)
    → ReadsRequestHead seen head after → request_framing head ≡ Ok named
    → JudgedHead seen head named after
judged seen after head named reads rules = record { reads = reads; judged = rules }

-- the result of a stage that looks for the head
pub head_advances : (end : HeadEnd) (seen bytes : List ℕ) (other : HeadEnd) (old : RequestStage)
    (r : Result RequestAdvance RequestFault) (new : RequestStage) → old ≡ part.Head end
    → IsFedStage old bytes seen → Advances (part.Head other) bytes bytes r new
    → Advances old seen bytes r new
head_advances end seen bytes other old r new is fed h =
    subst (λ s. Advances s seen bytes r new) (sym is)
    (subst (λ l. Advances (part.Head end) l bytes r new)
    (sym (subst (λ s. IsFedStage s bytes seen) is fed)) (by_result r h))
  where
    by_step : (at : RequestStep) (left : List ℕ) → AdvancesTo (part.Head other) bytes left at new
        → AdvancesTo (part.Head end) bytes left at new
    by_step step.More left h = h
    by_step step.Continue left h = h
    by_step (step.Whole request) left h = h

    by_result : (r : Result RequestAdvance RequestFault) → Advances (part.Head other) bytes bytes r new
        → Advances (part.Head end) bytes bytes r new
    by_result (Ok advance) h = by_step advance.step (drop advance.taken bytes) h
    by_result (Err e) h = h
