-- The response of an endpoint that is passed on.
use Rattle.std.proofs.Common.{◌≡◌, ℕ, ◌+◌, ◌<◌, ◌≤◌, Bool, true, false, nat_lt, List, [], ◌++◌, length, take, drop, refl, ap, sym, ◌∙◌, append_assoc, arith, subst, inl, inr, take-append-drop, Option, None, Some, Result, Ok, Err, IfErr, IfNone, IfOk, IfSome, IsErrAnd, OnOk}
use Rattle.std.proofs.Math.Seq.{take-add}
use Rattle.std.proofs.lemmas.Bool.Decides.{nat_tests}
use Rattle.std.proofs.lemmas.List.{append-nil, drop-drop, length-append, length-drop}
use Rattle.bg_http.specs.Persistences.{keeps}
use Rattle.bg_http.specs.declared.request.Request.{Request}
use Rattle.bg_http.specs.declared.response.ResponseHead.{ResponseHead}
use Rattle.bg_http.specs.declared.response_fault.ResponseFault.{ResponseFault}
use Rattle.bg_http.specs.declared.response_fault.ResponseFault.TheVariants as response
use Rattle.bg_http.specs.declared.response_rules.ResponseFraming.{ResponseFraming}
use Rattle.bg_http_read.specs.BodyFaults.{Failure, malformed}
use Rattle.bg_http_read.specs.Heads.{HeadIsCut, response_heads}
use Rattle.bg_http_read.specs.ResponseHeads.{AreHeads, HasTaken, HeadsState}
use Rattle.bg_http_read.specs.Responses.{no_head}
use Rattle.bg_http_read.specs.ResponseStates.{HeadsAreRefused}
use Rattle.bg_relay.specs.Framings.{most_to_come}
use Rattle.bg_relay.specs.Laws.{FailsBody, FailsWhole}
use Rattle.bg_relay.specs.Relays.{IsFaultAt, RelayState}
use Rattle.bg_relay.specs.declared.relay_fault.RelayFault.{RelayFault}
use Rattle.bg_relay.specs.declared.relay_fault.RelayFault.TheVariants as relay_fault
use Rattle.bg_streams.specs.Faults.{body_fault, refusal}
use Rattle.bg_streams.specs.Framings.{incoming, outgoing}
use Rattle.bg_streams.specs.HeadTexts.{IsStreamed}
use Rattle.bg_streams.specs.Passings.{Delivers, DeliversOn, IsBrokenOff, IsKeptIn, KeepsHead, Starts}
use Rattle.bg_streams.specs.ResponseRelays.{Answers, BodyFailsBy, FailsBy, IsFaultOf, IsKept, IsRefusedAtBody, IsRefusedFor, PassesOn, Refuses, StandsFor, StandsWith, WaitsFor, cut_by, fault_in, fault_of}
use Rattle.bg_streams.specs.declared.passing.Passing.{Passing}
use Rattle.bg_streams.specs.declared.response_relay.ResponseRelay.{ResponseRelay}
use Rattle.bg_streams.specs.declared.stream_fault.StreamFault.{StreamFault}
use Rattle.bg_streams.specs.declared.stream_fault.StreamFault.TheVariants as stream
use Rattle.bg_streams.specs.declared.stream_terms.StreamTerms.{StreamTerms}

-- ---- what a relay stands for

-- the head of the response came
head_came : (terms : StreamTerms) (passing : Passing) (head : ResponseHead) (named : ResponseFraming) (request : Request)
    (input written : List ℕ) → Starts terms head named passing → AreHeads terms.most_body request input head named → written ≡ []
    → Answers terms passing request input written
head_came terms passing head named request input written starts heads none = record {
  head = head;
  heads = input;
  came = [];
  input_is = sym (append-nil input);
  are_heads = subst (AreHeads terms.most_body request input head) (sym starts.framing_is) heads;
  said = subst (λ n. IsStreamed n head passing.response) (sym starts.framing_is) starts.said;
  incoming_is = starts.incoming_is ∙ ap incoming (sym starts.framing_is);
  outgoing_is = starts.outgoing_is ∙ ap (outgoing terms.reads_chunks) (sym starts.framing_is);
  window_is = starts.window_is;
  most_is = starts.most_is ∙ ap (λ n. most_to_come (incoming n) terms.most_body) (sym starts.framing_is);
  delivers = subst (Delivers passing (keeps terms.persistence) []) (sym none) starts.delivers;
}

-- bytes of the body came
body_came : (terms : StreamTerms) (old new : Passing) (taken : List ℕ) → KeepsHead old new → DeliversOn old new taken
    → (request : Request) (input written : List ℕ) → Answers terms old request input written
    → Answers terms new request (input ++ taken) written
body_came terms old new taken same delivers request input written h = record {
  head = h.head;
  heads = h.heads;
  came = h.came ++ taken;
  input_is = ap (λ l. l ++ taken) h.input_is ∙ append_assoc h.heads h.came taken;
  are_heads = subst (AreHeads terms.most_body request h.heads h.head) (sym same.framing) h.are_heads;
  said = subst (λ n. IsStreamed n h.head new.response) (sym same.framing)
      (subst (IsStreamed old.framing h.head) (sym same.response) h.said);
  incoming_is = same.sides.incoming ∙ h.incoming_is ∙ ap incoming (sym same.framing);
  outgoing_is = same.sides.outgoing ∙ h.outgoing_is ∙ ap (outgoing terms.reads_chunks) (sym same.framing);
  window_is = same.sides.window ∙ h.window_is;
  most_is = same.sides.most ∙ h.most_is ∙ ap (λ n. most_to_come (incoming n) terms.most_body) (sym same.framing);
  delivers = delivers (keeps terms.persistence) h.came written h.delivers;
}

-- ---- the heads

in_heads : (old : ResponseRelay) (request : Request) (input written : List ℕ) → old.passing ≡ None
    → StandsFor old request input written
    → (old.heads.most ≡ old.terms.most_body) × HasTaken old.heads request input × (written ≡ [])
in_heads old request input written is stands =
    subst (λ p. StandsWith old.terms old.heads p request input written) is stands

-- the head of the response was taken
pub head_passes : (old : ResponseRelay) (heads : HeadsState) (passing : Passing) (head : ResponseHead) (named : ResponseFraming)
    (taken : List ℕ) → old.passing ≡ None → Starts old.terms head named passing
    → ((request : Request) (input : List ℕ) → HasTaken old.heads request input
    → AreHeads old.heads.most request (input ++ taken) head named)
    → PassesOn old (record old { heads = heads; passing = Some passing }) taken
head_passes old heads passing head named taken is starts found request input written stands =
    let before = in_heads old request input written is stands in
    head_came old.terms passing head named request (input ++ taken) written starts
    (subst (λ most. AreHeads most request (input ++ taken) head named) before.0 (found request input before.1)) before.2

-- the client is refused for a head
pub head_refuses : (old : ResponseRelay) (bytes : List ℕ) (fault : ResponseFault) → old.passing ≡ None
    → ((request : Request) (input : List ℕ) → HasTaken old.heads request input
    → HeadsAreRefused old.heads.most request fault (input ++ bytes))
    → Refuses old bytes fault
head_refuses old bytes fault is refused request input written stands =
    let before = in_heads old request input written is stands in
    (inl (subst (λ most. HeadsAreRefused most request fault (input ++ bytes)) before.0 (refused request input before.1)), before.2)

-- ---- bytes that were taken

-- what a relay stands for once the head came
in_body : (old : ResponseRelay) (passing : Passing) (request : Request) (input written : List ℕ) → old.passing ≡ Some passing
    → StandsFor old request input written → Answers old.terms passing request input written
in_body old passing request input written is stands =
    subst (λ p. StandsWith old.terms old.heads p request input written) is stands

body_passes : (old : ResponseRelay) (passing new : Passing) (taken : List ℕ) → old.passing ≡ Some passing
    → KeepsHead passing new → DeliversOn passing new taken → PassesOn old (record old { passing = Some new }) taken
body_passes old passing new taken is same delivers request input written stands =
    body_came old.terms passing new taken same delivers request input written (in_body old passing request input written is stands)

pub taken_passes : {E : Type 0} (result : Result ℕ E) (old : ResponseRelay) (passing new : Passing) (bytes : List ℕ)
    → old.passing ≡ Some passing → KeepsHead passing new
    → IfOk result (λ taken. DeliversOn passing new (take taken bytes))
    → IfOk result (λ taken. PassesOn old (record old { passing = Some new }) (take taken bytes))
taken_passes (Ok taken) old passing new bytes is same delivers = body_passes old passing new (take taken bytes) is same delivers
taken_passes (Err fault) old passing new bytes is same delivers = tt

pub end_passes : {T E : Type 0} (result : Result T E) (old : ResponseRelay) (passing new : Passing)
    → old.passing ≡ Some passing → KeepsHead passing new → OnOk result (DeliversOn passing new [])
    → OnOk result (PassesOn old (record old { passing = Some new }) [])
end_passes (Ok end) old passing new is same delivers = body_passes old passing new [] is same delivers
end_passes (Err fault) old passing new is same delivers = tt

-- what waits behind the heads and the body
pub all_waits : (mid new : ResponseRelay) (bytes : List ℕ) (heads body : ℕ)
    → IfNone mid.passing (HeadIsCut response_heads (drop heads bytes))
    → IfNone mid.passing (◌≡◌ {A = Result ℕ StreamFault} (Ok body) (Ok 0) × (new ≡ mid))
    → IfSome mid.passing (λ passing. WaitsFor new.passing (drop body (drop heads bytes)))
    → WaitsFor new.passing (drop (heads + body) bytes)
all_waits mid new bytes heads body cut none some =
    subst (WaitsFor new.passing) (drop-drop body heads bytes) (by_passing mid.passing refl cut none some)
  where
    by_passing : (passing : Option Passing) → mid.passing ≡ passing
        → IfNone passing (HeadIsCut response_heads (drop heads bytes))
        → IfNone passing (◌≡◌ {A = Result ℕ StreamFault} (Ok body) (Ok 0) × (new ≡ mid))
        → IfSome passing (λ p. WaitsFor new.passing (drop body (drop heads bytes)))
        → WaitsFor new.passing (drop body (drop heads bytes))
    by_passing (Some passing) is cut none some = some
    by_passing None is cut none some =
        let same = none.0 in
        let zero : body ≡ 0 = cc in
        subst (λ p. WaitsFor p (drop body (drop heads bytes))) (sym (ap (λ r. r.passing) none.1 ∙ is))
        (subst (λ n. HeadIsCut response_heads (drop n (drop heads bytes))) (sym zero) cut)

pub passes_both : (old mid new : ResponseRelay) (bytes : List ℕ) (first second : ℕ) → PassesOn old mid (take first bytes)
    → PassesOn mid new (take second (drop first bytes)) → PassesOn old new (take (first + second) bytes)
passes_both old mid new bytes first second h k request input written stands =
    subst (λ l. StandsFor new request l written)
    (append_assoc input (take first bytes) (take second (drop first bytes))
    ∙ ap (λ l. input ++ l) (sym (take-add first second bytes)))
    (k request (input ++ take first bytes) written (h request input written stands))

-- ---- faults

-- no fault has ended a relay
none_cut : (fault : Option RelayFault) → cut_by fault ≡ None → fault ≡ None
none_cut None e = refl
none_cut (Some fault) e = cc

open_body : (refusal : Option ResponseFault) (passing : Passing) → fault_in refusal (Some passing) ≡ None
    → (refusal ≡ None) × (passing.relay.fault ≡ None)
open_body (Some fault) passing e = cc
open_body None passing e = (refl, none_cut passing.relay.fault e)

all_bytes : (input bytes : List ℕ) (count : ℕ) → (input ++ take count bytes) ++ drop count bytes ≡ input ++ bytes
all_bytes input bytes count =
    append_assoc input (take count bytes) (drop count bytes) ∙ ap (λ l. input ++ l) (take-append-drop count bytes)

-- nothing is said of an allocation
pub memory_refuses : (most : ℕ) (request : Request) (input : List ℕ) → HeadsAreRefused most request response.OutOfMemory input
memory_refuses most request input more =
    no_head (record { count = 0; few = omega arith; after = input ++ more; skips = refl; holds = tt })

-- the bytes behind those that were taken have this fault
pub fails_behind : (old mid new : ResponseRelay) (bytes : List ℕ) (first : ℕ) (named : StreamFault) → first ≤ length bytes
    → mid.terms ≡ old.terms → PassesOn old mid (take first bytes) → FailsBy mid new (drop first bytes) named → FailsBy old new bytes named
fails_behind old mid new bytes first (stream.Refused fault) fits same passes fails = λ request input written stands.
    let refused = fails request (input ++ take first bytes) written (passes request input written stands) in
    let here = subst (λ terms. IsRefusedFor terms.most_body request ((input ++ take first bytes) ++ drop first bytes) fault) same refused.0 in
    (subst (λ l. IsRefusedFor old.terms.most_body request l fault) (all_bytes input bytes first) here, refused.1)
fails_behind old mid new bytes first (stream.Cut fault) fits same passes fails = record {
  begun = λ request input written stands.
      fails.begun request (input ++ take first bytes) written (passes request input written stands);
  taken = first + fails.taken;
  fits = omega (arith, fits, fails.fits, length-drop first bytes);
  stands = passes_both old mid new bytes first fails.taken passes fails.stands;
  is_fault = subst (IsFaultOf fault new.passing) (drop-drop fails.taken first bytes) fails.is_fault;
  kept = fails.kept;
}

-- the bytes of the body have this fault
at_body : (terms : StreamTerms) (old : Passing) (bytes : List ℕ) (fault : ResponseFault) (request : Request) (input written : List ℕ)
    → (h : Answers terms old request input written)
    → BodyFailsBy terms.most_body fault (incoming old.framing) (h.came ++ bytes)
    → IsRefusedFor terms.most_body request (input ++ bytes) fault
at_body terms old bytes fault request input written h fails =
    let begins = h.are_heads (h.came ++ bytes) in
    let input_is : input ++ bytes ≡ h.heads ++ (h.came ++ bytes) =
    ap (λ l. l ++ bytes) h.input_is ∙ append_assoc h.heads h.came bytes in
    inr (subst (λ l. IsRefusedAtBody terms.most_body request l fault) (sym input_is) (record {
      count = begins.count;
      few = begins.few;
      after = begins.after;
      skips = begins.skips;
      holds = (h.head, old.framing, h.came ++ bytes, begins.holds, fails);
    }))

-- more bytes came than may be taken
above_limit : (relay : RelayState) (came bytes : List ℕ) (taken : ℕ) → relay.left + length (came ++ take taken bytes) ≡ relay.most
    → relay.left < length (drop taken bytes) → relay.most < length (came ++ bytes)
above_limit relay came bytes taken counts more =
    omega (arith, counts, more, length-append (came ++ take taken bytes) (drop taken bytes), ap length (all_bytes came bytes taken))

-- the body is refused
body_refused : ((relay : RelayState) (input written bytes : List ℕ) (failure : Failure) → FailsWhole relay input written bytes failure)
    → (terms : StreamTerms) (old new : Passing) (bytes : List ℕ) (taken : ℕ) (fault : RelayFault) → KeepsHead old new
    → DeliversOn old new (take taken bytes) → IsFaultAt fault new.relay.stage new.relay.left (drop taken bytes)
    → (request : Request) (input written : List ℕ) → Answers terms old request input written
    → IsRefusedFor terms.most_body request (input ++ bytes) (refusal fault)
body_refused law terms old new bytes taken relay_fault.Malformed same delivers fails request input written h =
    let after = delivers (keeps terms.persistence) h.came written h.delivers in
    let whole = law new.relay (h.came ++ take taken bytes) after.output (drop taken bytes) malformed after.stands fails in
    let side : new.relay.incoming ≡ incoming old.framing = same.sides.incoming ∙ h.incoming_is in
    at_body terms old bytes response.Bad request input written h
    (subst (λ l. FailsBody malformed (incoming old.framing) l) (all_bytes h.came bytes taken)
    (subst (λ n. FailsBody malformed n ((h.came ++ take taken bytes) ++ drop taken bytes)) side whole))
body_refused law terms old new bytes taken relay_fault.Cut same delivers fails request input written h = absurd fails
body_refused law terms old new bytes taken relay_fault.TooLarge same delivers fails request input written h =
    let after = delivers (keeps terms.persistence) h.came written h.delivers in
    at_body terms old bytes response.TooLarge request input written h
    (subst (λ most. most < length (h.came ++ bytes)) (same.sides.most ∙ h.most_is)
    (above_limit new.relay h.came bytes taken after.stands.1.counts fails))
body_refused law terms old new bytes taken relay_fault.OutOfMemory same delivers fails request input written h =
    inl (memory_refuses terms.most_body request (input ++ bytes))

-- a relay that was broken off
broken_off : ((relay : RelayState) (input written bytes : List ℕ) (failure : Failure) → FailsWhole relay input written bytes failure)
    → (old : ResponseRelay) (passing new : Passing) (bytes : List ℕ) (named : StreamFault) → old.passing ≡ Some passing
    → old.refusal ≡ None → KeepsHead passing new → IsBrokenOff passing new bytes named
    → FailsBy old (record old { passing = Some new }) bytes named
broken_off law old passing new bytes named is none same broken =
    subst (FailsBy old (record old { passing = Some new }) bytes) (sym broken.named_is)
    (by_test (nat_lt 0 passing.sent) refl)
  where
    unsent : nat_lt 0 passing.sent ≡ false → passing.sent ≡ 0
    unsent e = grind (arith, nat_tests)

    some_sent : nat_lt 0 passing.sent ≡ true → passing.sent ≡ 0 → ⊥
    some_sent e none = grind (arith, nat_tests)

    by_test : (t : Bool) → nat_lt 0 passing.sent ≡ t
        → FailsBy old (record old { passing = Some new }) bytes (body_fault t broken.fault)
    by_test true e = record {
      begun = λ request input written stands none.
          some_sent e ((in_body old passing request input written is stands).delivers.begun none);
      taken = broken.taken;
      fits = broken.fits;
      stands = body_passes old passing new (take broken.taken bytes) is same broken.delivers;
      is_fault = (broken.goes_on, broken.is_fault);
      kept = subst (λ r. fault_in r (Some new) ≡ Some (stream.Cut broken.fault)) (sym none) (ap cut_by broken.kept);
    }
    by_test false e = λ request input written stands.
        let h = in_body old passing request input written is stands in (
          body_refused law old.terms passing new bytes broken.taken broken.fault same broken.delivers broken.is_fault
              request input written h,
          h.delivers.begins (unsent e),
        )

pub breaks_off : ((relay : RelayState) (input written bytes : List ℕ) (failure : Failure) → FailsWhole relay input written bytes failure)
    → {T : Type 0} (result : Result T StreamFault) (old : ResponseRelay) (passing new : Passing) (bytes : List ℕ)
    → old.passing ≡ Some passing → old.refusal ≡ None → KeepsHead passing new → IfErr result (IsBrokenOff passing new bytes)
    → IfErr result (FailsBy old (record old { passing = Some new }) bytes)
breaks_off law (Ok taken) old passing new bytes is none same broken = tt
breaks_off law (Err named) old passing new bytes is none same broken = broken_off law old passing new bytes named is none same broken

-- a cut at the end is kept
pub end_kept : {T : Type 0} (result : Result T StreamFault) (old : ResponseRelay) (new : Passing) → old.refusal ≡ None
    → IfErr result (IsKeptIn new) → IfErr result (IsKept (record old { passing = Some new }))
end_kept (Ok end) old new none kept = tt
end_kept (Err (stream.Refused fault)) old new none kept = tt
end_kept (Err (stream.Cut fault)) old new none kept =
    subst (λ r. fault_in r (Some new) ≡ Some (stream.Cut fault)) (sym none) (ap cut_by kept)

-- no fault has ended a relay whose head came
pub open_at : (relay : ResponseRelay) (passing : Passing) → relay.passing ≡ Some passing → fault_of relay ≡ None
    → relay.refusal ≡ None
open_at relay passing is none =
    (open_body relay.refusal passing (subst (λ p. fault_in relay.refusal p ≡ None) is none)).0

-- the answer is a fault that is known
pub if_err_is : {T : Type 0} (P : StreamFault → Type 0) (result : Result T StreamFault) (fault : StreamFault)
    → IsErrAnd result (λ named. named ≡ fault) → P fault → IfErr result P
if_err_is P (Ok x) fault is h = tt
if_err_is P (Err named) fault is h = subst P (sym is) h
