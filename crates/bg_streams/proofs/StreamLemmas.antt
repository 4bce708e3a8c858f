-- The response of an endpoint that is passed on with the bytes that wait.
use Rattle.std.proofs.Common.{◌≡◌, ℕ, ◌≤◌, ◌+◌, Bool, true, false, ◌&&◌, ◌||◌, not, List, [], ◌∷◌, ◌++◌, length, take, drop, refl, ap, ap₂, sym, ◌∙◌, append_assoc, arith, subst, inl, inr, take-append-drop, Option, None, Some, Result, Ok, Err, IfErr, IsErrAnd, OnOk, is_none}
use Rattle.std.proofs.lemmas.Bool.Decides.{nat_tests}
use Rattle.std.proofs.lemmas.List.{append-nil, length-append}
use Rattle.bg_http.specs.Codings.{is_empty}
use Rattle.bg_http.specs.declared.request.Request.{Request}
use Rattle.bg_http_read.specs.Bodies.{is_whole as whole_at}
use Rattle.bg_relay.specs.declared.relay_fault.RelayFault.{RelayFault}
use Rattle.bg_relay.specs.declared.relay_fault.RelayFault.TheVariants as relay_fault
use Rattle.bg_streams.specs.Faults.{body_fault}
use Rattle.bg_streams.specs.Framings.{tells_end}
use Rattle.bg_streams.specs.Laws.{Always, HasRoom, IsDrainedAnswer, Law, WaitsShortly as RelayWaitsShortly}
use Rattle.bg_streams.specs.ResponseRelays.{FailsBy, IsFaultOf, IsRefusedFor, PassesOn, StandsFor as RelayStandsFor, WaitsFor, fault_of, is_drained, passing_of, rest_of, takes_more, terms_of, wants_input as relay_wants_input}
use Rattle.bg_streams.specs.ResponseStreams.{AlwaysOnStreams, DrainsWhole, FailsFor, Holds, IsCutBy, Receives, StandsFor, WaitsShortly, waiting_of}
use Rattle.bg_streams.specs.declared.passing.Passing.{Passing}
use Rattle.bg_streams.specs.declared.response_relay.ResponseRelay.{ResponseRelay}
use Rattle.bg_streams.specs.declared.response_stream.ResponseStream.{ResponseStream}
use Rattle.bg_streams.specs.declared.stream_fault.StreamFault.{StreamFault}
use Rattle.bg_streams.specs.declared.stream_fault.StreamFault.TheVariants as stream_fault
use Rattle.bg_streams.specs.declared.stream_terms.StreamTerms.{StreamTerms}
use Rattle.bg_streams.proofs.PassingLemmas.{no_behind, no_front}
use Rattle.bg_streams.proofs.ResponseLemmas.{memory_refuses}

-- ---- bytes were fed

-- what was taken and what was not are what came
parts : (input bytes came : List ℕ) (taken : ℕ) → came ≡ input ++ bytes
    → came ≡ (input ++ take taken bytes) ++ drop taken bytes
parts input bytes came taken is =
    is ∙ ap (λ l. input ++ l) (sym (take-append-drop taken bytes)) ∙ sym (append_assoc input (take taken bytes) (drop taken bytes))

-- the relay was fed bytes, and those that it did not take wait
pub fed : (old : ResponseRelay) (stream : ResponseStream) (request : Request) (input passed bytes came : List ℕ) (taken : ℕ)
    → PassesOn old stream.relay (take taken bytes) → fault_of stream.relay ≡ None
    → WaitsFor (passing_of stream.relay) (drop taken bytes) → stream.waiting.items ≡ drop taken bytes
    → came ≡ input ++ bytes → RelayStandsFor old request input passed → (stream.is_begun ≡ false → passed ≡ [])
    → (passed ≡ [] → stream.is_begun ≡ false) → StandsFor stream request came passed
fed old stream request input passed bytes came taken passes no_fault waits waiting is stands begins begun = (
  record {
    input = input ++ take taken bytes;
    came_is = parts input bytes came taken is ∙ ap (λ l. (input ++ take taken bytes) ++ l) (sym waiting);
    stands = passes request input passed stands;
    is_open = no_fault;
    begins = begins;
    begun = begun;
  },
  inr (subst (WaitsFor (passing_of stream.relay)) (sym waiting) waits),
)

-- ---- bytes were taken by the client

none_of : (is_begun : Bool) (front : List ℕ) → (is_begun || not (is_empty front)) ≡ false → (is_begun ≡ false) × (front ≡ [])
none_of false [] e = (refl, refl)
none_of false (byte ∷ front) e = cc
none_of true front e = cc

no_bytes : (is_begun : Bool) (front : List ℕ) → is_begun ≡ false → front ≡ [] → (is_begun || not (is_empty front)) ≡ false
no_bytes false [] first none = refl
no_bytes false (byte ∷ front) first none = cc
no_bytes true front first none = cc

-- the client took the first bytes of what is to be written
pub noted : (old : ResponseStream) (relay : ResponseRelay) (count : ℕ) (begun : Bool)
    → begun ≡ (old.is_begun || not (is_empty (take count (rest_of (passing_of old.relay)))))
    → ((request : Request) (input written : List ℕ) → RelayStandsFor old.relay request input written
    → RelayStandsFor relay request input (written ++ take count (rest_of (passing_of old.relay))))
    → fault_of relay ≡ fault_of old.relay
    → (request : Request) (came passed : List ℕ) → StandsFor old request came passed
    → Holds (record { relay = relay; waiting = old.waiting; is_begun = begun }) request came
    (passed ++ take count (rest_of (passing_of old.relay)))
noted old relay count begun is stands fault request came passed (h, waits) = record {
  input = h.input;
  came_is = h.came_is;
  stands = stands request h.input passed h.stands;
  is_open = fault ∙ h.is_open;
  begins = λ e. none_passed (none_of old.is_begun front (sym is ∙ e));
  begun = λ e. is ∙ no_bytes old.is_begun front (h.begun (no_front passed front e)) (no_behind passed front e);
} where
  front : List ℕ
  front = take count (rest_of (passing_of old.relay))

  none_passed : (old.is_begun ≡ false) × (front ≡ []) → passed ++ front ≡ []
  none_passed (first, none) = ap₂ (λ l k. l ++ k) (h.begins first) none

-- ---- faults

cut_by : (fault : RelayFault) (passing : Option Passing) (bytes : List ℕ) → IsFaultOf fault passing bytes
    → IsCutBy fault passing bytes
cut_by relay_fault.Malformed passing bytes fails = fails
cut_by relay_fault.Cut None bytes fails = fails
cut_by relay_fault.Cut (Some passing) bytes fails = fails.1
cut_by relay_fault.TooLarge passing bytes fails = fails
cut_by relay_fault.OutOfMemory passing bytes fails = tt

-- the relay was fed bytes, and failed
pub feeding_fails : (old : ResponseRelay) (stream : ResponseStream) (request : Request) (input passed bytes came : List ℕ)
    (fault : StreamFault) → FailsBy old stream.relay bytes fault → came ≡ input ++ bytes
    → RelayStandsFor old request input passed → terms_of stream.relay ≡ terms_of old
    → FailsFor stream request came passed fault
feeding_fails old stream request input passed bytes came (stream_fault.Refused fault) fails is stands terms =
    let refused = fails request input passed stands in
    let here = subst (λ l. IsRefusedFor old.terms.most_body request l fault) (sym is) refused.0 in
    (subst (λ (t : StreamTerms). IsRefusedFor t.most_body request came fault) (sym terms) here, refused.1)
feeding_fails old stream request input passed bytes came (stream_fault.Cut fault) fails is stands terms = record {
  begun = fails.begun request input passed stands;
  input = input ++ take fails.taken bytes;
  behind = drop fails.taken bytes;
  came_is = parts input bytes came fails.taken is;
  stands = fails.stands request input passed stands;
  is_fault = cut_by fault (passing_of stream.relay) (drop fails.taken bytes) fails.is_fault;
}

is_false : true ≡ false → ⊥
is_false e = cc

-- an allocation failed
pub memory_fails : (stream : ResponseStream) (request : Request) (input behind came passed : List ℕ) (is_begun : Bool)
    → came ≡ input ++ behind → RelayStandsFor stream.relay request input passed → (is_begun ≡ false → passed ≡ [])
    → (passed ≡ [] → is_begun ≡ false)
    → FailsFor stream request came passed (body_fault is_begun relay_fault.OutOfMemory)
memory_fails stream request input behind came passed true is stands begins begun = record {
  begun = λ none. is_false (begun none);
  input = input;
  behind = behind;
  came_is = is;
  stands = stands;
  is_fault = tt;
}
memory_fails stream request input behind came passed false is stands begins begun =
    (inl (memory_refuses stream.relay.terms.most_body request came), begins refl)

-- ---- bytes wait

-- there is no memory for bytes that wait
pub adding_fails : (old new : ResponseStream) (bytes : List ℕ) (fault : StreamFault) → new.relay ≡ old.relay
    → fault ≡ body_fault old.is_begun relay_fault.OutOfMemory
    → (request : Request) (came passed : List ℕ) → Holds old request came passed
    → FailsFor new request (came ++ bytes) passed fault
adding_fails old new bytes fault relay is request came passed h =
    subst (FailsFor new request (came ++ bytes) passed) (sym is)
    (memory_fails new request h.input (waiting_of old ++ bytes) (came ++ bytes) passed old.is_begun
    (ap (λ l. l ++ bytes) h.came_is ∙ append_assoc h.input (waiting_of old) bytes)
    (subst (λ r. RelayStandsFor r request h.input passed) (sym relay) h.stands) h.begins h.begun)

-- nothing waits, so all that came was fed
pub all_taken : (stream : ResponseStream) (request : Request) (came passed : List ℕ) → waiting_of stream ≡ []
    → (h : Holds stream request came passed) → came ≡ h.input
all_taken stream request came passed none h = h.came_is ∙ ap (λ l. h.input ++ l) none ∙ append-nil h.input

-- what was not taken waits
pub rest_stands : {T : Type 0} (result : Result T StreamFault) (old new : ResponseStream) (relay : ResponseRelay) (bytes : List ℕ)
    (taken : ℕ) → waiting_of old ≡ [] → PassesOn old.relay relay (take taken bytes) → fault_of relay ≡ None
    → WaitsFor (passing_of relay) (drop taken bytes) → new.relay ≡ relay
    → OnOk result (waiting_of new ≡ waiting_of old ++ drop taken bytes) → new.is_begun ≡ old.is_begun
    → (request : Request) (came passed : List ℕ) → Holds old request came passed
    → OnOk result (StandsFor new request (came ++ bytes) passed)
rest_stands (Ok x) old new relay bytes taken none passes no_fault waits is added begun request came passed h =
    fed old.relay new request h.input passed bytes (came ++ bytes) taken
    (subst (λ r. PassesOn old.relay r (take taken bytes)) (sym is) passes) (ap fault_of is ∙ no_fault)
    (subst (λ r. WaitsFor (passing_of r) (drop taken bytes)) (sym is) waits) (added ∙ ap (λ l. l ++ drop taken bytes) none)
    (ap (λ l. l ++ bytes) (all_taken old request came passed none h)) h.stands (λ e. h.begins (sym begun ∙ e))
    (λ e. begun ∙ h.begun e)
rest_stands (Err fault) old new relay bytes taken none passes no_fault waits is added begun request came passed h = tt

-- there is no memory for what was not taken
pub rest_fails : {T : Type 0} (result : Result T StreamFault) (old new : ResponseStream) (relay : ResponseRelay) (bytes : List ℕ)
    (taken : ℕ) → waiting_of old ≡ [] → PassesOn old.relay relay (take taken bytes) → new.relay ≡ relay
    → IfErr result (λ fault. fault ≡ body_fault old.is_begun relay_fault.OutOfMemory)
    → (request : Request) (came passed : List ℕ) → Holds old request came passed
    → IfErr result (FailsFor new request (came ++ bytes) passed)
rest_fails (Ok x) old new relay bytes taken none passes is memory request came passed h = tt
rest_fails (Err fault) old new relay bytes taken none passes is memory request came passed h =
    subst (FailsFor new request (came ++ bytes) passed) (sym memory)
    (memory_fails new request (h.input ++ take taken bytes) (drop taken bytes) (came ++ bytes) passed old.is_begun
    (parts h.input bytes (came ++ bytes) taken (ap (λ l. l ++ bytes) (all_taken old request came passed none h)))
    (subst (λ r. RelayStandsFor r request (h.input ++ take taken bytes) passed) (sym is)
    (passes request h.input passed h.stands)) h.begins h.begun)

-- ---- calls

or_false : (b : Bool) → (b || false) ≡ b
or_false true = refl
or_false false = refl

-- bytes came, and the client took none
pub receives : {T : Type 0} (result : Result T StreamFault) (old new : ResponseStream) (bytes : List ℕ)
    → ((request : Request) (came passed : List ℕ) → StandsFor old request came passed
    → OnOk result (StandsFor new request (came ++ bytes) passed))
    → ((request : Request) (came passed : List ℕ) → StandsFor old request came passed
    → IfErr result (FailsFor new request (came ++ bytes) passed))
    → OnOk result (length (waiting_of new) ≤ length (waiting_of old) + length bytes)
    → new.is_begun ≡ old.is_begun → terms_of new.relay ≡ terms_of old.relay → Receives old new bytes result
receives result old new bytes stands fails few begun terms = record {
  stands = λ request came passed h. subst (λ l. OnOk result (StandsFor new request (came ++ bytes) l))
      (sym (append-nil passed)) (stands request came passed h);
  fails = λ request came passed h. subst (λ l. IfErr result (FailsFor new request (came ++ bytes) l))
      (sym (append-nil passed)) (fails request came passed h);
  few = few;
  begun = begun ∙ sym (or_false old.is_begun);
  terms = terms;
}

pub receives_no_more : {T : Type 0} (result : Result T StreamFault) (old new : ResponseStream) (bytes : List ℕ) (fault : StreamFault)
    → IsErrAnd result (λ named. named ≡ fault) → new.relay ≡ old.relay → new.is_begun ≡ old.is_begun
    → fault ≡ body_fault old.is_begun relay_fault.OutOfMemory → Receives old new bytes result
receives_no_more (Ok x) old new bytes fault is relay begun memory = absurd is
receives_no_more (Err named) old new bytes fault is relay begun memory =
    receives (Err named) old new bytes (λ request came passed h. tt)
    (λ request came passed h. adding_fails old new bytes named relay (is ∙ memory) request came passed h.0) tt begun
    (ap terms_of relay)

-- bytes came, and wait behind those that waited
kept : (old new : ResponseStream) (bytes : List ℕ) → waiting_of new ≡ waiting_of old ++ bytes → new.relay ≡ old.relay
    → new.is_begun ≡ old.is_begun → (request : Request) (came passed : List ℕ) → Holds old request came passed
    → Holds new request (came ++ bytes) passed
kept old new bytes waits relay begun request came passed h = record {
  input = h.input;
  came_is = ap (λ l. l ++ bytes) h.came_is ∙ append_assoc h.input (waiting_of old) bytes ∙ ap (λ l. h.input ++ l) (sym waits);
  stands = subst (λ r. RelayStandsFor r request h.input passed) (sym relay) h.stands;
  is_open = ap fault_of relay ∙ h.is_open;
  begins = λ e. h.begins (sym begun ∙ e);
  begun = λ none. begun ∙ h.begun none;
}

-- they were fed with those that waited
pub receives_behind : {T : Type 0} (result : Result T StreamFault) (old mid new : ResponseStream) (bytes : List ℕ)
    → waiting_of mid ≡ waiting_of old ++ bytes → mid.relay ≡ old.relay → mid.is_begun ≡ old.is_begun
    → ((request : Request) (came passed : List ℕ) → Holds mid request came passed → OnOk result (StandsFor new request came passed))
    → ((request : Request) (came passed : List ℕ) → Holds mid request came passed → IfErr result (FailsFor new request came passed))
    → OnOk result (length (waiting_of new) ≤ length (waiting_of mid)) → new.is_begun ≡ mid.is_begun
    → terms_of new.relay ≡ terms_of mid.relay → Receives old new bytes result
receives_behind result old mid new bytes waits relay begun stands fails few later terms =
    receives result old new bytes
    (λ request came passed h. stands request (came ++ bytes) passed (kept old mid bytes waits relay begun request came passed h.0))
    (λ request came passed h. fails request (came ++ bytes) passed (kept old mid bytes waits relay begun request came passed h.0))
    (subst (λ n. OnOk result (length (waiting_of new) ≤ n)) (ap length waits ∙ length-append (waiting_of old) bytes) few)
    (later ∙ begun) (terms ∙ ap terms_of relay)

-- ---- laws

pub on_streams : (Says : Law) → Always Says → AlwaysOnStreams Says
on_streams Says says stream passing request came passed (h, waits) is =
    (h.input, h.came_is, says stream.relay passing request h.input passed h.stands is)

emptied : (bytes : List ℕ) (tells whole : Bool) → (is_empty bytes && tells && whole) ≡ true
    → (bytes ≡ []) × ((is_empty [] && tells && whole) ≡ true)
emptied [] tells whole e = (refl, e)
emptied (byte ∷ bytes) tells whole e = cc

pub drains_whole : Always IsDrainedAnswer
    → (stream : ResponseStream) (passing : Passing) (request : Request) (came passed : List ℕ)
    → DrainsWhole stream passing request came passed
drains_whole says stream passing request came passed (h, waits) is drained =
    let parts = emptied (waiting_of stream) (tells_end passing.framing) (whole_at passing.relay.stage)
    (subst (λ p. is_drained p (waiting_of stream) ≡ true) is drained) in (
      parts.1,
      subst (λ l. IsDrainedAnswer stream.relay.terms passing request l passed)
          (sym (h.came_is ∙ ap (λ l. h.input ++ l) parts.0 ∙ append-nil h.input))
          (says stream.relay passing request h.input passed h.stands is),
    )

has_room : (relay : ResponseRelay) → relay_wants_input relay ≡ true → HasRoom (passing_of relay)
has_room relay wants = by_passing (is_none relay.refusal) (passing_of relay) wants
  where
    by_passing : (reads : Bool) (passing : Option Passing) → (reads && takes_more passing) ≡ true → HasRoom passing
    by_passing reads None e = tt
    by_passing reads (Some passing) e = grind (arith, nat_tests)

pub waits_shortly : ((passing : Option Passing) (bytes : List ℕ) → RelayWaitsShortly passing bytes)
    → (stream : ResponseStream) (request : Request) (came passed : List ℕ) → WaitsShortly stream request came passed
waits_shortly law stream request came passed (h, inl none) wants = omega (arith, ap length none)
waits_shortly law stream request came passed (h, inr waits) wants =
    law (passing_of stream.relay) (waiting_of stream) waits (has_room stream.relay wants)
