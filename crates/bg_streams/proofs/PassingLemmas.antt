-- A response whose head came, as it is passed on.
use Rattle.std.proofs.Common.{◌≡◌, ℕ, ◌+◌, ◌<◌, zero, suc, Bool, true, false, IsFalse, IsTrue, List, [], ◌∷◌, ◌++◌, length, take, drop, refl, ap, ap₂, sym, ◌∙◌, append_assoc, arith, subst, if◌then◌else◌, take-append-drop, Some, Result, Err}
use Rattle.std.proofs.lemmas.List.{append-nil, drop-drop}
use Rattle.bg_http.specs.Codings.{is_empty}
use Rattle.bg_http_read.specs.Bodies.{can_end}
use Rattle.bg_relay.specs.Relays.{RelayState, StandsFor, ended_by}
use Rattle.bg_relay.specs.declared.framing.Framing.{Framing}
use Rattle.bg_relay.specs.declared.relay_fault.RelayFault.{RelayFault}
use Rattle.bg_relay.specs.declared.relay_fault.RelayFault.TheVariants as relay_fault
use Rattle.bg_http.specs.declared.response.Response.{Response}
use Rattle.bg_streams.specs.Faults.{body_fault}
use Rattle.bg_streams.specs.HeadTexts.{head_text}
use Rattle.bg_streams.specs.Passings.{Delivers, IsKeptIn, head_rest, rest_of}
use Rattle.bg_streams.specs.declared.passing.Passing.{Passing}

-- nothing came and nothing was written
pub starts : (passing : Passing) (kept : Bool) → passing.sent ≡ 0
    → passing.head.items ≡ head_text kept passing.relay.outgoing passing.response → StandsFor passing.relay [] []
    → Delivers passing kept [] []
starts passing kept none text stands = record {
  output = [];
  text_is = ap (λ n. drop n passing.head.items) none ∙ text ∙ sym (append-nil _);
  stands = stands;
  begins = λ sent. refl;
  begun = λ empty. none;
}

-- ---- bytes were written

-- nothing is left of the head
no_rest : (bytes : List ℕ) → length bytes ≡ 0 → bytes ≡ []
no_rest [] none = refl
no_rest (byte ∷ bytes) none = absurd (omega (arith, none))

-- a front of no bytes has none
pub no_front : (front behind : List ℕ) → front ++ behind ≡ [] → front ≡ []
no_front [] behind none = refl
no_front (byte ∷ front) behind none = cc

pub no_behind : (front behind : List ℕ) → front ++ behind ≡ [] → behind ≡ []
no_behind [] behind none = none
no_behind (byte ∷ front) behind none = cc

-- no bytes are taken of some
none_taken : (count : ℕ) (bytes : List ℕ) → 0 < length bytes → take count bytes ≡ [] → count ≡ 0
none_taken count [] some none = absurd (omega (arith, some))
none_taken zero (byte ∷ bytes) some none = refl
none_taken (suc count) (byte ∷ bytes) some none = cc

-- the text of a head has a first byte
has_text : (kept : Bool) (named : Framing) (response : Response) (output : List ℕ)
    → [] ≡ head_text kept named response ++ output → ⊥
has_text kept named response output none = cc

rest_of_body : (passing : Passing) → head_rest passing ≡ [] → rest_of passing ≡ passing.relay.rest
rest_of_body passing none = rw none

rest_of_head : (passing : Passing) → 0 < length (head_rest passing) → rest_of passing ≡ head_rest passing
rest_of_head passing some = by_bytes (head_rest passing) some
  where
    by_bytes : (bytes : List ℕ) → 0 < length bytes → (if is_empty bytes then passing.relay.rest else bytes) ≡ bytes
    by_bytes [] some = absurd (omega (arith, some))
    by_bytes (byte ∷ bytes) some = refl

-- bytes of the body were written
pub body_written : (old : Passing) (relay : RelayState) (count : ℕ) → length (head_rest old) ≡ 0
    → relay.outgoing ≡ old.relay.outgoing
    → ((input written : List ℕ) → StandsFor old.relay input written
    → StandsFor relay input (written ++ take count old.relay.rest))
    → (kept : Bool) (came written : List ℕ) → Delivers old kept came written
    → Delivers (record old { relay = relay }) kept came (written ++ take count (rest_of old))
body_written old relay count none outgoing stands kept came written d =
    let nothing = no_rest (head_rest old) none in
    let more = take count old.relay.rest in
    let text = head_text kept old.relay.outgoing old.response in
    let all : written ≡ text ++ d.output =
    sym (append-nil written) ∙ ap (λ l. written ++ l) (sym nothing) ∙ d.text_is in
    let whole : (written ++ more) ++ head_rest old ≡ text ++ (d.output ++ more) =
    ap (λ l. (written ++ more) ++ l) nothing ∙ append-nil (written ++ more) ∙ ap (λ l. l ++ more) all
    ∙ append_assoc text d.output more in
    subst (λ l. Delivers (record old { relay = relay }) kept came (written ++ take count l)) (sym (rest_of_body old nothing))
    (record {
      output = d.output ++ more;
      text_is = subst (λ named. (written ++ more) ++ head_rest old ≡ head_text kept named old.response ++ (d.output ++ more))
          (sym outgoing) whole;
      stands = stands came d.output d.stands;
      begins = λ sent. absurd (has_text kept old.relay.outgoing old.response d.output (sym (d.begins sent) ∙ all));
      begun = λ none. d.begun (no_front written more none);
    })

-- bytes of the head were written
head_written : (old : Passing) (sent count : ℕ) → 0 < length (head_rest old)
    → (sent ≡ 0 → (old.sent ≡ 0) × (count ≡ 0)) → (old.sent ≡ 0 → count ≡ 0 → sent ≡ 0)
    → take count (head_rest old) ++ drop sent old.head.items ≡ head_rest old
    → (kept : Bool) (came written : List ℕ) → Delivers old kept came written
    → Delivers (record old { sent = sent }) kept came (written ++ take count (rest_of old))
head_written old sent count some first last whole kept came written d =
    subst (λ l. Delivers (record old { sent = sent }) kept came (written ++ take count l)) (sym (rest_of_head old some))
    (record {
      output = d.output;
      text_is = append_assoc written (take count (head_rest old)) (drop sent old.head.items)
          ∙ ap (λ l. written ++ l) whole ∙ d.text_is;
      stands = d.stands;
      begins = λ none. nothing (first none);
      begun = λ none.
          last (d.begun (no_front written (take count (head_rest old)) none))
          (none_taken count (head_rest old) some (no_behind written (take count (head_rest old)) none));
    })
  where
    nothing : (old.sent ≡ 0) × (count ≡ 0) → written ++ take count (head_rest old) ≡ []
    nothing (start, none) = ap₂ (λ l n. l ++ take n (head_rest old)) (d.begins start) none

-- a part of the head was written
pub part_written : (old : Passing) (sent count : ℕ) → 0 < length (head_rest old) → sent ≡ old.sent + count
    → (kept : Bool) (came written : List ℕ) → Delivers old kept came written
    → Delivers (record old { sent = sent }) kept came (written ++ take count (rest_of old))
part_written old sent count some moved =
    head_written old sent count some (λ none. (omega (arith, none, moved), omega (arith, none, moved)))
    (λ start none. moved ∙ omega (arith, start, none))
    (ap (λ n. take count (head_rest old) ++ drop n old.head.items) moved
    ∙ ap (λ l. take count (head_rest old) ++ l) (sym (drop-drop count old.sent old.head.items))
    ∙ take-append-drop count (head_rest old))

-- ---- the end of the input

-- the fault of a relay whose input ended
pub kept_at_end : {T : Type 0} (old new : RelayState) (fault : RelayFault)
    → (IsFalse (can_end old.stage)
    → ◌≡◌ {A = Result T RelayFault} (Err fault) (Err relay_fault.Cut) × (new ≡ ended_by relay_fault.Cut old))
    → (IsTrue (can_end old.stage) → (fault ≡ relay_fault.OutOfMemory) × (new ≡ ended_by fault old))
    → new.fault ≡ Some fault
kept_at_end old new fault cut memory = by_test (can_end old.stage) refl
  where
    by_test : (t : Bool) → can_end old.stage ≡ t → new.fault ≡ Some fault
    by_test true e = ap (λ r. r.fault) (memory e).1
    by_test false e =
        let early = cut e in
        let same : fault ≡ relay_fault.Cut = cc in
        ap (λ r. r.fault) early.1 ∙ ap Some (sym same)

-- a cut is kept
pub kept_in : (passing : Passing) (is_begun : Bool) (fault : RelayFault) → passing.relay.fault ≡ Some fault
    → IsKeptIn passing (body_fault is_begun fault)
kept_in passing true fault h = h
kept_in passing false fault h = tt
