-- The laws of a response that is passed on.
use Rattle.std.proofs.Common.{◌≡◌, ℕ, ◌≤◌, Bool, true, false, ◌&&◌, IsFalse, List, [], ◌∷◌, ◌++◌, length, refl, ap, sym, ◌∙◌, append_assoc, arith, subst, inl, inr, Option, None, Some}
use Rattle.bg_http.specs.Persistences.{keeps}
use Rattle.bg_http.specs.declared.body_end.BodyEnd.{BodyEnd}
use Rattle.bg_http.specs.declared.request.Request.{Request}
use Rattle.bg_http.specs.declared.response.Response.{Response}
use Rattle.bg_http.specs.declared.response.ResponseHead.{ResponseHead}
use Rattle.bg_http.specs.declared.response_rules.ResponseFraming.{ResponseFraming}
use Rattle.bg_http.specs.declared.response_rules.ResponseFraming.TheVariants as framing
use Rattle.bg_http_read.specs.Bodies.{is_whole as whole_at}
use Rattle.bg_http_read.specs.ResponseHeads.{AreHeadsAlso, FitsWithin}
use Rattle.bg_http_read.specs.ResponseStates.{IsReadThen}
use Rattle.bg_http_read.specs.Responses.{ReadsResponseBody, ReadsResponseThen, most_response_body, names_another, no_head, no_heads}
use Rattle.bg_http_read.specs.WrittenHeads.{HasHeadOf, IsJudgedInChunks, IsLengthOf, IsReadAsWritten}
use Rattle.bg_http_read.specs.declared.body.BodyStage.{BodyStage}
use Rattle.bg_relay.specs.Framings.{ReadsBody, most_to_come}
use Rattle.bg_relay.specs.Laws.{BeginsBodies, HoldsNoBody, IfItEnds, IsBody, KeepsLimit as KeepsRelayLimit, PassesWhole, WaitsShortly as BodyWaitsShortly}
use Rattle.bg_relay.specs.Relays.{RelayState}
use Rattle.bg_streams.specs.Framings.{incoming, tells_end}
use Rattle.bg_streams.specs.HeadTexts.{head_text, length_streamed}
use Rattle.bg_streams.specs.Laws.{Always, BeginsAnswer, GivesAnswer, GivesHead, GivesNoBody, IsAnswer, IsClosedInHead, IsDrainedAnswer, KeepsLimit, Law, WaitsShortly, whole_response}
use Rattle.bg_streams.specs.Passings.{head_rest}
use Rattle.bg_streams.specs.ResponseRelays.{Answers, StandsWith}
use Rattle.bg_streams.specs.declared.passing.Passing.{Passing}
use Rattle.bg_streams.specs.declared.response_relay.ResponseRelay.{ResponseRelay}
use Rattle.bg_streams.specs.declared.stream_terms.StreamTerms.{StreamTerms}

-- ---- what was written, and what is to be written

-- what is said of each response whose head came is said of each relay
always : (Says : Law)
    → ((terms : StreamTerms) (passing : Passing) (request : Request) (input written : List ℕ)
    → Answers terms passing request input written → Says terms passing request input written)
    → Always Says
always Says says relay passing request input written stands is =
    says relay.terms passing request input written
    (subst (λ p. StandsWith relay.terms relay.heads p request input written) is stands)

is_answer : (terms : StreamTerms) (passing : Passing) (request : Request) (input written : List ℕ)
    → (h : Answers terms passing request input written)
    → IsAnswer terms passing request input written h.came (h.delivers.output ++ passing.relay.rest)
is_answer terms passing request input written h = record {
  head = h.head;
  heads = h.heads;
  input_is = h.input_is;
  are_heads = h.are_heads;
  said = h.said;
  incoming_is = h.incoming_is;
  outgoing_is = h.outgoing_is;
  output_is = sym (append_assoc written (head_rest passing) passing.relay.rest)
      ∙ ap (λ l. l ++ passing.relay.rest) h.delivers.text_is
      ∙ append_assoc (head_text (keeps terms.persistence) passing.relay.outgoing passing.response) h.delivers.output
      passing.relay.rest;
}

pub begins_answer : ((relay : RelayState) (input output body more whole left : List ℕ) → BeginsBodies relay input output body more whole left)
    → Always BeginsAnswer
begins_answer law = always BeginsAnswer (λ terms passing request input written h.
    let output = h.delivers.output ++ passing.relay.rest in
    let passes = h.delivers.stands in (
      h.came,
      output,
      passes.0,
      is_answer terms passing request input written h,
      passes.1,
      λ more whole left. law passing.relay h.came output passes.0 more whole left,
    ))

pub gives_answer : ((relay : RelayState) (input written : List ℕ) → PassesWhole relay input written)
    → Always GivesAnswer
gives_answer law = always GivesAnswer (λ terms passing request input written h whole.
    let bodies = law passing.relay h.came h.delivers.output h.delivers.stands whole in (
      h.came,
      h.delivers.output ++ passing.relay.rest,
      bodies.0,
      is_answer terms passing request input written h,
      bodies.1,
      bodies.2,
    ))

pub gives_no_body : ((relay : RelayState) (input written : List ℕ) → HoldsNoBody relay input written)
    → Always GivesNoBody
gives_no_body law = always GivesNoBody (λ terms passing request input written h part.
    let none = law passing.relay h.came h.delivers.output h.delivers.stands part in (
      h.came,
      h.delivers.output ++ passing.relay.rest,
      is_answer terms passing request input written h,
      none.0,
      none.1,
    ))

pub keeps_limit : ((relay : RelayState) (input written : List ℕ) → KeepsRelayLimit relay input written) → Always KeepsLimit
keeps_limit law = always KeepsLimit (λ terms passing request input written h.
    let within = law passing.relay h.came h.delivers.output h.delivers.stands in (
      h.came,
      h.delivers.output ++ passing.relay.rest,
      is_answer terms passing request input written h,
      omega (arith, within, h.most_is, ap (λ named. most_to_come named terms.most_body) h.incoming_is),
    ))

-- ---- the head

head_of : (terms : StreamTerms) (passing : Passing) (request : Request) (input written : List ℕ)
    → Answers terms passing request input written → HasHeadOf request passing.response
head_of terms passing request input written h = record {
  most = terms.most_body;
  input = h.heads ++ h.came;
  head = h.head;
  named = passing.framing;
  after = h.came;
  came = h.are_heads h.came;
  code_is = h.said.code_is;
  reason_is = h.said.reason_is;
  fields_are = h.said.fields_are;
}

length_told_is : (named : ResponseFraming) (head : ResponseHead) (given : Option (List ℕ)) → given ≡ length_streamed named head
    → IsLengthOf named head given
length_told_is framing.Interim head given e = inl e
length_told_is framing.NoBody head given e = inr e
length_told_is framing.Chunks head given e = inl e
length_told_is (framing.Length size) head given e = inr e
length_told_is framing.ToTheEnd head given e = inl e

pub gives_head : ((kept : Bool) (named : BodyEnd) (request : Request) (response : Response) (more : List ℕ)
    → IsReadAsWritten kept named request response more)
    → ((kept : Bool) (request : Request) (response : Response) → IsJudgedInChunks kept request response)
    → Always GivesHead
unfolding head_of
gives_head reads chunks = always GivesHead (λ terms passing request input written h.
    let from = head_of terms passing request input written h in
    record {
      reads = λ more. reads _ _ request passing.response more from
          (length_told_is passing.framing h.head passing.response.length h.said.length_is);
      chunks = λ some. chunks _ request passing.response from some;
    })

-- ---- a drained connection

empty_body : (body : List ℕ) → length body ≡ 0 → body ≡ []
empty_body [] none = refl
empty_body (byte ∷ body) none = absurd (omega (arith, none))

no_other : IsFalse true → ⊥
no_other e = cc

-- the body as the parser of whole responses reads it
body_is_read : (named : ResponseFraming) (came more body : List ℕ) → IsFalse (names_another named) → tells_end named ≡ true
    → length body ≤ most_response_body → IfItEnds (incoming named) (ReadsBody (incoming named) (came ++ more) body more)
    → ReadsResponseBody named (came ++ more) body more
body_is_read framing.Interim came more body last tells fits h = absurd (no_other last)
body_is_read framing.NoBody came more body last tells fits h =
    let none = empty_body body h.0 in
    (none, h.1 ∙ ap (λ l. l ++ more) none)
body_is_read framing.Chunks came more body last tells fits h = (h.0, fits)
body_is_read (framing.Length size) came more body last tells fits h = h
body_is_read framing.ToTheEnd came more body last tells fits h = cc

-- a length that is the one of the body
length_fits : (named : ResponseFraming) (came body : List ℕ) → length body ≤ most_response_body
    → IfItEnds (incoming named) (ReadsBody (incoming named) (came ++ []) body []) → FitsWithin most_response_body named
length_fits framing.Interim came body fits h = tt
length_fits framing.NoBody came body fits h = tt
length_fits framing.Chunks came body fits h = tt
length_fits (framing.Length size) came body fits h = omega (arith, fits, h.0)
length_fits framing.ToTheEnd came body fits h = tt

-- what is said of heads within two limits
abbrev HeadsLaw : Type 0
HeadsLaw =
    (most other : ℕ) (request : Request) (input : List ℕ) (head : ResponseHead) (named : ResponseFraming)
    → AreHeadsAlso most other request input head named

-- a response is read as its whole, whatever follows
is_read : HeadsLaw → (terms : StreamTerms) (passing : Passing) (request : Request) (input written body : List ℕ)
    → (h : Answers terms passing request input written) → tells_end passing.framing ≡ true
    → IsBody passing.relay.incoming h.came body → length body ≤ most_response_body
    → IsReadThen request (whole_response passing.framing h.head body) input []
is_read also terms passing request input written body h tells is fits more =
    let whole : (more : List ℕ) → IfItEnds (incoming passing.framing) (ReadsBody (incoming passing.framing) (h.came ++ more) body more) =
    λ more. subst (λ named. IfItEnds named (ReadsBody named (h.came ++ more) body more)) h.incoming_is (is.ends more) in
    let begins = also terms.most_body most_response_body request h.heads h.head passing.framing h.are_heads
    (length_fits passing.framing h.came body fits (whole [])) (h.came ++ more) in
    let same : input ++ more ≡ h.heads ++ (h.came ++ more) =
    ap (λ l. l ++ more) h.input_is ∙ append_assoc h.heads h.came more in
    subst (λ l. ReadsResponseThen request l (whole_response passing.framing h.head body) more) (sym same) (record {
      count = begins.count;
      few = begins.few;
      after = begins.after;
      skips = begins.skips;
      holds = (
        h.head,
        passing.framing,
        h.came ++ more,
        begins.holds,
        record {
          body = body_is_read passing.framing h.came more body begins.holds.1 tells fits (whole more);
          code_is = refl;
          reason_is = refl;
          fields_are = refl;
          length_is = refl;
        },
      );
    })

-- the parts of what is drained
drained_parts : (tells whole : Bool) → (true && tells && whole) ≡ true → (tells ≡ true) × (whole ≡ true)
drained_parts true true e = (refl, refl)
drained_parts true false e = cc
drained_parts false whole e = cc

pub is_drained_answer : ((relay : RelayState) (input written : List ℕ) → PassesWhole relay input written)
    → HeadsLaw → Always IsDrainedAnswer
is_drained_answer law also = always IsDrainedAnswer (λ terms passing request input written h drained.
    let parts = drained_parts (tells_end passing.framing) (whole_at passing.relay.stage) drained in
    let bodies = law passing.relay h.came h.delivers.output h.delivers.stands parts.1 in (
      h.head,
      bodies.0,
      h.said,
      λ fits. is_read also terms passing request input written bodies.0 h parts.0 bodies.1 fits,
    ))

-- ---- what waits, and an input that ends too early

pub waits_shortly : ((at : BodyStage) (bytes : List ℕ) → BodyWaitsShortly at bytes) → (passing : Option Passing) (bytes : List ℕ)
    → WaitsShortly passing bytes
waits_shortly law None bytes waits room = omega (arith, waits.0)
waits_shortly law (Some passing) bytes waits room = law passing.relay.stage bytes (waits room.0 room.1)

pub closed_in_head : (relay : ResponseRelay) (request : Request) (input written bytes : List ℕ)
    → IsClosedInHead relay request input written bytes
closed_in_head relay request input written bytes stands none cut =
    let taken = subst (λ p. StandsWith relay.terms relay.heads p request input written) none stands in
    no_heads (no_head (record {
      count = relay.heads.interim;
      few = taken.1.few;
      after = bytes;
      skips = taken.1.skips bytes;
      holds = cut;
    }))
