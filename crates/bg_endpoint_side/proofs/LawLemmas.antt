-- The laws of the endpoints' side.
use Rattle.std.proofs.Common.{◌≡◌, ◌⊎◌, ◌&&◌, ◌||◌, ◌∙◌, ℕ, zero, suc, Bool, true, false, not, if◌then◌else◌, ◌==◌, codes, List, [], ◌∷◌, ◌++◌, refl, sym, ap, inl, inr, take, drop, append_assoc, take-append-drop, nat_lt, Ok, Err, Result}
use Rattle.bg_http.specs.Codings.{is_empty}
use Rattle.bg_http.specs.Persistences.{keeps}
use Rattle.bg_http.specs.Elements.{has_field}
use Rattle.bg_http.specs.Lengths.{content_length}
use Rattle.bg_http.specs.Removed.{says_close}
use Rattle.bg_http.specs.ResponseRules.{asks_for_head, framing_by_codings, framing_by_length, is_bad_code, is_interim, response_framing}
use Rattle.bg_http.specs.declared.request.Request.{Request}
use Rattle.bg_http.specs.declared.response.Response.{Response}
use Rattle.bg_http.specs.declared.response.ResponseHead.{ResponseHead}
use Rattle.bg_http.specs.declared.response_fault.ResponseFault.{ResponseFault}
use Rattle.bg_http.specs.declared.response_fault.ResponseFault.TheVariants as fault
use Rattle.bg_http.specs.declared.response_rules.ResponseFraming.{ResponseFraming}
use Rattle.bg_http.specs.declared.response_rules.ResponseFraming.TheVariants as framing
use Rattle.bg_http_read.specs.Responses.{JudgedResponse, SkipsInterim}
use Rattle.bg_endpoint_side.specs.Dialing.{Forwarded}
use Rattle.bg_endpoint_side.specs.Forwarding.{is_sent, may_stay, renew_if}
use Rattle.bg_endpoint_side.specs.Laws.{GoesBackDrained, ReadsAlike, RepeatsOnlySafely, StaysOnNew, TextStays}
use Rattle.bg_endpoint_side.specs.OutgoingTexts.{Outgoing, whole, with_written}
use Rattle.bg_endpoint_side.specs.Versions.{begins_with_version}

pub both : (a b : Bool) → (a && b) ≡ true → (a ≡ true) × (b ≡ true)
both true b is = (refl, is)
both false b is = absurd (cc)

either : (a b : Bool) → (a || b) ≡ true → (a ≡ true) ⊎ (b ≡ true)
either true b is = inl refl
either false b is = inr is

is_not : (b : Bool) → not b ≡ true → b ≡ false
is_not true is = absurd (cc)
is_not false is = refl

empty_is : (xs : List ℕ) → is_empty xs ≡ true → xs ≡ []
empty_is [] is = refl
empty_is (x ∷ xs) is = absurd (cc)

more_of : (o : Outgoing) (count : ℕ) → whole (with_written o count) ≡ whole o
more_of o count =
    append_assoc o.sent (take count o.rest) (drop count o.rest) ∙ ap (λ r. o.sent ++ r) (take-append-drop count o.rest)

pub renewed_text : (b : Bool) (f : Forwarded) (now : ℕ) → (renew_if b f now).text ≡ f.text
renewed_text true f now = refl
renewed_text false f now = refl

pub text_stays : (f : Forwarded) (bytes : List ℕ) (count now : ℕ) → TextStays f bytes count now
text_stays f bytes count now = record {
  after_write =
      ap whole (renewed_text (nat_lt 0 count) (record f { text = with_written f.text count }) now) ∙ more_of f.text count;
  after_bytes = renewed_text (not (is_empty bytes)) (record f { came = f.came ++ bytes }) now;
  unread_is = refl;
  ending_is = refl;
  again_is = refl;
}

pub goes_back_drained : (f : Forwarded) (came left : List ℕ) (response : Response) → GoesBackDrained f came left response
goes_back_drained f came left response is =
    let keeps_it = keeps f.state.terms.persistence in
    let no_end = not f.state.is_ending in
    let of_version = begins_with_version came in
    let last = both (is_empty left) (may_stay f response came) is in
    let close = both (is_sent f && keeps_it && no_end && of_version) (not (says_close response.fields)) last.1 in
    let version = both (is_sent f && keeps_it && no_end) of_version close.0 in
    let ending = both (is_sent f && keeps_it) no_end version.0 in
    let sent = both (is_sent f) keeps_it ending.0 in
    record {
      sent = empty_is f.text.rest sent.0;
      drained = empty_is left last.0;
      keeps_is = sent.1;
      no_end = is_not f.state.is_ending ending.1;
      of_version = version.1;
      no_close = is_not (says_close response.fields) close.1;
    }

pub repeats_safely : (f : Forwarded) (now : ℕ) → RepeatsOnlySafely f now
repeats_safely f now is =
    let means = both (f.state.is_kept && is_empty f.came) (f.state.terms.is_idempotent || is_empty f.text.sent) is in
    let kept = both f.state.is_kept (is_empty f.came) means.0 in
    record {
      kept = kept.0;
      none_came = empty_is f.came kept.1;
      safe = elim (either f.state.terms.is_idempotent (is_empty f.text.sent) means.1) [
        | inl safe ↦ inl safe
        | inr none ↦ inr (empty_is f.text.sent none)
      ];
      marked = refl;
    }

pub stays_on_new : (f : Forwarded) → StaysOnNew f
stays_on_new f is = ap (λ b. b && is_empty f.came && (f.state.terms.is_idempotent || is_empty f.text.sent)) is

-- the framing of a response with this head; the method is HEAD, or it is not
abbrev framed_by : Bool → ResponseHead → Result ResponseFraming ResponseFault
framed_by to_head head =
    if is_bad_code head.code then Err fault.Bad
    else (if is_interim head.code then Ok framing.Interim
    else (if to_head || (head.code == 204) || (head.code == 304) then Ok framing.NoBody
    else (if has_field (codes "transfer-encoding") head.fields then framing_by_codings head
    else framing_by_length (content_length head.fields))))

-- the rules read of a request only whether its method is HEAD
framed_alike : (one other : Request) (head : ResponseHead) → asks_for_head one ≡ asks_for_head other
    → response_framing one head ≡ response_framing other head
framed_alike one other head same = ap (λ to_head. framed_by to_head head) same

judged_alike : (one other : Request) (input : List ℕ) (head : ResponseHead) (named : ResponseFraming) (after : List ℕ)
    → asks_for_head one ≡ asks_for_head other → JudgedResponse one input head named after
    → JudgedResponse other input head named after
judged_alike one other input head named after same judged = record {
  reads = judged.reads;
  judged = sym (framed_alike one other head same) ∙ judged.judged;
}

skips_alike : (one other : Request) (count : ℕ) (input after : List ℕ) → asks_for_head one ≡ asks_for_head other
    → SkipsInterim one count input after → SkipsInterim other count input after
skips_alike one other zero input after same skips = skips
skips_alike one other (suc count) input after same skips = (
  skips.0,
  skips.1,
  skips_alike one other count input skips.0 same skips.2,
  judged_alike one other skips.0 skips.1 framing.Interim after same skips.3,
)

pub reads_alike : (one other : Request) (input : List ℕ) (response : Response) (rest : List ℕ)
    → ReadsAlike one other input response rest
reads_alike one other input response rest same reads = record {
  count = reads.count;
  few = reads.few;
  after = reads.after;
  skips = skips_alike one other reads.count input reads.after same reads.skips;
  holds = (
    reads.holds.0,
    reads.holds.1,
    reads.holds.2,
    (judged_alike one other reads.after reads.holds.0 reads.holds.1 reads.holds.2 same reads.holds.3.0, reads.holds.3.1),
    reads.holds.4,
  );
}
