-- The bytes that a response's parser was fed, and what is read from them.
use Rattle.std.proofs.Common.{◌≡◌, ◌⊎◌, Bool, true, false, IsFalse, ℕ, ◌==◌, ◌≤◌, List, [], ◌++◌, length, refl, ap, sym, ◌∙◌, arith, subst, inl, inr}
use Rattle.std.proofs.lemmas.List.{append-nil}
use Rattle.bg_http.specs.declared.request.Request.{Request}
use Rattle.bg_http.specs.declared.response.Response.{Response}
use Rattle.bg_http.specs.declared.response_fault.ResponseFault.{ResponseFault}
use Rattle.bg_http.specs.declared.response_fault.ResponseFault.TheVariants as fault
use Rattle.bg_http.specs.declared.response_rules.ResponseFraming.{ResponseFraming}
use Rattle.bg_http.specs.declared.response_rules.ResponseFraming.TheVariants as framing
use Rattle.bg_http_read.specs.Bodies.{KeepsLimit, Reads, Fails, Refuses, can_end, is_whole}
use Rattle.bg_http_read.specs.BodyFaults.{malformed, large, cut}
use Rattle.bg_http_read.specs.BodyFramings.{FedBody, FramedReads, first_stage, most_of}
use Rattle.bg_http_read.specs.Responses.{AfterInterim, IsFinalHead, SkipsInterim, ReadsResponse, ReadsResponseThen, ReadsResponseBody, ResponseBodyFails, ResponseFails, body_of_response, length_of_response, most_response_body, names_another, no_body}
use Rattle.bg_http_read.specs.ResponsesFed.{AwaitsHead, IsSeen, Starts, stage_seen, HasParts, IsFedStage, IsOpenStage, ResponseBody, WantsBody, WantsStage, responses}
use Rattle.bg_http_read.specs.ResponseStates.{LacksResponse, GoesToTheEnd, IsReadThen, IsRefused, NeedsMore}
use Rattle.bg_http_read.specs.declared.body.BodyStage.{BodyStage}
use Rattle.bg_http_read.specs.declared.body.BodyStage.TheVariants as stage
use Rattle.bg_http_read.specs.MessageFaults.{as_response}
use Rattle.bg_http_read.specs.declared.message_fault.MessageFault.{MessageFault}
use Rattle.bg_http_read.specs.declared.message_fault.MessageFault.TheVariants as message_fault
use Rattle.bg_http_read.specs.HeadEnds.{after_bytes, is_over}
use Rattle.bg_http_read.specs.declared.head_end.HeadEnd.TheVariants as head_end
use Rattle.bg_http_read.specs.Heads.{ReadsResponseHead}
use Rattle.httparse.specs.Grammar.{HasNoResponse}
use Rattle.bg_http_read.proofs.HeadsOver.{after_bytes-append, no_response_yet}
use Rattle.bg_http_read.proofs.InterimOrder.{IsInterim, in_order, final_or_interim}
use Rattle.bg_http_read.proofs.ResponseOrFault.{response_or_fault}
use Rattle.bg_http_read.specs.declared.response_progress.ResponseStage.{ResponseStage}
use Rattle.bg_http_read.specs.declared.response_progress.ResponseStage.TheVariants as part
use Rattle.bg_http_read.proofs.BodyLoop.{end_reads, whole_reads}
use Rattle.bg_http_read.proofs.InterimTaken.{final_behind, memory_refuses, skips_behind}
use Rattle.bg_http_read.proofs.FedBodies.{fed_failure, fed_longer, fed_reads}
use Rattle.bg_http_read.proofs.FramedBodies.{end_of}

-- more bytes were fed
fed_behind : (request : Request) (s : ResponseStage) (waits seen more : List ℕ)
    → IsFedStage request s waits seen → IsFedStage request s (waits ++ more) (seen ++ more)
fed_behind request (part.Heads search) waits seen more h =
    skips_behind request search.interim seen waits more h
fed_behind request (part.Body p) waits seen more h =
    fed_longer (responses request) (final_behind most_response_body request) p waits seen more h
fed_behind request part.Done waits seen more h = h

pub fed_added : (request : Request) (s : ResponseStage) (waits now seen bytes : List ℕ)
    → IsFedStage request s waits seen → now ≡ waits ++ bytes
    → IsFedStage request s now (seen ++ bytes)
fed_added request s waits now seen bytes h added =
    subst (λ w. IsFedStage request s w (seen ++ bytes)) (sym added)
    (fed_behind request s waits seen bytes h)

-- bytes were fed, and none waited
pub fed_first : (request : Request) (s : ResponseStage) (waits seen bytes : List ℕ)
    → IsFedStage request s waits seen → waits ≡ [] → IsFedStage request s bytes (seen ++ bytes)
fed_first request s waits seen bytes h none =
    fed_added request s waits bytes seen bytes h (ap (λ l. l ++ bytes) (sym none))

-- the body that the framing names
as_named : (named : ResponseFraming) (input body rest : List ℕ) → IsFalse (names_another named)
    → FramedReads (body_of_response named) input body rest → ReadsResponseBody named input body rest
as_named framing.Interim input body rest last h = absurd (no_true last)
  where
    no_true : IsFalse true → ⊥
    no_true e = cc
as_named framing.NoBody input body rest last h = h
as_named framing.Chunks input body rest last h = h
as_named (framing.Length size) input body rest last h = h
as_named framing.ToTheEnd input body rest last h = h

-- what is read from the bytes that wait, and from those that follow, is the response
reads_fed : (request : Request) (p : ResponseBody) (waits seen more rest : List ℕ)
    (response : Response) → FedBody (responses request) p waits seen → KeepsLimit p.body
    → HasParts response p → Reads p.body (waits ++ more) p.body.bytes.items rest
    → ReadsResponseThen request (seen ++ more) response rest
reads_fed request p waits seen more rest response h within parts reads = record {
  count = found.count;
  few = found.few;
  after = found.after;
  skips = found.skips;
  holds = (
    p.head,
    p.framing,
    h.after ++ more,
    found.holds,
    record {
      body = subst (λ l. ReadsResponseBody p.framing (h.after ++ more) l rest) (sym parts.body_is) body;
      code_is = parts.code_is;
      reason_is = parts.reason_is;
      fields_are = parts.fields_are;
      length_is = parts.length_is
          ∙ ap (length_of_response p.framing p.head) (sym parts.body_is);
    },
  );
}
  where
    found : AfterInterim request (seen ++ more) (IsFinalHead request p.head p.framing (h.after ++ more))
    found = final_behind most_response_body request seen more p.head p.framing h.after h.found

    body : ReadsResponseBody p.framing (h.after ++ more) p.body.bytes.items rest
    body =
        as_named p.framing (h.after ++ more) p.body.bytes.items rest h.found.holds.1
        (fed_reads (responses request) p waits seen more rest h within reads)

-- the body is complete
pub fed_whole : (request : Request) (p : ResponseBody) (waits seen : List ℕ) (response : Response)
    → FedBody (responses request) p waits seen → KeepsLimit p.body → HasParts response p
    → is_whole p.body.stage ≡ true → IsReadThen request response seen waits
fed_whole request p waits seen response h within parts whole more =
    reads_fed request p waits seen more (waits ++ more) response h within parts
    (whole_reads p.body.stage p.body.bytes.items (waits ++ more) whole)

-- the body ends with the input
pub fed_end : (request : Request) (p : ResponseBody) (waits seen : List ℕ) (response : Response)
    → FedBody (responses request) p waits seen → KeepsLimit p.body → HasParts response p
    → can_end p.body.stage ≡ true → (p.body.stage ≡ stage.ToTheEnd → waits ≡ [])
    → ReadsResponse request response seen
fed_end request p waits seen response h within parts ends empty =
    subst (ReadsResponse request response) (append-nil seen) (
      waits,
      reads_fed request p waits seen [] waits response h within parts
          (subst (λ l. Reads p.body l p.body.bytes.items waits) (sym (append-nil waits))
          (end_reads p.body.stage p.body.bytes.items waits ends empty)),
    )

-- a failure of the bytes that wait, and of those that follow, is one of the input
fed_fails : (request : Request) (p : ResponseBody) (waits seen more : List ℕ) (e : ResponseFault)
    → (h : FedBody (responses request) p waits seen) → ResponseBodyFails p.framing (h.after ++ more) e
    → ResponseFails request (seen ++ more) e
fed_fails request p waits seen more e h fails =
    let found = final_behind most_response_body request seen more p.head p.framing h.after h.found in
    no_body (record {
      count = found.count;
      few = found.few;
      after = found.after;
      skips = found.skips;
      holds = (p.head, p.framing, h.after ++ more, found.holds, fails);
    })

pub fed_refused : (request : Request) (p : ResponseBody) (waits seen : List ℕ) (e : MessageFault)
    → FedBody (responses request) p waits seen → Refuses p.body waits e
    → IsRefused request (as_response e) seen
fed_refused request p waits seen message_fault.Bad h refused more =
    fed_fails request p waits seen more fault.Bad h
    (fed_failure (responses request) p waits seen more malformed h (refused more))
fed_refused request p waits seen message_fault.HeadTooLarge h refused more = absurd refused
fed_refused request p waits seen message_fault.TooLarge h refused more =
    fed_fails request p waits seen more fault.TooLarge h
    (fed_failure (responses request) p waits seen more large h (refused more))
fed_refused request p waits seen message_fault.OutOfMemory h refused more =
    memory_refuses request seen more

-- the body is cut off
pub fed_cut_off : (request : Request) (p : ResponseBody) (waits seen : List ℕ)
    → FedBody (responses request) p waits seen → Fails p.body cut waits
    → ResponseFails request seen fault.Closed
fed_cut_off request p waits seen h fails =
    subst (λ l. ResponseFails request l fault.Closed) (append-nil seen)
    (fed_fails request p waits seen [] fault.Closed h
    (fed_failure (responses request) p waits seen [] cut h (subst (Fails p.body cut) (sym (append-nil waits)) fails)))

-- a body that may end and is not complete goes to the end of the input
to_the_end : (s : BodyStage) → can_end s ≡ true → is_whole s ≡ false → s ≡ stage.ToTheEnd
to_the_end (stage.Length left) ends missing = absurd (both left ends missing)
  where
    both : (n : ℕ) → (n == 0) ≡ true → (n == 0) ≡ false → ⊥
    both n h k = cc
to_the_end stage.Line ends missing = cc
to_the_end (stage.Data left) ends missing = cc
to_the_end stage.Trailers ends missing = cc
to_the_end stage.ToTheEnd ends missing = refl
to_the_end stage.Whole ends missing = cc

framed_to_the_end : (named : ResponseFraming) → first_stage (body_of_response named) ≡ stage.ToTheEnd
    → named ≡ framing.ToTheEnd
framed_to_the_end framing.Interim e = cc
framed_to_the_end framing.NoBody e = cc
framed_to_the_end framing.Chunks e = cc
framed_to_the_end (framing.Length size) e = cc
framed_to_the_end framing.ToTheEnd e = refl

fed_to_the_end : (request : Request) (p : ResponseBody) (waits seen : List ℕ)
    → FedBody (responses request) p waits seen → KeepsLimit p.body → WantsBody request p waits seen
    → p.body.stage ≡ stage.ToTheEnd → GoesToTheEnd request seen
fed_to_the_end request p waits seen h within wants is = record {
  count = h.found.count;
  few = h.found.few;
  after = h.found.after;
  skips = h.found.skips;
  holds = (p.head, p.framing, h.after, h.found.holds, (named, few));
}
  where
    starts : h.start.stage ≡ stage.ToTheEnd
    starts = h.follows.ends is

    named : p.framing ≡ framing.ToTheEnd
    named = framed_to_the_end p.framing (sym h.starts.stage_is ∙ starts)

    none : waits ≡ []
    none = wants.empty is

    reads : Reads p.body (waits ++ []) p.body.bytes.items waits
    reads =
        subst (λ l. Reads p.body l p.body.bytes.items waits) (sym (append-nil waits))
        (end_reads p.body.stage p.body.bytes.items waits (ap can_end is) (λ e. none))

    all : p.body.bytes.items ≡ h.after ++ []
    all =
        let end = end_of h.start h.starts.none starts (h.after ++ []) p.body.bytes.items waits
        (h.follows.read [] p.body.bytes.items waits reads) in
        end.1

    limit : h.start.limit ≡ most_response_body
    limit = subst (λ n. h.start.limit ≡ most_of (body_of_response n)) named h.starts.limit_is

    few : length h.after ≤ most_response_body
    few = omega (arith, ap length (all ∙ append-nil h.after), within, h.limit, limit)

-- if the response is cut off, it is not complete
cut_off_lacks : (request : Request) (seen : List ℕ) → ResponseFails request seen fault.Closed
    → LacksResponse request seen
cut_off_lacks request seen fails response reads =
    absurd (no_fault (response_or_fault request seen response fault.Closed reads fails))
  where
    no_fault : false ≡ true → ⊥
    no_fault e = cc

-- if the next head is not complete, the response is not complete
head_lacks : (request : Request) (count : ℕ) (seen waits : List ℕ)
    → SkipsInterim request count seen waits → HasNoResponse waits → LacksResponse request seen
head_lacks request count seen waits skips none response (rest, h) =
    by_place (in_order request h.count count seen h.after waits h.skips skips)
  where
    by_place : (h.after ≡ waits) ⊎ (IsInterim request h.after ⊎ IsInterim request waits) → ⊥
    by_place (inl same) =
        let reads = subst (λ l. ReadsResponseHead l h.holds.0 h.holds.2) same h.holds.3.0.reads in
        none reads.tree h.holds.2 reads.reads
    by_place (inr (inl interim)) =
        final_or_interim request h.after h.holds.0 h.holds.1 h.holds.2 h.holds.3.0 h.holds.3.1 interim
    by_place (inr (inr (head, next, judged))) = none judged.reads.tree next judged.reads.reads

-- a parser that waits for an empty line needs more
pub awaits_more : (request : Request) (s : ResponseStage) (waits seen : List ℕ)
    → IsFedStage request s waits seen → IsSeen s waits → AwaitsHead s → NeedsMore request seen
awaits_more request (part.Heads search) waits seen h sees awaits =
    inl (head_lacks request search.interim seen waits h
    (no_response_yet waits (ap is_over (sym sees) ∙ awaits)))
awaits_more request (part.Body p) waits seen h sees awaits = absurd awaits
awaits_more request part.Done waits seen h sees awaits = absurd awaits

-- more bytes were fed, and they wait
pub seen_behind : (s : ResponseStage) (waits now bytes : List ℕ) → IsSeen s waits
    → now ≡ waits ++ bytes → IsSeen (stage_seen s bytes) now
seen_behind (part.Heads search) waits now bytes sees added =
    ap (λ e. after_bytes e bytes) sees ∙ sym (after_bytes-append head_end.Blank waits bytes)
    ∙ ap (after_bytes head_end.Blank) (sym added)
seen_behind (part.Body p) waits now bytes sees added = tt
seen_behind part.Done waits now bytes sees added = tt

pub fed_seen : (request : Request) (s : ResponseStage) (waits seen bytes : List ℕ)
    → IsFedStage request s waits seen → IsFedStage request (stage_seen s bytes) waits seen
fed_seen request (part.Heads search) waits seen bytes h = h
fed_seen request (part.Body p) waits seen bytes h = h
fed_seen request part.Done waits seen bytes h = h

pub open_seen : (s : ResponseStage) (bytes : List ℕ) → IsOpenStage s
    → IsOpenStage (stage_seen s bytes)
open_seen (part.Heads search) bytes h = h
open_seen (part.Body p) bytes h = h
open_seen part.Done bytes h = h

-- no byte was fed
pub starts_fed : (request : Request) (s : ResponseStage) → Starts s
    → IsFedStage request s [] [] × (IsOpenStage s × IsSeen s [])
starts_fed request (part.Heads search) (none, blank) = (
  subst (λ n. SkipsInterim request n [] []) (sym none) refl,
  (omega (arith, none), blank),
)
starts_fed request (part.Body p) h = absurd h
starts_fed request part.Done h = absurd h

-- a parser that has taken all bytes that it can needs more
pub fed_needs_more : (request : Request) (s : ResponseStage) (waits seen : List ℕ)
    → IsFedStage request s waits seen → IsOpenStage s → WantsStage request s waits seen
    → NeedsMore request seen
fed_needs_more request (part.Heads search) waits seen h goes_on wants =
    inl (cut_off_lacks request seen wants)
fed_needs_more request (part.Body p) waits seen h goes_on wants = by_end (can_end p.body.stage) refl
  where
    by_end : (ends : Bool) → can_end p.body.stage ≡ ends → NeedsMore request seen
    by_end false e = inl (cut_off_lacks request seen (wants.cut_off e))
    by_end true e =
        inr (fed_to_the_end request p waits seen h goes_on wants
        (to_the_end p.body.stage e wants.missing))
fed_needs_more request part.Done waits seen h goes_on wants = absurd h
