-- A request goes to another endpoint only if nothing of it was written to one.
use Rattle.std.proofs.Common.{◌≡◌, ◌∙◌, ℕ, Bool, true, false, not, ◌&&◌, List, [], ◌∷◌, ◌++◌, length, refl, sym, ap, subst, append-nil, nat_le, nat_lt, Option, Some, None}
use Rattle.std.specs.Prelude.{⊤}
use Rattle.bg_http.specs.Elements.{Field}
use Rattle.bg_http.specs.declared.request.Request.{Request}
use Rattle.bg_client_side.specs.Clients.{Client, passed_at, stays_after}
use Rattle.bg_client_side.specs.Stages.{is_passing_on, waiting_request}
use Rattle.bg_client_side.specs.declared.facts.ClientSettings.{ClientSettings}
use Rattle.bg_endpoint_side.specs.Dialing.{Dialing, Forwarded, may_go_elsewhere}
use Rattle.bg_endpoint_side.specs.Forwarding.{looked, unread, with_end, wrote}
use Rattle.bg_endpoint_side.specs.Outcomes.{health_of, of_giving_up, refused}
use Rattle.bg_endpoint_side.specs.Streaming.{Streamed}
use Rattle.bg_endpoint_side.specs.declared.forwarded_request.Step.{Step}
use Rattle.bg_endpoint_side.specs.declared.forwarded_request.Step.TheVariants as step
use Rattle.bg_endpoint_side.specs.declared.outcome.DialFault.TheVariants as dial
use Rattle.bg_endpoint_side.specs.declared.outcome.Health.TheVariants as health
use Rattle.bg_endpoint_side.specs.declared.outcome.Outcome.{Outcome}
use Rattle.bg_both_sides.proofs.RepeatLemmas.{looks_again, marked_ends, marked_fails, receives_again}
use Rattle.bg_both_sides.proofs.StreamedLemmas.{steps_on, takes_on}
use Rattle.bg_both_sides.proofs.StreamedRuns.{follows_end}
use Rattle.bg_both_sides.proofs.UpgradeLemmas.{after_upgrade}
use Rattle.bg_both_sides.specs.Answers.{Reply}
use Rattle.bg_both_sides.specs.ClientEvents.{entered_as}
use Rattle.bg_both_sides.specs.EndpointEvents.{Dials, DialsElsewhere, Follows, LooksDialing, RefusesEntered, begins, dial_failed, dialing_elsewhere, dialing_for, on_forwarded, takes_connection, with_fields}
use Rattle.bg_both_sides.specs.Laws.{GoesElsewhereUnsent, begun}
use Rattle.bg_both_sides.specs.Runs.{EndpointEvent, SidesCall, SidesCalls, SidesRun, Happens, StepsBy, breaks, client_takes, comes, connects, connects_streamed, dial_fails, dials, endpoint_gives, endpoint_is_ending, endpoint_reads_no_more, endpoint_writes, ends, enters, given_up, notes, passes, reads, refuses, streams, written_by, written_of, replaces_fields, accepts_upgrade}
use Rattle.bg_both_sides.specs.Sides.{Sides, to_endpoint}
use Rattle.bg_both_sides.specs.StreamedEvents.{AtStreamed, ClientTakes, ClientTakesOf, ConnectsStreamed, Telling}
use Rattle.bg_both_sides.specs.declared.stream_limits.StreamLimits.{StreamLimits}
use Rattle.bg_both_sides.specs.declared.endpoint_side.EndpointSide.{EndpointSide}
use Rattle.bg_both_sides.specs.declared.endpoint_side.EndpointSide.TheVariants as side
use Rattle.bg_both_sides.specs.declared.endpoint_step.EndpointStep.{EndpointStep}
use Rattle.bg_both_sides.specs.declared.route.Route.{Route}

-- this was written of the request: nothing, unless it is or was forwarded on a connection
abbrev Unsent : EndpointSide → List ℕ → Type 0
Unsent side.NoRequest written = ⊤
Unsent (side.Entered request) written = written ≡ []
Unsent (side.Dialing request d) written = d.is_again ≡ false → written ≡ []
Unsent (side.Forwarding request f) written = ⊤
Unsent (side.Streaming request s) written = ⊤

moved : (old new : EndpointSide) (written : List ℕ) → new ≡ old → Unsent old written → Unsent new written
moved old new written is unsent = subst (λ e. Unsent e written) (sym is) unsent

marked : (b : Bool) (written : List ℕ) → b ≡ true → b ≡ false → written ≡ []
marked b written is isnt = absurd (cc)

entered_unsent : (request : Option Request) (sides : Sides) (written : List ℕ) → Unsent sides.endpoint written
    → Unsent (entered_as request sides).endpoint (written_by written (enters request))
entered_unsent None sides written unsent = unsent
entered_unsent (Some request) sides written unsent = refl

refuses_unsent : (endpoint : EndpointSide) (now : ℕ) (client : Client) (told : Bool) (reply : Option Reply) (new : Sides)
    (written : List ℕ) → Unsent endpoint written → RefusesEntered endpoint now client told reply new
    → Unsent new.endpoint written
refuses_unsent side.NoRequest now client told reply new written unsent is =
    moved side.NoRequest new.endpoint written (ap (λ (n : Sides). n.endpoint) is.2) unsent
refuses_unsent (side.Entered request) now client told None new written unsent is = absurd is
refuses_unsent (side.Entered request) now client told (Some reply) new written unsent is =
    moved side.NoRequest new.endpoint written (ap (λ (n : Sides). n.endpoint) is.3) tt
refuses_unsent (side.Dialing request d) now client told reply new written unsent is =
    moved (side.Dialing request d) new.endpoint written (ap (λ (n : Sides). n.endpoint) is.2) unsent
refuses_unsent (side.Forwarding request f) now client told reply new written unsent is =
    moved (side.Forwarding request f) new.endpoint written (ap (λ (n : Sides). n.endpoint) is.2) unsent
refuses_unsent (side.Streaming request s) now client told reply new written unsent is =
    moved (side.Streaming request s) new.endpoint written (ap (λ (n : Sides). n.endpoint) is.2) unsent

elsewhere_unsent : (may does : Bool) (request : Request) (d : Dialing) (route : Route) (now : ℕ) (new : EndpointSide)
    (written : List ℕ) → Unsent (side.Dialing request d) written → DialsElsewhere may does request d route now new
    → Unsent new written
elsewhere_unsent true true request d route now new written unsent is =
    moved (side.Dialing request (dialing_elsewhere request d route now)) new written is unsent
elsewhere_unsent true false request d route now new written unsent is =
    moved (side.Dialing request d) new written is unsent
elsewhere_unsent false does request d route now new written unsent is =
    moved (side.Dialing request d) new written is.1 unsent

dials_unsent : (endpoint : EndpointSide) (route : Route) (now : ℕ) (does : Bool) (new : EndpointSide) (written : List ℕ)
    → Unsent endpoint written → Dials endpoint route now does new → Unsent new written
dials_unsent side.NoRequest route now does new written unsent is = moved side.NoRequest new written is.1 unsent
dials_unsent (side.Entered request) route now true new written unsent is =
    moved (side.Dialing request (dialing_for request route now)) new written is (λ first. unsent)
dials_unsent (side.Entered request) route now false new written unsent is =
    moved (side.Entered request) new written is unsent
dials_unsent (side.Dialing request d) route now does new written unsent is =
    elsewhere_unsent (may_go_elsewhere d now) does request d route now new written unsent is
dials_unsent (side.Forwarding request f) route now does new written unsent is =
    moved (side.Forwarding request f) new written is.1 unsent
dials_unsent (side.Streaming request s) route now does new written unsent is =
    moved (side.Streaming request s) new written is.1 unsent

begins_unsent : (endpoint : EndpointSide) (taken is_kept : Bool) (now : ℕ) (written : List ℕ) → Unsent endpoint written
    → Unsent (begins taken is_kept now endpoint) written
begins_unsent side.NoRequest true is_kept now written unsent = unsent
begins_unsent (side.Entered request) true is_kept now written unsent = unsent
begins_unsent (side.Dialing request d) true is_kept now written unsent = tt
begins_unsent (side.Forwarding request f) true is_kept now written unsent = unsent
begins_unsent (side.Streaming request s) true is_kept now written unsent = unsent
begins_unsent endpoint false is_kept now written unsent = unsent

-- without a connection nothing is to be written
none_written : (bytes rest before : List ℕ) → [] ≡ bytes ++ rest → before ++ bytes ≡ before
none_written [] rest before is = append-nil before
none_written (byte ∷ bytes) rest before is = absurd (cc)

wrote_unsent : (endpoint : EndpointSide) (bytes rest : List ℕ) (now : ℕ) (written : List ℕ)
    → to_endpoint endpoint ≡ bytes ++ rest → Unsent endpoint written
    → Unsent (on_forwarded (λ f. wrote f (length bytes) now) endpoint) (written ++ bytes)
wrote_unsent side.NoRequest bytes rest now written is unsent = tt
wrote_unsent (side.Entered request) bytes rest now written is unsent = none_written bytes rest written is ∙ unsent
wrote_unsent (side.Dialing request d) bytes rest now written is unsent =
    λ first. none_written bytes rest written is ∙ unsent first
wrote_unsent (side.Forwarding request f) bytes rest now written is unsent = tt
wrote_unsent (side.Streaming request s) bytes rest now written is unsent = tt

changed_unsent : (change : Forwarded → Forwarded) (endpoint : EndpointSide) (written : List ℕ) → Unsent endpoint written
    → Unsent (on_forwarded change endpoint) written
changed_unsent change side.NoRequest written unsent = unsent
changed_unsent change (side.Entered request) written unsent = unsent
changed_unsent change (side.Dialing request d) written unsent = unsent
changed_unsent change (side.Forwarding request f) written unsent = unsent
changed_unsent change (side.Streaming request s) written unsent = unsent

-- a step, after which a request that is sent again is marked
follows_unsent : (request : Request) (next : Step) (now : ℕ) (client : Client) (told : EndpointStep) (reply : Option Reply)
    (new : Sides) (written : List ℕ) → ((d : Dialing) → next ≡ step.Again d → d.is_again ≡ true)
    → Follows request next now client told reply new → Unsent new.endpoint written
follows_unsent request (step.GoesOn f) now client told reply new written again is =
    moved (side.Forwarding request f) new.endpoint written (ap (λ (n : Sides). n.endpoint) is.2) tt
follows_unsent request (step.Again d) now client told reply new written again is =
    moved (side.Dialing request d) new.endpoint written (ap (λ (n : Sides). n.endpoint) is.2)
    (marked d.is_again written (again d refl))
follows_unsent request (step.Over outcome) now client told reply new written again is =
    moved side.NoRequest new.endpoint written is.1 tt

over_unsent : (request : Request) (outcome : Outcome) (now : ℕ) (client : Client) (told : EndpointStep)
    (reply : Option Reply) (new : Sides) (written : List ℕ) → Follows request (step.Over outcome) now client told reply new
    → Unsent new.endpoint written
over_unsent request outcome now client told reply new written is = moved side.NoRequest new.endpoint written is.1 tt

still : (client : Client) (endpoint : EndpointSide) (new : Sides) (written : List ℕ) → Unsent endpoint written
    → new ≡ record { client = client; endpoint = endpoint } → Unsent new.endpoint written
still client endpoint new written unsent is =
    moved endpoint new.endpoint written (ap (λ (n : Sides). n.endpoint) is) unsent

-- an event at the endpoint
happens_unsent : (event : EndpointEvent) (old : Sides) (e : EndpointSide) (now : ℕ) (told : EndpointStep)
    (reply : Option Reply) (new : Sides) (written : List ℕ) → Unsent e written
    → Happens event (record old { endpoint = e }) now told reply new → Unsent new.endpoint written
happens_unsent (comes bytes) old side.NoRequest now told reply new written unsent is =
    still old.client side.NoRequest new written unsent is.2
happens_unsent (comes bytes) old (side.Entered request) now told reply new written unsent is =
    still old.client (side.Entered request) new written unsent is.2
happens_unsent (comes bytes) old (side.Dialing request d) now told reply new written unsent is =
    still old.client (side.Dialing request d) new written unsent is.2
happens_unsent (comes bytes) old (side.Forwarding request f) now told reply new written unsent is =
    follows_unsent request is.0 now old.client told reply new written
    (λ d same. (receives_again f bytes now is.0 is.1 d same).0) is.2
happens_unsent (comes bytes) old (side.Streaming request s) now told reply new written unsent is =
    absurd is
happens_unsent ends old side.NoRequest now told reply new written unsent is =
    still old.client side.NoRequest new written unsent is.2
happens_unsent ends old (side.Entered request) now told reply new written unsent is =
    still old.client (side.Entered request) new written unsent is.2
happens_unsent ends old (side.Dialing request d) now told reply new written unsent is =
    still old.client (side.Dialing request d) new written unsent is.2
happens_unsent ends old (side.Forwarding request f) now told reply new written unsent is =
    follows_unsent request is.0 now old.client told reply new written (marked_ends f now is.0 is.1.0) is.2
happens_unsent ends old (side.Streaming request s) now told reply new written unsent is = absurd is
happens_unsent breaks old side.NoRequest now told reply new written unsent is =
    still old.client side.NoRequest new written unsent is.2
happens_unsent breaks old (side.Entered request) now told reply new written unsent is =
    still old.client (side.Entered request) new written unsent is.2
happens_unsent breaks old (side.Dialing request d) now told reply new written unsent is =
    still old.client (side.Dialing request d) new written unsent is.2
happens_unsent breaks old (side.Forwarding request f) now told reply new written unsent is =
    follows_unsent request is.0 now old.client told reply new written
    (λ d same. marked_fails f now d (sym is.1.0 ∙ same)) is.2
happens_unsent breaks old (side.Streaming request s) now told reply new written unsent is =
    absurd is
happens_unsent (dial_fails why) old side.NoRequest now told reply new written unsent is =
    still old.client side.NoRequest new written unsent is.2
happens_unsent (dial_fails why) old (side.Entered request) now told reply new written unsent is =
    still old.client (side.Entered request) new written unsent is.2
happens_unsent (dial_fails why) old (side.Dialing request d) now told reply new written unsent is =
    over_unsent request (dial_failed why) now old.client told reply new written is
happens_unsent (dial_fails why) old (side.Forwarding request f) now told reply new written unsent is =
    still old.client (side.Forwarding request f) new written unsent is.2
happens_unsent (dial_fails why) old (side.Streaming request s) now told reply new written unsent is =
    still old.client (side.Streaming request s) new written unsent is.2
happens_unsent passes old side.NoRequest now told reply new written unsent is =
    still old.client side.NoRequest new written unsent is.2
happens_unsent passes old (side.Entered request) now told reply new written unsent is =
    still old.client (side.Entered request) new written unsent is.2
happens_unsent passes old (side.Dialing request d) now told reply new written unsent is =
    go (nat_le d.deadlines.until now) is where
      go : (b : Bool) → LooksDialing b request d now old.client told reply new → Unsent new.endpoint written
      go true is = over_unsent request (dial_failed dial.TimedOut) now old.client told reply new written is
      go false is = still old.client (side.Dialing request d) new written unsent is.2
happens_unsent passes old (side.Forwarding request f) now told reply new written unsent is =
    follows_unsent request (looked f now) now old.client told reply new written
    (λ d same. (looks_again f now d same).0) is
happens_unsent passes old (side.Streaming request s) now told reply new written unsent is =
    absurd is
happens_unsent (given_up why) old side.NoRequest now told reply new written unsent is =
    still old.client side.NoRequest new written unsent is.2
happens_unsent (given_up why) old (side.Entered request) now told reply new written unsent is =
    still old.client (side.Entered request) new written unsent is.2
happens_unsent (given_up why) old (side.Dialing request d) now told reply new written unsent is =
    over_unsent request (refused (of_giving_up why) health.Unknown) now old.client told reply new written is
happens_unsent (given_up why) old (side.Forwarding request f) now told reply new written unsent is =
    over_unsent request (refused (of_giving_up why) (health_of f.came)) now old.client told reply new written is
happens_unsent (given_up why) old (side.Streaming request s) now told reply new written unsent is = absurd is

-- A RESPONSE THAT IS PASSED ON

streams_unsent : (event : EndpointEvent) (e : EndpointSide) (now : ℕ) (client : Client) (told : EndpointStep) (telling : Telling)
    (new : Sides) (written : List ℕ) → AtStreamed (StepsBy event now) e now client told telling new → Unsent new.endpoint written
streams_unsent event side.NoRequest now client told telling new written is = absurd is
streams_unsent event (side.Entered request) now client told telling new written is = absurd is
streams_unsent event (side.Dialing request d) now client told telling new written is = absurd is
streams_unsent event (side.Forwarding request f) now client told telling new written is = absurd is
streams_unsent event (side.Streaming request s) now client told telling new written is =
    follows_end (λ e. Unsent e written) request is.0 now client told telling new
    (steps_on (λ (t : Streamed). ⊤) (λ (d : Dialing). d.is_again ≡ false → written ≡ []) event s now is.0 is.1 (λ t same. tt)
    (λ may once. marked true written refl)) tt is.2

takes_unsent : (e : EndpointSide) (count now : ℕ) (client : Client) (told : EndpointStep) (telling : Telling) (new : Sides)
    (written : List ℕ) → Unsent e written → ClientTakes e count now client told telling new → Unsent new.endpoint written
takes_unsent side.NoRequest count now client told telling new written unsent is =
    still client side.NoRequest new written unsent is.2
takes_unsent (side.Entered request) count now client told telling new written unsent is =
    still client (side.Entered request) new written unsent is.2
takes_unsent (side.Dialing request d) count now client told telling new written unsent is =
    still client (side.Dialing request d) new written unsent is.2
takes_unsent (side.Forwarding request f) count now client told telling new written unsent is =
    still client (side.Forwarding request f) new written unsent is.2
takes_unsent (side.Streaming request s) count now client told telling new written unsent is =
    go (is_passing_on client.stage) is where
      go : (b : Bool) → ClientTakesOf b request s count now client told telling new → Unsent new.endpoint written
      go false is = still client (side.Streaming request s) new written unsent is.2
      go true is =
          follows_end (λ e. Unsent e written) request is.0 now (passed_at client.stage count true now client) told telling new
          (takes_on (λ (t : Streamed). ⊤) (λ (d : Dialing). d.is_again ≡ false → written ≡ []) s count now is.0 is.1
          (λ t happened same. tt)) tt is.2

connects_unsent : (e : EndpointSide) (is_kept : Bool) (limits : StreamLimits) (now : ℕ) (goes_on taken : Bool) (new : EndpointSide)
    (written : List ℕ) → Unsent e written → ConnectsStreamed is_kept limits now goes_on taken e new → Unsent new written
connects_unsent side.NoRequest is_kept limits now goes_on true new written unsent is = absurd is
connects_unsent (side.Entered request) is_kept limits now goes_on true new written unsent is = absurd is
connects_unsent (side.Dialing request d) is_kept limits now goes_on true new written unsent is =
    moved (side.Streaming request is.2.0) new written is.2.2 tt
connects_unsent (side.Forwarding request f) is_kept limits now goes_on true new written unsent is = absurd is
connects_unsent (side.Streaming request s) is_kept limits now goes_on true new written unsent is = absurd is
connects_unsent e is_kept limits now goes_on false new written unsent is = moved e new written is unsent

fields_unsent : (endpoint : EndpointSide) (fields : List Field) (written : List ℕ) → Unsent endpoint written
    → Unsent (with_fields fields endpoint) written
fields_unsent side.NoRequest fields written unsent = unsent
fields_unsent (side.Entered request) fields written unsent = unsent
fields_unsent (side.Dialing request d) fields written unsent = unsent
fields_unsent (side.Forwarding request f) fields written unsent = unsent
fields_unsent (side.Streaming request s) fields written unsent = unsent

unsent_step : (old : Sides) (call : SidesCall) (new : Sides) (written : List ℕ) → Unsent old.endpoint written
    → SidesCalls old call new → Unsent new.endpoint (written_by written call)
unsent_step old (reads call result now answer) new written unsent is =
    moved old.endpoint new.endpoint written is.2 unsent
unsent_step old (notes call) new written unsent is = moved old.endpoint new.endpoint written is.2 unsent
unsent_step old (enters request) new written unsent is =
    moved (entered_as (waiting_request old.client.stage) old).endpoint new.endpoint (written_by written (enters request))
    (ap (λ (n : Sides). n.endpoint) is.1)
    (subst (λ r. Unsent (entered_as (waiting_request old.client.stage) old).endpoint (written_by written (enters r)))
    (sym is.0) (entered_unsent (waiting_request old.client.stage) old written unsent))
unsent_step old (refuses now told reply) new written unsent is =
    refuses_unsent old.endpoint now old.client told reply new written unsent is
unsent_step old (replaces_fields fields) new written unsent is =
    moved (with_fields fields old.endpoint) new.endpoint written is.1 (fields_unsent old.endpoint fields written unsent)
unsent_step old (dials route now does) new written unsent is =
    dials_unsent old.endpoint route now does new.endpoint written unsent is.1
unsent_step old (connects is_kept now taken) new written unsent is =
    moved (begins (takes_connection is_kept old.endpoint) is_kept now old.endpoint) new.endpoint written
    (ap (λ (n : Sides). n.endpoint) is.1)
    (begins_unsent old.endpoint (takes_connection is_kept old.endpoint) is_kept now written unsent)
unsent_step old (endpoint_writes bytes now) new written unsent is =
    moved (on_forwarded (λ f. wrote f (length bytes) now) old.endpoint) new.endpoint (written ++ bytes) is.2
    (wrote_unsent old.endpoint bytes is.0.0 now written is.0.1 unsent)
unsent_step old (endpoint_reads_no_more now) new written unsent is =
    moved (on_forwarded (λ f. unread f now) old.endpoint) new.endpoint written is.1
    (changed_unsent (λ f. unread f now) old.endpoint written unsent)
unsent_step old endpoint_is_ending new written unsent is =
    moved (on_forwarded with_end old.endpoint) new.endpoint written is.1
    (changed_unsent with_end old.endpoint written unsent)
unsent_step old (endpoint_gives event now told reply) new written unsent is =
    happens_unsent event old old.endpoint now told reply new written unsent is
unsent_step old (connects_streamed is_kept limits now taken) new written unsent is =
    connects_unsent old.endpoint is_kept limits now (stays_after old.client) taken new.endpoint written unsent is.1
unsent_step old (streams event now told telling) new written unsent is =
    streams_unsent event old.endpoint now old.client told telling new written is
unsent_step old (client_takes passed bytes now told telling) new written unsent is =
    takes_unsent old.endpoint (length bytes) now old.client told telling new written unsent is.2
unsent_step old (accepts_upgrade bytes now weight upgraded) new written unsent is =
    after_upgrade (λ e. Unsent e written) old bytes now weight upgraded new unsent tt is

unsent_run : (calls : List SidesCall) (old new : Sides) (written : List ℕ) → Unsent old.endpoint written
    → SidesRun old calls new → Unsent new.endpoint (written_of written calls)
unsent_run [] old new written unsent is =
    moved old.endpoint new.endpoint written (sym (ap (λ (n : Sides). n.endpoint) is)) unsent
unsent_run (call ∷ more) old new written unsent is =
    unsent_run more is.0 new (written_by written call) (unsent_step old call is.0 written unsent is.1) is.2

-- a request that goes to another endpoint was sent on no connection
first_dial : (may : Bool) (request : Request) (d : Dialing) (route : Route) (now : ℕ) (new : EndpointSide)
    → DialsElsewhere may true request d route now new → may ≡ true
first_dial true request d route now new is = refl
first_dial false request d route now new is = absurd (cc)

not_marked : (b early : Bool) → (not b && early) ≡ true → b ≡ false
not_marked true early is = absurd (cc)
not_marked false early is = refl

pub goes_elsewhere_unsent : (settings : ClientSettings) (now : ℕ) (calls : List SidesCall) (old : Sides) (request : Request)
    (d : Dialing) (route : Route) (at : ℕ) (new : Sides) → GoesElsewhereUnsent settings now calls old request d route at new
goes_elsewhere_unsent settings now calls old request d route at new runs at_is is =
    let unsent =
    subst (λ e. Unsent e (written_of [] calls)) at_is (unsent_run calls (begun settings now) old [] tt runs) in
    let goes = subst (λ e. Dials e route at true new.endpoint) at_is is.1 in
    unsent (not_marked d.is_again (nat_lt at d.deadlines.last)
    (first_dial (may_go_elsewhere d at) request d route at new.endpoint goes))
