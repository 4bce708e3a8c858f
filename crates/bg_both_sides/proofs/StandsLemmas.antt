-- What a response that is passed on stands for.
use Rattle.std.proofs.Common.{◌≡◌, ◌∙◌, ℕ, Bool, true, false, cond, not, ◌&&◌, List, [], ◌∷◌, ◌++◌, length, take, refl, sym, ap, subst, append-nil, nat_le, OnOk, Option, Some, None}
use Rattle.std.specs.Prelude.{⊤}
use Rattle.std.proofs.Math.Seq.{take-append_seam}
use Rattle.bg_http.specs.Elements.{Field}
use Rattle.bg_http.specs.declared.request.Request.{Request}
use Rattle.bg_client_side.specs.Clients.{Client, passed_at, stays_after}
use Rattle.bg_client_side.specs.Stages.{is_passing_on, waiting_request}
use Rattle.bg_client_side.specs.declared.facts.ClientSettings.{ClientSettings}
use Rattle.bg_streams.specs.ResponseRelays.{passing_of, rest_of}
use Rattle.bg_streams.specs.ResponseStreams.{StandsFor, is_begun, relay_of}
use Rattle.bg_endpoint_side.specs.Dialing.{Dialing, Forwarded, may_go_elsewhere}
use Rattle.bg_endpoint_side.specs.Forwarding.{again, late_health, looked, may_repeat, unread, with_end, wrote}
use Rattle.bg_endpoint_side.specs.Outcomes.{health_of, of_giving_up, refused}
use Rattle.bg_endpoint_side.specs.StreamedSteps.{EndsIf, EndsUnread, TakesStreamed, broken, broken_by}
use Rattle.bg_endpoint_side.specs.Streaming.{Streamed, is_late}
use Rattle.bg_endpoint_side.specs.declared.forwarded_request.Step.{Step}
use Rattle.bg_endpoint_side.specs.declared.forwarded_request.Step.TheVariants as step
use Rattle.bg_endpoint_side.specs.declared.outcome.DialFault.TheVariants as dial
use Rattle.bg_endpoint_side.specs.declared.outcome.ForwardFault.TheVariants as fault
use Rattle.bg_endpoint_side.specs.declared.outcome.Health.TheVariants as health
use Rattle.bg_endpoint_side.specs.declared.streamed_step.StreamedStep.{StreamedStep}
use Rattle.bg_endpoint_side.specs.declared.streamed_step.StreamedStep.TheVariants as streamed
use Rattle.bg_both_sides.proofs.RunLemmas.{StayLaw, runs_step}
use Rattle.bg_both_sides.proofs.StreamedLemmas.{OnStep, becomes_ok, broken_on}
use Rattle.bg_both_sides.proofs.StreamedRuns.{follows_end}
use Rattle.bg_both_sides.proofs.UpgradeLemmas.{after_upgrade}
use Rattle.bg_both_sides.specs.ClientEvents.{entered_as}
use Rattle.bg_both_sides.specs.Answers.{Reply}
use Rattle.bg_both_sides.specs.EndpointEvents.{Dials, DialsElsewhere, Follows, LooksDialing, RefusesEntered, begins, dial_failed, dialing_elsewhere, dialing_for, on_forwarded, takes_connection, with_fields}
use Rattle.bg_both_sides.specs.Laws.{PassesOnItsResponse, begun}
use Rattle.bg_both_sides.specs.Runs.{EndpointEvent, SidesCall, SidesCalls, SidesRun, Happens, StepsBy, breaks, came_by, came_in, client_takes, comes, connects, connects_streamed, dial_fails, dials, endpoint_gives, endpoint_is_ending, endpoint_reads_no_more, endpoint_writes, ends, enters, given_up, notes, passed_by, passed_in, passes, reads, refuses, streams, replaces_fields, accepts_upgrade}
use Rattle.bg_both_sides.specs.Sides.{IsSound, Sides, is_streaming, to_client}
use Rattle.bg_both_sides.specs.StreamedEvents.{AtStreamed, ClientTakes, ClientTakesOf, ConnectsStreamed, Telling}
use Rattle.bg_both_sides.specs.declared.endpoint_side.EndpointSide.{EndpointSide}
use Rattle.bg_both_sides.specs.declared.endpoint_side.EndpointSide.TheVariants as side
use Rattle.bg_both_sides.specs.declared.endpoint_step.EndpointStep.{EndpointStep}
use Rattle.bg_both_sides.specs.declared.route.Route.{Route}
use Rattle.bg_both_sides.specs.declared.stream_limits.StreamLimits.{StreamLimits}

-- a response that is passed on stands for these bytes that came, and for these that the client took
abbrev pub Stands : EndpointSide → List ℕ → List ℕ → Type 0
Stands side.NoRequest came passed = ⊤
Stands (side.Entered request) came passed = ⊤
Stands (side.Dialing request d) came passed = ⊤
Stands (side.Forwarding request f) came passed = ⊤
Stands (side.Streaming request s) came passed = StandsFor s.stream request came passed

moved : (old new : EndpointSide) (came passed : List ℕ) → new ≡ old → Stands old came passed → Stands new came passed
moved old new came passed is stands = subst (λ e. Stands e came passed) (sym is) stands

-- the next step stands for these
abbrev pub StandsNext : Request → List ℕ → List ℕ → StreamedStep → Type 0
StandsNext request came passed next = OnStep (λ (t : Streamed). StandsFor t.stream request came passed) (λ (d : Dialing). ⊤) next

stands_by : (event : EndpointEvent) (s : Streamed) (request : Request) (now : ℕ) (told : EndpointStep) (telling : Telling)
    (next : StreamedStep) (came passed : List ℕ) → StandsFor s.stream request came passed → StepsBy event now s next
    → StandsNext request (came_by came (streams event now told telling)) passed next
stands_by (comes bytes) s request now told telling next came passed stands is =
    becomes_ok (λ (t : Streamed). StandsFor t.stream request (came ++ bytes) passed) (λ (d : Dialing). ⊤) is.after is.result next is.becomes
    (subst (λ l. OnOk is.result (StandsFor is.after.stream request (came ++ bytes) l)) (append-nil passed)
    (is.stream_is.stands request came passed stands))
stands_by ends s request now told telling next came passed stands is = go (may_repeat s.forwarded) is.0 where
  unread : (b : Bool) → EndsUnread b s next → StandsNext request came passed next
  unread true is =
      subst (StandsNext request came passed) (sym is)
      (broken_on (λ (t : Streamed). StandsFor t.stream request came passed) (λ (d : Dialing). ⊤) (is_begun s.stream) fault.ConnectFailed (health_of s.forwarded.came))
  unread false is =
      becomes_ok (λ (t : Streamed). StandsFor t.stream request came passed) (λ (d : Dialing). ⊤) is.after is.result next is.becomes
      (is.stream_is.stands request came passed stands)

  go : (b : Bool) → EndsIf b s now next → StandsNext request came passed next
  go true is = subst (StandsNext request came passed) (sym is) tt
  go false is = unread s.forwarded.state.is_unread is
stands_by breaks s request now told telling next came passed stands is =
    subst (StandsNext request came passed) (sym is.0) (go (may_repeat s.forwarded)) where
      go : (b : Bool) → StandsNext request came passed (cond b (streamed.Again (again s.forwarded now)) (broken_by s fault.ConnectFailed))
      go true = tt
      go false =
          broken_on (λ (t : Streamed). StandsFor t.stream request came passed) (λ (d : Dialing). ⊤) (is_begun s.stream)
          fault.ConnectFailed (health_of s.forwarded.came)
stands_by (dial_fails why) s request now told telling next came passed stands is = absurd is
stands_by passes s request now told telling next came passed stands is =
    subst (StandsNext request came passed) (sym is) (go (is_late s now)) where
      go : (b : Bool) → StandsNext request came passed
          (cond b (broken (is_begun s.stream) fault.ResponseTimeout (late_health s.forwarded now)) (streamed.GoesOn s))
      go true =
          broken_on (λ (t : Streamed). StandsFor t.stream request came passed) (λ (d : Dialing). ⊤) (is_begun s.stream)
          fault.ResponseTimeout (late_health s.forwarded now)
      go false = stands
stands_by (given_up why) s request now told telling next came passed stands is =
    subst (StandsNext request came passed) (sym is)
    (broken_on (λ (t : Streamed). StandsFor t.stream request came passed) (λ (d : Dialing). ⊤) (is_begun s.stream) (of_giving_up why)
    (health_of s.forwarded.came))

takes_by : (s : Streamed) (request : Request) (bytes rest : List ℕ) (now : ℕ) (next : StreamedStep) (came passed : List ℕ)
    → rest_of (passing_of (relay_of s.stream)) ≡ bytes ++ rest → StandsFor s.stream request came passed
    → TakesStreamed s (length bytes) now next → StandsNext request came (passed ++ bytes) next
takes_by s request bytes rest now next came passed first stands is =
    becomes_ok (λ (t : Streamed). StandsFor t.stream request came (passed ++ bytes)) (λ (d : Dialing). ⊤) is.after is.result next is.becomes
    (subst (λ l. OnOk is.result (StandsFor is.after.stream request l (passed ++ bytes))) (append-nil came)
    (subst (λ l. OnOk is.result (StandsFor is.after.stream request (came ++ []) (passed ++ l))) taken
    (is.stream_is.stands request came passed stands))) where
      taken : take (length bytes) (rest_of (passing_of (relay_of s.stream))) ≡ bytes
      taken = ap (take (length bytes)) first ∙ take-append_seam bytes rest

streams_stands : (event : EndpointEvent) (e : EndpointSide) (now : ℕ) (client : Client) (told : EndpointStep) (telling : Telling)
    (new : Sides) (came passed : List ℕ) → Stands e came passed → AtStreamed (StepsBy event now) e now client told telling new
    → Stands new.endpoint (came_by came (streams event now told telling)) passed
streams_stands event side.NoRequest now client told telling new came passed stands is = absurd is
streams_stands event (side.Entered request) now client told telling new came passed stands is = absurd is
streams_stands event (side.Dialing request d) now client told telling new came passed stands is = absurd is
streams_stands event (side.Forwarding request f) now client told telling new came passed stands is = absurd is
streams_stands event (side.Streaming request s) now client told telling new came passed stands is =
    follows_end (λ e. Stands e (came_by came (streams event now told telling)) passed) request is.0 now client told telling new
    (stands_by event s request now told telling is.0 came passed stands is.1) tt is.2

still : (client : Client) (endpoint : EndpointSide) (new : Sides) (came passed : List ℕ) → Stands endpoint came passed
    → new ≡ record { client = client; endpoint = endpoint } → Stands new.endpoint came passed
still client endpoint new came passed stands is =
    moved endpoint new.endpoint came passed (ap (λ (n : Sides). n.endpoint) is) stands

takes_stands : (e : EndpointSide) (passing : Bool) (bytes rest : List ℕ) (now : ℕ) (client : Client) (told : EndpointStep)
    (telling : Telling) (new : Sides) (came passed : List ℕ) → passing ≡ (is_streaming e && is_passing_on client.stage)
    → to_client e ≡ bytes ++ rest → Stands e came passed → ClientTakes e (length bytes) now client told telling new
    → Stands new.endpoint came (passed_by passed (client_takes passing bytes now told telling))
takes_stands side.NoRequest passing bytes rest now client told telling new came passed here first stands is =
    moved side.NoRequest new.endpoint came _ (ap (λ (n : Sides). n.endpoint) is.2) tt
takes_stands (side.Entered request) passing bytes rest now client told telling new came passed here first stands is =
    moved (side.Entered request) new.endpoint came _ (ap (λ (n : Sides). n.endpoint) is.2) tt
takes_stands (side.Dialing request d) passing bytes rest now client told telling new came passed here first stands is =
    moved (side.Dialing request d) new.endpoint came _ (ap (λ (n : Sides). n.endpoint) is.2) tt
takes_stands (side.Forwarding request f) passing bytes rest now client told telling new came passed here first stands is =
    moved (side.Forwarding request f) new.endpoint came _ (ap (λ (n : Sides). n.endpoint) is.2) tt
takes_stands (side.Streaming request s) passing bytes rest now client told telling new came passed here first stands is =
    subst (λ b. Stands new.endpoint came (passed_by passed (client_takes b bytes now told telling))) (sym here)
    (go (is_passing_on client.stage) is) where
      go : (b : Bool) → ClientTakesOf b request s (length bytes) now client told telling new
          → Stands new.endpoint came (passed_by passed (client_takes b bytes now told telling))
      go false is = still client (side.Streaming request s) new came passed stands is.2
      go true is =
          follows_end (λ e. Stands e came (passed ++ bytes)) request is.0 now (passed_at client.stage (length bytes) true now client) told
          telling new (takes_by s request bytes rest now is.0 came passed first stands is.1) tt is.2

-- a connection begins with a response of which nothing came
connects_stands : (e : EndpointSide) (is_kept : Bool) (limits : StreamLimits) (now : ℕ) (goes_on taken : Bool) (client : Client)
    (new : EndpointSide) (came passed : List ℕ) → IsSound client e → Stands e came passed
    → ConnectsStreamed is_kept limits now goes_on taken e new
    → Stands new (came_by came (connects_streamed is_kept limits now taken)) (passed_by passed (connects_streamed is_kept limits now taken))
connects_stands side.NoRequest is_kept limits now goes_on true client new came passed sound stands is = absurd is
connects_stands (side.Entered request) is_kept limits now goes_on true client new came passed sound stands is = absurd is
connects_stands (side.Dialing request d) is_kept limits now goes_on true client new came passed sound stands is =
    moved (side.Streaming request is.2.0) new [] [] is.2.2
    (subst (λ r. StandsFor is.2.0.stream r [] []) sound.1.read_is is.2.1.1.stands)
connects_stands (side.Forwarding request f) is_kept limits now goes_on true client new came passed sound stands is = absurd is
connects_stands (side.Streaming request s) is_kept limits now goes_on true client new came passed sound stands is = absurd is
connects_stands e is_kept limits now goes_on false client new came passed sound stands is = moved e new came passed is stands

-- THE OTHER CALLS: no response that is passed on begins or changes by them

-- no response is passed on at this side
abbrev IsPlain : EndpointSide → Type 0
IsPlain side.NoRequest = ⊤
IsPlain (side.Entered request) = ⊤
IsPlain (side.Dialing request d) = ⊤
IsPlain (side.Forwarding request f) = ⊤
IsPlain (side.Streaming request s) = ⊥

plain_stands : (e : EndpointSide) (came passed : List ℕ) → IsPlain e → Stands e came passed
plain_stands side.NoRequest came passed plain = tt
plain_stands (side.Entered request) came passed plain = tt
plain_stands (side.Dialing request d) came passed plain = tt
plain_stands (side.Forwarding request f) came passed plain = tt
plain_stands (side.Streaming request s) came passed plain = absurd plain

-- what an event without a response that is passed on makes of the endpoint's side: no response is passed on there, or all is as before,
-- or the request alone changed
data Kept (old new : EndpointSide) : Type 0 where
  plain : IsPlain new → Kept old new
  same : new ≡ old → Kept old new
  changed : (change : Forwarded → Forwarded) → new ≡ on_forwarded change old → Kept old new

changed_stands : (change : Forwarded → Forwarded) (e : EndpointSide) (came passed : List ℕ) → Stands e came passed
    → Stands (on_forwarded change e) came passed
changed_stands change side.NoRequest came passed stands = tt
changed_stands change (side.Entered request) came passed stands = tt
changed_stands change (side.Dialing request d) came passed stands = tt
changed_stands change (side.Forwarding request f) came passed stands = tt
changed_stands change (side.Streaming request s) came passed stands = stands

kept_stands : (old new : EndpointSide) (came passed : List ℕ) → Kept old new → Stands old came passed → Stands new came passed
kept_stands old new came passed (plain none) stands = plain_stands new came passed none
kept_stands old new came passed (same is) stands = moved old new came passed is stands
kept_stands old new came passed (changed change is) stands =
    moved (on_forwarded change old) new came passed is (changed_stands change old came passed stands)

plain_at : (old new e : EndpointSide) → new ≡ e → IsPlain e → Kept old new
plain_at old new e is none = plain (subst IsPlain (sym is) none)

at_end : (client : Client) (e : EndpointSide) (new : Sides) → new ≡ record { client = client; endpoint = e } → Kept e new.endpoint
at_end client e new is = same (ap (λ (n : Sides). n.endpoint) is)

follows_kept : (old : EndpointSide) (request : Request) (next : Step) (now : ℕ) (client : Client) (told : EndpointStep)
    (reply : Option Reply) (new : Sides) → Follows request next now client told reply new → Kept old new.endpoint
follows_kept old request (step.GoesOn f) now client told reply new is =
    plain_at old new.endpoint (side.Forwarding request f) (ap (λ (n : Sides). n.endpoint) is.2) tt
follows_kept old request (step.Again d) now client told reply new is =
    plain_at old new.endpoint (side.Dialing request d) (ap (λ (n : Sides). n.endpoint) is.2) tt
follows_kept old request (step.Over outcome) now client told reply new is = plain_at old new.endpoint side.NoRequest is.1 tt

happens_kept : (event : EndpointEvent) (old : Sides) (e : EndpointSide) (now : ℕ) (told : EndpointStep) (reply : Option Reply)
    (new : Sides) → Happens event (record old { endpoint = e }) now told reply new → Kept e new.endpoint
happens_kept (comes bytes) old side.NoRequest now told reply new is = at_end old.client side.NoRequest new is.2
happens_kept (comes bytes) old (side.Entered request) now told reply new is = at_end old.client (side.Entered request) new is.2
happens_kept (comes bytes) old (side.Dialing request d) now told reply new is = at_end old.client (side.Dialing request d) new is.2
happens_kept (comes bytes) old (side.Forwarding request f) now told reply new is =
    follows_kept (side.Forwarding request f) request is.0 now old.client told reply new is.2
happens_kept (comes bytes) old (side.Streaming request s) now told reply new is = absurd is
happens_kept ends old side.NoRequest now told reply new is = at_end old.client side.NoRequest new is.2
happens_kept ends old (side.Entered request) now told reply new is = at_end old.client (side.Entered request) new is.2
happens_kept ends old (side.Dialing request d) now told reply new is = at_end old.client (side.Dialing request d) new is.2
happens_kept ends old (side.Forwarding request f) now told reply new is =
    follows_kept (side.Forwarding request f) request is.0 now old.client told reply new is.2
happens_kept ends old (side.Streaming request s) now told reply new is = absurd is
happens_kept breaks old side.NoRequest now told reply new is = at_end old.client side.NoRequest new is.2
happens_kept breaks old (side.Entered request) now told reply new is = at_end old.client (side.Entered request) new is.2
happens_kept breaks old (side.Dialing request d) now told reply new is = at_end old.client (side.Dialing request d) new is.2
happens_kept breaks old (side.Forwarding request f) now told reply new is =
    follows_kept (side.Forwarding request f) request is.0 now old.client told reply new is.2
happens_kept breaks old (side.Streaming request s) now told reply new is = absurd is
happens_kept (dial_fails why) old side.NoRequest now told reply new is = at_end old.client side.NoRequest new is.2
happens_kept (dial_fails why) old (side.Entered request) now told reply new is = at_end old.client (side.Entered request) new is.2
happens_kept (dial_fails why) old (side.Dialing request d) now told reply new is =
    follows_kept (side.Dialing request d) request (step.Over (dial_failed why)) now old.client told reply new is
happens_kept (dial_fails why) old (side.Forwarding request f) now told reply new is = at_end old.client (side.Forwarding request f) new is.2
happens_kept (dial_fails why) old (side.Streaming request s) now told reply new is = at_end old.client (side.Streaming request s) new is.2
happens_kept passes old side.NoRequest now told reply new is = at_end old.client side.NoRequest new is.2
happens_kept passes old (side.Entered request) now told reply new is = at_end old.client (side.Entered request) new is.2
happens_kept passes old (side.Dialing request d) now told reply new is = go (nat_le d.deadlines.until now) is where
  go : (b : Bool) → LooksDialing b request d now old.client told reply new → Kept (side.Dialing request d) new.endpoint
  go true is =
      follows_kept (side.Dialing request d) request (step.Over (dial_failed dial.TimedOut)) now old.client told reply new is
  go false is = at_end old.client (side.Dialing request d) new is.2
happens_kept passes old (side.Forwarding request f) now told reply new is =
    follows_kept (side.Forwarding request f) request (looked f now) now old.client told reply new is
happens_kept passes old (side.Streaming request s) now told reply new is = absurd is
happens_kept (given_up why) old side.NoRequest now told reply new is = at_end old.client side.NoRequest new is.2
happens_kept (given_up why) old (side.Entered request) now told reply new is = at_end old.client (side.Entered request) new is.2
happens_kept (given_up why) old (side.Dialing request d) now told reply new is =
    follows_kept (side.Dialing request d) request (step.Over (refused (of_giving_up why) health.Unknown)) now old.client told reply
    new is
happens_kept (given_up why) old (side.Forwarding request f) now told reply new is =
    follows_kept (side.Forwarding request f) request (step.Over (refused (of_giving_up why) (health_of f.came))) now old.client told
    reply new is
happens_kept (given_up why) old (side.Streaming request s) now told reply new is = absurd is

entered_kept : (request : Option Request) (sides : Sides) → Kept sides.endpoint (entered_as request sides).endpoint
entered_kept None sides = same refl
entered_kept (Some request) sides = plain tt

refuses_kept : (endpoint : EndpointSide) (now : ℕ) (client : Client) (told : Bool) (reply : Option Reply) (new : Sides)
    → RefusesEntered endpoint now client told reply new → Kept endpoint new.endpoint
refuses_kept side.NoRequest now client told reply new is = at_end client side.NoRequest new is.2
refuses_kept (side.Entered request) now client told None new is = absurd is
refuses_kept (side.Entered request) now client told (Some reply) new is =
    plain_at (side.Entered request) new.endpoint side.NoRequest (ap (λ (n : Sides). n.endpoint) is.3) tt
refuses_kept (side.Dialing request d) now client told reply new is = at_end client (side.Dialing request d) new is.2
refuses_kept (side.Forwarding request f) now client told reply new is = at_end client (side.Forwarding request f) new is.2
refuses_kept (side.Streaming request s) now client told reply new is = at_end client (side.Streaming request s) new is.2

elsewhere_kept : (may does : Bool) (request : Request) (d : Dialing) (route : Route) (now : ℕ) (new : EndpointSide)
    → DialsElsewhere may does request d route now new → Kept (side.Dialing request d) new
elsewhere_kept true true request d route now new is =
    plain_at (side.Dialing request d) new (side.Dialing request (dialing_elsewhere request d route now)) is tt
elsewhere_kept true false request d route now new is = same is
elsewhere_kept false does request d route now new is = same is.1

dials_kept : (endpoint : EndpointSide) (route : Route) (now : ℕ) (does : Bool) (new : EndpointSide)
    → Dials endpoint route now does new → Kept endpoint new
dials_kept side.NoRequest route now does new is = same is.1
dials_kept (side.Entered request) route now true new is =
    plain_at (side.Entered request) new (side.Dialing request (dialing_for request route now)) is tt
dials_kept (side.Entered request) route now false new is = same is
dials_kept (side.Dialing request d) route now does new is = elsewhere_kept (may_go_elsewhere d now) does request d route now new is
dials_kept (side.Forwarding request f) route now does new is = same is.1
dials_kept (side.Streaming request s) route now does new is = same is.1

begins_kept : (endpoint : EndpointSide) (taken is_kept : Bool) (now : ℕ) → Kept endpoint (begins taken is_kept now endpoint)
begins_kept side.NoRequest true is_kept now = same refl
begins_kept (side.Entered request) true is_kept now = same refl
begins_kept (side.Dialing request d) true is_kept now = plain tt
begins_kept (side.Forwarding request f) true is_kept now = same refl
begins_kept (side.Streaming request s) true is_kept now = same refl
begins_kept endpoint false is_kept now = same refl

-- ALL CALLS

gives_stands : (event : EndpointEvent) (old : Sides) (e : EndpointSide) (now : ℕ) (told : EndpointStep) (reply : Option Reply)
    (new : Sides) (came passed : List ℕ) → Stands e came passed → Happens event (record old { endpoint = e }) now told reply new
    → Stands new.endpoint (came_by came (endpoint_gives event now told reply)) passed
gives_stands (comes bytes) old side.NoRequest now told reply new came passed stands is =
    kept_stands side.NoRequest new.endpoint (came ++ bytes) passed (happens_kept (comes bytes) old side.NoRequest now told reply new is) tt
gives_stands (comes bytes) old (side.Entered request) now told reply new came passed stands is =
    kept_stands (side.Entered request) new.endpoint (came ++ bytes) passed (happens_kept (comes bytes) old (side.Entered request) now told reply new is) tt
gives_stands (comes bytes) old (side.Dialing request d) now told reply new came passed stands is =
    kept_stands (side.Dialing request d) new.endpoint (came ++ bytes) passed (happens_kept (comes bytes) old (side.Dialing request d) now told reply new is) tt
gives_stands (comes bytes) old (side.Forwarding request f) now told reply new came passed stands is =
    kept_stands (side.Forwarding request f) new.endpoint (came ++ bytes) passed (happens_kept (comes bytes) old (side.Forwarding request f) now told reply new is) tt
gives_stands (comes bytes) old (side.Streaming request s) now told reply new came passed stands is = absurd is
gives_stands ends old e now told reply new came passed stands is =
    kept_stands e new.endpoint came passed (happens_kept ends old e now told reply new is) stands
gives_stands breaks old e now told reply new came passed stands is =
    kept_stands e new.endpoint came passed (happens_kept breaks old e now told reply new is) stands
gives_stands (dial_fails why) old e now told reply new came passed stands is =
    kept_stands e new.endpoint came passed (happens_kept (dial_fails why) old e now told reply new is) stands
gives_stands passes old e now told reply new came passed stands is =
    kept_stands e new.endpoint came passed (happens_kept passes old e now told reply new is) stands
gives_stands (given_up why) old e now told reply new came passed stands is =
    kept_stands e new.endpoint came passed (happens_kept (given_up why) old e now told reply new is) stands

connects_plain : (e : EndpointSide) (is_kept : Bool) (now : ℕ) (taken : Bool) (came passed : List ℕ) → taken ≡ takes_connection is_kept e
    → Stands e came passed
    → Stands (begins (takes_connection is_kept e) is_kept now e) (came_by came (connects is_kept now taken)) passed
connects_plain side.NoRequest is_kept now taken came passed is stands = tt
connects_plain (side.Entered request) is_kept now taken came passed is stands = tt
connects_plain (side.Dialing request d) is_kept now taken came passed is stands = go (not (is_kept && d.is_again)) where
  go : (b : Bool) → Stands (begins b is_kept now (side.Dialing request d)) (came_by came (connects is_kept now taken)) passed
  go true = tt
  go false = tt
connects_plain (side.Forwarding request f) is_kept now taken came passed is stands = tt
connects_plain (side.Streaming request s) is_kept now taken came passed is stands =
    subst (λ b. Stands (side.Streaming request s) (came_by came (connects is_kept now b)) passed) (sym is) stands

fields_stand : (endpoint : EndpointSide) (fields : List Field) (came passed : List ℕ) → Stands endpoint came passed
    → Stands (with_fields fields endpoint) came passed
fields_stand side.NoRequest fields came passed stands = stands
fields_stand (side.Entered request) fields came passed stands = stands
fields_stand (side.Dialing request d) fields came passed stands = stands
fields_stand (side.Forwarding request f) fields came passed stands = stands
fields_stand (side.Streaming request s) fields came passed stands = stands

stands_step : StayLaw → (old : Sides) (call : SidesCall) (new : Sides) (came passed : List ℕ) → IsSound old.client old.endpoint
    → Stands old.endpoint came passed → SidesCalls old call new → Stands new.endpoint (came_by came call) (passed_by passed call)
stands_step law old (reads call result now answer) new came passed sound stands is =
    moved old.endpoint new.endpoint came passed is.2 stands
stands_step law old (notes call) new came passed sound stands is = moved old.endpoint new.endpoint came passed is.2 stands
stands_step law old (enters request) new came passed sound stands is =
    moved (entered_as (waiting_request old.client.stage) old).endpoint new.endpoint came passed (ap (λ (n : Sides). n.endpoint) is.1)
    (kept_stands old.endpoint (entered_as (waiting_request old.client.stage) old).endpoint came passed
    (entered_kept (waiting_request old.client.stage) old) stands)
stands_step law old (refuses now told reply) new came passed sound stands is =
    kept_stands old.endpoint new.endpoint came passed (refuses_kept old.endpoint now old.client told reply new is) stands
stands_step law old (replaces_fields fields) new came passed sound stands is =
    moved (with_fields fields old.endpoint) new.endpoint came passed is.1 (fields_stand old.endpoint fields came passed stands)
stands_step law old (dials route now does) new came passed sound stands is =
    kept_stands old.endpoint new.endpoint came passed (dials_kept old.endpoint route now does new.endpoint is.1) stands
stands_step law old (connects is_kept now taken) new came passed sound stands is =
    moved (begins (takes_connection is_kept old.endpoint) is_kept now old.endpoint) new.endpoint
    (came_by came (connects is_kept now taken)) passed (ap (λ (n : Sides). n.endpoint) is.1)
    (connects_plain old.endpoint is_kept now taken came passed is.0 stands)
stands_step law old (endpoint_writes bytes now) new came passed sound stands is =
    kept_stands old.endpoint new.endpoint came passed (changed (λ f. wrote f (length bytes) now) is.2) stands
stands_step law old (endpoint_reads_no_more now) new came passed sound stands is =
    kept_stands old.endpoint new.endpoint came passed (changed (λ f. unread f now) is.1) stands
stands_step law old endpoint_is_ending new came passed sound stands is =
    kept_stands old.endpoint new.endpoint came passed (changed with_end is.1) stands
stands_step law old (endpoint_gives event now told reply) new came passed sound stands is =
    gives_stands event old old.endpoint now told reply new came passed stands is
stands_step law old (connects_streamed is_kept limits now taken) new came passed sound stands is =
    connects_stands old.endpoint is_kept limits now (stays_after old.client) taken old.client new.endpoint came passed sound stands is.1
stands_step law old (streams event now told telling) new came passed sound stands is =
    streams_stands event old.endpoint now old.client told telling new came passed stands is
stands_step law old (client_takes passing bytes now told telling) new came passed sound stands is =
    takes_stands old.endpoint passing bytes is.1.0 now old.client told telling new came passed is.0 is.1.1 stands is.2
stands_step law old (accepts_upgrade bytes now weight upgraded) new came passed sound stands is =
    after_upgrade (λ e. Stands e came passed) old bytes now weight upgraded new stands tt is

pub stands_run : StayLaw → (calls : List SidesCall) (old new : Sides) (came passed : List ℕ) → IsSound old.client old.endpoint
    → Stands old.endpoint came passed → SidesRun old calls new → Stands new.endpoint (came_in came calls) (passed_in passed calls)
stands_run law [] old new came passed sound stands is =
    moved old.endpoint new.endpoint came passed (sym (ap (λ (n : Sides). n.endpoint) is)) stands
stands_run law (call ∷ more) old new came passed sound stands is =
    stands_run law more is.0 new (came_by came call) (passed_by passed call) (runs_step law old call is.0 sound is.1).1
    (stands_step law old call is.0 came passed sound stands is.1) is.2

pub passes_on_its_response : StayLaw → (settings : ClientSettings) (now : ℕ) (calls : List SidesCall) (new : Sides) (request : Request)
    (s : Streamed) → PassesOnItsResponse settings now calls new request s
passes_on_its_response law settings now calls new request s runs at_is =
    subst (λ e. Stands e (came_in [] calls) (passed_in [] calls)) at_is (stands_run law calls (begun settings now) new [] [] refl tt runs)
