-- What was written to the connection of a request, what came on it, and how often the request is sent again.
use Rattle.std.proofs.Common.{◌≡◌, ◌∙◌, ℕ, Bool, true, false, cond, not, List, [], ◌∷◌, ◌++◌, length, take, refl, sym, ap, subst, nat_le, nat_lt, Option, Some, None}
use Rattle.std.specs.Prelude.{⊤}
use Rattle.std.proofs.Math.Seq.{take-append_seam}
use Rattle.bg_http.specs.Elements.{Field}
use Rattle.bg_http.specs.Codings.{is_empty}
use Rattle.bg_http.specs.declared.request.Request.{Request}
use Rattle.bg_client_side.specs.Clients.{Client, passed_at, stays_after}
use Rattle.bg_client_side.specs.Stages.{is_passing_on, waiting_request}
use Rattle.bg_endpoint_side.specs.Dialing.{Dialing, Forwarded, may_go_elsewhere}
use Rattle.bg_endpoint_side.specs.Forwarding.{Ends, Receives, again, failed, late_health, looked, may_repeat, renew_if, to_write, unread, with_bytes, with_end, wrote}
use Rattle.bg_endpoint_side.specs.Outcomes.{health_of, of_giving_up, refused}
use Rattle.bg_endpoint_side.specs.OutgoingTexts.{with_written}
use Rattle.bg_endpoint_side.specs.Streaming.{Streamed}
use Rattle.bg_endpoint_side.specs.declared.forwarded_request.Step.{Step}
use Rattle.bg_endpoint_side.specs.declared.forwarded_request.Step.TheVariants as step
use Rattle.bg_endpoint_side.specs.declared.outcome.DialFault.TheVariants as dial
use Rattle.bg_endpoint_side.specs.declared.outcome.ForwardFault.TheVariants as fault
use Rattle.bg_endpoint_side.specs.declared.outcome.Health.TheVariants as health
use Rattle.bg_endpoint_side.specs.declared.outcome.Outcome.{Outcome}
use Rattle.bg_both_sides.proofs.StreamedLemmas.{came_with, steps_on, takes_on}
use Rattle.bg_both_sides.proofs.StreamedRuns.{follows_end}
use Rattle.bg_both_sides.proofs.UpgradeLemmas.{after_upgrade}
use Rattle.bg_both_sides.specs.Answers.{Reply}
use Rattle.bg_both_sides.specs.ClientEvents.{entered_as}
use Rattle.bg_both_sides.specs.EndpointEvents.{Dials, DialsElsewhere, Follows, LooksDialing, RefusesEntered, begins, dial_failed, dialing_elsewhere, dialing_for, on_forwarded, takes_connection, with_fields}
use Rattle.bg_both_sides.specs.Runs.{EndpointEvent, SidesCall, SidesCalls, SidesRun, Happens, StepsBy, breaks, came_by, came_in, client_takes, comes, connects, connects_streamed, dial_fails, dials, endpoint_gives, endpoint_is_ending, endpoint_reads_no_more, endpoint_writes, ends, enters, given_up, notes, passes, reads, refuses, sent_by, sent_in, streams, replaces_fields, accepts_upgrade}
use Rattle.bg_both_sides.specs.Sides.{Sides, to_endpoint}
use Rattle.bg_both_sides.specs.StreamedEvents.{AtStreamed, ClientTakes, ClientTakesOf, ConnectsStreamed, Telling}
use Rattle.bg_both_sides.specs.declared.stream_limits.StreamLimits.{StreamLimits}
use Rattle.bg_both_sides.specs.declared.endpoint_side.EndpointSide.{EndpointSide}
use Rattle.bg_both_sides.specs.declared.endpoint_side.EndpointSide.TheVariants as side
use Rattle.bg_both_sides.specs.declared.endpoint_step.EndpointStep.{EndpointStep}
use Rattle.bg_both_sides.specs.declared.route.Route.{Route}

-- this was written to the connection of a request that is forwarded, and this came on it
abbrev pub Tracks : EndpointSide → List ℕ → List ℕ → Type 0
Tracks side.NoRequest sent came = ⊤
Tracks (side.Entered request) sent came = ⊤
Tracks (side.Dialing request dialing) sent came = ⊤
Tracks (side.Forwarding request f) sent came = (f.text.sent ≡ sent) × (f.came ≡ came)
Tracks (side.Streaming request s) sent came = (s.forwarded.text.sent ≡ sent) × (s.forwarded.came ≡ came)

moved : (old new : EndpointSide) (sent came : List ℕ) → new ≡ old → Tracks old sent came → Tracks new sent came
moved old new sent came is tracks = subst (λ e. Tracks e sent came) (sym is) tracks

entered_tracks : (request : Option Request) (sides : Sides) (sent came : List ℕ) → Tracks sides.endpoint sent came
    → Tracks (entered_as request sides).endpoint sent came
entered_tracks None sides sent came tracks = tracks
entered_tracks (Some request) sides sent came tracks = tt

refuses_tracks : (endpoint : EndpointSide) (now : ℕ) (client : Client) (told : Bool) (reply : Option Reply) (new : Sides)
    (sent came : List ℕ) → Tracks endpoint sent came → RefusesEntered endpoint now client told reply new
    → Tracks new.endpoint sent came
refuses_tracks side.NoRequest now client told reply new sent came tracks is =
    moved side.NoRequest new.endpoint sent came (ap (λ (n : Sides). n.endpoint) is.2) tracks
refuses_tracks (side.Entered request) now client told None new sent came tracks is = absurd is
refuses_tracks (side.Entered request) now client told (Some reply) new sent came tracks is =
    moved side.NoRequest new.endpoint sent came (ap (λ (n : Sides). n.endpoint) is.3) tt
refuses_tracks (side.Dialing request d) now client told reply new sent came tracks is =
    moved (side.Dialing request d) new.endpoint sent came (ap (λ (n : Sides). n.endpoint) is.2) tracks
refuses_tracks (side.Forwarding request f) now client told reply new sent came tracks is =
    moved (side.Forwarding request f) new.endpoint sent came (ap (λ (n : Sides). n.endpoint) is.2) tracks
refuses_tracks (side.Streaming request s) now client told reply new sent came tracks is =
    moved (side.Streaming request s) new.endpoint sent came (ap (λ (n : Sides). n.endpoint) is.2) tracks

elsewhere_tracks : (unsent does : Bool) (request : Request) (d : Dialing) (route : Route) (now : ℕ) (new : EndpointSide)
    (sent came : List ℕ) → DialsElsewhere unsent does request d route now new → Tracks new sent came
elsewhere_tracks true true request d route now new sent came is =
    moved (side.Dialing request (dialing_elsewhere request d route now)) new sent came is tt
elsewhere_tracks true false request d route now new sent came is = moved (side.Dialing request d) new sent came is tt
elsewhere_tracks false does request d route now new sent came is = moved (side.Dialing request d) new sent came is.1 tt

dials_tracks : (endpoint : EndpointSide) (route : Route) (now : ℕ) (does : Bool) (new : EndpointSide) (sent came : List ℕ)
    → Tracks endpoint sent came → Dials endpoint route now does new → Tracks new sent came
dials_tracks side.NoRequest route now does new sent came tracks is = moved side.NoRequest new sent came is.1 tracks
dials_tracks (side.Entered request) route now true new sent came tracks is = moved (side.Dialing request (dialing_for request route now)) new sent came is tt
dials_tracks (side.Entered request) route now false new sent came tracks is = moved (side.Entered request) new sent came is tt
dials_tracks (side.Dialing request d) route now does new sent came tracks is =
    elsewhere_tracks (may_go_elsewhere d now) does request d route now new sent came is
dials_tracks (side.Forwarding request f) route now does new sent came tracks is =
    moved (side.Forwarding request f) new sent came is.1 tracks
dials_tracks (side.Streaming request s) route now does new sent came tracks is =
    moved (side.Streaming request s) new sent came is.1 tracks

begins_tracks : (endpoint : EndpointSide) (is_kept : Bool) (now : ℕ) (taken : Bool) (sent came : List ℕ)
    → taken ≡ takes_connection is_kept endpoint → Tracks endpoint sent came
    → Tracks (begins (takes_connection is_kept endpoint) is_kept now endpoint) (sent_by sent (connects is_kept now taken))
    (came_by came (connects is_kept now taken))
begins_tracks side.NoRequest is_kept now true sent came is tracks = tt
begins_tracks side.NoRequest is_kept now false sent came is tracks = tt
begins_tracks (side.Entered request) is_kept now true sent came is tracks = tt
begins_tracks (side.Entered request) is_kept now false sent came is tracks = tt
begins_tracks (side.Dialing request d) is_kept now taken sent came is tracks =
    subst (λ b. Tracks (begins b is_kept now (side.Dialing request d)) (sent_by sent (connects is_kept now taken))
    (came_by came (connects is_kept now taken))) is (go taken) where
      go : (b : Bool) → Tracks (begins b is_kept now (side.Dialing request d)) (sent_by sent (connects is_kept now b))
          (came_by came (connects is_kept now b))
      go true = (refl, refl)
      go false = tt
begins_tracks (side.Forwarding request f) is_kept now true sent came is tracks = absurd (cc)
begins_tracks (side.Streaming request s) is_kept now true sent came is tracks = absurd (cc)
begins_tracks (side.Forwarding request f) is_kept now false sent came is tracks = tracks
begins_tracks (side.Streaming request s) is_kept now false sent came is tracks = tracks

-- the bytes that were written are the first ones that were to be written
written_first : (unread : Bool) (left bytes rest : List ℕ) → cond unread [] left ≡ bytes ++ rest
    → take (length bytes) left ≡ bytes
written_first false left bytes rest is = ap (take (length bytes)) is ∙ take-append_seam bytes rest
written_first true left [] rest is = refl
written_first true left (byte ∷ bytes) rest is = absurd (cc)

wrote_forwarded : (f : Forwarded) (bytes rest : List ℕ) (now : ℕ) (sent came : List ℕ) → to_write f ≡ bytes ++ rest
    → (f.text.sent ≡ sent) × (f.came ≡ came)
    → ((wrote f (length bytes) now).text.sent ≡ sent ++ bytes) × ((wrote f (length bytes) now).came ≡ came)
wrote_forwarded f bytes rest now sent came is tracks = go (nat_lt 0 (length bytes)) where
  first : f.text.sent ++ take (length bytes) f.text.rest ≡ sent ++ bytes
  first =
      ap (λ t. f.text.sent ++ t) (written_first f.state.is_unread f.text.rest bytes rest is)
      ∙ ap (λ t. t ++ bytes) tracks.0

  go : (b : Bool)
      → ((renew_if b (record f { text = with_written f.text (length bytes) }) now).text.sent ≡ sent ++ bytes)
      × ((renew_if b (record f { text = with_written f.text (length bytes) }) now).came ≡ came)
  go true = (first, tracks.1)
  go false = (first, tracks.1)

wrote_tracks : (endpoint : EndpointSide) (bytes rest : List ℕ) (now : ℕ) (sent came : List ℕ)
    → to_endpoint endpoint ≡ bytes ++ rest → Tracks endpoint sent came
    → Tracks (on_forwarded (λ f. wrote f (length bytes) now) endpoint) (sent ++ bytes) came
wrote_tracks side.NoRequest bytes rest now sent came is tracks = tt
wrote_tracks (side.Entered request) bytes rest now sent came is tracks = tt
wrote_tracks (side.Dialing request d) bytes rest now sent came is tracks = tt
wrote_tracks (side.Forwarding request f) bytes rest now sent came is tracks = wrote_forwarded f bytes rest now sent came is tracks
wrote_tracks (side.Streaming request s) bytes rest now sent came is tracks =
    wrote_forwarded s.forwarded bytes rest now sent came is tracks

came_tracks : (f : Forwarded) (bytes : List ℕ) (now : ℕ) (sent came : List ℕ) → (f.text.sent ≡ sent) × (f.came ≡ came)
    → ((with_bytes f bytes now).text.sent ≡ sent) × ((with_bytes f bytes now).came ≡ came ++ bytes)
came_tracks f bytes now sent came tracks = go (not (is_empty bytes)) where
  go : (b : Bool) → ((renew_if b (record f { came = f.came ++ bytes }) now).text.sent ≡ sent)
      × ((renew_if b (record f { came = f.came ++ bytes }) now).came ≡ came ++ bytes)
  go true = (tracks.0, ap (λ t. t ++ bytes) tracks.1)
  go false = (tracks.0, ap (λ t. t ++ bytes) tracks.1)

-- a step, after which a request that goes on was told of so
follows_tracks : (request : Request) (next : Step) (now : ℕ) (client : Client) (told : EndpointStep) (reply : Option Reply)
    (new : Sides) (sent came : List ℕ)
    → ((f : Forwarded) → next ≡ step.GoesOn f → (f.text.sent ≡ sent) × (f.came ≡ came))
    → Follows request next now client told reply new → Tracks new.endpoint sent came
follows_tracks request (step.GoesOn f) now client told reply new sent came stays is =
    moved (side.Forwarding request f) new.endpoint sent came (ap (λ (n : Sides). n.endpoint) is.2) (stays f refl)
follows_tracks request (step.Again d) now client told reply new sent came stays is =
    moved (side.Dialing request d) new.endpoint sent came (ap (λ (n : Sides). n.endpoint) is.2) tt
follows_tracks request (step.Over outcome) now client told reply new sent came stays is =
    moved side.NoRequest new.endpoint sent came is.1 tt

receives_tracks : (f : Forwarded) (bytes : List ℕ) (now : ℕ) (next : Step) (sent came : List ℕ)
    → (f.text.sent ≡ sent) × (f.came ≡ came) → Receives f bytes now next → (g : Forwarded) → next ≡ step.GoesOn g
    → (g.text.sent ≡ sent) × (g.came ≡ came ++ bytes)
receives_tracks f bytes now (step.GoesOn next) sent came tracks is g same =
    subst (λ (h : Forwarded). (h.text.sent ≡ sent) × (h.came ≡ came ++ bytes)) (sym is.0 ∙ of same)
    (came_tracks f bytes now sent came tracks) where
      of : step.GoesOn next ≡ step.GoesOn g → next ≡ g
      of same = cc
receives_tracks f bytes now (step.Again next) sent came tracks is g same = absurd is
receives_tracks f bytes now (step.Over outcome) sent came tracks is g same = absurd (cc)

ends_on : (f : Forwarded) (now : ℕ) (next : Step) → Ends f now next → (g : Forwarded) → next ≡ step.GoesOn g → ⊥
ends_on f now (step.GoesOn next) is g same = is
ends_on f now (step.Again next) is g same = cc
ends_on f now (step.Over outcome) is g same = cc

fails_on : (f : Forwarded) (now : ℕ) (g : Forwarded) → failed f now ≡ step.GoesOn g → ⊥
fails_on f now g is = go (may_repeat f) is where
  go : (b : Bool)
      → cond b (step.Again (again f now)) (step.Over (refused fault.ConnectFailed (health_of f.came))) ≡ step.GoesOn g → ⊥
  go true is = cc
  go false is = cc

looks_on : (f : Forwarded) (now : ℕ) (sent came : List ℕ) → (f.text.sent ≡ sent) × (f.came ≡ came) → (g : Forwarded)
    → looked f now ≡ step.GoesOn g → (g.text.sent ≡ sent) × (g.came ≡ came)
looks_on f now sent came tracks g is = go (nat_le f.state.deadlines.until now) is where
  same : step.GoesOn f ≡ step.GoesOn g → f ≡ g
  same is = cc

  go : (b : Bool) → cond b (step.Over (refused fault.ResponseTimeout (late_health f now))) (step.GoesOn f) ≡ step.GoesOn g
      → (g.text.sent ≡ sent) × (g.came ≡ came)
  go true is = absurd (cc)
  go false is = subst (λ (h : Forwarded). (h.text.sent ≡ sent) × (h.came ≡ came)) (same is) tracks

never_on : (outcome : Outcome) (sent came : List ℕ) (g : Forwarded) → step.Over outcome ≡ step.GoesOn g
    → (g.text.sent ≡ sent) × (g.came ≡ came)
never_on outcome sent came g is = absurd (cc)

still : (client : Client) (endpoint : EndpointSide) (new : Sides) (sent came : List ℕ) → Tracks endpoint sent came
    → new ≡ record { client = client; endpoint = endpoint } → Tracks new.endpoint sent came
still client endpoint new sent came tracks is =
    moved endpoint new.endpoint sent came (ap (λ (n : Sides). n.endpoint) is) tracks

-- an event at the endpoint
happens_tracks : (event : EndpointEvent) (old : Sides) (e : EndpointSide) (now : ℕ) (told : EndpointStep)
    (reply : Option Reply) (new : Sides) (sent came : List ℕ) → Tracks e sent came
    → Happens event (record old { endpoint = e }) now told reply new
    → Tracks new.endpoint sent (came_by came (endpoint_gives event now told reply))
happens_tracks (comes bytes) old side.NoRequest now told reply new sent came tracks is =
    still old.client side.NoRequest new sent (came ++ bytes) tt is.2
happens_tracks (comes bytes) old (side.Entered request) now told reply new sent came tracks is =
    still old.client (side.Entered request) new sent (came ++ bytes) tt is.2
happens_tracks (comes bytes) old (side.Dialing request d) now told reply new sent came tracks is =
    still old.client (side.Dialing request d) new sent (came ++ bytes) tt is.2
happens_tracks (comes bytes) old (side.Forwarding request f) now told reply new sent came tracks is =
    follows_tracks request is.0 now old.client told reply new sent (came ++ bytes)
    (receives_tracks f bytes now is.0 sent came tracks is.1) is.2
happens_tracks (comes bytes) old (side.Streaming request s) now told reply new sent came tracks is =
    absurd is
happens_tracks ends old side.NoRequest now told reply new sent came tracks is =
    still old.client side.NoRequest new sent came tt is.2
happens_tracks ends old (side.Entered request) now told reply new sent came tracks is =
    still old.client (side.Entered request) new sent came tt is.2
happens_tracks ends old (side.Dialing request d) now told reply new sent came tracks is =
    still old.client (side.Dialing request d) new sent came tt is.2
happens_tracks ends old (side.Forwarding request f) now told reply new sent came tracks is =
    follows_tracks request is.0 now old.client told reply new sent came
    (λ g same. absurd (ends_on f now is.0 is.1.0 g same)) is.2
happens_tracks ends old (side.Streaming request s) now told reply new sent came tracks is =
    absurd is
happens_tracks breaks old side.NoRequest now told reply new sent came tracks is =
    still old.client side.NoRequest new sent came tt is.2
happens_tracks breaks old (side.Entered request) now told reply new sent came tracks is =
    still old.client (side.Entered request) new sent came tt is.2
happens_tracks breaks old (side.Dialing request d) now told reply new sent came tracks is =
    still old.client (side.Dialing request d) new sent came tt is.2
happens_tracks breaks old (side.Forwarding request f) now told reply new sent came tracks is =
    follows_tracks request is.0 now old.client told reply new sent came
    (λ g same. absurd (fails_on f now g (sym is.1.0 ∙ same))) is.2
happens_tracks breaks old (side.Streaming request s) now told reply new sent came tracks is =
    absurd is
happens_tracks (dial_fails why) old side.NoRequest now told reply new sent came tracks is =
    still old.client side.NoRequest new sent came tt is.2
happens_tracks (dial_fails why) old (side.Entered request) now told reply new sent came tracks is =
    still old.client (side.Entered request) new sent came tt is.2
happens_tracks (dial_fails why) old (side.Dialing request d) now told reply new sent came tracks is =
    follows_tracks request (step.Over (dial_failed why)) now old.client told reply new sent came
    (never_on (dial_failed why) sent came) is
happens_tracks (dial_fails why) old (side.Forwarding request f) now told reply new sent came tracks is =
    still old.client (side.Forwarding request f) new sent came tracks is.2
happens_tracks (dial_fails why) old (side.Streaming request s) now told reply new sent came tracks is =
    still old.client (side.Streaming request s) new sent came tracks is.2
happens_tracks passes old side.NoRequest now told reply new sent came tracks is =
    still old.client side.NoRequest new sent came tt is.2
happens_tracks passes old (side.Entered request) now told reply new sent came tracks is =
    still old.client (side.Entered request) new sent came tt is.2
happens_tracks passes old (side.Dialing request d) now told reply new sent came tracks is =
    go (nat_le d.deadlines.until now) is where
      go : (b : Bool) → LooksDialing b request d now old.client told reply new → Tracks new.endpoint sent came
      go true is =
          follows_tracks request (step.Over (dial_failed dial.TimedOut)) now old.client told reply new sent came
          (never_on (dial_failed dial.TimedOut) sent came) is
      go false is = still old.client (side.Dialing request d) new sent came tt is.2
happens_tracks passes old (side.Forwarding request f) now told reply new sent came tracks is =
    follows_tracks request (looked f now) now old.client told reply new sent came (looks_on f now sent came tracks) is
happens_tracks passes old (side.Streaming request s) now told reply new sent came tracks is = absurd is
happens_tracks (given_up why) old side.NoRequest now told reply new sent came tracks is =
    still old.client side.NoRequest new sent came tt is.2
happens_tracks (given_up why) old (side.Entered request) now told reply new sent came tracks is =
    still old.client (side.Entered request) new sent came tt is.2
happens_tracks (given_up why) old (side.Dialing request d) now told reply new sent came tracks is =
    follows_tracks request (step.Over (refused (of_giving_up why) health.Unknown)) now old.client told reply new sent came
    (never_on (refused (of_giving_up why) health.Unknown) sent came) is
happens_tracks (given_up why) old (side.Forwarding request f) now told reply new sent came tracks is =
    follows_tracks request (step.Over (refused (of_giving_up why) (health_of f.came))) now old.client told reply new sent came
    (never_on (refused (of_giving_up why) (health_of f.came)) sent came) is
happens_tracks (given_up why) old (side.Streaming request s) now told reply new sent came tracks is =
    absurd is

-- A RESPONSE THAT IS PASSED ON

event_tracks : (event : EndpointEvent) (f : Forwarded) (now : ℕ) (told : EndpointStep) (telling : Telling) (sent came : List ℕ)
    → (f.text.sent ≡ sent) × (f.came ≡ came)
    → ((came_with event now f).text.sent ≡ sent) × ((came_with event now f).came ≡ came_by came (streams event now told telling))
event_tracks (comes bytes) f now told telling sent came tracks = came_tracks f bytes now sent came tracks
event_tracks ends f now told telling sent came tracks = tracks
event_tracks breaks f now told telling sent came tracks = tracks
event_tracks (dial_fails why) f now told telling sent came tracks = tracks
event_tracks passes f now told telling sent came tracks = tracks
event_tracks (given_up why) f now told telling sent came tracks = tracks

streams_tracks : (event : EndpointEvent) (e : EndpointSide) (now : ℕ) (client : Client) (told : EndpointStep) (telling : Telling)
    (new : Sides) (sent came : List ℕ) → Tracks e sent came → AtStreamed (StepsBy event now) e now client told telling new
    → Tracks new.endpoint sent (came_by came (streams event now told telling))
streams_tracks event side.NoRequest now client told telling new sent came tracks is = absurd is
streams_tracks event (side.Entered request) now client told telling new sent came tracks is = absurd is
streams_tracks event (side.Dialing request d) now client told telling new sent came tracks is = absurd is
streams_tracks event (side.Forwarding request f) now client told telling new sent came tracks is = absurd is
streams_tracks event (side.Streaming request s) now client told telling new sent came tracks is =
    follows_end (λ e. Tracks e sent after) request is.0 now client told telling new
    (steps_on (λ (t : Streamed). (t.forwarded.text.sent ≡ sent) × (t.forwarded.came ≡ after)) (λ (d : Dialing). ⊤) event s now is.0 is.1
    (λ t same. subst (λ (f : Forwarded). (f.text.sent ≡ sent) × (f.came ≡ after)) (sym same)
    (event_tracks event s.forwarded now told telling sent came tracks)) (λ may once. tt)) tt is.2 where
      after : List ℕ
      after = came_by came (streams event now told telling)

renewed_tracks : (b : Bool) (f : Forwarded) (now : ℕ) (sent came : List ℕ) → (f.text.sent ≡ sent) × (f.came ≡ came)
    → ((renew_if b f now).text.sent ≡ sent) × ((renew_if b f now).came ≡ came)
renewed_tracks true f now sent came tracks = tracks
renewed_tracks false f now sent came tracks = tracks

takes_tracks : (e : EndpointSide) (count now : ℕ) (client : Client) (told : EndpointStep) (telling : Telling) (new : Sides)
    (sent came : List ℕ) → Tracks e sent came → ClientTakes e count now client told telling new → Tracks new.endpoint sent came
takes_tracks side.NoRequest count now client told telling new sent came tracks is =
    still client side.NoRequest new sent came tracks is.2
takes_tracks (side.Entered request) count now client told telling new sent came tracks is =
    still client (side.Entered request) new sent came tracks is.2
takes_tracks (side.Dialing request d) count now client told telling new sent came tracks is =
    still client (side.Dialing request d) new sent came tracks is.2
takes_tracks (side.Forwarding request f) count now client told telling new sent came tracks is =
    still client (side.Forwarding request f) new sent came tracks is.2
takes_tracks (side.Streaming request s) count now client told telling new sent came tracks is =
    go (is_passing_on client.stage) is where
      go : (b : Bool) → ClientTakesOf b request s count now client told telling new → Tracks new.endpoint sent came
      go false is = still client (side.Streaming request s) new sent came tracks is.2
      go true is =
          follows_end (λ e. Tracks e sent came) request is.0 now (passed_at client.stage count true now client) told telling new
          (takes_on (λ (t : Streamed). (t.forwarded.text.sent ≡ sent) × (t.forwarded.came ≡ came)) (λ (d : Dialing). ⊤) s count now is.0 is.1
          (λ t happened same. subst (λ (f : Forwarded). (f.text.sent ≡ sent) × (f.came ≡ came)) (sym same)
          (renewed_tracks happened s.forwarded now sent came tracks))) tt is.2

streamed_tracks : (e : EndpointSide) (is_kept : Bool) (limits : StreamLimits) (now : ℕ) (goes_on taken : Bool) (new : EndpointSide)
    (sent came : List ℕ) → Tracks e sent came → ConnectsStreamed is_kept limits now goes_on taken e new
    → Tracks new (sent_by sent (connects_streamed is_kept limits now taken)) (came_by came (connects_streamed is_kept limits now taken))
streamed_tracks side.NoRequest is_kept limits now goes_on true new sent came tracks is = absurd is
streamed_tracks (side.Entered request) is_kept limits now goes_on true new sent came tracks is = absurd is
streamed_tracks (side.Dialing request d) is_kept limits now goes_on true new sent came tracks is =
    moved (side.Streaming request is.2.0) new [] [] is.2.2
    (subst (λ (f : Forwarded). (f.text.sent ≡ []) × (f.came ≡ [])) (sym is.2.1.1.forwarded_is) (refl, refl))
streamed_tracks (side.Forwarding request f) is_kept limits now goes_on true new sent came tracks is = absurd is
streamed_tracks (side.Streaming request s) is_kept limits now goes_on true new sent came tracks is = absurd is
streamed_tracks e is_kept limits now goes_on false new sent came tracks is = moved e new sent came is tracks

unread_tracks : (endpoint : EndpointSide) (now : ℕ) (sent came : List ℕ) → Tracks endpoint sent came
    → Tracks (on_forwarded (λ f. unread f now) endpoint) sent came
unread_tracks side.NoRequest now sent came tracks = tt
unread_tracks (side.Entered request) now sent came tracks = tt
unread_tracks (side.Dialing request d) now sent came tracks = tt
unread_tracks (side.Forwarding request f) now sent came tracks = (tracks.0, tracks.1)
unread_tracks (side.Streaming request s) now sent came tracks = (tracks.0, tracks.1)

ending_tracks : (endpoint : EndpointSide) (sent came : List ℕ) → Tracks endpoint sent came
    → Tracks (on_forwarded with_end endpoint) sent came
ending_tracks side.NoRequest sent came tracks = tt
ending_tracks (side.Entered request) sent came tracks = tt
ending_tracks (side.Dialing request d) sent came tracks = tt
ending_tracks (side.Forwarding request f) sent came tracks = (tracks.0, tracks.1)
ending_tracks (side.Streaming request s) sent came tracks = (tracks.0, tracks.1)

fields_tracks : (endpoint : EndpointSide) (fields : List Field) (sent came : List ℕ) → Tracks endpoint sent came
    → Tracks (with_fields fields endpoint) sent came
fields_tracks side.NoRequest fields sent came tracks = tt
fields_tracks (side.Entered request) fields sent came tracks = tt
fields_tracks (side.Dialing request d) fields sent came tracks = tt
fields_tracks (side.Forwarding request f) fields sent came tracks = tracks
fields_tracks (side.Streaming request s) fields sent came tracks = tracks

tracks_step : (old : Sides) (call : SidesCall) (new : Sides) (sent came : List ℕ) → Tracks old.endpoint sent came
    → SidesCalls old call new → Tracks new.endpoint (sent_by sent call) (came_by came call)
tracks_step old (reads call result now answer) new sent came tracks is =
    moved old.endpoint new.endpoint sent came is.2 tracks
tracks_step old (notes call) new sent came tracks is = moved old.endpoint new.endpoint sent came is.2 tracks
tracks_step old (enters request) new sent came tracks is =
    moved (entered_as (waiting_request old.client.stage) old).endpoint new.endpoint sent came
    (ap (λ (n : Sides). n.endpoint) is.1) (entered_tracks (waiting_request old.client.stage) old sent came tracks)
tracks_step old (refuses now told reply) new sent came tracks is =
    refuses_tracks old.endpoint now old.client told reply new sent came tracks is
tracks_step old (replaces_fields fields) new sent came tracks is =
    moved (with_fields fields old.endpoint) new.endpoint sent came is.1 (fields_tracks old.endpoint fields sent came tracks)
tracks_step old (dials route now does) new sent came tracks is =
    dials_tracks old.endpoint route now does new.endpoint sent came tracks is.1
tracks_step old (connects is_kept now taken) new sent came tracks is =
    moved (begins (takes_connection is_kept old.endpoint) is_kept now old.endpoint) new.endpoint
    (sent_by sent (connects is_kept now taken)) (came_by came (connects is_kept now taken))
    (ap (λ (n : Sides). n.endpoint) is.1) (begins_tracks old.endpoint is_kept now taken sent came is.0 tracks)
tracks_step old (endpoint_writes bytes now) new sent came tracks is =
    moved (on_forwarded (λ f. wrote f (length bytes) now) old.endpoint) new.endpoint (sent ++ bytes) came is.2
    (wrote_tracks old.endpoint bytes is.0.0 now sent came is.0.1 tracks)
tracks_step old (endpoint_reads_no_more now) new sent came tracks is =
    moved (on_forwarded (λ f. unread f now) old.endpoint) new.endpoint sent came is.1
    (unread_tracks old.endpoint now sent came tracks)
tracks_step old endpoint_is_ending new sent came tracks is =
    moved (on_forwarded with_end old.endpoint) new.endpoint sent came is.1 (ending_tracks old.endpoint sent came tracks)
tracks_step old (endpoint_gives event now told reply) new sent came tracks is =
    happens_tracks event old old.endpoint now told reply new sent came tracks is
tracks_step old (connects_streamed is_kept limits now taken) new sent came tracks is =
    streamed_tracks old.endpoint is_kept limits now (stays_after old.client) taken new.endpoint sent came tracks is.1
tracks_step old (streams event now told telling) new sent came tracks is =
    streams_tracks event old.endpoint now old.client told telling new sent came tracks is
tracks_step old (client_takes passed bytes now told telling) new sent came tracks is =
    takes_tracks old.endpoint (length bytes) now old.client told telling new sent came tracks is.2
tracks_step old (accepts_upgrade bytes now weight upgraded) new sent came tracks is =
    after_upgrade (λ e. Tracks e sent came) old bytes now weight upgraded new tracks tt is

-- what was written and what came over calls
pub tracks_run : (calls : List SidesCall) (old new : Sides) (sent came : List ℕ) → Tracks old.endpoint sent came
    → SidesRun old calls new → Tracks new.endpoint (sent_in sent calls) (came_in came calls)
tracks_run [] old new sent came tracks is =
    moved old.endpoint new.endpoint sent came (sym (ap (λ (n : Sides). n.endpoint) is)) tracks
tracks_run (call ∷ more) old new sent came tracks is =
    tracks_run more is.0 new (sent_by sent call) (came_by came call) (tracks_step old call is.0 sent came tracks is.1) is.2
