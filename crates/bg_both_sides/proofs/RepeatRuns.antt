-- How often a request is sent again over calls.
use Rattle.std.proofs.Common.{◌≡◌, ℕ, ◌+◌, ◌≤◌, Bool, true, false, not, ◌&&◌, List, [], ◌∷◌, length, refl, ap, arith, Option, Some, None}
use Rattle.bg_http.specs.Elements.{Field}
use Rattle.bg_http.specs.declared.request.Request.{Request}
use Rattle.bg_client_side.specs.Clients.{Client, stays_after}
use Rattle.bg_endpoint_side.specs.Dialing.{Dialing, Forwarded, may_go_elsewhere}
use Rattle.bg_endpoint_side.specs.Forwarding.{unread, with_end, wrote}
use Rattle.bg_both_sides.proofs.UpgradeLemmas.{after_upgrade}
use Rattle.bg_both_sides.specs.Answers.{Reply}
use Rattle.bg_both_sides.specs.ClientEvents.{entered_as}
use Rattle.bg_both_sides.specs.EndpointEvents.{Dials, DialsElsewhere, RefusesEntered, begins, on_forwarded, takes_connection, with_fields}
use Rattle.bg_both_sides.specs.Laws.{none_enters}
use Rattle.bg_both_sides.specs.Runs.{SidesCall, SidesCalls, SidesRun, again_by, again_in, client_takes, connects, connects_streamed, dials, endpoint_gives, endpoint_is_ending, endpoint_reads_no_more, endpoint_writes, enters, enters_none, notes, one_if, reads, refuses, streams, replaces_fields, accepts_upgrade}
use Rattle.bg_both_sides.specs.Sides.{Sides}
use Rattle.bg_both_sides.specs.declared.endpoint_side.EndpointSide.{EndpointSide}
use Rattle.bg_both_sides.specs.declared.endpoint_side.EndpointSide.TheVariants as side
use Rattle.bg_both_sides.specs.declared.route.Route.{Route}
use Rattle.bg_both_sides.proofs.RepeatLemmas.{few, happens_left, left, same_left, wrote_left}
use Rattle.bg_both_sides.proofs.StreamedRepeats.{connects_left, streams_left, takes_left}

entered_left : (request : Option Request) (sides : Sides) → enters_none (enters request) ≡ true
    → left (entered_as request sides).endpoint ≤ left sides.endpoint
entered_left None sides none = omega arith
entered_left (Some request) sides none = absurd (cc)

refuses_left : (endpoint : EndpointSide) (now : ℕ) (client : Client) (told : Bool) (reply : Option Reply) (new : Sides)
    → RefusesEntered endpoint now client told reply new → left new.endpoint ≤ left endpoint
refuses_left side.NoRequest now client told reply new is = let lefts = ap (λ (n : Sides). left n.endpoint) is.2 in omega (arith, lefts)
refuses_left (side.Entered request) now client told None new is = absurd is
refuses_left (side.Entered request) now client told (Some reply) new is =
    let lefts = ap (λ (n : Sides). left n.endpoint) is.3 in omega (arith, lefts)
refuses_left (side.Dialing request d) now client told reply new is =
    let lefts = ap (λ (n : Sides). left n.endpoint) is.2 in omega (arith, lefts)
refuses_left (side.Forwarding request f) now client told reply new is =
    let lefts = ap (λ (n : Sides). left n.endpoint) is.2 in omega (arith, lefts)
refuses_left (side.Streaming request s) now client told reply new is =
    let lefts = ap (λ (n : Sides). left n.endpoint) is.2 in omega (arith, lefts)

elsewhere_left : (unsent does : Bool) (request : Request) (d : Dialing) (route : Route) (now : ℕ) (new : EndpointSide)
    → DialsElsewhere unsent does request d route now new → left new ≤ left (side.Dialing request d)
elsewhere_left true true request d route now new is = let lefts = ap left is in omega (arith, lefts)
elsewhere_left true false request d route now new is = let lefts = ap left is in omega (arith, lefts)
elsewhere_left false does request d route now new is = let lefts = ap left is.1 in omega (arith, lefts)

dials_left : (endpoint : EndpointSide) (route : Route) (now : ℕ) (does : Bool) (new : EndpointSide)
    → Dials endpoint route now does new → left new ≤ left endpoint
dials_left side.NoRequest route now does new is = let lefts = ap left is.1 in omega (arith, lefts)
dials_left (side.Entered request) route now true new is = let lefts = ap left is in omega (arith, lefts)
dials_left (side.Entered request) route now false new is = let lefts = ap left is in omega (arith, lefts)
dials_left (side.Dialing request d) route now does new is = elsewhere_left (may_go_elsewhere d now) does request d route now new is
dials_left (side.Forwarding request f) route now does new is = let lefts = ap left is.1 in omega (arith, lefts)
dials_left (side.Streaming request s) route now does new is = let lefts = ap left is.1 in omega (arith, lefts)

begins_left : (endpoint : EndpointSide) (b is_kept : Bool) (now : ℕ) → left (begins b is_kept now endpoint) ≡ left endpoint
begins_left side.NoRequest true is_kept now = refl
begins_left (side.Entered request) true is_kept now = refl
begins_left (side.Dialing request d) true is_kept now = refl
begins_left (side.Forwarding request f) true is_kept now = refl
begins_left (side.Streaming request s) true is_kept now = refl
begins_left endpoint false is_kept now = refl

changed_left : (endpoint : EndpointSide) (change : Forwarded → Forwarded)
    → ((f : Forwarded) → (change f).state.is_again ≡ f.state.is_again) → left (on_forwarded change endpoint) ≡ left endpoint
changed_left side.NoRequest change same = refl
changed_left (side.Entered request) change same = refl
changed_left (side.Dialing request d) change same = refl
changed_left (side.Forwarding request f) change same = ap (λ b. one_if (not b)) (same f)
changed_left (side.Streaming request s) change same = ap (λ b. one_if (not b)) (same s.forwarded)

fields_left : (endpoint : EndpointSide) (fields : List Field) → left (with_fields fields endpoint) ≡ left endpoint
fields_left side.NoRequest fields = refl
fields_left (side.Entered request) fields = refl
fields_left (side.Dialing request d) fields = refl
fields_left (side.Forwarding request f) fields = refl
fields_left (side.Streaming request s) fields = refl

left_step : (old : Sides) (call : SidesCall) (new : Sides) → enters_none call ≡ true → SidesCalls old call new
    → again_by call + left new.endpoint ≤ left old.endpoint
left_step old (reads call result now answer) new none is = same_left old.endpoint new.endpoint is.2
left_step old (notes call) new none is = same_left old.endpoint new.endpoint is.2
left_step old (enters request) new none is =
    let lefts = ap (λ (n : Sides). left n.endpoint) is.1 in
    let named = ap (λ r. left (entered_as r old).endpoint) is.0 in
    let few = entered_left request old none in
    omega (arith, lefts, named, few)
left_step old (refuses now told reply) new none is =
    let few = refuses_left old.endpoint now old.client told reply new is in omega (arith, few)
left_step old (replaces_fields fields) new none is =
    let lefts = ap left is.1 in
    let same = fields_left old.endpoint fields in
    omega (arith, lefts, same)
left_step old (dials route now does) new none is =
    let few = dials_left old.endpoint route now does new.endpoint is.1 in omega (arith, few)
left_step old (connects is_kept now taken) new none is =
    let lefts = ap (λ (n : Sides). left n.endpoint) is.1 in
    let same = begins_left old.endpoint (takes_connection is_kept old.endpoint) is_kept now in
    omega (arith, lefts, same)
left_step old (endpoint_writes bytes now) new none is =
    let lefts = ap left is.2 in
    let same = changed_left old.endpoint (λ f. wrote f (length bytes) now) (λ f. wrote_left f (length bytes) now) in
    omega (arith, lefts, same)
left_step old (endpoint_reads_no_more now) new none is =
    let lefts = ap left is.1 in
    let same = changed_left old.endpoint (λ f. unread f now) (λ f. refl) in
    omega (arith, lefts, same)
left_step old endpoint_is_ending new none is =
    let lefts = ap left is.1 in
    let same = changed_left old.endpoint with_end (λ f. refl) in
    omega (arith, lefts, same)
left_step old (endpoint_gives event now told reply) new none is = happens_left event old old.endpoint now told reply new is
left_step old (connects_streamed is_kept limits now taken) new none is =
    let few = connects_left old.endpoint is_kept limits now (stays_after old.client) taken new.endpoint is.1 in omega (arith, few)
left_step old (streams event now told telling) new none is =
    streams_left event old.endpoint now old.client told telling new is
left_step old (client_takes passed bytes now told telling) new none is =
    takes_left old.endpoint (length bytes) now old.client told telling new is.2
left_step old (accepts_upgrade bytes now weight upgraded) new none is =
    let few = after_upgrade (λ e. left e ≤ left old.endpoint) old bytes now weight upgraded new (omega arith) (omega arith) is in
    omega (arith, few)

both : (a b : Bool) → (a && b) ≡ true → (a ≡ true) × (b ≡ true)
both true b is = (refl, is)
both false b is = absurd (cc)

pub left_run : (calls : List SidesCall) (old new : Sides) → SidesRun old calls new → none_enters calls ≡ true
    → again_in calls + left new.endpoint ≤ left old.endpoint
left_run [] old new is none = let lefts = ap (λ (n : Sides). left n.endpoint) is in omega (arith, lefts)
left_run (call ∷ more) old new is none =
    let parts = both (enters_none call) (none_enters more) none in
    let first = left_step old call is.0 parts.0 is.1 in
    let others = left_run more is.0 new is.2 parts.1 in
    omega (arith, first, others)

-- a request is sent again at most once
pub repeats_once : (calls : List SidesCall) (old new : Sides) → SidesRun old calls new → none_enters calls ≡ true
    → again_in calls ≤ 1
repeats_once calls old new is none =
    let run = left_run calls old new is none in
    let most = few old.endpoint in
    omega (arith, run, most)
