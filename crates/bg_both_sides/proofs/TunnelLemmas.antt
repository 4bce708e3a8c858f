-- A tunnel begins only after an acceptance of its own endpoint.
use Rattle.std.proofs.Common.{◌≡◌, ◌∙◌, ℕ, true, if◌then◌else◌, List, [], ◌++◌, sym, ap, subst, append-nil, Some}
use Rattle.bg_http.specs.Persistences.{keeps}
use Rattle.bg_http.specs.Texts.{request_text}
use Rattle.bg_http.specs.declared.request.Request.{Request}
use Rattle.bg_client_side.specs.Clients.{Client}
use Rattle.bg_client_side.specs.Stages.{has_left}
use Rattle.bg_client_side.specs.declared.facts.ClientSettings.{ClientSettings}
use Rattle.bg_endpoint_side.specs.Dialing.{Forwarded}
use Rattle.bg_upgrade.specs.HeadTexts.{upgrade_text}
use Rattle.bg_both_sides.proofs.RequestTexts.{tracked}
use Rattle.bg_both_sides.proofs.RunLemmas.{StayLaw}
use Rattle.bg_both_sides.proofs.TrackLemmas.{Tracks}
use Rattle.bg_both_sides.proofs.UpgradeLemmas.{inside_of, leaves}
use Rattle.bg_both_sides.specs.Laws.{BeginsTunnel}
use Rattle.bg_both_sides.specs.Runs.{SidesCall, came_in, sent_in}
use Rattle.bg_both_sides.specs.Sides.{IsForwarded, IsSound, Sides}
use Rattle.bg_both_sides.specs.UpgradeEvents.{Asks, Begins}
use Rattle.bg_both_sides.specs.declared.endpoint_side.EndpointSide.{EndpointSide}
use Rattle.bg_both_sides.specs.declared.endpoint_side.EndpointSide.TheVariants as side
use Rattle.bg_both_sides.specs.declared.upgrading.Upgraded.{Upgraded}

-- what is known of a request that asks for an upgrade on its connection
record Known (sent came : List ℕ) (request : Request) (f : Forwarded) : Type 0 where
  pub sent_is : f.text.sent ≡ sent
  pub came_is : f.came ≡ came
  pub forwarded : IsForwarded request f

known_here : (sent came : List ℕ) (request other : Request) (f g : Forwarded) → Some other ≡ Some request → Some g ≡ Some f
    → (g.text.sent ≡ sent) × (g.came ≡ came) → IsForwarded other g → Known sent came request f
known_here sent came request other f g request_is is tracks forwarded =
    let same_request : other ≡ request = cc in
    let same : g ≡ f = cc in
    subst (λ r. Known sent came r f) same_request
    (subst (Known sent came other) same (record { sent_is = tracks.0; came_is = tracks.1; forwarded = forwarded }))

known : (client : Client) (e : EndpointSide) (sent came : List ℕ) (request : Request) (f : Forwarded) → Tracks e sent came
    → IsSound client e → Asks e request f → Known sent came request f
known client side.NoRequest sent came request f tracks sound asked = absurd (let is = asked.forwarded_is in cc)
known client (side.Entered other) sent came request f tracks sound asked = absurd (let is = asked.forwarded_is in cc)
known client (side.Dialing other d) sent came request f tracks sound asked = absurd (let is = asked.forwarded_is in cc)
known client (side.Forwarding other g) sent came request f tracks sound asked =
    known_here sent came request other f g asked.request_is asked.forwarded_is tracks sound.1
known client (side.Streaming other s) sent came request f tracks sound asked =
    known_here sent came request other f s.forwarded asked.request_is asked.forwarded_is tracks sound.1

-- the whole text of a request that asks for an upgrade was written
whole_sent : (sent came : List ℕ) (request : Request) (f : Forwarded) → Known sent came request f
    → f.state.terms.asks_for_upgrade ≡ true → f.text.rest ≡ [] → sent ≡ upgrade_text request
whole_sent sent came request f is asks none =
    let terms = f.state.terms in
    sym is.sent_is ∙ sym (append-nil f.text.sent) ∙ ap (λ rest. f.text.sent ++ rest) (sym none) ∙ is.forwarded.text_is
    ∙ ap (λ b. if b then upgrade_text request else request_text (keeps terms.persistence) request terms.port) asks

pub begins_tunnel : StayLaw → (settings : ClientSettings) (now : ℕ) (calls : List SidesCall) (old : Sides) (bytes : List ℕ)
    (at weight : ℕ) (upgraded : Upgraded) (new : Sides) → BeginsTunnel settings now calls old bytes at weight upgraded new
begins_tunnel law settings now calls old bytes at weight upgraded new runs is =
    let sent = sent_in [] calls in
    let came = came_in [] calls in
    let facts = tracked law settings now calls old runs in
    let accepted = is.0 in
    let f = accepted.forwarded in
    let of = known old.client old.endpoint sent came accepted.request f facts.0 facts.1 accepted.asked in
    let inside = inside_of old.client old.endpoint accepted.request facts.1 accepted.asked.request_is in
    record {
      request = accepted.request;
      request_is = accepted.asked.request_is;
      asks = of.forwarded.asks_is accepted.asked.asks;
      sent_is = whole_sent sent came accepted.request f of accepted.asked.asks accepted.asked.is_sent;
      begins = subst (λ c. Begins accepted.request (c ++ bytes) old.client.since upgraded) of.came_is accepted.begins;
      none_passed = accepted.none_passed;
      no_request = ap (λ (n : Sides). n.endpoint) is.1;
      left = ap (λ (n : Sides). has_left n.client.stage) is.1 ∙ leaves old.client weight at inside;
    }
