-- How both connections are handed over after an upgrade.
use Rattle.std.specs.Prelude.{◌≡◌, ℕ, true, false, List, [], ◌++◌, drop, Option, Some, None}
use Rattle.bg_http.specs.declared.request.Request.{Request}
use Rattle.bg_http.specs.declared.response.ResponseHead.{ResponseHead}
use Rattle.bg_client_side.specs.Stages.{is_passing_on}
use Rattle.bg_endpoint_side.specs.Dialing.{Forwarded}
use Rattle.bg_upgrade.specs.Acceptances.{FindsAcceptance}
use Rattle.bg_upgrade.specs.HeadTexts.{acceptance_text}
use Rattle.bg_upgrade.specs.declared.acceptance.Acceptance.TheVariants.{Accepts}
use Rattle.bg_both_sides.specs.Answers.{lacks, with_answer}
use Rattle.bg_both_sides.specs.Sides.{Sides, as_forwarded, request_of}
use Rattle.bg_both_sides.specs.declared.endpoint_side.EndpointSide.{EndpointSide}
use Rattle.bg_both_sides.specs.declared.endpoint_side.EndpointSide.TheVariants as side
use Rattle.bg_both_sides.specs.declared.upgrading.Upgraded.{Upgraded}

-- the request was written whole to the connection that belongs to it, as one that asks for an upgrade
pub record Asks (endpoint : EndpointSide) (request : Request) (forwarded : Forwarded) : Type 0 where
  pub request_is : request_of endpoint ≡ Some request
  pub forwarded_is : as_forwarded endpoint ≡ Some forwarded
  pub asks : forwarded.state.terms.asks_for_upgrade ≡ true
  pub is_sent : forwarded.text.rest ≡ []

-- a tunnel begins: the bytes that came from the endpoint begin with a head that accepts the upgrade which the request asks for; the
-- client is told of it, and gets what is behind that head; and the endpoint gets what is unread behind the request
pub record Begins (request : Request) (came unread : List ℕ) (upgraded : Upgraded) : Type 0 where
  pub head : ResponseHead
  pub taken : ℕ
  pub accepts : FindsAcceptance request came (Accepts head taken)
  pub for_client_is : upgraded.for_client.items ≡ acceptance_text head ++ drop taken came
  pub for_endpoint_is : upgraded.for_endpoint.items ≡ unread

-- the endpoint accepts the upgrade with these bytes, and nothing of another response was passed on
pub record IsAccepted (sides : Sides) (bytes : List ℕ) (upgraded : Upgraded) : Type 0 where
  pub request : Request
  pub forwarded : Forwarded
  pub asked : Asks sides.endpoint request forwarded
  pub none_passed : is_passing_on sides.client.stage ≡ false
  pub begins : Begins request (forwarded.came ++ bytes) sides.client.since upgraded

-- both connections are handed over: the client's connection has left without an answer. Otherwise nothing changes
abbrev pub AcceptsUpgrade : Sides → List ℕ → ℕ → ℕ → Option Upgraded → Sides → Type 0
AcceptsUpgrade old bytes now weight None new = new ≡ old
AcceptsUpgrade old bytes now weight (Some upgraded) new =
    IsAccepted old bytes upgraded
    × (new ≡ record { client = with_answer (lacks weight) now old.client; endpoint = side.NoRequest })
