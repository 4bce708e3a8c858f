-- A connection after bytes came.
use Rattle.std.proofs.Common.{◌≡◌, ◌∙◌, ℕ, Bool, false, List, ◌++◌, None, ap, subst}
use Rattle.bg_http.specs.declared.request.Request.{Request}
use Rattle.bg_http_read.specs.RequestStates.{IsReadThen, LacksRequest}
use Rattle.bg_http_read.specs.RequestStreams.{StreamState}
use Rattle.bg_client_side.specs.Clients.{Client, received, rests, with_bytes}
use Rattle.bg_client_side.specs.Facts.{asks_to_keep}
use Rattle.bg_client_side.specs.declared.facts.ClientFacts.{ClientFacts}
use Rattle.bg_client_side.specs.declared.stage.Stage.{Stage}
use Rattle.bg_client_side.specs.declared.stage.Stage.TheVariants as stage

-- a connection of these parts
abbrev pub client_of : StreamState → Stage → ClientFacts → Client
client_of stream at facts =
    record { since = stream.since; asked = stream.asked; refused = stream.refused; stage = at; facts = facts }

pub more_came : (stream grown : StreamState) (at : Stage) (facts : ClientFacts) (self new : Client) (bytes : List ℕ)
    → client_of stream at facts ≡ self → grown ≡ record stream { since = stream.since ++ bytes; waits = grown.waits }
    → new ≡ rests (client_of grown at facts) → LacksRequest (stream.since ++ bytes)
    → (new ≡ rests (with_bytes self bytes)) × LacksRequest (self.since ++ bytes)
more_came stream grown at facts self new bytes is grows made lacks =
    subst (λ (c : Client). (new ≡ rests (with_bytes c bytes)) × LacksRequest (c.since ++ bytes)) is
    (made ∙ ap (λ (s : StreamState). rests (client_of s at facts)) grows, lacks)

pub whole_came : (stream left : StreamState) (at : Stage) (facts : ClientFacts) (self : Client) (request : Request)
    (bytes : List ℕ) (stays : Bool) → client_of stream at facts ≡ self → stays ≡ asks_to_keep request
    → left.asked ≡ false → left.refused ≡ None → IsReadThen stream.asked request (stream.since ++ bytes) left.since
    → (client_of left (stage.Waiting request) (record facts { is_to_stay = stays }) ≡ received request left.since self)
    × IsReadThen self.asked request (self.since ++ bytes) left.since
whole_came stream left at facts self request bytes stays is asks none unrefused reads =
    let waits = stage.Waiting request in
    let made : client_of left waits (record facts { is_to_stay = stays })
    ≡ received request left.since (client_of stream at facts) =
    ap (λ asked. client_of (record left { asked = asked }) waits (record facts { is_to_stay = stays })) none
    ∙ ap (λ refused. client_of (record left { asked = false; refused = refused }) waits (record facts { is_to_stay = stays })) unrefused
    ∙ ap (λ stay. client_of (record left { asked = false; refused = None }) waits (record facts { is_to_stay = stay })) asks in
    subst (λ (c : Client). (client_of left waits (record facts { is_to_stay = stays }) ≡ received request left.since c)
    × IsReadThen c.asked request (c.since ++ bytes) left.since) is (made, reads)
