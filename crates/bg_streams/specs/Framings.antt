-- The framing of a response as it comes, and as it is passed on.
use Rattle.std.specs.Prelude.{Bool, true, false, if◌then◌else◌}
use Rattle.bg_http.specs.declared.body_end.BodyEnd.{BodyEnd}
use Rattle.bg_http.specs.declared.body_end.BodyEnd.TheVariants as ends
use Rattle.bg_http.specs.declared.response_rules.ResponseFraming.{ResponseFraming}
use Rattle.bg_http.specs.declared.response_rules.ResponseFraming.TheVariants as framing
use Rattle.bg_relay.specs.declared.framing.Framing.{Framing}
use Rattle.bg_relay.specs.declared.framing.Framing.TheVariants as body

-- the framing of a body as it comes; a response without a body has one of no bytes
abbrev pub incoming : ResponseFraming → Framing
incoming framing.Interim = body.Length 0
incoming framing.NoBody = body.Length 0
incoming framing.Chunks = body.Chunks
incoming (framing.Length size) = body.Length size
incoming framing.ToTheEnd = body.ToTheEnd

-- the framing of a body whose length is not known: to a client that reads no chunks, it goes to the end of the connection
abbrev pub untold : Bool → Framing
untold reads_chunks = if reads_chunks then body.Chunks else body.ToTheEnd

-- the framing of a body as it is passed on: with its length if that is known
abbrev pub outgoing : Bool → ResponseFraming → Framing
outgoing reads_chunks framing.Interim = body.Length 0
outgoing reads_chunks framing.NoBody = body.Length 0
outgoing reads_chunks framing.Chunks = untold reads_chunks
outgoing reads_chunks (framing.Length size) = body.Length size
outgoing reads_chunks framing.ToTheEnd = untold reads_chunks

-- how the head tells the end of the body
abbrev pub body_end : Framing → BodyEnd
body_end (body.Length size) = ends.Length
body_end body.Chunks = ends.Chunks
body_end body.ToTheEnd = ends.Length

-- the connection of the client is kept: never after a body that goes to its end
abbrev pub keeps_after : Framing → Bool → Bool
keeps_after (body.Length size) keeps = keeps
keeps_after body.Chunks keeps = keeps
keeps_after body.ToTheEnd keeps = false

-- the framing tells the end of the body by itself, and not by the end of the connection
abbrev pub tells_end : ResponseFraming → Bool
tells_end framing.Interim = true
tells_end framing.NoBody = true
tells_end framing.Chunks = true
tells_end (framing.Length size) = true
tells_end framing.ToTheEnd = false
