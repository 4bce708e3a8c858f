-- A body in its framing, by the grammar of bg_http_read.
use Rattle.std.specs.Prelude.{ℕ, List, length}
use Rattle.bg_http_read.specs.BodyFramings.{FramedReads}
use Rattle.bg_http_read.specs.declared.body.BodyFraming.{BodyFraming}
use Rattle.bg_http_read.specs.declared.body.BodyFraming.TheVariants as ends
use Rattle.bg_relay.specs.declared.framing.Framing.{Framing}
use Rattle.bg_relay.specs.declared.framing.Framing.TheVariants as framing
use Rattle.bg_relay.specs.declared.framing.Sides.{Sides}
use Rattle.bg_relay.specs.declared.framing.Sides.TheVariants as sides

-- the framing for a reader that takes at most so many bytes of a body whose length is not told
abbrev pub within : ℕ → Framing → BodyFraming
within most (framing.Length size) = ends.Length size
within most framing.Chunks = ends.Chunks most
within most framing.ToTheEnd = ends.ToTheEnd most

-- the input is the body in this framing, of whatever size, and then `rest`
abbrev pub ReadsBody : Framing → List ℕ → List ℕ → List ℕ → Type 0
ReadsBody named input body rest = FramedReads (within (length body) named) input body rest

-- the most bytes that may come of a body in this framing, by the limit for one whose length is not told
abbrev pub most_to_come : Framing → ℕ → ℕ
most_to_come (framing.Length size) most = 18446744073709551615
most_to_come framing.Chunks most = most
most_to_come framing.ToTheEnd most = most

-- the framing of the input, and that of the output
abbrev pub incoming_of : Sides → Framing
incoming_of (sides.Length size) = framing.Length size
incoming_of (sides.IntoChunks incoming) = incoming
incoming_of (sides.ToTheEnd incoming) = incoming

abbrev pub outgoing_of : Sides → Framing
outgoing_of (sides.Length size) = framing.Length size
outgoing_of (sides.IntoChunks incoming) = framing.Chunks
outgoing_of (sides.ToTheEnd incoming) = framing.ToTheEnd
