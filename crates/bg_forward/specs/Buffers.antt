-- The contents of a buffered stream.
use Rattle.std.specs.Prelude.{ℕ, List, Option}
use Rattle.std.specs.Io.KnownBytes.{append_known}
use Rattle.bg_forward.specs.declared.buffered.Buffered.{Buffered}

-- the stream
abbrev pub stream_of : {S : Type 0} → Buffered S → S
stream_of b = b.stream

-- the buffered bytes
abbrev pub held : {S : Type 0} → Buffered S → List ℕ
held b = b.held.items

-- the bytes that were written to the stream, and then the buffered bytes
abbrev pub buffered : {S : Type 0} → (S → Option (List ℕ)) → Buffered S → Option (List ℕ)
buffered contents b = append_known (contents (stream_of b)) (held b)
