-- The text of a request that is written to an endpoint.
use Rattle.std.specs.Prelude.{◌≡◌, ℕ, if◌then◌else◌, List, [], ◌++◌, drop, length, nat_lt, take}
use Rattle.bg_http.specs.Texts.{bytes_of}
use Rattle.bg_http.specs.declared.request.Request.{Request}

-- what was written of it to the connection, what is still to be written, and the end of the text that is not copied
pub record Outgoing : Type 0 where
  pub sent : List ℕ
  pub rest : List ℕ
  pub uncopied : List ℕ

-- the end of the text of a request that is not copied: its body, if that has more than 65,536 bytes
abbrev pub uncopied_body : Request → List ℕ
uncopied_body request = if nat_lt 65536 (length (bytes_of request.body)) then bytes_of request.body else []

-- the text
abbrev pub whole : Outgoing → List ℕ
whole outgoing = outgoing.sent ++ outgoing.rest

-- so many bytes more were written
abbrev pub with_written : Outgoing → ℕ → Outgoing
with_written outgoing count = record outgoing {
  sent = outgoing.sent ++ take count outgoing.rest;
  rest = drop count outgoing.rest;
}

-- nothing of the text was written to another connection
abbrev pub restarted : Outgoing → Outgoing
restarted outgoing = record outgoing { sent = []; rest = whole outgoing }

-- a piece of what is to be written: the first bytes of it, and at least one, if there is one
pub record IsFirstPiece (rest piece : List ℕ) : Type 0 where
  pub after : List ℕ
  pub is_first : rest ≡ piece ++ after
  pub is_some : piece ≡ [] → rest ≡ []
