-- What is known of a connection beside its stage.
use Rattle.std.specs.Prelude.{ℕ, ◌+◌, ◌==◌, Bool, ◌&&◌, not, min, nat_lt}
use Rattle.bg_http.specs.Persistences.{keeps}
use Rattle.bg_http.specs.Removed.{says_close}
use Rattle.bg_http.specs.declared.request.Request.{Request}
use Rattle.bg_client_side.specs.declared.facts.ClientFacts.{ClientFacts}

-- so many milliseconds later
abbrev pub later : ℕ → ℕ → ℕ
later now millis = min (now + millis) 18446744073709551615

-- the client lets its connection be kept: its request has version 1.1, and no element of its Connection fields is `close`
-- (RFC 9112 section 9.3)
abbrev pub asks_to_keep : Request → Bool
asks_to_keep request = not (request.minor == 0) && not (says_close request.fields)

-- the connection goes on after the answer to a request that was read whole: its client lets the connection be kept; with
-- this answer, fewer than the most requests were answered; no shutdown has begun; and connections are kept
abbrev pub keeps_after : ClientFacts → Bool
keeps_after facts =
    facts.is_to_stay && nat_lt (facts.answered + 1) facts.settings.most_requests && not facts.is_closing
    && keeps facts.settings.persistence

-- an answer was written, after which the connection goes on: it is idle from now on
abbrev pub next_facts : ClientFacts → ℕ → ClientFacts
next_facts facts now =
    record facts { answered = facts.answered + 1; until = later now facts.settings.idle_millis }
