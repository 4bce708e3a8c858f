-- Which requests ask for an upgrade, and which responses accept it (RFC 9110 section 7.8).
use Rattle.std.specs.Prelude.{ℕ, Bool, not, ◌==◌, ◌&&◌, ◌||◌, List, codes, is_none}
use Rattle.std.specs.List.{list_all, list_any}
use Rattle.std.specs.Str.{bytes_eq, str_eq_ignore_ascii_case}
use Rattle.bg_http.specs.Codings.{is_empty}
use Rattle.bg_http.specs.Elements.{Field, elements_named}
use Rattle.bg_http.specs.Removed.{is_named_by_connection}
use Rattle.bg_http.specs.declared.request.Request.{Request}
use Rattle.bg_http.specs.declared.response.ResponseHead.{ResponseHead}

-- the elements of the Upgrade fields; those that are not empty are protocols
abbrev pub protocols : List Field → List (List ℕ)
protocols fields = elements_named (codes "upgrade") fields

-- the Upgrade fields name a protocol
abbrev pub names_protocol : List Field → Bool
names_protocol fields = list_any (λ protocol. not (is_empty protocol)) (protocols fields)

-- the Upgrade fields name this protocol, in any case of its letters
abbrev pub names_this : List Field → List ℕ → Bool
names_this fields protocol =
    list_any (λ named. str_eq_ignore_ascii_case named protocol) (protocols fields)

-- each protocol that the other Upgrade fields name is one that the fields name
abbrev pub names_each_of : List Field → List Field → Bool
names_each_of fields others =
    list_all (λ protocol. is_empty protocol || names_this fields protocol) (protocols others)

-- a Connection field has the element `upgrade`, in any case of its letters, and an Upgrade field names a protocol
abbrev pub has_upgrade : List Field → Bool
has_upgrade fields = is_named_by_connection fields (codes "upgrade") && names_protocol fields

-- the request asks for an upgrade: in version 1.1, without a body, and not by `CONNECT`
abbrev pub asks_for_upgrade : Request → Bool
asks_for_upgrade request =
    not (request.minor == 0) && is_none request.body && not (bytes_eq request.method (codes "CONNECT"))
    && has_upgrade request.fields

-- the head accepts the upgrade that the request asks for: 101 in version 1.1, to protocols that the request named
abbrev pub accepts_upgrade : Request → ResponseHead → Bool
accepts_upgrade request head =
    not (head.minor == 0) && (head.code == 101) && has_upgrade head.fields
    && names_each_of request.fields head.fields
