-- The fields that are not forwarded (RFC 9110 section 7.6.1).
use Rattle.std.specs.Prelude.{ℕ, Bool, not, ◌&&◌, ◌||◌, List, filter, codes}
use Rattle.std.specs.Str.{str_eq_ignore_ascii_case}
use Rattle.std.specs.List.{list_any}
use Rattle.bg_http.specs.Elements.{Field, is_named, elements_named}
use Rattle.bg_http.specs.RequestRules.{expects_continue}

-- the field concerns one connection only, or the end of a body, for which the writers write their
-- own fields
abbrev pub is_of_connection : Field → Bool
is_of_connection field =
    is_named (codes "connection") field || is_named (codes "keep-alive") field
    || is_named (codes "proxy-connection") field || is_named (codes "te") field
    || is_named (codes "transfer-encoding") field || is_named (codes "upgrade") field
    || is_named (codes "trailer") field || is_named (codes "content-length") field

-- an element of the Connection fields is the name
abbrev pub is_named_by_connection : List Field → List ℕ → Bool
is_named_by_connection fields name =
    list_any (λ element. str_eq_ignore_ascii_case element name)
    (elements_named (codes "connection") fields)

-- an element of the Connection fields is `close`, in any case of its letters: the connection carries
-- no message after this one (RFC 9112 section 9.6)
abbrev pub says_close : List Field → Bool
says_close fields = is_named_by_connection fields (codes "close")

-- the field is not forwarded: it is one of those, or Connection names it; but Host is always
-- forwarded
abbrev pub is_removed : List Field → Field → Bool
is_removed fields field =
    is_of_connection field
    || (not (is_named (codes "host") field) && is_named_by_connection fields field.0)

-- in a request, an expectation of `100-continue` is not forwarded either, because it is answered
-- here
abbrev pub is_removed_from_request : List Field → Field → Bool
is_removed_from_request fields field = is_removed fields field || expects_continue field

-- the fields that are forwarded, in order
abbrev pub kept_in_response : List Field → List Field
kept_in_response fields = filter (λ field. not (is_removed fields field)) fields

abbrev pub kept_in_request : List Field → List Field
kept_in_request fields = filter (λ field. not (is_removed_from_request fields field)) fields
