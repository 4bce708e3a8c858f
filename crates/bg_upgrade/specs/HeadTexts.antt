-- The heads that an upgrade is written in.
use Rattle.std.specs.Prelude.{ℕ, List, [], ◌++◌, filter, flat_map, codes, None}
use Rattle.bg_http.specs.Elements.{Field, is_named}
use Rattle.bg_http.specs.Removed.{kept_in_request, kept_in_response}
use Rattle.bg_http.specs.Texts.{field_line, request_line, status_line, via_line}
use Rattle.bg_http.specs.declared.request.Request.{Request}
use Rattle.bg_http.specs.declared.response.Response.{Response}
use Rattle.bg_http.specs.declared.response.ResponseHead.{ResponseHead}

-- the Upgrade fields, in order
abbrev pub upgrade_fields : List Field → List Field
upgrade_fields fields = filter (is_named (codes "upgrade")) fields

-- the lines by which the end of a head speaks of an upgrade
abbrev pub upgrade_lines : List Field → List ℕ
upgrade_lines fields = flat_map field_line (upgrade_fields fields) ++ codes "Connection: upgrade\r\n\r\n"

-- the head of a request that asks for an upgrade, as it is forwarded. It has no length, since the request has no body
abbrev pub upgrade_text : Request → List ℕ
upgrade_text request =
    request_line request ++ flat_map field_line (kept_in_request request.fields) ++ via_line request
    ++ upgrade_lines request.fields

-- the response that has the head, and neither a length nor a body
abbrev pub bare_response : ResponseHead → Response
bare_response head =
    record { code = head.code; reason = head.reason; fields = head.fields; length = None; body = [] }

-- the head of a response that accepts an upgrade, as it is forwarded to the client
abbrev pub acceptance_text : ResponseHead → List ℕ
acceptance_text head =
    status_line (bare_response head) ++ flat_map field_line (kept_in_response head.fields)
    ++ upgrade_lines head.fields
