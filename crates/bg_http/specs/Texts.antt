-- The bytes in which messages are written (RFC 9112 sections 2.1, 3, 4 and 5).
use Rattle.std.specs.Prelude.{ℕ, Bool, true, false, not, if◌then◌else◌, ◌==◌, ◌&&◌, List, [], ◌++◌, length, flat_map, codes, Option, Some, None}
use Rattle.std.specs.Fmt.{decimal}
use Rattle.bg_http.specs.Elements.{Field, has_field}
use Rattle.bg_http.specs.Removed.{kept_in_request, kept_in_response}
use Rattle.bg_http.specs.ResponseRules.{has_no_body}
use Rattle.bg_http.specs.declared.body_end.BodyEnd.{BodyEnd}
use Rattle.bg_http.specs.declared.body_end.BodyEnd.TheVariants as end
use Rattle.bg_http.specs.declared.request.Request.{Request}
use Rattle.bg_http.specs.declared.request_rules.Framing.{Framing}
use Rattle.bg_http.specs.declared.request_rules.Framing.TheVariants as framing
use Rattle.bg_http.specs.declared.response.Response.{Response}

-- a field's line
abbrev pub field_line : Field → List ℕ
field_line field = field.0 ++ codes ": " ++ field.1 ++ codes "\r\n"

-- a request is forwarded as HTTP/1.1, whatever its own version is
abbrev pub request_line : Request → List ℕ
request_line request =
    request.method ++ codes " " ++ request.target ++ codes " HTTP/1.1\r\n"

-- a request of version 1.0 may have no Host, but HTTP/1.1 requires one (RFC 9112 section 3.2)
abbrev pub host_line : Request → ℕ → List ℕ
host_line request port =
    if (request.minor == 0) && not (has_field (codes "host") request.fields)
    then codes "Host: 127.0.0.1:" ++ decimal port ++ codes "\r\n" else []

-- the version in which the request was received (RFC 9110 section 7.6.3)
abbrev pub via_line : Request → List ℕ
via_line request =
    if request.minor == 0 then codes "Via: 1.0 bg-switch\r\n" else codes "Via: 1.1 bg-switch\r\n"

-- the length of a body, if there is a body
abbrev pub size_line : Option (List ℕ) → List ℕ
size_line None = []
size_line (Some body) = codes "Content-Length: " ++ decimal (length body) ++ codes "\r\n"

abbrev pub bytes_of : Option (List ℕ) → List ℕ
bytes_of None = []
bytes_of (Some body) = body

-- the end of a head: on a connection that is not kept, its last line says so
abbrev pub end_of_head : Bool → List ℕ
end_of_head true = codes "\r\n"
end_of_head false = codes "Connection: close\r\n\r\n"

-- the head of a request as it is forwarded to the port, on a connection that is kept or not
abbrev pub request_head_text : Bool → Request → ℕ → List ℕ
request_head_text keeps request port =
    request_line request ++ host_line request port
    ++ flat_map field_line (kept_in_request request.fields)
    ++ via_line request ++ size_line request.body ++ end_of_head keeps

-- how a body ends that is passed on as it comes: by its length, or in chunks
abbrev pub framing_line : Framing → List ℕ
framing_line framing.NoBody = []
framing_line framing.Chunks = codes "Transfer-Encoding: chunked\r\n"
framing_line (framing.Length size) = codes "Content-Length: " ++ decimal size ++ codes "\r\n"

-- the head of a request before such a body
abbrev pub framed_head_text : Bool → Framing → Request → ℕ → List ℕ
framed_head_text keeps named request port =
    request_line request ++ host_line request port
    ++ flat_map field_line (kept_in_request request.fields)
    ++ via_line request ++ framing_line named ++ end_of_head keeps

-- a request as it is forwarded to the port, on a connection that is kept or not
abbrev pub request_text : Bool → Request → ℕ → List ℕ
request_text keeps request port = request_head_text keeps request port ++ bytes_of request.body

-- the space before the reason is always there
abbrev pub status_line : Response → List ℕ
status_line response =
    codes "HTTP/1.1 " ++ decimal response.code ++ codes " " ++ response.reason ++ codes "\r\n"

abbrev pub digits_line : List ℕ → List ℕ
digits_line digits = codes "Content-Length: " ++ digits ++ codes "\r\n"

-- the Content-Length, if there is one
abbrev pub length_line : Option (List ℕ) → List ℕ
length_line None = []
length_line (Some digits) = digits_line digits

-- how the body ends: by the Content-Length, if there is one, or in chunks
abbrev pub body_end_line : BodyEnd → Option (List ℕ) → List ℕ
body_end_line end.Length given = length_line given
body_end_line end.Chunks given = codes "Transfer-Encoding: chunked\r\n"

-- the head of a response as it is forwarded to the client, on a connection that is kept or not
abbrev pub response_head_text : Bool → BodyEnd → Response → List ℕ
response_head_text keeps named response =
    status_line response ++ flat_map field_line (kept_in_response response.fields)
    ++ body_end_line named response.length ++ end_of_head keeps

-- the body; none to HEAD and for 204 and 304
abbrev pub body_sent : Request → Response → List ℕ
body_sent request response = if has_no_body request response.code then [] else response.body

-- a response as it is forwarded to the client, on a connection that is kept or not
abbrev pub response_text : Bool → Request → Response → List ℕ
response_text keeps request response =
    response_head_text keeps end.Length response ++ body_sent request response

-- the reason of a refusal (RFC 9110 section 15, RFC 6585 section 5)
abbrev pub reason_of : ℕ → List ℕ
reason_of status =
    if status == 400 then codes "Bad Request"
    else (if status == 413 then codes "Content Too Large"
    else (if status == 431 then codes "Request Header Fields Too Large"
    else (if status == 501 then codes "Not Implemented"
    else (if status == 502 then codes "Bad Gateway"
    else codes "Service Unavailable"))))

-- a refusal, which has an empty body
abbrev pub refusal_text : ℕ → List ℕ
refusal_text status =
    codes "HTTP/1.1 " ++ (decimal status ++ (codes " " ++ (reason_of status
    ++ codes "\r\nContent-Length: 0\r\nConnection: close\r\n\r\n")))
