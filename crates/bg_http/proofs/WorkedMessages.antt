-- Messages whose answers were worked out by hand. Evaluation alone proves each.
use Rattle.std.proofs.Common.{◌≡◌, ℕ, Bool, true, false, List, [], ◌∷◌, refl}
use Rattle.std.specs.Fmt.{digits}
use Rattle.std.specs.Prelude.{Some, None, Result, Ok, Err, codes}
use Rattle.bg_http.specs.Elements.{Field}
use Rattle.bg_http.specs.RequestRules.{request_framing, owes_continue}
use Rattle.bg_http.specs.ResponseRules.{response_framing, response_framing_within, length_told}
use Rattle.bg_http.specs.Texts.{request_text, response_text, refusal_text}
use Rattle.bg_http.specs.declared.request.RequestHead.{RequestHead}
use Rattle.bg_http.specs.declared.request.Request.{Request}
use Rattle.bg_http.specs.declared.response.ResponseHead.{ResponseHead}
use Rattle.bg_http.specs.declared.request_rules.Framing.{Framing}
use Rattle.bg_http.specs.declared.request_fault.RequestFault.{RequestFault}
use Rattle.bg_http.specs.declared.request_rules.Framing.TheVariants as framing
use Rattle.bg_http.specs.declared.request_fault.RequestFault.TheVariants as fault
use Rattle.bg_http.specs.declared.response_rules.ResponseFraming.{ResponseFraming}
use Rattle.bg_http.specs.declared.response_fault.ResponseFault.{ResponseFault}
use Rattle.bg_http.specs.declared.response_rules.ResponseFraming.TheVariants as ending
use Rattle.bg_http.specs.declared.response_fault.ResponseFault.TheVariants as wrong

abbrev host : Field
host = (codes "Host", codes "x")

-- the head of a request for `/p`
abbrev head_of : List ℕ → ℕ → List Field → RequestHead
head_of method minor fields =
    record { method = method; target = codes "/p"; minor = minor; fields = fields }

-- the framing of a POST in version 1.1 with a Host and these fields, or the fault
abbrev posted : List Field → Result Framing RequestFault
posted fields = request_framing (head_of (codes "POST") 1 (host ∷ fields))

-- a Content-Length field
abbrev length_field : List ℕ → Field
length_field value = (codes "Content-Length", value)

abbrev coding_field : List ℕ → Field
coding_field value = (codes "Transfer-Encoding", value)

-- a request without Content-Length and Transfer-Encoding has no body
no_body : request_framing (head_of (codes "GET") 1 (host ∷ [])) ≡ Ok framing.NoBody
no_body = refl

-- `CONNECT` is refused as `NotDone`, even without Host; methods are case-sensitive
connect : request_framing (head_of (codes "CONNECT") 1 []) ≡ Err fault.NotDone
connect = refl

connect_in_lower_case : request_framing (head_of (codes "connect") 1 (host ∷ [])) ≡ Ok framing.NoBody
connect_in_lower_case = refl

-- version 1.1 needs exactly one Host, version 1.0 takes at most one; its name is case-insensitive
no_host : request_framing (head_of (codes "GET") 1 []) ≡ Err fault.Bad
no_host = refl

no_host_in_1_0 : request_framing (head_of (codes "GET") 0 []) ≡ Ok framing.NoBody
no_host_in_1_0 = refl

two_hosts : request_framing (head_of (codes "GET") 1 (host ∷ (codes "hOST", codes "x") ∷ [])) ≡ Err fault.Bad
two_hosts = refl

two_hosts_in_1_0 : request_framing (head_of (codes "GET") 0 (host ∷ host ∷ [])) ≡ Err fault.Bad
two_hosts_in_1_0 = refl

-- both fields together are refused, whatever they say; codings in version 1.0 are refused too
both_fields : posted (length_field (codes "2") ∷ coding_field (codes "chunked") ∷ []) ≡ Err fault.Bad
both_fields = refl

both_fields_and_gzip : posted (coding_field (codes "gzip, chunked") ∷ length_field (codes "9999999") ∷ []) ≡ Err fault.Bad
both_fields_and_gzip = refl

codings_in_1_0 : request_framing (head_of (codes "POST") 0 (coding_field (codes "chunked") ∷ [])) ≡ Err fault.Bad
codings_in_1_0 = refl

-- `chunked`, in any case, is the only coding; the empty elements of all fields are skipped
chunks : posted (coding_field (codes "chunked") ∷ []) ≡ Ok framing.Chunks
chunks = refl

chunks_in_any_case : posted ((codes "transfer-ENCODING", codes "cHuNkEd") ∷ []) ≡ Ok framing.Chunks
chunks_in_any_case = refl

chunks_and_nothing : posted (coding_field (codes " ,chunked\t, ") ∷ coding_field [] ∷ []) ≡ Ok framing.Chunks
chunks_and_nothing = refl

other_coding : posted (coding_field (codes "gzip") ∷ []) ≡ Err fault.Bad
other_coding = refl

no_coding : posted (coding_field (codes ", ,") ∷ []) ≡ Err fault.Bad
no_coding = refl

coding_before : posted (coding_field (codes "gzip, chunked") ∷ []) ≡ Err fault.NotDone
coding_before = refl

coding_in_the_field_before : posted (coding_field (codes "gzip") ∷ coding_field (codes "chunked") ∷ []) ≡ Err fault.NotDone
coding_in_the_field_before = refl

coding_after : posted (coding_field (codes "chunked, gzip") ∷ []) ≡ Err fault.Bad
coding_after = refl

chunked_twice : posted (coding_field (codes "chunked, chunked") ∷ []) ≡ Err fault.NotDone
chunked_twice = refl

chunked_with_a_parameter : posted (coding_field (codes "chunked;q=1") ∷ []) ≡ Err fault.Bad
chunked_with_a_parameter = refl

-- the elements of all length fields are digits, and are equal without their leading zeros
length_two : posted (length_field (codes "2, 02") ∷ []) ≡ Ok (framing.Length 2)
length_two = refl

length_in_two_fields : posted (length_field (codes "2") ∷ (codes "content-length", codes "002") ∷ []) ≡ Ok (framing.Length 2)
length_in_two_fields = refl

length_zero : posted (length_field (codes "0, 000") ∷ []) ≡ Ok (framing.Length 0)
length_zero = refl

two_lengths : posted (length_field (codes "2, 3") ∷ []) ≡ Err fault.Bad
two_lengths = refl

lengths_of_two_fields : posted (length_field (codes "2") ∷ length_field (codes "3") ∷ []) ≡ Err fault.Bad
lengths_of_two_fields = refl

length_and_nothing : posted (length_field (codes "2,") ∷ []) ≡ Err fault.Bad
length_and_nothing = refl

length_with_a_sign : posted (length_field (codes "+2") ∷ []) ≡ Err fault.Bad
length_with_a_sign = refl

no_length : posted (length_field [] ∷ []) ≡ Err fault.Bad
no_length = refl

greatest_length : posted (length_field (codes "0001048576") ∷ []) ≡ Ok (framing.Length 1048576)
greatest_length = refl

length_too_large : posted (length_field (codes "1048577") ∷ []) ≡ Err fault.TooLarge
length_too_large = refl

length_beyond_numbers : posted (length_field (codes "99999999999999999999999999") ∷ []) ≡ Err fault.TooLarge
length_beyond_numbers = refl

two_large_lengths : posted (length_field (codes "99999999999999999999999999, 99999999999999999999999998") ∷ []) ≡ Err fault.Bad
two_large_lengths = refl

-- `100 Continue` is owed only in version 1.1, if nothing else is expected and a body is to come
abbrev expecting : List ℕ → ℕ → Framing → Bool
expecting value minor framing =
    owes_continue (head_of (codes "POST") minor (host ∷ (codes "Expect", value) ∷ [])) framing

owed_for_chunks : expecting (codes "100-Continue") 1 framing.Chunks ≡ true
owed_for_chunks = refl

owed_for_a_length : expecting (codes "100-continue") 1 (framing.Length 1) ≡ true
owed_for_a_length = refl

not_owed_for_nothing : expecting (codes "100-continue") 1 (framing.Length 0) ≡ false
not_owed_for_nothing = refl

not_owed_without_a_body : expecting (codes "100-continue") 1 framing.NoBody ≡ false
not_owed_without_a_body = refl

not_owed_in_1_0 : expecting (codes "100-continue") 0 (framing.Length 1) ≡ false
not_owed_in_1_0 = refl

not_owed_for_more : expecting (codes "100-continue, x") 1 framing.Chunks ≡ false
not_owed_for_more = refl

-- a request is forwarded without the fields that Connection names
abbrev get_request : Request
get_request =
    record {
      method = codes "GET";
      target = codes "/a";
      minor = 1;
      fields = host ∷ (codes "Connection", codes "keep-alive, X-Drop") ∷ (codes "X-Drop", codes "1") ∷ [];
      body = None;
    }

get_goes_on : request_text false get_request 9001
    ≡ codes "GET /a HTTP/1.1\r\nHost: x\r\nVia: 1.1 bg-switch\r\nConnection: close\r\n\r\n"
get_goes_on = refl

-- on a connection that is kept, no line speaks of the connection
get_goes_on_kept : request_text true get_request 9001
    ≡ codes "GET /a HTTP/1.1\r\nHost: x\r\nVia: 1.1 bg-switch\r\n\r\n"
get_goes_on_kept = refl

-- a request in version 1.0 without Host is forwarded with a Host that names the endpoint
old_goes_on : request_text false (record {
  method = codes "POST";
  target = codes "/p";
  minor = 0;
  fields = length_field (codes "2") ∷ [];
  body = Some (codes "hi");
}) 9002
    ≡ codes "POST /p HTTP/1.1\r\nHost: 127.0.0.1:9002\r\nVia: 1.0 bg-switch\r\nContent-Length: 2\r\nConnection: close\r\n\r\nhi"
unfolding digits
old_goes_on = refl

-- a chunked body is forwarded with a length, and an answered expectation isn't forwarded
chunks_go_on : request_text false (record {
  method = codes "POST";
  target = codes "/p";
  minor = 1;
  fields = (codes "Host", codes "x") ∷ (codes "Expect", codes "100-continue") ∷ coding_field (codes "chunked") ∷ [];
  body = Some (codes "hi");
}) 9001
    ≡ codes "POST /p HTTP/1.1\r\nHost: x\r\nVia: 1.1 bg-switch\r\nContent-Length: 2\r\nConnection: close\r\n\r\nhi"
unfolding digits
chunks_go_on = refl

-- names in any case are removed, but never Host; Via is kept; an empty body is sent with a length
fields_go_on : request_text false (record {
  method = codes "PUT";
  target = codes "/";
  minor = 1;
  fields = (codes "CONNECTION", codes "host,via-x , expect") ∷ (codes "Host", codes "x") ∷ (codes "Keep-Alive", codes "1")
      ∷ (codes "Via", codes "1.0 a") ∷ (codes "via-X", codes "1") ∷ (codes "te", codes "trailers") ∷ (codes "Proxy-Connection", codes "close")
      ∷ (codes "UPGRADE", codes "h2c") ∷ (codes "Trailer", codes "T") ∷ (codes "A", []) ∷ length_field (codes "0") ∷ [];
  body = Some [];
}) 1
    ≡ codes "PUT / HTTP/1.1\r\nHost: x\r\nVia: 1.0 a\r\nA: \r\nVia: 1.1 bg-switch\r\nContent-Length: 0\r\nConnection: close\r\n\r\n"
unfolding digits
fields_go_on = refl

-- the head of a response, and its framing as a response to a GET and to a HEAD
abbrev answer : ℕ → ℕ → List Field → ResponseHead
answer minor code fields = record { minor = minor; code = code; reason = codes "R"; fields = fields }

abbrev head_request : Request
head_request =
    record { method = codes "HEAD"; target = codes "/a"; minor = 1; fields = host ∷ []; body = None }

abbrev got : ℕ → ℕ → List Field → Result ResponseFraming ResponseFault
got minor code fields = response_framing get_request (answer minor code fields)

-- a code below 100 is refused, and 101 too; other codes are interim, or have no body
code_99 : got 1 99 [] ≡ Err wrong.Bad
code_99 = refl

code_100 : got 1 100 (length_field (codes "5") ∷ []) ≡ Ok ending.Interim
code_100 = refl

code_101 : got 1 101 [] ≡ Err wrong.Bad
code_101 = refl

code_199 : got 1 199 [] ≡ Ok ending.Interim
code_199 = refl

code_204 : got 1 204 (length_field (codes "5") ∷ []) ≡ Ok ending.NoBody
code_204 = refl

code_304 : got 1 304 (coding_field (codes "chunked") ∷ []) ≡ Ok ending.NoBody
code_304 = refl

answer_to_head : response_framing head_request (answer 1 200 (length_field (codes "10") ∷ [])) ≡ Ok ending.NoBody
answer_to_head = refl

interim_to_head : response_framing head_request (answer 1 103 []) ≡ Ok ending.Interim
interim_to_head = refl

-- codings override a length; codings other than `chunked`, and codings in version 1.0, are bad
answer_in_chunks : got 1 200 (coding_field (codes "Chunked,") ∷ length_field (codes "x") ∷ []) ≡ Ok ending.Chunks
answer_in_chunks = refl

answer_in_chunks_in_1_0 : got 0 200 (coding_field (codes "chunked") ∷ []) ≡ Err wrong.Bad
answer_in_chunks_in_1_0 = refl

answer_in_gzip : got 1 200 (coding_field (codes "gzip, chunked") ∷ []) ≡ Err wrong.Bad
answer_in_gzip = refl

answer_in_no_coding : got 1 200 (coding_field [] ∷ []) ≡ Err wrong.Bad
answer_in_no_coding = refl

-- a body has a length, or goes to the end of the input
answer_by_length : got 0 200 (length_field (codes "4194304") ∷ []) ≡ Ok (ending.Length 4194304)
answer_by_length = refl

answer_too_large : got 1 500 (length_field (codes "4194305") ∷ []) ≡ Err wrong.TooLarge
answer_too_large = refl

-- another limit, of which only a length takes notice
abbrev within : ℕ → List Field → Result ResponseFraming ResponseFault
within most fields = response_framing_within most get_request (answer 1 200 fields)

answer_within_more : within 5000000000 (length_field (codes "5000000000") ∷ []) ≡ Ok (ending.Length 5000000000)
answer_within_more = refl

answer_beyond_more : within 4999999999 (length_field (codes "5000000000") ∷ []) ≡ Err wrong.TooLarge
answer_beyond_more = refl

answer_within_none : within 0 (coding_field (codes "chunked") ∷ []) ≡ Ok ending.Chunks
answer_within_none = refl

answer_of_two_lengths : got 1 200 (length_field (codes "1, 2") ∷ []) ≡ Err wrong.Bad
answer_of_two_lengths = refl

answer_to_the_end : got 0 200 [] ≡ Ok ending.ToTheEnd
answer_to_the_end = refl

-- the length that is forwarded if there is no body
told_without_zeros : length_told (answer 1 304 (length_field (codes "010") ∷ [])) ≡ Some (codes "10")
told_without_zeros = refl

told_zero : length_told (answer 1 200 (length_field (codes "00, 0") ∷ [])) ≡ Some (codes "0")
told_zero = refl

told_beyond_numbers : length_told (answer 1 200 (length_field (codes "99999999999999999999999") ∷ [])) ≡ Some (codes "99999999999999999999999")
told_beyond_numbers = refl

not_told_of_two : length_told (answer 1 304 (length_field (codes "1, 2") ∷ [])) ≡ None
not_told_of_two = refl

not_told_beside_codings : length_told (answer 1 200 (coding_field (codes "chunked") ∷ length_field (codes "1") ∷ [])) ≡ None
not_told_beside_codings = refl

not_told_of_204 : length_told (answer 1 204 (length_field (codes "5") ∷ [])) ≡ None
not_told_of_204 = refl

-- responses as they are forwarded
chunks_go_back : response_text false get_request (record {
  code = 200;
  reason = codes "OK";
  fields = coding_field (codes "chunked") ∷ [];
  length = Some (codes "3");
  body = codes "abc";
})
    ≡ codes "HTTP/1.1 200 OK\r\nContent-Length: 3\r\nConnection: close\r\n\r\nabc"
unfolding digits
chunks_go_back = refl

-- on a connection that is kept, no line speaks of the connection
answer_goes_back_kept : response_text true get_request (record {
  code = 200;
  reason = codes "OK";
  fields = (codes "Connection", codes "keep-alive, X-Drop") ∷ (codes "X-Drop", codes "1") ∷ [];
  length = Some (codes "3");
  body = codes "abc";
})
    ≡ codes "HTTP/1.1 200 OK\r\nContent-Length: 3\r\n\r\nabc"
unfolding digits
answer_goes_back_kept = refl

head_goes_back : response_text false head_request (record {
  code = 200;
  reason = codes "OK";
  fields = length_field (codes "10") ∷ [];
  length = Some (codes "10");
  body = codes "abc";
})
    ≡ codes "HTTP/1.1 200 OK\r\nContent-Length: 10\r\nConnection: close\r\n\r\n"
unfolding digits
head_goes_back = refl

nothing_goes_back : response_text false get_request (record {
  code = 204;
  reason = codes "No Content";
  fields = length_field (codes "5") ∷ [];
  length = None;
  body = [];
})
    ≡ codes "HTTP/1.1 204 No Content\r\nConnection: close\r\n\r\n"
unfolding digits
nothing_goes_back = refl

-- Via and Expect of a response are kept, and so is the space before an empty reason
fields_go_back : response_text false get_request (record {
  code = 200;
  reason = [];
  fields = (codes "Via", codes "1.1 b") ∷ (codes "Expect", codes "100-continue") ∷ (codes "X", codes "1") ∷ (codes "connection", codes "x") ∷ [];
  length = Some (codes "0");
  body = [];
})
    ≡ codes "HTTP/1.1 200 \r\nVia: 1.1 b\r\nExpect: 100-continue\r\nContent-Length: 0\r\nConnection: close\r\n\r\n"
unfolding digits
fields_go_back = refl

refusal_goes_back : refusal_text 431
    ≡ codes "HTTP/1.1 431 Request Header Fields Too Large\r\nContent-Length: 0\r\nConnection: close\r\n\r\n"
unfolding digits
refusal_goes_back = refl

unavailable_goes_back : refusal_text 503
    ≡ codes "HTTP/1.1 503 Service Unavailable\r\nContent-Length: 0\r\nConnection: close\r\n\r\n"
unfolding digits
unavailable_goes_back = refl
