-- The rules of a request's head give no fault of the stream.
use Rattle.std.proofs.Common.{◌≡◌, Bool, true, false, if◌then◌else◌, not, ◌&&◌, ◌||◌, ◌==◌, codes, length, nat_lt, IsFalse, ℕ, Option, Some, None, Err, IfErr, IfSome, refl, subst}
use Rattle.std.specs.Prelude.{count_by}
use Rattle.std.specs.Result.{result_err}
use Rattle.std.specs.Str.{bytes_eq}
use Rattle.bg_http.specs.Codings.{codings, ends_in_chunked}
use Rattle.bg_http.specs.Elements.{has_field, is_named}
use Rattle.bg_http.specs.Lengths.{Length, absent, is, wrong, content_length, number_within}
use Rattle.bg_http.specs.RequestRules.{request_framing, request_rules, connect_fault, host_fault, framing_fault, coding_fault, length_fault, first_broken, framing_of, unless_broken, or_later, length_within, size_or_too_large}
use Rattle.bg_http.specs.declared.request.RequestHead.{RequestHead}
use Rattle.bg_http.specs.declared.request_fault.RequestFault.{RequestFault}
use Rattle.bg_http.specs.declared.request_fault.RequestFault.TheVariants as fault
use Rattle.bg_http.specs.declared.request_rules.Framing.{Framing}
use Rattle.bg_http_read.specs.RequestStates.{is_of_stream}

abbrev IsOfRule : Option RequestFault → Type 0
IsOfRule o = IfSome o (λ e. IsFalse (is_of_stream e))

by_test : (broken : Bool) (e : RequestFault) → IsFalse (is_of_stream e)
    → IsOfRule (if broken then Some e else None)
by_test true e h = h
by_test false e h = tt

by_codings : (plain other many : Bool)
    → IsOfRule (if plain then None else (if other then Some fault.Bad
    else (if many then Some fault.NotDone else None)))
by_codings true other many = tt
by_codings false true many = refl
by_codings false false true = refl
by_codings false false false = tt

by_size : (size : Option ℕ) → IsOfRule (result_err (size_or_too_large size))
by_size None = refl
by_size (Some size) = tt

by_length : (length : Length) → IsOfRule (result_err (length_within 1048576 length))
by_length absent = tt
by_length (is digits) = by_size (number_within 1048576 digits)
by_length wrong = refl

later : (one other : Option RequestFault) → IsOfRule one → IsOfRule other
    → IsOfRule (or_later one other)
later None other h k = k
later (Some e) other h k = h

unless : (broken : Option RequestFault) (named : Framing) → IsOfRule broken
    → IfErr (unless_broken broken named) (λ e. IsFalse (is_of_stream e))
unless None named h = tt
unless (Some e) named h = h

connect : (head : RequestHead) → IsOfRule (connect_fault head)
connect head = by_test (bytes_eq head.method (codes "CONNECT")) fault.NotDone refl

host : (head : RequestHead) → IsOfRule (host_fault head)
host head =
    let hosts = count_by (is_named (codes "host")) head.fields in
    by_test (nat_lt 1 hosts || ((hosts == 0) && not (head.minor == 0))) fault.Bad refl

framed : (head : RequestHead) → IsOfRule (framing_fault head)
framed head =
    by_test (has_field (codes "transfer-encoding") head.fields
    && (has_field (codes "content-length") head.fields || (head.minor == 0))) fault.Bad refl

coded : (head : RequestHead) → IsOfRule (coding_fault head)
coded head =
    by_codings (not (has_field (codes "transfer-encoding") head.fields))
    (not (ends_in_chunked (codings head.fields))) (nat_lt 1 (length (codings head.fields)))

broken : (head : RequestHead) → IsOfRule (first_broken request_rules head)
broken head =
    let sized : Option RequestFault = or_later (length_fault head) None in
    let by_coding : Option RequestFault = or_later (coding_fault head) sized in
    let by_framing : Option RequestFault = or_later (framing_fault head) by_coding in
    let by_host : Option RequestFault = or_later (host_fault head) by_framing in
    later (connect_fault head) by_host (connect head)
    (later (host_fault head) by_framing (host head)
    (later (framing_fault head) by_coding (framed head)
    (later (coding_fault head) sized (coded head)
    (later (length_fault head) None (by_length (content_length head.fields)) tt))))

pub judged_request_of_bytes : (head : RequestHead) (e : RequestFault)
    → request_framing head ≡ Err e → IsFalse (is_of_stream e)
judged_request_of_bytes head e h =
    subst (λ r. IfErr r (λ f. IsFalse (is_of_stream f))) h
    (unless (first_broken request_rules head) (framing_of head) (broken head))
