-- The faults that are faults of the stream.
use Rattle.std.proofs.Common.{◌≡◌, Bool, true, false, if◌then◌else◌, not, ◌&&◌, ◌==◌, codes, IsFalse, ℕ, Option, Some, None, Result, Ok, Err, IfErr, refl, subst, sym}
use Rattle.std.specs.Result.{IsErrAnd}
use Rattle.bg_http.specs.Codings.{codings}
use Rattle.bg_http.specs.Elements.{has_field}
use Rattle.bg_http.specs.Lengths.{Length, absent, is, wrong, content_length, number_within}
use Rattle.bg_http.specs.ResponseRules.{framing_within, framing_by_codings, framing_by_length_within, or_too_large, is_bad_code, is_interim, lacks_body, is_chunked_only}
use Rattle.bg_http.specs.declared.response.ResponseHead.{ResponseHead}
use Rattle.bg_http.specs.declared.response_fault.ResponseFault.{ResponseFault}
use Rattle.bg_http.specs.declared.response_fault.ResponseFault.TheVariants as fault
use Rattle.bg_http.specs.declared.response_rules.ResponseFraming.{ResponseFraming}
use Rattle.bg_http.specs.declared.response_rules.ResponseFraming.TheVariants as framing
use Rattle.bg_http_read.specs.ResponseStates.{is_of_stream}

-- a fact about the fault that is known holds for the fault of the answer
pub if_err_is : {T E : Type 0} (P : E → Type 0) (r : Result T E) (e : E)
    → IsErrAnd r (λ f. f ≡ e) → P e → IfErr r P
if_err_is P (Ok x) e h p = tt
if_err_is P (Err f) e h p = subst P (sym h) p

abbrev IsOfBytes : Result ResponseFraming ResponseFault → Type 0
IsOfBytes r = IfErr r (λ e. IsFalse (is_of_stream e))

of_rules : (bad interim empty coded : Bool) (x y : Result ResponseFraming ResponseFault)
    → IsOfBytes x → IsOfBytes y
    → IsOfBytes (if bad then Err fault.Bad else (if interim then Ok framing.Interim
    else (if empty then Ok framing.NoBody else (if coded then x else y))))
of_rules true interim empty coded x y h k = refl
of_rules false true empty coded x y h k = tt
of_rules false false true coded x y h k = tt
of_rules false false false true x y h k = h
of_rules false false false false x y h k = k

by_coding : (only : Bool) → IsOfBytes (if only then Ok framing.Chunks else Err fault.Bad)
by_coding true = tt
by_coding false = refl

by_size : (size : Option ℕ) → IsOfBytes (or_too_large size)
by_size None = refl
by_size (Some size) = tt

by_length : (most : ℕ) (length : Length) → IsOfBytes (framing_by_length_within most length)
by_length most absent = tt
by_length most (is digits) = by_size (number_within most digits)
by_length most wrong = refl

judged : (most : ℕ) (to_head : Bool) (head : ResponseHead) → IsOfBytes (framing_within most to_head head)
judged most to_head head =
    of_rules (is_bad_code head.code) (is_interim head.code) (lacks_body to_head head.code)
    (has_field (codes "transfer-encoding") head.fields) (framing_by_codings head)
    (framing_by_length_within most (content_length head.fields))
    (by_coding (not (head.minor == 0) && is_chunked_only (codings head.fields)))
    (by_length most (content_length head.fields))

-- the rules of heads give no fault of the stream
pub judged_of_bytes : (most : ℕ) (to_head : Bool) (head : ResponseHead) (e : ResponseFault)
    → framing_within most to_head head ≡ Err e → IsFalse (is_of_stream e)
judged_of_bytes most to_head head e h = subst IsOfBytes h (judged most to_head head)
