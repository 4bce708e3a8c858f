-- A head that is judged within one limit is judged so within another one that its length keeps.
use Rattle.std.proofs.Common.{◌≡◌, ℕ, ◌≤◌, Bool, true, false, List, ap, subst, ◌∙◌, Some, None, Ok, Err}
use Rattle.std.specs.Prelude.{codes, nat_le, if◌then◌else◌}
use Rattle.std.specs.Str.Parse.{digits_value}
use Rattle.std.proofs.lemmas.Bool.{le-leb}
use Rattle.bg_http.specs.Elements.{has_field}
use Rattle.bg_http.specs.Lengths.{Length, absent, is, wrong, content_length}
use Rattle.bg_http.specs.ResponseRules.{framing_by_codings, framing_by_length_within, has_no_body, is_bad_code, is_interim, or_too_large, response_framing_within}
use Rattle.bg_http.specs.declared.request.Request.{Request}
use Rattle.bg_http.specs.declared.response.ResponseHead.{ResponseHead}
use Rattle.bg_http.specs.declared.response_fault.ResponseFault.TheVariants as fault
use Rattle.bg_http.specs.declared.response_rules.ResponseFraming.{ResponseFraming}
use Rattle.bg_http.specs.declared.response_rules.ResponseFraming.TheVariants as framing
use Rattle.bg_http_read.specs.ResponseHeads.{AreHeadsAlso, FitsWithin}

length_also : (most other : ℕ) (given : Length) (named : ResponseFraming) → framing_by_length_within most given ≡ Ok named
    → FitsWithin other named → framing_by_length_within other given ≡ Ok named
length_also most other absent named judged fits = judged
length_also most other (is digits) named judged fits = by_test (nat_le (digits_value 10 digits) most) judged
  where
    by_test : (t : Bool) → or_too_large (if t then Some (digits_value 10 digits) else None) ≡ Ok named
        → framing_by_length_within other (is digits) ≡ Ok named
    by_test true e =
        let same : named ≡ framing.Length (digits_value 10 digits) = cc in
        let small : digits_value 10 digits ≤ other = subst (FitsWithin other) same fits in
        ap (λ t. or_too_large (if t then Some (digits_value 10 digits) else None)) (le-leb (digits_value 10 digits) other small) ∙ e
    by_test false e = cc
length_also most other wrong named judged fits = judged

pub judged_also : (most other : ℕ) (request : Request) (head : ResponseHead) (named : ResponseFraming)
    → response_framing_within most request head ≡ Ok named → FitsWithin other named
    → response_framing_within other request head ≡ Ok named
judged_also most other request head named judged fits =
    by_tests (is_bad_code head.code) (is_interim head.code) (has_no_body request head.code)
    (has_field (codes "transfer-encoding") head.fields) judged
  where
    by_tests : (bad interim empty coded : Bool)
        → (if bad then Err fault.Bad else (if interim then Ok framing.Interim else (if empty then Ok framing.NoBody
        else (if coded then framing_by_codings head else framing_by_length_within most (content_length head.fields))))) ≡ Ok named
        → (if bad then Err fault.Bad else (if interim then Ok framing.Interim else (if empty then Ok framing.NoBody
        else (if coded then framing_by_codings head else framing_by_length_within other (content_length head.fields))))) ≡ Ok named
    by_tests true interim empty coded e = e
    by_tests false true empty coded e = e
    by_tests false false true coded e = e
    by_tests false false false true e = e
    by_tests false false false false e = length_also most other (content_length head.fields) named e fits

pub heads_also : (most other : ℕ) (request : Request) (input : List ℕ) (head : ResponseHead) (named : ResponseFraming)
    → AreHeadsAlso most other request input head named
heads_also most other request input head named heads fits more =
    let h = heads more in
    record {
      count = h.count;
      few = h.few;
      after = h.after;
      skips = h.skips;
      holds = (
        record {
          reads = h.holds.0.reads;
          judged = judged_also most other request head named h.holds.0.judged fits;
        },
        h.holds.1,
      );
    }
