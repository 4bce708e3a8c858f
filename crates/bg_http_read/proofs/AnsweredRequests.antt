-- What is written to one client is read as the answers to its requests.
use Rattle.std.proofs.Common.{◌≡◌, ℕ, zero, suc, Bool, true, false, List, [], ◌++◌, map, refl, ap, sym, ◌∙◌, arith, subst, append_assoc, Some, Ok}
use Rattle.std.specs.Prelude.{codes, flat_map, if◌then◌else◌}
use Rattle.std.specs.Char.{is_ascii_digit}
use Rattle.std.specs.Fmt.{decimal}
use Rattle.std.proofs.lemmas.List.{append-nil}
use Rattle.std.proofs.lemmas.List.Sums.{AllPass-from_list_all}
use Rattle.httparse.specs.Grammar.{crlf, is_value_byte, print_response}
use Rattle.httparse.proofs.GrammarLemmas.{response_unique}
use Rattle.bg_http.specs.ResponseRules.{has_no_body, response_framing}
use Rattle.bg_http.specs.Texts.{body_sent, reason_of, refusal_text, response_text}
use Rattle.bg_http.specs.declared.request.Request.{Request}
use Rattle.bg_http.specs.declared.response.Response.{Response}
use Rattle.bg_http.specs.declared.response.ResponseHead.{ResponseHead}
use Rattle.bg_http.specs.declared.response_rules.ResponseFraming.{ResponseFraming}
use Rattle.bg_http.specs.declared.response_rules.ResponseFraming.TheVariants as framing
use Rattle.bg_http_read.specs.AnsweredRequests.{Answer, Answering, AreReadAsAnswered, IsAnswered, MayAnswer, answer_text, answered, client_text, forwarded_response, forwards, page_refusal, refusal, refuses, refuses_with, response_of}
use Rattle.bg_http_read.specs.AnySize.{JudgedOfAnySize, ReadsAfterInterim, ReadsResponseOfAnySize}
use Rattle.bg_http_read.specs.Requests.{continue_text}
use Rattle.bg_http_read.specs.Heads.{response_parts}
use Rattle.bg_http_read.specs.Responses.{ReadsResponseBody}
use Rattle.bg_http_read.proofs.AnsweredHeads.{IsWritable, answered_head, one_head_is_answered}
use Rattle.bg_http_read.proofs.AnsweredRules.{answer_is, answer_passes, answered_framing}
use Rattle.bg_http_read.proofs.ForwardedRules.{NoneGoesOn}
use Rattle.bg_http_read.proofs.OneResponse.{same_answer}
use Rattle.bg_http_read.proofs.OneSequence.{answers_are_read, one_sequence_of_answers}
use Rattle.bg_http_read.proofs.WrittenPages.{page_is, page_is_writable}
use Rattle.bg_http_read.proofs.WrittenResponses.{received_is_writable, refusal_is_writable}

-- ---- an input begins with at most one answer

same_head : (request : Request) (input : List ℕ) (head second : ResponseHead) (named called : ResponseFraming)
    (after next : List ℕ) → JudgedOfAnySize request input head named after
    → JudgedOfAnySize request input second called next → (head ≡ second) × (named ≡ called) × (after ≡ next)
same_head request input head second named called after next h k =
    let trees = response_unique input h.tree k.tree after next h.reads k.reads in
    let heads : head ≡ second = h.head_is ∙ ap response_parts trees.0 ∙ sym k.head_is in
    let both : Ok named ≡ Ok called = sym h.judged ∙ ap (response_framing request) heads ∙ k.judged in
    let names : named ≡ called = cc in
    (heads, names, trees.1)

one_after_interim : (request : Request) (count number : ℕ) (input : List ℕ) (one other : Response)
    (rest left : List ℕ) → ReadsAfterInterim request count one input rest
    → ReadsAfterInterim request number other input left → (one ≡ other) × (rest ≡ left)
one_after_interim request zero zero input one other rest left (head, named, after, h, is) (second, called, next, k, was) =
    let same = same_head request input head second named called after next h k in
    same_answer one other head second named called after next rest left same.0 same.1 same.2 is was
one_after_interim request zero (suc number) input one other rest left (head, named, after, h, is) (second, next, k, later) =
    let same = same_head request input head second named framing.Interim after next h k in
    absurd (subst (λ n. ReadsResponseBody n after one.body rest) same.1 is.body)
one_after_interim request (suc count) zero input one other rest left (head, after, h, later) (second, called, next, k, was) =
    let same = same_head request input second head called framing.Interim next after k h in
    absurd (subst (λ n. ReadsResponseBody n next other.body left) same.1 was.body)
one_after_interim request (suc count) (suc number) input one other rest left (head, after, h, later) (second, next, k, last) =
    let same = same_head request input head second framing.Interim framing.Interim after next h k in
    one_after_interim request count number next one other rest left
    (subst (λ l. ReadsAfterInterim request count one l rest) same.2 later) last

one_of_any_size : (request : Request) (input : List ℕ) (one other : Response) (rest left : List ℕ)
    → ReadsResponseOfAnySize request input one rest → ReadsResponseOfAnySize request input other left
    → (one ≡ other) × (rest ≡ left)
one_of_any_size request input one other rest left (count, h) (number, k) =
    one_after_interim request count number input one other rest left h k

-- ---- `100 Continue` is an interim response

continue_is_interim : (request : Request) (rest : List ℕ)
    → JudgedOfAnySize request (continue_text ++ rest)
    (record { minor = 1; code = 100; reason = codes "Continue"; fields = [] }) framing.Interim rest
unfolding print_response
continue_is_interim request rest = record {
  tree = record {
    blank = [];
    minor = 1;
    digits = codes "100";
    reason = Some (codes "Continue");
    line_end = crlf;
    fields = [];
    last = crlf;
  };
  reads = (
    record {
      minor = omega arith;
      digits = (refl, AllPass-from_list_all is_ascii_digit (codes "100") refl);
      reason = AllPass-from_list_all is_value_byte (codes "Continue") refl;
      fields = λ k d inside. absurd (omega (arith, inside));
    },
    refl,
  );
  head_is = refl;
  judged = refl;
}

-- ---- the text of an answer

response_is_read : NoneGoesOn (codes "transfer-encoding") → NoneGoesOn (codes "content-length") → (keeps : Bool)
    (request : Request) (response : Response) (more : List ℕ) → IsWritable request response
    → ReadsAfterInterim request 0 (forwarded_response keeps response) (response_text keeps request response ++ more) more
response_is_read codings lengths keeps request response more w =
    let found = one_head_is_answered keeps request response more w in (
      answered_head keeps response,
      answered_framing (has_no_body request response.code) response,
      body_sent request response ++ more,
      record {
        tree = found.0;
        reads = found.1;
        head_is = found.2;
        judged = answer_passes codings lengths keeps request response w;
      },
      answer_is codings lengths keeps request response more w,
    )

-- a refusal is written as a response without fields
refusal_is : (request : Request) (status : ℕ) → refusal_text status ≡ response_text false request (refusal status)
refusal_is request status =
    parts (codes "HTTP/1.1 ") (decimal status) (codes " ") (reason_of status) (codes "\r\n")
    (codes "Content-Length: 0\r\n") (codes "Connection: close\r\n\r\n")
    ∙ ap (λ b. (codes "HTTP/1.1 " ++ decimal status ++ codes " " ++ reason_of status ++ codes "\r\n")
    ++ [] ++ codes "Content-Length: 0\r\n" ++ codes "Connection: close\r\n\r\n" ++ b)
    (sym (nothing (has_no_body request status)))
  where
    parts : (a d s r e l c : List ℕ)
        → a ++ (d ++ (s ++ (r ++ (e ++ (l ++ c))))) ≡ (a ++ d ++ s ++ r ++ e) ++ [] ++ l ++ c ++ []
    parts a d s r e l c = simp (append_assoc, append-nil)

    nothing : (t : Bool) → if◌then◌else◌ {A = List ℕ} t [] [] ≡ []
    nothing true = refl
    nothing false = refl

answer_is_read : NoneGoesOn (codes "transfer-encoding") → NoneGoesOn (codes "content-length") → (keeps : Bool)
    (request : Request) (answer : Answer) (more : List ℕ) → MayAnswer request answer
    → ReadsAfterInterim request 0 (response_of keeps request answer) (answer_text keeps request answer ++ more) more
answer_is_read codings lengths keeps request (forwards response) more (input, reads) =
    response_is_read codings lengths keeps request response more (received_is_writable request response input reads)
answer_is_read codings lengths keeps request (refuses status) more is =
    subst (λ l. ReadsAfterInterim request 0 (forwarded_response false (refusal status)) (l ++ more) more)
    (sym (refusal_is request status))
    (response_is_read codings lengths false request (refusal status) more (refusal_is_writable request status is))
answer_is_read codings lengths keeps request (refuses_with page status) more is =
    let response = page_refusal page request status in
    subst (λ l. ReadsAfterInterim request 0 (forwarded_response false response) (l ++ more) more)
    (sym (page_is page request status is))
    (response_is_read codings lengths false request response more (page_is_writable page request status is))

client_text_is_read : NoneGoesOn (codes "transfer-encoding") → NoneGoesOn (codes "content-length")
    → (answering : Answering) (more : List ℕ) → IsAnswered answering
    → ReadsResponseOfAnySize answering.request (client_text answering ++ more) (answered answering) more
client_text_is_read codings lengths answering more is = by_test answering.continues
  where
    request : Request
    request = answering.request

    text : List ℕ
    text = answer_text answering.keeps request answering.answer

    read : ReadsAfterInterim request 0 (answered answering) (text ++ more) more
    read = answer_is_read codings lengths answering.keeps request answering.answer more is

    by_test : (t : Bool)
        → ReadsResponseOfAnySize request (((if t then continue_text else []) ++ text) ++ more) (answered answering) more
    by_test true =
        subst (λ l. ReadsResponseOfAnySize request l (answered answering) more) (sym (append_assoc continue_text text more))
        (1, (_, text ++ more, continue_is_interim request (text ++ more), read))
    by_test false = (0, read)

pub read_as_answered : NoneGoesOn (codes "transfer-encoding") → NoneGoesOn (codes "content-length")
    → (answerings : List Answering) (others : List Response) (rest : List ℕ) → AreReadAsAnswered answerings others rest
read_as_answered codings lengths answerings others rest good =
    let read = answers_are_read ReadsResponseOfAnySize IsAnswered (λ answering. answering.request) client_text answered
    (client_text_is_read codings lengths) answerings good in (
      read,
      λ h. one_sequence_of_answers ReadsResponseOfAnySize one_of_any_size (map (λ answering. answering.request) answerings)
          others (map answered answerings) (flat_map client_text answerings) rest [] h read,
    )
