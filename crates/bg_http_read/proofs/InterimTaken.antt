-- Interim responses and the head after them, at the beginning of bytes.
use Rattle.std.proofs.Common.{◌≡◌, true, ℕ, zero, suc, ◌≤◌, List, ◌++◌, refl, ap, ◌∙◌, arith, Ok, Err, Option, Some, None, IfSome, IsFalse}
use Rattle.bg_http.specs.ResponseRules.{response_framing_within}
use Rattle.bg_http.specs.declared.request.Request.{Request}
use Rattle.bg_http.specs.declared.response.ResponseHead.{ResponseHead}
use Rattle.bg_http.specs.declared.response_fault.ResponseFault.{ResponseFault}
use Rattle.bg_http.specs.declared.response_fault.ResponseFault.TheVariants as fault
use Rattle.bg_http.specs.declared.response_rules.ResponseFraming.{ResponseFraming}
use Rattle.bg_http.specs.declared.response_rules.ResponseFraming.TheVariants as framing
use Rattle.bg_http_read.specs.MessageFaults.{as_response}
use Rattle.bg_http_read.specs.Heads.{HeadFails, ReadsResponseHead, response_heads}
use Rattle.bg_http_read.specs.Responses.{AfterInterim, IsFinalHeadWithin, JudgedWithin, ResponseFails, SkipsInterim, most_response_body, names_another, breaks_rule, many_interim, no_head, no_heads}
use Rattle.bg_http_read.specs.ResponseStates.{HeadsAreRefused, IsRefused}
use Rattle.bg_http_read.specs.declared.message_fault.MessageFault.{MessageFault}
use Rattle.bg_http_read.proofs.HeadsFound.{head_fails_more, head_more, response_head_fails, response_laws}
use Rattle.bg_http_read.proofs.OtherLimits.{judged_also}

-- a head that passes the rules does so in every continuation
judged_more : (most : ℕ) (request : Request) (input more : List ℕ) (head : ResponseHead)
    (named : ResponseFraming) (after : List ℕ) → JudgedWithin most request input head named after
    → JudgedWithin most request (input ++ more) head named (after ++ more)
judged_more most request input more head named after h =
    record { reads = head_more response_heads response_laws input more head after h.reads; judged = h.judged }

pub skips_behind : (request : Request) (count : ℕ) (input after more : List ℕ)
    → SkipsInterim request count input after
    → SkipsInterim request count (input ++ more) (after ++ more)
skips_behind request zero input after more h = ap (λ l. l ++ more) h
skips_behind request (suc count) input after more (before, head, skips, judged) = (
  before ++ more,
  head,
  skips_behind request count input before more skips,
  judged_more most_response_body request before more head framing.Interim after judged,
)

pub final_behind : (most : ℕ) (request : Request) (input more : List ℕ) (head : ResponseHead) (named : ResponseFraming)
    (after : List ℕ) → AfterInterim request input (IsFinalHeadWithin most request head named after)
    → AfterInterim request (input ++ more) (IsFinalHeadWithin most request head named (after ++ more))
final_behind most request input more head named after h = record {
  count = h.count;
  few = h.few;
  after = h.after ++ more;
  skips = skips_behind request h.count input h.after more h.skips;
  holds = (judged_more most request h.after more head named after h.holds.0, h.holds.1);
}

-- one more interim response was skipped
pub skips_next : (most : ℕ) (request : Request) (count : ℕ) (input before after : List ℕ)
    (head : ResponseHead) (named : ResponseFraming) → SkipsInterim request count input before
    → ReadsResponseHead before head after → response_framing_within most request head ≡ Ok named
    → names_another named ≡ true → SkipsInterim request (suc count) input after
skips_next most request count input before after head named skips reads judged another = (
  before,
  head,
  skips,
  record {
    reads = reads;
    judged = judged_also most most_response_body request head framing.Interim (judged ∙ ap Ok (only named another)) tt;
  },
)
  where
    only : (named : ResponseFraming) → names_another named ≡ true → named ≡ framing.Interim
    only framing.Interim t = refl
    only framing.NoBody t = cc
    only framing.Chunks t = cc
    only (framing.Length size) t = cc
    only framing.ToTheEnd t = cc

-- the head of a final response was found
pub final_found : (most : ℕ) (request : Request) (count : ℕ) (input before after : List ℕ)
    (head : ResponseHead) (named : ResponseFraming) → count ≤ 16
    → SkipsInterim request count input before → ReadsResponseHead before head after
    → response_framing_within most request head ≡ Ok named → IsFalse (names_another named)
    → AfterInterim request input (IsFinalHeadWithin most request head named after)
final_found most request count input before after head named few skips reads judged last = record {
  count = count;
  few = few;
  after = before;
  skips = skips;
  holds = (record { reads = reads; judged = judged }, last);
}

-- the head breaks a rule
pub rule_refuses : (most : ℕ) (request : Request) (count : ℕ) (input before after : List ℕ)
    (head : ResponseHead) (e : ResponseFault) → count ≤ 16
    → SkipsInterim request count input before → ReadsResponseHead before head after
    → response_framing_within most request head ≡ Err e → HeadsAreRefused most request e input
rule_refuses most request count input before after head e few skips reads broken more = breaks_rule (record {
  count = count;
  few = few;
  after = before ++ more;
  skips = skips_behind request count input before more skips;
  holds = (head, after ++ more, head_more response_heads response_laws before more head after reads, broken);
})

-- no head can come
pub head_refuses : (most : ℕ) (request : Request) (count : ℕ) (input before : List ℕ) (e : MessageFault)
    → count ≤ 16 → SkipsInterim request count input before → HeadFails response_heads before e
    → HeadsAreRefused most request (as_response e) input
head_refuses most request count input before e few skips fails more = no_head (record {
  count = count;
  few = few;
  after = before ++ more;
  skips = skips_behind request count input before more skips;
  holds = response_head_fails (before ++ more) e
      (head_fails_more response_heads response_laws before more e fails);
})

-- too many interim responses came
pub many_refuse : (most : ℕ) (request : Request) (input before : List ℕ)
    → SkipsInterim request 17 input before → HeadsAreRefused most request fault.Bad input
many_refuse most request input before skips more =
    many_interim refl (before ++ more, skips_behind request 17 input before more skips)

-- nothing is said about an allocation failure
pub memory_fails : (request : Request) (input : List ℕ)
    → ResponseFails request input fault.OutOfMemory
memory_fails request input =
    no_heads (no_head (record { count = 0; few = omega arith; after = input; skips = refl; holds = tt }))

pub memory_refuses : (request : Request) (input : List ℕ)
    → IsRefused request fault.OutOfMemory input
memory_refuses request input more = memory_fails request (input ++ more)

-- nothing is said about a failed read
pub reading_fails : (request : Request) (input : List ℕ)
    → ResponseFails request input fault.ReadFailed
reading_fails request input =
    no_heads (no_head (record { count = 0; few = omega arith; after = input; skips = refl; holds = tt }))

-- if a read failed, nothing is said about the input
pub machine_reading : (request : Request) (first : Option (List ℕ))
    → IfSome first (λ i. ResponseFails request i fault.ReadFailed)
machine_reading request None = tt
machine_reading request (Some i) = reading_fails request i
