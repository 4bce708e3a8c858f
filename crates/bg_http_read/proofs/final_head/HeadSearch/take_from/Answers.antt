use Rattle.std.proofs.Common.{rules, ◌≡◌, ◌+◌, ℕ, suc, Bool, true, IsFalse, arith, drop, length, ap, subst, sym, ◌∙◌, Result, Ok, Err}
use Rattle.std.proofs.lemmas.List.{drop-drop, length-drop}
use Rattle.bg_http.specs.ResponseRules.{asks_for_head, framing_within, response_framing_within}
use Rattle.bg_http.specs.declared.request.Request.{Request}
use Rattle.bg_http.specs.declared.response.ResponseHead.{ResponseHead}
use Rattle.bg_http.specs.declared.response_fault.ResponseFault.{ResponseFault}
use Rattle.bg_http.specs.declared.response_rules.ResponseFraming.{ResponseFraming}
use Rattle.bg_http_read.specs.Heads.{HeadFails, ReadsResponseHead, response_heads}
use Rattle.bg_http_read.specs.Responses.{SkipsInterim, names_another}
use Rattle.bg_http_read.specs.ResponseStates.{HeadsAreRefused, is_of_stream}
use Rattle.bg_http_read.specs.MessageFaults.{as_response}
use Rattle.bg_http_read.proofs.InterimTaken.{final_found, head_refuses, rule_refuses, many_refuse, skips_next}
use Rattle.bg_http_read.proofs.StreamFaults.{if_err_is, judged_of_bytes}
use Rattle.bg_http_read.proofs.final_head.HeadSearch.take_from.Goals as goal

-- the judgement is the one for each request whose method is HEAD or not, as the search was told
judged_so : (most : ℕ) (to_head : Bool) (request : Request) (head : ResponseHead)
    (r : Result ResponseFraming ResponseFault) → to_head ≡ asks_for_head request
    → r ≡ framing_within most to_head head → r ≡ response_framing_within most request head
judged_so most to_head request head r asked judged = judged ∙ ap (λ t. framing_within most t head) asked

pub returns-in_err-found-clause-refused : goal.returns-in_err-found-clause-refused
returns-in_err-found-clause-refused c request seen asked skips =
    let e = c.in_err-found.field-0.0 in
    if_err_is (λ fault. HeadsAreRefused c.args.most request fault seen) c.from_residual.result (as_response e) c.from_residual.ensures.1
    (head_refuses c.args.most request c.loop-self.self.interim seen (drop c.loop-self.taken c.args.bytes.now) e
    (omega (arith, c.loop-self-test.true)) (c.loop-self.invariant.skips request seen asked skips)
    (subst (λ l. HeadFails response_heads l e) c.behind-rest.ensures c.in_err-found.ensures))

pub returns-in_err-framing-clause-refused : goal.returns-in_err-framing-clause-refused
returns-in_err-framing-clause-refused c request seen asked skips =
    let w = drop c.loop-self.taken c.args.bytes.now in
    let found = rw c.in-Some.is at c.in_ok-found.ensures in
    let reads = subst (λ l. ReadsResponseHead l c.in-Some.head (drop c.in-Some.count l)) c.behind-rest.ensures found.1 in
    let e = c.in_err-framing.field-0.0 in
    if_err_is (λ fault. HeadsAreRefused c.args.most request fault seen) c.from_residual-in_err-framing.result e c.from_residual-in_err-framing.ensures.1
    (rule_refuses c.args.most request c.loop-self.self.interim seen w (drop c.in-Some.count w) c.in-Some.head e
    (omega (arith, c.loop-self-test.true)) (c.loop-self.invariant.skips request seen asked skips) reads
    (sym (judged_so c.args.most c.args.to_head request c.in-Some.head (Err e) asked c.in_err-framing.ensures)))

pub returns-in_err-framing-clause-fault : goal.returns-in_err-framing-clause-fault
returns-in_err-framing-clause-fault c =
    let e = c.in_err-framing.field-0.0 in
    if_err_is (λ fault. IsFalse (is_of_stream fault)) c.from_residual-in_err-framing.result e c.from_residual-in_err-framing.ensures.1
    (judged_of_bytes c.args.most c.args.to_head c.in-Some.head e (sym c.in_err-framing.ensures))

pub returns-then-not-names_another-clause-head : goal.returns-then-not-names_another-clause-head
returns-then-not-names_another-clause-head c request seen asked skips =
    let w = drop c.loop-self.taken c.args.bytes.now in
    let found = rw c.in-Some.is at c.in_ok-found.ensures in
    let reads = subst (λ l. ReadsResponseHead l c.in-Some.head (drop c.in-Some.count l)) c.behind-rest.ensures found.1 in
    final_found c.args.most request c.loop-self.self.interim seen w (drop (c.loop-self.taken + c.in-Some.count) c.args.bytes.now) c.in-Some.head
    c.in_ok-framing.framing (omega (arith, c.loop-self-test.true)) (c.loop-self.invariant.skips request seen asked skips)
    (subst (ReadsResponseHead w c.in-Some.head) (drop-drop c.in-Some.count c.loop-self.taken c.args.bytes.now) reads)
    (sym (judged_so c.args.most c.args.to_head request c.in-Some.head (Ok c.in_ok-framing.framing) asked c.in_ok-framing.ensures)) (sym c.names_another.ensures ∙ c.if-not-names_another.true)

pub returns-clause-refused : goal.returns-clause-refused
returns-clause-refused c request seen asked skips =
    let w = drop c.loop-self.taken c.args.bytes.now in
    let all : c.loop-self.self.interim ≡ 17 = omega (arith, c.loop-self-test.false, c.loop-self.invariant.few) in
    many_refuse c.args.most request seen w
    (subst (λ n. SkipsInterim request n seen w) all (c.loop-self.invariant.skips request seen asked skips))

pub loop-self-preserved : goal.loop-self-preserved
loop-self-preserved c =
    let w = drop c.loop-self.taken c.args.bytes.now in
    let found = rw c.in-Some.is at c.in_ok-found.ensures in
    let reads = subst (λ l. ReadsResponseHead l c.in-Some.head (drop c.in-Some.count l)) c.behind-rest.ensures found.1 in
    let another : names_another c.in_ok-framing.framing ≡ true = search rules in
    let next : suc c.loop-self.self.interim ≡ c.loop-self.self.interim + 1 = omega arith in
    record {
      fits = omega (arith, c.loop-self.invariant.fits, found.0, ap length c.behind-rest.ensures, length-drop c.loop-self.taken c.args.bytes.now);
      skips = λ request seen asked skips.
          subst (λ n. SkipsInterim request n seen (drop (c.loop-self.taken + c.in-Some.count) c.args.bytes.now)) next
          (subst (SkipsInterim request (suc c.loop-self.self.interim) seen)
          (drop-drop c.in-Some.count c.loop-self.taken c.args.bytes.now)
          (skips_next c.args.most request c.loop-self.self.interim seen w (drop c.in-Some.count w) c.in-Some.head
          c.in_ok-framing.framing (c.loop-self.invariant.skips request seen asked skips) reads
          (sym (judged_so c.args.most c.args.to_head request c.in-Some.head (Ok c.in_ok-framing.framing) asked c.in_ok-framing.ensures)) another));
      few = omega (arith, c.loop-self-test.true);
    }
