use Rattle.std.proofs.Common.{◌++◌, IfSome, drop, subst, sym, take}
use Rattle.bg_http.specs.declared.response.ResponseHead.{ResponseHead}
use Rattle.bg_http.specs.declared.response_rules.ResponseFraming.{ResponseFraming}
use Rattle.bg_http_read.specs.ResponseHeads.{AreHeads, HasTaken}
use Rattle.bg_http_read.specs.ResponseStates.{HeadsAreRefused}
use Rattle.bg_http_read.specs.Responses.{AfterInterim, IsFinalHeadWithin, SkipsInterim}
use Rattle.bg_http_read.proofs.HeadsAlone.{heads_taken, interim_taken, none_so, some_so}
use Rattle.bg_http_read.proofs.taken_heads.ResponseHeads.take.Goals as goal

pub returns-in-Ok-clause-head : goal.returns-in-Ok-clause-head
returns-in-Ok-clause-head c request input taken =
    let h = subst (λ s. HasTaken s request input) (sym c.self.view_is) taken in
    let bytes = c.args.bytes.now in
    let found = c.in-Ok.found in
    let most = c.self.inside.most in
    subst (λ s. IfSome found.head (λ at. AreHeads s.most request (input ++ take found.taken bytes) at.0 at.1)) c.self.view_is
    (some_so (λ (at : ResponseHead × ResponseFraming). AfterInterim request (input ++ bytes) (IsFinalHeadWithin most request at.0 at.1 (drop found.taken bytes)))
    (λ at. AreHeads most request (input ++ take found.taken bytes) at.0 at.1) found.head
    (λ at. heads_taken most request found.taken input bytes at.0 at.1)
    (c.in-Ok.ensures.head request (input ++ bytes) h.asked (h.skips bytes)))

pub returns-in-Ok-clause-none_yet : goal.returns-in-Ok-clause-none_yet
returns-in-Ok-clause-none_yet c request input taken =
    let h = subst (λ s. HasTaken s request input) (sym c.self.view_is) taken in
    let bytes = c.args.bytes.now in
    let found = c.in-Ok.found in
    none_so (SkipsInterim request c.take_from.new.self.interim (input ++ bytes) (drop found.taken bytes))
    (HasTaken (record { to_head = c.self.inside.to_head; most = c.self.inside.most; interim = c.take_from.new.self.interim }) request (input ++ take found.taken bytes))
    found.head
    (λ skips. record {
      asked = h.asked;
      few = c.in-Ok.ensures.ready;
      skips = interim_taken request c.take_from.new.self.interim found.taken input bytes skips;
    })
    (c.in-Ok.ensures.none_yet request (input ++ bytes) h.asked (h.skips bytes))

pub returns-in-Err-clause-refused : goal.returns-in-Err-clause-refused
returns-in-Err-clause-refused c request input taken =
    let h = subst (λ s. HasTaken s request input) (sym c.self.view_is) taken in
    subst (λ s. HeadsAreRefused s.most request c.in-Err.fault (input ++ c.args.bytes.now)) c.self.view_is
    (c.in-Err.ensures.refused request (input ++ c.args.bytes.now) h.asked (h.skips c.args.bytes.now))
