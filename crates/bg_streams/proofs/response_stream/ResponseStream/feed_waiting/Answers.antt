use Rattle.std.proofs.Common.{◌≡◌, ◌++◌, subst, sym}
use Rattle.bg_streams.specs.ResponseStreams.{FailsFor}
use Rattle.bg_streams.specs.declared.response_stream.ResponseStream.{ResponseStream}
use Rattle.bg_streams.proofs.ResponseLemmas.{if_err_is}
use Rattle.bg_streams.proofs.StreamLemmas.{feeding_fails}
use Rattle.bg_streams.proofs.response_stream.ResponseStream.feed_waiting.Goals as goal

pub returns-in_err-taken-clause-fails : goal.returns-in_err-taken-clause-fails
returns-in_err-taken-clause-fails c request came passed h =
    let old = c.args.self.now in
    let new : ResponseStream = record old { relay = c.feed.new.self } in
    let fault = c.in_err-taken.field-0.0 in
    if_err_is (FailsFor new request came passed) c.from_residual.result fault c.from_residual.ensures.1
    (feeding_fails old.relay new request h.input passed c.deref.result.now came fault (c.in_err-taken.ensures.refused h.is_open).0
    (subst (λ l. came ≡ h.input ++ l) (sym c.deref.ensures.value) h.came_is) h.stands c.in_err-taken.ensures.terms)
