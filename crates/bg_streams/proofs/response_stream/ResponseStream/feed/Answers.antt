use Rattle.std.proofs.Common.{◌≡◌, ◌++◌, OnOk, ap, subst}
use Rattle.std.proofs.lemmas.List.{take_rest}
use Rattle.bg_streams.specs.ResponseStreams.{FailsFor, waiting_of}
use Rattle.bg_streams.specs.declared.response_stream.ResponseStream.{ResponseStream}
use Rattle.bg_streams.proofs.ResponseLemmas.{if_err_is}
use Rattle.bg_streams.proofs.StreamLemmas.{all_taken, feeding_fails, rest_fails, rest_stands}
use Rattle.bg_streams.proofs.response_stream.ResponseStream.feed.Goals as goal

pub returns-in_err-taken-clause-fails : goal.returns-in_err-taken-clause-fails
returns-in_err-taken-clause-fails c request came passed h =
    let old = c.args.self.now in
    let bytes = c.args.bytes.now in
    let new : ResponseStream = record old { relay = c.feed.new.self } in
    let fault = c.in_err-taken.field-0.0 in
    if_err_is (FailsFor new request (came ++ bytes) passed) c.from_residual.result fault c.from_residual.ensures.1
    (feeding_fails old.relay new request h.input passed bytes (came ++ bytes) fault (c.in_err-taken.ensures.refused h.is_open).0
    (ap (λ l. l ++ bytes) (all_taken old request came passed c.requires h)) h.stands c.in_err-taken.ensures.terms)

pub returns-clause-stands : goal.returns-clause-stands
returns-clause-stands c =
    rest_stands c.keep.result c.args.self.now c.keep.new.self c.feed.new.self c.args.bytes.now c.in_ok-taken.taken c.requires
    c.in_ok-taken.ensures.stands c.in_ok-taken.ensures.is_open c.in_ok-taken.ensures.waits c.keep.ensures.relay
    (subst (λ rest. OnOk c.keep.result (waiting_of c.keep.new.self ≡ waiting_of c.args.self.now ++ rest))
    (take_rest c.args.bytes.now c.in_ok-taken.taken) c.keep.ensures.added)
    c.keep.ensures.begun

pub returns-clause-fails : goal.returns-clause-fails
returns-clause-fails c =
    rest_fails c.keep.result c.args.self.now c.keep.new.self c.feed.new.self c.args.bytes.now c.in_ok-taken.taken c.requires
    c.in_ok-taken.ensures.stands c.keep.ensures.relay c.keep.ensures.fault
