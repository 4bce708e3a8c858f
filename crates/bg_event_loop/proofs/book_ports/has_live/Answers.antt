use Rattle.std.proofs.Common.{◌∙◌, arith, sym}
use Rattle.std.proofs.lemmas.List.{length-map}
use Rattle.bg_event_loop.proofs.LiveLemmas.{any_at, none_next, none_of_all}
use Rattle.bg_event_loop.specs.LivePorts.{has_live_port, revisions_of}
use Rattle.bg_event_loop.proofs.book_ports.has_live.Goals as goal

pub returns-then-is_live_at : goal.returns-then-is_live_at
returns-then-is_live_at g c =
    sym (any_at (has_live_port c.args.port) (revisions_of c.args.book.now) c.loop-place.place
    (sym c.is_live_at.ensures ∙ c.if-is_live_at.true))

pub loop-place-preserved : goal.loop-place-preserved
loop-place-preserved g c =
    none_next (has_live_port c.args.port) (revisions_of c.args.book.now) c.loop-place.place
    (sym c.is_live_at.ensures ∙ c.if-is_live_at.false) c.loop-place.invariant

pub returns : goal.returns
returns g c =
    let revisions = c.args.book.now.running.revisions in
    sym (none_of_all (has_live_port c.args.port) (revisions_of c.args.book.now) c.loop-place.place
    (omega (arith, c.loop-place-test.false, c.count-place-end.ensures.running, length-map revisions (λ v. v.revision)))
    c.loop-place.invariant)
