use Rattle.std.proofs.Common.{nat_lt, subst, sym}
use Rattle.bg_streams.specs.Passings.{IsKeptIn}
use Rattle.bg_streams.proofs.PassingLemmas.{kept_at_end, kept_in}
use Rattle.bg_streams.proofs.passing.Passing.end_input.Goals as goal

pub returns-in-Err-clause-kept : goal.returns-in-Err-clause-kept
returns-in-Err-clause-kept c =
    let old = c.args.self.now in
    let new = c.end_input.new.self in
    subst (IsKeptIn (record old { relay = new })) (sym c.body_fault.ensures)
    (kept_in (record old { relay = new }) (nat_lt 0 old.sent) c.in-Err.fault
    (kept_at_end old.relay new c.in-Err.fault (c.in-Err.ensures.cut c.requires) (c.in-Err.ensures.memory c.requires)))
