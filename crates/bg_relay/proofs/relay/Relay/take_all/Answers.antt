use Rattle.std.proofs.Common.{◌≤◌, arith, drop, length, rules, subst, sym, take}
use Rattle.std.proofs.Math.Seq.{take-add}
use Rattle.std.proofs.lemmas.List.{length-drop}
use Rattle.bg_relay.specs.Relays.{PassesOn}
use Rattle.bg_relay.proofs.RelayLemmas.{passes_both, refused_behind, sides_both}
use Rattle.bg_relay.proofs.relay.Relay.take_all.Goals as goal

pub returns-in-Err-clause-refused : goal.returns-in-Err-clause-refused
returns-in-Err-clause-refused c =
    refused_behind c.args.self.now c.loop-count.self c.take.new.self c.args.bytes.now c.loop-count.taken c.in-Err.fault
    c.loop-count.invariant.fits c.loop-count.invariant.stands (rw c.behind.ensures at c.in-Err.ensures.refused)

pub returns-in-Ok-eq0-clause-stands : goal.returns-in-Ok-eq0-clause-stands
returns-in-Ok-eq0-clause-stands c =
    subst (λ relay. PassesOn c.args.self.now relay (take c.loop-count.taken c.args.bytes.now))
    (sym (c.in-Ok-eq0.ensures.waits (search rules)).0) c.loop-count.invariant.stands

pub loop-count-preserved : goal.loop-count-preserved
loop-count-preserved c =
    let before = c.loop-count.invariant in
    let bytes = c.args.bytes.now in
    let taken = c.loop-count.taken in
    let count = c.in-Ok.count in
    let fits : count ≤ length (drop taken bytes) = rw c.behind.ensures at c.in-Ok.ensures.fits in
    let stands : PassesOn c.loop-count.self c.take.new.self (take count (drop taken bytes)) =
    rw c.behind.ensures at c.in-Ok.ensures.stands in
    record {
      fits = omega (arith, before.fits, fits, length-drop taken bytes);
      stands = subst (PassesOn c.args.self.now c.take.new.self) (sym (take-add taken count bytes))
          (passes_both c.args.self.now c.loop-count.self c.take.new.self (take taken bytes) (take count (drop taken bytes))
          before.stands stands);
      is_open = c.in-Ok.ensures.is_open;
      within = omega (arith, before.within, c.in-Ok.ensures.counts);
      sides = sides_both c.args.self.now c.loop-count.self c.take.new.self before.sides c.in-Ok.ensures.sides;
    }
