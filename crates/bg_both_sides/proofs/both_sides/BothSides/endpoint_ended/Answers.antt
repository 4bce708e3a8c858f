use Rattle.std.proofs.Common.{subst, sym}
use Rattle.bg_both_sides.proofs.RunLemmas.{gives_sound}
use Rattle.bg_both_sides.specs.Runs.{ends}
use Rattle.bg_both_sides.specs.Sides.{IsSound, Sides}
use Rattle.bg_both_sides.proofs.both_sides.BothSides.endpoint_ended.Goals as goal

pub invariant_of-self : goal.invariant_of-self
invariant_of-self c =
    let client = c.self.inside.client in
    let after : Sides = record { client = c.end-endpoint.new.client; endpoint = c.end-endpoint.result.0 } in
    let sound = subst (IsSound client) (sym c.replace.ensures.value) c.self.invariant in
    gives_sound ends c.replace.result c.args.now client c.end-endpoint.result.1 after sound c.end-endpoint.ensures.plain
    c.end-endpoint.ensures.streamed
