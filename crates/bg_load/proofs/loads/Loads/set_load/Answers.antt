use Rattle.std.proofs.Common.{◌≡◌, Some, ap, subst, sym}
use Rattle.bg_load.proofs.RegisterLemmas.{kept}
use Rattle.bg_load.specs.Registers.{Register, at}
use Rattle.bg_load.specs.declared.connection.Connection.{Connection}
use Rattle.bg_load.proofs.loads.Loads.set_load.Goals as goal

pub invariant_of-self : goal.invariant_of-self
invariant_of-self c =
    let was = subst (λ (r : Register). at r.places c.args.key ≡ Some c.args.connection) (sym c.self.view_is) c.requires in
    rw c.set.ensures
    (kept c.self.inside.table c.self.inside.next c.args.key c.args.connection c.with.result c.self.invariant was
    (ap (λ (d : Connection). d.number) c.with.ensures))
