use Rattle.std.proofs.Common.{◌≡◌, ℕ, subst}
use Rattle.bg_load.proofs.Oldest.{none-from}
use Rattle.bg_load.specs.Pauses.{is_large_from, is_to_pause}
use Rattle.bg_load.specs.Registers.{Register, at}
use Rattle.bg_load.specs.declared.pauses.Pauses.TheVariants as pauses
use Rattle.bg_load.proofs.loads.Loads.paused_from.Goals as goal

pub returns-in-Off : goal.returns-in-Off
returns-in-Off c =
    let inside = c.self.inside in
    rw c.in-Off.is
    (subst (λ (r : Register). (key : ℕ) → is_large_from inside.next (at r.places key) ≡ is_to_pause pauses.Off r.places (at r.places key))
    c.self.view_is (none-from inside.table inside.next c.self.invariant))
