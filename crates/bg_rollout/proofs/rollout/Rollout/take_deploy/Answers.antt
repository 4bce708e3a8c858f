use Rattle.std.proofs.Common.{◌≡◌, ℕ, ◌+◌, true, List, Option, Some, None, unwrap_or}
use Rattle.bg_history.specs.Allowed.{is_allowed}
use Rattle.bg_history.specs.Sizes.{last_number}
use Rattle.bg_history.specs.declared.entry.Entry.TheVariants as event
use Rattle.bg_rollout.specs.Routing.{Routing}
use Rattle.bg_rollout.proofs.rollout.Rollout.take_deploy.Goals as goal

-- the copies of the name and the ports are equal to them, and the number is the one that was found
copied : (b : Routing) (namesake found : Option ℕ) (name ports kept_name kept_ports : List ℕ) → kept_name ≡ name → kept_ports ≡ ports → namesake ≡ found
    → is_allowed b.strategy b.opening (event.Deploy (unwrap_or namesake (last_number b.past + 1)) name ports) b.past ≡ true
    → is_allowed b.strategy b.opening (event.Deploy (unwrap_or found (last_number b.past + 1)) kept_name kept_ports) b.past ≡ true
copied b namesake found name ports kept_name kept_ports same_name same_ports is h = rw (same_name, same_ports, ← is) h

pub take_known-requires-clause-allowed : goal.take_known-requires-clause-allowed
take_known-requires-clause-allowed g c =
    copied c.args.self.now.routing c.args.namesake (Some c.in-Some.revision) c.args.name.now c.args.ports.now _ _ c.in_ok-kept_name.ensures c.in_ok-kept_ports.ensures c.in-Some.is c.requires.allowed

pub take_new-requires-clause-allowed : goal.take_new-requires-clause-allowed
take_new-requires-clause-allowed g c =
    copied c.args.self.now.routing c.args.namesake None c.args.name.now c.args.ports.now _ _ c.in_ok-kept_name.ensures c.in_ok-kept_ports.ensures c.in-None.is c.requires.allowed
