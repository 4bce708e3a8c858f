use Rattle.std.proofs.Common.{rules, sym}
use Rattle.std.proofs.lemmas.List.{get_or_past}
use Rattle.bg_audit.proofs.allowed.port_at.Goals as goal

pub returns-in-None : goal.returns-in-None
returns-in-None c = sym (get_or_past c.args.ports.now c.args.place 0 (search rules))
