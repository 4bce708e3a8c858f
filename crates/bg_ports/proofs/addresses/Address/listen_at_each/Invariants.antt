use Rattle.std.proofs.Common.{◌≡◌, vec_len}
use Rattle.bg_ports.proofs.addresses.Address.listen_at_each.Given as goal

-- each address so far has a listener
abbrev pub invariant-loop-address : goal.invariant-loop-address
invariant-loop-address l = vec_len l.listeners ≡ l.address-index
