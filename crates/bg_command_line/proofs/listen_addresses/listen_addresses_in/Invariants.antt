use Rattle.std.proofs.Common.{map, take}
use Rattle.bg_command_line.specs.ListenAddresses.{AreWritten, listed}
use Rattle.bg_command_line.proofs.listen_addresses.listen_addresses_in.Given as goal

-- the texts so far write the addresses
abbrev pub invariant-loop-text : goal.invariant-loop-text
invariant-loop-text l = AreWritten (map (λ t. t.now) (take l.text-index l.texts)) (listed l.addresses)
