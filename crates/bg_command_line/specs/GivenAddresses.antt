-- The addresses among the arguments of `serve`, and those that are refused.
use Rattle.std.specs.Prelude.{◌⊎◌, List}
use Rattle.clap.specs.Words.{Row}
use Rattle.bg_command_line.specs.Addresses.{HasBadEndpointAddress, IsEndpointFault}
use Rattle.bg_command_line.specs.ListenAddresses.{IsFirstFault, listen_texts}
use Rattle.bg_command_line.specs.declared.given_addresses.BadAddress.{BadAddress}
use Rattle.bg_command_line.specs.declared.given_addresses.BadAddress.TheVariants.{Endpoint, Listen}
use Rattle.bg_command_line.specs.declared.listen_addresses.ListenFault.{ListenFault}

-- why an address among the arguments is refused
abbrev pub IsBadAddress : List Row → BadAddress → Type 0
IsBadAddress rows (Endpoint fault) = IsEndpointFault rows fault
IsBadAddress rows (Listen fault) = IsFirstFault (listen_texts rows) fault

-- one of the texts of `--listen` has a fault
abbrev pub HasBadListenAddress : List Row → Type 0
HasBadListenAddress rows = (fault : ListenFault) × IsFirstFault (listen_texts rows) fault

-- `--endpoint-address` or `--listen` is given with a text that is refused
abbrev pub HasBadAddress : List Row → Type 0
HasBadAddress rows = HasBadEndpointAddress rows ⊎ HasBadListenAddress rows
