-- What the fault of an address says of the arguments.
use Rattle.std.proofs.Common.{◌≡◌, inl, inr, List, codes}
use Rattle.std.specs.Prelude.{Some}
use Rattle.clap.specs.Words.{Row, Text, first_of}
use Rattle.bg_command_line.specs.declared.addresses.AddressFault.{AddressFault}
use Rattle.bg_command_line.specs.declared.addresses.AddressFault.TheVariants.{NoAddress, NoDestination}
use Rattle.bg_command_line.specs.Addresses.{HasBadEndpointAddress, IsFaultOf}

-- the text of `--endpoint-address` has a fault
pub bad_by_fault : (rows : List Row) (text : Text) (fault : AddressFault) → first_of (codes "endpoint-address") rows ≡ Some text
    → IsFaultOf text fault → HasBadEndpointAddress rows
bad_by_fault rows text (NoAddress written) at is = (text, at, inl is.1)
bad_by_fault rows text (NoDestination written) at is = (text, at, inr is.1)
