-- The names of the faults of a book's calls.
use Rattle.std.specs.Prelude.{ℕ, List, codes}
use Rattle.bg_revisions.specs.declared.revision_fault.RevisionFault.{RevisionFault}
use Rattle.bg_revisions.specs.declared.revision_fault.RevisionFault.TheVariants as revision_fault
use Rattle.bg_rollout.specs.declared.fault.OpenFault.{OpenFault}
use Rattle.bg_rollout.specs.declared.fault.OpenFault.TheVariants as open_fault
use Rattle.bg_rollout.specs.declared.fault.EnterFault.{EnterFault}
use Rattle.bg_rollout.specs.declared.fault.EnterFault.TheVariants as enter_fault
use Rattle.bg_rollout.specs.declared.control_fault.ControlFault.{ControlFault}
use Rattle.bg_rollout.specs.declared.control_fault.ControlFault.TheVariants as control_fault

-- the name of a fault of an opening
abbrev pub open_fault_name : OpenFault → List ℕ
open_fault_name open_fault.BadName = codes "BadName"
open_fault_name open_fault.BadPorts = codes "BadPorts"
open_fault_name open_fault.BadSeats = codes "BadSeats"
open_fault_name open_fault.BadLimits = codes "BadLimits"
open_fault_name open_fault.OutOfMemory = codes "OutOfMemory"

-- the name of a fault of an entering request
abbrev pub enter_fault_name : EnterFault → List ℕ
enter_fault_name enter_fault.NoPreview = codes "NoPreview"
enter_fault_name enter_fault.NoEndpoints = codes "NoEndpoints"
enter_fault_name enter_fault.NumbersSpent = codes "NumbersSpent"
enter_fault_name enter_fault.HistoryFull = codes "HistoryFull"
enter_fault_name enter_fault.OutOfMemory = codes "OutOfMemory"

-- the name of a fault of a deploy or of a report of availability
abbrev pub revision_fault_name : RevisionFault → List ℕ
revision_fault_name revision_fault.BadName = codes "BadName"
revision_fault_name revision_fault.BadPorts = codes "BadPorts"
revision_fault_name revision_fault.SameTemplate = codes "SameTemplate"
revision_fault_name revision_fault.PortsDiffer = codes "PortsDiffer"
revision_fault_name revision_fault.TooManyRevisions = codes "TooManyRevisions"
revision_fault_name revision_fault.NoSuchRevision = codes "NoSuchRevision"
revision_fault_name revision_fault.MoreThanDesired = codes "MoreThanDesired"
revision_fault_name revision_fault.OutOfMemory = codes "OutOfMemory"

-- the name of a fault of an event
abbrev pub control_fault_name : ControlFault → List ℕ
control_fault_name control_fault.MomentTooLarge = codes "MomentTooLarge"
control_fault_name control_fault.MomentBack = codes "MomentBack"
control_fault_name (control_fault.Revision fault) = revision_fault_name fault
control_fault_name control_fault.NoAnalysis = codes "NoAnalysis"
control_fault_name control_fault.Aborted = codes "Aborted"
control_fault_name control_fault.NotPaused = codes "NotPaused"
control_fault_name control_fault.NothingToPromote = codes "NothingToPromote"
control_fault_name control_fault.AlreadyFull = codes "AlreadyFull"
control_fault_name control_fault.AlreadyAborted = codes "AlreadyAborted"
control_fault_name control_fault.NothingToAbort = codes "NothingToAbort"
control_fault_name control_fault.NotAborted = codes "NotAborted"
control_fault_name control_fault.HistoryFull = codes "HistoryFull"
control_fault_name control_fault.OutOfMemory = codes "OutOfMemory"
