-- Resuming a book from a journal.
use Rattle.std.specs.Prelude.{◌≡◌, ℕ, List, None}
use Rattle.bg_strategy.specs.declared.strategy.Strategy.{Strategy}
use Rattle.bg_history.specs.declared.entry.Entry.{Entry}
use Rattle.bg_history.specs.Kept.{Opening}
use Rattle.bg_rollout.specs.declared.fault.OpenFault.TheVariants as open_fault
use Rattle.bg_rollout.specs.declared.limits.Limits.{Limits}
use Rattle.bg_rollout.specs.declared.opening.SeatLimit.TheVariants.{Many}
use Rattle.bg_rollout.specs.Following.{JournalFaultIs}
use Rattle.bg_rollout.specs.Refusals.{open_refusal, IsRefusedBy}
use Rattle.bg_book.specs.declared.fault.ResumeFault.{ResumeFault}
use Rattle.bg_book.specs.declared.fault.ResumeFault.TheVariants.{Opening as opens, Journal as journal}

-- the opening with this number of seats, this name and these ports
abbrev pub opening_with : ℕ → List ℕ → List ℕ → Opening
opening_with seats name ports = record {
  seats = seats;
  template = record { name = name; ports = ports };
}

-- the reason why a book isn't resumed: the fault of its opening; else that of the first entry that isn't followed
abbrev pub ResumeFaultIs : Strategy → List ℕ → List ℕ → ℕ → Limits → List Entry → ResumeFault
    → Type 0
ResumeFaultIs s name ports seats limits entries (opens f) =
    IsRefusedBy (open_refusal Many s name ports seats limits) open_fault.OutOfMemory f
ResumeFaultIs s name ports seats limits entries (journal f) =
    (open_refusal Many s name ports seats limits ≡ None)
    × JournalFaultIs s (opening_with seats name ports) limits entries f
