-- The result of reading the text of a strategy, and its text.
use Rattle.std.specs.Prelude.{◌≢◌, ℕ, ◌<◌, ◌≤◌, List, length, codes, ⊤}
use Rattle.bg_strategy_text.specs.Reading.{IsStrategyIn, IsFaultIn}
use Rattle.bg_strategy_text.specs.declared.fault.StrategyFault.TheVariants.{OutOfMemory}
use Rattle.bg_operator.specs.Parting.{largest_strategy}
use Rattle.bg_strategy_text.specs.Texts.{strategy_text, fault_text}
use Rattle.bg_operator.specs.declared.strategy_part.StrategyPart.{StrategyPart}
use Rattle.bg_operator.specs.declared.strategy_part.StrategyPart.TheVariants as part
use Rattle.bg_script.specs.declared.finding.Finding.{Finding}
use Rattle.bg_script.specs.declared.finding.Finding.TheVariants.{Means, Refused, TooLarge}

-- the bytes mean this strategy, or have this first fault, or are too many; an allocation failure is
-- not a fault of the bytes
abbrev pub IsFinding : Finding → List ℕ → Type 0
IsFinding (Means strategy) bytes = IsStrategyIn bytes strategy × (length bytes ≤ largest_strategy)
IsFinding (Refused fault) bytes =
    IsFaultIn bytes fault × (fault ≢ OutOfMemory) × (length bytes ≤ largest_strategy)
IsFinding TooLarge bytes = largest_strategy < length bytes

-- the finding for a part: it means this strategy, or has this first fault, or is too large
abbrev pub IsFoundIn : StrategyPart → Finding → Type 0
IsFoundIn (part.Whole text) (Means strategy) = IsStrategyIn text.items strategy
IsFoundIn (part.Whole text) (Refused fault) = IsFaultIn text.items fault × (fault ≢ OutOfMemory)
IsFoundIn (part.Whole text) TooLarge = ⊥
IsFoundIn part.TooLarge (Means strategy) = ⊥
IsFoundIn part.TooLarge (Refused fault) = ⊥
IsFoundIn part.TooLarge TooLarge = ⊤

-- the exit status: 1 after a fault, otherwise 0
abbrev pub status_of : Finding → ℕ
status_of (Means strategy) = 0
status_of (Refused fault) = 1
status_of TooLarge = 1

-- the lines of a finding
abbrev pub finding_text : Finding → List ℕ
finding_text (Means strategy) = strategy_text strategy
finding_text (Refused fault) = fault_text fault
finding_text TooLarge = codes "fault TooLarge\n"
