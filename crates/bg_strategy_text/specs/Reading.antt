-- The strategy or the fault in the bytes of a Rollout's JSON text.
use Rattle.std.specs.Prelude.{◌≡◌, ◌⊎◌, ℕ, List, Some, None, IsUtf8}
use Rattle.serde_json.specs.Data.{Data}
use Rattle.serde_json.specs.Read.{read}
use Rattle.bg_strategy_text.specs.Faults.{strategy_fault_of}
use Rattle.bg_strategy_text.specs.Settings.{IsStrategyOf}
use Rattle.bg_strategy.specs.declared.strategy.Strategy.{Strategy}
use Rattle.bg_strategy_text.specs.declared.fault.StrategyFault.{StrategyFault}
use Rattle.bg_strategy_text.specs.declared.fault.StrategyFault.TheVariants.{NotJson}

-- the bytes are the JSON text of a document, as `serde_json` reads it
abbrev pub IsJsonOf : List ℕ → Data → Type 0
IsJsonOf bytes d = IsUtf8 bytes × (read bytes ≡ Some d)

-- the bytes are not a JSON text
abbrev pub IsNotJson : List ℕ → Type 0
IsNotJson bytes = IsUtf8 bytes → read bytes ≡ None

-- the bytes are the JSON text of a document with no fault, and s is its strategy
abbrev pub IsStrategyIn : List ℕ → Strategy → Type 0
IsStrategyIn bytes s =
    (d : Data) × IsJsonOf bytes d × (strategy_fault_of d ≡ None) × IsStrategyOf d s

-- the bytes are not a JSON text and e is `NotJson`, or they are the JSON text of a document whose first fault is e
abbrev pub IsFaultIn : List ℕ → StrategyFault → Type 0
IsFaultIn bytes e = ((e ≡ NotJson) × IsNotJson bytes)
    ⊎ ((d : Data) × IsJsonOf bytes d × (strategy_fault_of d ≡ Some e))
