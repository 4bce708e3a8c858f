-- The lines that say what a strategy means, or why it is refused.
use Rattle.std.specs.Prelude.{ℕ, Bool, List, ◌++◌, codes, Option, Some, None, if◌then◌else◌}
use Rattle.std.specs.Fmt.{decimal}
use Rattle.bg_strategy_text.specs.Table.{field_rule}
use Rattle.bg_strategy_text.specs.Faults.{kind_name_of, field_of}
use Rattle.bg_strategy_text.specs.declared.table.Field.{Field}
use Rattle.bg_strategy_text.specs.declared.table.Field.TheVariants as field
use Rattle.bg_strategy.specs.declared.strategy.Strategy.{Strategy}
use Rattle.bg_strategy_text.specs.declared.fault.StrategyFault.{StrategyFault}

-- the line of a setting: the name of its field, and its value
abbrev pub setting_line : Field → List ℕ → List ℕ
setting_line f value = (field_rule f).key ++ codes " " ++ value ++ codes "\n"

-- true or false
abbrev pub boolean_text : Bool → List ℕ
boolean_text b = if b then codes "true" else codes "false"

-- a number, or `-` if there is none
abbrev pub number_or_dash : Option ℕ → List ℕ
number_or_dash None = codes "-"
number_or_dash (Some n) = decimal n

-- a name, or `-` if there is none
abbrev pub name_or_dash : Option (List ℕ) → List ℕ
name_or_dash None = codes "-"
name_or_dash (Some name) = name

-- the services
abbrev pub service_text : Strategy → List ℕ
service_text s =
    setting_line field.ActiveService s.active_service
    ++ setting_line field.PreviewService (name_or_dash s.preview_service)

-- the sizes of a revision
abbrev pub size_text : Strategy → List ℕ
size_text s =
    setting_line field.Replicas (decimal s.replicas)
    ++ setting_line field.PreviewReplicaCount (decimal s.preview_replicas)

-- when a revision is promoted
abbrev pub promotion_text : Strategy → List ℕ
promotion_text s =
    setting_line field.AutoPromotionEnabled (boolean_text s.auto_promotion)
    ++ setting_line field.AutoPromotionSeconds (decimal s.auto_seconds)

-- when a revision is scaled down and removed, and the time limit of its requests
abbrev pub scale_down_text : Strategy → List ℕ
scale_down_text s =
    setting_line field.ScaleDownDelaySeconds (decimal s.delay)
    ++ setting_line field.ScaleDownDelayRevisionLimit (number_or_dash s.revision_limit)
    ++ setting_line field.AbortScaleDownDelaySeconds (decimal s.abort_delay)
    ++ setting_line field.DrainLimitSeconds (number_or_dash s.drain_limit)
    ++ setting_line field.RevisionHistoryLimit (decimal s.history_limit)

-- which analyses there are
abbrev pub analysis_text : Strategy → List ℕ
analysis_text s =
    setting_line field.PrePromotionAnalysis (boolean_text s.pre)
    ++ setting_line field.PostPromotionAnalysis (boolean_text s.post)

-- what a strategy means, a line for each setting
abbrev pub strategy_text : Strategy → List ℕ
strategy_text s =
    service_text s ++ size_text s ++ promotion_text s ++ scale_down_text s ++ analysis_text s

-- the end of a fault's line: the field that it concerns, if there is one
abbrev pub field_text : Option Field → List ℕ
field_text None = codes "\n"
field_text (Some f) = codes " " ++ (field_rule f).key ++ codes "\n"

-- `fault KIND`, or `fault KIND FIELD`
abbrev pub fault_text : StrategyFault → List ℕ
fault_text fault = codes "fault " ++ kind_name_of fault ++ field_text (field_of fault)
