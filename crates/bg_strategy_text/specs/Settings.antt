-- The strategy of a document that has no fault.
use Rattle.std.specs.Prelude.{◌≡◌, ◌≤◌, ℕ, min, Bool, true, Option, Some, None, is_some, unwrap_or, option_and_then, if◌then◌else◌, ⊤}
use Rattle.serde_json.specs.Data.{Data}
use Rattle.serde_json.specs.Find.{as_bool}
use Rattle.bg_strategy_text.specs.Values.{natural, is_between}
use Rattle.bg_strategy_text.specs.Table.{field_rule}
use Rattle.bg_strategy_text.specs.Lookup.{found, text_of}
use Rattle.bg_strategy_text.specs.declared.table.Field.{Field}
use Rattle.bg_strategy_text.specs.declared.table.Field.TheVariants as field
use Rattle.bg_strategy_text.specs.declared.table.Kind.{Kind}
use Rattle.bg_strategy_text.specs.declared.table.Kind.TheVariants.{Number}
use Rattle.bg_strategy.specs.declared.strategy.Strategy.{Strategy}

-- the number, if it lies between the two
abbrev pub if_between : ℕ → ℕ → ℕ → Option ℕ
if_between least most n = if is_between least most n then Some n else None

-- the value as a number in the range of the kind
abbrev pub number_in : Kind → Data → Option ℕ
number_in (Number least most) d = option_and_then (if_between least most) (natural d)
number_in _ d = None

-- the number lies in the range of the kind
abbrev pub IsWithin : Kind → ℕ → Type 0
IsWithin (Number least most) n = (least ≤ n) × (n ≤ most)
IsWithin _ n = ⊤

-- the number that a document gives for a field
abbrev pub number_of : Field → Data → Option ℕ
number_of f d = option_and_then (number_in (field_rule f).kind) (found f d)

-- the boolean that a document gives for a field
abbrev pub boolean_of : Field → Data → Option Bool
boolean_of f d = option_and_then as_bool (found f d)

-- the document gives a value for the field
abbrev pub is_set : Field → Data → Bool
is_set f d = is_some (found f d)

-- the number of endpoints of a revision at full size
abbrev pub replicas_of : Data → ℕ
replicas_of d = unwrap_or (number_of field.Replicas d) 1

-- the number of endpoints of a new revision before the switch: by default and at most the full size
abbrev pub preview_replicas_of : Data → ℕ
preview_replicas_of d =
    min (unwrap_or (number_of field.PreviewReplicaCount d) (replicas_of d)) (replicas_of d)

-- s is the strategy of the document: each setting is the value of its field, or its default
pub record IsStrategyOf (d : Data) (s : Strategy) : Type 0 where
  pub active_service : text_of field.ActiveService d ≡ Some s.active_service
  pub preview_service : text_of field.PreviewService d ≡ s.preview_service
  pub replicas : s.replicas ≡ replicas_of d
  pub preview_replicas : s.preview_replicas ≡ preview_replicas_of d
  pub auto_promotion : s.auto_promotion ≡ unwrap_or (boolean_of field.AutoPromotionEnabled d) true
  pub auto_seconds : s.auto_seconds ≡ unwrap_or (number_of field.AutoPromotionSeconds d) 0
  pub pre : s.pre ≡ is_set field.PrePromotionAnalysis d
  pub post : s.post ≡ is_set field.PostPromotionAnalysis d
  pub delay : s.delay ≡ unwrap_or (number_of field.ScaleDownDelaySeconds d) 30
  pub revision_limit : s.revision_limit ≡ number_of field.ScaleDownDelayRevisionLimit d
  pub abort_delay : s.abort_delay ≡ unwrap_or (number_of field.AbortScaleDownDelaySeconds d) 30
  pub drain_limit : s.drain_limit ≡ number_of field.DrainLimitSeconds d
  pub history_limit : s.history_limit ≡ unwrap_or (number_of field.RevisionHistoryLimit d) 10
