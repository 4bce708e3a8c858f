-- The table of the fields: the parent of each, its key, the values that it takes, and whether it is
-- required.
use Rattle.std.specs.Prelude.{ℕ, Bool, true, false, List, codes, ◌∷◌, []}
use Rattle.bg_strategy_text.specs.declared.table.Field.{Field}
use Rattle.bg_strategy_text.specs.declared.table.Field.TheVariants as field
use Rattle.bg_strategy_text.specs.declared.table.Place.{Place}
use Rattle.bg_strategy_text.specs.declared.table.Place.TheVariants as inside
use Rattle.bg_strategy_text.specs.declared.table.Kind.{Kind}
use Rattle.bg_strategy_text.specs.declared.table.Kind.TheVariants.{Object, Number, Service, Boolean, Anything}

-- the place is the object `blueGreen`
abbrev pub is_blue_green : Place → Bool
is_blue_green inside.BlueGreen = true
is_blue_green _ = false

-- the table's entry for a field
pub record FieldRule : Type 0 where
  pub place : Place
  pub key : List ℕ
  pub kind : Kind
  pub is_needed : Bool

-- a required field
abbrev pub needed : Place → List ℕ → Kind → FieldRule
needed place key kind = record { place = place; key = key; kind = kind; is_needed = true }

-- an optional field
abbrev pub optional : Place → List ℕ → Kind → FieldRule
optional place key kind = record { place = place; key = key; kind = kind; is_needed = false }

-- the greatest number for a field without a limit of its own: the greatest int32 of Kubernetes
abbrev greatest : ℕ
greatest = 2147483647

-- the table's entry for each field; the key is the name of the field
abbrev pub field_rule : Field → FieldRule
field_rule field.Document = needed inside.Top (codes "document") Object
field_rule field.Spec = needed inside.Document (codes "spec") Object
field_rule field.Replicas = optional inside.Spec (codes "replicas") (Number 1 64)
field_rule field.RevisionHistoryLimit =
    optional inside.Spec (codes "revisionHistoryLimit") (Number 0 greatest)
field_rule field.Strategy = needed inside.Spec (codes "strategy") Object
field_rule field.BlueGreen = needed inside.Strategy (codes "blueGreen") Object
field_rule field.ActiveService = needed inside.BlueGreen (codes "activeService") Service
field_rule field.PreviewService = optional inside.BlueGreen (codes "previewService") Service
field_rule field.PreviewReplicaCount =
    optional inside.BlueGreen (codes "previewReplicaCount") (Number 1 greatest)
field_rule field.AutoPromotionEnabled =
    optional inside.BlueGreen (codes "autoPromotionEnabled") Boolean
field_rule field.AutoPromotionSeconds =
    optional inside.BlueGreen (codes "autoPromotionSeconds") (Number 0 greatest)
field_rule field.ScaleDownDelaySeconds =
    optional inside.BlueGreen (codes "scaleDownDelaySeconds") (Number 0 greatest)
field_rule field.ScaleDownDelayRevisionLimit =
    optional inside.BlueGreen (codes "scaleDownDelayRevisionLimit") (Number 0 greatest)
field_rule field.AbortScaleDownDelaySeconds =
    optional inside.BlueGreen (codes "abortScaleDownDelaySeconds") (Number 0 greatest)
field_rule field.DrainLimitSeconds =
    optional inside.BlueGreen (codes "drainLimitSeconds") (Number 0 greatest)
field_rule field.PrePromotionAnalysis =
    optional inside.BlueGreen (codes "prePromotionAnalysis") Anything
field_rule field.PostPromotionAnalysis =
    optional inside.BlueGreen (codes "postPromotionAnalysis") Anything

-- the fields in the order of the table
abbrev pub fields : List Field
fields = field.Document ∷ field.Spec ∷ field.Replicas ∷ field.RevisionHistoryLimit ∷ field.Strategy
    ∷ field.BlueGreen ∷ field.ActiveService ∷ field.PreviewService ∷ field.PreviewReplicaCount
    ∷ field.AutoPromotionEnabled ∷ field.AutoPromotionSeconds ∷ field.ScaleDownDelaySeconds
    ∷ field.ScaleDownDelayRevisionLimit ∷ field.AbortScaleDownDelaySeconds
    ∷ field.DrainLimitSeconds ∷ field.PrePromotionAnalysis ∷ field.PostPromotionAnalysis ∷ []
