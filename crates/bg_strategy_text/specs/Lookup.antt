-- The value that a document gives for each field.
use Rattle.std.specs.Prelude.{ℕ, Bool, List, codes, Option, Some, None, is_some, option_and_then, if◌then◌else◌}
use Rattle.serde_json.specs.Data.{Data}
use Rattle.serde_json.specs.Find.{get, as_object, as_str}
use Rattle.bg_strategy_text.specs.Values.{is_given}
use Rattle.bg_strategy_text.specs.Table.{FieldRule, field_rule}
use Rattle.bg_strategy_text.specs.declared.table.Field.{Field}
use Rattle.bg_strategy_text.specs.declared.table.Place.{Place}
use Rattle.bg_strategy_text.specs.declared.table.Place.TheVariants as inside
use Rattle.bg_strategy_text.specs.declared.table.Kind.{Kind}

-- the document's `spec`
abbrev pub spec_at : Data → Option Data
spec_at d = get (codes "spec") d

-- the `strategy` of its `spec`
abbrev pub strategy_at : Data → Option Data
strategy_at d = option_and_then (get (codes "strategy")) (spec_at d)

-- the `blueGreen` of its `strategy`
abbrev pub blue_green_at : Data → Option Data
blue_green_at d = option_and_then (get (codes "blueGreen")) (strategy_at d)

-- the value that contains the fields of a place; nothing contains the document
abbrev pub parent_of : Place → Data → Option Data
parent_of inside.Top d = None
parent_of inside.Document d = Some d
parent_of inside.Spec d = spec_at d
parent_of inside.Strategy d = strategy_at d
parent_of inside.BlueGreen d = blue_green_at d

-- the fields of the place are checked: their parent is an object
abbrev pub is_looked_at : Place → Data → Bool
is_looked_at place d = is_some (option_and_then as_object (parent_of place d))

-- the value, if it counts as given
abbrev pub given_value : Kind → Data → Option Data
given_value kind d = if is_given kind d then Some d else None

-- the value under a key at a place
abbrev pub found_in : Place → List ℕ → Kind → Data → Option Data
found_in inside.Top key kind d = Some d
found_in place key kind d =
    option_and_then (given_value kind) (option_and_then (get key) (parent_of place d))

-- the value for an entry of the table
abbrev pub found_by_rule : FieldRule → Data → Option Data
found_by_rule e d = found_in e.place e.key e.kind d

-- the value that a document gives for a field; null in it and a service name with no bytes count as absent
abbrev pub found : Field → Data → Option Data
found f d = found_by_rule (field_rule f) d

-- the text that a document gives for a field
abbrev pub text_of : Field → Data → Option (List ℕ)
text_of f d = option_and_then as_str (found f d)
