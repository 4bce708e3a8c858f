-- The values that each kind of field takes.
use Rattle.std.specs.Prelude.{ℕ, ◌&&◌, ◌||◌, ◌==◌, Bool, true, false, not, nat_le, List, length, Option, is_some, option_and_then}
use Rattle.std.specs.Option.{option_map_or}
use Rattle.serde_json.specs.Data.{Data}
use Rattle.serde_json.specs.Find.{as_null, as_number, as_i64, as_u64, as_str, as_bool, as_object}
use Rattle.bg_strategy.specs.Label.{is_label}
use Rattle.bg_strategy_text.specs.declared.table.Kind.{Kind}
use Rattle.bg_strategy_text.specs.declared.table.Kind.TheVariants.{Object, Number, Service, Boolean, Anything}

-- the value as a number that `serde_json` gives as a u64
abbrev pub natural : Data → Option ℕ
natural d = option_and_then as_u64 (as_number d)

-- a number that `serde_json` gives as an i64 or as a u64
abbrev pub is_integer : Data → Bool
is_integer d = is_some (option_and_then as_i64 (as_number d)) || is_some (natural d)

-- the value has the type of the kind
abbrev pub has_type : Kind → Data → Bool
has_type Object d = is_some (as_object d)
has_type (Number least most) d = is_integer d
has_type Service d = is_some (as_str d)
has_type Boolean d = is_some (as_bool d)
has_type Anything d = true

-- a number from the least to the most
abbrev pub is_between : ℕ → ℕ → ℕ → Bool
is_between least most n = nat_le least n && nat_le n most

-- a value of the kind's type lies in its range: a number between its limits, a name that is a label
abbrev pub is_in_range : Kind → Data → Bool
is_in_range Object d = true
is_in_range (Number least most) d = option_map_or (is_between least most) (natural d) false
is_in_range Service d = option_map_or is_label (as_str d) false
is_in_range Boolean d = true
is_in_range Anything d = true

-- a text with no bytes
abbrev pub is_empty_text : List ℕ → Bool
is_empty_text t = length t == 0

-- a service name with no bytes
abbrev pub is_empty_service : Kind → Data → Bool
is_empty_service Service d = option_map_or is_empty_text (as_str d) false
is_empty_service _ d = false

-- the value counts as given: it is neither null nor a service name with no bytes
abbrev pub is_given : Kind → Data → Bool
is_given kind d = not (is_some (as_null d)) && not (is_empty_service kind d)
