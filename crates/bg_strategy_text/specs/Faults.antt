-- The first fault of a document.
use Rattle.std.specs.Prelude.{ℕ, ◌&&◌, Bool, false, not, List, codes, Option, Some, None, is_none, option_map, find, if◌then◌else◌, bytes_eq}
use Rattle.std.specs.Option.{option_map_or, option_or}
use Rattle.serde_json.specs.Data.{Data}
use Rattle.bg_strategy_text.specs.Values.{has_type, is_in_range}
use Rattle.bg_strategy_text.specs.Table.{fields, field_rule}
use Rattle.bg_strategy_text.specs.Lookup.{found, text_of, is_looked_at}
use Rattle.bg_strategy_text.specs.declared.table.Field.{Field}
use Rattle.bg_strategy_text.specs.declared.table.Field.TheVariants.{ActiveService, PreviewService}
use Rattle.bg_strategy_text.specs.declared.fault.StrategyFault.{StrategyFault}
use Rattle.bg_strategy_text.specs.declared.fault.StrategyFault.TheVariants as fault

-- the name of a fault's kind
abbrev pub kind_name_of : StrategyFault → List ℕ
kind_name_of fault.NotJson = codes "NotJson"
kind_name_of (fault.Missing f) = codes "Missing"
kind_name_of (fault.WrongType f) = codes "WrongType"
kind_name_of (fault.OutOfRange f) = codes "OutOfRange"
kind_name_of fault.SameService = codes "SameService"
kind_name_of fault.OutOfMemory = codes "OutOfMemory"

-- the field that has the fault, if it is the fault of one field
abbrev pub field_of : StrategyFault → Option Field
field_of (fault.Missing f) = Some f
field_of (fault.WrongType f) = Some f
field_of (fault.OutOfRange f) = Some f
field_of _ = None

-- the field is required, its parent is an object, and the document gives no value for it
abbrev pub is_missing : Data → Field → Bool
is_missing d f =
    (field_rule f).is_needed && (is_looked_at (field_rule f).place d && is_none (found f d))

-- the field has a value, and its type is not that of the field's kind
abbrev pub has_wrong_type : Data → Field → Bool
has_wrong_type d f = option_map_or (λ v. not (has_type (field_rule f).kind v)) (found f d) false

-- the field has a value of the right type that is outside the range of the field's kind
abbrev pub is_out_of_range : Data → Field → Bool
is_out_of_range d f = option_map_or (λ v. has_type (field_rule f).kind v
    && not (is_in_range (field_rule f).kind v)) (found f d) false

-- there is a second text, and it equals the first
abbrev pub is_same : List ℕ → Option (List ℕ) → Bool
is_same t o = option_map_or (λ u. bytes_eq t u) o false

-- both services are given, and they have the same name
abbrev pub has_same_services : Data → Bool
has_same_services d =
    option_map_or (λ t. is_same t (text_of PreviewService d)) (text_of ActiveService d) false

-- the fault that concerns two fields
abbrev pub same_service : Data → Option StrategyFault
same_service d = if has_same_services d then Some fault.SameService else None

-- the first kind of fault that one of these fields has, for the first such field; then the fault of two fields
abbrev pub fault_among : List Field → Data → Option StrategyFault
fault_among list d = option_or (option_map fault.Missing (find (is_missing d) list))
    (option_or (option_map fault.WrongType (find (has_wrong_type d) list))
    (option_or (option_map fault.OutOfRange (find (is_out_of_range d) list))
    (same_service d)))

-- the first fault of a document
abbrev pub strategy_fault_of : Data → Option StrategyFault
strategy_fault_of d = fault_among fields d
