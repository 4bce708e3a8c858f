-- The line of a connection: an object of JSON with a line feed behind it.
use Rattle.std.specs.Prelude.{◌≡◌, ℕ, List, [], ◌∷◌, ◌++◌, OnOk, Option, Some, None, Result, codes, decimal}
use Rattle.std.specs.Cow.{cow_str_bytes}
use Rattle.std.specs.List.{flat_map}
use Rattle.std.specs.Option.{option_map}
use Rattle.json.specs.Print.{print}
use Rattle.json.specs.Token.{Token, begin_object, boolean, end_object, key, null, number, string}
use Rattle.json.specs.Written.{Written}
use Rattle.bg_access_log.specs.declared.line.OptionalValue.{OptionalValue}
use Rattle.bg_access_log.specs.declared.line.OptionalValue.TheVariants as value
use Rattle.bg_access_log.specs.declared.log_entry.LogEntry.{LogEntry}
use Rattle.bg_access_log.specs.declared.lost_lines.LostLines.{LostLines}

-- a text as a value, or null
abbrev pub text_value : Option (List ℕ) → Token
text_value None = null
text_value (Some text) = string text

-- a number as a value, or null
abbrev pub number_value : Option ℕ → Token
number_value None = null
number_value (Some n) = number (decimal n)

-- a member whose value is a text, or null
abbrev pub text_member : List ℕ → Option (List ℕ) → List Token
text_member name text = key name ∷ text_value text ∷ []

-- a member whose value is a number, or null
abbrev pub number_member : List ℕ → Option ℕ → List Token
number_member name n = key name ∷ number_value n ∷ []

-- a member that is left out if it has no value
abbrev pub optional_member : List ℕ → OptionalValue → List Token
optional_member name (value.Number None) = []
optional_member name (value.Number (Some n)) = number_member name (Some n)
optional_member name (value.Flag None) = []
optional_member name (value.Flag (Some flag)) = key name ∷ boolean flag ∷ []

-- a member whose value is a text, and that is left out if it has no value
abbrev pub optional_text_member : List ℕ → Option (List ℕ) → List Token
optional_text_member name None = []
optional_text_member name (Some text) = text_member name (Some text)

-- when the connection ended, and its request
abbrev pub request_members : LogEntry → List Token
request_members e =
    text_member (codes "time") (option_map (λ t. t.bytes) e.time)
    ++ text_member (codes "service") (Some e.service.now)
    ++ number_member (codes "revision") e.revision
    ++ number_member (codes "request") e.request
    ++ number_member (codes "port") e.port
    ++ text_member (codes "method") (option_map cow_str_bytes e.method)
    ++ text_member (codes "target") (option_map cow_str_bytes e.target)

-- how it ended
abbrev pub end_members : LogEntry → List Token
end_members e =
    number_member (codes "status") e.status
    ++ text_member (codes "end") (Some e.end.now)
    ++ text_member (codes "reason") (option_map (λ r. r.now) e.reason)

-- what was counted and measured
abbrev pub count_members : LogEntry → List Token
count_members e =
    number_member (codes "request_bytes") (Some e.request_bytes)
    ++ number_member (codes "response_bytes") (Some e.response_bytes)
    ++ number_member (codes "duration_ms") (Some e.duration_ms)
    ++ number_member (codes "upstream_ms") e.upstream_ms

-- what a line need not have
abbrev pub optional_values : LogEntry → List (List ℕ × OptionalValue)
optional_values e =
    (codes "slot_port", value.Number e.slot_port)
    ∷ (codes "tries", value.Number e.tries)
    ∷ (codes "idle_connections", value.Number e.idle_connections)
    ∷ (codes "connection_request", value.Number e.connection_request)
    ∷ (codes "upstream_reused", value.Flag e.upstream_reused)
    ∷ []

abbrev pub optional_members : LogEntry → List Token
optional_members e =
    flat_map (λ m. optional_member m.0 m.1) (optional_values e)
    ++ optional_text_member (codes "request_id") (option_map cow_str_bytes e.request_id)
    ++ optional_text_member (codes "tunnel") (option_map (λ t. t.now) e.tunnel)

-- the object
abbrev pub object : LogEntry → List Token
object e =
    begin_object ∷ [] ++ request_members e ++ end_members e ++ count_members e ++ optional_members e
    ++ end_object ∷ []

-- the object's text, as compact JSON, and a line feed
abbrev pub line_text : LogEntry → List ℕ
line_text e = print (object e) ++ 10 ∷ []

-- the object that says how many lines were lost, and its line
abbrev pub lost_object : LostLines → List Token
lost_object l =
    begin_object ∷ [] ++ text_member (codes "time") (option_map (λ t. t.bytes) l.time)
    ++ number_member (codes "lost") (Some l.lost) ++ end_object ∷ []

abbrev pub lost_line_text : LostLines → List ℕ
lost_line_text l = print (lost_object l) ++ 10 ∷ []

-- these tokens were written behind those before
pub record Added (old new : Written) (more : List Token) : Type 0 where
  pub before : new.before ≡ old.before
  pub tokens : new.tokens ≡ old.tokens ++ more

-- the same, unless an allocation failed
abbrev pub Adds : {E : Type 0} → Result (Unit {0}) E → Written → Written → List Token → Type 0
Adds r old new more = OnOk r (Added old new more)
