-- The rules of the program's options and words.
use Rattle.std.specs.Prelude.{ℕ, Bool, Some, true}
use Rattle.clap.specs.Words.{Rule, Text, new_rule}
use Rattle.clap.specs.declared.builder.action.ArgAction.TheVariants.{Append, SetTrue}
use Rattle.clap.specs.declared.builder.value_parser.ValueParser.TheVariants as value_parser
use Rattle.bg_command_line.specs.declared.command_option.CommandOption.{CommandOption}
use Rattle.bg_command_line.specs.declared.command_option.OptionValue.{OptionValue}
use Rattle.bg_command_line.specs.declared.command_option.OptionValue.TheVariants as option_value

-- `--NAME N`, with N from `least` to `most`
abbrev pub range_rule : Text → ℕ → ℕ → Rule
range_rule name least most = record (new_rule name) {
  long = Some name;
  value_names = 1;
  parser = Some (value_parser.Unsigned least most);
}

-- `--NAME N`, with N from `least` to `most`, which is required if `required` says so
abbrev pub range_rule_required_if : Bool → Text → ℕ → ℕ → Rule
range_rule_required_if required name least most = record (range_rule name least most) { required = required }

-- `--NAME N`, with N from 1 to `most`
abbrev pub number_rule : Text → ℕ → Rule
number_rule name most = range_rule name 1 most

-- the required `--NAME N`, with N from 1 to `most`
abbrev pub required_rule : Text → ℕ → Rule
required_rule name most = record (number_rule name most) { required = true }

-- `--NAME N`, with N from 1 to `most`, which is required if `required` says so
abbrev pub rule_required_if : Bool → Text → ℕ → Rule
rule_required_if required name most = range_rule_required_if required name 1 most

-- the flag `--NAME`, which has no value
abbrev pub flag_rule : Text → Rule
flag_rule name = record (new_rule name) { long = Some name; action = Some SetTrue }

-- the flag `--NAME`, which is required if `required` says so
abbrev pub flag_rule_required_if : Bool → Text → Rule
flag_rule_required_if required name = record (flag_rule name) { required = required }

-- `--NAME TEXT`, with a text that is not empty
abbrev pub text_rule : Text → Rule
text_rule name = record (new_rule name) {
  long = Some name;
  value_names = 1;
  parser = Some value_parser.NonEmptyString;
}

-- the same, which may be given several times
abbrev pub texts_rule : Text → Rule
texts_rule name = record (text_rule name) { action = Some Append }

-- the word NAME, a text that is not empty
abbrev pub word_rule : Text → Rule
word_rule name = record (new_rule name) {
  value_names = 1;
  parser = Some value_parser.NonEmptyString;
}

-- the word NAME, which is required if `required` says so
abbrev pub word_rule_required_if : Bool → Text → Rule
word_rule_required_if required name = record (word_rule name) { required = required }

-- `--NAME TEXT`, which is required if `required` says so
abbrev pub text_rule_required_if : Bool → Text → Rule
text_rule_required_if required name = record (text_rule name) { required = required }

-- `--NAME TEXT` several times, of which one is required if `required` says so
abbrev pub texts_rule_required_if : Bool → Text → Rule
texts_rule_required_if required name = record (texts_rule name) { required = required }

-- the flag `--NAME`, `--NAME N` with N from 1 to the number or in the range, `--NAME TEXT` once or several times, or the
-- word NAME
abbrev pub rule_of_kind : OptionValue → Bool → Text → Rule
rule_of_kind option_value.Nothing required name = flag_rule_required_if required name
rule_of_kind (option_value.UpTo most) required name = rule_required_if required name most
rule_of_kind (option_value.Between least most) required name = range_rule_required_if required name least most
rule_of_kind (option_value.Text value) required name = text_rule_required_if required name
rule_of_kind (option_value.Texts value) required name = texts_rule_required_if required name
rule_of_kind (option_value.Word value) required name = word_rule_required_if required name

-- the rule of an option
abbrev pub option_rule : CommandOption → Rule
option_rule option = rule_of_kind option.value option.required option.name.now
