-- The rows of a subcommand whose arguments are options with one value, flags, and `--help`: their values are accepted.
use Rattle.std.proofs.Common.{◌≡◌, ℕ, List, [], ◌∷◌, refl, sym, ◌∙◌, ap, subst}
use Rattle.std.specs.Prelude.{Bool, true, false, Some, find, cond, codes, fold, length}
use Rattle.std.specs.List.{list_all}
use Rattle.clap.specs.Walk.{Row, Text, Rule, arg_by_id, walk, nothing_held, rows_after, walk_from, settled, used, with_default, has_row, default_rows, reading_by}
use Rattle.clap.specs.Simple.{Shape, with_index, filled, help_rule}
use Rattle.clap.specs.Kinds.{range_kinds}
use Rattle.clap.specs.Faults.{level_fault, use_fault, walk_fault, repeat_fault}
use Rattle.clap.specs.declared.builder.value_parser.Reading.TheVariants as reading
use Rattle.clap.specs.declared.parser.matches.ValueSource.TheVariants as value_source
use Rattle.bg_command_line.specs.OptionRules.{number_rule, range_rule, required_rule, flag_rule_required_if, rule_required_if, text_rule_required_if, texts_rule_required_if, word_rule_required_if}
use Rattle.bg_command_line.specs.Subcommands.{count_rule}
use Rattle.bg_command_line.proofs.WordsTaken.{none_else, walk_keeps, settled_keeps}
use Rattle.bg_command_line.proofs.ValuesAccepted.{AreGood, append_keeps, is_accepted, flag_full, option_full, use_keeps, with_values_keeps}

abbrev pub Keeps : List Rule → Rule → Type 0
Keeps c a = (values : List Text) (rows : List Row) → AreGood c rows → use_fault false a values rows ≡ [] → AreGood c (used a values rows)

abbrev pub Each : (Rule → Type 0) → List Rule → Type 0
Each K [] = Unit {0}
Each K (a ∷ rest) = K a × Each K rest

found_each : (K : Rule → Type 0) (p : Rule → Bool) (xs : List Rule) (a : Rule) → Each K xs → find p xs ≡ Some a → K a
found_each K p [] a all e = cc
found_each K p (x ∷ xs) a all e = go (p x) e (λ h. found_each K p xs a all.1 h)
  where
    go : (b : Bool) → cond b (Some x) (find p xs) ≡ Some a → (find p xs ≡ Some a → K a) → K a
    go true h rest = let same : x ≡ a = cc in subst K same all.0
    go false h rest = rest h

-- the rule of an option as `clap` holds it in the built command
abbrev pub held : Rule → Rule
held r = with_index 1 (filled r)

pub range_keeps : (c : List Rule) (name : Text) (least most : ℕ) → arg_by_id c (range_rule name least most).id ≡ Some (held (range_rule name least most)) → Keeps c (held (range_rule name least most))
range_keeps c name least most own values rows g e =
    let f = none_else (range_kinds 1 1 (length values)) _ e in
    let h = none_else (repeat_fault false (range_rule name least most).id rows) _ f.1 in
    use_keeps c (held (range_rule name least most)) reading.AsWritten value_source.CommandLine _ rows own (option_full (held (range_rule name least most)) values f.0) h.1 g

pub number_keeps : (c : List Rule) (name : Text) (most : ℕ) → arg_by_id c (number_rule name most).id ≡ Some (held (number_rule name most)) → Keeps c (held (number_rule name most))
number_keeps c name most own = range_keeps c name 1 most own

pub required_keeps : (c : List Rule) (name : Text) (most : ℕ) → arg_by_id c (required_rule name most).id ≡ Some (held (required_rule name most)) → Keeps c (held (required_rule name most))
required_keeps c name most own values rows g e =
    let f = none_else (range_kinds 1 1 (length values)) _ e in
    let h = none_else (repeat_fault false (required_rule name most).id rows) _ f.1 in
    use_keeps c (held (required_rule name most)) reading.AsWritten value_source.CommandLine _ rows own (option_full (held (required_rule name most)) values f.0) h.1 g

pub required_if_keeps : (c : List Rule) (required : Bool) (name : Text) (most : ℕ) → arg_by_id c (rule_required_if required name most).id ≡ Some (held (rule_required_if required name most)) → Keeps c (held (rule_required_if required name most))
required_if_keeps c required name most own values rows g e =
    let f = none_else (range_kinds 1 1 (length values)) _ e in
    let h = none_else (repeat_fault false (rule_required_if required name most).id rows) _ f.1 in
    use_keeps c (held (rule_required_if required name most)) reading.AsWritten value_source.CommandLine _ rows own (option_full (held (rule_required_if required name most)) values f.0) h.1 g

pub text_keeps : (c : List Rule) (required : Bool) (name : Text) → arg_by_id c (text_rule_required_if required name).id ≡ Some (held (text_rule_required_if required name)) → Keeps c (held (text_rule_required_if required name))
text_keeps c required name own values rows g e =
    let f = none_else (range_kinds 1 1 (length values)) _ e in
    let h = none_else (repeat_fault false (text_rule_required_if required name).id rows) _ f.1 in
    use_keeps c (held (text_rule_required_if required name)) reading.AsWritten value_source.CommandLine _ rows own (option_full (held (text_rule_required_if required name)) values f.0) h.1 g

pub texts_keeps : (c : List Rule) (required : Bool) (name : Text) → arg_by_id c (texts_rule_required_if required name).id ≡ Some (held (texts_rule_required_if required name)) → Keeps c (held (texts_rule_required_if required name))
texts_keeps c required name own values rows g e =
    let f = none_else (range_kinds 1 1 (length values)) _ e in
    append_keeps c (held (texts_rule_required_if required name)) reading.AsWritten value_source.CommandLine _ rows own (option_full (held (texts_rule_required_if required name)) values f.0) f.1 g

pub word_keeps : (c : List Rule) (required : Bool) (name : Text) → arg_by_id c (word_rule_required_if required name).id ≡ Some (held (word_rule_required_if required name)) → Keeps c (held (word_rule_required_if required name))
word_keeps c required name own values rows g e =
    let f = none_else (range_kinds 1 1 (length values)) _ e in
    let h = none_else (repeat_fault false (word_rule_required_if required name).id rows) _ f.1 in
    use_keeps c (held (word_rule_required_if required name)) reading.AsWritten value_source.CommandLine _ rows own (option_full (held (word_rule_required_if required name)) values f.0) h.1 g

pub count_keeps : (c : List Rule) (forever : Bool) → arg_by_id c (count_rule forever).id ≡ Some (held (count_rule forever)) → Keeps c (held (count_rule forever))
count_keeps c forever own values rows g e =
    let f = none_else (range_kinds 1 1 (length values)) _ e in
    let h = none_else (repeat_fault false (count_rule forever).id rows) _ f.1 in
    use_keeps c (held (count_rule forever)) reading.AsWritten value_source.CommandLine _ rows own (option_full (held (count_rule forever)) values f.0) h.1 g

pub flag_keeps : (c : List Rule) (required : Bool) (name : Text) → arg_by_id c name ≡ Some (held (flag_rule_required_if required name)) → Keeps c (held (flag_rule_required_if required name))
flag_keeps c required name own values rows g e =
    let f = none_else (range_kinds 0 0 (length values)) _ e in
    let h = none_else (repeat_fault false name rows) _ f.1 in
    use_keeps c (held (flag_rule_required_if required name)) reading.AsWritten value_source.CommandLine _ rows own (flag_full (held (flag_rule_required_if required name)) values refl) h.1 g

-- a use of `--help` adds no row
pub help_keeps : (c : List Rule) → Keeps c (held help_rule)
help_keeps c values rows g e = g

default_one : (c : List Rule) (b : Bool) (other rows : List Row) → AreGood c other → AreGood c rows → AreGood c (cond b rows other)
default_one c true other rows h g = g
default_one c false other rows h g = h

-- the default of an argument keeps the facts about the rows
abbrev pub DefaultKeeps : List Rule → Rule → Type 0
DefaultKeeps c a = (rows : List Row) → AreGood c rows → AreGood c (with_default rows a)

pub no_default_keeps : (c : List Rule) (a : Rule) → a.defaults ≡ [] → DefaultKeeps c a
no_default_keeps c a e rows g = default_one c (has_row a.id rows) _ rows (go a.defaults e) g
  where
    go : (defaults : List Text) → defaults ≡ [] → AreGood c (default_rows a.id (reading_by a) defaults rows)
    go [] e = g
    go (x ∷ xs) e = cc

pub flag_default_keeps : (c : List Rule) (required : Bool) (name : Text) → arg_by_id c name ≡ Some (held (flag_rule_required_if required name)) → DefaultKeeps c (held (flag_rule_required_if required name))
flag_default_keeps c required name own rows g =
    let accepted : list_all (is_accepted c name) (codes "false" ∷ []) ≡ true = rw own refl in
    default_one c (has_row name rows) _ rows
    (with_values_keeps c name reading.AsWritten value_source.DefaultValue (codes "false" ∷ []) rows refl accepted g) g

pub help_default_keeps : (c : List Rule) → DefaultKeeps c (held help_rule)
help_default_keeps c = no_default_keeps c (held help_rule) refl

defaults_keep : (c xs : List Rule) (rows : List Row) → Each (DefaultKeeps c) xs → AreGood c rows → AreGood c (fold with_default rows xs)
defaults_keep c [] rows all g = g
defaults_keep c (x ∷ xs) rows all g = defaults_keep c xs (with_default rows x) all.1 (all.0 rows g)

pub leaf_good : (s : Shape) (words : List Text) → s.args_override_self ≡ false → Each (Keeps s.rules) s.rules → Each (DefaultKeeps s.rules) s.rules
    → level_fault s [] nothing_held words false [] ≡ [] → AreGood s.rules (rows_after s.rules [] words)
leaf_good s words again keep plain e =
    let f = none_else (walk_fault s [] (walk_from nothing_held) words) _ e in
    let g = none_else _ _ f.1 in
    let end = (walk s.rules [] nothing_held words).held in
    let keeps : (p : Rule → Bool) (a : Rule) → find p s.rules ≡ Some a → (values : List Text) (rows : List Row) → AreGood s.rules rows
    → use_fault s.args_override_self a values rows ≡ [] → AreGood s.rules (used a values rows) =
    λ p a is values rows r u. found_each (Keeps s.rules) p s.rules a keep is values rows r (ap (λ (b : Bool). use_fault b a values rows) (sym again) ∙ u) in
    let walked_good : AreGood s.rules end.rows = walk_keeps (AreGood s.rules) s keeps [] words (walk_from nothing_held) tt f.0 in
    let settled_good : AreGood s.rules (settled s.rules end).rows = settled_keeps (AreGood s.rules) s keeps end walked_good g.0 in
    defaults_keep s.rules s.rules (settled s.rules end).rows plain settled_good
