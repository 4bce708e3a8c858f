-- The parser of each argument accepts its values.
use Rattle.std.proofs.Common.{◌≡◌, List, [], ◌∷◌, ◌++◌, refl, sym, ap, subst, length}
use Rattle.std.specs.Prelude.{Bool, true, false, ◌&&◌, Option, Some, find, cond, bytes_eq, option_and_then, slice_get}
use Rattle.std.specs.List.{list_all}
use Rattle.std.specs.Option.{option_map_or}
use Rattle.std.proofs.lemmas.Slice.Eq.{bytes_eq-Decides}
use Rattle.clap.specs.Walk.{Row, Text, Rule, arg_by_id, at_row, first_of, more_values, with_values, without, values_or_missing}
use Rattle.clap.specs.Kinds.{range_kinds, values_kinds, value_kinds}
use Rattle.clap.specs.Values.{refused_kind}
use Rattle.clap.specs.Takes.{value_passes}
use Rattle.clap.specs.Faults.{values_fault}
use Rattle.clap.specs.ValueTests.{accepts}
use Rattle.clap.specs.declared.builder.value_parser.ValueParser.{ValueParser}
use Rattle.clap.specs.declared.builder.value_parser.Reading.{Reading}
use Rattle.clap.specs.declared.parser.matches.ValueSource.{ValueSource}
use Rattle.bg_command_line.proofs.WordsTaken.{none_else}

abbrev pub is_accepted : List Rule → Text → Text → Bool
is_accepted c id v = option_map_or (λ a. value_passes a v) (arg_by_id c id) true

abbrev pub has_none : List Text → Bool
has_none [] = true
has_none (x ∷ xs) = false

-- the row has a value, and each is accepted
abbrev pub IsRowGood : List Rule → Row → Type 0
IsRowGood c r = (has_none r.values ≡ false) × (list_all (is_accepted c r.id) r.values ≡ true)

abbrev pub AreGood : List Rule → List Row → Type 0
AreGood c [] = Unit {0}
AreGood c (r ∷ rs) = IsRowGood c r × AreGood c rs

both : (c : List Rule) (xs ys : List Row) → AreGood c xs → AreGood c ys → AreGood c (xs ++ ys)
both c [] ys g h = h
both c (x ∷ xs) ys g h = (g.0, both c xs ys g.1 h)

at_row_keeps : (c : List Rule) (k : Text) (change : Row → List Row) (missing rows : List Row)
    → ((r : Row) → bytes_eq r.id k ≡ true → IsRowGood c r → AreGood c (change r)) → AreGood c missing → AreGood c rows
    → AreGood c (at_row k change missing rows)
at_row_keeps c k change missing [] each m g = m
at_row_keeps c k change missing (r ∷ rs) each m g = go (bytes_eq r.id k) refl (at_row_keeps c k change missing rs each m g.1)
  where
    go : (b : Bool) → bytes_eq r.id k ≡ b → AreGood c (at_row k change missing rs) → AreGood c (cond b (change r ++ rs) (r ∷ at_row k change missing rs))
    go true e rest = both c (change r) rs (each r e g.0) g.1
    go false e rest = (g.0, rest)

all_both : (test : Text → Bool) (xs ys : List Text) → list_all test xs ≡ true → list_all test ys ≡ true → list_all test (xs ++ ys) ≡ true
all_both test [] ys g h = h
all_both test (x ∷ xs) ys g h = go (test x) g (λ e. all_both test xs ys e h)
  where
    go : (b : Bool) → (b && list_all test xs) ≡ true → (list_all test xs ≡ true → list_all test (xs ++ ys) ≡ true) → (b && list_all test (xs ++ ys)) ≡ true
    go true e rest = rest e
    go false e rest = cc

full_both : (xs ys : List Text) → has_none xs ≡ false → has_none (xs ++ ys) ≡ false
full_both [] ys e = cc
full_both (x ∷ xs) ys e = refl

pub with_values_keeps : (c : List Rule) (id : Text) (how : Reading) (from : ValueSource) (values : List Text) (rows : List Row)
    → has_none values ≡ false → list_all (is_accepted c id) values ≡ true → AreGood c rows → AreGood c (with_values id how from values rows)
with_values_keeps c id how from values rows full accepted g =
    at_row_keeps c id (more_values from values) _ rows
    (λ r same h. let e : r.id ≡ id = (bytes_eq-Decides r.id id).0 same in
    ((full_both r.values values h.0, all_both (is_accepted c r.id) r.values values h.1 (rw e accepted)), tt))
    ((full, accepted), tt)
    g

without_keeps : (c : List Rule) (id : Text) (rows : List Row) → AreGood c rows → AreGood c (without id rows)
without_keeps c id rows g = at_row_keeps c id (λ _. []) [] rows (λ r same h. tt) tt g

values_accepted : (ignore_case : Bool) (parser : ValueParser) (values : List Text) → values_kinds ignore_case parser values ≡ [] → list_all (accepts ignore_case parser) values ≡ true
values_accepted ignore_case parser [] e = refl
values_accepted ignore_case parser (v ∷ vs) e =
    let f = none_else (value_kinds ignore_case parser v) _ e in
    go (accepts ignore_case parser v) f.0 (values_accepted ignore_case parser vs f.1)
  where
    go : (b : Bool) → cond b [] (refused_kind parser ∷ []) ≡ [] → list_all (accepts ignore_case parser) vs ≡ true → (b && list_all (accepts ignore_case parser) vs) ≡ true
    go true e h = h
    go false e h = cc

all_same : (p q : Text → Bool) (vs : List Text) → ((v : Text) → p v ≡ q v) → list_all p vs ≡ true → list_all q vs ≡ true
all_same p q [] e h = refl
all_same p q (v ∷ vs) e h = go (p v) (e v) h (all_same p q vs e)
  where
    go : (b : Bool) → b ≡ q v → (b && list_all p vs) ≡ true → (list_all p vs ≡ true → list_all q vs ≡ true) → (q v && list_all q vs) ≡ true
    go true is all rest = rw (← is) (rest all)
    go false is all rest = cc

accepted_own : (c : List Rule) (a : Rule) (v : Text) → arg_by_id c a.id ≡ Some a → value_passes a v ≡ is_accepted c a.id v
accepted_own c a v own = sym (ap (λ (o : Option Rule). option_map_or (λ x. value_passes x v) o true) own)

-- a use that adds these values
pub append_keeps : (c : List Rule) (a : Rule) (how : Reading) (from : ValueSource) (values : List Text) (rows : List Row) → arg_by_id c a.id ≡ Some a
    → has_none values ≡ false → values_fault a values ≡ [] → AreGood c rows → AreGood c (with_values a.id how from values rows)
append_keeps c a how from values rows own full accepted g =
    let all : list_all (value_passes a) values ≡ true = values_accepted _ _ values accepted in
    let same : list_all (is_accepted c a.id) values ≡ true = all_same (value_passes a) (is_accepted c a.id) values (λ x. accepted_own c a x own) all in
    with_values_keeps c a.id how from values rows full same g

-- a use that has these values
pub use_keeps : (c : List Rule) (a : Rule) (how : Reading) (from : ValueSource) (values : List Text) (rows : List Row) → arg_by_id c a.id ≡ Some a
    → has_none values ≡ false → values_fault a values ≡ [] → AreGood c rows → AreGood c (with_values a.id how from values (without a.id rows))
use_keeps c a how from values rows own full accepted g =
    append_keeps c a how from values (without a.id rows) own full accepted (without_keeps c a.id rows g)

-- a use of an option that wants one value has one
pub option_full : (a : Rule) (values : List Text) → range_kinds 1 1 (length values) ≡ [] → has_none (values_or_missing a values) ≡ false
option_full a [] one = cc
option_full a (v ∷ vs) one = refl

-- a use of a flag has a value, even if none is written
pub flag_full : (a : Rule) (values : List Text) → has_none a.missing ≡ false → has_none (values_or_missing a values) ≡ false
flag_full a [] missing = missing
flag_full a (v ∷ vs) missing = refl

first_value : (test : Text → Bool) (values : List Text) (t : Text) → list_all test values ≡ true → slice_get values 0 ≡ Some t → test t ≡ true
first_value test [] t all at = cc
first_value test (v ∷ vs) t all at = go (test v) refl all
  where
    go : (b : Bool) → test v ≡ b → (b && list_all test vs) ≡ true → test t ≡ true
    go true e h = let same : v ≡ t = cc in rw (← same) e
    go false e h = cc

pub first_accepted : (c : List Rule) (id : Text) (rows : List Row) (t : Text) → AreGood c rows → first_of id rows ≡ Some t → is_accepted c id t ≡ true
first_accepted c id [] t g at = cc
first_accepted c id (r ∷ rs) t g at = go (bytes_eq r.id id) refl at (λ h. first_accepted c id rs t g.1 h)
  where
    go : (b : Bool) → bytes_eq r.id id ≡ b → option_and_then (λ x. slice_get x.values 0) (cond b (Some r) (find (λ x. bytes_eq x.id id) rs)) ≡ Some t
        → (first_of id rs ≡ Some t → is_accepted c id t ≡ true) → is_accepted c id t ≡ true
    go true e h rest =
        let same : r.id ≡ id = (bytes_eq-Decides r.id id).0 e in
        let ok : is_accepted c r.id t ≡ true = first_value (is_accepted c r.id) r.values t g.0.1 h in
        subst (λ (x : Text). is_accepted c x t ≡ true) same ok
    go false e h rest = rest h
