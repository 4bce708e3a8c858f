-- A document with no fault has a text for its active service.
use Rattle.std.proofs.Common.{◌≡◌, ℕ, zero, suc, List, [], ◌∷◌, refl, sym, ◌∙◌, ap, rules}
use Rattle.std.specs.Prelude.{Bool, true, false, not, ◌&&◌, cond, Option, Some, None, is_some, is_none, option_map, option_and_then, find, drop, codes, IsSome}
use Rattle.std.specs.Option.{option_map_or, option_or}
use Rattle.serde_json.specs.Data.{Data}
use Rattle.serde_json.specs.Find.{get, as_object, as_str}
use Rattle.bg_strategy_text.specs.Values.{has_type, is_given}
use Rattle.bg_strategy_text.specs.Table.{fields}
use Rattle.bg_strategy_text.specs.Lookup.{spec_at, strategy_at, blue_green_at, given_value, found, text_of}
use Rattle.bg_strategy_text.specs.Faults.{is_missing, has_wrong_type, strategy_fault_of}
use Rattle.bg_strategy_text.specs.declared.table.Field.{Field}
use Rattle.bg_strategy_text.specs.declared.table.Field.TheVariants as field
use Rattle.bg_strategy_text.specs.declared.table.Kind.{Kind}
use Rattle.bg_strategy_text.specs.declared.table.Kind.TheVariants.{Object, Service}
use Rattle.bg_strategy_text.specs.declared.fault.StrategyFault.TheVariants as fault

-- ---- searches that find nothing

-- if a choice of two options is none, each of the two is none
none_or : {A : Type 0} (a b : Option A) → option_or a b ≡ None → (a ≡ None) × (b ≡ None)
none_or None b e = (refl, e)
none_or (Some x) b e = cc

-- if a mapped option is none, the option is none
none_map : {A B : Type 0} (f : A → B) (o : Option A) → option_map f o ≡ None → o ≡ None
none_map f None e = refl
none_map f (Some x) e = cc

-- if `find` finds nothing, the head of the list fails the test, and `find` finds nothing in the rest
none_cons : (b : Bool) (x : Field) (rest : Option Field) → cond b (Some x) rest ≡ None
    → (b ≡ false) × (rest ≡ None)
none_cons true x rest e = cc
none_cons false x rest e = (refl, e)

-- if `find` finds nothing in a list, it finds nothing in the rest
none_rest : (p : Field → Bool) (n : ℕ) (xs : List Field) → find p xs ≡ None
    → find p (drop n xs) ≡ None
none_rest p zero xs e = e
none_rest p (suc n) [] e = refl
none_rest p (suc n) (x ∷ xs) e = none_rest p n xs (none_cons (p x) x (find p xs) e).1

-- the first of the list fails the test
abbrev HeadFails : (Field → Bool) → List Field → Type 0
HeadFails p [] = Unit {0}
HeadFails p (x ∷ xs) = p x ≡ false

head_fails : (p : Field → Bool) (xs : List Field) → find p xs ≡ None → HeadFails p xs
head_fails p [] e = tt
head_fails p (x ∷ xs) e = (none_cons (p x) x (find p xs) e).0

-- if `find` finds nothing, the element at place n fails the test
fails_at : (p : Field → Bool) (n : ℕ) (xs : List Field) → find p xs ≡ None
    → HeadFails p (drop n xs)
fails_at p n xs e = head_fails p (drop n xs) (none_rest p n xs e)

-- ---- values that the document gives

-- a required field that is not missing from an object has a value
present : (looked : Bool) (o : Option Data) → looked ≡ true
    → (true && (looked && is_none o)) ≡ false → (v : Data) × (o ≡ Some v)
present true None l e = cc
present false None l e = cc
present looked (Some v) l e = (v, refl)

given_as : (k : Kind) (b : Bool) (w v : Data) → cond b (Some w) None ≡ Some v → w ≡ v
given_as k true w v e = cc
given_as k false w v e = cc

-- the given value is the value under the key
ungiven : (k : Kind) (o : Option Data) (v : Data) → option_and_then (given_value k) o ≡ Some v
    → o ≡ Some v
ungiven k None v e = cc
ungiven k (Some w) v e = ap (λ (x : Data). Some x) (given_as k (is_given k w) w v e)

typed_here : (k : Kind) (v : Data) → not (has_type k v) ≡ false → has_type k v ≡ true
typed_here k v e =
    elim (has_type k v) as (λ b. not b ≡ false → b ≡ true) [ true ↦ λ _. refl | false ↦ λ h. cc ] e

-- a value whose type is not wrong has the right type
typed : (k : Kind) (o : Option Data) (v : Data) → o ≡ Some v
    → option_map_or (λ x. not (has_type k x)) o false ≡ false → has_type k v ≡ true
typed k o v is e = typed_here k v (rw is at e)

-- the fields of an object are checked
looked_at : (o : Option Data) (v : Data) → o ≡ Some v → is_some (as_object v) ≡ true
    → is_some (option_and_then as_object o) ≡ true
looked_at o v is h = rw is h

-- the value exists, is given, and has the right type
pub record IsThere (k : Kind) (o : Option Data) : Type 0 where
  pub value : Data
  pub is : o ≡ Some value
  pub given_is : option_and_then (given_value k) o ≡ Some value
  pub has : has_type k value ≡ true

-- this holds for a required field of an object that is not missing and has no wrong type
needed_there : (k : Kind) (looked : Bool) (o : Option Data) → looked ≡ true
    → (true && (looked && is_none (option_and_then (given_value k) o))) ≡ false
    → option_map_or (λ x. not (has_type k x)) (option_and_then (given_value k) o) false ≡ false
    → IsThere k o
needed_there k looked o l missing mistyped =
    let p = present looked (option_and_then (given_value k) o) l missing in
    record {
      value = p.0;
      is = ungiven k o p.0 p.1;
      given_is = p.1;
      has = typed k (option_and_then (given_value k) o) p.0 p.1 mistyped;
    }

some_of : {A : Type 0} (o : Option A) → is_some o ≡ true → (x : A) × (o ≡ Some x)
some_of None h = cc
some_of (Some x) h = (x, refl)

text_at : (o : Option Data) (v : Data) (t : List ℕ) → o ≡ Some v → as_str v ≡ Some t
    → option_and_then as_str o ≡ Some t
text_at o v t is h = rw is h

-- ---- the way down to the active service: document, spec, strategy, blueGreen

-- the value at activeService
abbrev active_at : Data → Option Data
active_at d = option_and_then (get (codes "activeService")) (blue_green_at d)

pub active_there : (d : Data) → strategy_fault_of d ≡ None
    → (t : List ℕ) × (text_of field.ActiveService d ≡ Some t)
active_there d none =
    let split = none_or (option_map fault.Missing (find (is_missing d) fields)) _ none in
    let missing = none_map _ _ split.0 in
    let mistyped = none_map _ _ (none_or (option_map fault.WrongType (find (has_wrong_type d) fields)) _ split.1).0 in
    let document : has_type Object d ≡ true =
    typed Object (Some d) d refl (fails_at (has_wrong_type d) 0 fields mistyped) in
    let spec : IsThere Object (spec_at d) =
    needed_there Object (is_some (as_object d)) (spec_at d) document
    (fails_at (is_missing d) 1 fields missing) (fails_at (has_wrong_type d) 1 fields mistyped) in
    let spec_in = looked_at (spec_at d) spec.value spec.is spec.has in
    let strategy : IsThere Object (strategy_at d) =
    needed_there Object (is_some (option_and_then as_object (spec_at d))) (strategy_at d) spec_in
    (fails_at (is_missing d) 4 fields missing) (fails_at (has_wrong_type d) 4 fields mistyped) in
    let strategy_in = looked_at (strategy_at d) strategy.value strategy.is strategy.has in
    let blue_green : IsThere Object (blue_green_at d) =
    needed_there Object (is_some (option_and_then as_object (strategy_at d))) (blue_green_at d) strategy_in
    (fails_at (is_missing d) 5 fields missing) (fails_at (has_wrong_type d) 5 fields mistyped) in
    let blue_green_in = looked_at (blue_green_at d) blue_green.value blue_green.is blue_green.has in
    let active : IsThere Service (active_at d) =
    needed_there Service (is_some (option_and_then as_object (blue_green_at d))) (active_at d) blue_green_in
    (fails_at (is_missing d) 6 fields missing) (fails_at (has_wrong_type d) 6 fields mistyped) in
    let text = some_of (as_str active.value) active.has in
    (text.0, text_at (found field.ActiveService d) active.value text.0 active.given_is text.1)

-- if two options are equal and one has a value, the other has it
pub is_there : {A : Type 0} (o p : Option A) (x : A) → o ≡ p → o ≡ Some x → IsSome p
is_there o p x same at = let e : p ≡ Some x = sym same ∙ at in rw e (search rules)
