-- No connection that is kept is lost.
use Rattle.std.proofs.Common.{◌≡◌, ◌≢◌, ◌==◌, ◌+◌, ◌∙◌, ℕ, Bool, true, false, cond, List, [], ◌∷◌, ◌++◌, find, refl, ap, arith, Option, Some, None}
use Rattle.std.proofs.lemmas.Bool.{ne_eqb}
use Rattle.std.specs.List.{AllByRecursion}
use Rattle.bg_endpoint_side.specs.KeptLists.{IsNewest, IsPut, Kept, has_key, has_port, in_front, put_last, without_first}
use Rattle.bg_endpoint_side.specs.KeptRuns.{Calls, KeptCall, LosesNone, given_by, one_if, put_by, puts, takes, takes_first, takes_oldest, times}
use Rattle.bg_endpoint_side.specs.declared.kept_connections.KeptConnection.{KeptConnection}

times_append : (key : ℕ) (xs ys : List KeptConnection) → times key (xs ++ ys) ≡ times key xs + times key ys
times_append key [] ys = omega arith
times_append key (x ∷ xs) ys = let others = times_append key xs ys in omega arith

times_front : (key : ℕ) (o : Option KeptConnection) (xs : List KeptConnection)
    → times key (in_front o xs) ≡ times key (in_front o []) + times key xs
times_front key None xs = omega arith
times_front key (Some x) xs = omega arith

times_first : (key : ℕ) (test : KeptConnection → Bool) (xs : List KeptConnection)
    → times key xs ≡ times key (in_front (find test xs) []) + times key (without_first test xs)
times_first key test [] = omega arith
times_first key test (x ∷ xs) = go (times_first key test xs) (test x) where
  go : times key xs ≡ times key (in_front (find test xs) []) + times key (without_first test xs) → (b : Bool)
      → times key (x ∷ xs) ≡ times key (in_front (cond b (Some x) (find test xs)) [])
      + times key (cond b xs (x ∷ without_first test xs))
  go others true = omega arith
  go others false = omega arith

times_newest : (key : ℕ) (test : KeptConnection → Bool) (old new : List KeptConnection) (newest : KeptConnection)
    → IsNewest test old newest new → times key old ≡ times key (newest ∷ []) + times key new
times_newest key test old new newest is =
    let before = ap (times key) is.old_is ∙ times_append key is.before (newest ∷ is.after) in
    let after = ap (times key) is.left_is ∙ times_append key is.before is.after in
    omega arith

-- where no connection has the key, none is left out
all_stay : (key : ℕ) (xs : List KeptConnection) → AllByRecursion (λ one. one.key ≢ key) xs → without_first (has_key key) xs ≡ xs
all_stay key [] none = refl
all_stay key (x ∷ xs) none =
    ap (λ b. cond b xs (x ∷ without_first (has_key key) xs)) (ne_eqb x.key key none.0)
    ∙ ap (λ others. x ∷ others) (all_stay key xs none.1)

times_put : (key other port now : ℕ) (old new : Kept) (given : Option KeptConnection)
    → AllByRecursion (λ one. one.key ≢ other) old.connections → IsPut other port now old given new
    → times key old.connections + one_if (other == key) ≡ times key new.connections + times key (in_front given [])
times_put key other port now old new given none is =
    let others = without_first (has_key other) old.connections in
    let same = ap (times key) (all_stay other old.connections none) in
    let put = times_append key others (put_last other port now others ∷ []) in
    let all = ap (times key) is.all_are in
    let front = times_front key given new.connections in
    omega arith

call_loses_none : (key : ℕ) (old new : Kept) (call : KeptCall) → Calls old call new
    → times key old.connections + put_by key call ≡ times key new.connections + given_by key call
call_loses_none key old new (puts other port now given) is = times_put key other port now old new given is.0 is.1
call_loses_none key old new (takes port None) is = let same = ap (times key) is.0 in omega arith
call_loses_none key old new (takes port (Some newest)) is =
    let taken = times_newest key (has_port port) old.connections new.connections newest is in omega arith
call_loses_none key old new (takes_first test given) is =
    let taken = times_first key test old.connections in
    let found = ap (λ o. times key (in_front o [])) is.0 in
    let left = ap (times key) is.1 in
    omega arith
call_loses_none key old new (takes_oldest given) is =
    let all = ap (times key) is in
    let front = times_front key given new.connections in
    omega arith

pub loses_none : (key : ℕ) (calls : List KeptCall) (old new : Kept) → LosesNone old calls new key
loses_none key [] old new is = let same = ap (λ (k : Kept). times key k.connections) is in omega arith
loses_none key (call ∷ more) old new is =
    let first = call_loses_none key old is.0 call is.1 in
    let others = loses_none key more is.0 new is.2 in
    omega arith
