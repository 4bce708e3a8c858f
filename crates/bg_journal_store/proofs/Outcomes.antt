-- The parts of a statement that ended well, and what a result says.
use Rattle.std.proofs.Common.{◌≡◌, ◌⊎◌, inl, inr, ◌<◌, ◌≤◌, List, [], ◌∷◌, length, get_or, Ok, Err, Result, IfOk, OnOk, sym, ap, arith}

-- a part that gave a value did not stop on the way
pub went : {B E R : Type 0} {b : B} {Stops : E → Type 0} → ((stop : E) × Stops stop × (Ok b ≡ Err stop)) ⊎ R → R
went (inl stopped) = absurd (let e = stopped.2 in cc)
went (inr on) = on

pub same_value : {B E : Type 0} {a b : B} → ◌≡◌ {A = Result B E} (Ok a) (Ok b) → a ≡ b
same_value e = cc

pub alone : {X : Type 0} (xs : List X) (x : X) → 1 ≤ length xs → length xs < 2 → x ≡ get_or xs 0 x → xs ≡ x ∷ []
alone [] x some short first = absurd (omega arith)
alone (y ∷ []) x some short first = ap (λ z. z ∷ []) (sym first)
alone (y ∷ z ∷ more) x some short first = absurd (omega arith)

pub same_head : {X : Type 0} {a b : X} → a ∷ [] ≡ b ∷ [] → a ≡ b
same_head e = cc

pub both_ok : {A E : Type 0} {P Q R : A → Type 0} (r : Result A E) → ((a : A) → P a → Q a → R a) → IfOk r P → IfOk r Q → IfOk r R
both_ok (Err e) f p q = tt
both_ok (Ok a) f p q = f a p q

pub ok_so : {A E Q : Type 0} {P : A → Type 0} (r : Result A E) → ((a : A) → P a → Q) → IfOk r P → OnOk r Q
ok_so (Err e) f p = tt
ok_so (Ok a) f p = f a p
