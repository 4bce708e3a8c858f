-- The first of the places so far.
use Rattle.std.proofs.Common.{◌≡◌, ℕ, ◌+◌, ◌<◌, Bool, true, false, cond, Option, Some, None, refl, sym, subst, inl, inr, arith}
use Rattle.std.proofs.lemmas.Bool.{cases_lt}
use Rattle.bg_control_port.specs.Precedences.{IsNotBefore}
use Rattle.bg_control_port.specs.Turns.{first_so_far, precedes}
use Rattle.bg_control_port.specs.declared.turn.Place.{Place}

-- below an index, this is the first by a function of the index; or none has a place
abbrev pub IsFirstBelow : (ℕ → Option Place) → ℕ → Option (ℕ × Place) → Type 0
IsFirstBelow order end None = (k : ℕ) → k < end → order k ≡ None
IsFirstBelow order end (Some first) =
    (first.0 < end) × (order first.0 ≡ Some first.1) × ((k : ℕ) → k < end → IsNotBefore (order k) first.1)

pub first_none : (order : ℕ → Option Place) → IsFirstBelow order 0 None
first_none order k less = absurd (omega arith)

below : (P : ℕ → Type 0) (end : ℕ) → ((k : ℕ) → k < end → P k) → P end → (k : ℕ) → k < end + 1 → P k
below P end before here k less =
    elim (cases_lt k end) [
      | inl under ↦ before k under
      | inr over ↦ subst P (let same : end ≡ k = omega arith in same) here
    ]

-- no place goes before itself
irreflexive : (place : Place) → precedes place place ≡ false
irreflexive place = grind arith

-- what does not go before one place does not go before a place that goes before that one
through : (other first next : Place) → precedes other first ≡ false → precedes next first ≡ true
    → precedes other next ≡ false
through other first next not_before before = grind arith

pub first_more : (order : ℕ → Option Place) (end : ℕ) (first : Option (ℕ × Place)) (next : Option Place)
    → IsFirstBelow order end first → order end ≡ next → IsFirstBelow order (end + 1) (first_so_far first end next)
first_more order end None None before is = below (λ k. order k ≡ None) end before is
first_more order end (Some first) None before is = (
  omega (arith, before.0),
  before.1,
  below (λ k. IsNotBefore (order k) first.1) end before.2 (subst (λ o. IsNotBefore o first.1) (sym is) tt),
)
first_more order end None (Some next) before is = (
  omega arith,
  is,
  below (λ k. IsNotBefore (order k) next) end
      (λ k less. subst (λ o. IsNotBefore o next) (sym (before k less)) tt)
      (subst (λ o. IsNotBefore o next) (sym is) (irreflexive next)),
)
first_more order end (Some first) (Some next) before is = go (precedes next first.1) refl where
  along : (o : Option Place) → precedes next first.1 ≡ true → IsNotBefore o first.1 → IsNotBefore o next
  along None h not_before = tt
  along (Some other) h not_before = through other first.1 next not_before h

  go : (b : Bool) → precedes next first.1 ≡ b → IsFirstBelow order (end + 1) (cond b (Some (end, next)) (Some first))
  go true e = (
    omega arith,
    is,
    below (λ k. IsNotBefore (order k) next) end (λ k under. along (order k) e (before.2 k under))
        (subst (λ o. IsNotBefore o next) (sym is) (irreflexive next)),
  )
  go false e = (
    omega (arith, before.0),
    before.1,
    below (λ k. IsNotBefore (order k) first.1) end before.2 (subst (λ o. IsNotBefore o first.1) (sym is) e),
  )
