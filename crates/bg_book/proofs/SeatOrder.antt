-- The order of seats that were lent.
use Rattle.std.proofs.Common.{◌≡◌, ℕ, suc, List, [], ◌∷◌, ◌++◌, length, take, drop, take_at, slice_get, Some, refl, sym, ap, ◌∙◌, arith}
use Rattle.std.proofs.lemmas.List.{length-map}
use Rattle.bg_ledger.specs.declared.holding.Holding.{Holding}
use Rattle.bg_rollout.specs.Gathering.{indices}

-- a vector that was lent as a slice has the seats that the slice had at its end
same_length : (xs ys : List Holding) → indices xs ≡ indices ys → length xs ≡ length ys
same_length xs ys e = sym (length-map xs (λ (s : Holding). s.index)) ∙ ap length e ∙ length-map ys (λ (s : Holding). s.index)

pub as_left : (len : ℕ) (items now new : List Holding) → now ≡ items → indices new ≡ indices now → length items ≡ len
    → take len (new ++ drop (length new) items) ≡ new
as_left len items now new is order count =
    take_at new (drop (length new) items) len (same_length new now order ∙ ap length is ∙ count)

-- if each seat keeps its index, the indices stay the same
pub same_indices : (old new : List Holding) → length new ≡ length old
    → ((i : ℕ) (before after : Holding) → slice_get old i ≡ Some before → slice_get new i ≡ Some after → after.index ≡ before.index)
    → indices new ≡ indices old
same_indices [] [] count each = refl
same_indices [] (t ∷ new) count each = absurd (omega (arith, count))
same_indices (s ∷ old) [] count each = absurd (omega (arith, count))
same_indices (s ∷ old) (t ∷ new) count each =
    ap (λ (n : ℕ). n ∷ indices new) (each 0 s t refl refl)
    ∙ ap (λ (ns : List ℕ). s.index ∷ ns) (same_indices old new (omega (arith, count)) (λ i before after was is. each (suc i) before after was is))
