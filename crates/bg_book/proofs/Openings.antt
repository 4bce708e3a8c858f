-- The invariant of a book that was just opened.
use Rattle.std.proofs.Common.{◌≡◌, ℕ, Bool, true, false, not, cond, is_none, ◌==◌, ◌&&◌, nat_lt, List, [], ◌∷◌, length, Some, None, refl, sym, ap, ◌∙◌, arith}
use Rattle.std.specs.Option.{option_or, option_map}
use Rattle.bg_strategy.specs.declared.strategy.Strategy.{Strategy}
use Rattle.bg_history.specs.declared.entry.Outcome.TheVariants.{ScaledDown, Removed}
use Rattle.bg_history.specs.AttemptBounds.{newest_of}
use Rattle.bg_history.specs.Sizes.{is_scaled}
use Rattle.bg_history.specs.Deadlines.{exists_in, is_spare, is_old, is_first, may_scale_down, may_remove}
use Rattle.bg_history.specs.Steps.{is_settled}
use Rattle.bg_ledger.specs.declared.holding.Holding.{Holding}
use Rattle.bg_rollout.specs.declared.limits.Limits.{Limits}
use Rattle.bg_rollout.specs.Changes.{opened}
use Rattle.bg_book.specs.Invariant.{AtRest}

never : (b : Bool) → (b && false) ≡ false
never true = refl
never false = refl

-- at the opening no outcome is allowed
pub settled-opened : (s : Strategy) → is_settled s [] ≡ true
settled-opened s =
    let due : may_scale_down s 1 [] ≡ false = ap (λ b. b && true) (never (exists_in 1 [] && is_spare s 1 [])) in
    let old : is_old s [] 1 ≡ false = ap (λ b. b && not (1 == newest_of [])) (never (not (is_scaled s 1 []))) in
    let removed : may_remove s 1 [] ≡ false = ap (λ b. nat_lt s.history_limit (length {A = ℕ} (cond b (1 ∷ []) [])) && is_first 1 (cond b (1 ∷ []) [])) old ∙ never _ in
    ap (λ b. is_none (option_or (option_map ScaledDown (cond b (Some 1) None)) (option_map Removed (cond (may_remove s 1 []) (Some 1) None)))) due
    ∙ ap (λ b. is_none (option_map Removed (cond b (Some 1) None))) removed

pub at_rest-opened : {n : ℕ} (s : Strategy) (name ports : List ℕ) (count : ℕ) (limits : Limits) (seats : List Holding) → n ≡ count
    → AtRest n (record { routing = opened s name ports count limits seats; spare = 0 })
at_rest-opened s name ports count limits seats same = record { all_seats = sym same; settled = settled-opened s; spare = omega arith; room = omega arith }
