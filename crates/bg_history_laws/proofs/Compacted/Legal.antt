-- An entry that was allowed is still allowed.
use Rattle.std.proofs.Common.{◌≡◌, ℕ, Bool, true, false, not, cond, ◌^◌, nat_le, List, [], ◌∷◌, refl, arith, ap, sym, ◌∙◌}
use Rattle.std.proofs.lemmas.Bool.Decides.{nat_tests}
use Rattle.bg_strategy.specs.declared.strategy.Strategy.{Strategy}
use Rattle.bg_history.specs.declared.entry.Entry.{Entry}
use Rattle.bg_history.specs.declared.entry.Entry.TheVariants.{Tick, Enter, Leave}
use Rattle.bg_history.specs.Kept.{Opening}
use Rattle.bg_history.specs.AttemptBounds.{moment}
use Rattle.bg_history.specs.Allowed.{is_allowed}
use Rattle.bg_history.specs.Steps.{all_allowed}
use Rattle.bg_history.specs.Compacted.{keeps, without, untick, thin}
use Rattle.bg_history_laws.proofs.Compacted.Without.{without-moment, without-alike}
use Rattle.bg_history_laws.proofs.Compacted.Thin.{thin-moment, thin-alike}
use Rattle.bg_history_laws.proofs.Compacted.Allowed.{allowed-fewer, without-fewer, thin-fewer}
use Rattle.bg_history_laws.proofs.Tests.{and_parts, and_both}

-- an entry that stays, in front of a past without those requests
step : (s : Strategy) (o : Opening) (gone : ℕ → Bool) (e : Entry) (before : List Entry) → keeps gone e ≡ true → all_allowed s o (e ∷ before) ≡ true
    → (all_allowed s o before ≡ true → all_allowed s o (without gone before) ≡ true) → all_allowed s o (e ∷ without gone before) ≡ true
step s o gone e before kept h rest =
    let two = and_parts (is_allowed s o e before) (all_allowed s o before) h in
    and_both (is_allowed s o e (without gone before)) (all_allowed s o (without gone before))
    (allowed-fewer s o gone e before (without gone before) (without-alike s o gone before) (without-moment gone before) (without-fewer gone before) kept two.0)
    (rest two.1)

pub without-allowed : (s : Strategy) (o : Opening) (gone : ℕ → Bool) (past : List Entry) → all_allowed s o past ≡ true → all_allowed s o (without gone past) ≡ true
without-allowed s o gone [] h = refl
without-allowed s o gone (Enter seat service number r port ∷ before) h = go (gone number) refl (without-allowed s o gone before) where
  go : (b : Bool) → gone number ≡ b → (all_allowed s o before ≡ true → all_allowed s o (without gone before) ≡ true)
      → all_allowed s o (cond (not b) (Enter seat service number r port ∷ without gone before) (without gone before)) ≡ true
  go true is rest = rest (and_parts (is_allowed s o (Enter seat service number r port) before) (all_allowed s o before) h).1
  go false is rest = step s o gone (Enter seat service number r port) before (ap not is) h rest
without-allowed s o gone (Leave seat number r ∷ before) h = go (gone number) refl (without-allowed s o gone before) where
  go : (b : Bool) → gone number ≡ b → (all_allowed s o before ≡ true → all_allowed s o (without gone before) ≡ true)
      → all_allowed s o (cond (not b) (Leave seat number r ∷ without gone before) (without gone before)) ≡ true
  go true is rest = rest (and_parts (is_allowed s o (Leave seat number r) before) (all_allowed s o before) h).1
  go false is rest = step s o gone (Leave seat number r) before (ap not is) h rest
without-allowed s o gone (e ∷ before) h = step s o gone e before refl h (without-allowed s o gone before)

-- a past without its newest tick is still allowed, and its moment isn't later
untick-earlier : (s : Strategy) (o : Opening) (past : List Entry) → all_allowed s o past ≡ true → (all_allowed s o (untick past) ≡ true) × (nat_le (moment (untick past)) (moment past) ≡ true)
untick-earlier s o [] h = (refl, refl)
untick-earlier s o (Tick m ∷ before) h =
    let two = and_parts (is_allowed s o (Tick m) before) (all_allowed s o before) h in
    (two.1, (and_parts (nat_le (moment before) m) (nat_le m (2 ^ 53)) two.0).0)
untick-earlier s o (e ∷ before) h = (h, grind (arith, nat_tests))

later-too : (x y m : ℕ) → nat_le x y ≡ true → nat_le y m ≡ true → nat_le x m ≡ true
later-too x y m h k = grind (arith, nat_tests)

pub thin-allowed : (s : Strategy) (o : Opening) (past : List Entry) → all_allowed s o past ≡ true → all_allowed s o (thin past) ≡ true
thin-allowed s o [] h = refl
thin-allowed s o (Tick m ∷ before) h =
    let two = and_parts (is_allowed s o (Tick m) before) (all_allowed s o before) h in
    let tick = and_parts (nat_le (moment before) m) (nat_le m (2 ^ 53)) two.0 in
    let was = untick-earlier s o (thin before) (thin-allowed s o before two.1) in
    let le : nat_le (moment (thin before)) m ≡ true = ap (λ t. nat_le t m) (sym (thin-moment before)) ∙ tick.0 in
    and_both (is_allowed s o (Tick m) (untick (thin before))) (all_allowed s o (untick (thin before)))
    (and_both (nat_le (moment (untick (thin before))) m) (nat_le m (2 ^ 53)) (later-too (moment (untick (thin before))) (moment (thin before)) m was.1 le) tick.1)
    was.0
thin-allowed s o (e ∷ before) h =
    let two = and_parts (is_allowed s o e before) (all_allowed s o before) h in
    and_both (is_allowed s o e (thin before)) (all_allowed s o (thin before))
    (allowed-fewer s o (λ n. false) e before (thin before) (thin-alike s o before) (thin-moment before) (thin-fewer (λ n. false) before) refl two.0)
    (thin-allowed s o before two.1)
