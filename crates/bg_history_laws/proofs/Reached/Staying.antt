-- A revision that exists and is scaled stays so, unless an entry scales it down or removes it.
use Rattle.std.proofs.Common.{◌≡◌, ◌≤◌, ℕ, Bool, true, false, not, ◌==◌, ◌&&◌, nat_le, List, ◌∷◌, refl, arith, ap, sym, subst, ◌∙◌}
use Rattle.std.proofs.lemmas.Bool.Decides.{nat_tests}
use Rattle.bg_strategy.specs.declared.strategy.Strategy.{Strategy}
use Rattle.bg_history.specs.declared.entry.Entry.{Entry}
use Rattle.bg_history.specs.declared.entry.Entry.TheVariants.{Deploy, Retry, Outcome}
use Rattle.bg_history.specs.declared.entry.Outcome.TheVariants.{Resumed, ScaledDown, Removed}
use Rattle.bg_history.specs.Sizes.{begins, desired, is_scaled}
use Rattle.bg_history.specs.Deadlines.{exists_in}
use Rattle.bg_history.specs.Kept.{Opening}
use Rattle.bg_history.specs.Marks.{scales_down}
use Rattle.bg_history.specs.Allowed.{is_allowed}
use Rattle.bg_history_laws.specs.Reachable.{exists_scaled}
use Rattle.bg_history_laws.proofs.Tests.{and_parts, and_both, or_right, equal_numbers}
use Rattle.bg_history_laws.proofs.Reached.Existing.{exists-Deploy, exists-Removed}
use Rattle.bg_history_laws.proofs.Reached.Allowing.{removed}
use Rattle.bg_history_laws.proofs.Reached.Sizes.{at_least-more}

-- a revision with a greater size is still scaled
pub scaled-more : (n m : ℕ) → n ≤ m → nat_le 1 n ≡ true → nat_le 1 m ≡ true
scaled-more n m le h = grind (arith, nat_tests)

-- a deploy keeps each such revision
pub stays-Deploy : (s : Strategy) (q r : ℕ) (name ports : List ℕ) (before : List Entry) → exists_scaled s q before ≡ true
    → exists_scaled s q (Deploy r name ports ∷ before) ≡ true
stays-Deploy s q r name ports before h =
    let both = and_parts (exists_in q before) (is_scaled s q before) h in
    and_both (exists_in q (Deploy r name ports ∷ before)) (is_scaled s q (Deploy r name ports ∷ before))
    (exists-Deploy q r name ports before ∙ or_right (r == q) (exists_in q before) both.0)
    (scaled-more (desired s q before) (desired s q (Deploy r name ports ∷ before)) (at_least-more (begins q (Deploy r name ports) before) s.preview_replicas (desired s q before)) both.1)

-- a retry keeps each such revision
pub stays-Retry : (s : Strategy) (q : ℕ) (before : List Entry) → exists_scaled s q before ≡ true → exists_scaled s q (Retry ∷ before) ≡ true
stays-Retry s q before h =
    let both = and_parts (exists_in q before) (is_scaled s q before) h in
    and_both (exists_in q before) (is_scaled s q (Retry ∷ before)) both.0
    (scaled-more (desired s q before) (desired s q (Retry ∷ before)) (at_least-more (begins q Retry before) s.preview_replicas (desired s q before)) both.1)

-- the end of the pause keeps each such revision
pub stays-Resumed : (s : Strategy) (q r : ℕ) (before : List Entry) → exists_scaled s q before ≡ true → exists_scaled s q (Outcome (Resumed r) ∷ before) ≡ true
stays-Resumed s q r before h =
    let both = and_parts (exists_in q before) (is_scaled s q before) h in
    and_both (exists_in q before) (is_scaled s q (Outcome (Resumed r) ∷ before)) both.0
    (scaled-more (desired s q before) (desired s q (Outcome (Resumed r) ∷ before)) (at_least-more (r == q) s.replicas (desired s q before)) both.1)

-- a scale-down keeps each other revision
pub stays-ScaledDown : (s : Strategy) (q r : ℕ) (before : List Entry) → (r == q) ≡ false → exists_scaled s q before ≡ true
    → exists_scaled s q (Outcome (ScaledDown r) ∷ before) ≡ true
stays-ScaledDown s q r before other h = rw other h

-- a scaled revision differs from one that isn't scaled
scaled_other : (s : Strategy) (q r : ℕ) (before : List Entry) → is_scaled s r before ≡ false → is_scaled s q before ≡ true → (q == r) ≡ false
scaled_other s q r before unscaled scaled = go (q == r) refl where
  go : (b : Bool) → (q == r) ≡ b → b ≡ false
  go false is = refl
  go true is =
      let here : is_scaled s r before ≡ true = subst (λ (k : ℕ). is_scaled s k before ≡ true) (equal_numbers q r is) scaled in
      sym here ∙ unscaled

-- the removal of a revision that isn't scaled keeps each such revision
pub stays-Removed : (s : Strategy) (q r : ℕ) (before : List Entry) → is_scaled s r before ≡ false → exists_scaled s q before ≡ true
    → exists_scaled s q (Outcome (Removed r) ∷ before) ≡ true
stays-Removed s q r before unscaled h =
    let both = and_parts (exists_in q before) (is_scaled s q before) h in
    and_both (exists_in q (Outcome (Removed r) ∷ before)) (is_scaled s q before)
    (exists-Removed q r before ∙ ap (λ b. not b && exists_in q before) (scaled_other s q r before unscaled both.1) ∙ both.0) both.1

-- the entry is a removal
abbrev pub removes : Entry → Bool
removes (Outcome (Removed r)) = true
removes _ = false

-- an entry that neither scales this revision down nor removes one keeps it
pub stays-kept : (s : Strategy) (q : ℕ) (e : Entry) (before : List Entry) → scales_down q e ≡ false → removes e ≡ false → exists_scaled s q before ≡ true
    → exists_scaled s q (e ∷ before) ≡ true
stays-kept s q (Deploy r name ports) before other kept h = stays-Deploy s q r name ports before h
stays-kept s q Retry before other kept h = stays-Retry s q before h
stays-kept s q (Outcome (Resumed r)) before other kept h = stays-Resumed s q r before h
stays-kept s q (Outcome (ScaledDown r)) before other kept h = stays-ScaledDown s q r before other h
stays-kept s q (Outcome (Removed r)) before other kept h = absurd (cc)
stays-kept s q _ before other kept h = h

-- an allowed entry that doesn't scale this revision down keeps it
pub stays : (s : Strategy) (o : Opening) (q : ℕ) (e : Entry) (before : List Entry) → is_allowed s o e before ≡ true → scales_down q e ≡ false → exists_scaled s q before ≡ true
    → exists_scaled s q (e ∷ before) ≡ true
stays s o q (Outcome (Removed r)) before a other h = stays-Removed s q r before (removed s r before a) h
stays s o q e before a other h = stays-kept s q e before other refl h
