-- The existing revisions and their sizes.
use Rattle.std.specs.Prelude.{◌<◌, ℕ, Bool, false, not, max, if◌then◌else◌, ◌==◌, ◌&&◌, nat_lt, nat_le, List, [], ◌∷◌, filter}
use Rattle.bg_history.specs.declared.entry.Entry.{Entry}
use Rattle.bg_history.specs.declared.entry.Entry.TheVariants.{Deploy, Available, Retry, Outcome}
use Rattle.bg_history.specs.declared.entry.Outcome.TheVariants.{Resumed, ScaledDown, Removed}
use Rattle.bg_strategy.specs.declared.strategy.Strategy.{Strategy}
use Rattle.bg_history.specs.AttemptBounds.{stable_of, newest_of}

-- the ascending list with the number, which occurs in it once
abbrev pub put : ℕ → List ℕ → List ℕ
put r [] = r ∷ []
put r (q ∷ rest) =
    if r == q then q ∷ rest
    else if nat_lt r q then r ∷ q ∷ rest
    else q ∷ put r rest

-- the revisions that exist, in ascending order: 1 and each deployed one, except those removed since
abbrev pub existing : List Entry → List ℕ
existing [] = 1 ∷ []
existing (Deploy r name ports ∷ before) = put r (existing before)
existing (Outcome (Removed r) ∷ before) = filter (λ q. not (q == r)) (existing before)
existing (_ ∷ before) = existing before

-- each number of the list is above `low`
abbrev pub AllAbove : ℕ → List ℕ → Type 0
AllAbove low [] = Unit {0}
AllAbove low (x ∷ xs) = (low < x) × AllAbove low xs

-- each number of the list is below all that follow it
abbrev pub Ascends : List ℕ → Type 0
Ascends [] = Unit {0}
Ascends (x ∷ xs) = AllAbove x xs × Ascends xs

-- the greatest number given to a revision
abbrev pub last_number : List Entry → ℕ
last_number [] = 1
last_number (Deploy r name ports ∷ before) = max r (last_number before)
last_number (_ ∷ before) = last_number before

-- the entry begins an attempt of r
abbrev pub begins : ℕ → Entry → List Entry → Bool
begins r Retry before = r == newest_of before
begins r (Deploy q name ports) before = (q == r) && not (r == stable_of before)
begins r _ before = false

-- the greater of n and the size if the test holds, else the size
abbrev pub at_least : Bool → ℕ → ℕ → ℕ
at_least test n size = if test then max n size else size

-- the number of endpoints that r wants
abbrev pub desired : Strategy → ℕ → List Entry → ℕ
desired s r [] = if r == 1 then s.replicas else 0
desired s r (Outcome (ScaledDown q) ∷ before) = if q == r then 0 else desired s r before
desired s r (Outcome (Resumed q) ∷ before) = at_least (q == r) s.replicas (desired s r before)
desired s r (e ∷ before) = at_least (begins r e before) s.preview_replicas (desired s r before)

-- the number of available endpoints of r: the last report since r was scaled down, else 0
abbrev pub available : ℕ → List Entry → ℕ
available r [] = 0
available r (Available q n ∷ before) = if q == r then n else available r before
available r (Outcome (ScaledDown q) ∷ before) = if q == r then 0 else available r before
available r (_ ∷ before) = available r before

abbrev pub is_scaled : Strategy → ℕ → List Entry → Bool
is_scaled s r past = nat_le 1 (desired s r past)
