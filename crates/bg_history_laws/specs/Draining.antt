-- A revision that is due is scaled down when its last request leaves.
use Rattle.std.specs.Prelude.{◌≡◌, ℕ, List, [], ◌∷◌, IsTrue, IsFalse}
use Rattle.bg_strategy.specs.declared.strategy.Strategy.{Strategy}
use Rattle.bg_history.specs.declared.entry.Entry.{Entry}
use Rattle.bg_history.specs.Sizes.{available, is_scaled}
use Rattle.bg_history.specs.Requests.{open_at}
use Rattle.bg_history.specs.Deadlines.{is_due}

-- r is due, and this request is the only one open at it
pub record WaitsFor (s : Strategy) (number r : ℕ) (past : List Entry) : Type 0 where
  pub due : IsTrue (is_due s r past)
  pub last : open_at r past ≡ number ∷ []

-- r is scaled down: it wants no endpoint and has none available
pub record IsScaledDown (s : Strategy) (r : ℕ) (past : List Entry) : Type 0 where
  pub unscaled : IsFalse (is_scaled s r past)
  pub unavailable : available r past ≡ 0
