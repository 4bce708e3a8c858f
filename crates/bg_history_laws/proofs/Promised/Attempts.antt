-- What the steps of an attempt require, and which revision is active.
use Rattle.std.proofs.Common.{◌≡◌, ℕ, true, false, ◌==◌, List, arith}
use Rattle.std.proofs.lemmas.Bool.Decides.{nat_tests}
use Rattle.bg_strategy.specs.declared.strategy.Strategy.{Strategy}
use Rattle.bg_history.specs.declared.entry.Entry.{Entry}
use Rattle.bg_history.specs.AttemptBounds.{stable_of, newest_of, is_running}
use Rattle.bg_history.specs.Selections.{is_selected}
use Rattle.bg_history.specs.Promotion.{may_be_ready, may_resume, may_switch, may_promote}
use Rattle.bg_history.specs.Deadlines.{may_scale_down}

-- each step belongs to the newest revision, and comes while an attempt runs
pub record IsStep (r : ℕ) (past : List Entry) : Type 0 where
  pub runs : is_running past ≡ true
  pub newest : r ≡ newest_of past

pub ready-step : (s : Strategy) (r : ℕ) (past : List Entry) → may_be_ready s r past ≡ true → IsStep r past
ready-step s r past h = record { runs = grind (arith, nat_tests); newest = grind (arith, nat_tests) }

pub resumed-step : (s : Strategy) (r : ℕ) (past : List Entry) → may_resume s r past ≡ true → IsStep r past
resumed-step s r past h = record { runs = grind (arith, nat_tests); newest = grind (arith, nat_tests) }

pub switched-step : (s : Strategy) (r : ℕ) (past : List Entry) → may_switch s r past ≡ true → IsStep r past
switched-step s r past h = record { runs = grind (arith, nat_tests); newest = grind (arith, nat_tests) }

pub promoted-step : (s : Strategy) (r : ℕ) (past : List Entry) → may_promote s r past ≡ true → IsStep r past
promoted-step s r past h = record { runs = grind (arith, nat_tests); newest = grind (arith, nat_tests) }

-- a revision that is scaled down isn't selected
pub down-unselected : (s : Strategy) (r : ℕ) (past : List Entry) → may_scale_down s r past ≡ true → is_selected r past ≡ false
down-unselected s r past h = grind (arith, nat_tests)

-- a revision that is scaled down isn't the stable one
pub down-not_stable : (s : Strategy) (r : ℕ) (past : List Entry) → may_scale_down s r past ≡ true → (r == stable_of past) ≡ false
down-not_stable s r past h = grind (arith, nat_tests)
