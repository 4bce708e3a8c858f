-- The fields of the core.
use Rattle.std.specs.Prelude.{ℕ, Bool, false, None}
use Rattle.bg_promotion.specs.declared.promotion.attempt.Attempt.{Attempt}

-- an attempt in which nothing has happened
abbrev pub begun : Attempt
begun = record {
  ready = false;
  resumed = false;
  switched = false;
  promote_given = false;
  promote_full_given = false;
  post_passed = false;
  passed_at = None;
}

-- the settings for promotion, what has happened in the running attempt, and the selectors
pub record Core : Type 0 where
  -- the number of endpoints of a revision at full size
  pub replicas : ℕ
  -- the number of endpoints of a new revision before the switch
  pub preview_replicas : ℕ
  -- a new revision is promoted without an operator
  pub auto_promotion : Bool
  -- the length of the pause before that promotion, in seconds
  pub auto_seconds : ℕ
  -- the switch waits for an analysis
  pub pre : Bool
  -- an analysis follows the switch
  pub post : Bool
  -- an attempt runs
  pub running : Bool
  -- the last attempt was halted
  pub halted : Bool
  -- what has happened in the running attempt
  pub attempt : Attempt
  -- the revision that the active service selects
  pub active : ℕ
  -- the revision that was last promoted; 1 before the first promotion
  pub stable : ℕ
  -- the revision that was last deployed; 1 before the first deploy
  pub newest : ℕ
