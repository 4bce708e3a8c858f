-- The steps of an attempt, as tests of an entry.
use Rattle.std.specs.Prelude.{Bool}
use Rattle.bg_history.specs.declared.entry.Entry.{Entry}
use Rattle.bg_history.specs.Attempts.{is_ready, is_resumed, is_switched, is_promote, is_promote_full, is_post_success}
use Rattle.bg_audit.specs.declared.looking_back.Step.{Step}
use Rattle.bg_audit.specs.declared.looking_back.Step.TheVariants.{Ready, Resumed, Switched, Promote, PromoteFull, PostSuccess}

-- the entry is this step
abbrev pub is_step : Step → Entry → Bool
is_step Ready e = is_ready e
is_step Resumed e = is_resumed e
is_step Switched e = is_switched e
is_step Promote e = is_promote e
is_step PromoteFull e = is_promote_full e
is_step PostSuccess e = is_post_success e
