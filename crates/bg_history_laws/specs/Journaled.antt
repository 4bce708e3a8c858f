-- What a journal keeps of a past: all but the entries of requests.
use Rattle.std.specs.Prelude.{◌≡◌, ◌≤◌, ℕ, Bool, true, false, not, List, [], replicate, IsTrue}
use Rattle.std.specs.List.{list_all}
use Rattle.bg_history.specs.declared.entry.Entry.{Entry}
use Rattle.bg_history.specs.declared.entry.Entry.TheVariants.{Enter, Leave}
use Rattle.bg_strategy.specs.declared.strategy.Strategy.{Strategy}
use Rattle.bg_history.specs.Kept.{Opening}
use Rattle.bg_history.specs.AttemptBounds.{moment}
use Rattle.bg_history.specs.Requests.{open_requests, request_numbers, calls_in}
use Rattle.bg_history.specs.Steps.{IsLegal}
use Rattle.bg_history.specs.Compacted.{without}
use Rattle.bg_history.specs.Templates.{template}
use Rattle.bg_history.specs.Tables.{table_of}
use Rattle.bg_history_laws.specs.Alike.{Alike}
use Rattle.bg_history_laws.specs.Compaction.{Answers}

-- the entry is the Enter or the Leave of a request
abbrev pub is_of_request : Entry → Bool
is_of_request (Enter seat service number r port) = true
is_of_request (Leave seat number r) = true
is_of_request _ = false

-- the past without the entries of all requests
abbrev pub journaled : List Entry → List Entry
journaled past = without (λ number. true) past

-- what the journaled past keeps: it is legal for any number of seats, without closed requests; each question that
-- depends on no request has the same answer; no request is open; and no entry is one of a request
pub record Journals (s : Strategy) (o : Opening) (past : List Entry) : Type 0 where
  pub legal : (seats : ℕ) → 1 ≤ seats → seats ≤ 2048
      → IsLegal s (record o { seats = seats }) (replicate seats 0) (journaled past)
  pub alike : Alike s o past (journaled past)
  pub now : moment past ≡ moment (journaled past)
  pub answers : Answers s o past (journaled past)
  pub table : table_of s (journaled past) ≡ table_of s past
  pub no_request : IsTrue (list_all (λ e. not (is_of_request e)) (journaled past))
  pub none_open : open_requests (journaled past) ≡ []
  pub numbers : request_numbers (journaled past) ≡ []
  pub calls : (seat : ℕ) → calls_in seat (journaled past) ≡ 0
  pub templates : (seats r : ℕ)
      → template (record o { seats = seats }) r (journaled past) ≡ template o r past
