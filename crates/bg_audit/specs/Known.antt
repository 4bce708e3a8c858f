-- The facts that the audit keeps of a past.
use Rattle.std.specs.Prelude.{◌≡◌, true, List, map}
use Rattle.bg_strategy.specs.declared.strategy.Strategy.{Strategy}
use Rattle.bg_history.specs.declared.entry.Entry.{Entry}
use Rattle.bg_history.specs.Kept.{Opening}
use Rattle.bg_history.specs.Requests.{open_requests, request_numbers}
use Rattle.bg_history.specs.Steps.{all_allowed}
use Rattle.bg_history_laws.specs.Listed.{revisions_of}
use Rattle.bg_audit.specs.declared.facts.Facts.{Facts}
use Rattle.bg_audit.specs.AuditedState.{IsAuditedState}
use Rattle.bg_audit.specs.Marked.{HasMarks}
use Rattle.bg_audit.specs.Requests.{request_told, greatest_of}

-- each fact is what the past says
pub record Knows (s : Strategy) (o : Opening) (past : List Entry) (f : Facts) : Type 0 where
  pub state : IsAuditedState s past f.state
  pub revisions : f.revisions.items ≡ revisions_of s o past
  pub marks : HasMarks s past f.marks.items
  pub requests : f.requests.items ≡ map request_told (open_requests past)
  pub greatest : f.greatest ≡ greatest_of (request_numbers past)

-- each entry was allowed, and each fact is what the past says
pub record FactsRepresent (s : Strategy) (o : Opening) (past : List Entry) (f : Facts) : Type 0 where
  pub allowed : all_allowed s o past ≡ true
  pub known : Knows s o past f
