-- The text that answers a query of a book.
use Rattle.std.specs.Prelude.{ℕ, List}
use Rattle.bg_operator.specs.declared.query.Query.{Query}
use Rattle.bg_operator.specs.declared.query.Query.TheVariants as query
use Rattle.bg_report.specs.Reports.{report_text}
use Rattle.bg_rollout.specs.Routing.{Routing}

abbrev pub query_text : Query → Routing → List ℕ
query_text query.Report book = report_text book
