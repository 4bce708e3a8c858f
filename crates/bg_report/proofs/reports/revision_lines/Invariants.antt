use Rattle.std.proofs.Common.{take, flat_map}
use Rattle.std.specs.Io.KnownBytes.{Appends}
use Rattle.bg_history_laws.specs.Listed.{revisions_of}
use Rattle.bg_report.specs.Reports.{revision_line}
use Rattle.bg_report.proofs.reports.revision_lines.Given as goal

abbrev pub invariant-loop-place : goal.invariant-loop-place
invariant-loop-place g l =
    Appends (g.W.Write.contents l.initial.writer) (g.W.Write.contents l.writer)
    (flat_map (revision_line l.book) (take l.place (revisions_of l.book.strategy l.book.opening l.book.past)))
