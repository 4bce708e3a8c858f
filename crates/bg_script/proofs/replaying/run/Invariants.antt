use Rattle.bg_operator.specs.Reading.{Known}
use Rattle.bg_ledger.specs.Picks.{names_of}
use Rattle.bg_script.specs.LineSteps.{Closed}
use Rattle.bg_script.proofs.LinesInOrder.{Goes}
use Rattle.bg_script.proofs.replaying.run.Given as goal

abbrev pub ghosts-run_open : goal.ghosts-run_open
ghosts-run_open g a = names_of a.opening.now.settings.now.seats a.blanks

abbrev pub invariant-loop : goal.invariant-loop
invariant-loop g l = Known (g.B.Read.remaining l.fn.reader) (g.B.Read.remaining l.reader)
    (Goes (Closed l.fn.settings.strategy.now l.fn.settings.seats) (g.W.Write.contents l.fn.writer) (g.W.Write.contents l.writer)
    (Closed l.fn.settings.strategy.now l.fn.settings.seats) l.faulted)
