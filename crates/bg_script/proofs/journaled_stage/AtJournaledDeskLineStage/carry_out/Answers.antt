use Rattle.std.proofs.Common.{Ok, refl, sym, subst}
use Rattle.bg_operator.specs.declared.command.Command.{Command}
use Rattle.bg_script.specs.Journaling.{journal_state}
use Rattle.bg_script.specs.LineSteps.{ConnectionJournaled, ReadStep, Said}
use Rattle.bg_script.proofs.journaled_stage.AtJournaledDeskLineStage.carry_out.Goals as goal

pub returns-in-Before-clause-is : goal.returns-in-Before-clause-is
returns-in-Before-clause-is g c =
    let reads = g.C.BootClock.reads c.args.self.now.desk.clock.now in
    let stage = ConnectionJournaled reads (journal_state g.J.OrderJournal.kept g.J.OrderJournal.doubt c.args.self.now.journal) in
    let next = ConnectionJournaled reads (journal_state g.J.OrderJournal.kept g.J.OrderJournal.doubt c.order-answer-in-Before.new.journal) in
    let said = Said c.order-answer-in-Before.result in
    (subst (λ (asked : Command). ReadStep stage (Ok asked) said next) (sym c.in-Before.is) (refl, c.order-answer-in-Before.ensures), refl)
