use Rattle.std.proofs.Common.{Ok, refl, ap, sym, subst}
use Rattle.std.specs.Io.KnownBytes.{Appends}
use Rattle.bg_operator.specs.declared.command.Command.{Command}
use Rattle.bg_rollout.specs.Routing.{Routing}
use Rattle.bg_script.specs.LineSteps.{Asked, ReadStep, Running}
use Rattle.bg_script.specs.QueryTexts.{query_text}
use Rattle.bg_script.proofs.stages.OpenBookLineStage.carry_out.Goals as goal

pub returns-in-Ask-clause-is : goal.returns-in-Ask-clause-is
returns-in-Ask-clause-is g c =
    let stage = Running c.args.self.now.book c.args.self.now.seats in
    let written = Asked c.in-Ask.query c.args.self.now.book in
    let first = g.W.Write.contents c.args.writer.now in
    let last = g.W.Write.contents c.write_text.new.writer in (
      (c.in-Ask.query, ap Ok c.in-Ask.is),
      record {
        written = written;
        step = subst (λ (asked : Command). ReadStep stage (Ok asked) written stage) (sym c.in-Ask.is) (refl, refl);
        appended = subst (λ (b : Routing). Appends first last (query_text c.in-Ask.query b)) c.book.ensures c.in_ok-write_text-in-Ask.ensures;
        fault_is = refl;
      },
    )
