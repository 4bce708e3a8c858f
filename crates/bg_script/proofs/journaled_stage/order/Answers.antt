use Rattle.bg_script.specs.Journaling.{journal_state}
use Rattle.bg_script.proofs.Journaled.{asked, is_ready, refused, replied, too_late}
use Rattle.bg_script.proofs.journaled_stage.order.Goals as goal

pub returns-in-Some-Ok : goal.returns-in-Some-Ok
returns-in-Some-Ok g c =
    let condition = g.Q.Question.gives c.args.condition in
    let j = journal_state g.J.OrderJournal.kept g.J.OrderJournal.doubt c.args.journal.now in
    let ready = journal_state g.J.OrderJournal.kept g.J.OrderJournal.doubt c.is_ready.new.self in
    let next = journal_state g.J.OrderJournal.kept g.J.OrderJournal.doubt c.save.new.self in
    let at = is_ready j ready c.is_ready.result c.if-not-is_ready.false c.is_ready.ensures in
    let told = rw c.in-Some-Ok.field-0-is at c.in-Some-Ok.ensures.told in
    asked condition j c.args.event.now c.save.result next at.0
    (replied condition j ready next c.args.event.now c.in-Some-Ok.recorded c.save.result told.0 told.1 at.1 told.2 c.save.ensures)

pub returns-in-Some-Err : goal.returns-in-Some-Err
returns-in-Some-Err g c =
    let condition = g.Q.Question.gives c.args.condition in
    let j = journal_state g.J.OrderJournal.kept g.J.OrderJournal.doubt c.args.journal.now in
    let ready = journal_state g.J.OrderJournal.kept g.J.OrderJournal.doubt c.is_ready.new.self in
    let at = is_ready j ready c.is_ready.result c.if-not-is_ready.false c.is_ready.ensures in
    let told = rw c.in-Some-Err.field-0-is at c.in-Some-Err.ensures.told in
    (at.0, refused condition j ready c.args.event.now c.in-Some-Err.fault told.0 told.1 at.1 told.2)

pub returns-in-None : goal.returns-in-None
returns-in-None g c =
    let condition = g.Q.Question.gives c.args.condition in
    let j = journal_state g.J.OrderJournal.kept g.J.OrderJournal.doubt c.args.journal.now in
    let ready = journal_state g.J.OrderJournal.kept g.J.OrderJournal.doubt c.is_ready.new.self in
    let at = is_ready j ready c.is_ready.result c.if-not-is_ready.false c.is_ready.ensures in
    let told = c.in-None.ensures.told in
    (at.0, too_late condition j ready c.args.event.now told.0 told.1 at.1 told.2)
