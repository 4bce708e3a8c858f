use Rattle.std.proofs.Common.{◌≡◌, sym, ◌∙◌, rules}
use Rattle.std.specs.Prelude.{Err}
use Rattle.bg_journal.proofs.BadLines.{fault_of_entries}
use Rattle.bg_journal.proofs.Texts.{one_text}
use Rattle.bg_journal.proofs.reading.read_entries.Goals as goal

pub returns-in_err-read_onto-clause-each : goal.returns-in_err-read_onto-clause-each
returns-in_err-read_onto-clause-each c = λ entries j same.
    let told : c.from_residual.result ≡ Err c.in_err-read_onto.field-0.0 = search rules in
    rw told (fault_of_entries entries c.args.text.now c.in_err-read_onto.field-0.0 j same c.in_err-read_onto.ensures.fault)

pub returns-clause-each : goal.returns-clause-each
returns-clause-each c = λ entries j same.
    one_text c.read_onto.new.entries.items entries c.in_ok-read_onto.ensures.journaled j (c.in_ok-read_onto.ensures.text ∙ sym same)
