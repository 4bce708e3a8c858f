use Rattle.std.proofs.Common.{◌≡◌, true, Some, None, subst, sym, ◌∙◌, rules}
use Rattle.std.proofs.lemmas.Bool.{both_ways}
use Rattle.bg_history.specs.declared.entry.Entry.{Entry}
use Rattle.bg_journal.specs.Texts.{is_journaled, line_of}
use Rattle.bg_journal.proofs.EntryReadings.{read_as}
use Rattle.bg_journal.proofs.Texts.{some_same}
use Rattle.bg_journal.proofs.reading.read_entry.Goals as goal

pub returns-in_default-clause-each : goal.returns-in_default-clause-each
returns-in_default-clause-each c = λ e j same.
    let none : c.in_ok-entry.field-0 ≡ None = search rules in
    sym none ∙ read_as e c.args.line.now c.in_ok-entry.field-0 c.in_ok-entry.ensures j same

pub returns-then-branch-clause-each : goal.returns-then-branch-clause-each
returns-then-branch-clause-each c = λ e j same.
    let some : c.in_ok-entry.field-0 ≡ Some c.in-Some.entry = search rules in
    sym some ∙ read_as e c.args.line.now c.in_ok-entry.field-0 c.in_ok-entry.ensures j same

pub returns-else-branch-clause-each : goal.returns-else-branch-clause-each
returns-else-branch-clause-each c = λ e j same.
    let some : c.in_ok-entry.field-0 ≡ Some c.in-Some.entry = search rules in
    let one = some_same c.in-Some.entry e (sym some ∙ read_as e c.args.line.now c.in_ok-entry.field-0 c.in_ok-entry.ensures j same) in
    let journaled : is_journaled c.in-Some.entry ≡ true = subst (λ (x : Entry). is_journaled x ≡ true) (sym one) j in
    let line : line_of c.in-Some.entry ≡ c.args.line.now = subst (λ (x : Entry). line_of x ≡ c.args.line.now) (sym one) same in
    absurd (both_ways c.in_ok-is_line_of.field-0 c.if-branch.false (c.in_ok-is_line_of.ensures.each journaled line))
