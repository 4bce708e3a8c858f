use Rattle.std.proofs.Common.{◌≡◌, ◌+◌, ◌<◌, length, Some, None, lit<, ap, ◌∙◌, arith, rules}
use Rattle.std.proofs.lemmas.Bool.Decides.{nat_tests}
use Rattle.std.proofs.lemmas.Str.Pattern.{split_parts}
use Rattle.bg_journal.proofs.BadLines.{bad_end, bad_line}
use Rattle.bg_journal.proofs.reading.read_onto.Goals as goal

pub returns-in-None-clause-fault : goal.returns-in-None-clause-fault
returns-in-None-clause-fault c =
    let parts = split_parts 10 c.loop-line.rest.now (Some (c.in-Some.line, c.in-Some.after)) c.in-Some.ensures.cases (lit< tt) in
    let none : c.in_ok-entry.field-0 ≡ None = search rules in
    let place : c.len.result + 1 ≡ length c.loop-line.entries.items + 1 = ap (λ n. n + 1) (c.len.ensures ∙ c.loop-line.entries.ok.0) in
    bad_line c.args.text.now c.loop-line.entries.items c.loop-line.rest.now c.in-Some.line.now c.in-Some.after.now (c.len.result + 1)
    c.loop-line.invariant.text c.loop-line.invariant.journaled parts.0 parts.1 c.in_ok-entry.field-0 none c.in_ok-entry.ensures.each place

pub returns-else-is_empty-clause-fault : goal.returns-else-is_empty-clause-fault
returns-else-is_empty-clause-fault c =
    let free = split_parts 10 c.loop-line.rest.now None c.in_default.ensures.cases (lit< tt) in
    let some : 0 < length c.loop-line.rest.now = grind (arith, nat_tests) in
    let place : c.len-else-is_empty.result + 1 ≡ length c.loop-line.entries.items + 1 =
    ap (λ n. n + 1) (c.len-else-is_empty.ensures ∙ c.loop-line.entries.ok.0) in
    bad_end c.args.text.now c.loop-line.entries.items c.loop-line.rest.now (c.len-else-is_empty.result + 1)
    c.loop-line.invariant.text c.loop-line.invariant.journaled free some place
