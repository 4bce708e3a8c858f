use Rattle.std.proofs.Common.{◌≡◌, [], subst, ap, ◌∙◌, arith, rules}
use Rattle.sqlite.specs.Held.{state}
use Rattle.sqlite.specs.State.{State, HasCleanDisk}
use Rattle.bg_journal_store.specs.Journal.{IsJournal, texts_in}
use Rattle.std.proofs.lemmas.Result.{on_ok_weaker}
use Rattle.bg_journal_store.proofs.Creating.{created_whole}
use Rattle.bg_journal_store.proofs.journal.create_tables.Goals as goal

abbrev HasNoTexts : State → Type 0
HasNoTexts s = texts_in s.now.trees ≡ []

pub returns-clause-journal : goal.returns-clause-journal
returns-clause-journal g c clean =
    let old = c.args.conn.now in
    let first = c.transaction-transaction.result.conn.now in
    let begun = c.execute.new.self.conn.now in
    let made = c.execute-2.new.self.conn.now in
    let whole = c.execute-3.new.self.conn.now in
    let end = c.commit.new.self.0 in
    let same : end ≡ c.conn-2-1.given.0 = search rules in
    let late : HasCleanDisk (state g.S.Store end) = rw same clean in
    let at_whole : HasCleanDisk (state g.S.Store whole) = omega (arith, late, c.commit.ensures.survives.clean) in
    let at_made : HasCleanDisk (state g.S.Store made) = omega (arith, at_whole, c.execute-3.ensures.survives.clean) in
    let at_begun : HasCleanDisk (state g.S.Store begun) = omega (arith, at_made, c.execute-2.ensures.survives.clean) in
    let at_first : HasCleanDisk (state g.S.Store first) = omega (arith, at_begun, c.execute.ensures.survives.clean) in
    let opened = c.transaction-transaction.ensures.begun in
    let at_old : HasCleanDisk (state g.S.Store old) = rw opened at at_first in
    let blank = ap (λ h. (state g.S.Store h).now.schema) opened ∙ (c.requires at_old).schema in
    on_ok_weaker c.commit.result (λ it. subst (λ h. IsJournal (state g.S.Store h)) same
    (created_whole (state g.S.Store first) (state g.S.Store begun) (state g.S.Store made) (state g.S.Store whole) (state g.S.Store end) (c.in_ok-execute.field-0, c.in_ok-execute-2.field-0, c.in_ok-execute-3.field-0)
    blank (ap (λ h. h.in_transaction) opened) (c.in_ok-execute.ensures.runs at_begun) (c.in_ok-execute-2.ensures.runs at_made) (rw c.params-to_sql.ensures at (c.in_ok-execute-3.ensures.runs at_whole)) it.1).0) (c.commit.ensures.ok late)

pub returns-clause-empty : goal.returns-clause-empty
returns-clause-empty g c clean =
    let old = c.args.conn.now in
    let first = c.transaction-transaction.result.conn.now in
    let begun = c.execute.new.self.conn.now in
    let made = c.execute-2.new.self.conn.now in
    let whole = c.execute-3.new.self.conn.now in
    let end = c.commit.new.self.0 in
    let same : end ≡ c.conn-2-1.given.0 = search rules in
    let late : HasCleanDisk (state g.S.Store end) = rw same clean in
    let at_whole : HasCleanDisk (state g.S.Store whole) = omega (arith, late, c.commit.ensures.survives.clean) in
    let at_made : HasCleanDisk (state g.S.Store made) = omega (arith, at_whole, c.execute-3.ensures.survives.clean) in
    let at_begun : HasCleanDisk (state g.S.Store begun) = omega (arith, at_made, c.execute-2.ensures.survives.clean) in
    let at_first : HasCleanDisk (state g.S.Store first) = omega (arith, at_begun, c.execute.ensures.survives.clean) in
    let opened = c.transaction-transaction.ensures.begun in
    let at_old : HasCleanDisk (state g.S.Store old) = rw opened at at_first in
    let blank = ap (λ h. (state g.S.Store h).now.schema) opened ∙ (c.requires at_old).schema in
    on_ok_weaker c.commit.result (λ it. subst (λ h. HasNoTexts (state g.S.Store h)) same
    (created_whole (state g.S.Store first) (state g.S.Store begun) (state g.S.Store made) (state g.S.Store whole) (state g.S.Store end) (c.in_ok-execute.field-0, c.in_ok-execute-2.field-0, c.in_ok-execute-3.field-0)
    blank (ap (λ h. h.in_transaction) opened) (c.in_ok-execute.ensures.runs at_begun) (c.in_ok-execute-2.ensures.runs at_made) (rw c.params-to_sql.ensures at (c.in_ok-execute-3.ensures.runs at_whole)) it.1).1) (c.commit.ensures.ok late)
