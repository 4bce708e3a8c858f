use Rattle.std.proofs.Common.{◌≡◌, false, true, sym, ◌∙◌, arith}
use Rattle.sqlite.specs.Held.{state}
use Rattle.bg_journal_store.specs.Journal.{HasTables}
use Rattle.bg_journal_store.proofs.Queried.{shown_unchanged}
use Rattle.bg_journal_store.proofs.Selecting.{settings_text, settings_plain, settings_shown}
use Rattle.bg_journal_store.proofs.Opening.{has_version, left_as}
use Rattle.bg_journal_store.proofs.journal.check_version.Goals as goal

pub returns-then-is_version-clause-journal : goal.returns-then-is_version-clause-journal
returns-then-is_version-clause-journal g c clean =
    let old = state g.S.Store c.args.conn.now in
    let new = state g.S.Store c.read_texts.new.conn in
    let tables : HasTables old = c.requires (omega (arith, clean, c.read_texts.ensures.survives.clean)) in
    let it = c.in_ok-texts.ensures.texts clean in
    let read = rw c.deref.ensures.value at (c.is_version.ensures.0 c.if-is_version.true) in
    has_version tables (shown_unchanged settings_text old new it.0 (rw tables.schema settings_plain) it.1)
    (sym (settings_shown old new it.0 tables.schema tables.listed.0 it.1) ∙ sym it.2 ∙ read)

pub returns-then-is_version-clause-same : goal.returns-then-is_version-clause-same
returns-then-is_version-clause-same g c clean =
    let old = state g.S.Store c.args.conn.now in
    let new = state g.S.Store c.read_texts.new.conn in
    let tables : HasTables old = c.requires (omega (arith, clean, c.read_texts.ensures.survives.clean)) in
    let it = c.in_ok-texts.ensures.texts clean in
    (shown_unchanged settings_text old new it.0 (rw tables.schema settings_plain) it.1).0.now_is

pub returns-clause-refused : goal.returns-clause-refused
returns-clause-refused g c clean is =
    let old = state g.S.Store c.args.conn.now in
    let new = state g.S.Store c.read_texts.new.conn in
    let tables : HasTables old = c.requires (omega (arith, clean, c.read_texts.ensures.survives.clean)) in
    let it = c.in_ok-texts.ensures.texts clean in
    let same = shown_unchanged settings_text old new it.0 (rw tables.schema settings_plain) it.1 in
    let shown = settings_shown old new it.0 tables.schema tables.listed.0 it.1 in (
      λ written. absurd (let e : false ≡ true = sym c.if-is_version.false ∙ c.is_version.ensures.1 (rw c.deref.ensures.value (it.2 ∙ shown ∙ written)) in cc),
      left_as tables.committed same (λ is_open db. g.met.S.Store.settled c.read_texts.new.conn.store db is_open),
    )
