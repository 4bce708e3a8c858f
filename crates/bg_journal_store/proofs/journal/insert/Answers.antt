use Rattle.std.proofs.Common.{inl, inr, ap, ◌∙◌, arith}
use Rattle.sqlite.specs.Held.{state}
use Rattle.sqlite.specs.Effect.{Database}
use Rattle.bg_journal_store.specs.Journal.{texts_in, IsJournal}
use Rattle.bg_journal_store.proofs.Inserting.{kept, appended, refused, commits}
use Rattle.bg_journal_store.proofs.Reopened.{sound_last}
use Rattle.bg_journal_store.proofs.Failing.{failed}
use Rattle.bg_journal_store.proofs.journal.insert.Goals as goal

pub returns-clause-journal : goal.returns-clause-journal
returns-clause-journal g c clean is_open =
    kept (state g.S.Store c.args.conn.now) c.args.text.now (c.requires (omega (arith, c.execute.ensures.survives.clean, clean))) (state g.S.Store c.execute.new.self)
    c.execute.result (rw c.params-to_sql.ensures at (c.execute.ensures.runs clean)) is_open

pub returns-clause-appended : goal.returns-clause-appended
returns-clause-appended g c clean =
    appended (state g.S.Store c.args.conn.now) c.args.text.now (c.requires (omega (arith, c.execute.ensures.survives.clean, clean))) (state g.S.Store c.execute.new.self)
    (λ is_open db. g.met.S.Store.settled c.execute.new.self.store db is_open)
    c.execute.result (rw c.params-to_sql.ensures at (c.execute.ensures.runs clean))

pub returns-clause-refused : goal.returns-clause-refused
returns-clause-refused g c clean is_open =
    refused (state g.S.Store c.args.conn.now) c.args.text.now (c.requires (omega (arith, c.execute.ensures.survives.clean, clean))) (state g.S.Store c.execute.new.self)
    (λ is_open db. g.met.S.Store.settled c.execute.new.self.store db is_open)
    c.execute.result (rw c.params-to_sql.ensures at (c.execute.ensures.runs clean)) is_open

pub returns-clause-crash : goal.returns-clause-crash
returns-clause-crash g c clean is_open db may =
    let old = state g.S.Store c.args.conn.now in
    let journal : IsJournal old = c.requires (omega (arith, c.execute.ensures.survives.clean, clean)) is_open in
    elim (c.execute.ensures.survives.crash clean db may) [
      | inl was ↦ inl (ap texts_in (g.met.S.Store.settled c.args.conn.now.store db is_open was ∙ ap (λ (d : Database). d.trees) journal.committed))
      | inr made ↦ inr (commits old c.args.text.now journal db (rw c.params-to_sql.ensures at made)).0
    ]

pub returns-clause-failed : goal.returns-clause-failed
returns-clause-failed g c clean unlimited =
    failed (state g.S.Store c.args.conn.now) c.args.text.now (c.requires (omega (arith, c.execute.ensures.survives.clean, clean))) unlimited (state g.S.Store c.execute.new.self)
    c.execute.result (rw c.params-to_sql.ensures at (c.execute.ensures.runs clean))

pub returns-clause-sound : goal.returns-clause-sound
returns-clause-sound g c clean is_open db may =
    let old = state g.S.Store c.args.conn.now in
    let journal : IsJournal old = c.requires (omega (arith, c.execute.ensures.survives.clean, clean)) is_open in
    elim (c.execute.ensures.survives.crash clean db may) [
      | inl was ↦ sound_last old journal c.schema-schema.ensures.live db (g.met.S.Store.settled c.args.conn.now.store db is_open was)
      | inr made ↦ (commits old c.args.text.now journal db (rw c.params-to_sql.ensures at made)).1
    ]
