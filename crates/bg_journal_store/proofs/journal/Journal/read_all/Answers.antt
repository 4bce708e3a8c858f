use Rattle.std.proofs.Common.{inl, inr, ap, ◌∙◌, sym, IsTrue, arith}
use Rattle.sqlite.specs.Held.{state}
use Rattle.sqlite.specs.Effect.{Database}
use Rattle.sqlite.proofs.Callers.{never_commits}
use Rattle.bg_journal_store.specs.Journal.{texts_in, IsJournal}
use Rattle.std.proofs.lemmas.Result.{IfOk-weaker, IfErr-weaker}
use Rattle.bg_journal_store.proofs.Kept.{keeps_texts, same_journal}
use Rattle.bg_journal_store.proofs.Outcomes.{ok_so}
use Rattle.bg_journal_store.proofs.Queried.{gave_open, query_open, query_same, shown_unchanged}
use Rattle.bg_journal_store.proofs.Reopened.{sound_last}
use Rattle.bg_journal_store.proofs.Selecting.{entries_plain, entries_shown}
use Rattle.bg_journal_store.proofs.Unread.{read_failed}
use Rattle.bg_journal_store.proofs.journal.Journal.read_all.Goals as goal

pub invariant_of-self : goal.invariant_of-self
invariant_of-self g c = (
  λ clean stays.
      let old = state g.S.Store c.self.inside.conn in
      let new = state g.S.Store c.read_texts.new.conn in
      let left = c.read_texts.ensures.left clean in
      let journal : IsJournal old = c.self.invariant.0 (omega (arith, clean, c.read_texts.ensures.survives.clean)) (query_open _ old new left stays) in
      same_journal journal (query_same journal _ entries_plain left stays) stays,
  c.read_texts.ensures.survives.limit ∙ c.self.invariant.1,
)

pub returns-clause-texts : goal.returns-clause-texts
returns-clause-texts g c clean opened =
    let is_open : IsTrue (state g.S.Store c.self.inside.conn).is_open = rw c.self.view_is opened in
    let old = state g.S.Store c.self.inside.conn in
    let new = state g.S.Store c.read_texts.new.conn in
    let journal : IsJournal old = c.self.invariant.0 (omega (arith, clean, c.read_texts.ensures.survives.clean)) is_open in
    rw (← c.self.view_is) (IfOk-weaker c.read_texts.result _ _ (λ texts it. it.2 ∙ entries_shown old new it.0 journal.schema journal.numbered.0 it.1 ∙ ap (λ (d : Database). texts_in d.trees) (sym journal.committed)) (c.read_texts.ensures.texts clean))

pub returns-clause-kept : goal.returns-clause-kept
returns-clause-kept g c clean stays =
    let old = state g.S.Store c.self.inside.conn in
    let new = state g.S.Store c.read_texts.new.conn in
    let left = c.read_texts.ensures.left clean in
    let journal : IsJournal old = c.self.invariant.0 (omega (arith, clean, c.read_texts.ensures.survives.clean)) (query_open _ old new left stays) in
    rw (← c.self.view_is) (keeps_texts journal (query_same journal _ entries_plain left stays) (λ is_open db. g.met.S.Store.settled c.read_texts.new.conn.store db is_open) stays)

pub returns-clause-crash : goal.returns-clause-crash
returns-clause-crash g c clean opened db may =
    let is_open : IsTrue (state g.S.Store c.self.inside.conn).is_open = rw c.self.view_is opened in
    let old = state g.S.Store c.self.inside.conn in
    let journal : IsJournal old = c.self.invariant.0 (omega (arith, clean, c.read_texts.ensures.survives.clean)) is_open in
    rw (← c.self.view_is) (elim (c.read_texts.ensures.survives.crash clean db may) [
      | inl was ↦ ap texts_in (g.met.S.Store.settled c.self.inside.conn.store db is_open was ∙ ap (λ (d : Database). d.trees) journal.committed)
      | inr made ↦ absurd (never_commits _ _ old db (rw journal.schema entries_plain) made)
    ])

pub returns-clause-failed : goal.returns-clause-failed
returns-clause-failed g c clean =
    let old = state g.S.Store c.self.inside.conn in
    let new = state g.S.Store c.read_texts.new.conn in
    rw (← c.self.view_is) (IfErr-weaker c.read_texts.result _ _
    (read_failed old new (c.self.invariant.0 (omega (arith, clean, c.read_texts.ensures.survives.clean))) c.self.invariant.1) (c.read_texts.ensures.failed clean))

pub returns-clause-open : goal.returns-clause-open
returns-clause-open g c clean =
    let old = state g.S.Store c.self.inside.conn in
    let new = state g.S.Store c.read_texts.new.conn in
    ok_so c.read_texts.result (λ texts it.
    let journal : IsJournal old = c.self.invariant.0 (omega (arith, clean, c.read_texts.ensures.survives.clean)) (gave_open _ old new it.0 it.1) in
    (shown_unchanged _ old new it.0 (rw journal.schema entries_plain) it.1).0.is_open) (c.read_texts.ensures.texts clean)

pub returns-clause-sound : goal.returns-clause-sound
returns-clause-sound g c clean opened db may =
    let is_open : IsTrue (state g.S.Store c.self.inside.conn).is_open = rw c.self.view_is opened in
    let old = state g.S.Store c.self.inside.conn in
    let journal : IsJournal old = c.self.invariant.0 (omega (arith, clean, c.read_texts.ensures.survives.clean)) is_open in
    elim (c.read_texts.ensures.survives.crash clean db may) [
      | inl was ↦ sound_last old journal c.schema-schema.ensures.live db (g.met.S.Store.settled c.self.inside.conn.store db is_open was)
      | inr made ↦ absurd (never_commits _ _ old db (rw journal.schema entries_plain) made)
    ]
