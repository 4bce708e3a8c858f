use Rattle.std.proofs.Common.{inl, inr}
use Rattle.sqlite.proofs.Callers.{memory_is_clean}
use Rattle.bg_journal_store.proofs.Opening.{blank_as, one_schema}
use Rattle.bg_journal_store.proofs.journal.Journal+MemStore.in_memory.Goals as goal

pub accept-requires-clause-ordered : goal.accept-requires-clause-ordered
accept-requires-clause-ordered c clean sound =
    let empty = c.in-Ok.ensures.empty in
    absurd (one_schema _ sound (blank_as empty.0 empty.1 empty.2))

pub returns-in-Ok-accept-clause-journal : goal.returns-in-Ok-accept-clause-journal
returns-in-Ok-accept-clause-journal c = c.in-Ok-accept.ensures.journal (memory_is_clean c.accept.new.conn)

pub returns-in-Ok-accept-clause-empty : goal.returns-in-Ok-accept-clause-empty
returns-in-Ok-accept-clause-empty c =
    let empty = c.in-Ok.ensures.empty in
    elim (c.in-Ok-accept.ensures.comes (memory_is_clean c.accept.new.conn)) [
      | inl same ↦ absurd (one_schema _ same.0 (blank_as empty.0 empty.1 empty.2))
      | inr none ↦ none.1
    ]
