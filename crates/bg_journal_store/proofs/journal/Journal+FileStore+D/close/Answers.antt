use Rattle.bg_journal_store.proofs.journal.Journal+FileStore+D.close.Goals as goal

pub returns-in-Err-clause-failed : goal.returns-in-Err-clause-failed
returns-in-Err-clause-failed g c =
    rw (← c.self.view_is) ((c.in-Err.store, c.in-Err.ensures.err.0, λ clean. (c.in-Err.error, c.fault_of.ensures.value, c.in-Err.ensures.err.1 clean)))
