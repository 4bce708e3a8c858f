use Rattle.bg_book.proofs.desk.Desk.entries_used.Goals as goal

pub returns-clause-told : goal.returns-clause-told
returns-clause-told g c = (c.deref-book.result.now, c.headline.ensures, c.entries_used.ensures.used)
