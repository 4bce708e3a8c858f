use Rattle.std.proofs.Common.{length, subst}
use Rattle.bg_book.specs.OpenBooks.{OpenState}
use Rattle.bg_book.specs.Runs.{LeavesAll}
use Rattle.bg_book.proofs.open_book.OpenBook.close.Goals as goal

pub returns-clause-left : goal.returns-clause-left
returns-clause-left g c =
    let closed = c.close.ensures.left in
    let left : LeavesAll c.args.self.book c.args.self.seats (length c.args.self.seats) closed.0 closed.1 =
    subst (λ (s : OpenState). LeavesAll s.book s.seats (length s.seats) closed.0 closed.1) c.self.view_is closed.2 in
    (closed.0, closed.1, left, closed.3, closed.4, closed.5, closed.6)
