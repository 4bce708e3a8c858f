use Rattle.std.proofs.Common.{sym, subst}
use Rattle.bg_book.specs.Runs.{AreOut}
use Rattle.bg_tests.proofs.FreshSeats.{fresh_are_out}
use Rattle.bg_tests.proofs.desk.threads.open_and_work.Goals as goal

pub work_and_tick-requires-after_bounds : goal.work_and_tick-requires-after_bounds
work_and_tick-requires-after_bounds g c κs within =
    subst AreOut (sym c.as_mut_slice.ensures.value) (fresh_are_out _ _ c.in_ok-book.ensures.seats.new)
