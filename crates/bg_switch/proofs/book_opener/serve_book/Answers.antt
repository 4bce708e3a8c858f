use Rattle.std.proofs.Common.{subst, sym}
use Rattle.bg_forward.specs.Seats.{AllOut}
use Rattle.bg_switch.proofs.SeatsKept.{still_all}
use Rattle.bg_switch.proofs.book_opener.serve_book.Goals as goal

pub serve_beside_operators-requires-after_bounds : goal.serve_beside_operators-requires-after_bounds
serve_beside_operators-requires-after_bounds g c κs within = subst AllOut (sym c.as_mut_slice.ensures.value) c.requires.out

pub close-history-requires : goal.close-history-requires
close-history-requires g c = record {
  all = still_all g.N.Names.seats c.args.opened.1.len c.args.opened.1.items _ c.serve_beside_operators.new.seats _
      c.requires.all c.as_mut_slice.ensures.value c.args.opened.1.ok.0 c.serve_beside_operators.ensures;
}
