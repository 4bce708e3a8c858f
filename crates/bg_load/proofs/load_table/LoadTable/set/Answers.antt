use Rattle.std.proofs.Common.{◌≡◌, ◌<◌, None, length, arith}
use Rattle.std.proofs.lemmas.List.{get_or_read}
use Rattle.bg_load.proofs.TotalLemmas.{can_change}
use Rattle.bg_load.specs.Registers.{at}
use Rattle.bg_load.proofs.load_table.LoadTable.set.Goals as goal

pub replaced-self-inside-requires : goal.replaced-self-inside-requires
replaced-self-inside-requires c =
    let places = c.self.inside.places.items in
    let less : c.args.key < length places = omega (arith, c.if-key-len.false, c.len.ensures) in
    let read : c.index.result.now ≡ at places c.args.key = get_or_read places _ _ less c.index.ensures None in
    rw (c.of_place-before.ensures, c.of_place.ensures, read)
    (can_change c.self.inside.totals places c.args.key c.args.place c.self.invariant.0 c.self.invariant.1 less)
