use Rattle.std.proofs.Common.{◌≡◌, ◌+◌, ◌<◌, ◌∙◌, ℕ, Option, None, ap, sym, subst, length, slice_index_or, arith}
use Rattle.std.proofs.lemmas.List.{get_or_read}
use Rattle.bg_control_port.proofs.Firsts.{IsFirstBelow, first_more}
use Rattle.bg_control_port.specs.Precedences.{place_at}
use Rattle.bg_control_port.specs.Registers.{Register}
use Rattle.bg_control_port.specs.declared.turn.Place.{Place}
use Rattle.bg_control_port.proofs.connections.Connections.first.Goals as goal

pub loop-key-preserved : goal.loop-key-preserved
loop-key-preserved g c =
    let places = c.args.self.now.places in
    let key = c.loop-key.key in
    let order : ℕ → Option Place = λ k. place_at c.args.order (slice_index_or places k None) in
    let same : c.deref-place-items.result.now ≡ places =
    c.deref-place-items.ensures.value ∙ ap (λ (r : Register _). r.places) c.self.view_is in
    let less : key < length places = omega (arith, ap length same) in
    let read = get_or_read c.deref-place-items.result.now key _ (omega arith) c.place-item.is None in
    let item : c.place-item.result ≡ slice_index_or places key None = read ∙ ap (λ xs. slice_index_or xs key None) same in
    let place : order key ≡ c.place_at.result = ap (λ p. place_at c.args.order p) (sym item) ∙ sym c.place_at.ensures in
    subst (λ first. IsFirstBelow order (key + 1) first) (sym c.first_so_far-first.ensures)
    (first_more order key c.loop-key.first c.place_at.result c.loop-key.invariant place)
