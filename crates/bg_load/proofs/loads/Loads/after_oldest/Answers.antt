use Rattle.std.proofs.Common.{◌≡◌, ℕ, ◌+◌, ◌∙◌, ap, subst, sym, inl, arith}
use Rattle.bg_load.proofs.Oldest.{fewer-end, large-known, large-within, none-older, older-next, oldest-end}
use Rattle.bg_load.specs.Pauses.{is_large_from, is_to_pause, older}
use Rattle.bg_load.specs.Registers.{Register, at}
use Rattle.bg_load.specs.declared.pauses.Pauses.TheVariants as pauses
use Rattle.bg_load.proofs.loads.Loads.after_oldest.Goals as goal

pub loop-init : goal.loop-init
loop-init c = none-older c.args.self.now.places

pub returns-in_default : goal.returns-in_default
returns-in_default c =
    let inside = c.self.inside in
    let least = c.loop.least in
    let same = ap (λ (r : Register). r.places) c.self.view_is in
    let before = subst (λ ps. older least ps ≡ c.loop.counter) (sym same) c.loop.invariant in
    subst (λ ps. (key : ℕ) → is_large_from inside.next (at ps key) ≡ is_to_pause pauses.Younger ps (at ps key)) same
    (fewer-end inside.table inside.next least c.self.invariant (omega (arith, before, c.loop-test.true))
    (λ k less. c.in_default.ensures.none k less))

pub loop-preserved : goal.loop-preserved
loop-preserved c =
    let inside = c.self.inside in
    let least = c.loop.least in
    let number = c.in-Some.number in
    let same = ap (λ (r : Register). r.places) c.self.view_is in
    let before = subst (λ ps. older least ps ≡ c.loop.counter) (sym same) c.loop.invariant in
    let large = c.in-Some.ensures.rank in
    let below = large-known inside.table inside.next least _ number c.self.invariant large in
    let next : c.saturating_add-least.result ≡ number + 1 = omega (arith, c.saturating_add-least.ensures, below) in
    let more = older-next inside.table least _ number (c.self.invariant.once number) (large-within inside.table least _ number large)
    large (λ k less. c.in-Some.ensures.least k less) in
    subst (λ ps. older c.saturating_add-least.result ps ≡ c.loop.counter + 1) same
    (ap (λ n. older n inside.table) next ∙ more ∙ ap (λ n. n + 1) before)

pub returns : goal.returns
returns c =
    let table = c.self.inside.table in
    let least = c.loop.least in
    let same = ap (λ (r : Register). r.places) c.self.view_is in
    let before = subst (λ ps. older least ps ≡ c.loop.counter) (sym same) c.loop.invariant in
    let eight : older least table ≡ 8 = omega (arith, before, c.loop-test.false, c.loop.auto.counter-end) in
    subst (λ ps. (key : ℕ) → is_large_from least (at ps key) ≡ is_to_pause pauses.Younger ps (at ps key)) same
    (oldest-end table least (omega (arith, eight)) (inl eight))
