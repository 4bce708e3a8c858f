-- Pasts that give the same answer to each question, including the open requests.
use Rattle.std.proofs.Common.{◌≡◌, ℕ, List, [], ◌∷◌, find, refl, ap, sym, ◌∙◌}
use Rattle.std.specs.Option.{option_or, option_map}
use Rattle.bg_history.specs.declared.entry.Entry.{Entry}
use Rattle.bg_history.specs.declared.entry.Entry.TheVariants.{Tick, Enter, Leave}
use Rattle.bg_history.specs.declared.entry.Outcome as outcome
use Rattle.bg_history.specs.declared.entry.Outcome.TheVariants.{ScaledDown, Removed}
use Rattle.bg_history.specs.declared.entry.Entry.TheVariants as entry
use Rattle.bg_strategy.specs.declared.strategy.Strategy.{Strategy}
use Rattle.bg_history.specs.Kept.{Opening}
use Rattle.bg_history.specs.AttemptBounds.{moment}
use Rattle.bg_history.specs.Sizes.{existing}
use Rattle.bg_history.specs.Requests.{open_requests}
use Rattle.bg_history.specs.Promotion.{first_promotion}
use Rattle.bg_history.specs.Deadlines.{may_scale_down, may_remove}
use Rattle.bg_history.specs.Steps.{first_allowed, with_outcomes, Follows}
use Rattle.bg_history_laws.specs.Compaction.{Same}
use Rattle.bg_history_laws.proofs.Compacted.Alike.{alike_both}
use Rattle.bg_history_laws.proofs.Compacted.Questions.{find-same, promotion-same, due-same, remove-same}

moment-both : (e : Entry) (a b : List Entry) → moment a ≡ moment b → moment (e ∷ a) ≡ moment (e ∷ b)
moment-both (Tick m) a b h = refl
moment-both e a b h = h

open-both : (e : Entry) (a b : List Entry) → open_requests a ≡ open_requests b → open_requests (e ∷ a) ≡ open_requests (e ∷ b)
open-both (Enter seat service number r port) a b h = rw h refl
open-both (Leave seat number r) a b h = rw h refl
open-both e a b h = h

pub same_both : {s : Strategy} {o : Opening} {a b : List Entry} → (e : Entry) → Same s o a b → Same s o (e ∷ a) (e ∷ b)
same_both {s} {o} {a} {b} e h = record {
  alike = alike_both e h.alike h.now (moment-both e a b h.now);
  now = moment-both e a b h.now;
  held = open-both e a b h.held;
}

lower-same : {s : Strategy} {o : Opening} {a b : List Entry} → (r : ℕ) → Same s o a b → may_scale_down s r a ≡ may_scale_down s r b
lower-same {s} {o} {a} {b} r h = rw (due-same r h.alike h.now, h.held) refl

pub first-same : {s : Strategy} {o : Opening} {a b : List Entry} → Same s o a b → first_allowed s a ≡ first_allowed s b
first-same {s} {o} {a} {b} h =
    let down : find (λ r. may_scale_down s r a) (existing a) ≡ find (λ r. may_scale_down s r b) (existing b)
    = find-same (λ r. may_scale_down s r a) (λ r. may_scale_down s r b) (λ r. lower-same r h) (existing a) ∙ ap (find (λ r. may_scale_down s r b)) h.alike.exist in
    let gone : find (λ r. may_remove s r a) (existing a) ≡ find (λ r. may_remove s r b) (existing b)
    = find-same (λ r. may_remove s r a) (λ r. may_remove s r b) (λ r. remove-same r h.alike) (existing a) ∙ ap (find (λ r. may_remove s r b)) h.alike.exist in
    ap (λ x. option_or x (option_or (option_map ScaledDown (find (λ r. may_scale_down s r a) (existing a))) (option_map Removed (find (λ r. may_remove s r a) (existing a))))) (promotion-same h.alike h.now)
    ∙ ap (λ x. option_or (first_promotion s b) (option_or (option_map ScaledDown x) (option_map Removed (find (λ r. may_remove s r a) (existing a))))) down
    ∙ ap (λ x. option_or (first_promotion s b) (option_or (option_map ScaledDown (find (λ r. may_scale_down s r b) (existing b))) (option_map Removed x))) gone

pub same_outcomes : {s : Strategy} {o : Opening} {a b : List Entry} → (xs : List outcome.Outcome) → Same s o a b → Same s o (with_outcomes xs a) (with_outcomes xs b)
same_outcomes [] h = h
same_outcomes (x ∷ xs) h = same_both (entry.Outcome x) (same_outcomes xs h)

pub same_follows : {s : Strategy} {o : Opening} {a b : List Entry} → (xs : List outcome.Outcome) → Same s o a b → Follows s xs a → Follows s xs b
same_follows [] h f = tt
same_follows (x ∷ xs) h f = (same_follows xs h f.0, sym (first-same (same_outcomes xs h)) ∙ f.1)
