-- A past without each tick that another tick directly follows.
use Rattle.std.proofs.Common.{◌≡◌, ℕ, Bool, true, false, not, cond, List, [], ◌∷◌, ◌++◌, refl, ap, ◌∙◌}
use Rattle.bg_history.specs.declared.entry.Entry.{Entry}
use Rattle.bg_history.specs.declared.entry.Entry.TheVariants.{Tick, Enter, Leave}
use Rattle.bg_strategy.specs.declared.strategy.Strategy.{Strategy}
use Rattle.bg_history.specs.Kept.{Opening}
use Rattle.bg_history.specs.AttemptBounds.{moment}
use Rattle.bg_history.specs.Requests.{open_requests, request_numbers, entered, calls_in}
use Rattle.bg_history.specs.Compacted.{without, untick, thin, left_numbers}
use Rattle.bg_history_laws.specs.Alike.{Alike}
use Rattle.bg_history_laws.proofs.Compacted.Alike.{alike_itself, alike_back, alike_then, alike_both, alike_quiet}

pub thin-moment : (past : List Entry) → moment past ≡ moment (thin past)
thin-moment [] = refl
thin-moment (Tick m ∷ before) = refl
thin-moment (e ∷ before) = thin-moment before

untick-alike : (s : Strategy) (o : Opening) (past : List Entry) → Alike s o past (untick past)
untick-alike s o [] = alike_itself s o []
untick-alike s o (Tick m ∷ before) = alike_quiet s o (Tick m) before refl
untick-alike s o (e ∷ before) = alike_itself s o (e ∷ before)

pub thin-alike : (s : Strategy) (o : Opening) (past : List Entry) → Alike s o past (thin past)
thin-alike s o [] = alike_itself s o []
thin-alike s o (Tick m ∷ before) =
    alike_then (alike_quiet s o (Tick m) before refl)
    (alike_then (thin-alike s o before)
    (alike_then (untick-alike s o (thin before)) (alike_back (alike_quiet s o (Tick m) (untick (thin before)) refl))))
thin-alike s o (e ∷ before) = alike_both e (thin-alike s o before) (thin-moment before) (thin-moment before)

-- no question about requests depends on ticks
untick-open : (past : List Entry) → open_requests (untick past) ≡ open_requests past
untick-open [] = refl
untick-open (Tick m ∷ before) = refl
untick-open (e ∷ before) = refl

pub thin-open : (past : List Entry) → open_requests (thin past) ≡ open_requests past
thin-open [] = refl
thin-open (Tick m ∷ before) = untick-open (thin before) ∙ thin-open before
thin-open (Enter seat service number r port ∷ before) = rw (thin-open before) refl
thin-open (Leave seat number r ∷ before) = rw (thin-open before) refl
thin-open (e ∷ before) = thin-open before

untick-numbers : (past : List Entry) → request_numbers (untick past) ≡ request_numbers past
untick-numbers [] = refl
untick-numbers (Tick m ∷ before) = refl
untick-numbers (e ∷ before) = refl

pub thin-numbers : (past : List Entry) → request_numbers (thin past) ≡ request_numbers past
thin-numbers [] = refl
thin-numbers (Tick m ∷ before) = untick-numbers (thin before) ∙ thin-numbers before
thin-numbers (Enter seat service number r port ∷ before) = rw (thin-numbers before) refl
thin-numbers (Leave seat number r ∷ before) = rw (thin-numbers before) refl
thin-numbers (e ∷ before) = thin-numbers before

untick-left : (past : List Entry) → left_numbers (untick past) ≡ left_numbers past
untick-left [] = refl
untick-left (Tick m ∷ before) = refl
untick-left (e ∷ before) = refl

pub thin-left : (past : List Entry) → left_numbers (thin past) ≡ left_numbers past
thin-left [] = refl
thin-left (Tick m ∷ before) = untick-left (thin before) ∙ thin-left before
thin-left (Leave seat number r ∷ before) = rw (thin-left before) refl
thin-left (e ∷ before) = thin-left before

untick-entered : (past : List Entry) → entered (untick past) ≡ entered past
untick-entered [] = refl
untick-entered (Tick m ∷ before) = refl
untick-entered (e ∷ before) = refl

pub thin-entered : (past : List Entry) → entered (thin past) ≡ entered past
thin-entered [] = refl
thin-entered (Tick m ∷ before) = untick-entered (thin before) ∙ thin-entered before
thin-entered (Enter seat service number r port ∷ before) = rw (thin-entered before) refl
thin-entered (e ∷ before) = thin-entered before

untick-calls : (seat : ℕ) (past : List Entry) → calls_in seat (untick past) ≡ calls_in seat past
untick-calls seat [] = refl
untick-calls seat (Tick m ∷ before) = refl
untick-calls seat (e ∷ before) = refl

pub thin-calls : (seat : ℕ) (past : List Entry) → calls_in seat (thin past) ≡ calls_in seat past
thin-calls seat [] = refl
thin-calls seat (Tick m ∷ before) = untick-calls seat (thin before) ∙ thin-calls seat before
thin-calls seat (Enter s service number r port ∷ before) = rw (thin-calls seat before) refl
thin-calls seat (Leave s number r ∷ before) = rw (thin-calls seat before) refl
thin-calls seat (e ∷ before) = thin-calls seat before

-- the same entries in front of two pasts that thin to the same past
pub thin-front : (xs a b : List Entry) → thin a ≡ thin b → thin (xs ++ a) ≡ thin (xs ++ b)
thin-front [] a b h = h
thin-front (Tick m ∷ xs) a b h = ap (λ t. Tick m ∷ untick t) (thin-front xs a b h)
thin-front (e ∷ xs) a b h = ap (λ t. e ∷ t) (thin-front xs a b h)

-- dropping requests and then thinning: an earlier thinning changes nothing
pub thin-without : (gone : ℕ → Bool) (past : List Entry) → thin (without gone (thin past)) ≡ thin (without gone past)
thin-without gone [] = refl
thin-without gone (Tick m ∷ before) =
    ap (λ t. Tick m ∷ t) (by-head (thin before)) ∙ ap (λ t. Tick m ∷ untick t) (thin-without gone before) where
      by-head : (xs : List Entry) → untick (thin (without gone (untick xs))) ≡ untick (thin (without gone xs))
      by-head [] = refl
      by-head (Tick n ∷ xs) = refl
      by-head (e ∷ xs) = refl
thin-without gone (Enter seat service number r port ∷ before) = go (gone number) refl (thin-without gone before) where
  go : (b : Bool) → gone number ≡ b → thin (without gone (thin before)) ≡ thin (without gone before)
      → thin (cond (not b) (Enter seat service number r port ∷ without gone (thin before)) (without gone (thin before)))
      ≡ thin (cond (not b) (Enter seat service number r port ∷ without gone before) (without gone before))
  go true is h = h
  go false is h = ap (λ t. Enter seat service number r port ∷ t) h
thin-without gone (Leave seat number r ∷ before) = go (gone number) refl (thin-without gone before) where
  go : (b : Bool) → gone number ≡ b → thin (without gone (thin before)) ≡ thin (without gone before)
      → thin (cond (not b) (Leave seat number r ∷ without gone (thin before)) (without gone (thin before)))
      ≡ thin (cond (not b) (Leave seat number r ∷ without gone before) (without gone before))
  go true is h = h
  go false is h = ap (λ t. Leave seat number r ∷ t) h
thin-without gone (e ∷ before) = ap (λ t. e ∷ t) (thin-without gone before)
