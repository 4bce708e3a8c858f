-- What becomes of an entry when the Enters of closed requests are replaced is what `treatment_of` says of it.
use Rattle.std.proofs.Common.{◌≡◌, ℕ, Bool, true, false, not, cond, ◌&&◌, nat_lt, List, ◌∷◌, ◌++◌, refl, ap, ◌∙◌}
use Rattle.std.specs.List.{list_any}
use Rattle.bg_history.specs.declared.entry.Entry.{Entry}
use Rattle.bg_history.specs.declared.entry.Entry.TheVariants.{Enter, Leave}
use Rattle.bg_history.specs.declared.compacting.Treatment.{Treatment}
use Rattle.bg_history.specs.declared.compacting.Treatment.TheVariants.{Keep, CountClosed}
use Rattle.bg_history.specs.Requests.{request_numbers}
use Rattle.bg_history.specs.Compacted.{left_numbers, is_among}
use Rattle.bg_history.specs.Compacting.{is_leave, is_leave_of, as_left, treatment_of}
use Rattle.bg_history.specs.Sound.{is_sound}
use Rattle.bg_history.proofs.Sound.{and_parts, enter-closed, not_true, sound-part}

abbrev drops : Treatment → Bool
drops Keep = false
drops treatment = true

-- an entry becomes a Leave, which is dropped, if and only if its treatment is not to keep it
pub treated : (n : ℕ) (ys p : List Entry) (e : Entry) → is_sound n (ys ++ e ∷ p) ≡ true
    → is_leave (as_left (is_among (left_numbers (ys ++ e ∷ p))) e) ≡ drops (treatment_of e ys)
treated n ys p (Enter seat service number r port) h =
    let e : Entry = Enter seat service number r port in
    let part = and_parts (nat_lt seat n && not (is_among (request_numbers p) number)) (is_sound n p) (sound-part n ys (e ∷ p) h) in
    let new = not_true (is_among (request_numbers p) number) (and_parts (nat_lt seat n) (not (is_among (request_numbers p) number)) part.0).1 in
    ap (λ b. is_leave (cond b (Leave seat number r) e)) (enter-closed e number ys p new refl) ∙ by (list_any (is_leave_of number) ys) where
      by : (b : Bool) → is_leave (cond b (Leave seat number r) (Enter seat service number r port)) ≡ drops (cond b (CountClosed seat) Keep)
      by true = refl
      by false = refl
treated n ys p (Leave seat number r) h = refl
treated n ys p e h = refl
