-- A past whose entries were allowed may be compacted.
use Rattle.std.proofs.Common.{◌≡◌, ℕ, Bool, true, false, not, cond, ◌==◌, ◌&&◌, ◌||◌, nat_lt, List, [], ◌∷◌, find, Some, refl, arith, ap, sym, ◌∙◌}
use Rattle.std.specs.List.{list_all}
use Rattle.std.proofs.lemmas.Bool.Decides.{nat_tests}
use Rattle.bg_strategy.specs.declared.strategy.Strategy.{Strategy}
use Rattle.bg_history.specs.declared.entry.Entry.{Entry}
use Rattle.bg_history.specs.declared.entry.Entry.TheVariants.{Enter, Leave}
use Rattle.bg_history.specs.Kept.{Opening}
use Rattle.bg_history.specs.Requests.{Request, open_requests, request_numbers}
use Rattle.bg_history.specs.Allowed.{holds, is_allowed}
use Rattle.bg_history.specs.Steps.{all_allowed}
use Rattle.bg_history.specs.Compacted.{left_numbers, is_among}
use Rattle.bg_history.specs.Sound.{has_entered, is_sound}
use Rattle.bg_history_laws.proofs.Compacted.Closed.{all_kept, all_appended, above-none, entering, open-unclosed}
use Rattle.bg_history_laws.proofs.Tests.{and_parts, and_both}
use Rattle.bg_history_laws.proofs.Lists.{all_weaker}

itself : (n : ℕ) → (n == n) ≡ true
itself n = grind (arith, nat_tests)

or-right : (a b : Bool) → b ≡ true → a || b ≡ true
or-right true b h = refl
or-right false b h = h

-- each open request entered
open-entered : (past : List Entry) → list_all (λ q. has_entered q.seat q.number past) (open_requests past) ≡ true
open-entered [] = refl
open-entered (Enter seat service number r port ∷ before) =
    all_appended (λ q. ((seat == q.seat) && (number == q.number)) || has_entered q.seat q.number before) (open_requests before) (record { seat = seat; number = number; revision = r; port = port })
    (all_weaker (λ q. has_entered q.seat q.number before) (λ q. ((seat == q.seat) && (number == q.number)) || has_entered q.seat q.number before)
    (λ q h. or-right ((seat == q.seat) && (number == q.number)) (has_entered q.seat q.number before) h) (open_requests before) (open-entered before))
    (rw (itself seat, itself number) refl)
open-entered (Leave seat number r ∷ before) = all_kept (λ q. has_entered q.seat q.number before) (λ q. not (q.number == number)) (open_requests before) (open-entered before)
open-entered (e ∷ before) = open-entered before

-- if all requests pass a test, the one that a seat holds passes it
holds-passes : (t : ℕ → ℕ → Bool) (seat number r : ℕ) (xs : List Request) → list_all (λ q. t q.seat q.number) xs ≡ true → holds number r (find (λ q. q.seat == seat) xs) ≡ true
    → t seat number ≡ true
holds-passes t seat number r [] a h = absurd (cc)
holds-passes t seat number r (x ∷ xs) a h =
    let two = and_parts (t x.seat x.number) (list_all (λ q. t q.seat q.number) xs) a in
    go (x.seat == seat) refl two.0 h (holds-passes t seat number r xs two.1) where
      go : (b : Bool) → (x.seat == seat) ≡ b → t x.seat x.number ≡ true → holds number r (cond b (Some x) (find (λ q. q.seat == seat) xs)) ≡ true
          → (holds number r (find (λ q. q.seat == seat) xs) ≡ true → t seat number ≡ true) → t seat number ≡ true
      go true is here h rest =
          let s : x.seat ≡ seat = grind (arith, nat_tests) in
          let n : x.number ≡ number = grind (arith, nat_tests) in
          ap (λ i. t i number) (sym s) ∙ ap (λ k. t x.seat k) (sym n) ∙ here
      go false is here h rest = rest h

pub sound : (s : Strategy) (o : Opening) (past : List Entry) → all_allowed s o past ≡ true → is_sound o.seats past ≡ true
sound s o [] h = refl
sound s o (Enter seat service number r port ∷ before) h =
    let two = and_parts (is_allowed s o (Enter seat service number r port) before) (all_allowed s o before) h in
    let e = entering s o seat service number r port before two.0 in
    and_both (nat_lt seat o.seats && not (is_among (request_numbers before) number)) (is_sound o.seats before)
    (and_both (nat_lt seat o.seats) (not (is_among (request_numbers before) number)) e.seat_is (ap not (above-none number (request_numbers before) e.above)))
    (sound s o before two.1)
sound s o (Leave seat number r ∷ before) h =
    let two = and_parts (is_allowed s o (Leave seat number r) before) (all_allowed s o before) h in
    and_both (has_entered seat number before && not (is_among (left_numbers before) number)) (is_sound o.seats before)
    (and_both (has_entered seat number before) (not (is_among (left_numbers before) number))
    (holds-passes (λ i n. has_entered i n before) seat number r (open_requests before) (open-entered before) two.0)
    (holds-passes (λ i n. not (is_among (left_numbers before) n)) seat number r (open_requests before) (open-unclosed s o before two.1) two.0))
    (sound s o before two.1)
sound s o (e ∷ before) h = sound s o before (and_parts (is_allowed s o e before) (all_allowed s o before) h).1
