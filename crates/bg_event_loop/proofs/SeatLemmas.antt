-- What calls at the gate make of the seats of a loop.
use Rattle.std.proofs.Common.{◌≡◌, ◌∙◌, ℕ, zero, suc, ◌+◌, ◌<◌, ◌≤◌, Bool, true, false, List, [], ◌∷◌, ◌++◌, length, map, take, drop, get_or, slice_get, slice_set, nat_lt, refl, sym, ap, subst, arith, Some}
use Rattle.std.proofs.lemmas.Bool.{ltb-false}
use Rattle.std.proofs.lemmas.List.{append-nil, drop_all, length-map, length-set, take_all}
use Rattle.std.proofs.lemmas.Option.{slice_get_within}
use Rattle.bg_event_loop.specs.Seats.{AllServed, AllUsed, Used, calls_inside, emptied, emptied_if, one_if}
use Rattle.bg_forward.specs.Seats.{AllOut, Worked}
use Rattle.bg_ledger.specs.declared.holding.Holding.{Holding}

-- a seat that did not change
unused : (seat : Holding) → Used seat seat
unused seat = record { left = 0; index = refl; calls = omega arith }

same_used : (before after seat : Holding) → Some seat ≡ Some before → Some seat ≡ Some after → Used before after
same_used before after seat is was =
    let one : seat ≡ before = cc in
    let other : seat ≡ after = cc in
    subst (λ (s : Holding). Used s after) one (subst (λ (s : Holding). Used seat s) other (unused seat))

pub all_unused : (seats : List Holding) → AllUsed seats seats
all_unused seats = record { as_many = refl; each = λ i before after is was. go i before after is was } where
  go : (i : ℕ) (before after : Holding) → slice_get seats i ≡ Some before → slice_get seats i ≡ Some after
      → Used before after
  go i before after is was =
      let same : before ≡ after = cc in
      subst (λ (s : Holding). Used before s) same (unused before)

-- a seat that was used twice
used_twice : (old now new : Holding) → Used old now → Used now new → Used old new
used_twice old now new first second =
    let early = first.calls in
    let late = second.calls in
    record { left = first.left + second.left; index = second.index ∙ first.index; calls = omega arith }

within : (seats : List Holding) (i : ℕ) → i < length seats → (seat : Holding) × (slice_get seats i ≡ Some seat)
within [] i few = absurd (omega (arith, few))
within (seat ∷ seats) zero few = (seat, refl)
within (seat ∷ seats) (suc i) few = within seats i (omega (arith, few))

pub all_used_twice : (old now new : List Holding) → AllUsed old now → AllUsed now new → AllUsed old new
all_used_twice old now new first second = record { as_many = second.as_many ∙ first.as_many; each = go } where
  go : (i : ℕ) (before after : Holding) → slice_get old i ≡ Some before → slice_get new i ≡ Some after
      → Used before after
  go i before after is was =
      let few = slice_get_within old i before is in
      let between = within now i (subst (λ (n : ℕ). i < n) (sym first.as_many) few) in
      used_twice before between.0 after (first.each i before between.0 is between.1)
      (second.each i between.0 after between.1 was)

-- one seat was used, and the others did not change
one_of : (seats : List Holding) (place : ℕ) (d new : Holding) → place < length seats → Used (get_or seats place d) new
    → (i : ℕ) (before after : Holding) → slice_get seats i ≡ Some before
    → slice_get (slice_set seats place new) i ≡ Some after → Used before after
one_of [] place d new few used i before after is was = absurd (omega (arith, few))
one_of (seat ∷ seats) zero d new few used zero before after is was =
    let one : seat ≡ before = cc in
    let other : new ≡ after = cc in
    subst (λ (s : Holding). Used s after) one (subst (λ (s : Holding). Used seat s) other used)
one_of (seat ∷ seats) zero d new few used (suc i) before after is was =
    (all_unused seats).each i before after is was
one_of (seat ∷ seats) (suc place) d new few used zero before after is was = same_used before after seat is was
one_of (seat ∷ seats) (suc place) d new few used (suc i) before after is was =
    one_of seats place d new (omega (arith, few)) used i before after is was

pub one_used : (seats : List Holding) (place : ℕ) (d new : Holding) → place < length seats
    → Used (get_or seats place d) new → AllUsed seats (slice_set seats place new)
one_used seats place d new few used =
    record { as_many = length-set seats place new; each = one_of seats place d new few used }

-- a seat whose request left, if it held one
left_used : (b : Bool) (seat : Holding) → nat_lt 0 seat.number ≡ b → Used seat (emptied_if b seat)
left_used true seat is =
    let inside = ap one_if is in
    record { left = 1; index = refl; calls = omega (arith, inside) }
left_used false seat is = unused seat

pub emptied_used : (seat : Holding) → Used seat (emptied seat)
emptied_used seat = left_used (nat_lt 0 seat.number) seat refl

pub all_emptied : (seats : List Holding) → AllUsed seats (map emptied seats)
all_emptied seats = record { as_many = length-map seats emptied; each = go seats } where
  go : (seats : List Holding) (i : ℕ) (before after : Holding) → slice_get seats i ≡ Some before
      → slice_get (map emptied seats) i ≡ Some after → Used before after
  go [] i before after is was = absurd (cc)
  go (seat ∷ seats) zero before after is was =
      let one : seat ≡ before = cc in
      let other : emptied seat ≡ after = cc in
      subst (λ (s : Holding). Used s after) one (subst (λ (s : Holding). Used seat s) other (emptied_used seat))
  go (seat ∷ seats) (suc i) before after is was = go seats i before after is was

out_after : (b : Bool) (seat : Holding) → nat_lt 0 seat.number ≡ b → (emptied_if b seat).number ≡ 0
out_after true seat is = refl
out_after false seat is = let few = ltb-false 0 seat.number is in omega (arith, few)

pub all_out : (seats : List Holding) → AllOut (map emptied seats)
all_out [] i seat is = absurd (cc)
all_out (first ∷ seats) zero seat is =
    let one : emptied first ≡ seat = cc in
    ap (λ (s : Holding). s.number) (sym one) ∙ out_after (nat_lt 0 first.number) first refl
all_out (first ∷ seats) (suc i) seat is = all_out seats i seat is

-- seats that are out before and after: each request that entered has left
outside : (seat : Holding) → seat.number ≡ 0 → calls_inside seat ≡ 0
outside seat out = ap (λ (n : ℕ). one_if (nat_lt 0 n)) out

pub all_served : (old new : List Holding) → AllOut old → AllOut new → AllUsed old new → AllServed old new
all_served old new were are used = record { as_many = used.as_many; each = go } where
  go : (i : ℕ) (before after : Holding) → slice_get old i ≡ Some before → slice_get new i ≡ Some after
      → (count : ℕ) × Worked count before after
  go i before after is was =
      let one = used.each i before after is was in
      let calls = one.calls in
      let none = outside before (were i before is) in
      let nothing = outside after (are i after was) in (
        one.left,
        record {
          entered = one.left;
          most = omega arith;
          out = are i after was;
          index = one.index;
          calls = omega (arith, calls, none, nothing);
        },
      )

-- the requests that are in at the end leave
pub served_at_last : (old now new : List Holding) → AllOut old → AllUsed old now → new ≡ map emptied now → AllServed old new
served_at_last old now new were used left =
    all_served old new were (subst AllOut (sym left) (all_out now))
    (all_used_twice old now new used (subst (AllUsed now) (sym left) (all_emptied now)))

-- after a loop over a whole list, each element has changed
pub map-whole : (seats items : List Holding) (n : ℕ) → items ≡ map emptied (take n seats) ++ drop n seats
    → length seats ≤ n → items ≡ map emptied seats
map-whole seats items n done all =
    done ∙ ap (λ (ys : List Holding). map emptied ys ++ drop n seats) (take_all n seats all)
    ∙ ap (λ (ys : List Holding). map emptied seats ++ ys) (drop_all n seats all) ∙ append-nil (map emptied seats)
