-- A loop with too many responses has a connection whose response is written, and one of the loops has too many.
use Rattle.std.proofs.Common.{◌≡◌, ◌⊎◌, ◌&&◌, ℕ, zero, suc, ◌+◌, ◌*◌, ◌/◌, ◌%◌, ◌<◌, ◌≤◌, max, true, false, List, [], ◌∷◌, get_or, length, sum_by}
use Rattle.std.proofs.Common.{nat_lt, Option, Some, None, inl, inr, sym, subst, arith, ltb-true}
use Rattle.std.proofs.lemmas.Bool.{and_from, and_parts, cases_lt, lt-ltb}
use Rattle.std.proofs.lemmas.List.Sums.{sum_by-cons}
use Rattle.std.proofs.lemmas.Nat.{div-add-mod', mul-le}
use Rattle.bg_load.proofs.RegisterLemmas.{Places}
use Rattle.bg_load.proofs.Sums.{sum_by-le-each, sum_by-le-length}
use Rattle.bg_load.specs.Activities.{is_answering}
use Rattle.bg_load.specs.Loads.{if_so}
use Rattle.bg_load.specs.Registers.{Register, at}
use Rattle.bg_load.specs.Room.{SomeLoopMakesRoom, answering_since, has_too_many_responses, is_full_of_responses}
use Rattle.bg_load.specs.Room.{own_response_bytes, part_of_loop}
use Rattle.bg_load.specs.Totals.{activity_totals, response_bytes_in, response_bytes_of}
use Rattle.bg_load.specs.declared.activity.Activity.{Activity}
use Rattle.bg_load.specs.declared.activity.Activity.TheVariants as activity
use Rattle.bg_load.specs.declared.connection.Connection.{Connection}
use Rattle.bg_load.specs.declared.settings.LoadSettings.{LoadSettings}

-- where no response is written, nothing is counted for one
weighs_none : (a : Activity) (moment : ℕ) → if_so (is_answering a) moment ≡ None → (activity_totals a).response_bytes ≤ 0
weighs_none activity.Idle moment none = omega arith
weighs_none (activity.Arriving bytes) moment none = omega arith
weighs_none (activity.Waiting bytes) moment none = omega arith
weighs_none activity.Inside moment none = omega arith
weighs_none (activity.Answering weight written) moment none = absurd (cc)
weighs_none (activity.Lingering bytes) moment none = omega arith

place_weighs_none : (p : Option Connection) → answering_since p ≡ None → response_bytes_of p ≤ 0
place_weighs_none None none = omega arith
place_weighs_none (Some c) none = weighs_none c.load.activity c.load.progress.moment none

-- with no response that is written, the responses of the loop take nothing
pub none_answers : (places : Places) → ((k : ℕ) → k < length places → answering_since (at places k) ≡ None)
    → sum_by response_bytes_of places ≤ 0
none_answers places none =
    let up = sum_by-le-each response_bytes_of (λ p. 0) None places (λ k less. place_weighs_none (at places k) (none k less)) in
    let zero = sum_by-le-length (λ (p : Option Connection). 0) 0 (λ p. omega arith) places in
    omega (arith, up, zero)

-- so a loop with too many has one
pub some_answers : (r : Register) → has_too_many_responses r ≡ true
    → ((k : ℕ) → k < length r.places → answering_since (at r.places k) ≡ None) → ⊥
some_answers r many none =
    let own = (and_parts (is_full_of_responses r) (nat_lt (part_of_loop r.settings) (sum_by response_bytes_of r.places)) many).1 in
    let more = ltb-true (part_of_loop r.settings) (sum_by response_bytes_of r.places) own in
    let zero = none_answers r.places none in
    omega (arith, more, zero)

-- a loop whose responses take more than a number
record HasAbove (number : ℕ) (d : Register) (loops : List Register) : Type 0 where
  pub index : ℕ
  pub within : index < length loops
  pub above : number < own_response_bytes (get_or loops index d)

-- of loops whose responses take more than so many times a number, those of one take more than the number
one_above : (number : ℕ) (d : Register) (loops : List Register) → length loops * number < sum_by own_response_bytes loops
    → HasAbove number d loops
one_above number d [] more = absurd (omega (arith, more))
one_above number d (r ∷ rs) more =
    go (cases_lt number (own_response_bytes r)) (λ enough. one_above number d rs enough)
  where
    go : (number < own_response_bytes r) ⊎ (own_response_bytes r ≤ number)
        → (length rs * number < sum_by own_response_bytes rs → HasAbove number d rs) → HasAbove number d (r ∷ rs)
    go (inl here) rest = record { index = zero; within = omega arith; above = here }
    go (inr small) rest =
        let later = rest (omega (arith, sum_by-cons own_response_bytes r rs, more, small)) in
        record { index = suc later.index; within = omega (arith, later.within); above = later.above }

-- so many parts of twice a number come to less than more than twice the number
parts_below : (part n rest bytes total parts : ℕ) → part * n + rest ≡ 2 * bytes → parts ≤ n * part → bytes < total / 2
    → parts < total
parts_below part n rest bytes total parts whole most full = omega (arith, whole, most, full)

pub some_loop_makes_room : (loops : List Register) (settings : LoadSettings) → SomeLoopMakesRoom loops settings
some_loop_makes_room [] settings are full none = absurd (omega (arith, full))
some_loop_makes_room (r ∷ rs) settings are full none =
    let n = max 1 settings.loops in
    let part = part_of_loop settings in
    let twice = 2 * settings.response_bytes in
    let whole : part * n + twice % n ≡ twice = div-add-mod' twice n in
    let most = mul-le (length (r ∷ rs)) part n part are.count (omega arith) in
    let below = parts_below part n (twice % n) settings.response_bytes (sum_by own_response_bytes (r ∷ rs)) _ whole most full in
    let found = one_above part r (r ∷ rs) below in
    let loop = get_or (r ∷ rs) found.index r in
    let same = are.same found.index r found.within in
    let told = are.told found.index r found.within in
    let is_full : is_full_of_responses loop ≡ true =
    subst (λ (s : LoadSettings). nat_lt s.response_bytes (response_bytes_in loop / 2) ≡ true) (sym same)
    (subst (λ bytes. nat_lt settings.response_bytes (bytes / 2) ≡ true) (sym told) (lt-ltb _ _ full)) in
    let is_above : nat_lt (part_of_loop loop.settings) (own_response_bytes loop) ≡ true =
    subst (λ s. nat_lt (part_of_loop s) (own_response_bytes loop) ≡ true) (sym same) (lt-ltb _ _ found.above) in
    let many : (is_full_of_responses loop && nat_lt (part_of_loop loop.settings) (own_response_bytes loop)) ≡ true =
    and_from _ _ is_full is_above in
    let few : (is_full_of_responses loop && nat_lt (part_of_loop loop.settings) (own_response_bytes loop)) ≡ false =
    none found.index r found.within in
    absurd (cc)
