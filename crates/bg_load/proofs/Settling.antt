-- Each request that is paused or resumed by the rule is one less that is otherwise than the rule says.
use Rattle.std.proofs.Common.{◌≡◌, ◌&&◌, ◌||◌, not, ℕ, ◌+◌, ◌/◌, Bool, true, false, cond, set, sum_by, nat_le, nat_lt}
use Rattle.std.proofs.Common.{Option, Some, None, refl, ap, ◌∙◌, arith}
use Rattle.std.proofs.lemmas.List.Sums.{sum_by-le-sum_by, sum_by-set}
use Rattle.bg_load.proofs.RegisterLemmas.{Places, within}
use Rattle.bg_load.specs.Activities.{is_large}
use Rattle.bg_load.specs.Changes.{changed_from}
use Rattle.bg_load.specs.Loads.{turned}
use Rattle.bg_load.specs.Pauses.{IsAsRuled, RegulatingSettles, differ, enough, is_older_large, is_to_pause, is_unruled, looked}
use Rattle.bg_load.specs.Pauses.{older, pauses_if, pauses_now, pauses_of, regulated, unruled_count}
use Rattle.bg_load.specs.Registers.{Register, at}
use Rattle.bg_load.specs.Totals.{activity_totals, request_bytes_in, request_bytes_of, waiting_bytes_in, waiting_bytes_of}
use Rattle.bg_load.specs.declared.activity.Activity.{Activity}
use Rattle.bg_load.specs.declared.connection.Connection.{Connection}
use Rattle.bg_load.specs.declared.load.Load.{Load}
use Rattle.bg_load.specs.declared.pauses.Pauses.{Pauses}
use Rattle.bg_load.specs.declared.pauses.Pauses.TheVariants as pauses
use Rattle.bg_load.specs.declared.settings.LoadSettings.{LoadSettings}

-- a connection does the same when it is paused or resumed
pub turned_activity : (load : Load) (now : ℕ) → (turned load now).activity ≡ load.activity
turned_activity load now = from load.is_paused _ _ refl refl where
  from : (b : Bool) (x y : Load) → x.activity ≡ load.activity → y.activity ≡ load.activity → (cond b x y).activity ≡ load.activity
  from true x y e f = e
  from false x y e f = f

pub turned_paused : (load : Load) (now : ℕ) → (turned load now).is_paused ≡ not load.is_paused
turned_paused load now = from load.is_paused _ _ refl refl where
  from : (b : Bool) (x y : Load) → x.is_paused ≡ false → y.is_paused ≡ true → (cond b x y).is_paused ≡ not b
  from true x y e f = e
  from false x y e f = f

-- of two that differ, the one counts until it is turned
differ_one : (b w : Bool) → (b ≡ w → ⊥) → differ b w ≡ 1
differ_one true true ne = absurd (ne refl)
differ_one true false ne = refl
differ_one false true ne = refl
differ_one false false ne = absurd (ne refl)

differ_none : (b w : Bool) → (b ≡ w → ⊥) → differ (not b) w ≡ 0
differ_none true true ne = absurd (ne refl)
differ_none true false ne = refl
differ_none false true ne = refl
differ_none false false ne = absurd (ne refl)

-- what the rule says of a connection depends on the older ones, its size and its number
same_rule : (which : Pauses) (places later : Places) (c d : Connection) → ((n : ℕ) → older n later ≡ older n places)
    → is_large d.load.activity ≡ is_large c.load.activity → d.number ≡ c.number
    → is_to_pause which later (Some d) ≡ is_to_pause which places (Some c)
same_rule pauses.Off places later c d olders large number = refl
same_rule pauses.Younger places later c d olders large number =
    ap (λ b. b && nat_le 8 (older d.number later)) large
    ∙ ap (λ n. is_large c.load.activity && nat_le 8 n) (olders d.number ∙ ap (λ n. older n places) number)
same_rule pauses.All places later c d olders large number = large

-- two sums of functions that are the same are the same
sum_same : (f g : Option Connection → ℕ) (xs : Places) → ((p : Option Connection) → f p ≡ g p) → sum_by f xs ≡ sum_by g xs
sum_same f g xs same =
    let up = sum_by-le-sum_by f g xs (λ p. let e = same p in omega arith) in
    let down = sum_by-le-sum_by g f xs (λ p. let e = same p in omega arith) in
    omega arith

-- what stays and what changes when the request of a key is turned
record Turns (which : Pauses) (old new : Places) : Type 0 where
  pub fewer : unruled_count which new + 1 ≡ unruled_count which old
  pub bytes : sum_by request_bytes_of new ≡ sum_by request_bytes_of old
  pub waiting : sum_by waiting_bytes_of new ≡ sum_by waiting_bytes_of old

module _ (which : Pauses) (old : Places) (key now : ℕ) (c : Connection) where
  abbrev after : Connection
  after = record c { load = turned c.load now }

  abbrev places : Places
  places = set old key (Some after)

  same_large : is_large (turned c.load now).activity ≡ is_large c.load.activity
  same_large = ap is_large (turned_activity c.load now)

  same_bytes : request_bytes_of (Some after) ≡ request_bytes_of (Some c)
  same_bytes = ap (λ (a : Activity). (activity_totals a).request_bytes) (turned_activity c.load now)

  same_waiting : waiting_bytes_of (Some after) ≡ waiting_bytes_of (Some c)
  same_waiting = ap (λ (a : Activity). (activity_totals a).waiting_bytes) (turned_activity c.load now)

  same_older : (n : ℕ) → is_older_large n (Some after) ≡ is_older_large n (Some c)
  same_older n = ap (λ b. cond (b && nat_lt c.number n) 1 0) same_large

  module _ (was : at old key ≡ Some c) where
    -- a sum over the places whose part stays the same
    keeps : (f : Option Connection → ℕ) → f (Some after) ≡ f (Some c) → sum_by f places ≡ sum_by f old
    keeps f same =
        let change = sum_by-set f old key (Some after) None (within old key c was) in
        let here = ap f was in
        omega arith

    olders : (n : ℕ) → older n places ≡ older n old
    olders n = keeps (is_older_large n) (same_older n)

    same_unruled : (p : Option Connection) → is_unruled which places p ≡ is_unruled which old p
    same_unruled None = refl
    same_unruled (Some d) = ap (λ w. differ d.load.is_paused w) (same_rule which old places d d olders refl refl)

    turns : (IsAsRuled which old (Some c) → ⊥) → Turns which old places
    turns unruled =
        let rule = is_to_pause which old (Some c) in
        let change = sum_by-set (is_unruled which old) old key (Some after) None (within old key c was) in
        let one : is_unruled which old (at old key) ≡ 1 =
        ap (is_unruled which old) was ∙ differ_one c.load.is_paused rule unruled in
        let none : is_unruled which old (Some after) ≡ 0 =
        ap (λ w. differ (turned c.load now).is_paused w) (same_rule which old old c after (λ n. refl) same_large refl)
        ∙ ap (λ b. differ b rule) (turned_paused c.load now) ∙ differ_none c.load.is_paused rule unruled in
        let same = sum_same (is_unruled which places) (is_unruled which old) places same_unruled in
        record {
          fewer = omega arith;
          bytes = keeps request_bytes_of same_bytes;
          waiting = keeps waiting_bytes_of same_waiting;
        }

turns_at : (which : Pauses) (old : Places) (key now : ℕ) (p : Option Connection) → at old key ≡ p
    → (IsAsRuled which old p → ⊥) → Turns which old (changed_from p (λ load. turned load now) old key)
turns_at which old key now None was unruled = absurd (unruled refl)
turns_at which old key now (Some c) was unruled = turns which old key now c was unruled

-- the flag stays as it is, once it is up to date
looked_again : (settings : LoadSettings) (taken : ℕ) (was : Bool)
    → nat_lt settings.request_bytes taken || ((nat_lt settings.request_bytes taken || (was && nat_le (enough settings) taken)) && nat_le (enough settings) taken)
    ≡ nat_lt settings.request_bytes taken || (was && nat_le (enough settings) taken)
looked_again settings taken was = go (nat_lt settings.request_bytes taken) was (nat_le (enough settings) taken) where
  go : (b w e : Bool) → b || ((b || (w && e)) && e) ≡ b || (w && e)
  go true w e = refl
  go false true true = refl
  go false true false = refl
  go false false e = refl

pub regulating_settles : (old : Register) (key now : ℕ) → RegulatingSettles old key now
regulating_settles old key now unruled =
    let settings = old.settings in
    let turns = turns_at (pauses_of (looked old)) old.places key now (at old.places key) refl unruled in
    let new = regulated old key now in
    let bytes : request_bytes_in new ≡ request_bytes_in old = ap (λ own. own + old.others.request_bytes) turns.bytes in
    let waiting : waiting_bytes_in new ≡ waiting_bytes_in old = ap (λ own. own + old.others.waiting_bytes) turns.waiting in
    let flag : pauses_now new ≡ pauses_now old =
    ap (λ taken. nat_lt settings.request_bytes taken || (pauses_now old && nat_le (enough settings) taken)) bytes
    ∙ looked_again settings (request_bytes_in old) old.is_pausing in
    record {
      rule = ap (λ b. pauses_if b (looked new)) flag ∙ by_flag (pauses_now old) waiting;
      fewer = turns.fewer;
    } where
      by_flag : (b : Bool) → waiting_bytes_in (regulated old key now) ≡ waiting_bytes_in old
          → pauses_if b (looked (regulated old key now)) ≡ pauses_if b (looked old)
      by_flag false same = refl
      by_flag true same = ap (λ taken. cond (nat_lt (old.settings.request_bytes / 2) taken) pauses.All pauses.Younger) same
