-- What stays true in every run of the calls that change the loads.
use Rattle.std.proofs.Common.{◌≡◌, ◌&&◌, not, ℕ, Bool, true, false, cond, List, [], ◌∷◌, length, set, nat_le, nat_lt}
use Rattle.std.proofs.Common.{Option, Some, None, refl, sym, ap, subst, ◌∙◌, inl, inr, arith, le-leb, leb-true}
use Rattle.std.proofs.lemmas.Bool.{cases_eq, cases_lt}
use Rattle.std.proofs.lemmas.List.{set_past}
use Rattle.bg_load.proofs.RegisterLemmas.{Places, at-other, at-same, grown_at, within}
use Rattle.bg_load.proofs.Settling.{turned_activity, turned_paused}
use Rattle.bg_load.specs.Activities.{continues, is_large}
use Rattle.bg_load.specs.Changes.{changed_from, grown, loaded, observed_from}
use Rattle.bg_load.specs.Events.{accepting, leaving, looking, noting_others, observing, regulating}
use Rattle.bg_load.specs.Events.{Event, IsPausedLarge, OnlyLargePaused, PauseStays, SmallGoOn, Steps}
use Rattle.bg_load.specs.Loads.{begins, begun, continued, observed, turned}
use Rattle.bg_load.specs.Pauses.{IsAsRuled, is_paused, is_to_pause, looked, older, pauses_of}
use Rattle.bg_load.specs.Registers.{Register, at}
use Rattle.bg_load.specs.declared.activity.Activity.{Activity}
use Rattle.bg_load.specs.declared.activity.Activity.TheVariants as activity
use Rattle.bg_load.specs.declared.connection.Connection.{Connection}
use Rattle.bg_load.specs.declared.load.Load.{Load}
use Rattle.bg_load.specs.declared.pauses.Pauses.{Pauses}
use Rattle.bg_load.specs.declared.pauses.Pauses.TheVariants as pauses

-- a large request that goes on arriving is large
continues_large : (old new : Activity) → continues old new ≡ true → is_large old ≡ true → is_large new ≡ true
continues_large activity.Idle new goes large = absurd (cc)
continues_large (activity.Arriving before) activity.Idle goes large = absurd (cc)
continues_large (activity.Arriving before) (activity.Arriving after) goes large =
    let low = leb-true 32768 before large in
    let up = leb-true before after goes in
    le-leb 32768 after (omega arith)
continues_large (activity.Arriving before) (activity.Waiting bytes) goes large = absurd (cc)
continues_large (activity.Arriving before) activity.Inside goes large = absurd (cc)
continues_large (activity.Arriving before) (activity.Answering weight written) goes large = absurd (cc)
continues_large (activity.Arriving before) (activity.Lingering bytes) goes large = absurd (cc)
continues_large (activity.Waiting bytes) new goes large = absurd (cc)
continues_large activity.Inside new goes large = absurd (cc)
continues_large (activity.Answering weight written) new goes large = absurd (cc)
continues_large (activity.Lingering bytes) new goes large = absurd (cc)

-- a load that is observed keeps that only a large request is paused
abbrev IsLargeIfPaused : Load → Type 0
IsLargeIfPaused load = load.is_paused ≡ true → is_large load.activity ≡ true

observed_large : (load : Load) (new : Activity) (now : ℕ) → IsLargeIfPaused load → IsLargeIfPaused (observed load new now)
observed_large load new now before = go (continues load.activity new) refl where
  go : (b : Bool) → continues load.activity new ≡ b → IsLargeIfPaused (cond b (continued load new now) (begun new now))
  go true goes paused = continues_large load.activity new goes (before paused)
  go false goes paused = absurd (cc)

-- what the rule pauses is large
ruled_large : (which : Pauses) (places : Places) (c : Connection) → is_to_pause which places (Some c) ≡ true
    → is_large c.load.activity ≡ true
ruled_large pauses.Off places c rule = absurd (cc)
ruled_large pauses.Younger places c rule = left_of (is_large c.load.activity) (nat_le 8 (older c.number places)) rule where
  left_of : (a b : Bool) → a && b ≡ true → a ≡ true
  left_of true b e = refl
  left_of false b e = e
ruled_large pauses.All places c rule = rule

-- a request that is turned since it is otherwise than the rule says
turned_large : (which : Pauses) (places : Places) (c : Connection) (now : ℕ) → (IsAsRuled which places (Some c) → ⊥)
    → IsLargeIfPaused (turned c.load now)
turned_large which places c now unruled paused =
    go c.load.is_paused (is_to_pause which places (Some c)) refl refl where
      go : (b w : Bool) → c.load.is_paused ≡ b → is_to_pause which places (Some c) ≡ w
          → is_large (turned c.load now).activity ≡ true
      go true w is rule =
          let none : (turned c.load now).is_paused ≡ false = turned_paused c.load now ∙ ap not is in absurd (cc)
      go false true is rule = ap is_large (turned_activity c.load now) ∙ ruled_large which places c rule
      go false false is rule = absurd (unruled (is ∙ sym rule))

-- one place has changed
module _ (places : Places) (key : ℕ) (p : Option Connection) (before : (k : ℕ) → IsPausedLarge (at places k)) (here : IsPausedLarge p) where
  set_large : (k : ℕ) → IsPausedLarge (at (set places key p) k)
  set_large k = elim (cases_lt key (length places)) [
    | inl less ↦ elim (cases_eq k key) [
      | inl same ↦
          subst (λ n. IsPausedLarge (at (set places key p) n)) (sym same)
          (subst IsPausedLarge (sym (at-same places key p less)) here)
      | inr ne ↦ subst IsPausedLarge (sym (at-other places key k p ne)) (before k)
    ]
    | inr past ↦ subst (λ ps. IsPausedLarge (at ps k)) (sym (set_past places key p past)) (before k)
  ]

none_large : IsPausedLarge None
none_large paused = absurd (cc)

-- the load of a connection has changed
from_large : (f : Load → Load) (places : Places) (key : ℕ) (p : Option Connection)
    → ((k : ℕ) → IsPausedLarge (at places k)) → ((c : Connection) → p ≡ Some c → IsLargeIfPaused (f c.load))
    → (k : ℕ) → IsPausedLarge (at (changed_from p f places key) k)
from_large f places key None before here k = before k
from_large f places key (Some c) before here k =
    set_large places key (Some (record c { load = f c.load })) before (here c refl) k

-- a connection has another load, and perhaps another number
loaded_large : (old : Register) (key : ℕ) (c : Connection) (load : Load) (b : Bool) → OnlyLargePaused old
    → IsLargeIfPaused load → OnlyLargePaused (loaded old key c load b)
loaded_large old key c load true before here = set_large old.places key (Some (record { number = old.next; load = load })) before here
loaded_large old key c load false before here = set_large old.places key (Some (record c { load = load })) before here

observed_stays : (old : Register) (key : ℕ) (seen : Activity) (now : ℕ) → OnlyLargePaused old → (p : Option Connection)
    → at old.places key ≡ p → OnlyLargePaused (observed_from p old key seen now)
observed_stays old key seen now before None is = before
observed_stays old key seen now before (Some c) is =
    loaded_large old key c (observed c.load seen now) (begins c.load seen && nat_lt old.next 18446744073709551615) before
    (observed_large c.load seen now (subst IsPausedLarge is (before key)))

step_large : (event : Event) (old new : Register) → OnlyLargePaused old → Steps event old new → OnlyLargePaused new
step_large (accepting key now) old new before step =
    subst OnlyLargePaused (sym step.1)
    (set_large (grown old.places key) key (Some (record { number = old.next; load = begun (activity.Arriving 0) now }))
    (λ k. subst IsPausedLarge (sym (grown_at old.places key k)) (before k)) (λ paused. absurd (cc)))
step_large (observing key seen now) old new before step =
    subst OnlyLargePaused (sym step) (observed_stays old key seen now before (at old.places key) refl)
step_large (leaving key) old new before step =
    subst OnlyLargePaused (sym step) (set_large old.places key None before none_large)
step_large (regulating key now) old new before step =
    subst OnlyLargePaused (sym step.1)
    (from_large (λ load. turned load now) old.places key (at old.places key) before
    (λ c is. turned_large (pauses_of (looked old)) old.places c now
    (subst (λ p. IsAsRuled (pauses_of (looked old)) old.places p → ⊥) is step.0)))
step_large looking old new before step = subst OnlyLargePaused (sym step) before
step_large (noting_others others) old new before step = subst OnlyLargePaused (sym step) before

pub small_go_on : (events : List Event) (old new : Register) → SmallGoOn events old new
small_go_on [] old new before runs = subst OnlyLargePaused (sym runs) before
small_go_on (event ∷ events) old new before runs =
    small_go_on events runs.0 new (step_large event old runs.0 before runs.1) runs.2

pub pause_stays : (old : Register) (key : ℕ) (c : Connection) (before bytes now : ℕ) → PauseStays old key c before bytes now
pause_stays old key c before bytes now was arriving more =
    let new = activity.Arriving bytes in
    let goes : continues c.load.activity new ≡ true = ap (λ a. continues a new) arriving ∙ le-leb before bytes more in
    let same : begins c.load new && nat_lt old.next 18446744073709551615 ≡ false =
    ap (λ b. not b && nat_lt old.next 18446744073709551615) goes in
    ap (λ p. is_paused (at (observed_from p old key new now).places key)) was
    ∙ ap (λ b. is_paused (at (loaded old key c (observed c.load new now) b).places key)) same
    ∙ ap is_paused (at-same old.places key (Some (record c { load = observed c.load new now })) (within old.places key c was))
    ∙ ap (λ b. (cond b (continued c.load new now) (begun new now)).is_paused) goes
