-- What one more of the oldest entries says, where the newest one is looked at first.
use Rattle.std.proofs.Common.{◌≡◌, ◌<◌, ◌+◌, ◌-◌, ℕ, Bool, true, false, not, ◌&&◌, ◌||◌, List, ◌∷◌, reverse, Option, Some, None, refl, ap, sym, ◌∙◌, arith}
use Rattle.std.specs.Prelude.{slice_get, unwrap_or}
use Rattle.std.specs.Option.{option_or}
use Rattle.bg_strategy.specs.declared.strategy.Strategy.{Strategy}
use Rattle.bg_history.specs.declared.entry.Entry.{Entry}
use Rattle.bg_history.specs.declared.entry.Entry.TheVariants.{Deploy, Retry, Outcome}
use Rattle.bg_history.specs.declared.entry.Outcome.TheVariants.{Promoted}
use Rattle.bg_history.specs.AttemptBounds.{moment, is_attempt_bound, is_running}
use Rattle.bg_history.specs.Attempts.{in_attempt, passes, first_at, pass_moment}
use Rattle.bg_audit.specs.Openings.{oldest}
use Rattle.bg_audit.proofs.Prefixes.{oldest-next}

-- the newest of the oldest n entries
pub oldest-back : (n : ℕ) (past : List Entry) (e : Entry) → 0 < n → slice_get (reverse past) (n - 1) ≡ Some e → oldest n past ≡ e ∷ oldest (n - 1) past
oldest-back n past e some is =
    let same : n ≡ n - 1 + 1 = omega arith in
    ap (λ k. oldest k past) same ∙ oldest-next (n - 1) past e is

-- what the newest entry says, or else the entries before it
pub looked : {X : Type 0} (V : List Entry → X) (n : ℕ) (past : List Entry) (e : Entry) (r : Option X) (y : X) → unwrap_or r (V (oldest (n - 1) past)) ≡ y
    → V (e ∷ oldest (n - 1) past) ≡ unwrap_or r (V (oldest (n - 1) past)) → oldest n past ≡ e ∷ oldest (n - 1) past → y ≡ V (oldest n past)
looked V n past e r y is says back = sym is ∙ sym says ∙ sym (ap V back)

-- an attempt runs after an entry that is no bound if one ran before it
pub still-runs : (e : Entry) (p : List Entry) → is_attempt_bound e ≡ false → is_running (e ∷ p) ≡ is_running p
still-runs (Deploy r name ports) p h = absurd (cc)
still-runs Retry p h = absurd (cc)
still-runs (Outcome (Promoted r)) p h = absurd (cc)
still-runs e p h = ap (λ halt. not halt && is_running p) h

-- after a bound, the attempt has no step
pub no-step : (t : Entry → Bool) (e : Entry) (p : List Entry) → is_attempt_bound e ≡ true → in_attempt t (e ∷ p) ≡ false
no-step t e p bound = rw bound refl

-- an entry that is no bound is a step, or else the entries before it have one
pub step-or-before : (t : Entry → Bool) (e : Entry) (p : List Entry) → is_attempt_bound e ≡ false → in_attempt t (e ∷ p) ≡ (t e && is_running p) || in_attempt t p
step-or-before t e p unbound = rw unbound refl

pub no-moment : (s : Strategy) (e : Entry) (p : List Entry) → is_attempt_bound e ≡ true → pass_moment s (e ∷ p) ≡ None
no-moment s e p bound = rw bound refl

pub moment-or-before : (s : Strategy) (e : Entry) (p : List Entry) → is_attempt_bound e ≡ false → pass_moment s (e ∷ p) ≡ first_at (passes s e p) (moment p) (pass_moment s p)
moment-or-before s e p unbound = rw unbound refl

-- the moment of the older entry counts
pub older-counts : (m : ℕ) (x found : Option ℕ) → option_or (first_at true m x) found ≡ option_or x (Some m)
older-counts m None found = refl
older-counts m (Some k) found = refl

-- an attempt runs before an entry that is no bound if one runs after it
pub runs-before : (q p : List Entry) (e : Entry) (running : Bool) → q ≡ e ∷ p → is_attempt_bound e ≡ false → running ≡ is_running q → running ≡ is_running p
runs-before q p e running back unbound runs = runs ∙ ap is_running back ∙ still-runs e p unbound

-- an entry that is no bound is a step of the running attempt, or else the entries before it have one
pub step-looked : (t : Entry → Bool) (q p : List Entry) (e : Entry) (running b : Bool) → q ≡ e ∷ p → is_attempt_bound e ≡ false → running ≡ is_running q → t e && running ≡ b
    → in_attempt t q ≡ b || in_attempt t p
step-looked t q p e running b back unbound runs taken =
    ap (in_attempt t) back ∙ step-or-before t e p unbound ∙ ap (λ r. (t e && r) || in_attempt t p) (sym (runs-before q p e running back unbound runs))
    ∙ ap (λ r. r || in_attempt t p) taken

pub moment-looked : (s : Strategy) (q p : List Entry) (e : Entry) (b : Bool) → q ≡ e ∷ p → is_attempt_bound e ≡ false → passes s e p ≡ b
    → pass_moment s q ≡ first_at b (moment p) (pass_moment s p)
moment-looked s q p e b back unbound passed =
    ap (pass_moment s) back ∙ moment-or-before s e p unbound ∙ ap (λ r. first_at r (moment p) (pass_moment s p)) passed
