-- The marks of a revision, which give its deadline.
use Rattle.std.specs.Prelude.{ℕ, Bool, false, not, if◌then◌else◌, ◌==◌, ◌&&◌, ◌||◌, List, [], ◌∷◌, length, nat_lt, Option, Some, None}
use Rattle.std.specs.Option.{option_or, option_map}
use Rattle.bg_history.specs.declared.entry.Entry.{Entry}
use Rattle.bg_history.specs.declared.entry.Entry.TheVariants.{Deploy, Outcome}
use Rattle.bg_history.specs.declared.entry.Outcome.TheVariants.{ScaledDown}
use Rattle.bg_history.specs.AttemptBounds.{moment, stable_of, newest_of, is_halt}
use Rattle.bg_history.specs.Selections.{active_of}
use Rattle.bg_history.specs.Sizes.{begins, is_scaled}
use Rattle.bg_strategy.specs.declared.strategy.Strategy.{Strategy}

-- what an entry did to a revision: it left the active service, it was superseded, its attempt was halted, or its
-- deadline was cleared
pub data MarkKind : Type 0 where
  Left : MarkKind
  Superseded : MarkKind
  Aborted : MarkKind
  Cleared : MarkKind

-- a mark: its kind, its moment, and the number of entries before it
pub record Mark : Type 0 where
  pub kind : MarkKind
  pub moment : ℕ
  pub position : ℕ

-- the entry halts the attempt of r
abbrev pub halts : ℕ → Entry → List Entry → Bool
halts r e before = is_halt e && (newest_of before == r)

abbrev pub leaves_active : ℕ → Entry → List Entry → Bool
leaves_active r e before =
    (active_of before == r) && not (active_of (e ∷ before) == r) && not (halts r e before)

-- the entry is a deploy that takes the place of r, the newest revision, which is scaled and neither active nor stable
abbrev pub supersedes : Strategy → ℕ → Entry → List Entry → Bool
supersedes s r (Deploy q name ports) before =
    (newest_of before == r) && not (active_of before == r) && not (stable_of before == r)
    && is_scaled s r before
supersedes s r _ before = false

-- the strategy scales aborted revisions down after a delay
abbrev pub has_abort_delay : Strategy → Bool
has_abort_delay s = nat_lt 0 s.abort_delay

-- the entry halts the attempt of r, and the strategy scales aborted revisions down after a delay
abbrev pub aborts : Strategy → ℕ → Entry → List Entry → Bool
aborts s r e before = halts r e before && has_abort_delay s

abbrev pub scales_down : ℕ → Entry → Bool
scales_down r (Outcome (ScaledDown q)) = q == r
scales_down r _ = false

abbrev pub clears : Strategy → ℕ → Entry → List Entry → Bool
clears s r e before =
    begins r e before || (not (active_of before == r) && (active_of (e ∷ before) == r))
    || scales_down r e || (halts r e before && not (has_abort_delay s))

-- the kind of mark that the entry makes for r, if it makes one
abbrev pub kind_of : Strategy → ℕ → Entry → List Entry → Option MarkKind
kind_of s r e before =
    if leaves_active r e before then Some Left
    else if supersedes s r e before then Some Superseded
    else if aborts s r e before then Some Aborted
    else if clears s r e before then Some Cleared
    else None

-- the newest mark of r
abbrev pub mark : Strategy → ℕ → List Entry → Option Mark
mark s r [] = None
mark s r (e ∷ before) =
    option_or
    (option_map (λ kind. record {
      kind = kind;
      moment = moment (e ∷ before);
      position = length before;
    }) (kind_of s r e before))
    (mark s r before)
