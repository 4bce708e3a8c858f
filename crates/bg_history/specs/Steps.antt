-- The past after a call: with its event, and the outcomes that the event allows.
use Rattle.std.specs.Prelude.{◌≡◌, ℕ, Bool, true, ◌&&◌, nat_le, List, [], ◌∷◌, find, length, Option, Some, is_none, IsTrue}
use Rattle.std.specs.List.{list_all}
use Rattle.std.specs.Option.{option_or, option_map}
use Rattle.bg_history.specs.declared.entry.Entry.{Entry}
use Rattle.bg_history.specs.declared.entry.Entry.TheVariants.{Outcome}
use Rattle.bg_history.specs.declared.entry.Outcome as outcome
use Rattle.bg_history.specs.declared.entry.Outcome.TheVariants.{ScaledDown, Removed}
use Rattle.bg_strategy.specs.declared.strategy.Strategy.{Strategy}
use Rattle.bg_history.specs.Sizes.{existing}
use Rattle.bg_history.specs.Promotion.{first_promotion}
use Rattle.bg_history.specs.Deadlines.{may_scale_down, may_remove}
use Rattle.bg_history.specs.Kept.{Opening}
use Rattle.bg_history.specs.Requests.{given, request_numbers}
use Rattle.bg_strategy.specs.Label.{is_label}
use Rattle.bg_revisions.specs.PortLists.{are_ports}
use Rattle.bg_history.specs.Allowed.{is_allowed}

-- the first allowed outcome: a step of the attempt; else the least revision that may be scaled down; else the least
-- one that may be removed
abbrev pub first_allowed : Strategy → List Entry → Option outcome.Outcome
first_allowed s past =
    option_or (first_promotion s past)
    (option_or (option_map ScaledDown (find (λ r. may_scale_down s r past) (existing past)))
    (option_map Removed (find (λ r. may_remove s r past) (existing past))))

-- no allowed outcome is left undone
abbrev pub is_settled : Strategy → List Entry → Bool
is_settled s past = is_none (first_allowed s past)

-- the past with these outcomes in front, newest first
abbrev pub with_outcomes : List outcome.Outcome → List Entry → List Entry
with_outcomes [] past = past
with_outcomes (x ∷ earlier) past = Outcome x ∷ with_outcomes earlier past

-- each outcome was the first allowed one at its place
abbrev pub Follows : Strategy → List outcome.Outcome → List Entry → Type 0
Follows s [] past = Unit {0}
Follows s (x ∷ earlier) past =
    Follows s earlier past × (first_allowed s (with_outcomes earlier past) ≡ Some x)

-- the new past is the past with this event and the outcomes that it allowed, and no more is allowed
pub record Step (s : Strategy) (e : Entry) (past : List Entry) (outcomes : List outcome.Outcome)
    (new : List Entry) : Type 0 where
  pub new_is : new ≡ with_outcomes outcomes (e ∷ past)
  pub follow : Follows s outcomes (e ∷ past)
  pub settled : IsTrue (is_settled s new)

-- the entries before each entry allow it
abbrev pub all_allowed : Strategy → Opening → List Entry → Bool
all_allowed s o [] = true
all_allowed s o (e ∷ before) = is_allowed s o e before && all_allowed s o before

-- the opening is well formed for the strategy: a name, ports, and 1 to 2048 seats
abbrev pub is_opening : Strategy → Opening → Bool
is_opening s o =
    is_label o.template.name && are_ports s.replicas o.template.ports && nat_le 1 o.seats
    && nat_le o.seats 2048

-- each number lies from 1 to `greatest`
abbrev pub all_given : ℕ → List ℕ → Bool
all_given greatest numbers = list_all (λ n. nat_le 1 n && nat_le n greatest) numbers

-- the opening is well formed, each seat has a count of closed requests, the entries before each entry allow it, and
-- each request number lies from 1 to the number of given ones
pub record IsLegal (s : Strategy) (o : Opening) (closed : List ℕ) (past : List Entry) : Type 0 where
  pub opening : IsTrue (is_opening s o)
  pub seats : length closed ≡ o.seats
  pub allowed : IsTrue (all_allowed s o past)
  pub numbers : IsTrue (all_given (given closed past) (request_numbers past))
