-- What a start finds of the orders that a journal keeps.
use Rattle.std.specs.Prelude.{◌≡◌, ℕ, ◌<◌, ◌^◌, true, List, [], ◌∷◌, ◌++◌, map, reverse, Option, Some, None}
use Rattle.std.specs.List.{flat_map, list_all}
use Rattle.bg_history.specs.declared.entry.Entry.{Entry}
use Rattle.bg_history.specs.Compacted.{thin}
use Rattle.bg_journal.specs.Bounds.{bound_in, bound_text, last_bound}
use Rattle.bg_journal.specs.Texts.{entries_text, is_journaled}
use Rattle.bg_rollout.specs.Following.{Resumes}
use Rattle.bg_rollout.specs.Routing.{Routing}

-- the entries of orders, one order after the other
abbrev pub entries_of : List (List Entry) → List Entry
entries_of orders = flat_map (λ entries. entries) orders

-- the text, where it says no bound
abbrev pub unless_bound : Option ℕ → List ℕ → List ℕ
unless_bound None text = text
unless_bound (Some n) text = []

-- the text of the entries that a text of a journal has: none where it says a bound of request numbers
abbrev pub order_text : List ℕ → List ℕ
order_text text = unless_bound (bound_in text) text

-- The texts are those of these orders, where a bound counts as an order without entries; each of their entries has a line.
pub record AreTextsOf (orders : List (List Entry)) (texts : List (List ℕ)) : Type 0 where
  pub texts_are : map order_text texts ≡ map entries_text orders
  pub journaled : list_all is_journaled (entries_of orders) ≡ true

-- the entries that these texts have, one text after the other, without superseded ticks: those that another tick directly
-- follows
pub record AreReadFrom (texts : List (List ℕ)) (entries : List Entry) : Type 0 where
  pub all : List Entry
  pub text_is : entries_text all ≡ flat_map order_text texts
  pub journaled : list_all is_journaled all ≡ true
  pub entries_are : reverse entries ≡ thin (reverse all)

-- the past begins with these entries, the oldest first, but for superseded ticks
abbrev pub BeginsWith : List Entry → List Entry → Type 0
BeginsWith first past = (later : List Entry) × (past ≡ thin (reverse (first ++ later)))

-- If the texts that are kept, and the one in doubt, are those of orders, then a book that is resumed from what a start finds
-- after a crash has each order that is kept: its history begins with their entries, one order after the other, but for
-- superseded ticks.
abbrev pub OrdersSurvive : (List (List ℕ) → Type 0) → List (List ℕ) → List (List ℕ) → Type 0
OrdersSurvive may_find kept doubt =
    (orders unsure : List (List Entry)) → AreTextsOf orders kept → AreTextsOf unsure doubt
    → (found : List (List ℕ)) → may_find found → (entries : List Entry) → AreReadFrom found entries
    → (old new : Routing) → Resumes old entries new → BeginsWith (entries_of orders) new.past

-- If orders alone came behind a bound, then whatever a start finds after a crash says this bound last, so the numbers that it
-- gives begin behind it.
abbrev pub BoundsSurvive : (List (List ℕ) → Type 0) → List (List ℕ) → List (List ℕ) → Type 0
BoundsSurvive may_find kept doubt =
    (before : List (List ℕ)) (n : ℕ) (orders unsure : List (List Entry)) → n < 2 ^ 64
    → kept ≡ before ++ bound_text n ∷ map entries_text orders → doubt ≡ map entries_text unsure
    → (found : List (List ℕ)) → may_find found → last_bound found ≡ n
