-- The marks in the order of their deadlines.
use Rattle.std.specs.Prelude.{◌≡◌, ◌≤◌, Bool, if◌then◌else◌, ◌==◌, ◌&&◌, ◌||◌, nat_lt, nat_le, List, [], ◌∷◌, length, None}
use Rattle.bg_history.specs.declared.mark.RevisionMark.{RevisionMark}
use Rattle.bg_scaledown.specs.Due.{mark_of}

-- m has the earlier deadline, or the same deadline and no greater revision number
abbrev pub comes_before : RevisionMark → RevisionMark → Bool
comes_before m n =
    nat_lt m.deadline n.deadline
    || ((m.deadline == n.deadline) && nat_le m.revision n.revision)

-- the mark in its place among sorted ones
abbrev pub inserted : RevisionMark → List RevisionMark → List RevisionMark
inserted m [] = m ∷ []
inserted m (x ∷ xs) = if comes_before m x then m ∷ x ∷ xs else x ∷ inserted m xs

-- the marks sorted
abbrev pub sorted : List RevisionMark → List RevisionMark
sorted [] = []
sorted (m ∷ ms) = inserted m (sorted ms)

-- no revision has two marks
abbrev pub OncePerRevision : List RevisionMark → Type 0
OncePerRevision [] = Unit {0}
OncePerRevision (m ∷ ms) = (mark_of m.revision ms ≡ None) × OncePerRevision ms

-- at most 64 marks, the same ones in both orders, and no two of the same revision
pub record InBothOrders (newest_first by_deadline : List RevisionMark) : Type 0 where
  pub few : length newest_first ≤ 64
  pub sorted_is : by_deadline ≡ sorted newest_first
  pub once : OncePerRevision newest_first
