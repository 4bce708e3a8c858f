-- When a revision with a mark may be scaled down.
use Rattle.std.specs.Prelude.{◌≤◌, ℕ, Bool, false, not, if◌then◌else◌, ◌+◌, ◌==◌, ◌&&◌, ◌||◌, nat_le, is_none, length, List, [], ◌∷◌, filter, find, Option, Some, None, IfSome, IfNone, IsTrue, IsFalse}
use Rattle.std.specs.Option.{option_map}
use Rattle.bg_history.specs.Deadlines.{reaches_limit}
use Rattle.bg_history.specs.declared.mark.RevisionMark.{RevisionMark}
use Rattle.bg_revisions.specs.declared.revision.Selectors.{Selectors}
use Rattle.bg_history.specs.Tables.{Table, has_left}

-- the marks of other revisions
abbrev pub marks_without : ℕ → List RevisionMark → List RevisionMark
marks_without r marks = filter (λ m. not (m.revision == r)) marks

-- the mark of the revision
abbrev pub mark_of : ℕ → List RevisionMark → Option RevisionMark
mark_of r marks = find (λ m. m.revision == r) marks

-- 1 if the test holds, else 0
abbrev pub one_if : Bool → ℕ
one_if b = if b then 1 else 0

-- how many of the revisions have no mark
abbrev pub unmarked : List ℕ → List RevisionMark → ℕ
unmarked [] marks = 0
unmarked (r ∷ rest) marks = one_if (is_none (mark_of r marks)) + unmarked rest marks

-- there is room for a mark of each of the revisions: at most 64 revisions can have a mark
abbrev pub has_room_for : List ℕ → List RevisionMark → Bool
has_room_for rs marks = nat_le (unmarked rs marks + length marks) 64

-- the deadline of the revision: the moment from which it may be scaled down
abbrev pub deadline_in : Table → ℕ → Option ℕ
deadline_in t r = option_map (λ m. m.deadline) (mark_of r t.marks)

-- the revision is active, preview or stable
abbrev pub exempts : Selectors → ℕ → Bool
exempts x r = (r == x.active) || (r == x.preview) || (r == x.stable)

-- how many revisions that pass the test have a newer mark than this revision and left the active service
abbrev pub rank_in : (ℕ → Bool) → ℕ → List RevisionMark → ℕ
rank_in counted r [] = 0
rank_in counted r (m ∷ older) =
    if m.revision == r then 0
    else one_if (has_left m.cause && counted m.revision) + rank_in counted r older

-- how many revisions that aren't exempt left the active service after this one
abbrev pub rank_among : Selectors → ℕ → List RevisionMark → ℕ
rank_among x r marks = rank_in (λ q. not (exempts x q)) r marks

-- the mark's deadline has come; or its revision left the active service, and the rank is at least the limit
abbrev pub mark_is_due : Table → ℕ → ℕ → RevisionMark → Bool
mark_is_due t now rank m =
    nat_le m.deadline now || (has_left m.cause && reaches_limit t.limit rank)

-- there is a mark, and it is due
abbrev pub found_is_due : Table → ℕ → ℕ → Option RevisionMark → Bool
found_is_due t now rank None = false
found_is_due t now rank (Some m) = mark_is_due t now rank m

-- the revision isn't exempt, and its mark is due
abbrev pub is_due_in : Table → ℕ → ℕ → Selectors → Bool
is_due_in t r now x =
    not (exempts x r) && found_is_due t now (rank_among x r t.marks) (mark_of r t.marks)

-- the result is the least revision that is due and passes the test, or none if there is none; every due revision has
-- a mark, so this is the least of the marked ones
pub record IsLeastDue (t : Table) (now : ℕ) (x : Selectors) (p : ℕ → Bool)
    (result : Option ℕ) : Type 0 where
  pub due : IfSome result (λ r. IsTrue (is_due_in t r now x))
  pub passes : IfSome result (λ r. IsTrue (p r))
  pub least : IfSome result (λ r. (q : ℕ) → IsTrue (is_due_in t q now x) → IsTrue (p q) → r ≤ q)
  pub none : IfNone result ((q : ℕ) → IsTrue (is_due_in t q now x) → IsFalse (p q))
