-- When a revision may be scaled down or removed.
use Rattle.std.specs.Prelude.{ℕ, Bool, true, false, not, ◌+◌, ◌==◌, ◌&&◌, ◌||◌, nat_lt, nat_le, List, [], ◌∷◌, length, count_by, filter, Option, Some, None}
use Rattle.std.specs.List.{list_any}
use Rattle.bg_history.specs.declared.entry.Entry.{Entry}
use Rattle.bg_strategy.specs.declared.strategy.Strategy.{Strategy}
use Rattle.bg_history.specs.AttemptBounds.{moment, newest_of}
use Rattle.bg_history.specs.Selections.{is_selected}
use Rattle.bg_history.specs.Sizes.{existing, is_scaled}
use Rattle.bg_history.specs.Requests.{open_at}
use Rattle.bg_history.specs.Marks.{MarkKind, Left, Superseded, Aborted, Cleared, Mark, mark}

abbrev pub time_of : Strategy → MarkKind → ℕ → Option ℕ
time_of s Left at = Some (at + s.delay)
time_of s Superseded at = Some at
time_of s Aborted at = Some (at + s.abort_delay)
time_of s Cleared at = None

abbrev pub deadline_of : Strategy → Option Mark → Option ℕ
deadline_of s None = None
deadline_of s (Some m) = time_of s m.kind m.moment

-- the deadline of r: the moment from which it may be scaled down
abbrev pub deadline : Strategy → ℕ → List Entry → Option ℕ
deadline s r past = deadline_of s (mark s r past)

abbrev pub exists_in : ℕ → List Entry → Bool
exists_in r past = list_any (λ q. q == r) (existing past)

-- r is scaled, and neither active nor preview nor stable
abbrev pub is_spare : Strategy → ℕ → List Entry → Bool
is_spare s r past = is_scaled s r past && not (is_selected r past)

abbrev pub is_left : MarkKind → Bool
is_left Left = true
is_left _ = false

-- the mark says that the revision left the active service after more than `position` entries
abbrev pub left_later : ℕ → Option Mark → Bool
left_later position None = false
left_later position (Some m) = is_left m.kind && nat_lt position m.position

-- the number of spare revisions that left the active service after more than `position` entries
abbrev pub rank_after : Strategy → ℕ → List Entry → ℕ
rank_after s position past =
    count_by (λ q. is_spare s q past && left_later position (mark s q past)) (existing past)

abbrev pub rank_of : Strategy → Option Mark → List Entry → ℕ
rank_of s None past = 0
rank_of s (Some m) past = rank_after s m.position past

abbrev pub rank : Strategy → ℕ → List Entry → ℕ
rank s r past = rank_of s (mark s r past) past

abbrev pub reaches_limit : Option ℕ → ℕ → Bool
reaches_limit None n = false
reaches_limit (Some limit) n = nat_le limit n

abbrev pub is_reached : Option ℕ → ℕ → Bool
is_reached None now = false
is_reached (Some t) now = nat_le t now

-- the mark makes its revision due
abbrev pub marks_due : Strategy → Option Mark → List Entry → Bool
marks_due s None past = false
marks_due s (Some m) past =
    is_reached (time_of s m.kind m.moment) (moment past)
    || (is_left m.kind && reaches_limit s.revision_limit (rank_after s m.position past))

abbrev pub is_due : Strategy → ℕ → List Entry → Bool
is_due s r past = exists_in r past && is_spare s r past && marks_due s (mark s r past) past

abbrev pub is_empty : List ℕ → Bool
is_empty [] = true
is_empty _ = false

abbrev pub may_scale_down : Strategy → ℕ → List Entry → Bool
may_scale_down s r past = is_due s r past && is_empty (open_at r past)

-- r isn't scaled, and neither active nor preview nor stable nor newest
abbrev pub is_old : Strategy → List Entry → ℕ → Bool
is_old s past r = not (is_scaled s r past) && not (is_selected r past) && not (r == newest_of past)

abbrev pub old_revisions : Strategy → List Entry → List ℕ
old_revisions s past = filter (is_old s past) (existing past)

abbrev pub is_first : ℕ → List ℕ → Bool
is_first r [] = false
is_first r (q ∷ rest) = q == r

abbrev pub may_remove : Strategy → ℕ → List Entry → Bool
may_remove s r past =
    nat_lt s.history_limit (length (old_revisions s past)) && is_first r (old_revisions s past)
