-- The answers of the facts.
use Rattle.std.specs.Prelude.{ℕ, Bool, true, false, not, ◌+◌, ◌%◌, ◌==◌, ◌&&◌, ◌||◌, nat_lt, nat_le, List, count_by, find, Option, Some, None, is_none, slice_index}
use Rattle.std.specs.List.{list_any}
use Rattle.std.specs.Str.{bytes_eq}
use Rattle.bg_strategy.specs.declared.strategy.Strategy.{Strategy}
use Rattle.bg_revisions.specs.declared.revision.Revision.{Revision}
use Rattle.bg_revisions.specs.Rosters.{numbered}
use Rattle.bg_history.specs.Deadlines.{reaches_limit, is_reached}
use Rattle.bg_history.specs.Allowed.{has_value}
use Rattle.bg_audit.specs.declared.audited_state.AuditedState.{AuditedState}
use Rattle.bg_audit.specs.declared.marks.Mark.{Mark}
use Rattle.bg_audit.specs.declared.marks.MarkKind.{MarkKind}
use Rattle.bg_audit.specs.declared.marks.MarkKind.TheVariants.{Left, Superseded, Aborted, Cleared}
use Rattle.bg_audit.specs.declared.requests.AuditedRequest.{AuditedRequest}
use Rattle.bg_audit.specs.declared.facts.Facts.{Facts}
use Rattle.bg_audit.specs.Selected.{selects_in}
use Rattle.bg_audit.specs.Marked.{mark_in}
use Rattle.bg_audit.specs.Requests.{is_above}

-- a template may be deployed as r, by the revision of its name: that one is r and has these ports; or there is none,
-- r is the next number, and there is room
abbrev pub fits_named : Option Revision → ℕ → List ℕ → ℕ → ℕ → Bool
fits_named (Some v) r ports last count = (v.number == r) && bytes_eq v.ports ports
fits_named None r ports last count = (r == last + 1) && nat_lt count 64

-- there is a revision, and it wants at least n endpoints
abbrev pub wants_in : ℕ → Option Revision → Bool
wants_in n None = false
wants_in n (Some v) = nat_le n v.desired

-- the number of available endpoints of a revision; 0 if there is none
abbrev pub available_in : Option Revision → ℕ
available_in None = 0
available_in (Some v) = v.available

-- there is a revision, it has an endpoint available, and it gives that port to that request
abbrev pub has_port_in : ℕ → ℕ → Option Revision → Bool
has_port_in number port None = false
has_port_in number port (Some v) =
    nat_le 1 v.available && (slice_index v.ports (number % v.available) == port)

-- there is a request, with this number and revision
abbrev pub is_held_in : ℕ → ℕ → Option AuditedRequest → Bool
is_held_in number r None = false
is_held_in number r (Some q) = (q.number == number) && (q.revision == r)

-- a request of that number may enter at a seat; `selected` is the revision that the service selects
abbrev pub enters_in : Facts → ℕ → Option ℕ → ℕ → ℕ → ℕ → ℕ → Bool
enters_in f seats selected seat number r port =
    nat_lt seat seats && is_none (find (λ q. q.seat == seat) f.requests.items)
    && has_value r selected && has_port_in number port (numbered r f.revisions.items)
    && is_above number f.greatest

-- the revision is scaled, and neither active nor preview nor stable
abbrev pub is_spare_in : AuditedState → Revision → Bool
is_spare_in c v = nat_le 1 v.desired && not (selects_in c v.number)

abbrev pub is_left_in : MarkKind → Bool
is_left_in Left = true
is_left_in Superseded = false
is_left_in Aborted = false
is_left_in Cleared = false

-- the mark says that its revision left after more than `position` entries
abbrev pub left_later_in : ℕ → Option Mark → Bool
left_later_in position None = false
left_later_in position (Some m) = is_left_in m.kind && nat_lt position m.position

-- the deadline that a mark gives, if it gives one
abbrev pub time_in : Strategy → MarkKind → ℕ → Option ℕ
time_in s Left at = Some (at + s.delay)
time_in s Superseded at = Some at
time_in s Aborted at = Some (at + s.abort_delay)
time_in s Cleared at = None

-- the number of spare revisions that left after more than `position` entries
abbrev pub count_left_later : Facts → ℕ → ℕ
count_left_later f position =
    count_by (λ v. is_spare_in f.state v && left_later_in position (mark_in v.number f.marks.items))
    f.revisions.items

-- the mark makes its revision due
abbrev pub marks_due_in : Strategy → Facts → Option Mark → Bool
marks_due_in s f None = false
marks_due_in s f (Some m) =
    is_reached (time_in s m.kind m.moment) f.state.moment
    || (is_left_in m.kind && reaches_limit s.revision_limit (count_left_later f m.position))

-- there is a revision, it is due, and no request is open at it
abbrev pub scales_down_in : Strategy → Facts → Option Revision → Bool
scales_down_in s f None = false
scales_down_in s f (Some v) =
    is_spare_in f.state v && marks_due_in s f (mark_in v.number f.marks.items)
    && not (list_any (λ q. q.revision == v.number) f.requests.items)

-- the revision isn't scaled, and neither active nor preview nor stable nor newest
abbrev pub is_old_in : AuditedState → Revision → Bool
is_old_in c v =
    not (nat_le 1 v.desired) && not (selects_in c v.number) && not (v.number == c.newest)

-- there is a revision, with this number
abbrev pub is_numbered : ℕ → Option Revision → Bool
is_numbered r None = false
is_numbered r (Some v) = v.number == r

-- more revisions are old than the strategy keeps, and r is the first of them
abbrev pub removes_in : Strategy → Facts → ℕ → Bool
removes_in s f r =
    nat_lt s.history_limit (count_by (is_old_in f.state) f.revisions.items)
    && is_numbered r (find (is_old_in f.state) f.revisions.items)
