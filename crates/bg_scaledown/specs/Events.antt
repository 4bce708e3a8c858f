-- The effect of a history's entry on the marks, by the selectors before it.
use Rattle.std.specs.Prelude.{ℕ, Bool, not, if◌then◌else◌, ◌+◌, ◌==◌, ◌&&◌, ◌||◌, nat_lt, List, [], ◌∷◌, ◌++◌}
use Rattle.bg_history.specs.declared.entry.Entry.{Entry}
use Rattle.bg_history.specs.declared.entry.Entry.TheVariants.{Deploy, Outcome}
use Rattle.bg_history.specs.declared.entry.Outcome.TheVariants.{Switched}
use Rattle.bg_history.specs.AttemptBounds.{is_halt}
use Rattle.bg_revisions.specs.declared.revision.Selectors.{Selectors}
use Rattle.bg_history.specs.declared.mark.RevisionMark.{RevisionMark}
use Rattle.bg_history.specs.declared.mark.Cause.TheVariants.{Left, Superseded, Aborted}
use Rattle.bg_scaledown.specs.Due.{marks_without}

-- the marks after r left the active service, with this deadline
abbrev pub with_left : ℕ → ℕ → List RevisionMark → List RevisionMark
with_left r deadline marks =
    record {
      revision = r;
      cause = Left;
      deadline = deadline;
    } ∷ marks_without r marks

-- the marks after r was superseded, with this deadline
abbrev pub with_superseded : ℕ → ℕ → List RevisionMark → List RevisionMark
with_superseded r deadline marks =
    record {
      revision = r;
      cause = Superseded;
      deadline = deadline;
    } ∷ marks_without r marks

-- the marks after the attempt of r was halted at that moment: r has a deadline after the delay, or none if the delay
-- is 0
abbrev pub with_aborted : ℕ → ℕ → ℕ → List RevisionMark → List RevisionMark
with_aborted r at abort_delay marks =
    if nat_lt 0 abort_delay then
    record {
      revision = r;
      cause = Aborted;
      deadline = at + abort_delay;
    } ∷ marks_without r marks
    else marks_without r marks

-- a deploy of r begins an attempt of r or goes back to r
abbrev pub takes_up : ℕ → Selectors → Bool
takes_up r x = not (r == x.stable) || not (x.active == r)

-- a deploy takes the place of the newest revision, which was neither active nor stable
abbrev pub replaces_newest : Selectors → Bool
replaces_newest x = not (x.newest == x.active) && not (x.newest == x.stable)

-- a deploy supersedes the newest revision: it takes its place, and the newest revision is scaled
abbrev pub supersedes_newest : Selectors → Bool → Bool
supersedes_newest x scaled = replaces_newest x && scaled

-- a deploy of r goes back to the stable revision from another one
abbrev pub goes_back : ℕ → Selectors → Bool
goes_back r x = (r == x.stable) && not (x.active == r)

-- the marks after a deploy of r cleared the mark of r
abbrev pub cleared : ℕ → Selectors → List RevisionMark → List RevisionMark
cleared r x marks = if takes_up r x then marks_without r marks else marks

-- the marks after a deploy of r cleared the mark of r and superseded the newest revision, if it does
abbrev pub replaced : ℕ → Selectors → Bool → ℕ → List RevisionMark → List RevisionMark
replaced r x scaled at marks =
    if supersedes_newest x scaled then with_superseded x.newest at (cleared r x marks)
    else cleared r x marks

-- the marks after a deploy of r; `scaled` says whether the newest revision is scaled
abbrev pub deployed : ℕ → Selectors → Bool → ℕ → ℕ → List RevisionMark → List RevisionMark
deployed r x scaled at delay marks =
    if goes_back r x then with_left x.active (at + delay) (replaced r x scaled at marks)
    else replaced r x scaled at marks

-- the marks after an entry that halts the attempt
abbrev pub halted : Selectors → ℕ → ℕ → ℕ → List RevisionMark → List RevisionMark
halted x at delay abort_delay marks =
    if x.active == x.stable then with_aborted x.newest at abort_delay marks
    else if x.active == x.newest then
    with_aborted x.newest at abort_delay (marks_without x.stable marks)
    else
    with_left x.active (at + delay)
    (with_aborted x.newest at abort_delay (marks_without x.stable marks))

-- the marks after the active service switched to r
abbrev pub switched : ℕ → Selectors → ℕ → ℕ → List RevisionMark → List RevisionMark
switched r x at delay marks =
    if x.active == r then marks
    else with_left x.active (at + delay) (marks_without r marks)

-- the revision if the test holds, else none
abbrev pub only_if : Bool → ℕ → List ℕ
only_if b r = if b then r ∷ [] else []

-- the revisions that a deploy of r may mark: the newest one if the deploy takes its place, and the active one if the
-- deploy goes back to the stable one
abbrev pub marked_by_deploy : ℕ → Selectors → List ℕ
marked_by_deploy r x = only_if (replaces_newest x) x.newest ++ only_if (goes_back r x) x.active

-- the revisions that an entry may mark if it halts the attempt: the newest one and the active one
abbrev pub marked_by_halt : Selectors → List ℕ
marked_by_halt x = only_if (not (x.newest == x.active)) x.newest ++ x.active ∷ []

-- the revisions that an entry may mark
abbrev pub may_mark : Entry → Selectors → List ℕ
may_mark (Deploy r name ports) x = marked_by_deploy r x
may_mark (Outcome (Switched r)) x = x.active ∷ []
may_mark e x = if is_halt e then marked_by_halt x else []
