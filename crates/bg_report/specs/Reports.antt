-- How a report is written.
use Rattle.std.specs.Prelude.{ℕ, Bool, List, [], ◌++◌, length, codes, Option, Some, None, if◌then◌else◌}
use Rattle.std.specs.List.{flat_map}
use Rattle.std.specs.Option.{option_map_or}
use Rattle.std.specs.Fmt.{decimal}
use Rattle.bg_revisions.specs.declared.revision.Revision.{Revision}
use Rattle.bg_revisions.specs.declared.revision.Selectors.{Selectors}
use Rattle.bg_history.specs.AttemptBounds.{moment}
use Rattle.bg_history.specs.Requests.{open_at}
use Rattle.bg_history.specs.Deadlines.{deadline}
use Rattle.bg_promotion.specs.Phases.{phase_of}
use Rattle.bg_promotion.specs.PhaseNames.{phase_name}
use Rattle.bg_history.specs.Selections.{selectors_of}
use Rattle.bg_rollout.specs.Routing.{Routing}
use Rattle.bg_history_laws.specs.Listed.{revisions_of}
use Rattle.bg_rollout.specs.PastState.{is_draining, is_past_limit}

-- a word, and its number
abbrev pub number_line : List ℕ → ℕ → List ℕ
number_line word n = word ++ codes " " ++ decimal n ++ codes "\n"

-- the selected revisions
abbrev pub selectors_text : Selectors → List ℕ
selectors_text s =
    number_line (codes "active") s.active
    ++ number_line (codes "preview") s.preview
    ++ number_line (codes "stable") s.stable
    ++ number_line (codes "newest") s.newest

-- the state of the rollout; each book is in a phase, which has a name
abbrev pub state_text : Routing → List ℕ
state_text b =
    number_line (codes "moment") (moment b.past)
    ++ codes "phase " ++ option_map_or phase_name (phase_of b.strategy b.past) [] ++ codes "\n"
    ++ selectors_text (selectors_of b.past)

-- a deadline, or `none`
abbrev pub deadline_text : Option ℕ → List ℕ
deadline_text None = codes "none"
deadline_text (Some at) = decimal at

-- the mark of a revision that waits only for its open requests
abbrev pub draining_text : Bool → List ℕ
draining_text draining = if draining then codes " draining" else codes ""

-- the mark of a revision whose requests are given up
abbrev pub cut_text : Bool → List ℕ
cut_text past_limit = if past_limit then codes " cut" else codes ""

-- a word, and its value
abbrev pub told : List ℕ → List ℕ → List ℕ
told word value = word ++ codes " " ++ value

-- a revision, and its sizes
abbrev pub sizes_text : Revision → List ℕ
sizes_text r =
    told (codes "revision") (decimal r.number) ++ (codes " " ++ r.name)
    ++ told (codes " desired") (decimal r.desired)
    ++ told (codes " available") (decimal r.available)

-- the open requests of revision r, and the moment from which it may be scaled down
abbrev pub traffic_text : Routing → ℕ → List ℕ
traffic_text b r =
    codes " open " ++ decimal (length (open_at r b.past))
    ++ codes " deadline " ++ deadline_text (deadline b.strategy r b.past)
    ++ draining_text (is_draining b.strategy r b.past)
    ++ cut_text (is_past_limit b.strategy r b.past) ++ codes "\n"

-- the line of a revision
abbrev pub revision_line : Routing → Revision → List ℕ
revision_line b r = sizes_text r ++ traffic_text b r.number

-- the lines of the revisions, in order of number
abbrev pub revision_lines : Routing → List ℕ
revision_lines b = flat_map (revision_line b) (revisions_of b.strategy b.opening b.past)

-- the report
abbrev pub report_text : Routing → List ℕ
report_text b = state_text b ++ revision_lines b ++ codes "end\n"
