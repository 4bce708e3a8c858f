-- The entries that a past allows next.
use Rattle.std.specs.Prelude.{ℕ, Bool, false, not, if◌then◌else◌, ◌==◌, ◌+◌, ◌%◌, ◌^◌, ◌&&◌, nat_lt, nat_le, List, length, Option, Some, None, slice_index, is_none, is_some}
use Rattle.std.specs.List.{list_all}
use Rattle.bg_history.specs.declared.entry.Entry.{Entry}
use Rattle.bg_history.specs.declared.entry.Entry.TheVariants.{Tick, Deploy, Available, Verdict, Promote, PromoteFull, Abort, Retry, Enter, Leave, Outcome}
use Rattle.bg_history.specs.declared.entry.Outcome.TheVariants.{Ready, Resumed, Switched, Promoted, ScaledDown, Removed}
use Rattle.bg_revisions.specs.declared.revision.Service.{Service}
use Rattle.bg_revisions.specs.declared.revision.Service.TheVariants as service
use Rattle.bg_history.specs.declared.entry.Analysis.{Analysis}
use Rattle.bg_history.specs.declared.entry.Analysis.TheVariants.{Pre, Post}
use Rattle.bg_strategy.specs.declared.strategy.Strategy.{Strategy}
use Rattle.bg_history.specs.AttemptBounds.{moment, newest_of, is_running, is_halted}
use Rattle.bg_history.specs.Attempts.{has_promote_full}
use Rattle.bg_history.specs.Selections.{active_of, preview_of}
use Rattle.bg_history.specs.Sizes.{existing, last_number, desired, available}
use Rattle.bg_history.specs.Phases.{awaits_pre, is_paused, awaits_post}
use Rattle.bg_history.specs.Promotion.{may_be_ready, may_resume, may_switch, may_promote}
use Rattle.bg_history.specs.Requests.{Request, held_by, request_numbers}
use Rattle.bg_history.specs.Deadlines.{exists_in, may_scale_down, may_remove}
use Rattle.bg_history.specs.Kept.{Template, Opening}
use Rattle.bg_history.specs.Templates.{template, is_named, has_ports, namesake}
use Rattle.bg_strategy.specs.Label.{is_label}
use Rattle.bg_revisions.specs.PortLists.{are_ports}

-- the existing revision of the name is r and has these ports; or there is none, r is the next number, and fewer than
-- 64 revisions exist
abbrev pub fits_namesake : Opening → Option ℕ → ℕ → List ℕ → List Entry → Bool
fits_namesake o (Some q) r ports before = (q == r) && has_ports ports (template o q before)
fits_namesake o None r ports before =
    (r == last_number before + 1) && nat_lt (length (existing before)) 64

abbrev pub is_template : List ℕ → List ℕ → Option Template → Bool
is_template name ports t = is_named name t && has_ports ports t

abbrev pub may_deploy : Strategy → Opening → ℕ → List ℕ → List ℕ → List Entry → Bool
may_deploy s o r name ports before =
    is_label name && are_ports s.replicas ports
    && not (is_template name ports (template o (newest_of before) before))
    && fits_namesake o (namesake o name before) r ports before

-- the rollout waits for the verdict of this analysis
abbrev pub awaits : Analysis → Strategy → List Entry → Bool
awaits Pre s past = awaits_pre s past
awaits Post s past = awaits_post s past

abbrev pub selection : Strategy → Service → List Entry → Option ℕ
selection s service.Active past = Some (active_of past)
selection s service.Preview past =
    if is_some s.preview_service then Some (preview_of past)
    else None

abbrev pub has_value : ℕ → Option ℕ → Bool
has_value n None = false
has_value n (Some m) = m == n

abbrev pub port_in : Option Template → ℕ → ℕ → Option ℕ
port_in None number size = None
port_in (Some t) number size = Some (slice_index t.ports (number % size))

-- the port that a request of that number gets at r
abbrev pub port_of : Opening → ℕ → ℕ → List Entry → Option ℕ
port_of o r number past = port_in (template o r past) number (available r past)

abbrev pub may_enter : Strategy → Opening → ℕ → Service → ℕ → ℕ → ℕ → List Entry → Bool
may_enter s o seat service number r port before =
    nat_lt seat o.seats && is_none (held_by seat before) && has_value r (selection s service before)
    && nat_le 1 (available r before) && list_all (λ n. nat_lt n number) (request_numbers before)
    && has_value port (port_of o r number before)

abbrev pub holds : ℕ → ℕ → Option Request → Bool
holds number r None = false
holds number r (Some q) = (q.number == number) && (q.revision == r)

-- the entries before it allow the entry
abbrev pub is_allowed : Strategy → Opening → Entry → List Entry → Bool
is_allowed s o (Tick m) before = nat_le (moment before) m && nat_le m (2 ^ 53)
is_allowed s o (Deploy r name ports) before = may_deploy s o r name ports before
is_allowed s o (Available r n) before = exists_in r before && nat_le n (desired s r before)
is_allowed s o (Verdict analysis finding) before = awaits analysis s before
is_allowed s o Promote before = is_paused s before
is_allowed s o PromoteFull before = is_running before && not (has_promote_full before)
is_allowed s o Abort before = is_running before
is_allowed s o Retry before = is_halted before
is_allowed s o (Enter seat service number r port) before =
    may_enter s o seat service number r port before
is_allowed s o (Leave seat number r) before = holds number r (held_by seat before)
is_allowed s o (Outcome (Ready r)) before = may_be_ready s r before
is_allowed s o (Outcome (Resumed r)) before = may_resume s r before
is_allowed s o (Outcome (Switched r)) before = may_switch s r before
is_allowed s o (Outcome (Promoted r)) before = may_promote s r before
is_allowed s o (Outcome (ScaledDown r)) before = may_scale_down s r before
is_allowed s o (Outcome (Removed r)) before = may_remove s r before
