-- What the journal begins with that takes the place of another one.
use Rattle.std.specs.Prelude.{◌≡◌, ℕ, List, Option, Some, None}
use Rattle.bg_strategy.specs.declared.strategy.Strategy.{Strategy}
use Rattle.bg_history.specs.declared.entry.Entry.{Entry}
use Rattle.bg_ledger.specs.declared.holding.Holding.{Holding}
use Rattle.bg_revisions.specs.declared.revision.Revision.{Revision}
use Rattle.bg_rollout.specs.Routing.{Routing}
use Rattle.bg_rollout.specs.State.{revision_at}
use Rattle.bg_script.specs.declared.answering.FirstRevision.{FirstRevision}
use Rattle.bg_switch.specs.Resumed.{IsResumed}

-- the name and the ports are those of the book's stable revision
pub record IsStableIn (book : Routing) (first : FirstRevision) : Type 0 where
  pub place : ℕ
  pub revision : Revision
  pub at : revision_at book.running place ≡ Some revision
  pub number : revision.number ≡ book.running.selectors.stable
  pub name : first.name ≡ revision.name
  pub ports : first.ports ≡ revision.ports

-- the revision that is stable in the book with one seat that is resumed from the entries of a journal and its first revision
abbrev pub IsStableAtEnd : Strategy → FirstRevision → List Entry → FirstRevision → Type 0
IsStableAtEnd s first entries stable = (records : List Holding) × ((book : Routing)
    × (IsResumed s first 1 entries records book × IsStableIn book stable))

-- these ports, or else those that the revision has
abbrev pub ports_from_now : Option (List ℕ) → FirstRevision → List ℕ
ports_from_now None first = first.ports
ports_from_now (Some ports) first = ports
