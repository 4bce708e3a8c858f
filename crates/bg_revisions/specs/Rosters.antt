-- The revisions that exist, in ascending order of their numbers.
use Rattle.std.specs.Prelude.{◌≡◌, ◌≤◌, ◌<◌, ℕ, Bool, true, false, if◌then◌else◌, ◌==◌, ◌&&◌, nat_le, List, [], ◌∷◌, length, find, Option, Some, None, Result, Ok, Err}
use Rattle.std.specs.Str.{bytes_eq}
use Rattle.bg_strategy.specs.Label.{is_label}
use Rattle.bg_revisions.specs.PortLists.{are_ports}
use Rattle.bg_revisions.specs.declared.revision.Revision.{Revision}
use Rattle.bg_revisions.specs.declared.revision_fault.RevisionFault.{RevisionFault}
use Rattle.bg_revisions.specs.declared.revision_fault.RevisionFault.TheVariants.{BadName, BadPorts, SameTemplate, PortsDiffer, TooManyRevisions, NoSuchRevision, MoreThanDesired, OutOfMemory}

-- the number of endpoints of a revision at full size, the revisions, and the greatest number ever given
pub record Listing : Type 0 where
  pub replicas : ℕ
  pub revisions : List Revision
  pub last : ℕ

-- the revision of that number
abbrev pub numbered : ℕ → List Revision → Option Revision
numbered number revisions = find (λ v. v.number == number) revisions

-- the revision of that name
abbrev pub named : List ℕ → List Revision → Option Revision
named name revisions = find (λ v. bytes_eq v.name name) revisions

-- the name is a label, and the ports are distinct, one for each replica
abbrev pub is_well_formed : ℕ → List ℕ → List ℕ → Bool
is_well_formed replicas name ports = is_label name && are_ports replicas ports

-- the answer to a name and ports: `BadName` if the name is not a label; else `BadPorts` if the ports are wrong
abbrev pub well_formed : ℕ → List ℕ → List ℕ → Result (Unit {0}) RevisionFault
well_formed replicas name ports =
    if is_label name
    then (if are_ports replicas ports then Ok tt else Err BadPorts)
    else Err BadName

-- there is a revision with this name and these ports
abbrev pub has_template : List ℕ → List ℕ → Option Revision → Bool
has_template name ports None = false
has_template name ports (Some v) = bytes_eq v.name name && bytes_eq v.ports ports

-- the number of the revision, or none if there is no revision; a fault if the revision has other ports
abbrev pub namesake_of : List ℕ → Option Revision → Result (Option ℕ) RevisionFault
namesake_of ports None = Ok None
namesake_of ports (Some v) = if bytes_eq v.ports ports then Ok (Some v.number) else Err PortsDiffer

-- the answer to a template: a fault if it is the newest revision's; else the number of the revision of that name, a
-- fault if that has other ports
abbrev pub template_of : ℕ → List ℕ → List ℕ → List Revision → Result (Option ℕ) RevisionFault
template_of newest name ports revisions =
    if has_template name ports (numbered newest revisions) then Err SameTemplate
    else namesake_of ports (named name revisions)

-- the fault if a revision isn't added
abbrev pub refused_by : List Revision → RevisionFault
refused_by revisions = if nat_le 64 (length revisions) then TooManyRevisions else OutOfMemory

-- the revision of that number then wants n endpoints; if n is 0, it has none available
abbrev pub resized : ℕ → ℕ → Revision → Revision
resized number n v =
    if v.number == number then record v {
      desired = n;
      available = (if n == 0 then 0 else v.available);
    }
    else v

-- the revision of that number then has n endpoints available
abbrev pub reported : ℕ → ℕ → Revision → Revision
reported number n v = if v.number == number then record v { available = n } else v

-- the answer to a report of n endpoints: a fault if no revision has the number or if it wants fewer than n
abbrev pub report_of : ℕ → Option Revision → Result (Unit {0}) RevisionFault
report_of n None = Err NoSuchRevision
report_of n (Some v) = if nat_le n v.desired then Ok tt else Err MoreThanDesired

-- each number is above the one before it, the first above `low`, and none is above `last`
abbrev pub AscendsWithin : ℕ → ℕ → List Revision → Type 0
AscendsWithin low last [] = low ≤ last
AscendsWithin low last (v ∷ more) = (low < v.number) × AscendsWithin v.number last more

-- no two revisions have the same name
abbrev pub HasOwnNames : List Revision → Type 0
HasOwnNames [] = Unit {0}
HasOwnNames (v ∷ more) = (named v.name more ≡ None) × HasOwnNames more

-- each revision's name and ports are well formed
abbrev pub AreWellFormed : ℕ → List Revision → Type 0
AreWellFormed replicas [] = Unit {0}
AreWellFormed replicas (v ∷ more) = (is_well_formed replicas v.name v.ports ≡ true) × AreWellFormed replicas more

-- the invariant of a roster
pub record IsRoster (r : Listing) : Type 0 where
  pub few : length r.revisions ≤ 64
  pub ascends : AscendsWithin 0 r.last r.revisions
  pub own_names : HasOwnNames r.revisions
  pub well_formed : AreWellFormed r.replicas r.revisions
