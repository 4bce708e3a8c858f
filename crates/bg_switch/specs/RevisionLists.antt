-- Which lists of ports a directory of endpoints gets from a book.
use Rattle.std.specs.Prelude.{◌≡◌, Bool, ◌||◌, nat_lt, List, map, filter}
use Rattle.bg_endpoints.specs.Lists.{RevisionPorts, listed, shown}
use Rattle.bg_endpoints.specs.declared.port_lists.PortLists.{PortLists}
use Rattle.bg_revisions.specs.declared.revision.Revision.{Revision}
use Rattle.bg_rollout.specs.Routing.{Routing}
use Rattle.bg_rollout.specs.State.{open_count_at}

-- endpoints of the revision are desired, or requests are open there
abbrev pub is_in_use : Routing → Revision → Bool
is_in_use b r = nat_lt 0 r.desired || nat_lt 0 (open_count_at b.running r.number)

-- the ports of a revision, in order, and how many of its endpoints are available
abbrev pub ports_of : Revision → RevisionPorts
ports_of r = record { ports = r.ports; available = r.available }

-- the ports of those of these revisions that are in use
abbrev pub ports_in_use : Routing → List Revision → List RevisionPorts
ports_in_use b revisions = map ports_of (filter (is_in_use b) revisions)

-- the existing revisions, in ascending order of their numbers
abbrev pub revisions_of : Routing → List Revision
revisions_of b = map (λ v. v.revision) b.running.revisions

-- what the lists say
abbrev pub shown_lists : PortLists → List RevisionPorts
shown_lists l = map shown (listed l)

-- there is a list for each existing revision that is in use, in ascending order of the numbers, and no other list
abbrev pub AreListsOf : Routing → PortLists → Type 0
AreListsOf b l = shown_lists l ≡ ports_in_use b (revisions_of b)
