-- The lists of the revisions' ports.
use Rattle.std.specs.Prelude.{ℕ, Bool, ◌==◌, if◌then◌else◌, nat_lt, count_by, length, List, Option, None, unwrap_or}
use Rattle.std.specs.List.{find, list_any, position}
use Rattle.bg_endpoints.specs.declared.port_lists.PortList.{PortList}
use Rattle.bg_endpoints.specs.declared.port_lists.PortLists.{PortLists}

-- the ports of a revision, in order, and how many of its endpoints are available
pub record RevisionPorts : Type 0 where
  pub ports : List ℕ
  pub available : ℕ

-- what a list says
abbrev pub shown : PortList → RevisionPorts
shown l = record { ports = l.ports.items; available = l.available }

-- the lists, in the order in which they were added
abbrev pub listed : PortLists → List PortList
listed l = l.lists.items

-- the port is one of the list
abbrev pub has_port : ℕ → PortList → Bool
has_port port l = list_any (λ own. own == port) l.ports.items

-- the place of a port among these; their number if it is none of them
abbrev pub place_of : ℕ → List ℕ → ℕ
place_of port ports = unwrap_or (position (λ p. p == port) ports) (length ports)

-- the port is one of the first n of its revision, of which n endpoints are available: requests get these as their slots
abbrev pub has_slot : ℕ → PortList → Bool
has_slot port l = nat_lt (place_of port l.ports.items) l.available

-- the port is in exactly one of the lists
abbrev pub is_in_one_list : ℕ → List PortList → Bool
is_in_one_list port lists = count_by (λ l. has_port port l) lists == 1

-- the list that has the port; none if no list or several lists have it
abbrev pub only_list : ℕ → List PortList → Option PortList
only_list port lists = if is_in_one_list port lists then find (λ l. has_port port l) lists else None
