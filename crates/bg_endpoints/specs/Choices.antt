-- Which port is dialled next.
use Rattle.std.specs.Prelude.{ℕ, Bool, true, not, ◌==◌, ◌&&◌, ◌||◌, if◌then◌else◌, min, nat_le, nat_lt, count_by, drop, take}
use Rattle.std.specs.Prelude.{List, Option, Some, None}
use Rattle.std.specs.List.{find, list_any}
use Rattle.std.specs.Option.{option_or}
use Rattle.bg_endpoints.specs.Lists.{has_slot, is_in_one_list, listed, only_list, place_of}
use Rattle.bg_endpoints.specs.Shares.{share_of}
use Rattle.bg_endpoints.specs.States.{state_of}
use Rattle.bg_endpoints.specs.declared.port_lists.PortList.{PortList}
use Rattle.bg_endpoints.specs.declared.table.Choice.{Choice}
use Rattle.bg_endpoints.specs.declared.table.Choice.TheVariants as choice
use Rattle.bg_endpoints.specs.declared.table.Table.{Table}
use Rattle.bg_endpoints.specs.declared.table.Criteria.{Criteria}

-- the port is none of those that were tried
abbrev pub is_new : ℕ → List ℕ → Bool
is_new port tried = not (list_any (λ other. other == port) tried)

-- the port is down
abbrev pub is_down : Table → ℕ → Bool
is_down t port = list_any (λ d. d == port) t.down.items

-- the number of these ports that are not down
abbrev pub count_not_down : Table → List ℕ → ℕ
count_not_down t ports = count_by (λ port. not (is_down t port)) ports

-- the port is up: n endpoints of the revision are available, and they are the first n that are not down
abbrev pub is_up : Table → PortList → ℕ → Bool
is_up t l port =
    not (is_down t port)
    && nat_lt (count_not_down t (take (place_of port l.ports.items) l.ports.items)) l.available

-- a request may be dialled at the port: it is the ticket's, a slot of other requests, or up
abbrev pub takes_part : Table → PortList → ℕ → ℕ → Bool
takes_part t l ticket port = port == ticket || has_slot port l || is_up t l port

-- the port is neither down nor marked
abbrev pub is_healthy : Table → ℕ → ℕ → Bool
is_healthy t now port = not (is_down t port) && nat_le (state_of t.states.items port).marked_until now

-- what a choice asks of a port that takes part and was not tried
abbrev pub allows : Table → Criteria → Choice → ℕ → Bool
allows t criteria choice.Any port = true
allows t criteria choice.Unmarked port = is_healthy t criteria.now port
allows t criteria choice.Free port =
    is_healthy t criteria.now port && nat_lt (state_of t.states.items port).requests criteria.limit

-- the port was not tried, is in one list only, takes part, and is allowed
abbrev pub passes : Table → PortList → List ℕ → Criteria → ℕ → Bool
passes t l tried criteria port =
    is_new port tried && is_in_one_list port (listed t.lists) && takes_part t l criteria.ticket port
    && allows t criteria criteria.choice port

-- the first of these ports that passes, from the ticket's on, wrapping round
abbrev pub first_from : ℕ → (ℕ → Bool) → List ℕ → Option ℕ
first_from ticket test ports =
    option_or (find test (drop (place_of ticket ports) ports)) (find test (take (place_of ticket ports) ports))

-- the first of the list that passes
abbrev pub first_by : Table → PortList → List ℕ → Criteria → Option ℕ
first_by t l tried criteria = first_from criteria.ticket (passes t l tried criteria) l.ports.items

-- the ticket's port, unless it was tried
abbrev pub alone_choice : ℕ → List ℕ → Option ℕ
alone_choice ticket tried = if is_new ticket tried then Some ticket else None

-- the number of requests at a time from which a port of the list is not free: a share of the endpoints that are up
abbrev pub limit_of : Table → PortList → ℕ
limit_of t l = share_of t.share (min (count_not_down t l.ports.items) l.available)

-- a free port of the list, or else an unmarked one, or else any one that takes part
abbrev pub chosen_of : Table → PortList → List ℕ → Criteria → Option ℕ
chosen_of t l tried criteria =
    option_or (option_or (first_by t l tried (record criteria { choice = choice.Free }))
    (first_by t l tried (record criteria { choice = choice.Unmarked })))
    (first_by t l tried (record criteria { choice = choice.Any }))

-- what a port of a list has to meet to be free
abbrev pub free_criteria : Table → ℕ → ℕ → PortList → Criteria
free_criteria t ticket now l = record {
  ticket = ticket;
  choice = choice.Free;
  now = now;
  limit = limit_of t l;
}

-- the choice from a list
abbrev pub chosen_from : Table → ℕ → List ℕ → ℕ → PortList → Option ℕ
chosen_from t ticket tried now l = chosen_of t l tried (free_criteria t ticket now l)

-- the choice by the list that has the ticket's port, if there is one
abbrev pub chosen_by : Table → ℕ → List ℕ → ℕ → Option PortList → Option ℕ
chosen_by t ticket tried now None = alone_choice ticket tried
chosen_by t ticket tried now (Some l) = chosen_from t ticket tried now l

-- the port that is dialled next for a ticket's port
abbrev pub chosen : Table → ℕ → List ℕ → ℕ → Option ℕ
chosen t ticket tried now = chosen_by t ticket tried now (only_list ticket (listed t.lists))
