-- The ports at which the switch itself listens at the address of the endpoints.
use Rattle.std.specs.Prelude.{◌==◌, ◌||◌, ℕ, Bool, Option, false}
use Rattle.std.specs.Option.{option_map_or}
use Rattle.bg_endpoints.specs.declared.own_ports.OwnPorts.{OwnPorts}

-- the port is there, and is this one
abbrev pub is_at : Option ℕ → ℕ → Bool
is_at own port = option_map_or (λ p. p == port) own false

-- the port is that of the active service, the control port, or that of the preview service
abbrev pub is_own : OwnPorts → ℕ → Bool
is_own own port = is_at own.active port || is_at own.control port || is_at own.preview port
