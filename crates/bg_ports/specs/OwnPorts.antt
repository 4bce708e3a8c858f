-- The ports of the switch at the address of the endpoints.
use Rattle.std.specs.Prelude.{◌≡◌, ◌⊎◌, ℕ, Any, Bool, IsTrue, Option, None, Some}
use Rattle.std.specs.declared.net.ip_addr.IpAddr.{IpAddr}
use Rattle.bg_command_line.specs.Addresses.{IsLocalhost, IsUnspecified}
use Rattle.bg_command_line.specs.ListenAddresses.{AreOfOneFamily, listed}
use Rattle.bg_command_line.specs.declared.invocation.ServeSettings.{ServeSettings}
use Rattle.bg_endpoints.specs.declared.own_ports.OwnPorts.{OwnPorts}

-- the port is there if the switch listens there
abbrev pub IsThereIf : Type 0 → Option ℕ → Option ℕ → Type 0
IsThereIf listens port own = (listens → own ≡ port) × ((listens → ⊥) → own ≡ None)

-- a listener at the first address takes the connections to the second one: the two are the same, or the first one is the wildcard
-- of the family of both and the second one is of this machine
abbrev pub Takes : IpAddr → IpAddr → Bool → Type 0
Takes own address is_here = (own ≡ address) ⊎ (IsTrue is_here × IsUnspecified own × AreOfOneFamily own address)

-- a client port takes the connections to the address of the endpoints, which is of this machine or not
abbrev pub TakesClients : ServeSettings → Bool → Type 0
TakesClients settings is_here = Any (λ own. Takes own settings.endpoint_address is_here) (listed settings.listen)

-- the ports of the switch at the address of the endpoints; the control port is at 127.0.0.1
pub record AreOwnPorts (settings : ServeSettings) (is_here : Bool) (own : OwnPorts) : Type 0 where
  pub active : IsThereIf (TakesClients settings is_here) (Some settings.active) own.active
  pub preview : IsThereIf (TakesClients settings is_here) settings.preview own.preview
  pub control : IsThereIf (IsLocalhost settings.endpoint_address) settings.control own.control
