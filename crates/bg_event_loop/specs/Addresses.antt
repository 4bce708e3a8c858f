-- The usual address of endpoints.
use Rattle.std.specs.Prelude.{◌≡◌, [], ◌∷◌}
use Rattle.std.specs.Net.Addr.{IsV4And, ipv4_octets}
use Rattle.std.specs.declared.net.ip_addr.IpAddr.{IpAddr}

-- the address is 127.0.0.1
abbrev pub IsLocalhost : IpAddr → Type 0
IsLocalhost a = IsV4And a (λ ip. ipv4_octets ip ≡ 127 ∷ 0 ∷ 0 ∷ 1 ∷ [])
