-- The addresses that the words give.
use Rattle.std.specs.Prelude.{◌≡◌, ◌⊎◌, Option, Some, None, codes, List, [], ◌∷◌}
use Rattle.std.specs.Net.Addr.{IsCanonicalOf, IsUnspecifiedV4, IsUnspecifiedV6, IsV4And, MatchIp, ipv4_octets}
use Rattle.std.specs.Net.Grammar.{IsIpText}
use Rattle.std.specs.declared.net.ip_addr.IpAddr.{IpAddr}
use Rattle.std.specs.declared.net.ip_addr.IpAddr.TheVariants.{V4, V6}
use Rattle.clap.specs.Words.{Row, Text, first_of}
use Rattle.bg_command_line.specs.declared.addresses.AddressFault.{AddressFault}
use Rattle.bg_command_line.specs.declared.addresses.AddressFault.TheVariants.{NoAddress, NoDestination}

-- an IPv6 address that is IPv4-mapped (RFC 4291 section 2.5.5.2) stands for the IPv4 address in it, and any other address for
-- itself
abbrev pub StandsFor : IpAddr → IpAddr → Type 0
StandsFor (V4 ip) a = a ≡ V4 ip
StandsFor (V6 ip) a = IsCanonicalOf ip a

-- the text writes an address that stands for this one
abbrev pub IsAddressText : Text → IpAddr → Type 0
IsAddressText text a = (written : IpAddr) × IsIpText text written × StandsFor written a

-- the text writes no address
abbrev pub HasNoAddress : Text → Type 0
HasNoAddress text = (a : IpAddr) → IsAddressText text a → ⊥

-- the address is 0.0.0.0 or `::`
abbrev pub IsUnspecified : IpAddr → Type 0
IsUnspecified a = MatchIp a IsUnspecifiedV4 IsUnspecifiedV6

-- the text writes an address to which connections can be opened
abbrev pub IsDestination : Text → IpAddr → Type 0
IsDestination text a = IsAddressText text a × (IsUnspecified a → ⊥)

-- the text writes an address to which no connection can be opened
abbrev pub IsNoDestination : Text → Type 0
IsNoDestination text = (a : IpAddr) × IsAddressText text a × IsUnspecified a

-- why a text is no address of endpoints
abbrev pub IsFaultOf : Text → AddressFault → Type 0
IsFaultOf text (NoAddress written) = (written.now ≡ text) × HasNoAddress text
IsFaultOf text (NoDestination written) = (written.now ≡ text) × IsNoDestination text

-- the address is 127.0.0.1
abbrev pub IsLocalhost : IpAddr → Type 0
IsLocalhost a = IsV4And a (λ ip. ipv4_octets ip ≡ 127 ∷ 0 ∷ 0 ∷ 1 ∷ [])

-- the address of the endpoints: that of `--endpoint-address`, or 127.0.0.1
abbrev pub IsEndpointAddressOf : Option Text → IpAddr → Type 0
IsEndpointAddressOf None a = IsLocalhost a
IsEndpointAddressOf (Some text) a = IsDestination text a

-- the same, as the arguments give it
abbrev pub IsEndpointAddress : List Row → IpAddr → Type 0
IsEndpointAddress rows a = IsEndpointAddressOf (first_of (codes "endpoint-address") rows) a

-- why `--endpoint-address` gives no address of endpoints
abbrev pub IsEndpointFault : List Row → AddressFault → Type 0
IsEndpointFault rows fault = (text : Text) × (first_of (codes "endpoint-address") rows ≡ Some text) × IsFaultOf text fault

-- `--endpoint-address` is given with a text that writes no address, or one to which no connection can be opened
abbrev pub HasBadEndpointAddress : List Row → Type 0
HasBadEndpointAddress rows = (text : Text) × (first_of (codes "endpoint-address") rows ≡ Some text)
    × (HasNoAddress text ⊎ IsNoDestination text)
