-- Addresses as C's sockaddr_in and sockaddr_in6.
use Rattle.std.specs.Prelude.{◌/◌, ◌%◌, ℕ, List, [], ◌∷◌, ◌++◌, replicate}
use Rattle.std.specs.Net.Addr.{ipv4_octets, ipv6_octets}
use Rattle.std.specs.declared.net.ip_addr.IpAddr.{IpAddr}
use Rattle.std.specs.declared.net.ip_addr.IpAddr.TheVariants.{V4, V6}

-- the family of an address, in C's numbers
abbrev pub family_of : IpAddr → ℕ
family_of (V4 ip) = 2
family_of (V6 ip) = 10

-- the family in the machine's order, and the port, highest byte first
abbrev pub family_and_port : ℕ → ℕ → List ℕ
family_and_port family port = family ∷ 0 ∷ port / 256 ∷ port % 256 ∷ []

-- a port of an address, and zeros up to the size of C's sockaddr_storage. In an IPv6 address, zeros stand for the flow
-- information before its octets and for the scope after them
abbrev pub socket_address : IpAddr → ℕ → List ℕ
socket_address (V4 ip) port = family_and_port 2 port ++ ipv4_octets ip ++ replicate 120 0
socket_address (V6 ip) port = family_and_port 10 port ++ replicate 4 0 ++ ipv6_octets ip ++ replicate 104 0

-- the number of bytes of C's struct for the family
abbrev pub length_of : IpAddr → ℕ
length_of (V4 ip) = 16
length_of (V6 ip) = 28
