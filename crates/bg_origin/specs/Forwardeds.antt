-- The value of a Forwarded field (RFC 7239).
use Rattle.std.specs.Prelude.{ℕ, if◌then◌else◌, ◌==◌, ◌||◌, List, [], ◌∷◌, ◌++◌, flat_map, codes, Option, Some, None}
use Rattle.std.specs.Net.Text.{ip_text}
use Rattle.std.specs.declared.net.ip_addr.IpAddr.{IpAddr}
use Rattle.std.specs.declared.net.ip_addr.IpAddr.TheVariants as ip

-- the address of a client; `unknown` if the system did not give it (section 6.2)
abbrev pub client_text : Option IpAddr → List ℕ
client_text None = codes "unknown"
client_text (Some address) = ip_text address

-- the same as a node: an IPv6 address stands in brackets, in a quoted string (section 6.1)
abbrev pub node_of : IpAddr → List ℕ
node_of (ip.V4 address) = ip_text (ip.V4 address)
node_of (ip.V6 address) = codes "\"[" ++ ip_text (ip.V6 address) ++ codes "]\""

abbrev pub node_text : Option IpAddr → List ℕ
node_text None = codes "unknown"
node_text (Some address) = node_of address

-- a byte of a quoted string: a quotation mark or a backslash has a backslash before it (RFC 9110 section 5.6.4)
abbrev pub quoted_byte : ℕ → List ℕ
quoted_byte byte = if (byte == 34) || (byte == 92) then 92 ∷ byte ∷ [] else byte ∷ []

abbrev pub quoted : List ℕ → List ℕ
quoted text = flat_map quoted_byte text

-- the Host of the request, if it has one
abbrev pub host_part : Option (List ℕ) → List ℕ
host_part None = []
host_part (Some host) = codes ";host=\"" ++ quoted host ++ codes "\""

-- the element that this proxy adds: the node, the Host and the scheme
abbrev pub forwarded_value : Option IpAddr → Option (List ℕ) → List ℕ
forwarded_value client host = codes "for=" ++ node_text client ++ host_part host ++ codes ";proto=http"
