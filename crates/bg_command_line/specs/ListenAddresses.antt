-- The addresses at which the client ports listen.
use Rattle.std.specs.Prelude.{◌≡◌, ◌≢◌, ◌<◌, ◌≤◌, ◌⊎◌, List, [], ◌∷◌, ◌++◌, All, AllPairs, Any, codes, length, take, unwrap_or}
use Rattle.std.specs.List.{AllZip}
use Rattle.std.specs.declared.net.ip_addr.IpAddr.{IpAddr}
use Rattle.std.specs.declared.net.ip_addr.IpAddr.TheVariants.{V4, V6}
use Rattle.clap.specs.Words.{Row, Text, all_of}
use Rattle.bg_command_line.specs.Addresses.{HasNoAddress, IsAddressText, IsLocalhost, IsUnspecified}
use Rattle.bg_command_line.specs.declared.listen_addresses.ListenAddresses.{ListenAddresses}
use Rattle.bg_command_line.specs.declared.listen_addresses.ListenFault.{ListenFault}
use Rattle.bg_command_line.specs.declared.listen_addresses.ListenReason.{ListenReason}
use Rattle.bg_command_line.specs.declared.listen_addresses.ListenReason.TheVariants.{BesideWildcard, NoAddress, TooMany, Twice}

-- the addresses, in order
abbrev pub listed : ListenAddresses → List IpAddr
listed addresses = take addresses.count addresses.items

-- both addresses are IPv4 addresses, or both are IPv6 addresses
abbrev pub AreOfOneFamily : IpAddr → IpAddr → Type 0
AreOfOneFamily (V4 a) (V4 b) = Unit {0}
AreOfOneFamily (V6 a) (V6 b) = Unit {0}
AreOfOneFamily (V4 a) (V6 b) = ⊥
AreOfOneFamily (V6 a) (V4 b) = ⊥

-- a port cannot be bound at both addresses: they are the same, or one is the wildcard of the family of both
abbrev pub AreInConflict : IpAddr → IpAddr → Type 0
AreInConflict a b = (a ≡ b) ⊎ (AreOfOneFamily a b × (IsUnspecified a ⊎ IsUnspecified b))

-- the texts write these addresses, at most eight, of which no two are in conflict
pub record AreWritten (texts : List Text) (addresses : List IpAddr) : Type 0 where
  pub written : AllZip IsAddressText texts addresses
  pub apart : AllPairs (λ a b. AreInConflict a b → ⊥) addresses
  pub few : length addresses ≤ 8

-- the addresses that the texts write, or 127.0.0.1 alone if there are no texts
abbrev pub AreListenAddresses : List Text → List IpAddr → Type 0
AreListenAddresses [] addresses = (a : IpAddr) × (addresses ≡ a ∷ []) × IsLocalhost a
AreListenAddresses (text ∷ texts) addresses = AreWritten (text ∷ texts) addresses

-- the text writes this address, which may stand after the others
abbrev pub IsNextAddress : List IpAddr → Text → IpAddr → Type 0
IsNextAddress before text next =
    (length before < 8) × IsAddressText text next × All (λ other. AreInConflict other next → ⊥) before

-- why the second address cannot stand after the first one, as far as that is due to the two
abbrev pub IsConflictOf : IpAddr → IpAddr → ListenReason → Type 0
IsConflictOf other address Twice = other ≡ address
IsConflictOf other address (BesideWildcard wildcard) = (other ≢ address) × AreOfOneFamily other address
    × ((wildcard ≡ other) ⊎ (wildcard ≡ address)) × IsUnspecified wildcard
IsConflictOf other address NoAddress = ⊥
IsConflictOf other address TooMany = ⊥

-- why the address cannot stand after one of the others
abbrev pub IsConflictWith : List IpAddr → IpAddr → ListenReason → Type 0
IsConflictWith before address reason = Any (λ other. IsConflictOf other address reason) before

-- the text writes an address that cannot stand after one of the others
abbrev pub HasConflict : List IpAddr → Text → ListenReason → Type 0
HasConflict before text reason = (length before < 8)
    × ((address : IpAddr) × IsAddressText text address × IsConflictWith before address reason)

-- why the text cannot stand after those that wrote these addresses
abbrev pub IsReasonAt : List IpAddr → Text → ListenReason → Type 0
IsReasonAt before text TooMany = 8 ≤ length before
IsReasonAt before text NoAddress = (length before < 8) × HasNoAddress text
IsReasonAt before text Twice = HasConflict before text Twice
IsReasonAt before text (BesideWildcard wildcard) = HasConflict before text (BesideWildcard wildcard)

-- the text has a fault after those that wrote these addresses
abbrev pub IsFaultAt : List IpAddr → Text → ListenFault → Type 0
IsFaultAt before text fault = (fault.text.now ≡ text) × IsReasonAt before text fault.reason

-- the first of the texts that has a fault has this one
pub record IsFirstFault (texts : List Text) (fault : ListenFault) : Type 0 where
  pub before : List Text
  pub text : Text
  pub after : List Text
  pub addresses : List IpAddr
  pub is : texts ≡ before ++ text ∷ after
  pub written : AreWritten before addresses
  pub has_fault : IsFaultAt addresses text fault

-- the texts of `--listen`, in the order of the words
abbrev pub listen_texts : List Row → List Text
listen_texts rows = unwrap_or (all_of (codes "listen") rows) []
