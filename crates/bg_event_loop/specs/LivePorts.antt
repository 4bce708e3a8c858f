-- The ports of the revisions that are not scaled down.
use Rattle.std.specs.Prelude.{◌≡◌, ◌==◌, ◌&&◌, ℕ, Bool, false, nat_lt, List, map, slice_get}
use Rattle.std.specs.Option.{option_map_or}
use Rattle.std.specs.List.{list_any}
use Rattle.bg_book.specs.Headline.{Headline}
use Rattle.bg_revisions.specs.declared.revision.Revision.{Revision}
use Rattle.bg_rollout.specs.Routing.{Routing}

-- endpoints of the revision are desired, and one of them has the port
abbrev pub has_live_port : ℕ → Revision → Bool
has_live_port port r = nat_lt 0 r.desired && list_any (λ own. own == port) r.ports

-- the existing revisions, in ascending order of their numbers
abbrev pub revisions_of : Routing → List Revision
revisions_of b = map (λ v. v.revision) b.running.revisions

-- there is a revision at the place, which is not scaled down and has the port
abbrev pub is_live_at : Routing → ℕ → ℕ → Bool
is_live_at b place port = option_map_or (has_live_port port) (slice_get (revisions_of b) place) false

-- a revision that is not scaled down has the port
abbrev pub is_live : Routing → ℕ → Bool
is_live b port = list_any (has_live_port port) (revisions_of b)

-- some book for which the headline holds tells this of the port
abbrev pub IsToldLive : ℕ → Bool → Type 0
IsToldLive port live = (b : Routing) × Headline b × (live ≡ is_live b port)
