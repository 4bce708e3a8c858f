-- The first of the connections in a ranking.
use Rattle.std.specs.Prelude.{ℕ, ◌<◌, ◌≤◌, if◌then◌else◌, nat_lt, Option, Some, None, ⊤}
use Rattle.bg_load.specs.Pauses.{large_from}
use Rattle.bg_load.specs.Room.{answering_since, idle_since, slow_at}
use Rattle.bg_load.specs.Stalls.{still_since}
use Rattle.bg_load.specs.declared.connection.Connection.{Connection}
use Rattle.bg_load.specs.declared.ranking.Ranking.{Ranking}
use Rattle.bg_load.specs.declared.ranking.Ranking.TheVariants as ranking

-- the rank of a place in a ranking, if it has one
abbrev pub rank_in : Ranking → Option Connection → Option ℕ
rank_in (ranking.LargeFrom least) p = large_from least p
rank_in ranking.Still p = still_since p
rank_in (ranking.Slow which now) p = slow_at which now p
rank_in ranking.Answering p = answering_since p
rank_in ranking.Idle p = idle_since p

-- of two moments or numbers, the first is no later, if there is a second
abbrev pub IsNoLater : Option ℕ → Option ℕ → Type 0
IsNoLater one None = ⊤
IsNoLater None (Some other) = ⊥
IsNoLater (Some one) (Some other) = one ≤ other

-- the first is earlier, if there is a second
abbrev pub IsEarlier : Option ℕ → Option ℕ → Type 0
IsEarlier one None = ⊤
IsEarlier None (Some other) = ⊥
IsEarlier (Some one) (Some other) = one < other

-- of the first connection so far in a ranking, with its rank, and another one, the one whose rank is less
abbrev pub earlier : Option (ℕ × ℕ) → ℕ → Option ℕ → Option (ℕ × ℕ)
earlier first key None = first
earlier None key (Some rank) = Some (key, rank)
earlier (Some first) key (Some rank) = if nat_lt rank first.1 then Some (key, rank) else Some first
