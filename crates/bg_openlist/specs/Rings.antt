-- A list of nodes as a ring, from its head through the nodes and back to the head. `nx` has the next node of each node,
-- and `pv` the previous one.
use Rattle.std.specs.Prelude.{◌≡◌, ℕ, zero, suc, List, [], ◌∷◌, get_or}

-- each step from a through ks to b is the next one by `nx` and the previous one by `pv`
abbrev pub Path : List ℕ → List ℕ → ℕ → List ℕ → ℕ → Type 0
Path nx pv a [] b = (get_or nx a 0 ≡ b) × (get_or pv b 0 ≡ a)
Path nx pv a (k ∷ ks) b = (get_or nx a 0 ≡ k) × (get_or pv k 0 ≡ a) × Path nx pv k ks b

-- the n nodes after a
abbrev pub walk : List ℕ → ℕ → ℕ → List ℕ
walk nx zero a = []
walk nx (suc n) a = get_or nx a 0 ∷ walk nx n (get_or nx a 0)
