-- The bytes that came on a connection, as far as they are kept.
use Rattle.std.specs.Prelude.{◌≡◌, ℕ, Bool, false, if◌then◌else◌, List, [], ◌++◌, IfSome, Option, None, Some, ⊤}

-- no byte came: nothing is kept so far, or nothing will be
abbrev pub begun : Bool → Option (List ℕ)
begun keeps = if keeps then Some [] else None

-- what is kept once more bytes came: what was kept before, and they behind it, or nothing
abbrev pub IsKeptWith : Option (List ℕ) → List ℕ → Option (List ℕ) → Type 0
IsKeptWith before bytes None = ⊤
IsKeptWith None bytes (Some all) = ⊥
IsKeptWith (Some kept) bytes (Some all) = all ≡ kept ++ bytes

-- the bytes that are kept are all that came, and none are kept unless they are asked for
pub record IsKeptOf (kept : Option (List ℕ)) (is_asked : Bool) (came : List ℕ) : Type 0 where
  pub all_came : IfSome kept (λ bytes. bytes ≡ came)
  pub only_if_asked : is_asked ≡ false → kept ≡ None
