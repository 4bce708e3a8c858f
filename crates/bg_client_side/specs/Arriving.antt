-- The bytes of the request that arrives, as far as they are kept.
use Rattle.std.specs.Prelude.{◌≡◌, ℕ, List, ◌++◌, IfSome, Option, None, Some, ⊤}

-- what is kept, if anything is, are these bytes
abbrev pub AreKept : List ℕ → Option (List ℕ) → Type 0
AreKept came kept = IfSome kept (λ bytes. bytes ≡ came)

-- what is kept once more bytes came: what was kept before, and they behind it, or nothing
abbrev pub AreKeptWith : Option (List ℕ) → List ℕ → Option (List ℕ) → Type 0
AreKeptWith before bytes None = ⊤
AreKeptWith None bytes (Some all) = ⊥
AreKeptWith (Some kept) bytes (Some all) = all ≡ kept ++ bytes
