-- The addresses of the cells of a block; each cell has s bytes.
use Rattle.std.specs.Prelude.{◌≡◌, ℕ, ◌*◌, ◌<◌}
use base.Fml.{Fml, feq}
use denote.RattleType.{RattleType}
use denote.RawPtr.{Ptr, ◌+ₚ◌}
use Rattle.core.specs.Mem.{type_size}
use Rattle.std_alloc.specs.declared.vec.Vec.{Vec}

module _ (s : ℕ) {X Z : Type 0} where
  -- the address of cell i of the block
  abbrev pub place : Vec X Z → ℕ → Ptr
  place v i = v.ptr +ₚ i * s

  -- the pointer leads to cell i
  abbrev pub LeadsTo : Vec X Z → Ptr → ℕ → Type 0
  LeadsTo v p i = (i < v.len) × (p ≡ place v i)

-- a cell for an R has n bytes
abbrev pub stride_owns : RattleType → ℕ → Fml
stride_owns R n = feq ℕ n (type_size R)
