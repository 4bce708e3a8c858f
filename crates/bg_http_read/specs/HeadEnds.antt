-- Where a head may end: at the first empty line after a line that is not empty.
use Rattle.std.specs.Prelude.{ℕ, Bool, true, false, if◌then◌else◌, ◌==◌, ◌||◌, List, [], ◌∷◌}
use Rattle.bg_http_read.specs.declared.head_end.HeadEnd.{HeadEnd}
use Rattle.bg_http_read.specs.declared.head_end.HeadEnd.TheVariants.{Blank, Inside, LineStart, AfterCr, Over}

-- the position after one more byte
abbrev pub after_byte : HeadEnd → ℕ → HeadEnd
after_byte Blank byte = if (byte == 10) || (byte == 13) then Blank else Inside
after_byte Inside byte = if byte == 10 then LineStart else Inside
after_byte LineStart byte =
    if byte == 10 then Over else (if byte == 13 then AfterCr else Inside)
after_byte AfterCr byte = if byte == 10 then Over else Inside
after_byte Over byte = Over

-- the position after more bytes
abbrev pub after_bytes : HeadEnd → List ℕ → HeadEnd
after_bytes end [] = end
after_bytes end (byte ∷ more) = after_bytes (after_byte end byte) more

-- an empty line came after a line that is not empty
abbrev pub is_over : HeadEnd → Bool
is_over Blank = false
is_over Inside = false
is_over LineStart = false
is_over AfterCr = false
is_over Over = true
