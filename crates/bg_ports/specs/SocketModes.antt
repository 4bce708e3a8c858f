-- The mode of the file of the control socket.
use Rattle.std.specs.Prelude.{◌+◌, ◌*◌, ◌/◌, ◌%◌, ◌&&◌, ℕ, Bool, if◌then◌else◌, nat_le, Option, Some, None}

-- the digits for the user, for the group and for all others, as chmod(1) calls them
abbrev pub for_user : ℕ → ℕ
for_user mode = mode / 100

abbrev pub for_group : ℕ → ℕ
for_group mode = mode / 10 % 10

abbrev pub for_others : ℕ → ℕ
for_others mode = mode % 10

-- each digit is octal
abbrev pub is_octal : ℕ → Bool
is_octal mode = nat_le (for_user mode) 7 && (nat_le (for_group mode) 7 && nat_le (for_others mode) 7)

-- the number with these octal digits
abbrev pub mode_bits : ℕ → Option ℕ
mode_bits mode =
    if is_octal mode then Some (for_user mode * 64 + for_group mode * 8 + for_others mode) else None
