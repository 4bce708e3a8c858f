-- The form of a name: a DNS label of RFC 1123, as Kubernetes requires it.
use Rattle.std.specs.Prelude.{ℕ, ◌-◌, ◌&&◌, ◌||◌, ◌==◌, Bool, nat_le, List, length, slice_index}
use Rattle.std.specs.List.{list_all}
use Rattle.std.specs.Char.{is_ascii_lowercase, is_ascii_digit}

-- a lower-case letter or a digit
abbrev pub is_alphanumeric : ℕ → Bool
is_alphanumeric c = is_ascii_lowercase c || is_ascii_digit c

-- a letter, a digit or `-`
abbrev pub is_label_byte : ℕ → Bool
is_label_byte c = is_alphanumeric c || c == 45

-- 1 to 63 lower-case letters, digits and `-`, with a letter or a digit at both ends
abbrev pub is_label : List ℕ → Bool
is_label t = nat_le 1 (length t) && (nat_le (length t) 63 && (list_all is_label_byte t
    && (is_alphanumeric (slice_index t 0) && is_alphanumeric (slice_index t (length t - 1)))))
