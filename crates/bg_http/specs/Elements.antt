-- The fields of a head, and the elements of their values.
use Rattle.std.specs.Prelude.{ℕ, Bool, if◌then◌else◌, ◌==◌, ◌||◌, List, [], ◌∷◌, map, reverse, flat_map}
use Rattle.std.specs.Borrow.{Bor}
use Rattle.std.specs.List.{list_any, slice_split}
use Rattle.std.specs.Str.{str_eq_ignore_ascii_case}

-- a name and a value
abbrev pub Field : Type 0
Field = List ℕ × List ℕ

-- the field that two texts make, a name and a value
abbrev pub field_lent : Bor (List ℕ) × Bor (List ℕ) → Field
field_lent texts = (texts.0.now, texts.1.now)

-- the field has the name, in any case of its letters
abbrev pub is_named : List ℕ → Field → Bool
is_named name field = str_eq_ignore_ascii_case field.0 name

-- a field has the name
abbrev pub has_field : List ℕ → List Field → Bool
has_field name fields = list_any (is_named name) fields

-- a space or a tab
abbrev pub is_blank : ℕ → Bool
is_blank byte = (byte == 32) || (byte == 9)

-- a text without the blanks at its front
abbrev pub without_blanks : List ℕ → List ℕ
without_blanks [] = []
without_blanks (byte ∷ more) = if is_blank byte then without_blanks more else byte ∷ more

-- a text without the blanks at both ends
abbrev pub trimmed : List ℕ → List ℕ
trimmed text = reverse (without_blanks (reverse (without_blanks text)))

abbrev pub is_comma : ℕ → Bool
is_comma byte = byte == 44

-- the elements of a value: the trimmed parts between its commas
abbrev pub elements : List ℕ → List (List ℕ)
elements value = map trimmed (slice_split is_comma value)

-- the elements of all fields of the name, in order
abbrev pub elements_named : List ℕ → List Field → List (List ℕ)
elements_named name fields =
    flat_map (λ field. if is_named name field then elements field.1 else []) fields
