-- The name and the ports of each revision.
use Rattle.std.specs.Prelude.{ℕ, Bool, false, if◌then◌else◌, ◌==◌, List, [], ◌∷◌, find, Option, Some, None}
use Rattle.std.specs.Option.{option_or}
use Rattle.std.specs.Str.{bytes_eq}
use Rattle.bg_history.specs.declared.entry.Entry.{Entry}
use Rattle.bg_history.specs.declared.entry.Entry.TheVariants.{Deploy}
use Rattle.bg_history.specs.Sizes.{existing}
use Rattle.bg_history.specs.Kept.{Template, Opening}

-- the template of r's first deploy; for revision 1 the template of the opening
abbrev pub template : Opening → ℕ → List Entry → Option Template
template o r [] = if r == 1 then Some o.template else None
template o r (Deploy q name ports ∷ before) =
    option_or (template o r before)
    (if q == r then Some (record { name = name; ports = ports }) else None)
template o r (_ ∷ before) = template o r before

abbrev pub is_named : List ℕ → Option Template → Bool
is_named name None = false
is_named name (Some t) = bytes_eq t.name name

abbrev pub has_ports : List ℕ → Option Template → Bool
has_ports ports None = false
has_ports ports (Some t) = bytes_eq t.ports ports

-- the existing revision of that name
abbrev pub namesake : Opening → List ℕ → List Entry → Option ℕ
namesake o name past = find (λ q. is_named name (template o q past)) (existing past)
