-- The unread bytes of a reader, and the next line of them.
use Rattle.std.specs.Prelude.{◌≡◌, ℕ, ◌<◌, ◌≤◌, List, [], ◌∷◌, length, ⊤, Option, None, Some}
use Rattle.bg_operator.specs.Lines.{lines_of}
use Rattle.bg_operator.specs.declared.lines.Found.{Found}
use Rattle.bg_operator.specs.declared.lines.Found.TheVariants.{Line, TooLong, End}

-- a fact about the bytes that were unread and those that are unread now; known bytes stay known
abbrev pub Known : Option (List ℕ) → Option (List ℕ) → (List ℕ → List ℕ → Type 0) → Type 0
Known None new P = ⊤
Known (Some xs) None P = ⊥
Known (Some xs) (Some ys) P = P xs ys

-- the part that was found in the bytes xs, after which ys are unread
abbrev pub Gives : Found → List ℕ → List ℕ → List ℕ → Type 0
Gives Line line xs ys = (lines_of xs ≡ line ∷ lines_of ys) × (length line ≤ 4096)
Gives TooLong line xs ys =
    (long : List ℕ) × (lines_of xs ≡ long ∷ lines_of ys) × (4096 < length long)
Gives End line xs ys = (xs ≡ []) × (ys ≡ [])
