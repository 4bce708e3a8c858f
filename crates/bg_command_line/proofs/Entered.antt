-- The subcommand that the words enter.
use Rattle.std.proofs.Common.{◌≡◌, ◌⊎◌, inl, inr, List, [], ◌∷◌, refl}
use Rattle.std.specs.Prelude.{Bool, true, false, ◌&&◌, not, Option, Some, None, is_some, find, cond, option_map}
use Rattle.std.specs.Option.{option_map_or}
use Rattle.clap.specs.Walk.{Text, nothing_held, stop_after, answers_to}
use Rattle.clap.specs.Simple.{Shape, App, names_of, entered, rows_at, label_of}
use Rattle.clap.specs.Kinds.{check_kinds}
use Rattle.clap.specs.Faults.{built_fault, level_fault, entered_fault}
use Rattle.bg_command_line.proofs.WordsTaken.{none_else}

check_has : (has a required w : Bool) → required ≡ true → check_kinds (not has && a) (not has && required) w ≡ [] → has ≡ true
check_has true a required w r e = refl
check_has false true required w r e = cc
check_has false false true w r e = cc
check_has false false false w r e = cc

abbrev pub Among : Shape → List Shape → Type 0
Among s [] = ⊥
Among s (x ∷ xs) = (x ≡ s) ⊎ Among s xs

-- the words enter one of the subcommands, and it accepts the remaining words
pub record Enters (a : App) (stop : Option (Text × List Text)) : Type 0 where
  pub shape : Shape
  pub among : Among shape a.subs
  pub rest : List Text
  pub is : entered a stop ≡ Some (rows_at shape rest)
  pub accepts_rest : level_fault shape [] nothing_held rest false [] ≡ []

-- what `find` found
found_among : (p : Shape → Bool) (xs : List Shape) (s : Shape) → find p xs ≡ Some s → Among s xs
found_among p [] s e = cc
found_among p (x ∷ xs) s e = go (p x) e (λ h. found_among p xs s h)
  where
    go : (b : Bool) → cond b (Some x) (find p xs) ≡ Some s → (find p xs ≡ Some s → Among s xs) → Among s (x ∷ xs)
    go true h rest = inl cc
    go false h rest = inr (rest h)

enters_at : (subs : List Shape) (p : Text × List Text) (o : Option Shape) → find (λ s. answers_to p.0 (label_of s)) subs ≡ o
    → is_some (option_map (λ x. rows_at x p.1) o) ≡ true
    → option_map_or (λ x. level_fault x [] nothing_held p.1 false []) o [] ≡ []
    → (s : Shape) × Among s subs × (option_map (λ x. rows_at x p.1) o ≡ Some (rows_at s p.1)) × (level_fault s [] nothing_held p.1 false [] ≡ [])
enters_at subs p None is h e = cc
enters_at subs p (Some s) is h e = (s, found_among (λ s. answers_to p.0 (label_of s)) subs s is, refl, e)

enters : (a : App) (stop : Option (Text × List Text)) → is_some (entered a stop) ≡ true → entered_fault a stop ≡ [] → Enters a stop
enters a None h e = cc
enters a (Some p) h e =
    let x = enters_at a.subs p (find (λ s. answers_to p.0 (label_of s)) a.subs) refl h e in
    record { shape = x.0; among = x.1; rest = p.1; is = x.2; accepts_rest = x.3 }

pub one_entered : (a : App) (words : List Text) → a.top.subcommand_required ≡ true → built_fault a nothing_held words ≡ []
    → Enters a (stop_after a.top.rules (names_of a) words)
one_entered a words required e =
    let f = none_else _ _ e in
    let g = none_else _ _ f.1 in
    let h = none_else _ _ g.1 in
    let i = none_else _ _ h.1 in
    enters a (stop_after a.top.rules (names_of a) words) (check_has _ _ a.top.subcommand_required _ required i.1) g.0
