-- What a loop over fields has written if it skips some of them.
use Rattle.std.proofs.Common.{◌≡◌, ℕ, Bool, true, false, cond, List, [], ◌∷◌, ◌++◌, Option, ap, subst, sym, ◌∙◌, append_assoc}
use Rattle.std.specs.Prelude.{filter, flat_map, not}
use Rattle.std.specs.Io.KnownBytes.{Appends}
use Rattle.std.proofs.lemmas.List.{append-nil}
use Rattle.bg_http.specs.Elements.{Field}
use Rattle.bg_http.specs.Texts.{field_line}

-- a last field that isn't kept doesn't change the list of the kept fields
not_kept : (keeps : Field → Bool) (fields : List Field) (f : Field) → keeps f ≡ false
    → filter keeps (fields ++ f ∷ []) ≡ filter keeps fields
not_kept keeps [] f e = ap (λ t. cond t (f ∷ []) []) e
not_kept keeps (g ∷ fields) f e = ap (λ l. cond (keeps g) (g ∷ l) l) (not_kept keeps fields f e)

-- the loop skips a field that is removed, and what it wrote is still the text of the kept fields
pub skipped : (removed : Field → Bool) (done left next fields : List Field) (f : Field)
    (old new : Option (List ℕ)) → done ++ left ≡ fields → left ≡ f ∷ next → removed f ≡ true
    → Appends old new (flat_map field_line (filter (λ f. not (removed f)) done))
    → ((done ++ f ∷ []) ++ next ≡ fields)
    × Appends old new (flat_map field_line (filter (λ f. not (removed f)) (done ++ f ∷ [])))
skipped removed done left next fields f old new whole is gone wrote = (
  append_assoc done (f ∷ []) next ∙ ap (λ l. done ++ l) (sym is) ∙ whole,
  subst (λ l. Appends old new (flat_map field_line l)) (sym (not_kept (λ f. not (removed f)) done f (ap not gone))) wrote,
)

-- no field is left
pub all_done : (P : List Field → Type 0) (done left fields : List Field) → done ++ left ≡ fields
    → left ≡ [] → P done → P fields
all_done P done left fields whole none h =
    subst P (sym (append-nil done) ∙ ap (λ l. done ++ l) (sym none) ∙ whole) h
