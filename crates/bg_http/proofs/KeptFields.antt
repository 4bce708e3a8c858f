-- The fields that are kept.
use Rattle.std.proofs.Common.{◌≡◌, ℕ, Bool, true, false, cond, ◌&&◌, ◌||◌, List, [], ◌∷◌, refl, ap, sym, ◌∙◌}
use Rattle.std.specs.Prelude.{filter, not, codes}
use Rattle.std.specs.List.{list_any}
use Rattle.std.specs.Str.{bytes_eq, str_eq_ignore_ascii_case, str_to_ascii_lowercase}
use Rattle.std.proofs.lemmas.Bool.{or_left, or_right}
use Rattle.std.proofs.lemmas.Slice.Eq.{bytes_eq-Decides}
use Rattle.bg_http.specs.Elements.{Field, is_named, has_field, elements_named}
use Rattle.bg_http.specs.RequestRules.{expects_continue}
use Rattle.bg_http.specs.Removed.{is_of_connection, is_named_by_connection, is_removed, is_removed_from_request}
use Rattle.bg_http.specs.Laws.{StaysHere}

-- no field that passes a test is kept if each such field is removed
none_kept : (test removed : Field → Bool) (fields : List Field) → ((f : Field) → test f ≡ true → removed f ≡ true)
    → list_any test (filter (λ f. not (removed f)) fields) ≡ false
none_kept test removed [] h = refl
none_kept test removed (f ∷ fields) h = by_test (removed f) refl (test f) refl (none_kept test removed fields h)
  where
    by_test : (r : Bool) → removed f ≡ r → (t : Bool) → test f ≡ t → list_any test (filter (λ f. not (removed f)) fields) ≡ false
        → list_any test (cond (not r) (f ∷ filter (λ f. not (removed f)) fields) (filter (λ f. not (removed f)) fields)) ≡ false
    by_test true e t u later = later
    by_test false e true u later = let both : true ≡ false = sym (h f u) ∙ e in cc
    by_test false e false u later = rw u later

-- no field of a name is forwarded if each field of the name is removed
pub stays : (fields : List Field) (name : List ℕ) → ((f : Field) → is_named name f ≡ true → is_removed fields f ≡ true) → StaysHere fields name
stays fields name h = (
  none_kept (is_named name) (is_removed_from_request fields) fields (λ f e. or_left (is_removed fields f) (expects_continue f) (h f e)),
  none_kept (is_named name) (is_removed fields) fields h,
)

-- names that differ only in case are equal in lower case
one_name : (a b : List ℕ) → str_eq_ignore_ascii_case a b ≡ true → str_to_ascii_lowercase a ≡ str_to_ascii_lowercase b
one_name a b e = (bytes_eq-Decides (str_to_ascii_lowercase a) (str_to_ascii_lowercase b)).0 e

-- whether a field is one of a connection depends on its name in lower case alone
is_of_connection_in : List ℕ → Bool
is_of_connection_in low =
    bytes_eq low (str_to_ascii_lowercase (codes "connection")) || bytes_eq low (str_to_ascii_lowercase (codes "keep-alive"))
    || bytes_eq low (str_to_ascii_lowercase (codes "proxy-connection")) || bytes_eq low (str_to_ascii_lowercase (codes "te"))
    || bytes_eq low (str_to_ascii_lowercase (codes "transfer-encoding")) || bytes_eq low (str_to_ascii_lowercase (codes "upgrade"))
    || bytes_eq low (str_to_ascii_lowercase (codes "trailer")) || bytes_eq low (str_to_ascii_lowercase (codes "content-length"))

same_of_connection : (f g : Field) → is_named f.0 g ≡ true → is_of_connection g ≡ is_of_connection f
unfolding is_of_connection_in
same_of_connection f g e = ap is_of_connection_in (one_name g.0 f.0 e)

-- no field of the name of a field of one connection is forwarded
pub stays_of_connection : (fields : List Field) (field : Field) → is_of_connection field ≡ true → StaysHere fields field.0
stays_of_connection fields field h =
    stays fields field.0 (λ f e. or_left (is_of_connection f) _ (same_of_connection field f e ∙ h))

-- a field that Connection names is removed unless it is Host
pub removed_where_named : (fields : List Field) (name : List ℕ) (f : Field) → is_named_by_connection fields name ≡ true → str_eq_ignore_ascii_case name (codes "host") ≡ false
    → is_named name f ≡ true → is_removed fields f ≡ true
removed_where_named fields name f named other e =
    let low = one_name f.0 name e in
    let same : is_named_by_connection fields f.0 ≡ is_named_by_connection fields name =
    ap (λ l. list_any (λ x. bytes_eq (str_to_ascii_lowercase x) l) (elements_named (codes "connection") fields)) low in
    let host : is_named (codes "host") f ≡ str_eq_ignore_ascii_case name (codes "host") =
    ap (λ l. bytes_eq l (str_to_ascii_lowercase (codes "host"))) low in
    or_right (is_of_connection f) (not (is_named (codes "host") f) && is_named_by_connection fields f.0)
    (both (is_named (codes "host") f) (is_named_by_connection fields f.0) (host ∙ other) (same ∙ named))
  where
    both : (a b : Bool) → a ≡ false → b ≡ true → (not a && b) ≡ true
    both false true h k = refl
    both false false h k = k
    both true b h k = cc

-- if no field has the name, there are no elements of that name
no_elements : (name : List ℕ) (fields : List Field) → has_field name fields ≡ false → elements_named name fields ≡ []
no_elements name [] none = refl
no_elements name (f ∷ fields) none = by_test (is_named name f) refl none (no_elements name fields)
  where
    by_test : (t : Bool) → is_named name f ≡ t → (t || has_field name fields) ≡ false → (has_field name fields ≡ false → elements_named name fields ≡ [])
        → elements_named name (f ∷ fields) ≡ []
    by_test true e h later = cc
    by_test false e h later = rw e (later h)

-- if there is no Connection field, it names no field
pub none_named : (fields : List Field) (name : List ℕ) → has_field (codes "connection") fields ≡ false → is_named_by_connection fields name ≡ false
none_named fields name none = rw (no_elements (codes "connection") fields none) refl
