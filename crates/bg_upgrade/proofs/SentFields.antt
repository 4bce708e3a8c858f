-- The fields of an upgrade as they are sent.
use Rattle.std.proofs.Common.{◌≡◌, ℕ, Bool, true, false, if◌then◌else◌, cond, ◌==◌, ◌||◌, List, [], ◌∷◌, ◌++◌, refl, ap, ap₂, ◌∙◌, subst, append_assoc, codes}
use Rattle.std.specs.Prelude.{flat_map}
use Rattle.std.specs.List.{list_any}
use Rattle.std.specs.Str.{bytes_eq, str_eq_ignore_ascii_case, str_to_ascii_lowercase}
use Rattle.std.proofs.lemmas.Grind.{flat_map-append}
use Rattle.std.proofs.lemmas.List.{append-nil}
use Rattle.std.proofs.lemmas.List.Folds.{list_any-append}
use Rattle.std.proofs.lemmas.Slice.Eq.{bytes_eq-Decides}
use Rattle.bg_http.specs.Elements.{Field, elements, elements_named, has_field, is_named}
use Rattle.bg_http.specs.Laws.{StaysHere, StaysIfOfConnection}
use Rattle.bg_http.specs.Removed.{kept_in_request, kept_in_response}
use Rattle.bg_http.specs.declared.request.Request.{Request}
use Rattle.bg_http.specs.declared.response.ResponseHead.{ResponseHead}
use Rattle.bg_http_read.specs.ForwardedRequests.{via_field}
use Rattle.bg_upgrade.specs.HeadTexts.{upgrade_fields}
use Rattle.bg_upgrade.specs.Laws.{SpeaksOf}
use Rattle.bg_upgrade.specs.SentHeads.{connection_field, fields_to_client, fields_to_endpoint}
use Rattle.bg_upgrade.specs.Upgrades.{protocols}

-- an Upgrade field has no other name
no_other_name : (name : List ℕ) → str_eq_ignore_ascii_case (codes "upgrade") name ≡ false → (f : Field)
    → is_named (codes "upgrade") f ≡ true → is_named name f ≡ false
no_other_name name other f e =
    let low = (bytes_eq-Decides (str_to_ascii_lowercase f.0) (str_to_ascii_lowercase (codes "upgrade"))).0 e in
    ap (λ l. bytes_eq l (str_to_ascii_lowercase name)) low ∙ other

pub upgrades_only : (name : List ℕ) → str_eq_ignore_ascii_case (codes "upgrade") name ≡ false → (fields : List Field)
    → has_field name (upgrade_fields fields) ≡ false
upgrades_only name other [] = refl
upgrades_only name other (f ∷ fields) = by_test (is_named (codes "upgrade") f) refl (upgrades_only name other fields)
  where
    by_test : (t : Bool) → is_named (codes "upgrade") f ≡ t → has_field name (upgrade_fields fields) ≡ false
        → has_field name (cond t (f ∷ upgrade_fields fields) (upgrade_fields fields)) ≡ false
    by_test true e later = rw (no_other_name name other f e) later
    by_test false e later = later

-- the Upgrade fields have the protocols of all fields
upgrades_all : (fields : List Field) → protocols (upgrade_fields fields) ≡ protocols fields
upgrades_all [] = refl
upgrades_all (f ∷ fields) = by_test (is_named (codes "upgrade") f) refl (upgrades_all fields)
  where
    by_test : (t : Bool) → is_named (codes "upgrade") f ≡ t → protocols (upgrade_fields fields) ≡ protocols fields
        → protocols (cond t (f ∷ upgrade_fields fields) (upgrade_fields fields))
        ≡ (if t then elements f.1 else []) ++ protocols fields
    by_test true e later = rw e (ap (λ l. elements f.1 ++ l) later)
    by_test false e later = later

-- what fails a test has no parts
no_parts : {A B : Type 0} (test : A → Bool) (parts : A → List B) (xs : List A) → list_any test xs ≡ false
    → flat_map (λ x. if test x then parts x else []) xs ≡ []
no_parts test parts [] none = refl
no_parts test parts (x ∷ xs) none = by_test (test x) none (no_parts test parts xs)
  where
    by_test : (t : Bool) → (t || list_any test xs) ≡ false
        → (list_any test xs ≡ false → flat_map (λ x. if test x then parts x else []) xs ≡ [])
        → (if t then parts x else []) ++ flat_map (λ x. if test x then parts x else []) xs ≡ []
    by_test true h later = cc
    by_test false h later = later h

-- fields without these names
record HasNone (fields : List Field) : Type 0 where
  upgrade : has_field (codes "upgrade") fields ≡ false
  connection : has_field (codes "connection") fields ≡ false
  size : has_field (codes "content-length") fields ≡ false
  codings : has_field (codes "transfer-encoding") fields ≡ false

neither : (name : List ℕ) (xs ys : List Field) → has_field name xs ≡ false → has_field name ys ≡ false
    → has_field name (xs ++ ys) ≡ false
neither name xs ys h k = list_any-append (is_named name) xs ys ∙ ap₂ (λ a b. a || b) h k

-- the elements of a name in fields of which the first ones lack it
elements_behind : (name : List ℕ) (xs ys : List Field) → has_field name xs ≡ false
    → elements_named name (xs ++ ys) ≡ elements_named name ys
elements_behind name xs ys none =
    flat_map-append (λ field. if is_named name field then elements field.1 else []) xs ys
    ∙ ap (λ l. l ++ elements_named name ys) (no_parts (is_named name) (λ field. elements field.1) xs none)

-- fields without these names, and then the Upgrade fields of those that came, and Connection
speaks : (came kept : List Field) → HasNone kept
    → SpeaksOf came (kept ++ (upgrade_fields came ++ connection_field ∷ []))
speaks came kept none = record {
  protocols_are = elements_behind (codes "upgrade") kept _ none.upgrade
      ∙ flat_map-append (λ field. if is_named (codes "upgrade") field then elements field.1 else [])
      (upgrade_fields came) (connection_field ∷ [])
      ∙ append-nil (protocols (upgrade_fields came)) ∙ upgrades_all came;
  connection_is = elements_behind (codes "connection") kept _ none.connection
      ∙ elements_behind (codes "connection") (upgrade_fields came) (connection_field ∷ [])
      (upgrades_only (codes "connection") refl came);
  no_length = neither (codes "content-length") kept _ none.size
      (neither (codes "content-length") (upgrade_fields came) (connection_field ∷ [])
      (upgrades_only (codes "content-length") refl came) refl);
  no_codings = neither (codes "transfer-encoding") kept _ none.codings
      (neither (codes "transfer-encoding") (upgrade_fields came) (connection_field ∷ [])
      (upgrades_only (codes "transfer-encoding") refl came) refl);
}

-- ---- the fields that are kept

-- what is known of the fields of one connection
abbrev pub Stays : Type 0
Stays = (fields : List Field) (field : Field) → StaysIfOfConnection fields field

pub client_speaks : Stays → (head : ResponseHead) → SpeaksOf head.fields (fields_to_client head)
client_speaks stays head = speaks head.fields (kept_in_response head.fields) (record {
  upgrade = (stays head.fields (codes "upgrade", []) refl).1;
  connection = (stays head.fields (codes "connection", []) refl).1;
  size = (stays head.fields (codes "content-length", []) refl).1;
  codings = (stays head.fields (codes "transfer-encoding", []) refl).1;
})

-- Via is another name
via_is_other : (request : Request) → HasNone (via_field request ∷ [])
via_is_other request = by_test (request.minor == 0)
  where
    by_test : (t : Bool) → HasNone ((if t then (codes "Via", codes "1.0 bg-switch") else (codes "Via", codes "1.1 bg-switch")) ∷ [])
    by_test true = record { upgrade = refl; connection = refl; size = refl; codings = refl }
    by_test false = record { upgrade = refl; connection = refl; size = refl; codings = refl }

pub endpoint_speaks : Stays → (request : Request) → SpeaksOf request.fields (fields_to_endpoint request)
endpoint_speaks stays request =
    let fields = request.fields in
    let via = via_is_other request in
    let kept = kept_in_request fields in
    let last = via_field request ∷ [] in
    subst (SpeaksOf fields) (append_assoc kept last (upgrade_fields fields ++ connection_field ∷ []))
    (speaks fields (kept ++ last) (record {
      upgrade = neither (codes "upgrade") kept last (stays fields (codes "upgrade", []) refl).0 via.upgrade;
      connection = neither (codes "connection") kept last (stays fields (codes "connection", []) refl).0 via.connection;
      size = neither (codes "content-length") kept last (stays fields (codes "content-length", []) refl).0 via.size;
      codings = neither (codes "transfer-encoding") kept last (stays fields (codes "transfer-encoding", []) refl).0 via.codings;
    }))

-- of the fields that came, none is forwarded that stays, and is no Upgrade field
pub stays_too : (fields : List Field) (name : List ℕ) → StaysHere fields name
    → str_eq_ignore_ascii_case (codes "upgrade") name ≡ false
    → (has_field name (kept_in_request fields ++ upgrade_fields fields) ≡ false)
    × (has_field name (kept_in_response fields ++ upgrade_fields fields) ≡ false)
stays_too fields name stays other = (
  neither name (kept_in_request fields) (upgrade_fields fields) stays.0 (upgrades_only name other fields),
  neither name (kept_in_response fields) (upgrade_fields fields) stays.1 (upgrades_only name other fields),
)
