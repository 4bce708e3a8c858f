-- Fields that a writer forwards, whatever the other fields are, and why all fields with an origin are such.
use Rattle.std.proofs.Common.{◌≡◌, ℕ, Bool, true, false, cond, ◌&&◌, ◌||◌, List, [], ◌∷◌, ◌++◌, Option, Some, None, refl, ap}
use Rattle.std.specs.Prelude.{filter, not, codes}
use Rattle.std.specs.List.{list_all}
use Rattle.std.specs.declared.net.ip_addr.IpAddr.{IpAddr}
use Rattle.bg_http.specs.Elements.{Field, elements_named, has_field, is_named}
use Rattle.bg_http.specs.Removed.{is_of_connection, is_removed_from_request, kept_in_request}
use Rattle.bg_http.specs.RequestRules.{expects_continue}
use Rattle.bg_origin.specs.Forwardeds.{client_text, forwarded_value}
use Rattle.bg_origin.specs.OriginFields.{goes_on, host_of, kept_fields, origin_fields, with_field, with_host, with_missing}
use Rattle.bg_origin.specs.OriginNames.{tells_origin}

-- a field that is forwarded unless Connection names it
abbrev pub stays : Field → Bool
stays field = not (is_of_connection field || expects_continue field)

not_removed : (a b e c : Bool) → (not ((a || b) || e) && c) ≡ true → not (a || e) ≡ true
not_removed true b e c h = cc
not_removed false true e c h = cc
not_removed false false true c h = cc
not_removed false false false c h = refl

-- the fields of the client that go on stay
kept_stay : (trusts : Bool) (fields left : List Field) → list_all stays (filter (goes_on trusts fields) left) ≡ true
kept_stay trusts fields [] = refl
kept_stay trusts fields (f ∷ left) = by_test (goes_on trusts fields f) refl (kept_stay trusts fields left)
  where
    by_test : (g : Bool) → goes_on trusts fields f ≡ g → list_all stays (filter (goes_on trusts fields) left) ≡ true
        → list_all stays (cond g (f ∷ filter (goes_on trusts fields) left) (filter (goes_on trusts fields) left)) ≡ true
    by_test false e later = later
    by_test true e later = rw (not_removed (is_of_connection f) _ (expects_continue f) _ e) later

-- so do they with a field behind them that stays
one_more : (fields : List Field) (f : Field) → list_all stays fields ≡ true → stays f ≡ true
    → list_all stays (fields ++ f ∷ []) ≡ true
one_more [] f h k = rw k refl
one_more (g ∷ fields) f h k = by_test (stays g) refl h (λ later. one_more fields f later k)
  where
    by_test : (s : Bool) → stays g ≡ s → (s && list_all stays fields) ≡ true
        → (list_all stays fields ≡ true → list_all stays (fields ++ f ∷ []) ≡ true)
        → (stays g && list_all stays (fields ++ f ∷ [])) ≡ true
    by_test false e h more = cc
    by_test true e h more = rw e (more h)

missing_one : (name value : List ℕ) (fields : List Field) → list_all stays fields ≡ true → stays (name, value) ≡ true
    → list_all stays (with_missing name value fields) ≡ true
missing_one name value fields h k = by_test (has_field name fields)
  where
    by_test : (there : Bool) → list_all stays (cond there fields (with_field name value fields)) ≡ true
    by_test true = h
    by_test false = one_more fields (name, value) h k

with_host_stay : (host : Option (List ℕ)) (fields : List Field) → list_all stays fields ≡ true
    → list_all stays (with_host host fields) ≡ true
with_host_stay None fields h = h
with_host_stay (Some host) fields h = missing_one (codes "X-Forwarded-Host") host fields h refl

-- all fields with an origin stay
pub origin_stays : (trusts : Bool) (client : Option IpAddr) (id : List ℕ) (fields : List Field) → list_all stays (origin_fields trusts client id fields) ≡ true
origin_stays trusts client id fields =
    let host = host_of fields in
    let kept = kept_fields trusts fields in
    let with_client = with_field (codes "X-Forwarded-For") (client_text client) kept in
    let with_scheme = with_missing (codes "X-Forwarded-Proto") (codes "http") with_client in
    let with_name = with_host host with_scheme in
    let with_element = with_field (codes "Forwarded") (forwarded_value client host) with_name in
    let told_client = one_more kept (codes "X-Forwarded-For", client_text client)
    (kept_stay trusts fields fields) refl in
    let scheme = missing_one (codes "X-Forwarded-Proto") (codes "http") with_client told_client refl in
    let name = with_host_stay host with_scheme scheme in
    let element = one_more with_name (codes "Forwarded", forwarded_value client host) name refl in
    missing_one (codes "X-Request-Id") id with_element element refl

-- no field that stays is a Connection field
no_connection : (f : Field) → stays f ≡ true → is_named (codes "connection") f ≡ false
no_connection f h = by_test (is_named (codes "connection") f) refl
  where
    by_test : (t : Bool) → is_named (codes "connection") f ≡ t → t ≡ false
    by_test false e = refl
    by_test true e = let gone : stays f ≡ false = rw e refl in cc

-- so they name no field
none_named : (fields : List Field) → list_all stays fields ≡ true → elements_named (codes "connection") fields ≡ []
none_named [] h = refl
none_named (f ∷ fields) h = by_test (stays f) refl h (none_named fields)
  where
    by_test : (s : Bool) → stays f ≡ s → (s && list_all stays fields) ≡ true
        → (list_all stays fields ≡ true → elements_named (codes "connection") fields ≡ [])
        → elements_named (codes "connection") (f ∷ fields) ≡ []
    by_test false e h more = cc
    by_test true e h more = rw (no_connection f e) (more h)

unnamed : (a b e : Bool) → not (a || e) ≡ true → ((a || (b && false)) || e) ≡ false
unnamed true b e h = cc
unnamed false b true h = cc
unnamed false true false h = refl
unnamed false false false h = refl

-- and none of them is removed
goes : (all : List Field) (f : Field) → elements_named (codes "connection") all ≡ [] → stays f ≡ true
    → is_removed_from_request all f ≡ false
goes all f none h = rw none (unnamed (is_of_connection f) (not (is_named (codes "host") f)) (expects_continue f) h)

all_go : (all left : List Field) → elements_named (codes "connection") all ≡ [] → list_all stays left ≡ true
    → filter (λ f. not (is_removed_from_request all f)) left ≡ left
all_go all [] none h = refl
all_go all (f ∷ left) none h = by_test (stays f) refl h (all_go all left none)
  where
    by_test : (s : Bool) → stays f ≡ s → (s && list_all stays left) ≡ true
        → (list_all stays left ≡ true → filter (λ f. not (is_removed_from_request all f)) left ≡ left)
        → filter (λ f. not (is_removed_from_request all f)) (f ∷ left) ≡ f ∷ left
    by_test false e h more = cc
    by_test true e h more = rw (goes all f none e) (ap (λ l. f ∷ l) (more h))

pub all_forwarded : (trusts : Bool) (client : Option IpAddr) (id : List ℕ) (fields : List Field)
    → kept_in_request (origin_fields trusts client id fields) ≡ origin_fields trusts client id fields
all_forwarded trusts client id fields =
    let all = origin_fields trusts client id fields in
    let stay = origin_stays trusts client id fields in
    all_go all all (none_named all stay) stay

untold : (a t : Bool) → (a && (false || not t)) ≡ true → t ≡ false
untold true true h = cc
untold true false h = refl
untold false t h = cc

-- no field of a client that is not trusted tells where the request comes from
pub nothing_told : (fields left : List Field)
    → filter (λ field. tells_origin field.0) (filter (goes_on false fields) left) ≡ []
nothing_told fields [] = refl
nothing_told fields (f ∷ left) = by_test (goes_on false fields f) refl (nothing_told fields left)
  where
    by_test : (g : Bool) → goes_on false fields f ≡ g
        → filter (λ field. tells_origin field.0) (filter (goes_on false fields) left) ≡ []
        → filter (λ field. tells_origin field.0)
        (cond g (f ∷ filter (goes_on false fields) left) (filter (goes_on false fields) left)) ≡ []
    by_test false e later = later
    by_test true e later = rw (untold _ (tells_origin f.0) e) later
