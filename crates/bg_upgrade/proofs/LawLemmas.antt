-- What the laws of upgrades rest on.
use Rattle.std.proofs.Common.{◌≡◌, ℕ, suc, ◌-◌, Bool, true, false, if◌then◌else◌, ◌==◌, ◌&&◌, ◌||◌, not, List, [], ◌∷◌, length, drop, refl, ap, ap₂, sym, ◌∙◌, arith, subst, codes}
use Rattle.std.specs.Prelude.{Contains, is_none}
use Rattle.std.specs.List.{list_all, list_any}
use Rattle.std.specs.Str.{bytes_eq, str_eq_ignore_ascii_case}
use Rattle.std.proofs.lemmas.Bool.{eqb-true}
use Rattle.std.proofs.lemmas.List.{append-nil, length-drop}
use Rattle.std.proofs.lemmas.List.Sums.{AllPass-from_list_all}
use Rattle.bg_http.specs.Codings.{is_empty}
use Rattle.bg_http.specs.Elements.{Field}
use Rattle.bg_http.specs.Removed.{is_named_by_connection}
use Rattle.bg_http.specs.declared.request.Request.{Request}
use Rattle.bg_http.specs.declared.response.ResponseHead.{ResponseHead}
use Rattle.bg_http_read.specs.Heads.{ReadsResponseHead}
use Rattle.bg_upgrade.specs.Laws.{SpeaksOf, TakesAsked}
use Rattle.bg_upgrade.specs.SentHeads.{bare_request, fields_to_client, fields_to_endpoint, head_to_client, head_to_endpoint}
use Rattle.bg_upgrade.specs.Acceptances.{FindsAcceptance, judgement}
use Rattle.bg_upgrade.specs.Upgrades.{accepts_upgrade, asks_for_upgrade, has_upgrade, names_each_of, names_protocol, names_this, protocols}
use Rattle.bg_upgrade.specs.declared.acceptance.Acceptance.{Acceptance}
use Rattle.bg_upgrade.specs.declared.acceptance.Acceptance.TheVariants.{Accepts, More, Other}
use Rattle.bg_upgrade.proofs.AcceptanceLemmas.{OneHead}

both : (a b : Bool) → (a && b) ≡ true → (a ≡ true) × (b ≡ true)
both true b e = (refl, e)
both false b e = cc

-- what a request that asks for an upgrade is like
pub record AskParts (request : Request) : Type 0 where
  pub minor : not (request.minor == 0) ≡ true
  pub body : is_none request.body ≡ true
  pub method : not (bytes_eq request.method (codes "CONNECT")) ≡ true
  pub connection : is_named_by_connection request.fields (codes "upgrade") ≡ true
  pub protocol : names_protocol request.fields ≡ true

pub asks : (request : Request) → asks_for_upgrade request ≡ true → AskParts request
asks request e =
    let parts = both (not (request.minor == 0) && is_none request.body && not (bytes_eq request.method (codes "CONNECT"))) _ e in
    let fronts = both (not (request.minor == 0) && is_none request.body) _ parts.0 in
    let first = both (not (request.minor == 0)) _ fronts.0 in
    let last = both (is_named_by_connection request.fields (codes "upgrade")) _ parts.1 in
    record { minor = first.0; body = first.1; method = fronts.1; connection = last.0; protocol = last.1 }

-- what a head that accepts an upgrade is like
pub record AcceptanceParts (request : Request) (head : ResponseHead) : Type 0 where
  pub minor : not (head.minor == 0) ≡ true
  pub code : (head.code == 101) ≡ true
  pub connection : is_named_by_connection head.fields (codes "upgrade") ≡ true
  pub protocol : names_protocol head.fields ≡ true
  pub asked : names_each_of request.fields head.fields ≡ true

pub accepts : (request : Request) (head : ResponseHead) → accepts_upgrade request head ≡ true → AcceptanceParts request head
accepts request head e =
    let parts = both (not (head.minor == 0) && (head.code == 101) && has_upgrade head.fields) _ e in
    let fronts = both (not (head.minor == 0) && (head.code == 101)) _ parts.0 in
    let first = both (not (head.minor == 0)) _ fronts.0 in
    let last = both (is_named_by_connection head.fields (codes "upgrade")) _ fronts.1 in
    record { minor = first.0; code = first.1; connection = last.0; protocol = last.1; asked = parts.1 }

-- the fields that are sent say the same of protocols
same_protocols : (came sent : List Field) → protocols sent ≡ protocols came → names_protocol came ≡ true
    → names_protocol sent ≡ true
same_protocols came sent e some = ap (list_any (λ protocol. not (is_empty protocol))) e ∙ some

names_upgrade : List (List ℕ) → Bool
names_upgrade elements = list_any (λ element. str_eq_ignore_ascii_case element (codes "upgrade")) elements

pub still_asks : (request : Request) → SpeaksOf request.fields (fields_to_endpoint request) → asks_for_upgrade request ≡ true
    → asks_for_upgrade (bare_request (head_to_endpoint request)) ≡ true
unfolding names_upgrade
still_asks request speaks e =
    let was = asks request e in
    let named : is_named_by_connection (head_to_endpoint request).fields (codes "upgrade") ≡ true
    = ap names_upgrade speaks.connection_is in
    let some = same_protocols request.fields (head_to_endpoint request).fields speaks.protocols_are was.protocol in
    ap₂ (λ a b. a && b) was.method (ap₂ (λ a b. a && b) named some)

pub still_accepts : (request : Request) (head : ResponseHead) → SpeaksOf head.fields (fields_to_client head)
    → accepts_upgrade request head ≡ true → accepts_upgrade request (head_to_client head) ≡ true
unfolding names_upgrade
still_accepts request head speaks e =
    let was = accepts request head e in
    let named : is_named_by_connection (fields_to_client head) (codes "upgrade") ≡ true
    = ap names_upgrade speaks.connection_is in
    let some = same_protocols head.fields (fields_to_client head) speaks.protocols_are was.protocol in
    let each : names_each_of request.fields (fields_to_client head) ≡ true
    = ap (list_all (λ protocol. is_empty protocol || names_this request.fields protocol)) speaks.protocols_are ∙ was.asked in
    ap₂ (λ a b. a && b) (ap₂ (λ a b. a && b) was.code (ap₂ (λ a b. a && b) named some)) each

-- ---- an acceptance takes protocols that were asked for

some_passes : {A : Type 0} (test : A → Bool) (xs : List A) → list_any test xs ≡ true
    → (x : A) × Contains xs x × (test x ≡ true)
some_passes {A} test [] e = cc
some_passes {A} test (x ∷ xs) e = by_test (test x) refl e (some_passes test xs)
  where
    by_test : (t : Bool) → test x ≡ t → (t || list_any test xs) ≡ true
        → (list_any test xs ≡ true → (y : A) × Contains xs y × (test y ≡ true))
        → (y : A) × Contains (x ∷ xs) y × (test y ≡ true)
    by_test true passes h later = (x, (0, omega arith, refl), passes)
    by_test false passes h later =
        let found = later h in
        let at = found.1 in
        (found.0, (suc at.0, omega (arith, at.1), at.2), found.2)

is_or : (a b : Bool) → (a || b) ≡ true → a ≡ false → b ≡ true
is_or true b e f = cc
is_or false b e f = e

pub is_not : (b : Bool) → not b ≡ true → b ≡ false
is_not true e = cc
is_not false e = refl

pub takes_asked : (request : Request) (head : ResponseHead) → accepts_upgrade request head ≡ true
    → TakesAsked request head
takes_asked request head e =
    let was = accepts request head e in
    let found = some_passes (λ protocol. not (is_empty protocol)) (protocols head.fields) was.protocol in
    record {
      code_is = eqb-true head.code 101 was.code;
      connection = was.connection;
      protocol = found.0;
      is_protocol = is_not (is_empty found.0) found.2;
      named = found.1;
      asked = λ each contained some.
          is_or (is_empty each) (names_this request.fields each)
          (subst (λ p. (is_empty p || names_this request.fields p) ≡ true) contained.2
          (AllPass-from_list_all (λ protocol. is_empty protocol || names_this request.fields protocol)
          (protocols head.fields) was.asked contained.0 each contained.1))
          some;
    }

-- ---- the answers

pub one_answer : OneHead → (request : Request) (bytes : List ℕ) (head : ResponseHead) (rest : List ℕ) (found : Acceptance)
    → ReadsResponseHead bytes head rest → FindsAcceptance request bytes found
    → found ≡ judgement request head (length bytes - length rest)
one_answer one request bytes head rest More reads (few, none, may) = absurd (none reads.tree rest reads.reads)
one_answer one request bytes head rest (Accepts other taken) reads (fits, (again, takes)) =
    let same = one bytes [] head other rest (drop taken bytes) reads
    (subst (λ l. ReadsResponseHead l other (drop taken bytes)) (sym (append-nil bytes)) again) in
    let long : taken ≡ length bytes - length rest
    = omega (arith, fits, length-drop taken bytes, ap length (same.1 ∙ append-nil rest)) in
    ap₂ Accepts same.0 long
    ∙ sym (ap (λ t. if t then Accepts head (length bytes - length rest) else Other)
    (ap (accepts_upgrade request) (sym same.0) ∙ takes))
one_answer one request bytes head rest Other reads never =
    sym (ap (λ t. if t then Accepts head (length bytes - length rest) else Other)
    (never [] head rest (subst (λ l. ReadsResponseHead l head rest) (sym (append-nil bytes)) reads)))
