-- The laws of upgrades.
use Rattle.std.specs.Prelude.{◌≡◌, ℕ, ◌-◌, Bool, true, false, List, [], ◌∷◌, ◌++◌, length, take, drop, codes, Contains, Err}
use Rattle.std.specs.Str.{str_eq_ignore_ascii_case}
use Rattle.bg_http.specs.Codings.{is_empty}
use Rattle.bg_http.specs.Elements.{Field, elements_named, has_field}
use Rattle.bg_http.specs.Removed.{is_named_by_connection, kept_in_request, kept_in_response}
use Rattle.bg_http.specs.ResponseRules.{framing_within}
use Rattle.bg_http.specs.Texts.{request_head_text}
use Rattle.bg_http.specs.declared.request.Request.{Request}
use Rattle.bg_http.specs.declared.response.ResponseHead.{ResponseHead}
use Rattle.bg_http.specs.declared.response_fault.ResponseFault.TheVariants as fault
use Rattle.bg_http_read.specs.Heads.{ReadsResponseHead, request_heads, response_heads}
use Rattle.bg_http_read.specs.PlainHeads.{IsReadOnlyAs}
use Rattle.bg_http_read.specs.Requests.{ReadsRequest}
use Rattle.bg_upgrade.specs.HeadTexts.{acceptance_text, upgrade_fields, upgrade_lines, upgrade_text}
use Rattle.bg_upgrade.specs.Acceptances.{FindsAcceptance, IsAcceptance, judgement}
use Rattle.bg_upgrade.specs.SentHeads.{bare_request, head_to_client, head_to_endpoint}
use Rattle.bg_upgrade.specs.Upgrades.{accepts_upgrade, asks_for_upgrade, names_this, protocols}
use Rattle.bg_upgrade.specs.declared.acceptance.Acceptance.{Acceptance}
use Rattle.bg_upgrade.specs.declared.acceptance.Acceptance.TheVariants.{Accepts}

-- the head of an upgrade is the one of an ordinary request, to any port, but for its last lines
abbrev pub DiffersAtEnd : Request → ℕ → Type 0
DiffersAtEnd request port =
    asks_for_upgrade request ≡ true
    → (front : List ℕ) × (request_head_text true request port ≡ front ++ codes "\r\n")
    × (upgrade_text request ≡ front ++ upgrade_lines request.fields)

-- of the fields that came, those that Connection names are not forwarded with an upgrade, except Host and Upgrade
abbrev pub StaysWhereNamed : List Field → List ℕ → Type 0
StaysWhereNamed fields name =
    is_named_by_connection fields name ≡ true → str_eq_ignore_ascii_case name (codes "host") ≡ false
    → str_eq_ignore_ascii_case (codes "upgrade") name ≡ false
    → (has_field name (kept_in_request fields ++ upgrade_fields fields) ≡ false)
    × (has_field name (kept_in_response fields ++ upgrade_fields fields) ≡ false)

-- the fields that are sent name exactly the protocols of those that came; their Connection names Upgrade and nothing else; and none
-- of them gives the end of a body
pub record SpeaksOf (came sent : List Field) : Type 0 where
  pub protocols_are : protocols sent ≡ protocols came
  pub connection_is : elements_named (codes "connection") sent ≡ codes "upgrade" ∷ []
  pub no_length : has_field (codes "content-length") sent ≡ false
  pub no_codings : has_field (codes "transfer-encoding") sent ≡ false

-- the text of a request that asks for an upgrade is read as this head, and then what follows
abbrev pub IsReadAsUpgrade : Request → List ℕ → Type 0
IsReadAsUpgrade request more =
    (input rest : List ℕ) → ReadsRequest input request rest → asks_for_upgrade request ≡ true
    → IsReadOnlyAs request_heads (upgrade_text request ++ more) (head_to_endpoint request) more

-- what the endpoint reads asks for an upgrade, too
abbrev pub StillAsks : Request → Type 0
StillAsks request =
    asks_for_upgrade request ≡ true → asks_for_upgrade (bare_request (head_to_endpoint request)) ≡ true

-- the text of an acceptance is read as this head, and then what follows
abbrev pub IsReadAsAcceptance : Request → List ℕ → ResponseHead → List ℕ → List ℕ → Type 0
IsReadAsAcceptance request bytes head rest more =
    IsAcceptance request bytes head rest
    → IsReadOnlyAs response_heads (acceptance_text head ++ more) (head_to_client head) more

-- what the client reads accepts the upgrade, too
abbrev pub StillAccepts : Request → ResponseHead → Type 0
StillAccepts request head =
    accepts_upgrade request head ≡ true → accepts_upgrade request (head_to_client head) ≡ true

-- the code is 101, Connection names Upgrade, the head names a protocol, and the request named each one that the head names
pub record TakesAsked (request : Request) (head : ResponseHead) : Type 0 where
  pub code_is : head.code ≡ 101
  pub connection : is_named_by_connection head.fields (codes "upgrade") ≡ true
  pub protocol : List ℕ
  pub is_protocol : is_empty protocol ≡ false
  pub named : Contains (protocols head.fields) protocol
  pub asked : (each : List ℕ) → Contains (protocols head.fields) each → is_empty each ≡ false
      → names_this request.fields each ≡ true

abbrev pub AcceptanceTakesAsked : Request → List ℕ → ResponseHead → ℕ → Type 0
AcceptanceTakesAsked request bytes head taken =
    FindsAcceptance request bytes (Accepts head taken) → TakesAsked request head

-- the rules of ordinary responses refuse a head that accepts an upgrade
abbrev pub IsNoResponse : ℕ → Bool → Request → ResponseHead → Type 0
IsNoResponse most to_head request head =
    accepts_upgrade request head ≡ true → framing_within most to_head head ≡ Err fault.Bad

-- bytes that begin with a head have one answer: the acceptance, if the head accepts the upgrade, and otherwise that there is none
abbrev pub HasOneAnswer : Request → List ℕ → ResponseHead → List ℕ → Acceptance → Type 0
HasOneAnswer request bytes head rest found =
    ReadsResponseHead bytes head rest → FindsAcceptance request bytes found
    → found ≡ judgement request head (length bytes - length rest)

-- whatever follows the bytes of its head, an acceptance is the same, and leaves exactly what follows
abbrev pub IsDecidedByHead : Request → List ℕ → ResponseHead → ℕ → List ℕ → Type 0
IsDecidedByHead request bytes head taken behind =
    FindsAcceptance request bytes (Accepts head taken)
    → FindsAcceptance request (take taken bytes ++ behind) (Accepts head taken)
    × (drop taken (take taken bytes ++ behind) ≡ behind)
