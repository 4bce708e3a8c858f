-- Upgrades whose answers were worked out by hand. Evaluation alone proves each.
use Rattle.std.proofs.Common.{◌≡◌, ℕ, Bool, true, false, List, [], ◌∷◌, refl}
use Rattle.std.specs.Fmt.{digits}
use Rattle.std.specs.Prelude.{Option, Some, None, codes}
use Rattle.bg_http.specs.Elements.{Field}
use Rattle.bg_http.specs.declared.request.Request.{Request}
use Rattle.bg_http.specs.declared.response.ResponseHead.{ResponseHead}
use Rattle.bg_upgrade.specs.HeadTexts.{acceptance_text, upgrade_text}
use Rattle.bg_upgrade.specs.Upgrades.{accepts_upgrade, asks_for_upgrade}

-- a request for `/chat`
abbrev asking : List ℕ → ℕ → List Field → Option (List ℕ) → Request
asking method minor fields body = record {
  method = method;
  target = codes "/chat";
  minor = minor;
  fields = (codes "Host", codes "x") ∷ fields;
  body = body;
}

-- a GET in version 1.1 without a body
abbrev got : List Field → Request
got fields = asking (codes "GET") 1 fields None

abbrev connection : List ℕ → Field
connection value = (codes "Connection", value)

abbrev upgrade : List ℕ → Field
upgrade value = (codes "Upgrade", value)

-- the request of RFC 6455 section 1.3
abbrev websocket : List Field
websocket =
    upgrade (codes "websocket") ∷ connection (codes "Upgrade") ∷ (codes "Sec-WebSocket-Key", codes "dGhlIHNhbXBsZSBub25jZQ==")
    ∷ (codes "Sec-WebSocket-Version", codes "13") ∷ []

-- ---- which requests ask

asks : asks_for_upgrade (got websocket) ≡ true
asks = refl

asks_by_another_method : asks_for_upgrade (asking (codes "OPTIONS") 1 websocket None) ≡ true
asks_by_another_method = refl

asks_in_any_case : asks_for_upgrade (got ((codes "UPGRADE", codes "x") ∷ (codes "connection", codes "keep-alive,\tuPGRADE ") ∷ [])) ≡ true
asks_in_any_case = refl

asks_in_two_fields : asks_for_upgrade (got (connection (codes "close") ∷ connection (codes "upgrade") ∷ upgrade [] ∷ upgrade (codes ", h2c") ∷ [])) ≡ true
asks_in_two_fields = refl

not_in_1_0 : asks_for_upgrade (asking (codes "GET") 0 websocket None) ≡ false
not_in_1_0 = refl

not_with_a_body : asks_for_upgrade (asking (codes "GET") 1 websocket (Some (codes "hi"))) ≡ false
not_with_a_body = refl

not_with_an_empty_body : asks_for_upgrade (asking (codes "GET") 1 websocket (Some [])) ≡ false
not_with_an_empty_body = refl

not_to_connect : asks_for_upgrade (asking (codes "CONNECT") 1 websocket None) ≡ false
not_to_connect = refl

not_without_connection : asks_for_upgrade (got (upgrade (codes "websocket") ∷ [])) ≡ false
not_without_connection = refl

not_if_connection_names_others : asks_for_upgrade (got (upgrade (codes "websocket") ∷ connection (codes "keep-alive, upgrades") ∷ [])) ≡ false
not_if_connection_names_others = refl

not_without_a_protocol : asks_for_upgrade (got (upgrade (codes " ,, ") ∷ connection (codes "upgrade") ∷ [])) ≡ false
not_without_a_protocol = refl

not_without_upgrade : asks_for_upgrade (got (connection (codes "upgrade") ∷ [])) ≡ false
not_without_upgrade = refl

-- ---- how they are forwarded

websocket_goes_on : upgrade_text (got websocket)
    ≡ codes "GET /chat HTTP/1.1\r\nHost: x\r\nSec-WebSocket-Key: dGhlIHNhbXBsZSBub25jZQ==\r\nSec-WebSocket-Version: 13\r\nVia: 1.1 bg-switch\r\nUpgrade: websocket\r\nConnection: upgrade\r\n\r\n"
websocket_goes_on = refl

-- each Upgrade field goes on as it came, and no other field that Connection names
all_upgrades_go_on : upgrade_text (got ((codes "UPGRADE", codes "a, B/2") ∷ (codes "HTTP2-Settings", codes "A") ∷ connection (codes "HTTP2-Settings, Upgrade, close")
    ∷ (codes "Keep-Alive", codes "1") ∷ (codes "Expect", codes "100-continue") ∷ upgrade (codes "h2c") ∷ []))
    ≡ codes "GET /chat HTTP/1.1\r\nHost: x\r\nVia: 1.1 bg-switch\r\nUPGRADE: a, B/2\r\nUpgrade: h2c\r\nConnection: upgrade\r\n\r\n"
all_upgrades_go_on = refl

-- ---- which heads accept

abbrev answer : ℕ → ℕ → List Field → ResponseHead
answer minor code fields =
    record { minor = minor; code = code; reason = codes "Switching Protocols"; fields = fields }

abbrev accepted : List ℕ → List ℕ → Bool
accepted asked taken =
    accepts_upgrade (got (upgrade asked ∷ [])) (answer 1 101 (connection (codes "upgrade") ∷ upgrade taken ∷ []))

accepts : accepted (codes "websocket") (codes "WebSocket") ≡ true
accepts = refl

accepts_one_of_several : accepted (codes "a/1, b/2 ,c") (codes "B/2") ≡ true
accepts_one_of_several = refl

accepts_several : accepted (codes "a, b, c") (codes "c,,a,") ≡ true
accepts_several = refl

not_another : accepted (codes "websocket") (codes "h2c") ≡ false
not_another = refl

not_another_beside : accepted (codes "a, b") (codes "b, c") ≡ false
not_another_beside = refl

not_another_version : accepted (codes "a/1") (codes "a/2") ≡ false
not_another_version = refl

not_nothing : accepted (codes "a,") (codes ",") ≡ false
not_nothing = refl

abbrev took : ℕ → ℕ → List Field → Bool
took minor code fields = accepts_upgrade (got websocket) (answer minor code fields)

not_200 : took 1 200 (upgrade (codes "websocket") ∷ connection (codes "upgrade") ∷ []) ≡ false
not_200 = refl

not_101_in_1_0 : took 0 101 (upgrade (codes "websocket") ∷ connection (codes "upgrade") ∷ []) ≡ false
not_101_in_1_0 = refl

not_101_without_connection : took 1 101 (upgrade (codes "websocket") ∷ connection (codes "close") ∷ []) ≡ false
not_101_without_connection = refl

not_101_without_upgrade : took 1 101 (connection (codes "upgrade") ∷ []) ≡ false
not_101_without_upgrade = refl

-- ---- how they are forwarded

-- the fields that Connection names, and those that give the end of a body, stay
acceptance_goes_back : acceptance_text (answer 1 101 ((codes "upgrade", codes "websocket") ∷ (codes "Content-Length", codes "5")
    ∷ (codes "Transfer-Encoding", codes "chunked") ∷ connection (codes "Upgrade, X-Drop") ∷ (codes "X-Drop", codes "1")
    ∷ (codes "Sec-WebSocket-Accept", codes "s3pPLMBiTxaQ9kYGzzhZRbK+xOo=") ∷ upgrade (codes "b") ∷ []))
    ≡ codes "HTTP/1.1 101 Switching Protocols\r\nSec-WebSocket-Accept: s3pPLMBiTxaQ9kYGzzhZRbK+xOo=\r\nupgrade: websocket\r\nUpgrade: b\r\nConnection: upgrade\r\n\r\n"
unfolding digits
acceptance_goes_back = refl
