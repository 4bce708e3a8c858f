-- The heads of an upgrade as they are sent.
use Rattle.std.specs.Prelude.{List, [], ◌∷◌, ◌++◌, codes, None}
use Rattle.bg_http.specs.Elements.{Field}
use Rattle.bg_http.specs.Removed.{kept_in_request, kept_in_response}
use Rattle.bg_http.specs.declared.request.Request.{Request}
use Rattle.bg_http.specs.declared.request.RequestHead.{RequestHead}
use Rattle.bg_http.specs.declared.response.ResponseHead.{ResponseHead}
use Rattle.bg_http_read.specs.ForwardedRequests.{via_field}
use Rattle.bg_upgrade.specs.HeadTexts.{upgrade_fields}

-- the field by which both heads name Upgrade
abbrev pub connection_field : Field
connection_field = (codes "Connection", codes "upgrade")

-- the fields of a request as it is forwarded as an upgrade, in order
abbrev pub fields_to_endpoint : Request → List Field
fields_to_endpoint request =
    kept_in_request request.fields
    ++ (via_field request ∷ (upgrade_fields request.fields ++ connection_field ∷ []))

-- its head
abbrev pub head_to_endpoint : Request → RequestHead
head_to_endpoint request = record {
  method = request.method;
  target = request.target;
  minor = 1;
  fields = fields_to_endpoint request;
}

-- the request that has the head and no body
abbrev pub bare_request : RequestHead → Request
bare_request head = record {
  method = head.method;
  target = head.target;
  minor = head.minor;
  fields = head.fields;
  body = None;
}

-- the fields of a response that accepts an upgrade, as it is forwarded, in order
abbrev pub fields_to_client : ResponseHead → List Field
fields_to_client head = kept_in_response head.fields ++ (upgrade_fields head.fields ++ connection_field ∷ [])

-- its head
abbrev pub head_to_client : ResponseHead → ResponseHead
head_to_client head =
    record { minor = 1; code = head.code; reason = head.reason; fields = fields_to_client head }
