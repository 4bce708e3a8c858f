-- How a request tells its endpoint where it comes from.
use Rattle.std.specs.Prelude.{◌≡◌, ℕ, ◌+◌, ◌^◌, ◌-◌, min, Bool, true, false, if◌then◌else◌}
use Rattle.std.specs.Prelude.{List, ◌++◌, Option, Some, None, codes}
use Rattle.std.specs.declared.net.ip_addr.IpAddr.{IpAddr}
use Rattle.bg_http.specs.Elements.{Field}
use Rattle.bg_http.specs.declared.request.Request.{Request}
use Rattle.bg_origin.specs.OriginFields.{origin_fields, with_field}
use Rattle.bg_origin.specs.RequestIds.{id_text}
use Rattle.bg_upgrade.specs.HeadTexts.{upgrade_fields}
use Rattle.bg_upgrade.specs.Upgrades.{asks_for_upgrade}
use Rattle.bg_both_sides.specs.Sides.{Sides}
use Rattle.bg_both_sides.specs.declared.endpoint_side.EndpointSide.TheVariants as side
use Rattle.bg_event_loop.specs.declared.settings.OriginSettings.{OriginSettings}

-- these fields, and behind them what asks for an upgrade: the Upgrade fields of the client, and a Connection field that names no
-- other one
abbrev pub with_upgrade : List Field → List Field → List Field
with_upgrade fields told = with_field (codes "Connection") (codes "upgrade") (told ++ upgrade_fields fields)

-- the fields by which a request that has this number in the book tells where it comes from
abbrev pub origin_of : OriginSettings → Option IpAddr → ℕ → List Field → List Field
origin_of settings client number fields =
    origin_fields settings.trusts_clients client
    (id_text settings.run (min (settings.number_offset + number) (2 ^ 64 - 1))) fields

-- the fields with which it is forwarded: it asks for an upgrade if the client does
abbrev pub told_fields : OriginSettings → Option IpAddr → ℕ → Request → List Field
told_fields settings client number request =
    if asks_for_upgrade request
    then with_upgrade request.fields (origin_of settings client number request.fields)
    else origin_of settings client number request.fields

-- the request that entered tells where it comes from, if requests do; without memory, or without such a request, nothing changes
abbrev pub TellsOrigin : Option OriginSettings → Option IpAddr → ℕ → Bool → Sides → Sides → Type 0
TellsOrigin None client number told old new = (told ≡ true) × (new ≡ old)
TellsOrigin (Some settings) client number true old new =
    (request : Request) × (old.endpoint ≡ side.Entered request)
    × (new ≡ record old { endpoint = side.Entered (record request { fields = told_fields settings client number request }) })
TellsOrigin (Some settings) client number false old new = new ≡ old
