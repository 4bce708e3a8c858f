use Rattle.std.proofs.Common.{◌≡◌, ap, subst, ◌∙◌}
use Rattle.std.specs.Prelude.{OnOk, codes}
use Rattle.std.specs.Option.{option_map}
use Rattle.bg_origin.specs.Forwardeds.{forwarded_value}
use Rattle.bg_origin.specs.OriginFields.{with_field, with_host, with_missing}
use Rattle.bg_origin.proofs.added.add_origin.Goals as goal

pub returns : goal.returns
returns c =
    let host = option_map (λ h. h.now) c.args.host in
    let told = c.in_ok-add_forwarded.ensures
    ∙ ap (with_field (codes "Forwarded") (forwarded_value c.args.origin.now.client host)) (c.in_ok-add_host.ensures
    ∙ ap (with_host host) (c.in_ok-add_missing.ensures
    ∙ ap (with_missing (codes "X-Forwarded-Proto") (codes "http")) c.in_ok-add_client.ensures)) in
    subst (λ f. OnOk c.add_missing-2.result
    (c.add_missing-2.new.fields ≡ with_missing (codes "X-Request-Id") c.args.origin.now.request_id.now f))
    told c.add_missing-2.ensures
