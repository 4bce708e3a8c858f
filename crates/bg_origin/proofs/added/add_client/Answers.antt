use Rattle.std.proofs.Common.{[], ◌∷◌, ◌++◌, ap, ◌∙◌}
use Rattle.std.specs.Prelude.{codes}
use Rattle.bg_origin.proofs.added.add_client.Goals as goal

pub returns : goal.returns
returns c =
    c.in_ok-add.ensures.ok
    ∙ ap (λ v. c.args.fields.now ++ (codes "X-Forwarded-For", v) ∷ []) (c.as_slice.ensures.value ∙ c.in_ok-client.ensures)
