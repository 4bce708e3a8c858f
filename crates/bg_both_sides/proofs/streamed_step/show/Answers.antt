use Rattle.std.proofs.Common.{◌∙◌, ap, refl}
use Rattle.bg_client_side.specs.Clients.{Client, may_pass_on, passed_at}
use Rattle.bg_client_side.specs.Stages.{is_passing_on}
use Rattle.bg_both_sides.specs.StreamedEvents.{begun_by, shows}
use Rattle.bg_both_sides.proofs.streamed_step.show.Goals as goal

pub returns : goal.returns
returns c =
    let old = c.args.client.now in
    let now = c.args.now in
    let head = c.persistence-head.result in
    let waits = c.has_rest-waits.result in
    let passing = is_passing_on (begun_by head now old).stage in (
      shows head (may_pass_on old) waits passing,
      record {
        head = head;
        begins = may_pass_on old;
        waits = waits;
        passes = passing;
        head_is = c.persistence-head.ensures;
        begins_is = refl;
        waits_is = c.has_rest-waits.ensures;
        passes_is = refl;
        telling_is = refl;
        new_is = c.passed_on.ensures ∙ ap (λ (between : Client). passed_at between.stage 0 waits now between) c.begin.ensures;
      },
    )
