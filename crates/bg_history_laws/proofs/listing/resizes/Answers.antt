use Rattle.bg_history_laws.proofs.Listed.Changed.{listed-retry, listed-resumed, listed-scaled_down, listed-deploy, listed-deploy_stable}
use Rattle.bg_history_laws.proofs.listing.resizes.Goals as goal

pub returns : goal.returns
returns c = record {
  retry = listed-retry;
  resumed = listed-resumed;
  scaled_down = listed-scaled_down;
  deploy = λ s o past r name ports. listed-deploy s o past r name ports (c.existing_ascends.ensures past);
  deploy_stable = λ s o past r name ports. listed-deploy_stable s o past r name ports (c.existing_ascends.ensures past);
}
