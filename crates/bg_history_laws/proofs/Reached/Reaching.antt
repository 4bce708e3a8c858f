-- Everything that holds of a past whose entries were allowed.
use Rattle.std.proofs.Common.{◌≡◌, true, List, is_some, ap}
use Rattle.bg_strategy.specs.declared.strategy.Strategy.{Strategy}
use Rattle.bg_history.specs.declared.entry.Entry.{Entry}
use Rattle.bg_history.specs.Kept.{Opening}
use Rattle.bg_history.specs.Sizes.{existing, is_scaled, Ascends}
use Rattle.bg_history.specs.Deadlines.{exists_in}
use Rattle.bg_history.specs.Steps.{all_allowed}
use Rattle.bg_history_laws.specs.Reachable.{Reachable}
use Rattle.bg_history_laws.proofs.Tests.{and_parts}
use Rattle.bg_history_laws.proofs.Reached.Sizes.{desired-most, available-most}
use Rattle.bg_history_laws.proofs.Reached.Numbers as number
use Rattle.bg_history_laws.proofs.Reached.Unmarked.{active_unmarked}
use Rattle.bg_history_laws.proofs.Reached.Steady.{preview_unmarked}
use Rattle.bg_history_laws.proofs.Reached.Selected.{SelectedScaled, selected_scaled, selected_scaled-preview}
use Rattle.bg_history_laws.proofs.Reached.Marked.{marked}
use Rattle.bg_history_laws.proofs.Reached.Requests as requests

-- the file of each subject has the proof of its part
pub reaching : ((past : List Entry) → Ascends (existing past)) → (s : Strategy) (o : Opening) (past : List Entry) → all_allowed s o past ≡ true → Reachable s o past
reaching ascends s o past a =
    let represents : SelectedScaled s past = selected_scaled s o past a in
    record {
      active = represents.active;
      preview = selected_scaled-preview s past represents;
      stable = represents.stable;
      newest = represents.newest;
      desired_most = λ r. desired-most s r past;
      available_most = λ r. available-most s o r past a;
      given_from = λ r. number.given_from s o r past a;
      given_to = λ r. number.given_to r past;
      undeployed_size = λ r. number.undeployed_size s o r past a;
      undeployed_available = λ r. number.undeployed_available s o r past a;
      undeployed_template = λ r. number.undeployed_template o r past;
      templates = λ r. number.templates o r past;
      few = number.few s o past ascends a;
      numbers = number.numbers s o past a;
      marked_exists = λ r h. (and_parts (exists_in r past) (is_scaled s r past) (marked s o r past a h)).0;
      marked_scaled = λ r h. (and_parts (exists_in r past) (is_scaled s r past) (marked s o r past a h)).1;
      active_unmarked = ap is_some (active_unmarked s o past a);
      preview_unmarked = ap is_some (preview_unmarked s o past a);
      open_scaled = requests.open_scaled s o past a;
      unscaled_empty = λ r. requests.unscaled_empty s o r past a;
      moment = number.moment-most s o past a;
    }
