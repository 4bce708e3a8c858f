use Rattle.bg_strategy_text.proofs.NoFault.{active_there, is_there}
use Rattle.serde_json.specs.View.{view}
use Rattle.bg_strategy_text.proofs.reading.strategy_of.Goals as goal

pub unwrap-active_service-requires : goal.unwrap-active_service-requires
unwrap-active_service-requires c =
    let there = active_there (view c.args.document.now) c.requires in
    is_there _ _ there.0 c.in_ok-name_of.ensures there.1
