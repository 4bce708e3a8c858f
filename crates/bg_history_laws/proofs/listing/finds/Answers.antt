use Rattle.std.proofs.lemmas.List.{length-map}
use Rattle.bg_history.specs.Sizes.{existing}
use Rattle.bg_history_laws.specs.Listed.{revision_of}
use Rattle.bg_history_laws.proofs.Listed.Found.{listed-numbered}
use Rattle.bg_history_laws.proofs.listing.finds.Goals as goal

pub returns : goal.returns
returns c = record {
  number = listed-numbered;
  count = λ s o past. length-map (existing past) (revision_of s o past);
}
