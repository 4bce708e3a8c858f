use Rattle.std.proofs.Common.{refl, ◌∙◌, arith}
use Rattle.bg_rollout.proofs.rollout.lifecycle.first_roster.Goals as goal

pub add-requires : goal.add-requires
add-requires c = record {
  fits = rw c.in_ok-roster.ensures c.requires;
  is_new = rw c.in_ok-roster.ensures refl;
  numbers = rw c.in_ok-roster.ensures (omega arith);
}

pub returns-in-Ok-clause-ok : goal.returns-in-Ok-clause-ok
returns-in-Ok-clause-ok c = c.in-Ok.ensures.added ∙ rw (c.in-Ok.ensures.number, c.in_ok-roster.ensures) refl
