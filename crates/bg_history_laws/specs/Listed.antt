-- The revisions that a past gives.
use Rattle.std.specs.Prelude.{ℕ, List, [], map, Option, Some, None}
use Rattle.bg_strategy.specs.declared.strategy.Strategy.{Strategy}
use Rattle.bg_revisions.specs.declared.revision.Revision.{Revision}
use Rattle.bg_history.specs.declared.entry.Entry.{Entry}
use Rattle.bg_history.specs.Kept.{Opening, Template}
use Rattle.bg_history.specs.Sizes.{existing, desired, available}
use Rattle.bg_history.specs.Templates.{template}

-- the revision with this number, template and sizes; every existing revision has a template
abbrev pub sized : ℕ → ℕ → ℕ → Option Template → Revision
sized r desired_size there None = record {
  number = r;
  name = [];
  ports = [];
  desired = desired_size;
  available = there;
}
sized r desired_size there (Some t) = record {
  number = r;
  name = t.name;
  ports = t.ports;
  desired = desired_size;
  available = there;
}

-- revision r
abbrev pub revision_of : Strategy → Opening → List Entry → ℕ → Revision
revision_of s o past r = sized r (desired s r past) (available r past) (template o r past)

-- the existing revisions, in ascending order of their numbers
abbrev pub revisions_of : Strategy → Opening → List Entry → List Revision
revisions_of s o past = map (revision_of s o past) (existing past)
