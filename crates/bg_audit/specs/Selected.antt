-- The revisions that a state selects.
use Rattle.std.specs.Prelude.{ℕ, Bool, if◌then◌else◌, ◌==◌, ◌||◌}
use Rattle.bg_audit.specs.declared.audited_state.AuditedState.{AuditedState}

-- r is active, preview or stable
abbrev pub selects_in : AuditedState → ℕ → Bool
selects_in c r =
    (r == c.active) || (r == (if c.running then c.newest else c.stable)) || (r == c.stable)
