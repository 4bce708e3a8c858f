use Rattle.std.proofs.Common.{◌<◌, subst}
use Rattle.bg_endpoint_side.proofs.KeptLemmas.{none_is_idle}
use Rattle.bg_endpoint_side.proofs.kept_connections.idle_place.Goals as goal

pub returns-then-saturating_sub-timeout : goal.returns-then-saturating_sub-timeout
returns-then-saturating_sub-timeout c =
    none_is_idle c.args.timeout c.args.now c.args.connections.now (record { key = 0; port = 0; since = 0 })
    c.in-len1-up.len_at_least (subst (λ idle. idle < c.args.timeout) c.saturating_sub.ensures c.if-saturating_sub-timeout.true)
    c.requires
