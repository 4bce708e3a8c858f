-- How long an endpoint may be idle.
use Rattle.std.specs.Prelude.{ℕ, if◌then◌else◌, max}
use Rattle.bg_endpoints.specs.declared.response_timeout.ResponseTimeout.{ResponseTimeout}

-- the seconds in which no byte may come: 30, or the timeout if a longer one was given
abbrev pub idle_seconds : ResponseTimeout → ℕ
idle_seconds t = if t.is_given then max t.seconds 30 else 30
