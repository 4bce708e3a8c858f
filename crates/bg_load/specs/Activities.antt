-- What a connection does now.
use Rattle.std.specs.Prelude.{ℕ, Bool, true, false, nat_le}
use Rattle.bg_load.specs.declared.activity.Activity.{Activity}
use Rattle.bg_load.specs.declared.activity.Activity.TheVariants as activity

-- how many bytes a connection has moved in what it does
abbrev pub moved : Activity → ℕ
moved activity.Idle = 0
moved (activity.Arriving bytes) = bytes
moved (activity.Waiting bytes) = 0
moved activity.Inside = 0
moved (activity.Answering weight written) = written
moved (activity.Lingering bytes) = bytes

-- a request is arriving that is large: 32,768 bytes of it came
abbrev pub is_large : Activity → Bool
is_large activity.Idle = false
is_large (activity.Arriving bytes) = nat_le 32768 bytes
is_large (activity.Waiting bytes) = false
is_large activity.Inside = false
is_large (activity.Answering weight written) = false
is_large (activity.Lingering bytes) = false

abbrev pub is_arriving : Activity → Bool
is_arriving activity.Idle = false
is_arriving (activity.Arriving bytes) = true
is_arriving (activity.Waiting bytes) = false
is_arriving activity.Inside = false
is_arriving (activity.Answering weight written) = false
is_arriving (activity.Lingering bytes) = false

abbrev pub is_idle : Activity → Bool
is_idle activity.Idle = true
is_idle (activity.Arriving bytes) = false
is_idle (activity.Waiting bytes) = false
is_idle activity.Inside = false
is_idle (activity.Answering weight written) = false
is_idle (activity.Lingering bytes) = false

-- the response of the connection is written
abbrev pub is_answering : Activity → Bool
is_answering activity.Idle = false
is_answering (activity.Arriving bytes) = false
is_answering (activity.Waiting bytes) = false
is_answering activity.Inside = false
is_answering (activity.Answering weight written) = true
is_answering (activity.Lingering bytes) = false

-- the connection was answered, and still takes its response or is in its lingering close
abbrev pub is_answered : Activity → Bool
is_answered activity.Idle = false
is_answered (activity.Arriving bytes) = false
is_answered (activity.Waiting bytes) = false
is_answered activity.Inside = false
is_answered (activity.Answering weight written) = true
is_answered (activity.Lingering bytes) = true

-- a connection still does what it did before: the same, and no fewer bytes are moved. With fewer bytes, it is another
-- request or response
abbrev pub continues : Activity → Activity → Bool
continues activity.Idle activity.Idle = true
continues (activity.Arriving before) (activity.Arriving after) = nat_le before after
continues (activity.Waiting before) (activity.Waiting after) = true
continues activity.Inside activity.Inside = true
continues (activity.Answering weight before) (activity.Answering other after) = nat_le before after
continues (activity.Lingering before) (activity.Lingering after) = nat_le before after
continues one other = false
