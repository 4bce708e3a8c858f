-- The settings that the arguments of `serve` give.
use Rattle.std.specs.Prelude.{◌≡◌, ◌≤◌, ◌/◌, max, ℕ, Bool, List, codes, Option, Some, None, IfSome, is_some, false, true, option_map, unwrap_or}
use Rattle.std.specs.Option.{option_map_or}
use Rattle.std.specs.Str.{bytes_eq}
use Rattle.std.specs.Str.Parse.{digits_value, without_leading_plus}
use Rattle.clap.specs.Words.{Row, Text, first_of}
use Rattle.bg_command_line.specs.Addresses.{IsEndpointAddress}
use Rattle.bg_command_line.specs.ListenAddresses.{AreListenAddresses, listed, listen_texts}
use Rattle.bg_command_line.specs.declared.invocation.Connections.{Connections}
use Rattle.bg_command_line.specs.declared.invocation.Connections.TheVariants.{Count, Forever}
use Rattle.bg_command_line.specs.declared.invocation.ControlSocket.{ControlSocket}
use Rattle.bg_command_line.specs.declared.invocation.Flags.{Flags}
use Rattle.bg_command_line.specs.declared.invocation.KeepAlive.{KeepAlive}
use Rattle.bg_command_line.specs.declared.invocation.ServeSettings.{ServeSettings}

-- the number that a text of digits stands for
abbrev pub number : Text → ℕ
number t = digits_value 10 (without_leading_plus t)

-- the number of an argument, if it is given
abbrev pub number_of : Text → List Row → Option ℕ
number_of id rows = option_map number (first_of id rows)

-- the number is in this range
abbrev pub IsBetween : ℕ → ℕ → ℕ → Type 0
IsBetween least most n = (least ≤ n) × (n ≤ most)

-- the argument is given with this number, which is in this range
abbrev pub IsGiven : ℕ → ℕ → Text → List Row → ℕ → Type 0
IsGiven least most id rows n = (number_of id rows ≡ Some n) × IsBetween least most n

-- the number of connections that each worker takes: the number of `--count`, or no limit if
-- `--forever` is given
abbrev pub AreConnections : Bool → List Row → Connections → Type 0
AreConnections forever rows (Count n) =
    (forever ≡ false) × IsGiven 1 1000000 (codes "count") rows n
AreConnections forever rows Forever = forever ≡ true

-- the number of workers: that of `--workers`, or of `--concurrency` if this is given
abbrev pub AreWorkers : Bool → List Row → ℕ → Type 0
AreWorkers concurrency rows n =
    (concurrency ≡ false → IsGiven 1 7 (codes "workers") rows n)
    × (concurrency ≡ true → IsGiven 1 1023 (codes "concurrency") rows n)

-- the number of workers of the preview port if `--preview-concurrency` is not given: 1 beside `--workers`, and
-- beside `--concurrency` an eighth of its number, at least 1
abbrev pub default_preview_workers : Bool → ℕ → ℕ
default_preview_workers false workers = 1
default_preview_workers true workers = max (workers / 8) 1

-- the flag is given
abbrev pub has_flag : Text → List Row → Bool
has_flag id rows = option_map_or (λ t. bytes_eq t (codes "true")) (first_of id rows) false

-- the mode of the file of the control socket: that of `--control-socket-mode`, or 600
abbrev pub IsMode : List Row → ℕ → Type 0
IsMode rows mode = (mode ≡ unwrap_or (number_of (codes "control-socket-mode") rows) 600) × IsBetween 1 777 mode

-- the control socket that the arguments give: a path, a mode, and maybe a group
abbrev pub IsControlSocket : List Row → Option ControlSocket → Type 0
IsControlSocket rows None = first_of (codes "control-socket") rows ≡ None
IsControlSocket rows (Some socket) = (first_of (codes "control-socket") rows ≡ Some socket.path.now)
    × IsMode rows socket.mode
    × (option_map (λ group. group.now) socket.group ≡ first_of (codes "control-socket-group") rows)

-- how connections are kept: for as long as the arguments say, or for 75 seconds, 1,000 requests, and 60 seconds at an endpoint
pub record AreKept (rows : List Row) (kept : KeepAlive) : Type 0 where
  pub seconds_are : kept.seconds ≡ unwrap_or (number_of (codes "keep-alive-timeout") rows) 75
  pub seconds_range : IsBetween 1 3600 kept.seconds
  pub requests_are : kept.requests ≡ unwrap_or (number_of (codes "keep-alive-requests") rows) 1000
  pub requests_range : IsBetween 1 1000000 kept.requests
  pub endpoint_seconds_are : kept.endpoint_seconds ≡ unwrap_or (number_of (codes "endpoint-keep-alive-timeout") rows) 60
  pub endpoint_seconds_range : IsBetween 1 3600 kept.endpoint_seconds

-- connections are kept if `--keep-alive` is given, and only then
abbrev pub IsKeepAlive : List Row → Option KeepAlive → Type 0
IsKeepAlive rows None = has_flag (codes "keep-alive") rows ≡ false
IsKeepAlive rows (Some kept) = (has_flag (codes "keep-alive") rows ≡ true) × AreKept rows kept

-- the arguments of `serve`
pub record IsServe (flags : Flags) (rows : List Row) (settings : ServeSettings) : Type 0 where
  pub active_is : IsGiven 1 65535 (codes "active") rows settings.active
  pub preview_is : settings.preview ≡ number_of (codes "preview") rows
  pub preview_range : IfSome settings.preview (IsBetween 1 65535)
  pub listen_is : AreListenAddresses (listen_texts rows) (listed settings.listen)
  pub control_is : settings.control ≡ number_of (codes "control") rows
  pub control_range : IfSome settings.control (IsBetween 1 65535)
  pub control_given : flags.socket ≡ false → is_some settings.control ≡ true
  pub control_socket_is : IsControlSocket rows settings.control_socket
  pub control_socket_given : flags.socket ≡ true → is_some settings.control_socket ≡ true
  pub workers_are : AreWorkers flags.concurrency rows settings.workers
  pub preview_workers_are : settings.preview_workers ≡ unwrap_or (number_of (codes "preview-concurrency") rows)
      (default_preview_workers flags.concurrency settings.workers)
  pub preview_workers_range : IsBetween 1 1023 settings.preview_workers
  pub threads_are : settings.threads ≡ number_of (codes "threads") rows
  pub threads_range : IfSome settings.threads (IsBetween 1 64)
  pub redispatch_is : settings.redispatch ≡ has_flag (codes "redispatch") rows
  pub endpoint_limit_is : settings.endpoint_limit ≡ number_of (codes "endpoint-limit") rows
  pub endpoint_limit_range : IfSome settings.endpoint_limit (IsBetween 1 1023)
  pub endpoint_address_is : IsEndpointAddress rows settings.endpoint_address
  pub abort_on_close_is : settings.abort_on_close ≡ has_flag (codes "abort-on-close") rows
  pub shutdown_grace_is : settings.shutdown_grace ≡ unwrap_or (number_of (codes "shutdown-grace") rows) 1
  pub shutdown_grace_range : IsBetween 1 60 settings.shutdown_grace
  pub shutdown_timeout_is : settings.shutdown_timeout ≡ unwrap_or (number_of (codes "shutdown-timeout") rows) 60
  pub shutdown_timeout_range : IsBetween 1 3600 settings.shutdown_timeout
  pub error_pages_is : settings.error_pages ≡ has_flag (codes "error-pages") rows
  pub stream_is : settings.stream ≡ has_flag (codes "stream") rows
  pub buffer_is : settings.buffer ≡ number_of (codes "buffer") rows
  pub buffer_range : IfSome settings.buffer (IsBetween 16384 1048576)
  pub max_request_body_is : settings.max_request_body ≡ number_of (codes "max-request-body") rows
  pub max_request_body_range : IfSome settings.max_request_body (IsBetween 65536 1099511627776)
  pub max_response_body_is : settings.max_response_body ≡ number_of (codes "max-response-body") rows
  pub max_response_body_range : IfSome settings.max_response_body (IsBetween 65536 1099511627776)
  pub silence_is : settings.silence ≡ number_of (codes "silence") rows
  pub silence_range : IfSome settings.silence (IsBetween 1 3600)
  pub forwarded_is : settings.forwarded ≡ has_flag (codes "forwarded") rows
  pub trust_forwarded_is : settings.trust_forwarded ≡ has_flag (codes "trust-forwarded") rows
  pub upgrade_is : settings.upgrade ≡ has_flag (codes "upgrade") rows
  pub keep_alive_is : IsKeepAlive rows settings.keep_alive
  pub journal_is : option_map (λ path. path.now) settings.journal ≡ first_of (codes "journal") rows
  pub connections_are : AreConnections flags.forever rows settings.connections
