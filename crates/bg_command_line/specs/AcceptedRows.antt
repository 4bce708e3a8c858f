-- What is known of the arguments that are accepted.
use Rattle.std.specs.Prelude.{◌≡◌, ◌≢◌, ℕ, List, codes, Some, is_some, false, true}
use Rattle.clap.specs.Words.{IsUnsignedIn, Row, Text, first_of}
use Rattle.bg_command_line.specs.declared.invocation.Flags.{Flags}

-- the argument is a number in this range, if it is given
abbrev pub IsIn : ℕ → ℕ → Text → List Row → Type 0
IsIn least most id rows = (t : Text) → first_of id rows ≡ Some t → IsUnsignedIn least most t

-- the argument is given, as a number in this range
abbrev pub IsNumber : ℕ → ℕ → Text → List Row → Type 0
IsNumber least most id rows =
    (is_some (first_of id rows) ≡ true) × IsIn least most id rows

-- the numbers among the words of `serve` are in their ranges; `--count` is given unless `--forever` is, `--workers` unless
-- `--concurrency` is, and `--control` unless `--control-socket` is
pub record HasWordsOfServe (flags : Flags) (rows : List Row) : Type 0 where
  pub active : IsNumber 1 65535 (codes "active") rows
  pub preview : IsIn 1 65535 (codes "preview") rows
  pub control : IsIn 1 65535 (codes "control") rows
  pub control_given : flags.socket ≡ false → is_some (first_of (codes "control") rows) ≡ true
  pub control_socket_given
      : flags.socket ≡ true → is_some (first_of (codes "control-socket") rows) ≡ true
  pub control_socket_mode : IsIn 1 777 (codes "control-socket-mode") rows
  pub workers : IsIn 1 7 (codes "workers") rows
  pub workers_given : flags.concurrency ≡ false → is_some (first_of (codes "workers") rows) ≡ true
  pub concurrency : IsIn 1 1023 (codes "concurrency") rows
  pub concurrency_given
      : flags.concurrency ≡ true → is_some (first_of (codes "concurrency") rows) ≡ true
  pub preview_concurrency : IsIn 1 1023 (codes "preview-concurrency") rows
  pub threads : IsIn 1 64 (codes "threads") rows
  pub endpoint_limit : IsIn 1 1023 (codes "endpoint-limit") rows
  pub shutdown_grace : IsIn 1 60 (codes "shutdown-grace") rows
  pub shutdown_timeout : IsIn 1 3600 (codes "shutdown-timeout") rows
  pub buffer : IsIn 16384 1048576 (codes "buffer") rows
  pub max_request_body : IsIn 65536 1099511627776 (codes "max-request-body") rows
  pub max_response_body : IsIn 65536 1099511627776 (codes "max-response-body") rows
  pub silence : IsIn 1 3600 (codes "silence") rows
  pub keep_alive_timeout : IsIn 1 3600 (codes "keep-alive-timeout") rows
  pub keep_alive_requests : IsIn 1 1000000 (codes "keep-alive-requests") rows
  pub endpoint_keep_alive_timeout : IsIn 1 3600 (codes "endpoint-keep-alive-timeout") rows
  pub count : IsIn 1 1000000 (codes "count") rows
  pub count_given : flags.forever ≡ false → is_some (first_of (codes "count") rows) ≡ true

-- what the name of an accepted subcommand says about its matches
pub record IsKnown (flags : Flags) (name : Text) (rows : List Row) : Type 0 where
  pub is_serve : name ≢ codes "check" → name ≢ codes "replay" → name ≢ codes "journal" → name ≡ codes "serve"
  pub seats : name ≡ codes "replay" → IsIn 1 8 (codes "seats") rows
  pub file : name ≡ codes "journal" → is_some (first_of (codes "file") rows) ≡ true
  pub words : name ≡ codes "serve" → HasWordsOfServe flags rows
