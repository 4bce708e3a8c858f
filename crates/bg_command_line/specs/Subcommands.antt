-- The program's subcommands, with the rules of their options.
use Rattle.std.specs.Prelude.{Bool, [], codes, not, true}
use Rattle.clap.specs.Words.{App, Rule, new_app, with_rule, with_subcommand}
use Rattle.bg_command_line.specs.OptionRules.{flag_rule, flag_rule_required_if, number_rule, range_rule, required_rule, rule_required_if, text_rule, text_rule_required_if, texts_rule, word_rule_required_if}
use Rattle.bg_command_line.specs.declared.invocation.Flags.{Flags}

-- `check`
abbrev pub check_app : App
check_app = new_app (codes "check")

-- `replay [--seats N]`
abbrev pub replay_app : App
replay_app = with_rule (new_app (codes "replay")) (number_rule (codes "seats") 8)

-- `journal [--restart] [--ports PORTS] FILE`
abbrev pub journal_app : App
journal_app = with_rule (with_rule (with_rule (new_app (codes "journal")) (flag_rule (codes "restart")))
    (text_rule (codes "ports")))
    (word_rule_required_if true (codes "file"))

-- `--active P [--preview P] [--listen ADDRESS]..`
abbrev pub with_port_rules : App → App
with_port_rules a = with_rule (with_rule (with_rule a (required_rule (codes "active") 65535))
    (number_rule (codes "preview") 65535))
    (texts_rule (codes "listen"))

-- `--control P`, `--control-socket PATH`, `[--control-socket-mode MODE]` and `[--control-socket-group GROUP]`; of the first
-- two the second is required if `socket` holds, else the first
abbrev pub with_control_rules : Bool → App → App
with_control_rules socket a = with_rule (with_rule (with_rule (with_rule a
    (rule_required_if (not socket) (codes "control") 65535))
    (text_rule_required_if socket (codes "control-socket")))
    (number_rule (codes "control-socket-mode") 777))
    (text_rule (codes "control-socket-group"))

-- `--count K`, with K from 1 to 1,000,000, which is required unless `--forever` is given
abbrev pub count_rule : Bool → Rule
count_rule forever = record (number_rule (codes "count") 1000000) { required = not forever }

-- `--forever`, which is required if the words have it
abbrev pub forever_rule : Bool → Rule
forever_rule forever = flag_rule_required_if forever (codes "forever")

-- `--workers N`, `--concurrency N`, `[--preview-concurrency M]` and `[--threads N]`; of the first two the second is
-- required if `concurrency` holds, else the first
abbrev pub with_worker_rules : Bool → App → App
with_worker_rules concurrency a = with_rule (with_rule (with_rule (with_rule a
    (rule_required_if (not concurrency) (codes "workers") 7))
    (rule_required_if concurrency (codes "concurrency") 1023))
    (number_rule (codes "preview-concurrency") 1023))
    (number_rule (codes "threads") 64)

-- `[--redispatch] [--endpoint-limit M] [--endpoint-address ADDRESS]`
abbrev pub with_endpoint_rules : App → App
with_endpoint_rules a = with_rule (with_rule (with_rule a (flag_rule (codes "redispatch")))
    (number_rule (codes "endpoint-limit") 1023))
    (text_rule (codes "endpoint-address"))

-- `[--abort-on-close] [--shutdown-grace S] [--shutdown-timeout S] [--error-pages]`
abbrev pub with_client_rules : App → App
with_client_rules a = with_rule (with_rule (with_rule (with_rule a (flag_rule (codes "abort-on-close")))
    (number_rule (codes "shutdown-grace") 60))
    (number_rule (codes "shutdown-timeout") 3600))
    (flag_rule (codes "error-pages"))

-- `[--stream] [--buffer N] [--max-request-body N] [--max-response-body N] [--silence S] [--forwarded] [--trust-forwarded] [--upgrade]`
abbrev pub with_message_rules : App → App
with_message_rules a = with_rule (with_rule (with_rule (with_rule (with_rule (with_rule (with_rule (with_rule a (flag_rule (codes "stream")))
    (range_rule (codes "buffer") 16384 1048576))
    (range_rule (codes "max-request-body") 65536 1099511627776))
    (range_rule (codes "max-response-body") 65536 1099511627776))
    (number_rule (codes "silence") 3600))
    (flag_rule (codes "forwarded")))
    (flag_rule (codes "trust-forwarded")))
    (flag_rule (codes "upgrade"))

-- `[--keep-alive] [--keep-alive-timeout S] [--keep-alive-requests N] [--endpoint-keep-alive-timeout S]`
abbrev pub with_keep_alive_rules : App → App
with_keep_alive_rules a = with_rule (with_rule (with_rule (with_rule a (flag_rule (codes "keep-alive")))
    (number_rule (codes "keep-alive-timeout") 3600))
    (number_rule (codes "keep-alive-requests") 1000000))
    (number_rule (codes "endpoint-keep-alive-timeout") 3600)

-- `[--journal FILE]`
abbrev pub with_journal_rule : App → App
with_journal_rule a = with_rule a (text_rule (codes "journal"))

-- `--count K` and `--forever`; the second is required if `forever` holds, else the first
abbrev pub with_connection_rules : Bool → App → App
with_connection_rules forever a = with_rule (with_rule a (count_rule forever)) (forever_rule forever)

-- `serve --active P [--preview P] [--listen ADDRESS].. [--control-socket-mode MODE] [--control-socket-group GROUP]
-- [--preview-concurrency M] [--threads N] [--redispatch] [--endpoint-limit M] [--endpoint-address ADDRESS] [--abort-on-close]
-- [--shutdown-grace S] [--shutdown-timeout S] [--error-pages] [--stream] [--buffer N] [--max-request-body N]
-- [--max-response-body N] [--silence S] [--forwarded] [--trust-forwarded] [--upgrade] [--keep-alive] [--keep-alive-timeout S] [--keep-alive-requests N] [--endpoint-keep-alive-timeout S] [--journal FILE]`, with `--control P` or `--control-socket PATH` or both, `--workers N` or `--concurrency N`, and `--count K`
-- or `--forever`; the flags say which of each two is required
abbrev pub serve_app : Flags → App
serve_app flags = with_connection_rules flags.forever (with_journal_rule (with_keep_alive_rules (with_message_rules (with_client_rules
    (with_endpoint_rules (with_worker_rules flags.concurrency (with_control_rules flags.socket
    (with_port_rules (new_app (codes "serve"))))))))))

-- `bg_switch`, which has a version and requires a subcommand; there is no subcommand `help`
abbrev pub top_app : App
top_app = record {
  top = record (new_app (codes "bg_switch")).top {
    disable_help_subcommand = true;
    has_version = true;
    subcommand_required = true;
  };
  subs = [];
}

-- the whole command line, for words with these flags
abbrev pub program : Flags → App
program flags = with_subcommand (with_subcommand (with_subcommand (with_subcommand top_app check_app.top)
    replay_app.top) journal_app.top) (serve_app flags).top
