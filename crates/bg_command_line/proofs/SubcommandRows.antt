-- What the rows of `replay` and of `serve` hold.
use Rattle.std.proofs.Common.{◌≡◌, ℕ, List, [], ◌∷◌, refl}
use Rattle.std.specs.Prelude.{Bool, true, false, ◌&&◌, ◌||◌, not, Some, is_some, find, cond, codes, option_and_then, slice_get, bytes_eq}
use Rattle.std.specs.List.{list_any}
use Rattle.std.specs.Option.{option_map_or}
use Rattle.clap.specs.Takes.{is_given, value_passes}
use Rattle.clap.specs.Facts.{explicit_source}
use Rattle.clap.specs.ValueTests.{accepts}
use Rattle.clap.specs.Walk.{Row, Text, Rule, arg_by_id, first_of, walk, nothing_held, rows_after, walk_from, settled}
use Rattle.clap.specs.Simple.{Shape, built_leaf, help_rule, inherited, with_leaf_noted, marked_built}
use Rattle.clap.specs.Kinds.{check_kinds}
use Rattle.clap.specs.Faults.{level_fault, walk_fault, settle_fault, defaults_fault}
use Rattle.clap.specs.declared.builder.value_parser.ValueParser.TheVariants as value_parser
use Rattle.clap.proofs.ValueTestLemmas.{accepts-Accepts}
use Rattle.bg_command_line.specs.AcceptedRows.{IsIn, HasWordsOfServe}
use Rattle.bg_command_line.specs.OptionRules.{number_rule, range_rule, required_rule, flag_rule, rule_required_if, text_rule, text_rule_required_if, texts_rule, word_rule_required_if}
use Rattle.bg_command_line.specs.Subcommands.{journal_app, program, replay_app, serve_app, count_rule, forever_rule}
use Rattle.bg_command_line.specs.declared.invocation.Flags.{Flags}
use Rattle.bg_command_line.proofs.WordsTaken.{none_else}
use Rattle.bg_command_line.proofs.ValuesAccepted.{AreGood, has_none, first_accepted}
use Rattle.bg_command_line.proofs.ArgumentRows.{Keeps, Each, held, number_keeps, range_keeps, required_keeps, required_if_keeps, text_keeps, texts_keeps, word_keeps, count_keeps, flag_keeps, help_keeps, DefaultKeeps, no_default_keeps, flag_default_keeps, help_default_keeps, leaf_good}

abbrev pub built_sub : Shape → Shape
built_sub s = built_leaf (inherited (with_leaf_noted (marked_built (program (record { forever = false; concurrency = false; socket = false })).top)) s)

abbrev pub replay : Shape
replay = built_sub replay_app.top

replay_keeps : Each (Keeps replay.rules) replay.rules
replay_keeps = (number_keeps replay.rules (codes "seats") 8 refl, (help_keeps replay.rules, tt))

-- a number that is given to an option with this parser is in its range
within : (c : List Rule) (r : Rule) (id : Text) (least most : ℕ) (rows : List Row) → arg_by_id c id ≡ Some r → r.ignore_case ≡ false
    → r.parser ≡ Some (value_parser.Unsigned least most) → AreGood c rows → IsIn least most id rows
within c r id least most rows own plain parser good t at =
    let accepted : option_map_or (λ a. value_passes a t) (arg_by_id c id) true ≡ true = first_accepted c id rows t good at in
    let own_accepted : value_passes r t ≡ true = rw own at accepted in
    let test : accepts false (value_parser.Unsigned least most) t ≡ true = rw (plain, parser) at own_accepted in
    accepts-Accepts false (value_parser.Unsigned least most) t test

in_range : (c : List Rule) (r : Rule) (id : Text) (most : ℕ) (rows : List Row) → arg_by_id c id ≡ Some r → r.ignore_case ≡ false
    → r.parser ≡ Some (value_parser.Unsigned 1 most) → AreGood c rows → IsIn 1 most id rows
in_range c r id most rows own plain parser good = within c r id 1 most rows own plain parser good

-- `--seats` has a number from 1 to 8, if it is given
pub replay_known : (words : List Text) → level_fault replay [] nothing_held words false [] ≡ [] → IsIn 1 8 (codes "seats") (rows_after replay.rules [] words)
replay_known words e =
    let rows = rows_after replay.rules [] words in
    in_range replay.rules (held (number_rule (codes "seats") 8)) (codes "seats") 8 rows refl refl refl
    (leaf_good replay words refl replay_keeps
    (no_default_keeps replay.rules (held (number_rule (codes "seats") 8)) refl, (help_default_keeps replay.rules, tt)) e)

abbrev pub serve : Flags → Shape
serve flags = built_sub (serve_app flags).top

-- the last rules of `serve`, from a group on
abbrev kept_and_count : Flags → List Rule
kept_and_count flags =
    held (flag_rule (codes "keep-alive")) ∷ held (number_rule (codes "keep-alive-timeout") 3600)
    ∷ held (number_rule (codes "keep-alive-requests") 1000000)
    ∷ held (number_rule (codes "endpoint-keep-alive-timeout") 3600) ∷ held (text_rule (codes "journal"))
    ∷ held (count_rule flags.forever) ∷ held (forever_rule flags.forever) ∷ held help_rule ∷ []

abbrev message_and_later : Flags → List Rule
message_and_later flags =
    held (flag_rule (codes "stream")) ∷ held (range_rule (codes "buffer") 16384 1048576)
    ∷ held (range_rule (codes "max-request-body") 65536 1099511627776)
    ∷ held (range_rule (codes "max-response-body") 65536 1099511627776) ∷ held (number_rule (codes "silence") 3600)
    ∷ held (flag_rule (codes "forwarded")) ∷ held (flag_rule (codes "trust-forwarded")) ∷ held (flag_rule (codes "upgrade"))
    ∷ kept_and_count flags

abbrev client_and_later : Flags → List Rule
client_and_later flags =
    held (flag_rule (codes "abort-on-close")) ∷ held (number_rule (codes "shutdown-grace") 60)
    ∷ held (number_rule (codes "shutdown-timeout") 3600) ∷ held (flag_rule (codes "error-pages")) ∷ message_and_later flags

abbrev endpoint_and_later : Flags → List Rule
endpoint_and_later flags =
    held (flag_rule (codes "redispatch")) ∷ held (number_rule (codes "endpoint-limit") 1023)
    ∷ held (text_rule (codes "endpoint-address")) ∷ client_and_later flags

abbrev worker_and_later : Flags → List Rule
worker_and_later flags =
    held (rule_required_if (not flags.concurrency) (codes "workers") 7)
    ∷ held (rule_required_if flags.concurrency (codes "concurrency") 1023)
    ∷ held (number_rule (codes "preview-concurrency") 1023) ∷ held (number_rule (codes "threads") 64)
    ∷ endpoint_and_later flags

kept_and_count_keep : (flags : Flags) → Each (Keeps (serve flags).rules) (kept_and_count flags)
kept_and_count_keep flags = let c = (serve flags).rules in (
  flag_keeps c false (codes "keep-alive") refl,
  (
    number_keeps c (codes "keep-alive-timeout") 3600 refl,
    (
      number_keeps c (codes "keep-alive-requests") 1000000 refl,
      (
        number_keeps c (codes "endpoint-keep-alive-timeout") 3600 refl,
        (
          text_keeps c false (codes "journal") refl,
          (count_keeps c flags.forever refl, (flag_keeps c flags.forever (codes "forever") refl, (help_keeps c, tt))),
        ),
      ),
    ),
  ),
)

message_and_later_keep : (flags : Flags) → Each (Keeps (serve flags).rules) (message_and_later flags)
message_and_later_keep flags = let c = (serve flags).rules in (
  flag_keeps c false (codes "stream") refl,
  (
    range_keeps c (codes "buffer") 16384 1048576 refl,
    (
      range_keeps c (codes "max-request-body") 65536 1099511627776 refl,
      (
        range_keeps c (codes "max-response-body") 65536 1099511627776 refl,
        (
          number_keeps c (codes "silence") 3600 refl,
          (
            flag_keeps c false (codes "forwarded") refl,
            (
              flag_keeps c false (codes "trust-forwarded") refl,
              (flag_keeps c false (codes "upgrade") refl, kept_and_count_keep flags),
            ),
          ),
        ),
      ),
    ),
  ),
)

client_and_later_keep : (flags : Flags) → Each (Keeps (serve flags).rules) (client_and_later flags)
client_and_later_keep flags = let c = (serve flags).rules in (
  flag_keeps c false (codes "abort-on-close") refl,
  (
    number_keeps c (codes "shutdown-grace") 60 refl,
    (
      number_keeps c (codes "shutdown-timeout") 3600 refl,
      (flag_keeps c false (codes "error-pages") refl, message_and_later_keep flags),
    ),
  ),
)

endpoint_and_later_keep : (flags : Flags) → Each (Keeps (serve flags).rules) (endpoint_and_later flags)
endpoint_and_later_keep flags = let c = (serve flags).rules in (
  flag_keeps c false (codes "redispatch") refl,
  (
    number_keeps c (codes "endpoint-limit") 1023 refl,
    (text_keeps c false (codes "endpoint-address") refl, client_and_later_keep flags),
  ),
)

worker_and_later_keep : (flags : Flags) → Each (Keeps (serve flags).rules) (worker_and_later flags)
worker_and_later_keep flags = let c = (serve flags).rules in (
  required_if_keeps c (not flags.concurrency) (codes "workers") 7 refl,
  (
    required_if_keeps c flags.concurrency (codes "concurrency") 1023 refl,
    (
      number_keeps c (codes "preview-concurrency") 1023 refl,
      (number_keeps c (codes "threads") 64 refl, endpoint_and_later_keep flags),
    ),
  ),
)

serve_keeps : (flags : Flags) → Each (Keeps (serve flags).rules) (serve flags).rules
serve_keeps flags = let c = (serve flags).rules in (
  required_keeps c (codes "active") 65535 refl,
  (
    number_keeps c (codes "preview") 65535 refl,
    (
      texts_keeps c false (codes "listen") refl,
      (
        required_if_keeps c (not flags.socket) (codes "control") 65535 refl,
        (
          text_keeps c flags.socket (codes "control-socket") refl,
          (
            number_keeps c (codes "control-socket-mode") 777 refl,
            (text_keeps c false (codes "control-socket-group") refl, worker_and_later_keep flags),
          ),
        ),
      ),
    ),
  ),
)

kept_and_count_defaults : (flags : Flags) → Each (DefaultKeeps (serve flags).rules) (kept_and_count flags)
kept_and_count_defaults flags = let c = (serve flags).rules in (
  flag_default_keeps c false (codes "keep-alive") refl,
  (
    no_default_keeps c (held (number_rule (codes "keep-alive-timeout") 3600)) refl,
    (
      no_default_keeps c (held (number_rule (codes "keep-alive-requests") 1000000)) refl,
      (
        no_default_keeps c (held (number_rule (codes "endpoint-keep-alive-timeout") 3600)) refl,
        (
          no_default_keeps c (held (text_rule (codes "journal"))) refl,
          (
            no_default_keeps c (held (count_rule flags.forever)) refl,
            (flag_default_keeps c flags.forever (codes "forever") refl, (help_default_keeps c, tt)),
          ),
        ),
      ),
    ),
  ),
)

message_and_later_defaults : (flags : Flags) → Each (DefaultKeeps (serve flags).rules) (message_and_later flags)
message_and_later_defaults flags = let c = (serve flags).rules in (
  flag_default_keeps c false (codes "stream") refl,
  (
    no_default_keeps c (held (range_rule (codes "buffer") 16384 1048576)) refl,
    (
      no_default_keeps c (held (range_rule (codes "max-request-body") 65536 1099511627776)) refl,
      (
        no_default_keeps c (held (range_rule (codes "max-response-body") 65536 1099511627776)) refl,
        (
          no_default_keeps c (held (number_rule (codes "silence") 3600)) refl,
          (
            flag_default_keeps c false (codes "forwarded") refl,
            (
              flag_default_keeps c false (codes "trust-forwarded") refl,
              (flag_default_keeps c false (codes "upgrade") refl, kept_and_count_defaults flags),
            ),
          ),
        ),
      ),
    ),
  ),
)

client_and_later_defaults : (flags : Flags) → Each (DefaultKeeps (serve flags).rules) (client_and_later flags)
client_and_later_defaults flags = let c = (serve flags).rules in (
  flag_default_keeps c false (codes "abort-on-close") refl,
  (
    no_default_keeps c (held (number_rule (codes "shutdown-grace") 60)) refl,
    (
      no_default_keeps c (held (number_rule (codes "shutdown-timeout") 3600)) refl,
      (flag_default_keeps c false (codes "error-pages") refl, message_and_later_defaults flags),
    ),
  ),
)

endpoint_and_later_defaults : (flags : Flags) → Each (DefaultKeeps (serve flags).rules) (endpoint_and_later flags)
endpoint_and_later_defaults flags = let c = (serve flags).rules in (
  flag_default_keeps c false (codes "redispatch") refl,
  (
    no_default_keeps c (held (number_rule (codes "endpoint-limit") 1023)) refl,
    (no_default_keeps c (held (text_rule (codes "endpoint-address"))) refl, client_and_later_defaults flags),
  ),
)

worker_and_later_defaults : (flags : Flags) → Each (DefaultKeeps (serve flags).rules) (worker_and_later flags)
worker_and_later_defaults flags = let c = (serve flags).rules in (
  no_default_keeps c (held (rule_required_if (not flags.concurrency) (codes "workers") 7)) refl,
  (
    no_default_keeps c (held (rule_required_if flags.concurrency (codes "concurrency") 1023)) refl,
    (
      no_default_keeps c (held (number_rule (codes "preview-concurrency") 1023)) refl,
      (no_default_keeps c (held (number_rule (codes "threads") 64)) refl, endpoint_and_later_defaults flags),
    ),
  ),
)

serve_defaults : (flags : Flags) → Each (DefaultKeeps (serve flags).rules) (serve flags).rules
serve_defaults flags = let c = (serve flags).rules in (
  no_default_keeps c (held (required_rule (codes "active") 65535)) refl,
  (
    no_default_keeps c (held (number_rule (codes "preview") 65535)) refl,
    (
      no_default_keeps c (held (texts_rule (codes "listen"))) refl,
      (
        no_default_keeps c (held (rule_required_if (not flags.socket) (codes "control") 65535)) refl,
        (
          no_default_keeps c (held (text_rule_required_if flags.socket (codes "control-socket"))) refl,
          (
            no_default_keeps c (held (number_rule (codes "control-socket-mode") 777)) refl,
            (no_default_keeps c (held (text_rule (codes "control-socket-group"))) refl, worker_and_later_defaults flags),
          ),
        ),
      ),
    ),
  ),
)

first_some : (values : List Text) → has_none values ≡ false → is_some (slice_get values 0) ≡ true
first_some [] e = cc
first_some (v ∷ vs) e = refl

-- an argument that was given has a first value
given_has : (c : List Rule) (id : Text) (rows : List Row) → AreGood c rows → is_given id rows ≡ true → is_some (first_of id rows) ≡ true
given_has c id [] g e = cc
given_has c id (r ∷ rs) g e = go (bytes_eq r.id id) e (λ h. given_has c id rs g.1 h)
  where
    go : (b : Bool) → option_map_or (λ x. explicit_source x.source) (cond b (Some r) (find (λ x. bytes_eq x.id id) rs)) false ≡ true
        → (is_given id rs ≡ true → is_some (first_of id rs) ≡ true)
        → is_some (option_and_then (λ x. slice_get x.values 0) (cond b (Some r) (find (λ x. bytes_eq x.id id) rs))) ≡ true
    go true h rest = first_some r.values g.0.0
    go false h rest = rest h

none_required : (help sub required : Bool) → check_kinds help sub required ≡ [] → required ≡ false
none_required true sub required e = cc
none_required false true required e = cc
none_required false false true e = cc
none_required false false false e = refl

-- what is required is given
all_given : (s : Shape) (words : List Text) → s.subcommand_negates_reqs ≡ false → level_fault s [] nothing_held words false [] ≡ []
    → list_any (λ a. a.required && not (is_given a.id (rows_after s.rules [] words))) s.rules ≡ false
all_given s words plain e =
    let rows = rows_after s.rules [] words in
    let end = (walk s.rules [] nothing_held words).held in
    let f = none_else (walk_fault s [] (walk_from nothing_held) words) _ e in
    let g = none_else (settle_fault s.rules s.args_override_self end) _ f.1 in
    let h = none_else (defaults_fault (settled s.rules end).rows s.rules) _ g.1 in
    let required : list_any (λ a. a.required && not (is_given a.id rows)) s.rules ≡ false = none_required
    (not false && (s.arg_required_else_help && not (list_any (λ r. explicit_source r.source) rows)))
    (not false && s.subcommand_required)
    (list_any (λ a. a.required && not (is_given a.id rows)) s.rules)
    (rw plain at h.1) in
    required

first_given : (given other : Bool) → (not given || other) ≡ false → (given ≡ true) × (other ≡ false)
first_given true other e = (refl, e)
first_given false other e = cc

-- an argument that is required if `required` holds
required_given : (required given other : Bool) → ((required && not given) || other) ≡ false → (required ≡ true → given ≡ true) × (other ≡ false)
required_given true true other e = (λ _. refl, e)
required_given true false other e = cc
required_given false given other e = (λ h. cc, e)

not_true : (b : Bool) → b ≡ false → not b ≡ true
not_true false e = refl
not_true true e = cc

pub serve_known : (flags : Flags) (words : List Text) → level_fault (serve flags) [] nothing_held words false [] ≡ []
    → HasWordsOfServe flags (rows_after (serve flags).rules [] words)
serve_known flags words e =
    let c = (serve flags).rules in
    let rows = rows_after c [] words in
    let good : AreGood c rows = leaf_good (serve flags) words refl (serve_keeps flags) (serve_defaults flags) e in
    let active = first_given (is_given (codes "active") rows) _ (all_given (serve flags) words refl e) in
    let control = required_given (not flags.socket) (is_given (codes "control") rows) _ active.1 in
    let socket = required_given flags.socket (is_given (codes "control-socket") rows) _ control.1 in
    let workers = required_given (not flags.concurrency) (is_given (codes "workers") rows) _ socket.1 in
    let concurrency = required_given flags.concurrency (is_given (codes "concurrency") rows) _ workers.1 in
    let count = required_given (not flags.forever) (is_given (codes "count") rows) _ concurrency.1 in
    record {
      active = (given_has c (codes "active") rows good active.0, in_range c (held (required_rule (codes "active") 65535)) (codes "active") 65535 rows refl refl refl good);
      preview = in_range c (held (number_rule (codes "preview") 65535)) (codes "preview") 65535 rows refl refl refl good;
      control = in_range c (held (rule_required_if (not flags.socket) (codes "control") 65535)) (codes "control") 65535 rows refl refl refl good;
      control_given = λ alone. given_has c (codes "control") rows good (control.0 (not_true flags.socket alone));
      control_socket_given = λ has. given_has c (codes "control-socket") rows good (socket.0 has);
      control_socket_mode = in_range c (held (number_rule (codes "control-socket-mode") 777)) (codes "control-socket-mode") 777 rows refl refl refl good;
      workers = in_range c (held (rule_required_if (not flags.concurrency) (codes "workers") 7)) (codes "workers") 7 rows refl refl refl good;
      workers_given = λ few. given_has c (codes "workers") rows good (workers.0 (not_true flags.concurrency few));
      concurrency = in_range c (held (rule_required_if flags.concurrency (codes "concurrency") 1023)) (codes "concurrency") 1023 rows refl refl refl good;
      concurrency_given = λ many. given_has c (codes "concurrency") rows good (concurrency.0 many);
      preview_concurrency = in_range c (held (number_rule (codes "preview-concurrency") 1023)) (codes "preview-concurrency") 1023 rows refl refl refl good;
      threads = in_range c (held (number_rule (codes "threads") 64)) (codes "threads") 64 rows refl refl refl good;
      endpoint_limit = in_range c (held (number_rule (codes "endpoint-limit") 1023)) (codes "endpoint-limit") 1023 rows refl refl refl good;
      shutdown_grace = in_range c (held (number_rule (codes "shutdown-grace") 60)) (codes "shutdown-grace") 60 rows refl refl refl good;
      shutdown_timeout = in_range c (held (number_rule (codes "shutdown-timeout") 3600)) (codes "shutdown-timeout") 3600 rows refl refl refl good;
      buffer = within c (held (range_rule (codes "buffer") 16384 1048576)) (codes "buffer") 16384 1048576 rows refl refl refl good;
      max_request_body = within c (held (range_rule (codes "max-request-body") 65536 1099511627776)) (codes "max-request-body") 65536 1099511627776 rows refl refl refl good;
      max_response_body = within c (held (range_rule (codes "max-response-body") 65536 1099511627776)) (codes "max-response-body") 65536 1099511627776 rows refl refl refl good;
      silence = in_range c (held (number_rule (codes "silence") 3600)) (codes "silence") 3600 rows refl refl refl good;
      keep_alive_timeout = in_range c (held (number_rule (codes "keep-alive-timeout") 3600)) (codes "keep-alive-timeout") 3600 rows refl refl refl good;
      keep_alive_requests = in_range c (held (number_rule (codes "keep-alive-requests") 1000000)) (codes "keep-alive-requests") 1000000 rows refl refl refl good;
      endpoint_keep_alive_timeout = in_range c (held (number_rule (codes "endpoint-keep-alive-timeout") 3600)) (codes "endpoint-keep-alive-timeout") 3600 rows refl refl refl good;
      count = in_range c (held (count_rule flags.forever)) (codes "count") 1000000 rows refl refl refl good;
      count_given = λ limited. given_has c (codes "count") rows good (count.0 (not_true flags.forever limited));
    }

abbrev pub journal : Shape
journal = built_sub journal_app.top

journal_keeps : Each (Keeps journal.rules) journal.rules
journal_keeps = (
  flag_keeps journal.rules false (codes "restart") refl,
  (
    text_keeps journal.rules false (codes "ports") refl,
    (word_keeps journal.rules true (codes "file") refl, (help_keeps journal.rules, tt)),
  ),
)

journal_defaults : Each (DefaultKeeps journal.rules) journal.rules
journal_defaults = (
  flag_default_keeps journal.rules false (codes "restart") refl,
  (
    no_default_keeps journal.rules (held (text_rule (codes "ports"))) refl,
    (no_default_keeps journal.rules (held (word_rule_required_if true (codes "file"))) refl, (help_default_keeps journal.rules, tt)),
  ),
)

-- the file is given
pub journal_known : (words : List Text) → level_fault journal [] nothing_held words false [] ≡ []
    → is_some (first_of (codes "file") (rows_after journal.rules [] words)) ≡ true
journal_known words e =
    let rows = rows_after journal.rules [] words in
    let good : AreGood journal.rules rows = leaf_good journal words refl journal_keeps journal_defaults e in
    let given = first_given (is_given (codes "file") rows) _ (all_given journal words refl e) in
    given_has journal.rules (codes "file") rows good given.0
