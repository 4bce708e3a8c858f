use Rattle.std.proofs.Common.{◌≡◌, ◌∙◌, ap, codes, is_some, option_map, refl, rules, Option, Some, None}
use Rattle.clap.specs.Words.{first_of, found_of, rows_of}
use Rattle.bg_command_line.specs.ServeArguments.{number}
use Rattle.bg_command_line.proofs.words.serve_of.Goals as goal

still_given : {A B : Type 0} (f : A → B) (x : Option A) → is_some (option_map f x) ≡ is_some x
still_given f None = refl
still_given f (Some given) = refl

-- there are more facts than one search looks for
pub returns : goal.returns
returns c = (
  refl,
  record {
    active_is = search rules;
    preview_is = search;
    preview_range = search;
    listen_is = search;
    control_is = search;
    control_range = search;
    control_given = λ none. ap is_some c.u16_of-2.ensures.value ∙ still_given number (first_of (codes "control") (rows_of (found_of c.args.matches.now)))
        ∙ c.requires.words.control_given none;
    control_socket_is = search;
    control_socket_given = search rules;
    workers_are = search;
    preview_workers_are = search;
    preview_workers_range = search;
    threads_are = search;
    threads_range = search;
    redispatch_is = search;
    endpoint_limit_is = search;
    endpoint_limit_range = search;
    endpoint_address_is = search;
    abort_on_close_is = search;
    shutdown_grace_is = search;
    shutdown_grace_range = search;
    shutdown_timeout_is = search;
    shutdown_timeout_range = search;
    error_pages_is = search;
    stream_is = search;
    buffer_is = search;
    buffer_range = search;
    max_request_body_is = search;
    max_request_body_range = search;
    max_response_body_is = search;
    max_response_body_range = search;
    silence_is = search;
    silence_range = search;
    forwarded_is = search;
    trust_forwarded_is = search;
    upgrade_is = search;
    keep_alive_is = search;
    journal_is = search;
    connections_are = search;
  },
)
