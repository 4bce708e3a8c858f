-- What the words after the program's name give, and the kinds of error that they may give.
use Rattle.std.specs.Prelude.{eqb, ◌&&◌, ◌||◌, Bool, List, [], ◌∷◌, codes, drop, not, Option, Some, None, if◌then◌else◌, is_some}
use Rattle.std.specs.List.{list_any, starts_with}
use Rattle.std.specs.Str.{bytes_eq}
use Rattle.clap.specs.Kinds.{or_else}
use Rattle.clap.specs.Words.{Kinds, Row, Text, fault_of, first_of, subcommand_of}
use Rattle.clap.specs.declared.error.kind.ErrorKind.TheVariants as kind
use Rattle.bg_command_line.specs.ServeArguments.{has_flag}
use Rattle.bg_command_line.specs.Subcommands.{program}
use Rattle.bg_command_line.specs.declared.invocation.Flags.{Flags}

-- one of the words after the program's name is this one
abbrev pub has_word : Text → List Text → Bool
has_word word words = list_any (λ w. bytes_eq w word) (drop 1 words)

-- the word is the option, whose value is the next word, or begins with `start`, which is the option and `=`
abbrev pub is_option : Text → Text → Text → Bool
is_option option start word = bytes_eq word option || starts_with eqb word start

-- the words after the program's name have the option, in either of its forms
abbrev pub has_option : Text → Text → List Text → Bool
has_option option start words = list_any (is_option option start) (drop 1 words)

-- the flags among the words after the program's name
abbrev pub flags_of : List Text → Flags
flags_of words = record {
  forever = has_word (codes "--forever") words;
  concurrency = has_option (codes "--concurrency") (codes "--concurrency=") words;
  socket = has_option (codes "--control-socket") (codes "--control-socket=") words;
}

-- `--count` is given together with `--forever`, or `--workers` with `--concurrency`
abbrev pub is_in_conflict : Flags → List Row → Bool
is_in_conflict flags rows =
    flags.forever && is_some (first_of (codes "count") rows)
    || is_some (first_of (codes "concurrency") rows) && is_some (first_of (codes "workers") rows)

-- `--buffer`, `--max-request-body` or `--max-response-body` is given without `--stream`, which each of them needs
abbrev pub lacks_stream : List Row → Bool
lacks_stream rows = not (has_flag (codes "stream") rows)
    && ((is_some (first_of (codes "buffer") rows) || is_some (first_of (codes "max-request-body") rows))
    || is_some (first_of (codes "max-response-body") rows))

abbrev pub kinds_of_rows : Flags → List Row → Kinds
kinds_of_rows flags rows =
    if is_in_conflict flags rows then kind.ArgumentConflict ∷ []
    else if lacks_stream rows then kind.MissingRequiredArgument ∷ [] else []

abbrev pub kinds_beside_clap : Flags → Option (Text × List Row) → Kinds
kinds_beside_clap flags None = []
kinds_beside_clap flags (Some s) = kinds_of_rows flags s.1

-- the kinds of error that words may give: those of `clap`, and if it accepts them, that of a conflict, or else that of
-- `--stream` where it is needed
abbrev pub kinds_of : List Text → Kinds
kinds_of words =
    let flags = flags_of words in
    or_else (fault_of (program flags) words)
    (kinds_beside_clap flags (subcommand_of (program flags) words))
