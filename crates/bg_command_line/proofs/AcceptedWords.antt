-- The matches of the words that the program accepts.
use Rattle.std.proofs.Common.{◌≡◌, ◌≢◌, inl, inr, arith, slice_index, ℕ, List, [], ◌∷◌, refl, sym, ◌∙◌, ap, subst}
use Rattle.std.specs.Prelude.{Bool, true, false, ◌&&◌, ◌||◌, not, Option, Some, None, codes, is_some, option_map}
use Rattle.clap.specs.Walk.{Row, Text, first_of, nothing_held, rows_after}
use Rattle.clap.specs.Simple.{Shape, App, built, argument_words, subcommand_of}
use Rattle.clap.specs.Faults.{fault_of, level_fault}
use Rattle.clap.specs.Words.{HasMatchesOf, subcommand_name_of, is_simple, is_simple_and_free, subcommand_rows_of}
use Rattle.clap.specs.declared.parser.matches.ArgMatches.{ArgMatches}
use Rattle.clap.proofs.OnLiterals.{clap_on_literals}
use Rattle.bg_command_line.specs.declared.invocation.Flags.{Flags}
use Rattle.bg_command_line.specs.declared.invocation.Invocation.{Invocation}
use Rattle.bg_command_line.specs.declared.invocation.Invocation.TheVariants.{Check, Journal, Replay, RestartJournal, Serve}
use Rattle.bg_command_line.specs.AcceptedRows.{IsIn, IsKnown, HasWordsOfServe}
use Rattle.bg_command_line.specs.GivenWords.{is_in_conflict, lacks_stream}
use Rattle.bg_command_line.specs.Invocations.{IsInvocationOf, NeedsStream}
use Rattle.bg_command_line.specs.ServeArguments.{has_flag, number}
use Rattle.bg_command_line.specs.Subcommands.{program, check_app}
use Rattle.bg_command_line.proofs.Entered.{Among, one_entered}
use Rattle.bg_command_line.proofs.SubcommandRows.{built_sub, journal, journal_known, replay, replay_known, serve, serve_known}

differ : (xs ys : Text) → slice_index xs 0 ≢ slice_index ys 0 → xs ≡ ys → ⊥
differ xs ys n e = n (ap (λ (t : Text). slice_index t 0) e)

abbrev Not : Text → Text → Type 0
Not a b = a ≡ b → ⊥

check_is_no_replay : Not (codes "check") (codes "replay")
check_is_no_replay e = differ (codes "check") (codes "replay") (omega arith) e

check_is_no_serve : Not (codes "check") (codes "serve")
check_is_no_serve e = differ (codes "check") (codes "serve") (omega arith) e

check_is_no_journal : Not (codes "check") (codes "journal")
check_is_no_journal e = differ (codes "check") (codes "journal") (omega arith) e

replay_is_no_journal : Not (codes "replay") (codes "journal")
replay_is_no_journal e = differ (codes "replay") (codes "journal") (omega arith) e

journal_is_no_serve : Not (codes "journal") (codes "serve")
journal_is_no_serve e = differ (codes "journal") (codes "serve") (omega arith) e

replay_is_no_serve : Not (codes "replay") (codes "serve")
replay_is_no_serve e = differ (codes "replay") (codes "serve") (omega arith) e

check_known : (flags : Flags) (rows : List Row) → IsKnown flags (codes "check") rows
check_known flags rows = record {
  is_serve = λ n _ _. absurd (n refl);
  seats = λ e. absurd (check_is_no_replay e);
  file = λ e. absurd (check_is_no_journal e);
  words = λ e. absurd (check_is_no_serve e);
}

replay_is_known : (flags : Flags) (rows : List Row) → IsIn 1 8 (codes "seats") rows → IsKnown flags (codes "replay") rows
replay_is_known flags rows h = record {
  is_serve = λ _ n _. absurd (n refl);
  seats = λ _. h;
  file = λ e. absurd (replay_is_no_journal e);
  words = λ e. absurd (replay_is_no_serve e);
}

journal_is_known : (flags : Flags) (rows : List Row) → is_some (first_of (codes "file") rows) ≡ true → IsKnown flags (codes "journal") rows
journal_is_known flags rows h = record {
  is_serve = λ _ _ n. absurd (n refl);
  seats = λ e. absurd (replay_is_no_journal (sym e));
  file = λ _. h;
  words = λ e. absurd (journal_is_no_serve e);
}

serve_is_known : (flags : Flags) (rows : List Row) → HasWordsOfServe flags rows → IsKnown flags (codes "serve") rows
serve_is_known flags rows h = record {
  is_serve = λ _ _ _. refl;
  seats = λ e. absurd (replay_is_no_serve (sym e));
  file = λ e. absurd (journal_is_no_serve (sym e));
  words = λ _. h;
}

abbrev check : Shape
check = built_sub check_app.top

abbrev Knows : Flags → List Text → Shape → Type 0
Knows flags rest s = level_fault s [] nothing_held rest false [] ≡ [] → IsKnown flags s.name (rows_after s.rules [] rest)

known_of : (flags : Flags) (s : Shape) (rest : List Text) → Among s (check ∷ replay ∷ journal ∷ serve flags ∷ []) → Knows flags rest s
known_of flags s rest among = elim among [
  | inl is ↦ subst (Knows flags rest) is (λ e. check_known flags (rows_after check.rules [] rest))
  | inr m ↦ elim m [
    | inl is ↦ subst (Knows flags rest) is (λ e. replay_is_known flags (rows_after replay.rules [] rest) (replay_known rest e))
    | inr l ↦ elim l [
      | inl is ↦ subst (Knows flags rest) is (λ e. journal_is_known flags (rows_after journal.rules [] rest) (journal_known rest e))
      | inr n ↦ elim n [
        | inl is ↦ subst (Knows flags rest) is (λ e. serve_is_known flags (rows_after (serve flags).rules [] rest) (serve_known flags rest e))
        | inr never ↦ absurd never
      ]
    ]
  ]
]

-- what the matches of the program's words are
pub record IsMet (flags : Flags) (words : List Text) (m : ArgMatches) : Type 0 where
  pub none : fault_of (program flags) words ≡ []
  pub name : Text
  pub rows : List Row
  pub is : subcommand_of (program flags) words ≡ Some (name, rows)
  pub same : subcommand_rows_of m ≡ Some (name, rows)
  pub known : IsKnown flags name rows

simple_by : (forever concurrency socket : Bool) → is_simple (program (record { forever = forever; concurrency = concurrency; socket = socket })) ≡ true
unfolding clap_on_literals
simple_by true true true = refl
simple_by true true false = refl
simple_by true false true = refl
simple_by true false false = refl
simple_by false true true = refl
simple_by false true false = refl
simple_by false false true = refl
simple_by false false false = refl

is_simple_program : (flags : Flags) → is_simple (program flags) ≡ true
is_simple_program flags = simple_by flags.forever flags.concurrency flags.socket

free_by : (forever concurrency socket : Bool) → is_simple_and_free (program (record { forever = forever; concurrency = concurrency; socket = socket })) ≡ true
unfolding clap_on_literals
free_by true true true = refl
free_by true true false = refl
free_by true false true = refl
free_by true false false = refl
free_by false true true = refl
free_by false true false = refl
free_by false false true = refl
free_by false false false = refl

pub is_free_program : (flags : Flags) → is_simple_and_free (program flags) ≡ true
is_free_program flags = free_by flags.forever flags.concurrency flags.socket

pub met : (flags : Flags) (app : App) (words : List Text) (m : ArgMatches) → app ≡ program flags → (is_simple_and_free app ≡ true → fault_of app words ≡ [])
    → HasMatchesOf app words m → IsMet flags words m
met flags app words m is none has =
    let free : is_simple_and_free app ≡ true = ap is_simple_and_free is ∙ is_free_program flags in
    let simple : is_simple app ≡ true = ap is_simple is ∙ is_simple_program flags in
    let no_fault : fault_of (program flags) words ≡ [] = sym (ap (λ (a : App). fault_of a words) is) ∙ none free in
    let x = one_entered (built (program flags)) (argument_words (program flags) words) refl no_fault in
    record {
      none = no_fault;
      name = x.shape.name;
      rows = rows_after x.shape.rules [] x.rest;
      is = x.is;
      same = (has simple).1 ∙ (ap (λ (a : App). subcommand_of a words) is ∙ x.is);
      known = known_of flags x.shape x.rest x.among x.accepts_rest;
    }

pub inner_rows : {P : Type 0} (f : P → List Row) (o : Option P) (v : P) (q : Option (Text × List Row)) (x : Text × List Row)
    → option_map f o ≡ option_map (λ p. p.1) q → q ≡ Some x → o ≡ Some v → f v ≡ x.1
inner_rows f o v q x e eq is = let h = rw (is, eq) at e in cc

name_of_rows : {B : Type 0} (f : B → Text) (g : B → List Row) (o : Option B) (x : Text × List Row) → option_map (λ b. (f b, g b)) o ≡ Some x → option_map f o ≡ Some x.0
name_of_rows f g None x e = cc
name_of_rows f g (Some b) x e = let same : (f b, g b) ≡ x = cc in ap (λ (p : Text × List Row). Some p.0) same

pub inner_name : {P : Type 0} (f : P → Text) (o : Option P) (v : P) (m : ArgMatches) (x : Text × List Row)
    → option_map f o ≡ subcommand_name_of m → subcommand_rows_of m ≡ Some x → o ≡ Some v → f v ≡ x.0
inner_name f o v m x e same is =
    let named : subcommand_name_of m ≡ Some x.0 = name_of_rows _ _ _ x same in
    let h = rw is at e in
    let k = h ∙ named in
    cc

pub known_as : (flags : Flags) (n name : Text) (r rows : List Row) → n ≡ name → r ≡ rows → IsKnown flags name rows → IsKnown flags n r
known_as flags n name r rows e f h = rw (e, f) h

pub invocation_as : {f flags : Flags} {n name : Text} {r rows : List Row} (o : Invocation) → f ≡ flags → n ≡ name → r ≡ rows → IsInvocationOf f n r o → IsInvocationOf flags name rows o
invocation_as {f} {flags} {n} {name} {r} {rows} o d e k h =
    subst (λ (b : Flags). IsInvocationOf b name rows o) d (subst (λ (t : Text). IsInvocationOf f t rows o) e (subst (λ (x : List Row). IsInvocationOf f n x o) k h))

pub still_in_conflict : {f flags : Flags} {b : Bool} {r rows : List Row} → f ≡ flags → r ≡ rows → b ≡ is_in_conflict f r → is_in_conflict flags rows ≡ b
still_in_conflict d k h = rw (← d, ← k) (sym h)

pub still_lacks : {b : Bool} {r rows : List Row} → r ≡ rows → b ≡ lacks_stream r → lacks_stream rows ≡ b
still_lacks k h = rw (← k) (sym h)

-- what a number is made of is there
number_given : (o : Option Text) (n : Option ℕ) → n ≡ option_map number o → is_some n ≡ true → is_some o ≡ true
number_given None n is given = rw is at given
number_given (Some t) n is given = refl

streams_by : (stream buffer asked answered : Bool) → (not stream && ((buffer || asked) || answered)) ≡ false
    → (buffer ≡ true → stream ≡ true) × (asked ≡ true → stream ≡ true) × (answered ≡ true → stream ≡ true)
streams_by true buffer asked answered e = (λ _. refl, λ _. refl, λ _. refl)
streams_by false true asked answered e = cc
streams_by false false true answered e = cc
streams_by false false false true e = cc
streams_by false false false false e = (λ h. cc, λ h. cc, λ h. cc)

-- what needs `--stream` is set only with it
pub needs_stream : (flags : Flags) (name : Text) (rows : List Row) (o : Invocation) → lacks_stream rows ≡ false → IsInvocationOf flags name rows o → NeedsStream o
needs_stream flags name rows Check streams is = tt
needs_stream flags name rows (Replay seats) streams is = tt
needs_stream flags name rows (Journal path) streams is = tt
needs_stream flags name rows (RestartJournal path ports) streams is = tt
needs_stream flags name rows (Serve settings) streams is =
    let by = streams_by (has_flag (codes "stream") rows) (is_some (first_of (codes "buffer") rows)) (is_some (first_of (codes "max-request-body") rows))
    (is_some (first_of (codes "max-response-body") rows)) streams in (
      λ given. is.1.stream_is ∙ by.0 (number_given (first_of (codes "buffer") rows) settings.buffer is.1.buffer_is given),
      λ given. is.1.stream_is ∙ by.1 (number_given (first_of (codes "max-request-body") rows) settings.max_request_body is.1.max_request_body_is given),
      λ given. is.1.stream_is ∙ by.2 (number_given (first_of (codes "max-response-body") rows) settings.max_response_body is.1.max_response_body_is given),
    )
