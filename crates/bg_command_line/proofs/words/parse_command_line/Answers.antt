use Rattle.std.proofs.Common.{◌∙◌, List, ap, map, subst, sym}
use Rattle.std.proofs.lemmas.Result.{IfErr-weaker, IfOk-weaker}
use Rattle.clap.specs.Words.{Row, app_of, found_of, rows_of}
use Rattle.bg_command_line.specs.GivenWords.{flags_of}
use Rattle.bg_command_line.specs.Invocations.{IsAddressFault}
use Rattle.bg_command_line.specs.Subcommands.{program}
use Rattle.bg_command_line.proofs.AcceptedWords.{met, inner_name, inner_rows, known_as, invocation_as, needs_stream, still_in_conflict, still_lacks}
use Rattle.bg_command_line.proofs.ErrorKinds.{address_as, conflict_as, fault_as, missing_as, no_kinds}
use Rattle.bg_command_line.proofs.words.parse_command_line.Goals as goal

pub invocation_of-requires : goal.invocation_of-requires
invocation_of-requires c =
    let words = map (λ w. w.now) c.args.words.now in
    let flags = c.flags_in-flags.result in
    let x = met flags (app_of c.in_ok-command.command) words c.in-Ok.matches c.in_ok-command.ensures c.in-Ok.ensures.kinds c.in-Ok.ensures.matches in
    let rows_are = inner_rows (λ p. rows_of (found_of p.1.now)) c.subcommand.result c.unwrap.result _ (x.name, x.rows) c.subcommand.ensures.rows x.same c.unwrap.ensures in
    let name_is = inner_name (λ p. p.0.now) c.subcommand.result c.unwrap.result c.in-Ok.matches (x.name, x.rows) c.subcommand.ensures.name x.same c.unwrap.ensures in
    known_as flags _ x.name _ x.rows name_is rows_are x.known

pub returns-clause-ok : goal.returns-clause-ok
returns-clause-ok c =
    let words = map (λ w. w.now) c.args.words.now in
    let flags_are = c.flags_in-flags.ensures in
    let flags = flags_of words in
    let x = met flags (app_of c.in_ok-command.command) words c.in-Ok.matches (c.in_ok-command.ensures ∙ ap program flags_are) c.in-Ok.ensures.kinds c.in-Ok.ensures.matches in
    let rows_are = inner_rows (λ p. rows_of (found_of p.1.now)) c.subcommand.result c.unwrap.result _ (x.name, x.rows) c.subcommand.ensures.rows x.same c.unwrap.ensures in
    let name_is = inner_name (λ p. p.0.now) c.subcommand.result c.unwrap.result c.in-Ok.matches (x.name, x.rows) c.subcommand.ensures.name x.same c.unwrap.ensures in
    let conflict = still_in_conflict flags_are rows_are c.is_in_conflict.ensures ∙ c.if-is_in_conflict.false in
    let streams = still_lacks rows_are c.lacks_stream.ensures ∙ c.if-lacks_stream.false in
    IfOk-weaker c.invocation_of.result _ _
    (λ invocation is. (no_kinds words x.name x.rows x.none x.is conflict streams, (x.name, x.rows, x.is, invocation_as invocation flags_are name_is rows_are is)))
    c.invocation_of.ensures.ok

pub returns-clause-streams : goal.returns-clause-streams
returns-clause-streams c =
    let streams = sym c.lacks_stream.ensures ∙ c.if-lacks_stream.false in
    IfOk-weaker c.invocation_of.result _ _
    (λ invocation is. needs_stream c.flags_in-flags.result c.unwrap.result.0.now (rows_of (found_of c.unwrap.result.1.now)) invocation streams is)
    c.invocation_of.ensures.ok

pub returns-clause-fault : goal.returns-clause-fault
returns-clause-fault c =
    let words = map (λ w. w.now) c.args.words.now in
    let flags_are = c.flags_in-flags.ensures in
    let flags = flags_of words in
    let x = met flags (app_of c.in_ok-command.command) words c.in-Ok.matches (c.in_ok-command.ensures ∙ ap program flags_are) c.in-Ok.ensures.kinds c.in-Ok.ensures.matches in
    let rows_are = inner_rows (λ p. rows_of (found_of p.1.now)) c.subcommand.result c.unwrap.result _ (x.name, x.rows) c.subcommand.ensures.rows x.same c.unwrap.ensures in
    let conflict = still_in_conflict flags_are rows_are c.is_in_conflict.ensures ∙ c.if-is_in_conflict.false in
    let streams = still_lacks rows_are c.lacks_stream.ensures ∙ c.if-lacks_stream.false in
    IfErr-weaker c.invocation_of.result _ _
    (λ fault is. address_as words x.name x.rows fault (no_kinds words x.name x.rows x.none x.is conflict streams) x.is
    (subst (λ (r : List Row). IsAddressFault r fault) rows_are is))
    c.invocation_of.ensures.fault

pub returns-in-Err-clause-fault : goal.returns-in-Err-clause-fault
returns-in-Err-clause-fault c =
    let words = map (λ w. w.now) c.args.words.now in
    fault_as words (app_of c.in_ok-command.command) c.in-Err.error c.fault_of.result
    (c.in_ok-command.ensures ∙ ap program c.flags_in-flags.ensures) c.in-Err.ensures.kinds c.fault_of.ensures

pub returns-then-is_in_conflict-clause-fault : goal.returns-then-is_in_conflict-clause-fault
returns-then-is_in_conflict-clause-fault c =
    let words = map (λ w. w.now) c.args.words.now in
    let flags_are = c.flags_in-flags.ensures in
    let flags = flags_of words in
    let x = met flags (app_of c.in_ok-command.command) words c.in-Ok.matches (c.in_ok-command.ensures ∙ ap program flags_are) c.in-Ok.ensures.kinds c.in-Ok.ensures.matches in
    let rows_are = inner_rows (λ p. rows_of (found_of p.1.now)) c.subcommand.result c.unwrap.result _ (x.name, x.rows) c.subcommand.ensures.rows x.same c.unwrap.ensures in
    let conflict = still_in_conflict flags_are rows_are c.is_in_conflict.ensures ∙ c.if-is_in_conflict.true in
    conflict_as words x.name x.rows c.conflict_fault.result x.none x.is conflict c.conflict_fault.ensures

pub returns-then-lacks_stream-clause-fault : goal.returns-then-lacks_stream-clause-fault
returns-then-lacks_stream-clause-fault c =
    let words = map (λ w. w.now) c.args.words.now in
    let flags_are = c.flags_in-flags.ensures in
    let flags = flags_of words in
    let x = met flags (app_of c.in_ok-command.command) words c.in-Ok.matches (c.in_ok-command.ensures ∙ ap program flags_are) c.in-Ok.ensures.kinds c.in-Ok.ensures.matches in
    let rows_are = inner_rows (λ p. rows_of (found_of p.1.now)) c.subcommand.result c.unwrap.result _ (x.name, x.rows) c.subcommand.ensures.rows x.same c.unwrap.ensures in
    let conflict = still_in_conflict flags_are rows_are c.is_in_conflict.ensures ∙ c.if-is_in_conflict.false in
    let streams = still_lacks rows_are c.lacks_stream.ensures ∙ c.if-lacks_stream.true in
    missing_as words x.name x.rows c.missing_stream_fault.result x.none x.is conflict streams c.missing_stream_fault.ensures
