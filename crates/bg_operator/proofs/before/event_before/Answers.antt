use Rattle.std.proofs.Common.{◌≡◌, Bool, false, Err, if◌then◌else◌, sym, subst, rules}
use Rattle.std.specs.Prelude.{bytes_eq, codes}
use Rattle.bg_operator.specs.declared.line_fault.LineFault.TheVariants.{BadWord}
use Rattle.bg_operator.specs.Words.{words_ahead}
use Rattle.bg_operator.specs.Commands.{IsReadAs, event_reading, is_before, table_reading, with_time_limit}
use Rattle.bg_operator.proofs.TimeLimits.{needs_it_before, read_before}
use Rattle.bg_operator.proofs.before.event_before.Goals as goal

pub returns-in_default : goal.returns-in_default
returns-in_default c =
    let m = c.args.milliseconds in
    let first = c.args.first.now in
    let words = words_ahead c.args.words in
    let single : is_before first ≡ false = search rules in
    let no_open : bytes_eq first (codes "open") ≡ false = search rules in
    let no_down : bytes_eq first (codes "down") ≡ false = search rules in
    let read = read_before m (table_reading first words) c.command_in_table.result (needs_it_before m first words no_open no_down) c.command_in_table.ensures in
    subst (λ r. IsReadAs (with_time_limit m (event_reading first words)) r) (sym c.only_event.ensures)
    (subst (λ (t : Bool). IsReadAs (with_time_limit m (if t then Err BadWord else table_reading first words)) (with_time_limit m c.command_in_table.result)) (sym single) read)
