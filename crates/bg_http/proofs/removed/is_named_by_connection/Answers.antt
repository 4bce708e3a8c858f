use Rattle.std.proofs.Common.{sym}
use Rattle.bg_http.proofs.KeptFields.{none_named}
use Rattle.bg_http.proofs.removed.is_named_by_connection.Goals as goal

pub returns-then-not-has_connection : goal.returns-then-not-has_connection
returns-then-not-has_connection c = sym (none_named c.args.fields.now c.args.name.now (cc))
