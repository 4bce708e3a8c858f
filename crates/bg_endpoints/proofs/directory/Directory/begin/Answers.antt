use Rattle.std.proofs.Common.{sym}
use Rattle.bg_endpoints.proofs.directory.Directory.begin.Goals as goal

pub returns-clause-chosen : goal.returns-clause-chosen
returns-clause-chosen g c = record {
  table = c.deref.result.now;
  now = c.millis-now.result;
  choice = sym c.in_ok-port.ensures.choice;
}
