use Rattle.bg_script.proofs.FoundInBytes.{checks_all}
use Rattle.bg_script.proofs.checking.check.Goals as goal

pub returns : goal.returns
returns g c =
    checks_all (g.R.Read.remaining c.args.reader.now) _ _ c.in_ok-finding.finding c.status.result
    c.in_ok-finding.ensures c.in_ok-write_finding.ensures c.status.ensures
