use Rattle.std.proofs.Common.{Bool, subst, IfSome, ◌≡◌, if◌then◌else◌}
use Rattle.std.proofs.lemmas.Result.{IfOk-weaker}
use Rattle.std.specs.Io.Buffered.{reader_remaining}
use Rattle.bg_operator.specs.Parting.{IsPart}
use Rattle.bg_script.specs.declared.finding.Finding.TheVariants.{Means}
use Rattle.bg_script.specs.Findings.{IsFoundIn}
use Rattle.bg_script.specs.LineSteps.{Closed}
use Rattle.bg_script.specs.Scripts.{Ran, Refuses, Replays}
use Rattle.bg_script.proofs.FreshBuffer.{nothing_held, of_reader}
use Rattle.bg_script.proofs.ReplayedBytes.{replays_refused, replays_script}
use Rattle.bg_script.proofs.replaying.replay.Goals as goal

pub returns-in_default-finding : goal.returns-in_default-finding
returns-in_default-finding g c =
    let known = g.R.Read.remaining c.args.reader.now in
    let part = c.in_ok-part.part in
    let finding = c.in_ok-finding.finding in
    let first = g.W.Write.contents c.args.writer.now in
    let last = g.W.Write.contents c.refuse.new.writer in
    let fresh = nothing_held (λ r. g.R.Read.remaining r.now) c.in-Ok.input _ c.in-Ok.ensures.inner c.in-Ok.ensures.empty c.in-Ok.ensures.capacity in
    IfOk-weaker c.refuse.result (Refuses finding first last) (λ status. IfSome known (Replays c.args.seats first last status))
    (λ status r. replays_refused known _ first last part finding c.args.seats status
    (of_reader (IsPart part) _ _ _ fresh c.in_ok-part.ensures) c.in_ok-finding.ensures c.in_default-finding.not-Means r)
    c.refuse.ensures

pub returns : goal.returns
returns g c =
    let known = g.R.Read.remaining c.args.reader.now in
    let part = c.in_ok-part.part in
    let strategy = c.in-Means.strategy in
    let first = g.W.Write.contents c.args.writer.now in
    let last = g.W.Write.contents c.run_script.new.writer in
    let fresh = nothing_held (λ r. g.R.Read.remaining r.now) c.in-Ok.input _ c.in-Ok.ensures.inner c.in-Ok.ensures.empty c.in-Ok.ensures.capacity in
    let after = reader_remaining (λ r. g.R.Read.remaining r.now) c.part_before_script.new.reader in
    let found : IsFoundIn part (Means strategy) = subst (λ f. IsFoundIn part f) c.in-Means.is c.in_ok-finding.ensures in
    IfOk-weaker c.run_script.result (λ status. (faulted : Bool) × IfSome after (Ran (Closed strategy c.args.seats) first last faulted) × (status ≡ (if faulted then 1 else 0)))
    (λ status. IfSome known (Replays c.args.seats first last status))
    (λ status r. replays_script known _ first last part strategy c.args.seats r.0 status (of_reader (IsPart part) _ _ _ fresh c.in_ok-part.ensures) found r.1 r.2)
    c.run_script.ensures
