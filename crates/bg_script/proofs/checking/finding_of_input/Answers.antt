use Rattle.bg_operator.specs.Parting.{IsWhole}
use Rattle.bg_script.proofs.FoundInBytes.{found_in_all}
use Rattle.bg_script.proofs.FreshBuffer.{nothing_held, of_reader}
use Rattle.bg_script.proofs.checking.finding_of_input.Goals as goal

pub returns : goal.returns
returns g c =
    let part = c.in_ok-part.part in
    let fresh = nothing_held (λ r. g.R.Read.remaining r.now) c.in-Ok.input _ c.in-Ok.ensures.inner c.in-Ok.ensures.empty c.in-Ok.ensures.capacity in
    found_in_all (g.R.Read.remaining c.args.reader.now) _ part c.finding_in.result
    (of_reader (IsWhole part) _ _ _ fresh c.in_ok-part.ensures) c.finding_in.ensures
