use Rattle.bg_script.proofs.FoundInBytes.{refused_found}
use Rattle.bg_script.proofs.finding.finding_in.Goals as goal

pub returns-in-Err : goal.returns-in-Err
returns-in-Err g c = refused_found c.args.part.now c.in-Whole.text.items c.in-Err.fault c.refused.result
    (λ f is why. let whole = c.in-Whole.is in rw (whole, is) why)
    (let same = c.deref.ensures.value in rw same at c.in-Err.ensures.fault)
    c.refused.ensures
