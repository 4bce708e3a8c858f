use Rattle.bg_http_read.proofs.FaultStays.{fault_stays}
use Rattle.bg_http_read.proofs.laws.a_fault_stays.Goals as goal

pub returns : goal.returns
returns c = λ input more fault whole h. fault_stays input more fault whole h
