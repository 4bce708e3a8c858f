use Rattle.std.proofs.Common.{[], refl}
use Rattle.std.specs.Prelude.{codes}
use Rattle.bg_http.proofs.laws.only_one_length_goes_on.Goals as goal

pub returns-clause-codings : goal.returns-clause-codings
returns-clause-codings c = λ fields. c.fields_of_one_connection_stay.ensures fields (codes "transfer-encoding", []) refl

pub returns-clause-lengths : goal.returns-clause-lengths
returns-clause-lengths c = λ fields. c.fields_of_one_connection_stay.ensures fields (codes "content-length", []) refl

pub returns-clause-connections : goal.returns-clause-connections
returns-clause-connections c = λ fields. c.fields_of_one_connection_stay.ensures fields (codes "connection", []) refl
