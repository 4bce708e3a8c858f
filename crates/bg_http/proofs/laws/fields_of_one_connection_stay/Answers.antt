use Rattle.bg_http.proofs.KeptFields.{stays_of_connection}
use Rattle.bg_http.proofs.laws.fields_of_one_connection_stay.Goals as goal

pub returns : goal.returns
returns c = stays_of_connection
