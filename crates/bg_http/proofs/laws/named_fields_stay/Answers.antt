use Rattle.bg_http.proofs.KeptFields.{stays, removed_where_named}
use Rattle.bg_http.proofs.laws.named_fields_stay.Goals as goal

pub returns : goal.returns
returns c = λ fields name named other. stays fields name (λ f e. removed_where_named fields name f named other e)
