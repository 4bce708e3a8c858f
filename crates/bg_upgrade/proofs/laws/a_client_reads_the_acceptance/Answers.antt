use Rattle.std.proofs.Common.{refl}
use Rattle.std.specs.Prelude.{codes}
use Rattle.bg_upgrade.proofs.LawLemmas.{still_accepts}
use Rattle.bg_upgrade.proofs.ReadHeads.{acceptance_is_read}
use Rattle.bg_upgrade.proofs.SentFields.{client_speaks}
use Rattle.bg_upgrade.proofs.laws.a_client_reads_the_acceptance.Goals as goal

pub returns-clause-head : goal.returns-clause-head
returns-clause-head c =
    acceptance_is_read c.a_head_has_plain_fields.ensures.responses
    c.a_head_with_plain_fields_is_read_as_it_is_written.ensures.responses
    (c.written_fields_are_plain.ensures.words (codes "Connection") (codes "upgrade") refl refl)

pub returns-clause-fields : goal.returns-clause-fields
returns-clause-fields c = client_speaks c.fields_of_one_connection_stay.ensures

pub returns-clause-accepts : goal.returns-clause-accepts
returns-clause-accepts c =
    λ request head. still_accepts request head (client_speaks c.fields_of_one_connection_stay.ensures head)
