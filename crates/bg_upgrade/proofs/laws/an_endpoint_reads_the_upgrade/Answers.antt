use Rattle.std.proofs.Common.{refl}
use Rattle.std.specs.Prelude.{codes}
use Rattle.bg_upgrade.proofs.LawLemmas.{still_asks}
use Rattle.bg_upgrade.proofs.ReadHeads.{upgrade_is_read}
use Rattle.bg_upgrade.proofs.SentFields.{endpoint_speaks}
use Rattle.bg_upgrade.proofs.laws.an_endpoint_reads_the_upgrade.Goals as goal

pub returns-clause-head : goal.returns-clause-head
returns-clause-head c =
    λ request more input rest.
    upgrade_is_read c.a_head_has_plain_fields.ensures.requests
    c.a_head_with_plain_fields_is_read_as_it_is_written.ensures.requests request more input rest
    (c.written_fields_are_plain.ensures.via request)
    (c.written_fields_are_plain.ensures.words (codes "Connection") (codes "upgrade") refl refl)

pub returns-clause-fields : goal.returns-clause-fields
returns-clause-fields c = endpoint_speaks c.fields_of_one_connection_stay.ensures

pub returns-clause-asks : goal.returns-clause-asks
returns-clause-asks c = λ request. still_asks request (endpoint_speaks c.fields_of_one_connection_stay.ensures request)
