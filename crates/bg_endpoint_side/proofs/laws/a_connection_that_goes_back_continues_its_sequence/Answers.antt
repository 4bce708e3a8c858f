use Rattle.std.proofs.Common.{[], ◌∷◌, ◌++◌, subst}
use Rattle.bg_http_read.specs.Sequences.{AreResponsesOf}
use Rattle.bg_endpoint_side.proofs.LawLemmas.{goes_back_drained}
use Rattle.bg_endpoint_side.proofs.laws.a_connection_that_goes_back_continues_its_sequence.Goals as goal

pub returns : goal.returns
returns c requests responses before f came left response follows reads is =
    let one_more = c.a_drained_connection_continues_its_sequence.ensures.response requests f.request responses response before
    came left follows reads in
    subst (AreResponsesOf (requests ++ f.request ∷ []) (responses ++ response ∷ []) (before ++ came))
    (goes_back_drained f came left response is).drained one_more
