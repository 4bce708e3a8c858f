use Rattle.bg_client_side.proofs.ReadSequences.{SequenceLaws}
use Rattle.bg_client_side.proofs.SequenceLemmas.{gives_the_sequence}
use Rattle.bg_client_side.proofs.laws.the_requests_are_those_of_the_bytes.Goals as goal

pub returns : goal.returns
returns c calls old new requests came =
    let laws : SequenceLaws = record {
      bytes = c.a_stream_gives_the_sequence.ensures.bytes;
      request = c.a_stream_gives_the_sequence.ensures.request;
    } in
    gives_the_sequence laws calls old new requests came
