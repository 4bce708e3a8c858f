use Rattle.std.proofs.Common.{◌≡◌, ◌||◌, arith, not, take}
use Rattle.std.proofs.lemmas.Grind.{common_steps}
use Rattle.bg_http.specs.Codings.{is_empty}
use Rattle.bg_streams.specs.ResponseRelays.{passing_of, rest_of}
use Rattle.bg_streams.proofs.StreamLemmas.{noted}
use Rattle.bg_streams.proofs.response_stream.ResponseStream.note.Goals as goal
use Rattle.bg_streams.proofs.response_stream.ResponseStream.note.Goals.{else-self, then-self}

pub returns-clause-stands : goal.returns-clause-stands
returns-clause-stands c =
    let old = c.args.self.now in
    let begun : c.if-self.self ≡ (old.is_begun || not (is_empty (take c.args.count (rest_of (passing_of old.relay))))) =
    elim c.if-self.branch [
      | then-self w ↦ grind (arith, common_steps)
      | else-self w ↦ grind (arith, common_steps)
    ] in
    noted old c.wrote.new.self c.args.count c.if-self.self begun c.wrote.ensures.stands c.wrote.ensures.fault
