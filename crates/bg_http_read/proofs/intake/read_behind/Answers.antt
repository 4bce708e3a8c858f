use Rattle.std.proofs.Common.{◌<◌, ◌≤◌, ◌+◌, [], arith, length, refl, take, ◌∙◌}
use Rattle.std.proofs.lemmas.List.{length-take-le}
use Rattle.bg_http_read.proofs.Pieces.{room_filled}
use Rattle.bg_http_read.proofs.intake.read_behind.Goals as goal

pub returns-in-Some-clause-came : goal.returns-in-Some-clause-came
returns-in-Some-clause-came g c =
    let old = c.args.bytes.now.items in
    let now = c.deref_mut.result.now in
    let piece = c.read_piece.new.piece in
    let start = c.len-start.result in
    let end = start + c.min.result in
    let size = c.resize.new.self.len in
    let room = c.deref_mut.ensures.value ∙ (rw c.if-is_err.ensures.negation at c.resize.ensures.items) in
    let all = rw c.if-is_err.ensures.negation at c.resize.ensures.len in
    let count = c.in-Some.count in
    let fits = c.in-Some.ensures.fits in
    let came = length-take-le count piece fits in
    let few : length (take count piece) ≤ c.args.most = omega (arith, all, came) in
    let positive : 0 < c.min.result = omega arith in (
      take count piece,
      room_filled old _ now piece _ _ c.truncate.new.self.items start count (start + count) end size c.truncate.ensures.items
          room (omega arith) (omega arith) fits refl (omega (arith, all, fits)),
      few,
      (came, c.in-Some.ensures.bytes, λ none. c.in-Some.ensures.end none (omega (arith, all, positive))),
    )

pub returns-in-None-clause-came : goal.returns-in-None-clause-came
returns-in-None-clause-came g c =
    let old = c.args.bytes.now.items in
    let now = c.deref_mut.result.now in
    let piece = c.read_piece.new.piece in
    let start = c.len-start.result in
    let end = start + c.min.result in
    let size = c.resize.new.self.len in
    let room = c.deref_mut.ensures.value ∙ (rw c.if-is_err.ensures.negation at c.resize.ensures.items) in
    let all = rw c.if-is_err.ensures.negation at c.resize.ensures.len in (
      [],
      room_filled old _ now piece _ _ c.truncate-in-None.new.self.items start 0 start end size c.truncate-in-None.ensures.items
          room (omega arith) (omega arith) (omega arith) (omega arith) (omega (arith, all)),
      omega arith,
      refl,
    )
