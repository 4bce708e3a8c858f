use Rattle.std.proofs.Common.{◌≡◌, ◌==◌, true, false, arith}
use Rattle.std.proofs.lemmas.Bool.Decides.{nat_tests}
use Rattle.bg_scaledown.specs.Due.{has_room_for}
use Rattle.bg_scaledown.specs.Events.{marked_by_halt}
use Rattle.bg_scaledown.proofs.Room.{halt-dropped, halt-newest, halt-active}
use Rattle.bg_scaledown.proofs.deadlines.Deadlines.record_halt.Goals as goal
use Rattle.bg_scaledown.proofs.deadlines.Deadlines.record_halt.Goals.{then-selectors, else-selectors}

pub aborted-requires-clause-room : goal.aborted-requires-clause-room
aborted-requires-clause-room c = elim c.if-selectors.branch [
  | then-selectors w ↦ rw (w.self-is, w.clear.ensures) (halt-newest c.args.selectors _ (halt-dropped c.args.selectors.stable c.args.selectors c.args.self.now.marks c.requires.room))
  | else-selectors w ↦ rw w.self-is (halt-newest c.args.selectors c.args.self.now.marks c.requires.room)
]

pub left_active-requires-clause-room : goal.left_active-requires-clause-room
left_active-requires-clause-room c =
    let room : has_room_for (marked_by_halt c.args.selectors) c.if-selectors.self.marks ≡ true = elim c.if-selectors.branch [
      | then-selectors w ↦ rw (w.self-is, w.clear.ensures) (halt-dropped c.args.selectors.stable c.args.selectors c.args.self.now.marks c.requires.room)
      | else-selectors w ↦ rw w.self-is c.requires.room
    ] in
    let older : (c.args.selectors.newest == c.args.selectors.active) ≡ false = grind (arith, nat_tests, c.if-selectors-3.true) in
    rw c.aborted.ensures (halt-active c.args.selectors c.args.now c.if-selectors.self.abort_delay c.if-selectors.self.marks room older)
