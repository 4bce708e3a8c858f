use Rattle.std.proofs.Common.{◌≡◌, true, arith, refl}
use Rattle.std.proofs.lemmas.Bool.Decides.{nat_tests}
use Rattle.bg_scaledown.specs.Due.{has_room_for}
use Rattle.bg_scaledown.specs.Events.{marked_by_deploy, replaces_newest, goes_back}
use Rattle.bg_scaledown.proofs.Room.{deploy-dropped, room-newest, room-both, room-active}
use Rattle.bg_scaledown.proofs.deadlines.Deadlines.record_deploy.Goals as goal
use Rattle.bg_scaledown.proofs.deadlines.Deadlines.record_deploy.Goals.{then-revision-selectors, else-revision-selectors+else-selectors-revision, then-selectors+then-selectors-2+then-newest_is_scaled, else-selectors}

pub superseded-requires : goal.superseded-requires
superseded-requires c =
    let room : has_room_for (marked_by_deploy c.args.revision c.args.selectors) c.if-revision-selectors.self.marks ≡ true = elim c.if-revision-selectors.branch [
      | then-revision-selectors w ↦ rw (w.self-is, w.clear.ensures) (deploy-dropped c.args.revision c.args.revision c.args.selectors c.args.self.now.marks c.requires.room)
      | else-revision-selectors+else-selectors-revision w ↦ rw w.self-is c.requires.room
    ] in
    let replaces : replaces_newest c.args.selectors ≡ true = grind (arith, nat_tests, c.if-selectors.true, c.if-selectors-2.true) in
    record { room = room-newest c.args.revision c.args.selectors c.if-revision-selectors.self.marks room replaces }

pub left_active-requires-clause-room : goal.left_active-requires-clause-room
left_active-requires-clause-room c =
    let room : has_room_for (marked_by_deploy c.args.revision c.args.selectors) c.if-revision-selectors.self.marks ≡ true = elim c.if-revision-selectors.branch [
      | then-revision-selectors w ↦ rw (w.self-is, w.clear.ensures) (deploy-dropped c.args.revision c.args.revision c.args.selectors c.args.self.now.marks c.requires.room)
      | else-revision-selectors+else-selectors-revision w ↦ rw w.self-is c.requires.room
    ] in
    let back : goes_back c.args.revision c.args.selectors ≡ true = grind (arith, nat_tests, c.if-revision-selectors-2.true, c.if-selectors-revision-2.true) in
    elim c.if-selectors.branch [
      | then-selectors+then-selectors-2+then-newest_is_scaled w ↦
          let replaces : replaces_newest c.args.selectors ≡ true = grind (arith, nat_tests, w.if-selectors.true, w.if-selectors-2.true) in
          rw (w.self-is, w.superseded.ensures) (room-both c.args.revision c.args.selectors _ c.if-revision-selectors.self.marks room replaces back refl)
      | else-selectors w ↦ rw w.self-is (room-active c.args.revision c.args.selectors c.if-revision-selectors.self.marks room back)
    ]
