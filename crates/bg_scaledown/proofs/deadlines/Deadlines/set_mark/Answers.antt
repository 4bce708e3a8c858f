use Rattle.std.proofs.Common.{◌≡◌, ◌∷◌, [], true, sym, subst, arith}
use Rattle.bg_history.specs.Tables.{Table}
use Rattle.bg_scaledown.specs.Due.{has_room_for}
use Rattle.bg_scaledown.proofs.Room.{marks_without-room}
use Rattle.bg_scaledown.proofs.deadlines.Deadlines.set_mark.Goals as goal

pub put-requires : goal.put-requires
put-requires c =
    let room : has_room_for (c.args.mark.revision ∷ []) c.self.inside.marks ≡ true = subst (λ (t : Table). has_room_for (c.args.mark.revision ∷ []) t.marks ≡ true) (sym c.self.view_is) c.requires.room in
    marks_without-room c.args.mark.revision c.self.inside.marks room

pub invariant_of-self : goal.invariant_of-self
invariant_of-self c =
    let room : has_room_for (c.args.mark.revision ∷ []) c.self.inside.marks ≡ true = subst (λ (t : Table). has_room_for (c.args.mark.revision ∷ []) t.marks ≡ true) (sym c.self.view_is) c.requires.room in
    rw c.put.ensures (omega (arith, marks_without-room c.args.mark.revision c.self.inside.marks room))
