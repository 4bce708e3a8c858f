use Rattle.std.proofs.Common.{◌<◌, length}
use Rattle.bg_scaledown.specs.Due.{marks_without}
use Rattle.bg_scaledown.proofs.Sorting.{orders-put, room-sorted}
use Rattle.bg_scaledown.proofs.marks.Marks.put.Goals as goal

pub placed-self-inside-requires : goal.placed-self-inside-requires
placed-self-inside-requires c =
    let room : length (marks_without c.args.mark.revision c.self.inside.newest_first) < 64 = rw c.self.view_is c.requires in
    rw (c.as_slice-2.ensures.marks, c.others-others.ensures, c.as_slice.ensures.marks)
    (room-sorted c.args.mark.revision c.self.inside.newest_first c.self.inside.by_deadline c.self.invariant room)

pub invariant_of-self : goal.invariant_of-self
invariant_of-self c =
    let room : length (marks_without c.args.mark.revision c.self.inside.newest_first) < 64 = rw c.self.view_is c.requires in
    rw (c.marked-self-inside.ensures, c.as_slice-3.ensures.marks, c.placed-self-inside.ensures, c.as_slice-2.ensures.marks, c.others-others.ensures, c.as_slice.ensures.marks)
    (orders-put c.args.mark c.self.inside.newest_first c.self.inside.by_deadline c.self.invariant room)
