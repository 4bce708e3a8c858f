use Rattle.bg_scaledown.proofs.Sorting.{orders-dropped}
use Rattle.bg_scaledown.proofs.marks.Marks.drop_mark.Goals as goal

pub invariant_of-self : goal.invariant_of-self
invariant_of-self c =
    rw (c.others-self-inside-2.ensures, c.as_slice-2.ensures.marks, c.others-self-inside.ensures, c.as_slice.ensures.marks)
    (orders-dropped c.args.revision c.self.inside.newest_first c.self.inside.by_deadline c.self.invariant)
