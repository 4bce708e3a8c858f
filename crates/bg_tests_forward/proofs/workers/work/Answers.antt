use Rattle.bg_tests_forward.proofs.workers.work.Goals as goal

pub returns : goal.returns
returns g c =
    let worked = c.run.ensures in
    c.same_order.ensures.each _ _ worked.as_many (λ i before after was is. (worked.each i before after was is).index)
