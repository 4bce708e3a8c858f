use Rattle.bg_tests_forward.proofs.worker_counts.work_both.Goals as goal

pub returns : goal.returns
returns g c =
    let worked = c.run_workers.ensures in
    c.same_order.ensures.each _ _ worked.as_many (λ i before after was is. (worked.each i before after was is).index)
