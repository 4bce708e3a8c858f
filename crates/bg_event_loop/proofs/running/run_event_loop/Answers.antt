use Rattle.bg_event_loop.proofs.SeatLemmas.{served_at_last}
use Rattle.bg_event_loop.proofs.running.run_event_loop.Goals as goal

pub returns-clause-served : goal.returns-clause-served
returns-clause-served g c = served_at_last _ _ _ c.requires c.serve_clients-served.ensures c.leave_all.ensures

pub returns-clause-order : goal.returns-clause-order
returns-clause-order g c =
    let served = served_at_last _ _ _ c.requires c.serve_clients-served.ensures c.leave_all.ensures in
    c.same_order.ensures.each _ _ served.as_many (λ i before after is was. (served.each i before after is was).1.index)
