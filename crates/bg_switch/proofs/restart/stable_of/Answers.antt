use Rattle.bg_switch.proofs.restart.stable_of.Goals as goal

pub returns-in-Some : goal.returns-in-Some
returns-in-Some g c =
    let made = c.in_ok-book in
    (made.seats.items, (made.book, (made.ensures.book, c.in-Some.ensures)))
