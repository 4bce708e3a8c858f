use Rattle.bg_script.proofs.boot_clock.answer_before.Goals as goal

pub returns-in-Some-Ok : goal.returns-in-Some-Ok
returns-in-Some-Ok g c =
    let told = rw c.in-Some-Ok.field-0-is at c.in-Some-Ok.ensures.told in (told.2.0, (told.0, told.1, told.2.1))

pub returns-in-Some-Err : goal.returns-in-Some-Err
returns-in-Some-Err g c =
    let told = rw c.in-Some-Err.field-0-is at c.in-Some-Err.ensures.told in (told.2.0, (told.0, told.1, told.2.1))
