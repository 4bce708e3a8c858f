use Rattle.bg_http.proofs.writers.write_refusal.Goals as goal

pub returns : goal.returns
returns g c = rw (← c.reason.ensures) c.write.ensures.bytes
