use Rattle.bg_http.proofs.error_page.write_page_head.Goals as goal

pub returns : goal.returns
returns g c = rw (← c.reason.ensures, ← c.media_type.ensures, ← c.len.ensures) c.write.ensures.bytes
