use Rattle.std.proofs.Common.{◌≡◌, ℕ, List, ◌++◌, append_assoc, subst, sym, OnOk}
use Rattle.std.specs.Prelude.{codes}
use Rattle.std.specs.Fmt.{decimal}
use Rattle.std.specs.Io.KnownBytes.{Appends}
use Rattle.bg_http.specs.Texts.{reason_of}
use Rattle.bg_http.proofs.error_page.write_page_body.Goals as goal

twice : (d r e f : List ℕ) → (d ++ r) ++ (e ++ ((d ++ r) ++ f)) ≡ d ++ (r ++ (e ++ (d ++ (r ++ f))))
twice d r e f = simp append_assoc

pub returns-in-Html : goal.returns-in-Html
returns-in-Html g c =
    let old = g.W.Write.contents c.args.writer.now in
    let new = g.W.Write.contents c.write-in-Html.new.self in
    rw c.in-Html.is (subst (λ text. OnOk c.write-in-Html.result (Appends old new (codes "<!DOCTYPE html>\n<title>" ++ text)))
    (sym (twice (decimal c.args.status) (codes " " ++ reason_of c.args.status) (codes "</title>\n<h1>") (codes "</h1>\n")))
    (rw (← c.reason-reason.ensures) c.write-in-Html.ensures.bytes))
