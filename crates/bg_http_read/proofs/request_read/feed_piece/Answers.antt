use Rattle.std.proofs.Common.{◌++◌, ap, inl, subst, sym, true, ◌∙◌}
use Rattle.std.proofs.KnownBytes.{Keeps-refl}
use Rattle.bg_http_read.specs.Requests.{WritesContinue}
use Rattle.bg_http_read.specs.RequestPieces.{OwesIf}
use Rattle.bg_http_read.proofs.RequestPieces.{owes_more, went_on}
use Rattle.bg_http_read.proofs.RequestsRead.{continue_kept}
use Rattle.bg_http_read.proofs.request_read.feed_piece.Goals as goal

pub returns-in-Ok-Whole-clause-answer : goal.returns-in-Ok-Whole-clause-answer
returns-in-Ok-Whole-clause-answer g c first wrote owed =
    (c.args.parser.now.asked, rw c.in-Ok-Whole.field-0-is at c.in-Ok-Whole.ensures.whole, wrote)

pub returns-in-Ok-More-clause-answer : goal.returns-in-Ok-More-clause-answer
returns-in-Ok-More-clause-answer g c first wrote owed =
    let old = c.args.parser.now in
    let bytes = c.args.bytes.now in
    let now = g.S.Write.contents c.args.stream.now in
    let same = (rw c.in-Ok-More.field-0-is at c.in-Ok-More.ensures.none_yet).0 in
    let asked = sym (ap (λ p. p.asked) same) in (
      ap (λ p. p.seen) same,
      ap (λ p. p.is_open) same ∙ c.requires,
      subst (λ a. WritesContinue a first now) asked wrote,
      subst (λ a. OwesIf a (old.seen ++ bytes)) asked (owes_more old.asked old.seen bytes owed),
    )

pub go_on-requires : goal.go_on-requires
go_on-requires g c =
    let same = (rw c.in-Ok-Continue.field-0-is at c.in-Ok-Continue.ensures.owed).1 in
    record {
      is_open = ap (λ p. p.is_open) same ∙ c.requires;
      asked = ap (λ p. p.asked) same;
    }

pub returns-in-Err-clause-answer : goal.returns-in-Err-clause-answer
returns-in-Err-clause-answer g c first wrote owed =
    inl (c.args.parser.now.asked, c.in-Err.ensures.refused, wrote)

pub returns-in-Ok-clause-answer : goal.returns-in-Ok-clause-answer
returns-in-Ok-clause-answer g c first wrote owed =
    let owes = rw c.in-Ok-Continue.field-0-is at c.in-Ok-Continue.ensures.owed in
    let before = g.S.Write.contents c.args.stream.now in
    let now = g.S.Write.contents c.send_continue.new.stream in
    let kept = subst (λ a. WritesContinue a first before) owes.0 wrote in
    went_on (c.args.parser.now.seen ++ c.args.bytes.now) first now c.go_on.result c.feed.new.self c.go_on.new.parser
    (ap (λ p. p.seen) owes.1) (ap (λ p. p.is_open) owes.1 ∙ c.requires) (ap (λ p. p.asked) owes.1) owes.2
    (continue_kept true first before now now kept c.in-Ok.ensures.written (Keeps-refl now))
    c.go_on.ensures.request c.go_on.ensures.none_yet c.go_on.ensures.refused
