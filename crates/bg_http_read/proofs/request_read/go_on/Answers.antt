use Rattle.std.proofs.Common.{[], ◌++◌, subst, sym, true, ◌∙◌}
use Rattle.std.proofs.lemmas.List.{append-nil}
use Rattle.bg_http_read.specs.RequestStates.{IsReadAsked, IsRefusedAsked}
use Rattle.bg_http_read.proofs.States.{request_as_it_was}
use Rattle.bg_http_read.proofs.request_read.go_on.Goals as goal

pub returns-in-Ok-Whole-clause-request : goal.returns-in-Ok-Whole-clause-request
returns-in-Ok-Whole-clause-request c =
    let read = rw c.in-Ok-Whole.field-0-is at c.in-Ok-Whole.ensures.whole in
    subst (λ l. IsReadAsked true c.in-Ok-Whole.request l) (append-nil c.args.parser.now.seen)
    (subst (λ a. IsReadAsked a c.in-Ok-Whole.request (c.args.parser.now.seen ++ [])) c.requires.asked read)

pub returns-in-Err-clause-refused : goal.returns-in-Err-clause-refused
returns-in-Err-clause-refused c =
    subst (λ l. IsRefusedAsked true c.in-Err.fault l) (append-nil c.args.parser.now.seen)
    (subst (λ a. IsRefusedAsked a c.in-Err.fault (c.args.parser.now.seen ++ [])) c.requires.asked c.in-Err.ensures.refused)

pub returns-in-Ok-More-clause-none_yet : goal.returns-in-Ok-More-clause-none_yet
returns-in-Ok-More-clause-none_yet c =
    let more = rw c.in-Ok-More.field-0-is at c.in-Ok-More.ensures.none_yet in
    more.0 ∙ request_as_it_was c.args.parser.now

pub returns-in-Ok-Continue-clause-none_yet : goal.returns-in-Ok-Continue-clause-none_yet
returns-in-Ok-Continue-clause-none_yet c =
    let owed = rw c.in-Ok-Continue.field-0-is at c.in-Ok-Continue.ensures.owed in
    let both = sym c.requires.asked ∙ owed.0 in
    cc
