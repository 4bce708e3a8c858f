use Rattle.std.proofs.Common.{◌≡◌, ◌++◌, Bool, IsTrue, refl, ap, subst, sym, ◌∙◌}
use Rattle.bg_http_read.specs.RequestStates.{IsReadThen, LacksRequest}
use Rattle.bg_http_read.specs.RequestsFed.{IsFed, head_after, is_head, was_asked}
use Rattle.bg_http_read.proofs.States.{same_stream, stream_state}
use Rattle.bg_http_read.proofs.request_stream.RequestStream.feed.Goals as goal

pub invariant_of-self : goal.invariant_of-self
invariant_of-self c is_open =
    let waits = c.add-in-Ok-Whole.ensures ∙ ap (λ l. l ++ c.waiting.result.now) c.new-self-inside.ensures ∙ c.waiting.ensures in
    subst (IsFed c.begin_next.new.self) (sym waits) c.begin_next.ensures.fed

pub returns-in-Ok-Whole-clause-whole : goal.returns-in-Ok-Whole-clause-whole
returns-in-Ok-Whole-clause-whole c =
    let before = c.self.inside in
    let bytes = c.args.bytes.now in
    let is_open : IsTrue before.is_open = ap (λ s. s.is_open) c.self.view_is ∙ c.requires in
    let waits = c.add-in-Ok-Whole.ensures ∙ ap (λ l. l ++ c.waiting.result.now) c.new-self-inside.ensures ∙ c.waiting.ensures in
    let answer = rw c.in-Ok-Whole.field-0-is at c.in-Ok-Whole.ensures.answer before.seen.bytes (c.self.invariant is_open) in
    subst (λ s. IsReadThen s.asked c.in-Ok-Whole.request (s.since ++ bytes) c.add-in-Ok-Whole.new.self.bytes) c.self.view_is
    (subst (IsReadThen (was_asked before.feed.progress.stage) c.in-Ok-Whole.request (before.seen.bytes ++ bytes))
    (sym (waits ∙ c.begin_next.ensures.waits ∙ answer.2 refl)) answer.1)

pub returns-in-Ok-More-clause-none_yet : goal.returns-in-Ok-More-clause-none_yet
returns-in-Ok-More-clause-none_yet c =
    let before = c.self.inside in
    let bytes = c.args.bytes.now in
    let is_open : IsTrue before.is_open = ap (λ s. s.is_open) c.self.view_is ∙ c.requires in
    let answer = rw c.in-Ok-More.field-0-is at c.in-Ok-More.ensures.answer before.seen.bytes (c.self.invariant is_open) in
    let asked = was_asked c.feed.new.self.progress.stage in
    let waits = is_head c.feed.new.self.progress.stage in
    let now =
    stream_state c.add.new.self.bytes waits asked before.is_open (head_after before.is_open c.feed.new.self.progress.stage) in
    subst (λ s. (now ≡ record s { since = s.since ++ bytes; waits = waits }) × LacksRequest (s.since ++ bytes)) c.self.view_is (
      same_stream c.add.new.self.bytes (before.seen.bytes ++ bytes) waits asked (was_asked before.feed.progress.stage)
          before.is_open before.is_open (head_after before.is_open c.feed.new.self.progress.stage)
          (head_after before.is_open before.feed.progress.stage) c.add.ensures answer.3 refl
          (ap (λ (is : Bool). head_after is c.feed.new.self.progress.stage) is_open
          ∙ sym (ap (λ (is : Bool). head_after is before.feed.progress.stage) is_open)),
      answer.0,
    )
