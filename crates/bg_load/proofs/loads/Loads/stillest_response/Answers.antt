use Rattle.std.proofs.Common.{◌≡◌, ◌∙◌, ℕ, ◌<◌, None, length, ap, subst, sym, true}
use Rattle.bg_load.proofs.RoomLemmas.{some_answers}
use Rattle.bg_load.specs.Registers.{Register, at}
use Rattle.bg_load.specs.Room.{answering_since, has_too_many_responses}
use Rattle.bg_load.proofs.loads.Loads.stillest_response.Goals as goal

pub returns-in_err-key-clause-when : goal.returns-in_err-key-clause-when
returns-in_err-key-clause-when c =
    let same = ap (λ (r : Register). r.places) c.self.view_is in
    let many : has_too_many_responses c.args.self.now ≡ true =
    sym c.has_too_many_responses.ensures ∙ c.if-not-has_too_many_responses.false in
    absurd (some_answers c.args.self.now many
    (subst (λ ps. (k : ℕ) → k < length ps → answering_since (at ps k) ≡ None) same (λ k less. c.in_err-key.ensures.none k less)))
