-- What holds at each stage of a connection.
use Rattle.std.proofs.Common.{◌≡◌, ◌<◌, ◌+◌, ◌&&◌, Bool, true, false, IsTrue, not, refl, arith, nat_lt}
use Rattle.std.proofs.lemmas.Bool.{ltb-true}
use Rattle.bg_http.specs.Persistences.{keeps}
use Rattle.bg_http.specs.declared.persistence.Persistence.{Persistence}
use Rattle.bg_client_side.specs.Facts.{keeps_after}
use Rattle.bg_client_side.specs.Sound.{IsSound}
use Rattle.bg_client_side.specs.Stages.{goes_on, was_whole}
use Rattle.bg_client_side.specs.declared.facts.ClientFacts.{ClientFacts}
use Rattle.bg_client_side.specs.declared.stage.Stage.{Stage}
use Rattle.bg_client_side.specs.declared.stage.Stage.TheVariants as stage

pub both : (a b : Bool) → (a && b) ≡ true → (a ≡ true) × (b ≡ true)
both true b is = (refl, is)
both false b is = absurd (cc)

-- the stream is open if a further request may be read on the connection
open_if_it_goes_on : (is_open : Bool) (old : Stage) (facts : ClientFacts) → IsSound is_open old facts → goes_on old ≡ true
    → IsTrue is_open
open_if_it_goes_on is_open stage.Idle facts sound goes = sound
open_if_it_goes_on is_open stage.Reading facts sound goes = sound
open_if_it_goes_on is_open stage.Continuing facts sound goes = sound
open_if_it_goes_on is_open (stage.Waiting request) facts sound goes = sound
open_if_it_goes_on is_open stage.Inside facts sound goes = sound
open_if_it_goes_on is_open (stage.PassingOn passing) facts sound goes = sound
open_if_it_goes_on is_open (stage.Refused named) facts sound goes = absurd (cc)
open_if_it_goes_on is_open (stage.Answering answering) facts sound goes = (sound goes).0
open_if_it_goes_on is_open (stage.Lingering lingering) facts sound goes = absurd (cc)
open_if_it_goes_on is_open stage.Left facts sound goes = absurd (cc)

-- an answer after which the connection goes on is that to a request that was read whole, and not the last one
pub sound_answer : (is_open : Bool) (old : Stage) (facts : ClientFacts) (persistence : Persistence)
    → IsSound is_open old facts → (keeps persistence && (goes_on old && was_whole old && keeps_after facts)) ≡ true
    → IsTrue is_open × (facts.answered < facts.settings.most_requests)
sound_answer is_open old facts persistence sound is =
    let fewer = nat_lt (facts.answered + 1) facts.settings.most_requests in
    let may_stay = goes_on old && was_whole old in
    let stays = both may_stay (keeps_after facts) (both (keeps persistence) (may_stay && keeps_after facts) is).1 in
    let all = both (facts.is_to_stay && fewer && not facts.is_closing) (keeps facts.settings.persistence) stays.1 in
    let no_end = both (facts.is_to_stay && fewer) (not facts.is_closing) all.0 in
    let few = ltb-true (facts.answered + 1) facts.settings.most_requests (both facts.is_to_stay fewer no_end.0).1 in
    (open_if_it_goes_on is_open old facts sound (both (goes_on old) (was_whole old) stays.0).0, omega (arith, few))
