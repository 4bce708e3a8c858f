-- What was written to the connection of a request is of the text of that request.
use Rattle.std.proofs.Common.{◌≡◌, ◌∙◌, ℕ, List, [], ◌++◌, refl, sym, ap}
use Rattle.bg_http.specs.declared.request.Request.{Request}
use Rattle.bg_client_side.specs.declared.facts.ClientSettings.{ClientSettings}
use Rattle.bg_endpoint_side.specs.Dialing.{Forwarded}
use Rattle.bg_both_sides.proofs.RunLemmas.{StayLaw, runs_its_client}
use Rattle.bg_both_sides.proofs.TrackLemmas.{Tracks, tracks_run}
use Rattle.bg_both_sides.specs.Laws.{IsOfItsRequest, begun}
use Rattle.bg_both_sides.specs.Runs.{SidesCall, SidesRun, came_in, sent_in}
use Rattle.bg_both_sides.specs.Sides.{IsForwarded, IsSound, Sides}

-- what is known of the two sides after calls
pub tracked : StayLaw → (settings : ClientSettings) (now : ℕ) (calls : List SidesCall) (new : Sides)
    → SidesRun (begun settings now) calls new
    → Tracks new.endpoint (sent_in [] calls) (came_in [] calls) × IsSound new.client new.endpoint
tracked law settings now calls new runs =
    (tracks_run calls (begun settings now) new [] [] tt runs, (runs_its_client law calls (begun settings now) new refl runs).1)

pub of_its_request : (request : Request) (f : Forwarded) (sent came : List ℕ) → (f.text.sent ≡ sent) × (f.came ≡ came)
    → IsForwarded request f → IsOfItsRequest sent came request f
of_its_request request f sent came tracks forwarded = record {
  sent_is = tracks.0;
  came_is = tracks.1;
  text_is = ap (λ t. t ++ f.text.rest) (sym tracks.0) ∙ forwarded.text_is;
}
