-- The heads of the response to a request, as they are taken from its bytes.
use Rattle.std.specs.Prelude.{◌≡◌, Bool, ℕ, ◌≤◌, List, ◌++◌, ⊤}
use Rattle.bg_http.specs.ResponseRules.{asks_for_head}
use Rattle.bg_http.specs.declared.request.Request.{Request}
use Rattle.bg_http.specs.declared.response.ResponseHead.{ResponseHead}
use Rattle.bg_http.specs.declared.response_rules.ResponseFraming.{ResponseFraming}
use Rattle.bg_http.specs.declared.response_rules.ResponseFraming.TheVariants as framing
use Rattle.bg_http_read.specs.Responses.{AfterInterim, IsFinalHeadWithin, SkipsInterim}
use Rattle.bg_http_read.specs.declared.final_head.TheConstants.{MOST_INTERIM}

-- whether the method of the request is HEAD, the most bytes that a Content-Length may name, and the
-- number of interim responses that were taken
pub record HeadsState : Type 0 where
  pub to_head : Bool
  pub most : ℕ
  pub interim : ℕ

-- what was taken of the response to the request is these bytes: so many interim responses, whatever follows
pub record HasTaken (state : HeadsState) (request : Request) (input : List ℕ) : Type 0 where
  pub asked : state.to_head ≡ asks_for_head request
  pub few : state.interim ≤ MOST_INTERIM
  pub skips : (more : List ℕ) → SkipsInterim request state.interim (input ++ more) more

-- the bytes are the heads of the response to the request, judged within a limit, up to the end of the final one, whatever follows
abbrev pub AreHeads : ℕ → Request → List ℕ → ResponseHead → ResponseFraming → Type 0
AreHeads most request input head named =
    (more : List ℕ) → AfterInterim request (input ++ more) (IsFinalHeadWithin most request head named more)

-- the length that the framing names, if it names one, is within the limit
abbrev pub FitsWithin : ℕ → ResponseFraming → Type 0
FitsWithin most framing.Interim = ⊤
FitsWithin most framing.NoBody = ⊤
FitsWithin most framing.Chunks = ⊤
FitsWithin most (framing.Length size) = size ≤ most
FitsWithin most framing.ToTheEnd = ⊤

-- heads that are judged within one limit are judged so within another one that their length keeps
abbrev pub AreHeadsAlso : ℕ → ℕ → Request → List ℕ → ResponseHead → ResponseFraming → Type 0
AreHeadsAlso most other request input head named =
    AreHeads most request input head named → FitsWithin other named → AreHeads other request input head named
