-- The steps of a response's parser.
use Rattle.std.proofs.Common.{◌≡◌, Bool, true, false, ℕ, zero, suc, ◌≤◌, nat_eq, List, [], ◌∷◌, ◌++◌, length, drop, refl, sym, ◌∙◌, arith, subst, Option, Some, None, Result, Ok, Err, IfNone, IfOk, IsErrAnd}
use Rattle.std.proofs.lemmas.Bool.Decides.{nat_tests}
use Rattle.std.proofs.lemmas.List.{append-nil}
use Rattle.bg_http.specs.Codings.{is_empty}
use Rattle.bg_http.specs.ResponseRules.{asks_for_head}
use Rattle.bg_http.specs.declared.request.Request.{Request}
use Rattle.bg_http.specs.declared.response.Response.{Response}
use Rattle.bg_http.specs.declared.response_fault.ResponseFault.{ResponseFault}
use Rattle.bg_http_read.specs.Responses.{ReadsResponse, ResponseFails}
use Rattle.bg_http_read.specs.ResponsesFed.{Advances, AdvancesTo, IsSeen, IsFed, IsFedStage, IsOpen, IsOpenStage}
use Rattle.bg_http_read.specs.ResponseStates.{IsRead, IsReadThen, IsRefused, NeedsMore, ResponseState, asks_more}
use Rattle.bg_http_read.specs.Streams.{waiting}
use Rattle.bg_http_read.specs.declared.received_response.ReceivedResponse.{ReceivedResponse}
use Rattle.bg_http_read.specs.declared.response_feed.ResponseFeed.{ResponseFeed}
use Rattle.bg_http_read.specs.declared.response_progress.Advance.{Advance}
use Rattle.bg_http_read.proofs.States.{response_state, same_response}
use Rattle.bg_http_read.specs.declared.response_progress.ResponseStage.{ResponseStage}
use Rattle.bg_http_read.proofs.FedResponses.{fed_needs_more}

-- the answer is the fault that is known
pub advances_err : (request : Request) (seen bytes : List ℕ) (s : ResponseStage)
    (r : Result Advance ResponseFault) (e : ResponseFault) → IsErrAnd r (λ f. f ≡ e)
    → IsRefused request e seen → Advances request seen bytes r s
advances_err request seen bytes s (Ok advance) e is refused = absurd is
advances_err request seen bytes s (Err f) e is refused =
    subst (λ f. IsRefused request f seen) (sym is) refused

-- a response that is read to its end, whatever follows it
pub read_to_end : (request : Request) (response : Response) (seen left : List ℕ)
    → IsReadThen request response seen left → IsRead request response seen
read_to_end request response seen left h more = (left ++ more, h more)

same_test : (one other : ℕ) → nat_eq (suc one) (suc other) ≡ nat_eq one other
same_test one other = grind (arith, nat_tests)

some_left : (count : ℕ) → nat_eq 0 (suc count) ≡ false
some_left count = grind (arith, nat_tests)

-- nothing is left if and only if all bytes were taken
pub drained : (taken : ℕ) (bytes : List ℕ) → taken ≤ length bytes
    → nat_eq taken (length bytes) ≡ is_empty (drop taken bytes)
drained zero [] fits = refl
drained zero (byte ∷ bytes) fits = some_left (length bytes)
drained (suc taken) [] fits = absurd (omega (arith, fits))
drained (suc taken) (byte ∷ bytes) fits =
    same_test taken (length bytes) ∙ drained taken bytes (omega (arith, fits))

-- what each part of an answer says
pub advanced_none_at : (request : Request) (seen left : List ℕ) (parser : ResponseFeed)
    (found : Option Response) → parser.progress.to_head ≡ asks_for_head request
    → AdvancesTo request seen left found parser.progress.stage
    → IfNone found (IsOpenStage parser.progress.stage) → waiting parser.intake ≡ left
    → IfNone found (IsFed parser request seen × NeedsMore request seen)
advanced_none_at request seen left parser (Some response) asked h goes_on waits = tt
advanced_none_at request seen left parser None asked h goes_on waits = (
  record {
    to_head_is = asked;
    stage_is = subst (λ w. IsFedStage request parser.progress.stage w seen) (sym waits) h.0;
  },
  fed_needs_more request parser.progress.stage left seen h.0 goes_on h.1,
)

pub advanced_open : (left : List ℕ) (parser : ResponseFeed) (found : Option Response)
    → IfNone found (IsOpenStage parser.progress.stage)
    → IfNone found (IsSeen parser.progress.stage left) → waiting parser.intake ≡ left
    → IfNone found (IsOpen parser)
advanced_open left parser (Some response) goes_on sees waits = tt
advanced_open left parser None goes_on sees waits =
    (goes_on, subst (IsSeen parser.progress.stage) (sym waits) sees)

-- a fault of every continuation is a fault of the bytes alone
pub refused_here : (request : Request) (e : ResponseFault) (seen : List ℕ)
    → IsRefused request e seen → ResponseFails request seen e
refused_here request e seen h =
    subst (λ l. ResponseFails request l e) (append-nil seen) (h [])

pub read_here : (request : Request) (response : Response) (seen : List ℕ)
    → (left : List ℕ) → IsReadThen request response seen left → ReadsResponse request response seen
read_here request response seen left h =
    subst (ReadsResponse request response) (append-nil seen) (read_to_end request response seen left h [])

-- if more bytes are needed, only the bytes that came have changed
pub fed_more : (state : ResponseState) (request : Request) (seen came : List ℕ)
    (r : Result (Option ReceivedResponse) ResponseFault) (feed : ResponseFeed) (is_open : Bool)
    → request ≡ state.request → came ≡ seen → is_open ≡ asks_more r → state.is_open ≡ true
    → IfOk r (λ found. IfNone found (IsFed feed state.request seen × NeedsMore state.request seen))
    → IfOk r (λ found. IfNone found
    ((response_state request came is_open ≡ record state { seen = seen })
    × NeedsMore state.request seen))
fed_more state request seen came (Ok None) feed is_open asked same goes was h = (
  same_response request state.request came seen is_open state.is_open asked same (goes ∙ sym was),
  h.1,
)
fed_more state request seen came (Ok (Some received)) feed is_open asked same goes was h = tt
fed_more state request seen came (Err e) feed is_open asked same goes was h = tt
