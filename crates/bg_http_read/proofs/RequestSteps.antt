-- The steps of a request's parser.
use Rattle.std.proofs.Common.{◌≡◌, ◌⊎◌, inl, inr, Bool, true, false, List, ℕ, [], ◌++◌, refl, ap, subst, sym, ◌∙◌, None, Result, Ok, Err, IsErrAnd, IfErr, IfOk}
use Rattle.std.proofs.lemmas.List.{append-nil}
use Rattle.bg_http.specs.declared.request.Request.{Request}
use Rattle.bg_http.specs.declared.request_fault.RequestFault.{RequestFault}
use Rattle.bg_http.specs.declared.request_fault.RequestFault.TheVariants as fault
use Rattle.bg_http_read.specs.RequestStates.{FailsAsked, IfWhole, IsReadAsked, IsReadThen, IsRefusedAsked, LacksRequest, OnMore, ReadsAsked, RequestState, goes_on, is_whole}
use Rattle.bg_http_read.specs.RequestsFed.{AdvancesTo, EndsTo, FedTo, IsAt, IsFed, IsFedStage, IsShort, LacksHead, head_after, is_head, was_asked}
use Rattle.bg_http_read.specs.Streams.{waiting}
use Rattle.bg_http_read.specs.declared.request_feed.RequestFeed.{RequestFeed}
use Rattle.bg_http_read.specs.declared.request_progress.RequestStage.{RequestStage}
use Rattle.bg_http_read.specs.declared.request_progress.RequestStage.TheVariants as part
use Rattle.bg_http_read.specs.declared.request_step.RequestStep.{RequestStep}
use Rattle.bg_http_read.specs.declared.request_step.RequestStep.TheVariants as step
use Rattle.bg_http_read.proofs.FedRequests.{cut_off_lacks, no_continue_here}
use Rattle.bg_http_read.proofs.States.{request_state, same_request}

-- the answer is the fault that is known
pub fed_err : (keeps asked : Bool) (seen : List ℕ) (r : Result RequestStep RequestFault)
    (feed : RequestFeed) (e : RequestFault) → IsErrAnd r (λ f. f ≡ e)
    → IsRefusedAsked asked e seen → FedTo keeps asked seen r feed
fed_err keeps asked seen (Ok at) feed e is refused = absurd is
fed_err keeps asked seen (Err f) feed e is refused =
    subst (λ f. IsRefusedAsked asked f seen) (sym is) refused

-- whether `100 Continue` was asked for is the same
pub fed_asked : (keeps one other : Bool) (seen : List ℕ) (r : Result RequestStep RequestFault)
    (feed : RequestFeed) → one ≡ other → FedTo keeps one seen r feed → FedTo keeps other seen r feed
fed_asked keeps one other seen r feed same h = subst (λ asked. FedTo keeps asked seen r feed) same h

-- nothing was asked for while the head is looked for
head_unasked : (old : RequestStage) → is_head old ≡ true → was_asked old ≡ false
head_unasked (part.Head end) h = refl
head_unasked (part.Body p) h = cc
head_unasked (part.Done told) h = cc

-- the result of the bytes that wait is the result of all bytes that were fed
pub advanced : (keeps : Bool) (old : RequestStage) (seen left : List ℕ) (at : RequestStep)
    (feed : RequestFeed) → waiting feed.intake ≡ left → AdvancesTo old seen left at feed.progress.stage
    → FedTo keeps (was_asked old) seen (Ok at) feed
advanced keeps old seen left (step.Whole request) feed waits h = (left, h, λ kept. waits)
advanced keeps old seen left step.Continue feed waits (head, owed, at, lacks, asked) = (
  head_unasked old head,
  owed,
  subst (λ w. IsAt feed.progress.stage w seen) (sym waits) at,
  subst (LacksHead feed.progress.stage) (sym waits) lacks,
  asked,
)
advanced keeps old seen left step.More feed waits (cut, at, lacks, asked) = (
  cut_off_lacks (was_asked old) seen cut,
  subst (λ w. IsAt feed.progress.stage w seen) (sym waits) at,
  subst (LacksHead feed.progress.stage) (sym waits) lacks,
  asked,
)

-- the bytes behind a request are not kept
pub advanced_whole : (keeps : Bool) (old : RequestStage) (seen left : List ℕ) (at : RequestStep)
    (feed : RequestFeed) (new : RequestStage) → is_whole at ≡ true → keeps ≡ false
    → AdvancesTo old seen left at new → FedTo keeps (was_asked old) seen (Ok at) feed
advanced_whole keeps old seen left step.More feed new whole dropped h = cc
advanced_whole keeps old seen left step.Continue feed new whole dropped h = cc
advanced_whole keeps old seen left (step.Whole request) feed new whole dropped h =
    (left, h, λ kept. let wrong : true ≡ false = sym kept ∙ dropped in cc)

-- a request that is read, whatever follows it
pub read_asked : (asked : Bool) (request : Request) (seen left : List ℕ)
    → IsReadThen asked request seen left → IsReadAsked asked request seen
read_asked asked request seen left h more = (left ++ more, (h more).0, (h more).1)

-- a fact about every continuation of the bytes holds for the bytes alone
pub read_here : (asked : Bool) (request : Request) (seen left : List ℕ)
    → IsReadThen asked request seen left → ReadsAsked asked request seen
read_here asked request seen left h =
    subst (ReadsAsked asked request) (append-nil seen) (read_asked asked request seen left h [])

pub refused_here : (asked : Bool) (e : RequestFault) (seen : List ℕ)
    → IsRefusedAsked asked e seen → FailsAsked asked seen e
refused_here asked e seen h = subst (λ l. FailsAsked asked l e) (append-nil seen) (h [])

pub ends_err : (asked : Bool) (seen : List ℕ) (r : Result Request RequestFault)
    (e : RequestFault) → IsErrAnd r (λ f. f ≡ e) → IsRefusedAsked asked e seen
    → EndsTo asked seen r
ends_err asked seen (Ok request) e is refused = absurd is
ends_err asked seen (Err f) e is refused =
    subst (FailsAsked asked seen) (sym is) (refused_here asked e seen refused)

-- the input ends before its request does
pub ends_cut_off : (old new : RequestStage) (waits seen left : List ℕ) (at : RequestStep)
    → IsFedStage old waits seen → LacksHead old waits → AdvancesTo old seen left at new
    → (at ≡ step.More) ⊎ (at ≡ step.Continue) → FailsAsked (was_asked old) seen fault.Closed
ends_cut_off old new waits seen left step.More fed short (cut, at, lacks, asked) more = cut
ends_cut_off old new waits seen left step.Continue fed short (head, owed, at, lacks, asked) more =
    absurd (no_continue_here old waits seen fed short head owed)
ends_cut_off old new waits seen left (step.Whole request) fed short h (inl more) = cc
ends_cut_off old new waits seen left (step.Whole request) fed short h (inr more) = cc

-- the result of an input that ends, by its parts
pub ends_read : (asked : Bool) (seen : List ℕ) (r : Result Request RequestFault)
    → EndsTo asked seen r → IfOk r (λ request. ReadsAsked asked request seen)
ends_read asked seen (Ok request) h = h
ends_read asked seen (Err e) h = tt

pub ends_refused : (asked : Bool) (seen : List ℕ) (r : Result Request RequestFault)
    → EndsTo asked seen r → IfErr r (FailsAsked asked seen)
ends_refused asked seen (Ok request) h = tt
ends_refused asked seen (Err e) h = h

-- whatever was asked for before, the result is one of the bytes
pub ends_with : (asked : Bool) (seen : List ℕ) (r : Result Request RequestFault)
    → EndsTo asked seen r → IfOk r (λ request. (x : Bool) × ReadsAsked x request seen)
ends_with asked seen (Ok request) h = (asked, h)
ends_with asked seen (Err e) h = tt

pub ends_faulty : (asked : Bool) (seen : List ℕ) (r : Result Request RequestFault)
    → EndsTo asked seen r → IfErr r (λ e. (x : Bool) × FailsAsked x seen e)
ends_faulty asked seen (Ok request) h = tt
ends_faulty asked seen (Err e) h = (asked, h)

-- if the bytes have led to no request, they end as the feed says then
pub ends_behind : (keeps asked : Bool) (seen : List ℕ) (at : RequestStep) (feed : RequestFeed)
    (r : Result Request RequestFault) → (at ≡ step.More) ⊎ (at ≡ step.Continue)
    → FedTo keeps asked seen (Ok at) feed
    → ((all : List ℕ) → IsFed feed all → IsShort feed → EndsTo (was_asked feed.progress.stage) all r)
    → EndsTo (was_asked feed.progress.stage) seen r
ends_behind keeps asked seen step.More feed r is (lacks, fed, short, same) ends = ends seen fed short
ends_behind keeps asked seen step.Continue feed r is (none, owed, fed, short, same) ends =
    ends seen fed short
ends_behind keeps asked seen (step.Whole request) feed r (inl more) h ends = cc
ends_behind keeps asked seen (step.Whole request) feed r (inr more) h ends = cc

-- a complete request was read
pub fed_whole : (keeps asked : Bool) (seen : List ℕ) (r : Result RequestStep RequestFault)
    (feed : RequestFeed) → FedTo keeps asked seen r feed
    → IfOk r (λ at. IfWhole at (λ request. IsReadAsked asked request seen))
fed_whole keeps asked seen (Ok step.More) feed h = tt
fed_whole keeps asked seen (Ok step.Continue) feed h = tt
fed_whole keeps asked seen (Ok (step.Whole request)) feed (left, reads, kept) =
    read_asked asked request seen left reads
fed_whole keeps asked seen (Err e) feed h = tt

-- if more bytes are needed, only the bytes that came have changed
pub fed_more : (keeps : Bool) (state : RequestState) (seen came : List ℕ)
    (r : Result RequestStep RequestFault) (feed : RequestFeed) (is_open : Bool) → came ≡ seen
    → is_open ≡ goes_on r → state.is_open ≡ true → state.refused ≡ None
    → FedTo keeps state.asked seen r feed
    → IfOk r (λ at. OnMore at
    ((request_state came (was_asked feed.progress.stage) is_open (head_after is_open feed.progress.stage)
    ≡ record state { seen = seen })
    × LacksRequest seen))
fed_more keeps state seen came (Ok step.More) feed is_open same goes was none h = (
  same_request came seen (was_asked feed.progress.stage) state.asked is_open state.is_open
      (head_after is_open feed.progress.stage) state.refused same h.3 (goes ∙ sym was)
      (ap (λ o. head_after o feed.progress.stage) goes ∙ sym none),
  h.0,
)
fed_more keeps state seen came (Ok step.Continue) feed is_open same goes was none h = tt
fed_more keeps state seen came (Ok (step.Whole request)) feed is_open same goes was none h = tt
fed_more keeps state seen came (Err e) feed is_open same goes was none h = tt
