-- Lemmas on the bytes that were written to a client: first while its request was read, then at the
-- end.
use Rattle.std.proofs.Common.{ℕ, Bool, true, false, if◌then◌else◌, IfErr, IfOk, IfSome, List, [], Option, ◌≡◌}
use Rattle.std.proofs.Common.{Some, None, Ok, Err, inl, inr, refl, sym, ◌∙◌, append-nil}
use Rattle.std.specs.Io.KnownBytes.{Appends, Keeps}
use Rattle.std.proofs.KnownBytes.{Appends-trans}
use Rattle.bg_rollout.specs.declared.ticket.Ticket.{Ticket}
use Rattle.bg_http.specs.RequestRules.{owes_continue}
use Rattle.bg_http.specs.Statuses.{request_status}
use Rattle.bg_http.specs.declared.request.Request.{Request}
use Rattle.bg_http.specs.declared.request_fault.RequestFault.{RequestFault}
use Rattle.bg_http.specs.declared.request_fault.RequestFault.TheVariants as fault
use Rattle.bg_http_read.specs.Requests.{AnswersHead, ReadsRequest, RequestFails, WritesContinue}
use Rattle.bg_http_read.specs.Requests.{WroteFor, WroteOnFault, continue_text}
use Rattle.bg_forward.specs.Clients.{IsReceived, IsServed}
use Rattle.bg_forward.specs.Connections.{Connection, EndsBy, IsInterim, IsLastText, IsOwed, MayEnd}
use Rattle.bg_forward.specs.Connections.{ReadOutcome, ReadsAs, Receives, Wrote, WroteLast, WroteUnlessFailed}
use Rattle.bg_http.specs.declared.refusal.RefusalBody.{RefusalBody}
use Rattle.bg_forward.specs.declared.serving.End.{End}
use Rattle.bg_forward.specs.declared.serving.End.TheVariants as end

-- the outcome of a read is what its clauses say of the request and of the fault
reads_as : (input : Option (List ℕ)) (read : ReadOutcome)
    → IfOk read (λ request. IfSome input (λ bytes. (rest : List ℕ) × ReadsRequest bytes request rest))
    → IfErr read (λ fault. IfSome input (λ bytes. RequestFails bytes fault)) → ReadsAs input read
reads_as input (Ok request) reads fails = reads
reads_as input (Err f) reads fails = fails

-- a read of a client's bytes
pub receives : (input old new : Option (List ℕ)) (read : ReadOutcome)
    → IfOk read (λ request. IfSome input (λ bytes. (rest : List ℕ) × ReadsRequest bytes request rest))
    → IfErr read (λ fault. IfSome input (λ bytes. RequestFails bytes fault)) → WroteFor input old new read
    → Receives input old new read
receives input old new read reads fails wrote = record { reads = reads_as input read reads fails; wrote = wrote }

kept : (old new : Option (List ℕ)) → Keeps old new → Appends old new []
kept None new k = tt
kept (Some x) None k = absurd k
kept (Some x) (Some y) k = k ∙ sym (append-nil x)

-- nothing was written to the client before the last text
pub kept_before : (body : RefusalBody) (old mid new : Option (List ℕ)) (read : ReadOutcome) (e : End) → Keeps old mid
    → WroteLast body mid new read e → WroteLast body old new read e
kept_before body old mid new read end.WriteFailed k w = tt
kept_before body old mid new read end.Closed k w =
    (w.0, w.1, Appends-trans old mid new [] w.0 (kept old mid k) w.2)
kept_before body old mid new read end.ReadFailed k w =
    (w.0, w.1, Appends-trans old mid new [] w.0 (kept old mid k) w.2)
kept_before body old mid new read (end.Refused status) k w =
    (w.0, w.1, Appends-trans old mid new [] w.0 (kept old mid k) w.2)
kept_before body old mid new read (end.Answered code) k w =
    (w.0, w.1, Appends-trans old mid new [] w.0 (kept old mid k) w.2)

owed : (is_owed : Bool) (old new : Option (List ℕ)) → WritesContinue is_owed old new
    → Appends old new (if is_owed then continue_text else [])
owed true old new w = w
owed false old new w = kept old new w

-- what was written while the request was read
record Began (input old mid : Option (List ℕ)) (read : ReadOutcome) : Type 0 where
  interim : List ℕ
  is_interim : IsInterim input read interim
  appends : Appends old mid interim

answered : (input old mid : Option (List ℕ)) → AnswersHead input old mid
    → (interim : List ℕ) × IsOwed input interim × Appends old mid interim
answered input old mid a =
    let is_owed = owes_continue a.head a.framing in (
      (if is_owed then continue_text else []),
      record { head = a.head; framing = a.framing; begins = a.begins; interim_is = refl },
      owed is_owed old mid a.wrote,
    )

began : (input old mid : Option (List ℕ)) (f : RequestFault) → WroteOnFault input old mid f
    → Began input old mid (Err f)
began input old mid f (inl w) =
    record { interim = []; is_interim = inl (refl, w.1); appends = kept old mid w.0 }
began input old mid f (inr w) =
    let a = answered input old mid w in
    record { interim = a.0; is_interim = inr a.1; appends = a.2 }

module _ (body : RefusalBody) (input old mid new : Option (List ℕ)) (read : ReadOutcome) (b : Began input old mid read) where
  wrote : (e : End) (text : List ℕ) → IsLastText body read e text → Appends mid new text → Wrote body input old new read e
  wrote e text last appends = record {
    interim = b.interim;
    text = text;
    is_interim = b.is_interim;
    is_last = last;
    appends = Appends-trans old mid new b.interim text b.appends appends;
  }

  ended : (e : End) → WroteLast body mid new read e → WroteUnlessFailed body input old new read e
  ended end.WriteFailed w = tt
  ended end.Closed w = wrote end.Closed w.0 w.1 w.2
  ended end.ReadFailed w = wrote end.ReadFailed w.0 w.1 w.2
  ended (end.Refused status) w = wrote (end.Refused status) w.0 w.1 w.2
  ended (end.Answered code) w = wrote (end.Answered code) w.0 w.1 w.2

module _ (body : RefusalBody) (input old mid new : Option (List ℕ)) where
  -- a request was read
  served : (request : Request) (entered : Option Ticket) (e : End) → ReadsAs input (Ok request)
      → AnswersHead input old mid → MayEnd (Ok request) entered e → WroteLast body mid new (Ok request) e
      → Connection body input old new (Ok request) entered e
  served request entered e reads head may_end last =
      let a = answered input old mid head in
      let b : Began input old mid (Ok request) =
      record { interim = a.0; is_interim = a.1; appends = a.2 } in
      record {
        reads = reads;
        may_end = may_end;
        wrote = ended body input old mid new (Ok request) b e last;
      }

  -- no request was read, and writing to the stream did not fail
  refused : (f : RequestFault) (e : End) → IfSome input (λ bytes. RequestFails bytes f)
      → WroteOnFault input old mid f → EndsBy (request_status f) f e → WroteLast body mid new (Err f) e
      → Connection body input old new (Err f) None e
  refused f e fails wrote ends last = record {
    reads = fails;
    may_end = ends;
    wrote = ended body input old mid new (Err f) (began input old mid f wrote) e last;
  }

  -- no request was read
  turned_away : (f : RequestFault) (e : End) → IfSome input (λ bytes. RequestFails bytes f)
      → WroteFor input old mid (Err f) → EndsBy (request_status f) f e → WroteLast body mid new (Err f) e
      → Connection body input old new (Err f) None e
  turned_away fault.WriteFailed e fails wrote ends last = record {
    reads = fails;
    may_end = ends;
    wrote = rw ends tt;
  }
  turned_away fault.ReadFailed e fails wrote ends last = refused fault.ReadFailed e fails wrote ends last
  turned_away fault.HeadTooLarge e fails wrote ends last = refused fault.HeadTooLarge e fails wrote ends last
  turned_away fault.Bad e fails wrote ends last = refused fault.Bad e fails wrote ends last
  turned_away fault.Closed e fails wrote ends last = refused fault.Closed e fails wrote ends last
  turned_away fault.NotDone e fails wrote ends last = refused fault.NotDone e fails wrote ends last
  turned_away fault.TooLarge e fails wrote ends last = refused fault.TooLarge e fails wrote ends last
  turned_away fault.OutOfMemory e fails wrote ends last = refused fault.OutOfMemory e fails wrote ends last

  -- the request or its fault was received, and then the connection ended
  pub connected : (read : ReadOutcome) (entered : Option Ticket) (e : End) → Receives input old mid read
      → MayEnd read entered e → WroteLast body mid new read e → Connection body input old new read entered e
  connected (Ok request) entered e r may_end last = served request entered e r.reads r.wrote may_end last
  connected (Err f) None e r may_end last = turned_away f e r.reads r.wrote may_end last
  connected (Err f) (Some t) e r may_end last = absurd may_end

-- a client of whom this was received was served, with the body that its refusals have
pub served_client : (asked body : RefusalBody) → body ≡ asked → (sent old new : Option (List ℕ)) (read : ReadOutcome)
    (entered : Option Ticket) (e : End) → IsReceived sent old read
    → ((input before : Option (List ℕ)) → Receives input before old read → Connection body input before new read entered e)
    → IsServed asked sent new read entered e
served_client asked body is_asked None old new read entered e received connection = tt
served_client asked body is_asked (Some input) old new read entered e received connection =
    rw is_asked at (connection (Some input) (Some []) received)
