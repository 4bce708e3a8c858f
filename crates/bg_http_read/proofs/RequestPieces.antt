-- A request that is read in pieces from a stream.
use Rattle.std.proofs.Common.{◌≡◌, Bool, true, false, IsTrue, List, ℕ, [], ◌++◌, append_assoc, refl, ap, sym, subst, ◌∙◌, Option, Some, None, IfErr, IfNone, IfOk, IfSome, Result, Ok, Err, inl, inr}
use Rattle.std.proofs.lemmas.List.{append-nil}
use Rattle.std.proofs.KnownBytes.{Keeps-refl}
use Rattle.std.specs.Io.KnownBytes.{IsAtEnd, Keeps}
use Rattle.bg_http.specs.RequestRules.{owes_continue}
use Rattle.bg_http.specs.declared.request.Request.{Request}
use Rattle.bg_http.specs.declared.request_fault.RequestFault.{RequestFault}
use Rattle.bg_http.specs.declared.request_fault.RequestFault.TheVariants as fault
use Rattle.bg_http_read.specs.Streams.{Leaves}
use Rattle.bg_http_read.specs.Requests.{AfterHead, AnswersHead, HeadRefused, JudgedHead, ReadsRequest, RequestFails, WritesContinue, WroteFor, WroteOnFault}
use Rattle.bg_http_read.specs.RequestPieces.{OwesIf, PieceTo}
use Rattle.bg_http_read.specs.RequestStates.{FailsAsked, IsReadAsked, IsRefusedAsked, OwesContinue, ReadsAsked, RequestState}
use Rattle.bg_http_read.proofs.FedRequests.{fails_at_all, judged_more}
use Rattle.bg_http_read.proofs.Pieces.{Came, ended_input, whole_input}
use Rattle.bg_http_read.proofs.RequestsRead.{continue_kept, wrote_for}

-- `100 Continue` stays owed if more bytes come
pub owes_more : (asked : Bool) (seen bytes : List ℕ) → OwesIf asked seen
    → OwesIf asked (seen ++ bytes)
owes_more asked seen bytes h is more =
    subst (λ l. AfterHead l (λ head framing after. owes_continue head framing ≡ true))
    (sym (append_assoc seen bytes more)) (h is (bytes ++ more))

-- what was asked for and written is what is owed to the head
pub wrote_fault : (asked : Bool) (seen : List ℕ) (input old new : Option (List ℕ))
    (e : RequestFault) → FailsAsked asked seen e → IfSome input (λ i. FailsAsked asked i e)
    → WritesContinue asked old new → WroteFor input old new (Err e)
wrote_fault asked seen input old new e h p wrote = wrote_for input old new e (by_input input p)
  where
    here : (i : List ℕ) → FailsAsked asked i e → WroteOnFault (Some i) old new e
    here i (inl (refused, none)) =
        inl (subst (λ a. WritesContinue a old new) none wrote, refused)
    here i (inr at) = inr (record {
      head = at.head;
      framing = at.framing;
      begins = (at.after, at.begins);
      wrote = subst (λ a. WritesContinue a old new) (sym at.holds.1) wrote;
    })

    unknown : FailsAsked asked seen e → WroteOnFault None old new e
    unknown (inl (refused, none)) = inl (subst (λ a. WritesContinue a old new) none wrote, tt)
    unknown (inr at) = inr (record {
      head = at.head;
      framing = at.framing;
      begins = tt;
      wrote = subst (λ a. WritesContinue a old new) (sym at.holds.1) wrote;
    })

    by_input : (input : Option (List ℕ)) → IfSome input (λ i. FailsAsked asked i e)
        → WroteOnFault input old new e
    by_input None p = unknown h
    by_input (Some i) p = here i p

pub wrote_request : (asked : Bool) (seen : List ℕ) (input old new : Option (List ℕ))
    (request : Request) → ReadsAsked asked request seen
    → IfSome input (λ i. ReadsAsked asked request i) → WritesContinue asked old new
    → AnswersHead input old new
wrote_request asked seen None old new request h p wrote = record {
  head = h.1.head;
  framing = h.1.framing;
  begins = tt;
  wrote = subst (λ a. WritesContinue a old new) (sym h.2) wrote;
}
wrote_request asked seen (Some i) old new request h p wrote = record {
  head = p.1.head;
  framing = p.1.framing;
  begins = (p.1.after, p.1.begins);
  wrote = subst (λ a. WritesContinue a old new) (sym p.2) wrote;
}

pub request_of : (asked : Bool) (input : Option (List ℕ)) (request : Request)
    → IfSome input (λ i. ReadsAsked asked request i)
    → IfSome input (λ i. (rest : List ℕ) × ReadsRequest i request rest)
request_of asked None request h = tt
request_of asked (Some i) request h = (h.0, h.1)

pub fault_of : (asked : Bool) (input : Option (List ℕ)) (e : RequestFault)
    → IfSome input (λ i. FailsAsked asked i e) → IfSome input (λ i. RequestFails i e)
fault_of asked None e h = tt
fault_of asked (Some i) e h = fails_at_all asked i e h

-- if a read failed, nothing is said about the input
pub no_reading : (input : Option (List ℕ)) → IfSome input (λ i. RequestFails i fault.ReadFailed)
no_reading None = tt
no_reading (Some i) = inl (inr tt)

pub wrote_reading : (asked : Bool) (seen : List ℕ) (first left old new : Option (List ℕ))
    → Leaves (Came seen) first left → OwesIf asked seen → WritesContinue asked old new
    → WroteFor first old new (Err fault.ReadFailed)
wrote_reading false seen first left old new came owed wrote = inl (wrote, unsaid first)
  where
    unsaid : (first : Option (List ℕ)) → IfSome first (λ i. HeadRefused i fault.ReadFailed)
    unsaid None = tt
    unsaid (Some i) = inr tt
wrote_reading true seen first left old new came owed wrote =
    let at = owed refl [] in
    inr (record {
      head = at.head;
      framing = at.framing;
      begins = begins first left came;
      wrote = subst (λ a. WritesContinue a old new) (sym at.holds) wrote;
    })
  where
    begins : (first left : Option (List ℕ)) → Leaves (Came seen) first left
        → IfSome first (λ i. (after : List ℕ) × JudgedHead i (owed refl []).head (owed refl []).framing after)
    begins None left came = tt
    begins (Some i) None came = absurd came
    begins (Some i) (Some r) came =
        let at = owed refl [] in (
          at.after ++ r,
          subst (λ l. JudgedHead l at.head at.framing (at.after ++ r)) (sym came)
              (judged_more seen r at.head at.framing at.after
              (subst (λ l. JudgedHead l at.head at.framing at.after) (append-nil seen) at.begins)),
        )

-- what is owed to the head could not be written
pub no_writing : (seen : List ℕ) (first left : Option (List ℕ)) (e : RequestFault)
    → Leaves (Came seen) first left → e ≡ fault.WriteFailed → OwesContinue seen
    → IfSome first (λ i. RequestFails i e)
no_writing seen first left e came is owed =
    whole_input (λ i. RequestFails i e) seen first left came (λ more. inr (inr (is, owed more)))

pub wrote_unsaid : (first old new : Option (List ℕ)) (e : RequestFault)
    → e ≡ fault.WriteFailed → WroteFor first old new (Err e)
wrote_unsaid first old new e is = subst (λ f. WroteFor first old new (Err f)) (sym is) tt

-- what is owed was written, and reading the body goes on
pub went_on : (seen : List ℕ) (first now : Option (List ℕ))
    (r : Result (Option Request) RequestFault) (old new : RequestState) → old.seen ≡ seen
    → IsTrue old.is_open → old.asked ≡ true → OwesContinue seen → WritesContinue true first now
    → IfOk r (λ found. IfSome found (λ request. IsReadAsked true request old.seen))
    → IfOk r (λ found. IfNone found (new ≡ old))
    → IfErr r (λ e. IsRefusedAsked true e old.seen) → PieceTo seen first now r new
went_on seen first now (Ok (Some request)) old new same is_open asked owed wrote read more refused =
    (true, subst (IsReadAsked true request) same read, wrote)
went_on seen first now (Ok None) old new same is_open asked owed wrote read more refused = (
  ap (λ p. p.seen) more ∙ same,
  ap (λ p. p.is_open) more ∙ is_open,
  subst (λ a. WritesContinue a first now) (sym (ap (λ p. p.asked) more ∙ asked)) wrote,
  λ is. owed,
)
went_on seen first now (Err e) old new same is_open asked owed wrote read more refused =
    inl (true, subst (IsRefusedAsked true e) same refused, wrote)

-- the result of the end of the input
pub ended_wrote : (asked : Bool) (seen : List ℕ) (first left old new : Option (List ℕ))
    (r : Result Request RequestFault) → Leaves (Came seen) first left → IsAtEnd left
    → WritesContinue asked old new → IfOk r (λ request. ReadsAsked asked request seen)
    → IfErr r (λ e. FailsAsked asked seen e) → WroteFor first old new r
ended_wrote asked seen first left old new (Ok request) came end wrote read refused =
    wrote_request asked seen first old new request read
    (ended_input (ReadsAsked asked request) seen first left came end read) wrote
ended_wrote asked seen first left old new (Err e) came end wrote read refused =
    wrote_fault asked seen first old new e refused
    (ended_input (λ i. FailsAsked asked i e) seen first left came end refused) wrote

pub ended_fault : (asked : Bool) (seen : List ℕ) (first left : Option (List ℕ))
    (r : Result Request RequestFault) → Leaves (Came seen) first left → IsAtEnd left
    → IfErr r (λ e. FailsAsked asked seen e)
    → IfErr r (λ e. IfSome first (λ i. RequestFails i e))
ended_fault asked seen first left (Ok request) came end refused = tt
ended_fault asked seen first left (Err e) came end refused =
    fault_of asked first e
    (ended_input (λ i. FailsAsked asked i e) seen first left came end refused)

-- the result of a piece with a fault
pub piece_fault : (seen : List ℕ) (first left old new : Option (List ℕ)) (e : RequestFault)
    (state : RequestState) → Leaves (Came seen) first left → PieceTo seen old new (Err e) state
    → IfSome first (λ i. RequestFails i e)
piece_fault seen first left old new e state came (inl (asked, refused, wrote)) =
    fault_of asked first e (whole_input (λ i. FailsAsked asked i e) seen first left came refused)
piece_fault seen first left old new e state came (inr (is, owed)) =
    no_writing seen first left e came is owed

pub piece_wrote : (seen : List ℕ) (first left old new : Option (List ℕ)) (e : RequestFault)
    (state : RequestState) → Leaves (Came seen) first left → PieceTo seen old new (Err e) state
    → WroteFor first old new (Err e)
piece_wrote seen first left old new e state came (inl (asked, refused, wrote)) =
    wrote_fault asked (seen ++ []) first old new e (refused [])
    (whole_input (λ i. FailsAsked asked i e) seen first left came refused) wrote
piece_wrote seen first left old new e state came (inr (is, owed)) =
    wrote_unsaid first old new e is

-- nothing more was written
pub writes_kept : (asked : Bool) (old new last : Option (List ℕ)) → WritesContinue asked old new
    → Keeps new last → WritesContinue asked old last
writes_kept asked old new last wrote kept =
    continue_kept asked old old new last (Keeps-refl old) wrote kept

-- after a read directly into a body nothing more was written, and what is owed stays owed
pub wrote_straight : (was now : RequestState) (came : List ℕ) (old new last : Option (List ℕ))
    → now ≡ record was { seen = was.seen ++ came } → WritesContinue was.asked old new
    → Keeps new last → WritesContinue now.asked old last
wrote_straight was now came old new last is wrote kept =
    subst (λ asked. WritesContinue asked old last) (sym (ap (λ p. p.asked) is))
    (writes_kept was.asked old new last wrote kept)

pub owes_straight : (was now : RequestState) (came : List ℕ)
    → now ≡ record was { seen = was.seen ++ came } → OwesIf was.asked was.seen
    → OwesIf now.asked now.seen
owes_straight was now came is owed =
    subst (λ p. OwesIf p.asked p.seen) (sym is) (owes_more was.asked was.seen came owed)
