-- The messages of a connection are a function of its bytes.
use Rattle.std.proofs.Common.{◌≡◌, ℕ, Bool, List, [], ◌∷◌, ◌++◌, map, refl, ap, ap₂, sym, ◌∙◌, arith, subst, append_assoc}
use Rattle.std.specs.Prelude.{All, flat_map}
use Rattle.std.proofs.lemmas.List.Elements.{All-head, All-tail}
use Rattle.bg_http.specs.declared.request.Request.{Request}
use Rattle.bg_http.specs.declared.response.Response.{Response}
use Rattle.bg_http_read.specs.RequestStates.{IsReadThen}
use Rattle.bg_http_read.specs.Requests.{ReadsRequest}
use Rattle.bg_http_read.specs.ResponseStates.{IsReadThen as IsResponseThen}
use Rattle.bg_http_read.specs.Responses.{ReadsResponseThen}
use Rattle.bg_http_read.specs.Sequences.{AnswersAll, AreRequestsOf, AreResponsesOf, HasOneEnd, HasOneSequence, HasOneSequenceOfAnswers, ReadsAll, Reading}

-- a way to read has one result
abbrev pub IsUnique : {A : Type 0} → Reading A → Type 0
IsUnique {A} Reads =
    (input : List ℕ) (one other : A) (rest left : List ℕ) → HasOneEnd Reads input one other rest left

pub one_sequence : {A : Type 0} (Reads : Reading A) → IsUnique Reads → (some all : List A)
    (input rest left : List ℕ) → HasOneSequence Reads some all input rest left
one_sequence Reads unique [] all input rest left fits h k =
    (all, refl, subst (λ l. ReadsAll Reads all l left) h k)
one_sequence Reads unique (one ∷ some) [] input rest left fits h k = absurd (omega (arith, fits))
one_sequence Reads unique (one ∷ some) (other ∷ all) input rest left fits (after, reads, tail) (next, again, others) =
    let same = unique input one other after next reads again in
    let more = one_sequence Reads unique some all next rest left (omega (arith, fits))
    (subst (λ l. ReadsAll Reads some l rest) same.1 tail) others in
    (more.0, ap₂ (λ a b. a ∷ b) (sym same.0) more.1, more.2)

pub one_sequence_of_answers : (Reads : Request → Reading Response)
    → ((request : Request) → IsUnique (Reads request)) → (requests : List Request)
    (one other : List Response) (input rest left : List ℕ)
    → HasOneSequenceOfAnswers Reads requests one other input rest left
one_sequence_of_answers Reads unique [] [] [] input rest left h k = (refl, sym h ∙ k)
one_sequence_of_answers Reads unique [] [] (other ∷ most) input rest left h k = absurd k
one_sequence_of_answers Reads unique [] (one ∷ more) other input rest left h k = absurd h
one_sequence_of_answers Reads unique (request ∷ asked) [] other input rest left h k = absurd h
one_sequence_of_answers Reads unique (request ∷ asked) (one ∷ more) [] input rest left h k = absurd k
one_sequence_of_answers Reads unique (request ∷ asked) (one ∷ more) (other ∷ most) input rest left (after, reads, tail) (next, again, others) =
    let first = unique request input one other after next reads again in
    let tails = one_sequence_of_answers Reads unique asked more most next rest left
    (subst (λ l. AnswersAll Reads asked more l rest) first.1 tail) others in
    (ap₂ (λ a b. a ∷ b) first.0 tails.0, tails.1)

-- ---- a sequence that grows

adds : {A : Type 0} (Reads : Reading A) (messages : List A) (message : A) (input after rest : List ℕ)
    → ReadsAll Reads messages input after → Reads after message rest
    → ReadsAll Reads (messages ++ message ∷ []) input rest
adds Reads [] message input after rest h reads =
    (rest, subst (λ l. Reads l message rest) (sym h) reads, refl)
adds Reads (first ∷ more) message input after rest (next, begins, tail) reads =
    (next, begins, adds Reads more message next after rest tail reads)

pub bytes_come : (requests : List Request) (came since bytes : List ℕ)
    → AreRequestsOf requests came since → AreRequestsOf requests (came ++ bytes) (since ++ bytes)
bytes_come requests came since bytes h more =
    subst (λ l. ReadsAll ReadsRequest requests l ((since ++ bytes) ++ more)) (sym (append_assoc came bytes more))
    (subst (ReadsAll ReadsRequest requests (came ++ (bytes ++ more))) (sym (append_assoc since bytes more))
    (h (bytes ++ more)))

pub adds_request : (asked : Bool) (requests : List Request) (request : Request)
    (came since left : List ℕ) → AreRequestsOf requests came since
    → IsReadThen asked request since left → AreRequestsOf (requests ++ request ∷ []) came left
adds_request asked requests request came since left h reads more =
    adds ReadsRequest requests request (came ++ more) (since ++ more) (left ++ more) (h more) (reads more).0

adds_answer : (requests : List Request) (request : Request) (responses : List Response)
    (response : Response) (input after rest : List ℕ)
    → AnswersAll ReadsResponseThen requests responses input after → ReadsResponseThen request after response rest
    → AnswersAll ReadsResponseThen (requests ++ request ∷ []) (responses ++ response ∷ []) input rest
adds_answer [] request [] response input after rest h reads =
    (rest, subst (λ l. ReadsResponseThen request l response rest) (sym h) reads, refl)
adds_answer [] request (one ∷ more) response input after rest h reads = absurd h
adds_answer (asked ∷ requests) request [] response input after rest h reads = absurd h
adds_answer (asked ∷ requests) request (one ∷ more) response input after rest (next, begins, tail) reads =
    (next, begins, adds_answer requests request more response next after rest tail reads)

pub adds_response : (requests : List Request) (request : Request) (responses : List Response)
    (response : Response) (came seen left : List ℕ) → AreResponsesOf requests responses came []
    → IsResponseThen request response seen left
    → AreResponsesOf (requests ++ request ∷ []) (responses ++ response ∷ []) (came ++ seen) left
adds_response requests request responses response came seen left h reads more =
    subst (λ l. AnswersAll ReadsResponseThen (requests ++ request ∷ []) (responses ++ response ∷ []) l (left ++ more))
    (sym (append_assoc came seen more))
    (adds_answer requests request responses response (came ++ (seen ++ more)) (seen ++ more) (left ++ more)
    (h (seen ++ more)) (reads more))

-- ---- what is written as one text for each message

-- each text is read as its message, whatever follows
abbrev pub ReadsTexts : {A X : Type 0} → Reading A → (X → Type 0) → (X → List ℕ) → (X → A) → Type 0
ReadsTexts {A} {X} Reads Good text message =
    (x : X) (more : List ℕ) → Good x → Reads (text x ++ more) (message x) more

pub texts_are_read : {A X : Type 0} (Reads : Reading A) (Good : X → Type 0) (text : X → List ℕ)
    (message : X → A) → ReadsTexts Reads Good text message → (xs : List X) → All Good xs
    → ReadsAll Reads (map message xs) (flat_map text xs) []
texts_are_read Reads Good text message reads [] good = refl
texts_are_read Reads Good text message reads (x ∷ xs) good = (
  flat_map text xs,
  reads x (flat_map text xs) (All-head Good x xs good),
  texts_are_read Reads Good text message reads xs (All-tail Good x xs good),
)

-- what is read from them is a front of the messages
pub front_is_read : {A X : Type 0} (Reads : Reading A) (Good : X → Type 0) (text : X → List ℕ)
    (message : X → A) → ReadsTexts Reads Good text message → IsUnique Reads
    → ((a : A) (rest : List ℕ) → Reads [] a rest → ⊥) → (xs : List X) (others : List A)
    (rest : List ℕ) → All Good xs → ReadsAll Reads others (flat_map text xs) rest
    → (front more : List X) × (xs ≡ front ++ more) × (others ≡ map message front)
    × (rest ≡ flat_map text more)
front_is_read Reads Good text message reads unique none xs [] rest good h = ([], xs, refl, refl, sym h)
front_is_read Reads Good text message reads unique none [] (other ∷ others) rest good (after, found, tail) =
    absurd (none other after found)
front_is_read Reads Good text message reads unique none (x ∷ xs) (other ∷ others) rest good (after, found, tail) =
    let own = reads x (flat_map text xs) (All-head Good x xs good) in
    let same = unique (text x ++ flat_map text xs) other (message x) after (flat_map text xs) found own in
    let later = front_is_read Reads Good text message reads unique none xs others rest (All-tail Good x xs good)
    (subst (λ l. ReadsAll Reads others l rest) same.1 tail) in
    (x ∷ later.0, later.1, ap (λ l. x ∷ l) later.2, ap₂ (λ a b. a ∷ b) same.0 later.3, later.4)

-- each text is read as the response to its request, whatever follows
abbrev pub ReadsAnswers
    : {X : Type 0} → (Request → Reading Response) → (X → Type 0) → (X → Request) → (X → List ℕ)
    → (X → Response) → Type 0
ReadsAnswers {X} Reads Good request text response =
    (x : X) (more : List ℕ) → Good x → Reads (request x) (text x ++ more) (response x) more

pub answers_are_read : {X : Type 0} (Reads : Request → Reading Response) (Good : X → Type 0)
    (request : X → Request) (text : X → List ℕ) (response : X → Response)
    → ReadsAnswers Reads Good request text response → (xs : List X) → All Good xs
    → AnswersAll Reads (map request xs) (map response xs) (flat_map text xs) []
answers_are_read Reads Good request text response reads [] good = refl
answers_are_read Reads Good request text response reads (x ∷ xs) good = (
  flat_map text xs,
  reads x (flat_map text xs) (All-head Good x xs good),
  answers_are_read Reads Good request text response reads xs (All-tail Good x xs good),
)
