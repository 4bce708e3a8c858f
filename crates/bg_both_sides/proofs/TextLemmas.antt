-- The texts of the answers that calls give, and the requests that they answer.
use Rattle.std.proofs.Common.{◌≡◌, ◌∙◌, ℕ, Bool, true, false, List, [], ◌∷◌, ◌++◌, if◌then◌else◌, refl, sym, ap, append-nil, append_assoc, Option, Some, None}
use Rattle.bg_client_side.specs.Clients.{Client}
use Rattle.bg_client_side.specs.Laws.{IsWrittenInSequence}
use Rattle.bg_client_side.specs.Runs.{ClientCall, answers, begins_closing, begins_passing_on, continues, cuts, discards, ends_input, fails, feeds, given_by, given_in, looks, passes_on, takes, writes}
use Rattle.bg_client_side.specs.Stages.{to_write}
use Rattle.bg_client_side.specs.declared.reading.Fed.{Fed}
use Rattle.bg_both_sides.proofs.RunLemmas.{StayLaw, runs_its_client}
use Rattle.bg_both_sides.specs.Answers.{Answer, Reply, lacks, says}
use Rattle.bg_both_sides.specs.Laws.{WritesItsAnswers}
use Rattle.bg_both_sides.specs.Runs.{SidesCall, SidesCalls, SidesRun, IsReading, answer_calls, client_calls, client_calls_in, client_takes, connects, connects_streamed, dials, endpoint_gives, endpoint_is_ending, endpoint_reads_no_more, endpoint_writes, enters, fault_calls, fault_text, is_note, notes, reads, refuses, reply_calls, reply_text, streams, taken_calls, telling_calls, telling_text, text_of, texts_by, texts_in, replaces_fields, accepts_upgrade}
use Rattle.bg_both_sides.specs.Sides.{Sides}
use Rattle.bg_both_sides.specs.StreamedEvents as streamed
use Rattle.bg_both_sides.specs.StreamedEvents.{Telling}

given_append : (xs ys : List ClientCall) → given_in (xs ++ ys) ≡ given_in xs ++ given_in ys
given_append [] ys = refl
given_append (x ∷ xs) ys = ap (λ t. given_by x ++ t) (given_append xs ys) ∙ sym (append_assoc (given_by x) (given_in xs) (given_in ys))

answer_given : (inside : Bool) (answer : Answer) (now : ℕ) → given_in (answer_calls inside answer now) ≡ text_of answer
answer_given inside (says text weight persistence) now = append-nil text
answer_given true (lacks weight) now = refl
answer_given false (lacks weight) now = refl

fault_given : (answer : Option Answer) (now : ℕ) → given_in (fault_calls answer now) ≡ fault_text answer
fault_given None now = refl
fault_given (Some answer) now = answer_given false answer now

reply_given : (reply : Option Reply) (now : ℕ) → given_in (reply_calls reply now) ≡ reply_text reply
reply_given None now = refl
reply_given (Some reply) now = answer_given true reply.answer now

reading_gives : (call : ClientCall) (result : Fed) (now : ℕ) → IsReading call result now → given_by call ≡ []
reading_gives (feeds bytes at told whole) result now is = refl
reading_gives (continues told whole) result now is = refl
reading_gives (takes request) result now is = absurd is
reading_gives (answers text weight persistence at awaited) result now is = absurd is
reading_gives (begins_passing_on persistence at begun) result now is = absurd is
reading_gives (passes_on bytes waits at passed) result now is = absurd is
reading_gives (cuts was) result now is = absurd is
reading_gives (writes bytes at told whole) result now is = refl
reading_gives ends_input result now is = absurd is
reading_gives begins_closing result now is = absurd is
reading_gives fails result now is = absurd is
reading_gives (discards count) result now is = absurd is
reading_gives (looks at) result now is = absurd is

note_gives : (call : ClientCall) → is_note call ≡ true → given_by call ++ [] ≡ []
note_gives (feeds bytes at told whole) is = refl
note_gives (continues told whole) is = refl
note_gives (takes request) is = refl
note_gives (answers text weight persistence at awaited) is = absurd (cc)
note_gives (begins_passing_on persistence at begun) is = refl
note_gives (passes_on bytes waits at passed) is = absurd (cc)
note_gives (cuts was) is = refl
note_gives (writes bytes at told whole) is = refl
note_gives ends_input is = refl
note_gives begins_closing is = refl
note_gives fails is = refl
note_gives (discards count) is = refl
note_gives (looks at) is = refl

telling_given : (telling : Telling) (now : ℕ) → given_in (telling_calls telling now) ≡ telling_text telling
telling_given streamed.nothing now = refl
telling_given (streamed.shows None begins waits false) now = refl
telling_given (streamed.shows None begins waits true) now = refl
telling_given (streamed.shows (Some persistence) begins waits false) now = refl
telling_given (streamed.shows (Some persistence) begins waits true) now = refl
telling_given (streamed.ends text weight persistence) now = append-nil text
telling_given (streamed.refuses reply) now = answer_given true reply.answer now
telling_given streamed.cuts now = refl

taken_given : (passed : Bool) (bytes : List ℕ) (telling : Telling) (now : ℕ)
    → given_in (taken_calls passed bytes now ++ telling_calls telling now)
    ≡ (if passed then bytes else []) ++ telling_text telling
taken_given true bytes telling now = ap (λ t. bytes ++ t) (telling_given telling now)
taken_given false bytes telling now = telling_given telling now

call_given : (old : Sides) (call : SidesCall) (new : Sides) → SidesCalls old call new
    → given_in (client_calls call) ≡ texts_by call
call_given old (reads call result now answer) new is =
    ap (λ t. t ++ given_in (fault_calls answer now)) (reading_gives call result now is.0) ∙ fault_given answer now
call_given old (notes call) new is = note_gives call is.0
call_given old (enters request) new is = refl
call_given old (refuses now told reply) new is = reply_given reply now
call_given old (replaces_fields fields) new is = refl
call_given old (dials route now does) new is = refl
call_given old (connects is_kept now taken) new is = refl
call_given old (endpoint_writes bytes now) new is = refl
call_given old (endpoint_reads_no_more now) new is = refl
call_given old endpoint_is_ending new is = refl
call_given old (endpoint_gives event now told reply) new is = reply_given reply now
call_given old (connects_streamed is_kept limits now taken) new is = refl
call_given old (streams event now told telling) new is = telling_given telling now
call_given old (client_takes passed bytes now told telling) new is = taken_given passed bytes telling now
call_given old (accepts_upgrade bytes now weight None) new is = refl
call_given old (accepts_upgrade bytes now weight (Some upgraded)) new is = refl

texts_given : (calls : List SidesCall) (old new : Sides) → SidesRun old calls new
    → given_in (client_calls_in calls) ≡ texts_in calls
texts_given [] old new is = refl
texts_given (call ∷ more) old new is =
    given_append (client_calls call) (client_calls_in more)
    ∙ ap (λ t. t ++ given_in (client_calls_in more)) (call_given old call is.0 is.1)
    ∙ ap (λ t. texts_by call ++ t) (texts_given more is.0 new is.2)

-- the law of the client's connection
abbrev pub SequenceLaw : Type 0
SequenceLaw = (calls : List ClientCall) (old new : Client) → IsWrittenInSequence old calls new

pub writes_its_answers : StayLaw → SequenceLaw → (calls : List SidesCall) (old new : Sides) → WritesItsAnswers old calls new
writes_its_answers stay law calls old new sound is =
    let runs = (runs_its_client stay calls old new sound is).0 in
    let written = law (client_calls_in calls) old.client new.client runs in
    (written.0, ap (λ t. to_write old.client.stage ++ t) (sym (texts_given calls old new is)) ∙ written.1, written.2)
