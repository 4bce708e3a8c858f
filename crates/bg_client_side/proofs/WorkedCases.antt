-- Worked cases of a client's connection and of the seats.
use Rattle.std.proofs.Common.{◌≡◌, ℕ, true, false, List, [], ◌∷◌, codes, refl, Some, None}
use Rattle.bg_http.specs.Elements.{Field}
use Rattle.bg_http.specs.declared.persistence.Persistence.TheVariants.{Close, Keep}
use Rattle.bg_http.specs.declared.refusal.RefusalBody.TheVariants.{Empty}
use Rattle.bg_http.specs.declared.request.Request.{Request}
use Rattle.bg_http.specs.declared.request_fault.RequestFault.TheVariants as fault
use Rattle.bg_client_side.specs.Clients.{Client, accepted, answered, at, begun, begun_passing_on, closing, cut_off, ended, failed_at, last_written, left, looked, next, passed_at, received, stays_after, taken}
use Rattle.bg_client_side.specs.Facts.{asks_to_keep}
use Rattle.bg_client_side.specs.Seating.{first_seats, has, without}
use Rattle.bg_client_side.specs.Stages.{to_write, waiting_request}
use Rattle.bg_client_side.specs.declared.facts.ClientSettings.{ClientSettings}
use Rattle.bg_client_side.specs.declared.stage.Stage.TheVariants as stage

-- WHAT A REQUEST SAYS OF ITS CONNECTION

abbrev request_of : ℕ → List Field → Request
request_of minor fields = record { method = codes "GET"; target = codes "/"; minor = minor; fields = fields; body = None }

of_version_1_1 : asks_to_keep (request_of 1 []) ≡ true
of_version_1_1 = refl

of_version_1_0 : asks_to_keep (request_of 0 ((codes "Connection", codes "keep-alive") ∷ [])) ≡ false
of_version_1_0 = refl

closes_in_a_list : asks_to_keep (request_of 1 ((codes "CONNECTION", codes "x ,Close") ∷ [])) ≡ false
closes_in_a_list = refl

closes_in_a_second_field
    : asks_to_keep (request_of 1 ((codes "Connection", codes "x") ∷ (codes "Connection", codes "close") ∷ [])) ≡ false
closes_in_a_second_field = refl

names_another_element : asks_to_keep (request_of 1 ((codes "Connection", codes "closed") ∷ [])) ≡ true
names_another_element = refl

-- A CONNECTION THAT IS KEPT FOR TWO REQUESTS

abbrev for_two : ClientSettings
for_two = record {
  persistence = Keep;
  most_requests = 2;
  request_millis = 10;
  idle_millis = 60;
  refusal_body = Empty;
  keeps_arriving = false;
}

abbrev first : Client
first = received (request_of 1 []) [] (accepted for_two 100)

waits : waiting_request first.stage ≡ Some (request_of 1 [])
waits = refl

-- the first of two requests is not the last one
goes_on : stays_after first ≡ true
goes_on = refl

-- it is the last one in a shutdown
not_in_a_shutdown : stays_after (closing first) ≡ false
not_in_a_shutdown = refl

abbrev ok : Client
ok = answered (record { sent = []; rest = codes "ok"; weight = 2 }) Keep 110 (taken (waiting_request first.stage) first)

is_written : to_write ok.stage ≡ codes "ok"
is_written = refl

-- the second one is the last one
abbrev second : Client
second = received (request_of 1 []) [] (begun (next 120 ok) (codes "G") 150)

is_the_last : stays_after second ≡ false
is_the_last = refl

-- its timeout began with its first byte, and that of the idle connection with the answer before
until_second : second.facts.until ≡ 160
until_second = refl

until_idle : (next 120 ok).facts.until ≡ 180
until_idle = refl

is_late : looked (next 120 ok) 180 ≡ left (next 120 ok)
is_late = refl

is_not_late : looked (next 120 ok) 179 ≡ next 120 ok
is_not_late = refl

-- an idle connection leaves in a shutdown
leaves_idle : (closing (next 120 ok)).stage ≡ stage.Left
leaves_idle = refl

-- a request that is inside stays there as its connection fails, and leaves with its answer
abbrev failed : Client
failed = failed_at stage.Inside (at stage.Inside first)

stays_inside : failed.stage ≡ stage.Inside
stays_inside = refl

leaves_with_answer : (answered (record { sent = []; rest = codes "ok"; weight = 2 }) Keep 110 failed).stage ≡ stage.Left
leaves_with_answer = refl

-- A RESPONSE THAT IS PASSED ON

-- to the first of two requests
abbrev inside : Client
inside = taken (waiting_request first.stage) first

abbrev passes : Client
passes = begun_passing_on Keep 110 inside

keeps_as_its_head_said : stays_after passes ≡ true
keeps_as_its_head_said = refl

closes_as_its_head_said : stays_after (begun_passing_on Close 110 inside) ≡ false
closes_as_its_head_said = refl

-- its bytes wait at first, for 30 seconds
in_time : looked passes 30109 ≡ passes
in_time = refl

fails_late : (looked passes 30110).facts.has_failed ≡ true
fails_late = refl

-- a client that is late has its request inside still
stays_late : (looked passes 30110).stage ≡ passes.stage
stays_late = refl

-- no timeout runs while nothing waits, and a new one once bytes wait again
abbrev drained : Client
drained = passed_at passes.stage 5 false 120 passes

is_never_late : looked drained 9000000 ≡ drained
is_never_late = refl

until_refilled : (passed_at drained.stage 0 true 9000000 drained).facts.until ≡ 9030000
until_refilled = refl

-- bytes that wait on do not renew it
until_kept : (passed_at passes.stage 0 true 120 passes).facts.until ≡ 30110
until_kept = refl

leaves_cut : (cut_off drained).stage ≡ stage.Left
leaves_cut = refl

no_cut_before : cut_off inside ≡ inside
no_cut_before = refl

none_after_a_failure : begun_passing_on Keep 110 failed ≡ failed
none_after_a_failure = refl

-- what is no request is answered, and the connection does not go on
no_request : stays_after (at (stage.Refused fault.Bad) (accepted for_two 100)) ≡ false
no_request = refl

-- the lingering close is left out where the client has ended its input
no_lingering : (last_written true 200 (ended second)).stage ≡ stage.Left
no_lingering = refl

-- SEATS

three_seats : first_seats 3 ≡ 0 ∷ 1 ∷ 2 ∷ []
three_seats = refl

without_the_first : without 7 (5 ∷ 7 ∷ 6 ∷ 7 ∷ []) ≡ 5 ∷ 6 ∷ 7 ∷ []
without_the_first = refl

has_none : has 4 (5 ∷ 7 ∷ []) ≡ false
has_none = refl
