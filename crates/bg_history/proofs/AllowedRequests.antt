-- When a request may enter or leave, and when it may not.
use Rattle.std.proofs.Common.{◌≡◌, true, false, List, [], ◌∷◌, refl}
use Rattle.bg_history.specs.declared.entry.Entry.{Entry}
use Rattle.bg_history.specs.declared.entry.Entry.TheVariants.{Available, Enter, Leave}
use Rattle.bg_revisions.specs.declared.revision.Service.TheVariants as service
use Rattle.bg_history.proofs.Examples.{plain, with_preview, opening, deploy_2}
use Rattle.bg_history.specs.Allowed.{is_allowed}

-- revision 1 has its endpoints
abbrev started : List Entry
started = Available 1 2 ∷ []

-- revisions 1 and 2 have their endpoints, and the attempt of revision 2 runs
abbrev beside : List Entry
beside = Available 2 2 ∷ deploy_2 ∷ started

-- revision 2 has the endpoint that its preview needs
abbrev previewed : List Entry
previewed = Available 2 1 ∷ deploy_2 ∷ started

-- seat 0 holds request 1
abbrev held : List Entry
held = Enter 0 service.Active 1 1 9002 ∷ started

-- request 1 enters at the second of two ports
enter_active : is_allowed plain opening (Enter 0 service.Active 1 1 9002) started ≡ true
enter_active = refl

-- request 1 doesn't enter at the first port
enter_at_the_first_port : is_allowed plain opening (Enter 0 service.Active 1 1 9001) started ≡ false
enter_at_the_first_port = refl

-- with one endpoint, request 1 enters at the first port
enter_at_the_only_endpoint : is_allowed plain opening (Enter 0 service.Active 1 1 9001) (Available 1 1 ∷ []) ≡ true
enter_at_the_only_endpoint = refl

-- without an endpoint, no request enters
enter_without_endpoints : is_allowed plain opening (Enter 0 service.Active 1 1 9002) (Available 1 0 ∷ []) ≡ false
enter_without_endpoints = refl

-- the active service reaches revision 1 while the attempt of revision 2 runs
enter_beside_an_attempt : is_allowed plain opening (Enter 0 service.Active 1 1 9002) beside ≡ true
enter_beside_an_attempt = refl

-- the active service doesn't reach revision 2
enter_of_the_new_revision : is_allowed plain opening (Enter 0 service.Active 1 2 9102) beside ≡ false
enter_of_the_new_revision = refl

-- the preview service reaches revision 2
enter_preview : is_allowed with_preview opening (Enter 0 service.Preview 1 2 9101) previewed ≡ true
enter_preview = refl

-- the preview service doesn't reach revision 1 while the attempt of revision 2 runs
enter_preview_of_the_stable : is_allowed with_preview opening (Enter 0 service.Preview 1 1 9002) previewed ≡ false
enter_preview_of_the_stable = refl

-- no request enters at a preview service that isn't set
enter_preview_unset : is_allowed plain opening (Enter 0 service.Preview 1 2 9102) beside ≡ false
enter_preview_unset = refl

-- of 4 seats, the last one is seat 3
enter_at_the_last_seat : is_allowed plain opening (Enter 3 service.Active 1 1 9002) started ≡ true
enter_at_the_last_seat = refl

-- there is no seat 4
enter_past_the_last_seat : is_allowed plain opening (Enter 4 service.Active 1 1 9002) started ≡ false
enter_past_the_last_seat = refl

-- a seat may take a request while another seat holds one
enter_beside_a_request : is_allowed plain opening (Enter 1 service.Active 2 1 9001) held ≡ true
enter_beside_a_request = refl

-- a seat can't take a second request
enter_at_a_taken_seat : is_allowed plain opening (Enter 0 service.Active 2 1 9001) held ≡ false
enter_at_a_taken_seat = refl

-- no two requests get the same number
enter_number_again : is_allowed plain opening (Enter 1 service.Active 1 1 9002) held ≡ false
enter_number_again = refl

-- a seat's request leaves
leave_held : is_allowed plain opening (Leave 0 1 1) held ≡ true
leave_held = refl

-- a request doesn't leave from another seat
leave_of_another_seat : is_allowed plain opening (Leave 1 1 1) held ≡ false
leave_of_another_seat = refl

-- a request doesn't leave under another number
leave_of_another_number : is_allowed plain opening (Leave 0 2 1) held ≡ false
leave_of_another_number = refl

-- a request doesn't leave from another revision
leave_of_another_revision : is_allowed plain opening (Leave 0 1 2) held ≡ false
leave_of_another_revision = refl

-- a request doesn't leave twice
leave_again : is_allowed plain opening (Leave 0 1 1) (Leave 0 1 1 ∷ held) ≡ false
leave_again = refl
