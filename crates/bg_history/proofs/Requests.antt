-- Which requests are open, and how requests are counted.
use Rattle.std.proofs.Common.{◌≡◌, true, false, List, [], ◌∷◌, refl}
use Rattle.bg_history.specs.declared.entry.Entry.{Entry}
use Rattle.bg_history.specs.declared.entry.Entry.TheVariants.{Available, Enter, Leave}
use Rattle.bg_revisions.specs.declared.revision.Service.TheVariants as service
use Rattle.bg_history.proofs.Examples.{plain, opening}
use Rattle.bg_history.specs.Requests.{open_at, share_of, request_numbers, given, calls_of}
use Rattle.bg_history.specs.Steps.{all_allowed, all_given}

-- seat 0 holds request 2, and seat 1 holds request 3; the entries of request 1 were dropped
abbrev held : List Entry
held = Enter 1 service.Active 3 1 9002 ∷ Enter 0 service.Active 2 1 9001 ∷ Available 1 2 ∷ []

-- each of its entries is allowed
held_is_legal : all_allowed plain opening held ≡ true
held_is_legal = refl

-- open requests are in the order in which they entered
held-open : open_at 1 held ≡ 2 ∷ 3 ∷ []
held-open = refl

-- no request is open at another revision
held-open_of_another : open_at 2 held ≡ []
held-open_of_another = refl

-- a seat has a share if it holds a request at the revision
held-share : share_of 1 1 held ≡ 1
held-share = refl

-- a seat has no share at another revision
held-share_of_another : share_of 1 2 held ≡ 0
held-share_of_another = refl

-- the request of seat 0 has left
abbrev left : List Entry
left = Leave 0 2 1 ∷ held

-- the request of seat 1 is still open
left-open : open_at 1 left ≡ 3 ∷ []
left-open = refl

-- a seat without a request has no share
left-share : share_of 0 1 left ≡ 0
left-share = refl

-- both entries of a request have its number
left-numbers : request_numbers left ≡ 2 ∷ 3 ∷ 2 ∷ []
left-numbers = refl

-- a request whose entries were dropped counts as two calls of its seat, in addition to the entries
left-calls : calls_of (1 ∷ 0 ∷ []) 0 left ≡ 4
left-calls = refl

-- a dropped request counts for no other seat
left-calls_of_another : calls_of (1 ∷ 0 ∷ []) 1 left ≡ 1
left-calls_of_another = refl

-- three requests got a number
left-given : given (1 ∷ 0 ∷ []) left ≡ 3
left-given = refl

-- number 0 was not given
number_0_is_not_given : all_given 3 (0 ∷ []) ≡ false
number_0_is_not_given = refl

-- numbers 1 to 3 were given
number_3_is_given : all_given 3 (3 ∷ 1 ∷ []) ≡ true
number_3_is_given = refl

-- number 4 was not given
number_4_is_not_given : all_given 3 (4 ∷ []) ≡ false
number_4_is_not_given = refl
