-- When a deploy is allowed, and when it isn't.
use Rattle.std.proofs.Common.{◌≡◌, ◌+◌, ℕ, zero, suc, true, false, List, [], ◌∷◌, codes, refl}
use Rattle.bg_history.specs.declared.entry.Entry.{Entry}
use Rattle.bg_history.specs.declared.entry.Entry.TheVariants.{Deploy, Outcome}
use Rattle.bg_history.specs.declared.entry.Outcome.TheVariants.{ScaledDown, Removed}
use Rattle.bg_history.proofs.Examples.{plain, without_history, opening, deploy_1, deploy_2, deploy_3, deploy_4}
use Rattle.bg_history.specs.Sizes.{last_number}
use Rattle.bg_history.specs.Steps.{all_allowed}
use Rattle.bg_history.specs.Allowed.{is_allowed}

-- a new template gets the next number
deploy_next : is_allowed plain opening deploy_2 [] ≡ true
deploy_next = refl

-- no number is skipped
deploy_past_the_next : is_allowed plain opening deploy_3 [] ≡ false
deploy_past_the_next = refl

-- the newest template can't be deployed again
deploy_of_the_newest : is_allowed plain opening deploy_2 (deploy_2 ∷ []) ≡ false
deploy_of_the_newest = refl

-- an older template can be deployed again, under its own number
deploy_back : is_allowed plain opening deploy_1 (deploy_2 ∷ []) ≡ true
deploy_back = refl

-- it can't be deployed under a new number
deploy_back_as_3 : is_allowed plain opening (Deploy 3 (codes "v1") (9001 ∷ 9002 ∷ [])) (deploy_2 ∷ []) ≡ false
deploy_back_as_3 = refl

-- a name keeps its ports: another deploy of the name can't have other ports
deploy_with_other_ports : is_allowed plain opening (Deploy 1 (codes "v1") (9001 ∷ 9003 ∷ [])) (deploy_2 ∷ []) ≡ false
deploy_with_other_ports = refl

-- the name of the newest revision can't have other ports either
newest_with_other_ports : is_allowed plain opening (Deploy 1 (codes "v1") (9001 ∷ 9003 ∷ [])) [] ≡ false
newest_with_other_ports = refl

-- another name may have the same ports
deploy_of_another_name : is_allowed plain opening (Deploy 2 (codes "v2") (9001 ∷ 9002 ∷ [])) [] ≡ true
deploy_of_another_name = refl

-- a deploy needs a port for each endpoint
deploy_with_one_port : is_allowed plain opening (Deploy 2 (codes "v2") (9101 ∷ [])) [] ≡ false
deploy_with_one_port = refl

-- a name has no capital letter
deploy_with_a_capital : is_allowed plain opening (Deploy 2 (codes "V2") (9101 ∷ 9102 ∷ [])) [] ≡ false
deploy_with_a_capital = refl

-- revision 3 was deployed in the place of revision 2, and then revision 2 was deployed again
abbrev back_at_2 : List Entry
back_at_2 = deploy_2 ∷ deploy_3 ∷ deploy_2 ∷ []

-- the next number is one above the greatest number, not one above the newest revision's
deploy_after_a_deploy_back : is_allowed plain opening deploy_4 back_at_2 ≡ true
deploy_after_a_deploy_back = refl

-- revision 3 is scaled down and removed
abbrev removed_3 : List Entry
removed_3 = Outcome (Removed 3) ∷ Outcome (ScaledDown 3) ∷ back_at_2

-- each of its entries is allowed
removed_3_is_legal : all_allowed without_history opening removed_3 ≡ true
removed_3_is_legal = refl

-- the number of a removed revision stays the greatest one
removed_3-last_number : last_number removed_3 ≡ 3
removed_3-last_number = refl

-- the number of a removed revision isn't given again
deploy_of_the_removed : is_allowed without_history opening deploy_3 removed_3 ≡ false
deploy_of_the_removed = refl

-- the name of a removed revision can be deployed as a new revision
deploy_of_the_removed_as_4 : is_allowed without_history opening (Deploy 4 (codes "v3") (9201 ∷ 9202 ∷ [])) removed_3 ≡ true
deploy_of_the_removed_as_4 = refl

-- a number of deploys after the opening, from revision 2 on
abbrev deploys : ℕ → List Entry
deploys zero = []
deploys (suc n) = Deploy (n + 2) (codes "old") (9101 ∷ 9102 ∷ []) ∷ deploys n

abbrev deploy_64 : Entry
deploy_64 = Deploy 64 (codes "v64") (9301 ∷ 9302 ∷ [])

abbrev deploy_65 : Entry
deploy_65 = Deploy 65 (codes "v65") (9301 ∷ 9302 ∷ [])

-- if 63 revisions exist, one more can be deployed
deploy_of_the_64th : is_allowed plain opening deploy_64 (deploys 62) ≡ true
deploy_of_the_64th = refl

-- if 64 revisions exist, no new one can be deployed
deploy_of_the_65th : is_allowed plain opening deploy_65 (deploys 63) ≡ false
deploy_of_the_65th = refl

-- one of the 64 revisions can be deployed again
deploy_back_among_64 : is_allowed plain opening deploy_1 (deploys 63) ≡ true
deploy_back_among_64 = refl
