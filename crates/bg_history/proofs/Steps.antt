-- The order of allowed outcomes, and the form of an opening.
use Rattle.std.proofs.Common.{◌≡◌, true, false, [], ◌∷◌, Some, codes, refl}
use Rattle.bg_history.specs.declared.entry.Entry.TheVariants.{Tick, Available, Outcome}
use Rattle.bg_history.specs.declared.entry.Outcome.TheVariants.{Ready, ScaledDown, Removed}
use Rattle.bg_history.proofs.Examples.{plain, without_history, opening, deploy_2, deploy_3, deploy_4, promoted_twice}
use Rattle.bg_history.specs.Steps.{first_allowed, is_opening}

-- a step of an attempt comes before a scale-down
ready_first : first_allowed plain (Available 3 2 ∷ deploy_3 ∷ deploy_2 ∷ []) ≡ Some (Ready 3)
ready_first = refl

-- of two revisions that are due, the least is scaled down first
scaled_down_least : first_allowed plain (Tick 30 ∷ promoted_twice) ≡ Some (ScaledDown 1)
scaled_down_least = refl

-- a scale-down comes before a removal
scaled_down_first : first_allowed without_history (deploy_4 ∷ Outcome (ScaledDown 2) ∷ deploy_3 ∷ deploy_2 ∷ []) ≡ Some (ScaledDown 3)
scaled_down_first = refl

-- the removal comes last
removed_last : first_allowed without_history (Outcome (ScaledDown 2) ∷ deploy_3 ∷ deploy_2 ∷ []) ≡ Some (Removed 2)
removed_last = refl

-- an opening has a name, a port for each endpoint, and 1 to 2048 seats
opening_is_well_formed : is_opening plain opening ≡ true
opening_is_well_formed = refl

-- the name of an opening is a label
opening_without_a_label : is_opening plain (record opening { template = record { name = codes "V1"; ports = 9001 ∷ 9002 ∷ [] } }) ≡ false
opening_without_a_label = refl

-- an opening has a port for each endpoint
opening_with_one_port : is_opening plain (record opening { template = record { name = codes "v1"; ports = 9001 ∷ [] } }) ≡ false
opening_with_one_port = refl

-- an opening has at least one seat
opening_without_seats : is_opening plain (record opening { seats = 0 }) ≡ false
opening_without_seats = refl

-- an opening may have 2048 seats
opening_with_2048_seats : is_opening plain (record opening { seats = 2048 }) ≡ true
opening_with_2048_seats = refl

-- an opening can't have 2049 seats
opening_with_2049_seats : is_opening plain (record opening { seats = 2049 }) ≡ false
opening_with_2049_seats = refl
