-- The finding for the part before the script, and the answers to the script, are those for the bytes from which both
-- were read.
use Rattle.std.proofs.Common.{◌≡◌, ℕ, Bool, List, if◌then◌else◌, Option, None, Some, refl, subst}
use Rattle.std.specs.Prelude.{IfSome}
use Rattle.bg_strategy.specs.declared.strategy.Strategy.{Strategy}
use Rattle.bg_script.specs.declared.finding.Finding.{Finding}
use Rattle.bg_script.specs.declared.finding.Finding.TheVariants.{Means, Refused, TooLarge}
use Rattle.bg_operator.specs.declared.strategy_part.StrategyPart.{StrategyPart}
use Rattle.bg_operator.specs.declared.strategy_part.StrategyPart.TheVariants as part
use Rattle.bg_script.specs.Findings.{IsFoundIn}
use Rattle.bg_operator.specs.Parting.{IsPart, part_of, rest_of}
use Rattle.bg_script.proofs.FoundInBytes.{is_finding}
use Rattle.bg_operator.specs.Reading.{Known}
use Rattle.bg_script.specs.LineSteps.{Closed}
use Rattle.bg_script.specs.Scripts.{Ran, RanBy, Refuses, Replays}

part_rest : (p : StrategyPart) (s : Strategy) (xs ys : List ℕ) → IsPart p xs ys → IsFoundIn p (Means s) → ys ≡ rest_of xs
part_rest (part.Whole text) s xs ys taken found = taken.1
part_rest part.TooLarge s xs ys taken found = absurd found

refuses : (f : Finding) (seats : ℕ) (first last : Option (List ℕ)) (status : ℕ) (xs : List ℕ)
    → ((s : Strategy) → f ≡ Means s → ⊥) → Refuses f first last status → RanBy f seats first last status xs
refuses (Means s) seats first last status xs other r = absurd (other s refl)
refuses (Refused e) seats first last status xs other r = r
refuses TooLarge seats first last status xs other r = r

-- the fault of the strategy was written
pub replays_refused : (known after first last : Option (List ℕ)) (p : StrategyPart) (f : Finding) (seats status : ℕ)
    → Known known after (IsPart p) → IsFoundIn p f → ((s : Strategy) → f ≡ Means s → ⊥)
    → Refuses f first last status → IfSome known (Replays seats first last status)
replays_refused None after first last p f seats status taken found other r = tt
replays_refused (Some xs) None first last p f seats status taken found other r = absurd taken
replays_refused (Some xs) (Some ys) first last p f seats status taken found other r = record {
  finding = f;
  found = is_finding p f (part_of xs) (rest_of xs) ys taken found;
  run = refuses f seats first last status xs other r;
}

-- the lines of the script were answered
pub replays_script : (known after first last : Option (List ℕ)) (p : StrategyPart) (s : Strategy) (seats : ℕ) (faulted : Bool) (status : ℕ)
    → Known known after (IsPart p) → IsFoundIn p (Means s) → IfSome after (Ran (Closed s seats) first last faulted)
    → status ≡ (if faulted then 1 else 0) → IfSome known (Replays seats first last status)
replays_script None after first last p s seats faulted status taken found ran is = tt
replays_script (Some xs) None first last p s seats faulted status taken found ran is = absurd taken
replays_script (Some xs) (Some ys) first last p s seats faulted status taken found ran is = record {
  finding = Means s;
  found = is_finding p (Means s) (part_of xs) (rest_of xs) ys taken found;
  run = (
    faulted,
    subst (λ (l : List ℕ). Ran (Closed s seats) first last faulted l) (part_rest p s xs ys taken found) ran,
    is,
  );
}
