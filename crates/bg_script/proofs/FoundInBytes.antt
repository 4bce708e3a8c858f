-- The finding for a part is the finding for the bytes from which it was read.
use Rattle.std.proofs.Common.{◌≡◌, ◌≢◌, ◌≤◌, ◌⊎◌, inl, inr, ℕ, List, [], length, Option, None, Some, subst}
use Rattle.std.specs.Prelude.{Result, Ok, Err, MatchResult, IfOk, IfSome}
use Rattle.std.specs.Io.KnownBytes.{Appends}
use Rattle.bg_strategy_text.specs.Reading.{IsStrategyIn, IsFaultIn}
use Rattle.bg_strategy_text.specs.declared.fault.StrategyFault.{StrategyFault}
use Rattle.bg_strategy_text.specs.declared.fault.StrategyFault.TheVariants as fault
use Rattle.bg_script.specs.declared.finding.Finding.{Finding}
use Rattle.bg_script.specs.declared.finding.Finding.TheVariants.{Means, Refused, TooLarge}
use Rattle.bg_script.specs.declared.run_end.RunEnd.{RunEnd}
use Rattle.bg_script.specs.declared.run_end.RunEnd.TheVariants as run_end
use Rattle.bg_operator.specs.declared.strategy_part.StrategyPart.{StrategyPart}
use Rattle.bg_operator.specs.declared.strategy_part.StrategyPart.TheVariants as part
use Rattle.bg_operator.specs.Parting.{IsWhole, WasRead, largest_strategy}
use Rattle.bg_operator.specs.Reading.{Known}
use Rattle.bg_script.specs.Findings.{IsFinding, IsFoundIn, status_of}
use Rattle.bg_script.specs.Findings.{finding_text}
use Rattle.bg_script.specs.Checks.{Checks}

-- a fault of the text that is not an allocation failure is the finding
pub refused_found : (part : StrategyPart) (bytes : List ℕ) (e : StrategyFault) (r : Result Finding RunEnd)
    → ((f : Finding) → f ≡ Refused e → IsFaultIn bytes e × (e ≢ fault.OutOfMemory) → IsFoundIn part f)
    → (e ≡ fault.OutOfMemory) ⊎ IsFaultIn bytes e
    → MatchResult r (λ f. (f ≡ Refused e) × (e ≢ fault.OutOfMemory)) (λ end. (end ≡ run_end.OutOfMemory) × (e ≡ fault.OutOfMemory))
    → MatchResult r (IsFoundIn part) (λ end. end ≡ run_end.OutOfMemory)
refused_found part bytes e (Ok f) found (inl memory) is = absurd (is.1 memory)
refused_found part bytes e (Ok f) found (inr other) is = found f is.0 (other, is.1)
refused_found part bytes e (Err end) found why is = is.0

-- the finding for a part is that for the text that was read
pub is_finding : (p : StrategyPart) (f : Finding) (text rest ys : List ℕ) → WasRead p text rest ys → IsFoundIn p f → IsFinding f text
is_finding (part.Whole whole) (Means s) text rest ys read found =
    (subst (λ (l : List ℕ). IsStrategyIn l s) read.0 found, subst (λ (l : List ℕ). length l ≤ largest_strategy) read.0 read.2)
is_finding (part.Whole whole) (Refused e) text rest ys read found =
    (subst (λ (l : List ℕ). IsFaultIn l e) read.0 found.0, found.1, subst (λ (l : List ℕ). length l ≤ largest_strategy) read.0 read.2)
is_finding (part.Whole whole) TooLarge text rest ys read found = absurd found
is_finding part.TooLarge (Means s) text rest ys read found = absurd found
is_finding part.TooLarge (Refused e) text rest ys read found = absurd found
is_finding part.TooLarge TooLarge text rest ys read found = read

-- the finding for the part that is the whole input is the finding for the input
pub found_in_all : (known after : Option (List ℕ)) (p : StrategyPart) (r : Result Finding RunEnd) → Known known after (IsWhole p)
    → MatchResult r (IsFoundIn p) (λ end. end ≡ run_end.OutOfMemory) → IfOk r (λ f. IfSome known (IsFinding f))
found_in_all known after p (Err end) taken found = tt
found_in_all None after p (Ok f) taken found = tt
found_in_all (Some xs) None p (Ok f) taken found = absurd taken
found_in_all (Some xs) (Some ys) p (Ok f) taken found = is_finding p f xs [] ys taken found

-- the lines of the finding for the whole input were written
pub checks_all : (known first last : Option (List ℕ)) (f : Finding) (status : ℕ)
    → IfSome known (IsFinding f) → Appends first last (finding_text f) → status ≡ status_of f → IfSome known (Checks first last status)
checks_all None first last f status found written is = tt
checks_all (Some xs) first last f status found written is = record {
  finding = f;
  found = found;
  written = written;
  status_is = is;
}
