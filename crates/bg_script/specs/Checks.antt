-- The output of `check`.
use Rattle.std.specs.Prelude.{◌≡◌, ℕ, List, Option}
use Rattle.std.specs.Io.KnownBytes.{Appends}
use Rattle.bg_script.specs.declared.finding.Finding.{Finding}
use Rattle.bg_script.specs.Findings.{finding_text, IsFinding, status_of}

-- from first to last the lines of the finding for the bytes were written, and this is the status
pub record Checks (first last : Option (List ℕ)) (status : ℕ) (bytes : List ℕ) : Type 0 where
  pub finding : Finding
  pub found : IsFinding finding bytes
  pub written : Appends first last (finding_text finding)
  pub status_is : status ≡ status_of finding
