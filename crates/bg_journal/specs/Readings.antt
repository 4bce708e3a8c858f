-- What the words of a line may mean. The line of an entry means this entry; a line that means an entry need not be its line,
-- as a number may have leading zeros.
use Rattle.std.specs.Prelude.{ℕ, List, [], ◌∷◌, map, codes, bytes_eq, if◌then◌else◌, Option, Some, None, option_map}
use Rattle.std.specs.Option.{option_and_then}
use Rattle.std.specs.List.{list_all}
use Rattle.std.specs.Str.Parse.{digits_value}
use Rattle.bg_history.specs.declared.entry.Entry.{Entry}
use Rattle.bg_history.specs.declared.entry.Entry.TheVariants.{Tick, Deploy, Available, Verdict, Promote, PromoteFull, Abort, Retry, Outcome}
use Rattle.bg_history.specs.declared.entry.Outcome as outcome
use Rattle.bg_history.specs.declared.entry.Outcome.TheVariants.{Ready, Resumed, Switched, Promoted, ScaledDown, Removed}
use Rattle.bg_history.specs.declared.entry.Analysis.{Analysis}
use Rattle.bg_history.specs.declared.entry.Analysis.TheVariants.{Pre, Post}
use Rattle.bg_history.specs.declared.entry.AnalysisResult.{AnalysisResult}
use Rattle.bg_history.specs.declared.entry.AnalysisResult.TheVariants.{Successful, Failed, Error}
use Rattle.bg_journal.specs.Words.{both, is_number, number_in, only}

abbrev pub analysis_in : List ℕ → Option Analysis
analysis_in word =
    if bytes_eq word (codes "pre") then Some Pre
    else if bytes_eq word (codes "post") then Some Post
    else None

abbrev pub result_in : List ℕ → Option AnalysisResult
result_in word =
    if bytes_eq word (codes "successful") then Some Successful
    else if bytes_eq word (codes "failed") then Some Failed
    else if bytes_eq word (codes "error") then Some Error
    else None

abbrev pub outcome_in : List ℕ → ℕ → Option outcome.Outcome
outcome_in word r =
    if bytes_eq word (codes "ready") then Some (Ready r)
    else if bytes_eq word (codes "resumed") then Some (Resumed r)
    else if bytes_eq word (codes "switched") then Some (Switched r)
    else if bytes_eq word (codes "promoted") then Some (Promoted r)
    else if bytes_eq word (codes "scaled_down") then Some (ScaledDown r)
    else if bytes_eq word (codes "removed") then Some (Removed r)
    else None

-- the number of a single word
abbrev pub only_number : List (List ℕ) → Option ℕ
only_number words = option_and_then (number_in 64) (only words)

abbrev pub ports_in : List (List ℕ) → Option (List ℕ)
ports_in words = if list_all (is_number 16) words then Some (map (digits_value 10) words) else None

abbrev pub deploy_in : List (List ℕ) → Option Entry
deploy_in (r ∷ name ∷ ports) =
    option_and_then (λ revision. option_map (λ numbers. Deploy revision name numbers) (ports_in ports))
    (number_in 64 r)
deploy_in _ = None

abbrev pub available_of : List ℕ × List ℕ → Option Entry
available_of (r, n) =
    option_and_then (λ revision. option_map (λ size. Available revision size) (number_in 32 n))
    (number_in 64 r)

abbrev pub available_in : List (List ℕ) → Option Entry
available_in words = option_and_then available_of (both words)

abbrev pub verdict_of : List ℕ × List ℕ → Option Entry
verdict_of (a, v) =
    option_and_then (λ analysis. option_map (λ result. Verdict analysis result) (result_in v))
    (analysis_in a)

abbrev pub verdict_in : List (List ℕ) → Option Entry
verdict_in words = option_and_then verdict_of (both words)

abbrev pub promote_in : List (List ℕ) → Option Entry
promote_in [] = Some Promote
promote_in (word ∷ []) = if bytes_eq word (codes "full") then Some PromoteFull else None
promote_in _ = None

abbrev pub alone_in : Entry → List (List ℕ) → Option Entry
alone_in e [] = Some e
alone_in e _ = None

abbrev pub outcome_entry_in : List ℕ → List (List ℕ) → Option Entry
outcome_entry_in word words =
    option_and_then (λ r. option_map (λ x. Outcome x) (outcome_in word r)) (only_number words)

-- the entry of a line that is no deploy
abbrev pub plain_in : List ℕ → List (List ℕ) → Option Entry
plain_in first words =
    if bytes_eq first (codes "tick") then option_map (λ m. Tick m) (only_number words)
    else if bytes_eq first (codes "available") then available_in words
    else if bytes_eq first (codes "verdict") then verdict_in words
    else if bytes_eq first (codes "promote") then promote_in words
    else if bytes_eq first (codes "abort") then alone_in Abort words
    else if bytes_eq first (codes "retry") then alone_in Retry words
    else outcome_entry_in first words

-- the entry of words
abbrev pub reading : List (List ℕ) → Option Entry
reading [] = None
reading (first ∷ words) =
    if bytes_eq first (codes "deploy") then deploy_in words else plain_in first words
