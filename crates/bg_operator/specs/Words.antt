-- The words of a line, words that are numbers, and the fixed words of the commands.
use Rattle.std.specs.Prelude.{ℕ, ◌^◌, Bool, ◌&&◌, List, [], ◌∷◌, map, filter, length, ◌==◌, if◌then◌else◌, nat_le, nat_lt, codes, bytes_eq, Option, Some, None, Result, Ok, Err}
use Rattle.std.specs.List.{list_all, slice_split}
use Rattle.std.specs.Char.{is_ascii_digit}
use Rattle.std.specs.Str.Parse.{digits_value}
use Rattle.bg_revisions.specs.declared.revision.Service.{Service}
use Rattle.bg_revisions.specs.declared.revision.Service.TheVariants as service
use Rattle.bg_history.specs.declared.entry.Analysis.{Analysis}
use Rattle.bg_history.specs.declared.entry.Analysis.TheVariants as analysis
use Rattle.bg_history.specs.declared.entry.AnalysisResult.{AnalysisResult}
use Rattle.bg_history.specs.declared.entry.AnalysisResult.TheVariants as result
use Rattle.bg_operator.specs.declared.line_fault.LineFault.{LineFault}
use Rattle.bg_operator.specs.declared.line_fault.LineFault.TheVariants.{BadNumber}
use Rattle.bg_operator.specs.declared.query.Query.{Query}
use Rattle.bg_operator.specs.declared.query.Query.TheVariants as query
use Rattle.bg_operator.specs.declared.words.Words.{Words}

-- the words of a line: the parts between its spaces that are not empty
unfoldable pub words_of : List ℕ → List (List ℕ)
words_of line = filter (λ part. nat_lt 0 (length part)) (slice_split (λ byte. byte == 32) line)

-- the remaining words
abbrev pub words_ahead : Words → List (List ℕ)
words_ahead words = words_of words.rest.now

-- 1 to 20 digits, whose value is below 2 ^ bits
abbrev pub is_number : ℕ → List ℕ → Bool
is_number bits word =
    nat_le 1 (length word) && nat_le (length word) 20 && list_all is_ascii_digit word
    && nat_lt (digits_value 10 word) (2 ^ bits)

-- the number as which a word is read
abbrev pub number_reading : ℕ → List ℕ → Result ℕ LineFault
number_reading bits word =
    if is_number bits word then Ok (digits_value 10 word) else Err BadNumber

-- a table of the words of one kind, each with what it means
abbrev pub Vocabulary : Type 0 → Type 0
Vocabulary A = List (List ℕ × A)

-- the words of a table
abbrev pub words_in : {A : Type 0} → Vocabulary A → List (List ℕ)
words_in rows = map (λ row. row.0) rows

-- the meaning of a word in a table, if the table has it
abbrev pub meaning_in : {A : Type 0} → Vocabulary A → List ℕ → Option A
meaning_in [] word = None
meaning_in ((text, meaning) ∷ rows) word =
    if bytes_eq word text then Some meaning else meaning_in rows word

-- the two services
abbrev pub services : Vocabulary Service
services = (codes "active", service.Active) ∷ (codes "preview", service.Preview) ∷ []

-- the two analyses
abbrev pub analyses : Vocabulary Analysis
analyses = (codes "pre", analysis.Pre) ∷ (codes "post", analysis.Post) ∷ []

-- how an analysis ends
abbrev pub results : Vocabulary AnalysisResult
results =
    (codes "successful", result.Successful)
    ∷ (codes "failed", result.Failed)
    ∷ (codes "error", result.Error)
    ∷ []

-- what lines of one word ask of a book
abbrev pub queries : Vocabulary Query
queries = (codes "report", query.Report) ∷ []
