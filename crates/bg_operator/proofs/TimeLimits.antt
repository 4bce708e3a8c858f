-- How a line with a time limit is read. Such a line needs memory only for its event.
use Rattle.std.proofs.Common.{◌≡◌, ℕ, Bool, true, false, List, [], ◌∷◌, Option, Some, None, refl, ap, sym, ◌∙◌, inl, inr}
use Rattle.std.specs.Prelude.{⊤, bytes_eq, codes, find, if◌then◌else◌, option_map, Result, Ok, Err}
use Rattle.std.specs.Str.Parse.{digits_value}
use Rattle.std.specs.Option.{ok_or, option_and_then, option_map_or}
use Rattle.bg_history.specs.declared.entry.Analysis.{Analysis}
use Rattle.bg_history.specs.declared.entry.AnalysisResult.{AnalysisResult}
use Rattle.bg_history.specs.declared.control.Control.TheVariants.{Abort, Retry, Verdict}
use Rattle.bg_revisions.specs.declared.revision.Service.{Service}
use Rattle.bg_operator.specs.declared.command.Command.{Command}
use Rattle.bg_operator.specs.declared.command.Command.TheVariants.{Ask, Control, Enter, Compact, Quit}
use Rattle.bg_operator.specs.declared.query.Query.{Query}
use Rattle.bg_operator.specs.declared.line_fault.LineFault.{LineFault}
use Rattle.bg_operator.specs.declared.line_fault.LineFault.TheVariants.{BadNumber, UnknownWord, WrongCount}
use Rattle.bg_operator.specs.Words.{analyses, is_number, meaning_in, number_reading, queries, results, services, Vocabulary}
use Rattle.bg_operator.specs.Shapes.{shape_fault}
use Rattle.bg_operator.specs.Commands.{IsReadAs, NeedsMemory, Row, available_command, available_row, before_reading, deploy_row, enter_row, event_reading, leave_command, leave_row, promote_command, promote_row, query_rows, row_reading, rows, single_word, table_reading, tick_command, tick_row, verdict_row, with_time_limit}

-- if a line needs memory, it also does after a time limit
abbrev pub NeedsItBefore : ℕ → Result Command LineFault → Type 0
NeedsItBefore m read = NeedsMemory read → NeedsMemory (with_time_limit m read)

-- so it is for the words of a row, if it is for their commands
by_commands : (m : ℕ) (row : Row) → ((words : List (List ℕ)) → NeedsItBefore m (ok_or (row.command words) WrongCount))
    → (words : List (List ℕ)) → NeedsItBefore m (row_reading row words)
by_commands m row each words = by_fault (shape_fault row.shape words)
  where
    by_fault : (fault : Option LineFault) → NeedsItBefore m (option_map_or Err fault (ok_or (row.command words) WrongCount))
    by_fault None = each words
    by_fault (Some fault) = λ needs. needs

deploys : (m : ℕ) (words : List (List ℕ)) → NeedsItBefore m (ok_or (deploy_row.command words) WrongCount)
deploys m [] = λ needs. needs
deploys m (name ∷ ports) = λ needs. needs

ticks : (m : ℕ) (words : List (List ℕ)) → NeedsItBefore m (ok_or (tick_command words) WrongCount)
ticks m [] = λ needs. needs
ticks m (moment ∷ []) = λ needs. needs
ticks m (moment ∷ more ∷ words) = λ needs. needs

availables : (m : ℕ) (words : List (List ℕ)) → NeedsItBefore m (ok_or (available_command words) WrongCount)
availables m [] = λ needs. needs
availables m (revision ∷ []) = λ needs. needs
availables m (revision ∷ size ∷ []) = λ needs. needs
availables m (revision ∷ size ∷ more ∷ words) = λ needs. needs

verdict_of : (m : ℕ) (analysis : Option Analysis) (result : Option AnalysisResult)
    → NeedsItBefore m (ok_or (option_and_then (λ a. option_map (λ r. Control (Verdict a r)) result) analysis) WrongCount)
verdict_of m None result = λ needs. needs
verdict_of m (Some a) None = λ needs. needs
verdict_of m (Some a) (Some r) = λ needs. needs

verdicts : (m : ℕ) (words : List (List ℕ)) → NeedsItBefore m (ok_or (verdict_row.command words) WrongCount)
verdicts m [] = λ needs. needs
verdicts m (analysis ∷ []) = λ needs. needs
verdicts m (analysis ∷ result ∷ []) = verdict_of m (meaning_in analyses analysis) (meaning_in results result)
verdicts m (analysis ∷ result ∷ more ∷ words) = λ needs. needs

promotes : (m : ℕ) (words : List (List ℕ)) → NeedsItBefore m (ok_or (promote_command words) WrongCount)
promotes m [] = λ needs. needs
promotes m (full ∷ []) = λ needs. needs
promotes m (full ∷ more ∷ words) = λ needs. needs

enter_of : (m seat : ℕ) (service : Option Service) → NeedsItBefore m (ok_or (option_map (Enter seat) service) WrongCount)
enter_of m seat None = λ needs. needs
enter_of m seat (Some service) = λ needs. needs

enters : (m : ℕ) (words : List (List ℕ)) → NeedsItBefore m (ok_or (enter_row.command words) WrongCount)
enters m [] = λ needs. needs
enters m (seat ∷ []) = λ needs. needs
enters m (seat ∷ service ∷ []) = enter_of m _ (meaning_in services service)
enters m (seat ∷ service ∷ more ∷ words) = λ needs. needs

leaves : (m : ℕ) (words : List (List ℕ)) → NeedsItBefore m (ok_or (leave_command words) WrongCount)
leaves m [] = λ needs. needs
leaves m (seat ∷ []) = λ needs. needs
leaves m (seat ∷ more ∷ words) = λ needs. needs

-- so it is for each row of a table that has this first word
abbrev AreSo : ℕ → List ℕ → List Row → Type 0
AreSo m first [] = ⊤
AreSo m first (row ∷ table) =
    (bytes_eq first row.first ≡ true → (words : List (List ℕ)) → NeedsItBefore m (row_reading row words)) × AreSo m first table

by_rows : (m : ℕ) (first : List ℕ) (words : List (List ℕ)) (table : List Row) → AreSo m first table
    → NeedsItBefore m (option_map_or (λ row. row_reading row words) (find (λ row. bytes_eq first row.first) table) (Err UnknownWord))
by_rows m first words [] all = λ needs. needs
by_rows m first words (row ∷ table) all = by_test (bytes_eq first row.first) refl (by_rows m first words table all.1)
  where
    by_test : (t : Bool) → bytes_eq first row.first ≡ t
        → NeedsItBefore m (option_map_or (λ row. row_reading row words) (find (λ row. bytes_eq first row.first) table) (Err UnknownWord))
        → NeedsItBefore m (option_map_or (λ row. row_reading row words) (if t then Some row else find (λ row. bytes_eq first row.first) table) (Err UnknownWord))
    by_test true is later = all.0 is words
    by_test false is later = later

queries_ask : (m : ℕ) (first : List ℕ) (table : Vocabulary Query) → AreSo m first (query_rows table)
queries_ask m first [] = tt
queries_ask m first ((text, query) ∷ table) =
    (λ is. by_commands m (single_word text (Ask query)) (λ words needs. needs), queries_ask m first table)

unlike : (t : Bool) → t ≡ false → t ≡ true → ⊥
unlike t differs same = let c : true ≡ false = sym same ∙ differs in absurd (cc)

-- so it is for each line of the table but `open` and `down`, which give no event
pub needs_it_before : (m : ℕ) (first : List ℕ) (words : List (List ℕ)) → bytes_eq first (codes "open") ≡ false → bytes_eq first (codes "down") ≡ false
    → NeedsItBefore m (table_reading first words)
needs_it_before m first words no_open no_down =
    by_rows m first words rows (
      λ is. absurd (unlike _ no_open is),
      (
        λ is. by_commands m deploy_row (deploys m),
        (
          λ is. by_commands m tick_row (ticks m),
          (
            λ is. by_commands m available_row (availables m),
            (
              λ is. by_commands m verdict_row (verdicts m),
              (
                λ is. by_commands m promote_row (promotes m),
                (
                  λ is. by_commands m (single_word (codes "abort") (Control Abort)) (λ words needs. needs),
                  (
                    λ is. by_commands m (single_word (codes "retry") (Control Retry)) (λ words needs. needs),
                    (
                      λ is. by_commands m enter_row (enters m),
                      (
                        λ is. by_commands m leave_row (leaves m),
                        (
                          λ is. absurd (unlike _ no_down is),
                          (
                            λ is. by_commands m (single_word (codes "compact") Compact) (λ words needs. needs),
                            (
                              λ is. by_commands m (single_word (codes "quit") Quit) (λ words needs. needs),
                              queries_ask m first queries,
                            ),
                          ),
                        ),
                      ),
                    ),
                  ),
                ),
              ),
            ),
          ),
        ),
      ),
    )

-- what was read of a line, after a time limit
pub read_before : (m : ℕ) (expected read : Result Command LineFault) → NeedsItBefore m expected → IsReadAs expected read → IsReadAs (with_time_limit m expected) (with_time_limit m read)
read_before m expected read so (inl same) = inl (ap (with_time_limit m) same)
read_before m expected read so (inr (failed, needs)) = inr (ap (with_time_limit m) failed, so needs)

-- a line after a time limit that is a number
pub read_after_limit : (limit first : List ℕ) (words : List (List ℕ)) (m : ℕ) → number_reading 64 limit ≡ Ok m
    → with_time_limit m (event_reading first words) ≡ before_reading (limit ∷ first ∷ words)
read_after_limit limit first words m is = by_test (is_number 64 limit) is
  where
    by_test : (t : Bool) → (if t then Ok (digits_value 10 limit) else Err BadNumber) ≡ Ok m
        → with_time_limit m (event_reading first words) ≡ option_map_or Err (if t then None else Some BadNumber) (with_time_limit (digits_value 10 limit) (event_reading first words))
    by_test true same =
        let value : digits_value 10 limit ≡ m = cc in ap (λ (n : ℕ). with_time_limit n (event_reading first words)) (sym value)
    by_test false same = cc
