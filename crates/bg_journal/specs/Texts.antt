-- The text of a journal: a line for each entry.
use Rattle.std.specs.Prelude.{ℕ, ◌^◌, Bool, true, false, ◌&&◌, nat_lt, nat_le, List, [], ◌++◌, codes}
use Rattle.std.specs.List.{flat_map, list_all}
use Rattle.std.specs.Fmt.{decimal}
use Rattle.bg_strategy.specs.Label.{is_label}
use Rattle.bg_history.specs.declared.entry.Entry.{Entry}
use Rattle.bg_history.specs.declared.entry.Entry.TheVariants.{Tick, Deploy, Available, Verdict, Promote, PromoteFull, Abort, Retry, Enter, Leave, Outcome}
use Rattle.bg_history.specs.declared.entry.Outcome as outcome
use Rattle.bg_history.specs.declared.entry.Outcome.TheVariants.{Ready, Resumed, Switched, Promoted, ScaledDown, Removed}
use Rattle.bg_history.specs.declared.entry.Analysis.{Analysis}
use Rattle.bg_history.specs.declared.entry.Analysis.TheVariants.{Pre, Post}
use Rattle.bg_history.specs.declared.entry.AnalysisResult.{AnalysisResult}
use Rattle.bg_history.specs.declared.entry.AnalysisResult.TheVariants.{Successful, Failed, Error}

abbrev pub is_port : ℕ → Bool
is_port p = nat_le 1 p && nat_le p 65535

-- the entry has a line: it belongs to no request, and the name of a revision that it deploys is a DNS label, and the
-- ports are from 1 to 65,535
abbrev pub has_line : Entry → Bool
has_line (Deploy r name ports) = is_label name && list_all is_port ports
has_line (Enter seat service number r port) = false
has_line (Leave seat number r) = false
has_line _ = true

-- the revision of an outcome
abbrev pub revision_in : outcome.Outcome → ℕ
revision_in (Ready r) = r
revision_in (Resumed r) = r
revision_in (Switched r) = r
revision_in (Promoted r) = r
revision_in (ScaledDown r) = r
revision_in (Removed r) = r

-- the numbers of the entry fit their types, as those of each value do
abbrev pub numbers_fit : Entry → Bool
numbers_fit (Tick m) = nat_lt m (2 ^ 64)
numbers_fit (Deploy r name ports) = nat_lt r (2 ^ 64)
numbers_fit (Available r n) = nat_lt r (2 ^ 64) && nat_lt n (2 ^ 32)
numbers_fit (Outcome x) = nat_lt (revision_in x) (2 ^ 64)
numbers_fit _ = true

-- an entry that a journal may have
abbrev pub is_journaled : Entry → Bool
is_journaled e = has_line e && numbers_fit e

-- a port, after a space
abbrev pub port_text : ℕ → List ℕ
port_text p = codes " " ++ decimal p

abbrev pub ports_text : List ℕ → List ℕ
ports_text ports = flat_map port_text ports

abbrev pub analysis_word : Analysis → List ℕ
analysis_word Pre = codes "pre"
analysis_word Post = codes "post"

abbrev pub result_word : AnalysisResult → List ℕ
result_word Successful = codes "successful"
result_word Failed = codes "failed"
result_word Error = codes "error"

abbrev pub outcome_line : outcome.Outcome → List ℕ
outcome_line (Ready r) = codes "ready " ++ decimal r
outcome_line (Resumed r) = codes "resumed " ++ decimal r
outcome_line (Switched r) = codes "switched " ++ decimal r
outcome_line (Promoted r) = codes "promoted " ++ decimal r
outcome_line (ScaledDown r) = codes "scaled_down " ++ decimal r
outcome_line (Removed r) = codes "removed " ++ decimal r

-- the line of an entry, without its line break; nothing for an entry that has no line
abbrev pub line_of : Entry → List ℕ
line_of (Tick m) = codes "tick " ++ decimal m
line_of (Deploy r name ports) = codes "deploy " ++ decimal r ++ codes " " ++ name ++ ports_text ports
line_of (Available r n) = codes "available " ++ decimal r ++ codes " " ++ decimal n
line_of (Verdict analysis result) =
    codes "verdict " ++ analysis_word analysis ++ codes " " ++ result_word result
line_of Promote = codes "promote"
line_of PromoteFull = codes "promote full"
line_of Abort = codes "abort"
line_of Retry = codes "retry"
line_of (Enter seat service number r port) = []
line_of (Leave seat number r) = []
line_of (Outcome x) = outcome_line x

-- the line of an entry, with its line break
abbrev pub entry_text : Entry → List ℕ
entry_text e = line_of e ++ codes "\n"

-- the lines of entries, the oldest first
abbrev pub entries_text : List Entry → List ℕ
entries_text entries = flat_map entry_text entries
