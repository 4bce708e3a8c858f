-- When a text is not read as entries.
use Rattle.std.specs.Prelude.{◌≡◌, ◌≢◌, ℕ, ◌+◌, true, List, [], ◌++◌, length, ⊤}
use Rattle.std.specs.List.{list_all}
use Rattle.bg_history.specs.declared.entry.Entry.{Entry}
use Rattle.bg_journal.specs.declared.text_fault.TextFault.{TextFault}
use Rattle.bg_journal.specs.declared.text_fault.TextFault.TheVariants.{BadLine, OutOfMemory}
use Rattle.bg_journal.specs.Texts.{entries_text, entry_text, is_journaled}

-- something is left, and it begins with the line of no entry
abbrev pub NoEntryFirst : List ℕ → Type 0
NoEntryFirst rest =
    (rest ≢ [])
    × ((e : Entry) (after : List ℕ) → is_journaled e ≡ true → rest ≢ entry_text e ++ after)

-- the lines before line n are those of entries, and line n is that of none
abbrev pub IsFirstBadLine : List ℕ → ℕ → Type 0
IsFirstBadLine text n =
    (read : List Entry) × (rest : List ℕ) × (text ≡ entries_text read ++ rest)
    × (list_all is_journaled read ≡ true) × (n ≡ length read + 1) × NoEntryFirst rest

abbrev pub TextFaultIs : List ℕ → TextFault → Type 0
TextFaultIs text (BadLine n) = IsFirstBadLine text n
TextFaultIs text OutOfMemory = ⊤
