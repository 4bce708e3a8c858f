-- The first line of a text that is that of no entry.
use Rattle.std.proofs.Common.{◌≡◌, ℕ, ◌+◌, ◌<◌, true, List, [], ◌∷◌, ◌++◌, length, get_or, Option, Some, None, refl, subst, sym, ap, ◌∙◌, arith}
use Rattle.std.specs.Prelude.{◌≢◌, not}
use Rattle.std.specs.List.{list_all}
use Rattle.std.proofs.lemmas.Bool.{ne_eqb}
use Rattle.std.proofs.lemmas.List.Elements.{All-from_get_or}
use Rattle.std.proofs.lemmas.List.Sums.{list_all-from_AllPass}
use Rattle.bg_history.specs.declared.entry.Entry.{Entry}
use Rattle.bg_journal.specs.Texts.{entries_text, is_journaled, line_of}
use Rattle.bg_journal.specs.declared.text_fault.TextFault.{TextFault}
use Rattle.bg_journal.specs.declared.text_fault.TextFault.TheVariants.{BadLine, OutOfMemory}
use Rattle.bg_journal.specs.Faults.{IsFirstBadLine, NoEntryFirst, TextFaultIs}
use Rattle.bg_journal.proofs.Bytes.{cut_once, not_all}
use Rattle.bg_journal.proofs.EntryWords.{is_in_line, line_is_in_line}
use Rattle.bg_journal.proofs.Texts.{first_line, text_has_no_bad_line}

-- no byte is a line break
abbrev pub NoBreak : List ℕ → Type 0
NoBreak bytes = (i : ℕ) → i < length bytes → get_or bytes i 0 ≢ 10

in_line : (bytes : List ℕ) → NoBreak bytes → list_all is_in_line bytes ≡ true
in_line bytes free =
    list_all-from_AllPass is_in_line bytes
    (All-from_get_or (λ byte. is_in_line byte ≡ true) bytes 0 (λ i inside. ap not (ne_eqb (get_or bytes i 0) 10 (free i inside))))

not_nil : (xs ys : List ℕ) → xs ++ (10 ∷ ys) ≢ []
not_nil [] ys = λ same. cc
not_nil (x ∷ xs) ys = λ same. cc

none_is_not_some : (e : Entry) → None ≡ Some e → ⊥
none_is_not_some e same = cc

-- a line that is that of no entry stands at the begin
no_entry_line : (rest line after : List ℕ) → rest ≡ line ++ (10 ∷ after) → NoBreak line
    → ((e : Entry) → is_journaled e ≡ true → line_of e ≢ line) → NoEntryFirst rest
no_entry_line rest line after is free none = (
  λ same. not_nil line after (sym is ∙ same),
  λ e later j same. none e j
      (cut_once is_in_line 10 refl (line_of e) line later after (line_is_in_line e j) (in_line line free) (sym (first_line e later) ∙ sym same ∙ is)).0,
)

-- bytes without a line break begin with the line of no entry
no_entry_end : (rest : List ℕ) → NoBreak rest → 0 < length rest → NoEntryFirst rest
no_entry_end rest free some = (
  λ same. omega (arith, some, ap length same),
  λ e later j same. not_all is_in_line 10 refl (line_of e) later rest (in_line rest free) (same ∙ first_line e later),
)

-- the fault of a line that is read as no entry
pub bad_line : (text : List ℕ) (read : List Entry) (rest line after : List ℕ) (n : ℕ) → entries_text read ++ rest ≡ text
    → list_all is_journaled read ≡ true → rest ≡ line ++ (10 ∷ after) → NoBreak line
    → (found : Option Entry) → found ≡ None → ((e : Entry) → is_journaled e ≡ true → line_of e ≡ line → found ≡ Some e)
    → n ≡ length read + 1 → IsFirstBadLine text n
bad_line text read rest line after n all j is free found none each place =
    (read, rest, sym all, j, place, no_entry_line rest line after is free (λ e je same. none_is_not_some e (sym none ∙ each e je same)))

-- the fault of bytes after the last line break
pub bad_end : (text : List ℕ) (read : List Entry) (rest : List ℕ) (n : ℕ) → entries_text read ++ rest ≡ text
    → list_all is_journaled read ≡ true → NoBreak rest → 0 < length rest → n ≡ length read + 1 → IsFirstBadLine text n
bad_end text read rest n all j free some place =
    (read, rest, sym all, j, place, no_entry_end rest free some)

-- a text of entries is refused only for want of memory
pub fault_of_entries : (entries : List Entry) (text : List ℕ) (fault : TextFault) → list_all is_journaled entries ≡ true
    → entries_text entries ≡ text → TextFaultIs text fault → fault ≡ OutOfMemory
fault_of_entries entries text (BadLine n) j same told =
    absurd (text_has_no_bad_line entries n j (subst (λ (l : List ℕ). IsFirstBadLine l n) (sym same) told))
fault_of_entries entries text OutOfMemory j same told = refl
