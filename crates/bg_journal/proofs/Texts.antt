-- No two lists of entries have one text, and no text of entries has a bad line.
use Rattle.std.proofs.Common.{◌≡◌, ℕ, true, List, [], ◌∷◌, ◌++◌, Some, refl, sym, ap, ◌∙◌, append_assoc}
use Rattle.std.specs.Prelude.{◌≢◌, codes}
use Rattle.std.specs.List.{list_all}
use Rattle.std.proofs.lemmas.Bool.{and_parts}
use Rattle.bg_history.specs.declared.entry.Entry.{Entry}
use Rattle.bg_journal.specs.Texts.{entries_text, entry_text, is_journaled, line_of}
use Rattle.bg_journal.specs.Words.{words_of}
use Rattle.bg_journal.specs.Readings.{reading}
use Rattle.bg_journal.specs.Faults.{IsFirstBadLine, NoEntryFirst}
use Rattle.bg_journal.proofs.Bytes.{cut_once}
use Rattle.bg_journal.proofs.EntryReadings.{line_read}
use Rattle.bg_journal.proofs.EntryWords.{is_in_line, line_is_in_line}

pub some_same : {X : Type 0} (x y : X) → Some x ≡ Some y → x ≡ y
some_same x y e = cc

-- no two entries have one line
pub one_line : (e f : Entry) → is_journaled e ≡ true → is_journaled f ≡ true → line_of e ≡ line_of f → e ≡ f
one_line e f je jf same =
    some_same e f (sym (line_read e je) ∙ ap (λ l. reading (words_of l)) same ∙ line_read f jf)

-- the first line of a text, and what follows it
pub first_line : (e : Entry) (rest : List ℕ) → entry_text e ++ rest ≡ line_of e ++ (10 ∷ rest)
first_line e rest = append_assoc (line_of e) (codes "\n") rest

-- two texts that begin with the lines of entries are one only if the lines are one, and the rests
cut_entry : (e f : Entry) (ls ms : List ℕ) → is_journaled e ≡ true → is_journaled f ≡ true
    → entry_text e ++ ls ≡ entry_text f ++ ms → (line_of e ≡ line_of f) × (ls ≡ ms)
cut_entry e f ls ms je jf same =
    cut_once is_in_line 10 refl (line_of e) (line_of f) ls ms (line_is_in_line e je) (line_is_in_line f jf)
    (sym (first_line e ls) ∙ same ∙ first_line f ms)

not_empty : (e : Entry) (rest : List ℕ) → [] ≢ entry_text e ++ rest
not_empty e rest = λ same. empty_has_none (line_of e) rest (same ∙ first_line e rest)
  where
    empty_has_none : (xs ys : List ℕ) → [] ≢ xs ++ (10 ∷ ys)
    empty_has_none [] ys = λ same. cc
    empty_has_none (x ∷ xs) ys = λ same. cc

-- no two lists of entries have one text
pub one_text : (es fs : List Entry) → list_all is_journaled es ≡ true → list_all is_journaled fs ≡ true
    → entries_text es ≡ entries_text fs → es ≡ fs
one_text [] [] je jf same = refl
one_text [] (f ∷ fs) je jf same = absurd (not_empty f (entries_text fs) same)
one_text (e ∷ es) [] je jf same = absurd (not_empty e (entries_text es) (sym same))
one_text (e ∷ es) (f ∷ fs) je jf same =
    let pe = and_parts (is_journaled e) (list_all is_journaled es) je in
    let pf = and_parts (is_journaled f) (list_all is_journaled fs) jf in
    let cut = cut_entry e f (entries_text es) (entries_text fs) pe.0 pf.0 same in
    let first : e ≡ f = one_line e f pe.0 pf.0 cut.0 in
    let more : es ≡ fs = one_text es fs pe.1 pf.1 cut.1 in
    cc

-- a text of entries has no bad line
no_bad_line : (es read : List Entry) (rest : List ℕ) → list_all is_journaled es ≡ true → list_all is_journaled read ≡ true
    → NoEntryFirst rest → entries_text es ≢ entries_text read ++ rest
no_bad_line [] [] rest je jr bad = λ same. bad.0 (sym same)
no_bad_line (e ∷ es) [] rest je jr bad =
    λ same. bad.1 e (entries_text es) (and_parts (is_journaled e) (list_all is_journaled es) je).0 (sym same)
no_bad_line [] (r ∷ read) rest je jr bad =
    λ same. not_empty r (entries_text read ++ rest) (same ∙ append_assoc (entry_text r) (entries_text read) rest)
no_bad_line (e ∷ es) (r ∷ read) rest je jr bad =
    let pe = and_parts (is_journaled e) (list_all is_journaled es) je in
    let pr = and_parts (is_journaled r) (list_all is_journaled read) jr in
    λ same. no_bad_line es read rest pe.1 pr.1 bad
    (cut_entry e r (entries_text es) (entries_text read ++ rest) pe.0 pr.0 (same ∙ append_assoc (entry_text r) (entries_text read) rest)).1

pub text_has_no_bad_line : (es : List Entry) (n : ℕ) → list_all is_journaled es ≡ true → IsFirstBadLine (entries_text es) n → ⊥
text_has_no_bad_line es n j (read, rest, is, jr, place, bad) = no_bad_line es read rest j jr bad is
