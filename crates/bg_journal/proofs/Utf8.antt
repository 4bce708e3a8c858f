-- A text of entries is ASCII.
use Rattle.std.proofs.Common.{◌≡◌, ℕ, ◌<◌, true, List, [], ◌∷◌, refl, ◌∙◌}
use Rattle.std.specs.Prelude.{codes}
use Rattle.std.specs.List.{AllByRecursion, list_all}
use Rattle.std.specs.Str.{IsUtf8}
use Rattle.std.proofs.lemmas.Bool.{and_from, and_parts, ltb-true}
use Rattle.std.proofs.lemmas.List.Elements.{All-from_recursion}
use Rattle.std.proofs.lemmas.List.Folds.{list_all-append}
use Rattle.std.proofs.lemmas.Str.{IsUtf8-from_ascii}
use Rattle.std.proofs.lemmas.Str.Ascii.{IsAscii-from_all}
use Rattle.bg_history.specs.declared.entry.Entry.{Entry}
use Rattle.bg_journal.specs.Texts.{entries_text, entry_text, is_journaled, line_of}
use Rattle.bg_journal.proofs.EntryWords.{is_ascii_byte, line_is_ascii}

text_is_ascii : (entries : List Entry) → list_all is_journaled entries ≡ true → list_all is_ascii_byte (entries_text entries) ≡ true
text_is_ascii [] j = refl
text_is_ascii (e ∷ entries) j =
    let parts = and_parts (is_journaled e) (list_all is_journaled entries) j in
    list_all-append is_ascii_byte (entry_text e) (entries_text entries)
    ∙ and_from _ _ (list_all-append is_ascii_byte (line_of e) (codes "\n") ∙ and_from _ _ (line_is_ascii e parts.0) refl)
    (text_is_ascii entries parts.1)

ascii_bytes : (bytes : List ℕ) → list_all is_ascii_byte bytes ≡ true → AllByRecursion (λ b. b < 128) bytes
ascii_bytes [] e = tt
ascii_bytes (b ∷ bytes) e =
    let parts = and_parts (is_ascii_byte b) (list_all is_ascii_byte bytes) e in
    (ltb-true b 128 parts.0, ascii_bytes bytes parts.1)

pub text_is_utf8 : (entries : List Entry) → list_all is_journaled entries ≡ true → IsUtf8 (entries_text entries)
text_is_utf8 entries j =
    IsUtf8-from_ascii (entries_text entries)
    (IsAscii-from_all (entries_text entries) (All-from_recursion (λ b. b < 128) (entries_text entries) (ascii_bytes (entries_text entries) (text_is_ascii entries j))))
