-- The words of the line of an entry.
use Rattle.std.proofs.Common.{◌≡◌, ℕ, ◌^◌, ◌<◌, Bool, true, List, [], ◌∷◌, ◌++◌, map, refl, sym, ap, ◌∙◌, append-nil, append_assoc, arith, flat_map}
use Rattle.std.specs.Prelude.{◌&&◌, ◌==◌, not, nat_lt, nat_le, codes}
use Rattle.std.specs.List.{list_all}
use Rattle.std.specs.Char.{is_ascii_digit}
use Rattle.std.specs.Fmt.{decimal}
use Rattle.std.proofs.lemmas.Bool.{and_from, and_parts, or_cases, ltb-true, leb-true, lt-ltb}
use Rattle.std.proofs.lemmas.Bool.Decides.{nat_tests}
use Rattle.std.proofs.lemmas.List.Folds.{list_all-append}
use Rattle.bg_strategy.specs.Label.{is_label, is_label_byte}
use Rattle.bg_history.specs.declared.entry.Entry.{Entry}
use Rattle.bg_history.specs.declared.entry.Entry.TheVariants.{Tick, Deploy, Available, Verdict, Promote, PromoteFull, Abort, Retry, Enter, Leave, Outcome}
use Rattle.bg_history.specs.declared.entry.Outcome as outcome
use Rattle.bg_history.specs.declared.entry.Outcome.TheVariants.{Ready, Resumed, Switched, Promoted, ScaledDown, Removed}
use Rattle.bg_history.specs.declared.entry.Analysis.TheVariants.{Pre, Post}
use Rattle.bg_history.specs.declared.entry.AnalysisResult.TheVariants.{Successful, Failed, Error}
use Rattle.bg_journal.specs.Texts.{analysis_word, has_line, is_journaled, is_port, line_of, numbers_fit, outcome_line, port_text, ports_text, result_word, revision_in}
use Rattle.bg_journal.specs.Words.{words_of}
use Rattle.bg_journal.proofs.Bytes.{all_weaker, none_is}
use Rattle.bg_journal.proofs.LineWords.{first_word, NoSpace, only_word}
use Rattle.bg_journal.proofs.WordNumbers.{digits_only}

-- a printable byte that is no space
abbrev pub is_graphic : ℕ → Bool
is_graphic byte = nat_lt 32 byte && nat_lt byte 127

-- no byte is a space or a control character
abbrev pub is_word : List ℕ → Bool
is_word bytes = list_all is_graphic bytes

word_has_no_space : (word : List ℕ) → is_word word ≡ true → NoSpace word
word_has_no_space word e = none_is is_graphic 32 refl word e

-- a word, after a space
abbrev pub spaced : List ℕ → List ℕ
spaced word = 32 ∷ word

-- a line of words
abbrev pub spaced_line : List ℕ → List (List ℕ) → List ℕ
spaced_line first words = first ++ flat_map spaced words

-- the words of a line of words are these
pub words_of_spaced : (first : List ℕ) (words : List (List ℕ)) → list_all is_word (first ∷ words) ≡ true
    → words_of (spaced_line first words) ≡ first ∷ words
words_of_spaced first [] e =
    ap words_of (append-nil first) ∙ only_word first (word_has_no_space first (and_parts (is_word first) true e).0)
words_of_spaced first (word ∷ words) e =
    let parts = and_parts (is_word first) (list_all is_word (word ∷ words)) e in
    first_word (spaced_line first (word ∷ words)) first (spaced_line word words) refl (word_has_no_space first parts.0)
    ∙ ap (λ l. first ∷ l) (words_of_spaced word words parts.1)

-- the first word of an entry's line
abbrev pub first_of_outcome : outcome.Outcome → List ℕ
first_of_outcome (Ready r) = codes "ready"
first_of_outcome (Resumed r) = codes "resumed"
first_of_outcome (Switched r) = codes "switched"
first_of_outcome (Promoted r) = codes "promoted"
first_of_outcome (ScaledDown r) = codes "scaled_down"
first_of_outcome (Removed r) = codes "removed"

abbrev pub first_of : Entry → List ℕ
first_of (Tick m) = codes "tick"
first_of (Deploy r name ports) = codes "deploy"
first_of (Available r n) = codes "available"
first_of (Verdict analysis result) = codes "verdict"
first_of Promote = codes "promote"
first_of PromoteFull = codes "promote"
first_of Abort = codes "abort"
first_of Retry = codes "retry"
first_of (Enter seat service number r port) = []
first_of (Leave seat number r) = []
first_of (Outcome x) = first_of_outcome x

-- the words after it
abbrev pub later_of : Entry → List (List ℕ)
later_of (Tick m) = decimal m ∷ []
later_of (Deploy r name ports) = decimal r ∷ name ∷ map decimal ports
later_of (Available r n) = decimal r ∷ decimal n ∷ []
later_of (Verdict analysis result) = analysis_word analysis ∷ result_word result ∷ []
later_of PromoteFull = codes "full" ∷ []
later_of (Outcome x) = decimal (revision_in x) ∷ []
later_of _ = []

spaced_ports : (ports : List ℕ) → ports_text ports ≡ flat_map spaced (map decimal ports)
spaced_ports [] = refl
spaced_ports (p ∷ ports) = ap (λ l. port_text p ++ l) (spaced_ports ports)

one_more : (first word : List ℕ) → first ++ spaced word ≡ spaced_line first (word ∷ [])
one_more first word = ap (λ l. first ++ l) (sym (append-nil (spaced word)))

outcome_spaced : (x : outcome.Outcome) → outcome_line x ≡ spaced_line (first_of_outcome x) (decimal (revision_in x) ∷ [])
outcome_spaced (Ready r) = one_more (codes "ready") (decimal r)
outcome_spaced (Resumed r) = one_more (codes "resumed") (decimal r)
outcome_spaced (Switched r) = one_more (codes "switched") (decimal r)
outcome_spaced (Promoted r) = one_more (codes "promoted") (decimal r)
outcome_spaced (ScaledDown r) = one_more (codes "scaled_down") (decimal r)
outcome_spaced (Removed r) = one_more (codes "removed") (decimal r)

-- three words
three : (first second third : List ℕ) (rest : List ℕ)
    → ((first ++ (32 ∷ second)) ++ (32 ∷ [])) ++ third ++ rest ≡ first ++ ((32 ∷ second) ++ ((32 ∷ third) ++ rest))
three first second third rest =
    simp append_assoc refl

-- a line is that of its words
pub line_spaced : (e : Entry) → has_line e ≡ true → line_of e ≡ spaced_line (first_of e) (later_of e)
line_spaced (Tick m) h = one_more (codes "tick") (decimal m)
line_spaced (Deploy r name ports) h =
    ap (λ l. codes "deploy " ++ decimal r ++ codes " " ++ name ++ l) (spaced_ports ports)
    ∙ three (codes "deploy") (decimal r) name (flat_map spaced (map decimal ports))
line_spaced (Available r n) h =
    sym (append-nil (codes "available " ++ decimal r ++ codes " " ++ decimal n)) ∙ three (codes "available") (decimal r) (decimal n) []
line_spaced (Verdict Pre Successful) h = refl
line_spaced (Verdict Pre Failed) h = refl
line_spaced (Verdict Pre Error) h = refl
line_spaced (Verdict Post Successful) h = refl
line_spaced (Verdict Post Failed) h = refl
line_spaced (Verdict Post Error) h = refl
line_spaced Promote h = refl
line_spaced PromoteFull h = refl
line_spaced Abort h = refl
line_spaced Retry h = refl
line_spaced (Enter seat service number r port) h = refl
line_spaced (Leave seat number r) h = refl
line_spaced (Outcome x) h = outcome_spaced x

digit_is_graphic : (byte : ℕ) → is_ascii_digit byte ≡ true → is_graphic byte ≡ true
digit_is_graphic byte e = grind (arith, nat_tests, and_parts)

label_byte_is_graphic : (byte : ℕ) → is_label_byte byte ≡ true → is_graphic byte ≡ true
label_byte_is_graphic byte e = grind (arith, nat_tests, and_parts, or_cases)

decimal_is_word : (n : ℕ) → nat_lt n (2 ^ 64) ≡ true → is_word (decimal n) ≡ true
decimal_is_word n small =
    all_weaker is_ascii_digit is_graphic digit_is_graphic (decimal n) (digits_only n (ltb-true n (2 ^ 64) small))

label_is_word : (name : List ℕ) → is_label name ≡ true → is_word name ≡ true
label_is_word name e =
    let parts = and_parts _ _ (and_parts _ _ (and_parts _ _ e).1).1 in
    all_weaker is_label_byte is_graphic label_byte_is_graphic name parts.0

port_is_small : (p : ℕ) → is_port p ≡ true → p < 2 ^ 16
port_is_small p e = omega (arith, leb-true p 65535 (and_parts (nat_le 1 p) (nat_le p 65535) e).1)

ports_are_words : (ports : List ℕ) → list_all is_port ports ≡ true → list_all is_word (map decimal ports) ≡ true
ports_are_words [] e = refl
ports_are_words (p ∷ ports) e =
    let parts = and_parts (is_port p) (list_all is_port ports) e in
    let small : p < 2 ^ 64 = omega (arith, port_is_small p parts.0) in
    and_from _ _ (decimal_is_word p (lt-ltb p (2 ^ 64) small)) (ports_are_words ports parts.1)

outcome_words : (x : outcome.Outcome) → nat_lt (revision_in x) (2 ^ 64) ≡ true
    → list_all is_word (first_of_outcome x ∷ decimal (revision_in x) ∷ []) ≡ true
outcome_words (Ready r) fits = and_from (is_word (decimal r)) true (decimal_is_word r fits) refl
outcome_words (Resumed r) fits = and_from (is_word (decimal r)) true (decimal_is_word r fits) refl
outcome_words (Switched r) fits = and_from (is_word (decimal r)) true (decimal_is_word r fits) refl
outcome_words (Promoted r) fits = and_from (is_word (decimal r)) true (decimal_is_word r fits) refl
outcome_words (ScaledDown r) fits = and_from (is_word (decimal r)) true (decimal_is_word r fits) refl
outcome_words (Removed r) fits = and_from (is_word (decimal r)) true (decimal_is_word r fits) refl

-- they have no space and no control character
words_are_words : (e : Entry) → has_line e ≡ true → numbers_fit e ≡ true → list_all is_word (first_of e ∷ later_of e) ≡ true
words_are_words (Tick m) h fits = and_from (is_word (decimal m)) true (decimal_is_word m fits) refl
words_are_words (Deploy r name ports) h fits =
    let parts = and_parts (is_label name) (list_all is_port ports) h in
    and_from _ _ (decimal_is_word r fits) (and_from _ _ (label_is_word name parts.0) (ports_are_words ports parts.1))
words_are_words (Available r n) h fits =
    let parts = and_parts (nat_lt r (2 ^ 64)) (nat_lt n (2 ^ 32)) fits in
    let small : n < 2 ^ 64 = omega (arith, ltb-true n (2 ^ 32) parts.1) in
    and_from _ _ (decimal_is_word r parts.0) (and_from (is_word (decimal n)) true (decimal_is_word n (lt-ltb n (2 ^ 64) small)) refl)
words_are_words (Verdict Pre Successful) h fits = refl
words_are_words (Verdict Pre Failed) h fits = refl
words_are_words (Verdict Pre Error) h fits = refl
words_are_words (Verdict Post Successful) h fits = refl
words_are_words (Verdict Post Failed) h fits = refl
words_are_words (Verdict Post Error) h fits = refl
words_are_words Promote h fits = refl
words_are_words PromoteFull h fits = refl
words_are_words Abort h fits = refl
words_are_words Retry h fits = refl
words_are_words (Enter seat service number r port) h fits = refl
words_are_words (Leave seat number r) h fits = refl
words_are_words (Outcome x) h fits = outcome_words x fits

-- the words of an entry's line
pub words_of_line : (e : Entry) → is_journaled e ≡ true → words_of (line_of e) ≡ first_of e ∷ later_of e
words_of_line e j =
    let parts = and_parts (has_line e) (numbers_fit e) j in
    ap words_of (line_spaced e parts.0) ∙ words_of_spaced (first_of e) (later_of e) (words_are_words e parts.0 parts.1)

-- the bytes of words, and spaces between them
spaced_pass : (p : ℕ → Bool) → ((byte : ℕ) → is_graphic byte ≡ true → p byte ≡ true) → p 32 ≡ true
    → (words : List (List ℕ)) → list_all is_word words ≡ true → list_all p (flat_map spaced words) ≡ true
spaced_pass p graphic space [] e = refl
spaced_pass p graphic space (word ∷ words) e =
    let parts = and_parts (is_word word) (list_all is_word words) e in
    and_from (p 32) (list_all p (word ++ flat_map spaced words)) space
    (list_all-append p word (flat_map spaced words)
    ∙ and_from _ _ (all_weaker is_graphic p graphic word parts.0) (spaced_pass p graphic space words parts.1))

-- each byte of an entry's line is a space or passes what graphic bytes pass
line_passes : (p : ℕ → Bool) → ((byte : ℕ) → is_graphic byte ≡ true → p byte ≡ true) → p 32 ≡ true
    → (e : Entry) → is_journaled e ≡ true → list_all p (line_of e) ≡ true
line_passes p graphic space e j =
    let parts = and_parts (has_line e) (numbers_fit e) j in
    let words = and_parts (is_word (first_of e)) (list_all is_word (later_of e)) (words_are_words e parts.0 parts.1) in
    ap (list_all p) (line_spaced e parts.0)
    ∙ list_all-append p (first_of e) (flat_map spaced (later_of e))
    ∙ and_from _ _ (all_weaker is_graphic p graphic (first_of e) words.0) (spaced_pass p graphic space (later_of e) words.1)

-- a byte that does not end a line
abbrev pub is_in_line : ℕ → Bool
is_in_line byte = not (byte == 10)

graphic_is_in_line : (byte : ℕ) → is_graphic byte ≡ true → is_in_line byte ≡ true
graphic_is_in_line byte e = grind (arith, nat_tests, and_parts)

-- an entry's line has no line break
pub line_is_in_line : (e : Entry) → is_journaled e ≡ true → list_all is_in_line (line_of e) ≡ true
line_is_in_line e j = line_passes is_in_line graphic_is_in_line refl e j

abbrev pub is_ascii_byte : ℕ → Bool
is_ascii_byte byte = nat_lt byte 128

graphic_is_ascii : (byte : ℕ) → is_graphic byte ≡ true → is_ascii_byte byte ≡ true
graphic_is_ascii byte e = grind (arith, nat_tests, and_parts)

-- an entry's line is ASCII
pub line_is_ascii : (e : Entry) → is_journaled e ≡ true → list_all is_ascii_byte (line_of e) ≡ true
line_is_ascii e j = line_passes is_ascii_byte graphic_is_ascii refl e j
