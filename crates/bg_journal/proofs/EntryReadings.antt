-- The line of an entry is read as this entry.
use Rattle.std.proofs.Common.{◌≡◌, ℕ, ◌^◌, ◌<◌, true, List, [], ◌∷◌, map, Option, Some, refl, sym, ap, ◌∙◌, arith}
use Rattle.std.specs.Prelude.{nat_lt, nat_le}
use Rattle.std.specs.List.{list_all}
use Rattle.std.specs.Fmt.{decimal}
use Rattle.std.specs.Str.Parse.{digits_value}
use Rattle.std.proofs.lemmas.Bool.{and_from, and_parts, cond-true, ltb-true, leb-true}
use Rattle.bg_strategy.specs.Label.{is_label}
use Rattle.bg_history.specs.declared.entry.Entry.{Entry}
use Rattle.bg_history.specs.declared.entry.Entry.TheVariants.{Tick, Deploy, Available, Verdict, Promote, PromoteFull, Abort, Retry, Enter, Leave, Outcome}
use Rattle.bg_history.specs.declared.entry.Outcome as outcome
use Rattle.bg_history.specs.declared.entry.Outcome.TheVariants.{Ready, Resumed, Switched, Promoted, ScaledDown, Removed}
use Rattle.bg_history.specs.declared.entry.Analysis.TheVariants.{Pre, Post}
use Rattle.bg_history.specs.declared.entry.AnalysisResult.TheVariants.{Successful, Failed, Error}
use Rattle.bg_journal.specs.Texts.{has_line, is_journaled, is_port, line_of, numbers_fit, revision_in}
use Rattle.bg_journal.specs.Words.{is_number, number_in, words_of}
use Rattle.bg_journal.specs.Readings.{ports_in, reading}
use Rattle.bg_journal.proofs.EntryWords.{first_of, first_of_outcome, later_of, words_of_line}
use Rattle.bg_journal.proofs.WordNumbers.{is_number_decimal, number_decimal, value_of_digits}

-- the digits of a number below 2 ^ 64 are read as the number
long_read : (n : ℕ) → nat_lt n (2 ^ 64) ≡ true → number_in 64 (decimal n) ≡ Some n
long_read n fits = let small = ltb-true n (2 ^ 64) fits in number_decimal 64 n small small

port_bound : (p : ℕ) → is_port p ≡ true → p < 2 ^ 16
port_bound p e = omega (arith, leb-true p 65535 (and_parts (nat_le 1 p) (nat_le p 65535) e).1)

ports_are_numbers : (ports : List ℕ) → list_all is_port ports ≡ true → list_all (is_number 16) (map decimal ports) ≡ true
ports_are_numbers [] e = refl
ports_are_numbers (p ∷ ports) e =
    let parts = and_parts (is_port p) (list_all is_port ports) e in
    let small = port_bound p parts.0 in
    and_from _ _ (is_number_decimal 16 p small (omega (arith, small))) (ports_are_numbers ports parts.1)

values_of_ports : (ports : List ℕ) → list_all is_port ports ≡ true → map (digits_value 10) (map decimal ports) ≡ ports
values_of_ports [] e = refl
values_of_ports (p ∷ ports) e =
    let parts = and_parts (is_port p) (list_all is_port ports) e in
    let small : p < 2 ^ 64 = omega (arith, port_bound p parts.0) in
    rw (value_of_digits p small, values_of_ports ports parts.1) refl

ports_read : (ports : List ℕ) → list_all is_port ports ≡ true → ports_in (map decimal ports) ≡ Some ports
ports_read ports e =
    cond-true _ _ _ (ports_are_numbers ports e) ∙ ap Some (values_of_ports ports e)

outcome_read : (x : outcome.Outcome) → nat_lt (revision_in x) (2 ^ 64) ≡ true
    → reading (first_of_outcome x ∷ decimal (revision_in x) ∷ []) ≡ Some (Outcome x)
outcome_read (Ready r) fits = rw (long_read r fits) refl
outcome_read (Resumed r) fits = rw (long_read r fits) refl
outcome_read (Switched r) fits = rw (long_read r fits) refl
outcome_read (Promoted r) fits = rw (long_read r fits) refl
outcome_read (ScaledDown r) fits = rw (long_read r fits) refl
outcome_read (Removed r) fits = rw (long_read r fits) refl

-- the words of an entry's line are read as the entry
words_read : (e : Entry) → has_line e ≡ true → numbers_fit e ≡ true → reading (first_of e ∷ later_of e) ≡ Some e
words_read (Tick m) h fits = rw (long_read m fits) refl
words_read (Deploy r name ports) h fits =
    let parts = and_parts (is_label name) (list_all is_port ports) h in
    rw (long_read r fits, ports_read ports parts.1) refl
words_read (Available r n) h fits =
    let parts = and_parts (nat_lt r (2 ^ 64)) (nat_lt n (2 ^ 32)) fits in
    let small = ltb-true n (2 ^ 32) parts.1 in
    rw (long_read r parts.0, number_decimal 32 n small (omega (arith, small))) refl
words_read (Verdict Pre Successful) h fits = refl
words_read (Verdict Pre Failed) h fits = refl
words_read (Verdict Pre Error) h fits = refl
words_read (Verdict Post Successful) h fits = refl
words_read (Verdict Post Failed) h fits = refl
words_read (Verdict Post Error) h fits = refl
words_read Promote h fits = refl
words_read PromoteFull h fits = refl
words_read Abort h fits = refl
words_read Retry h fits = refl
words_read (Enter seat service number r port) h fits = cc
words_read (Leave seat number r) h fits = cc
words_read (Outcome x) h fits = outcome_read x fits

-- what an entry's line means
pub line_read : (e : Entry) → is_journaled e ≡ true → reading (words_of (line_of e)) ≡ Some e
line_read e j =
    let parts = and_parts (has_line e) (numbers_fit e) j in
    ap reading (words_of_line e j) ∙ words_read e parts.0 parts.1

-- a line is read as each entry whose line it is
pub read_as : (e : Entry) (line : List ℕ) (found : Option Entry) → found ≡ reading (words_of line) → is_journaled e ≡ true
    → line_of e ≡ line → found ≡ Some e
read_as e line found is j same = is ∙ ap (λ l. reading (words_of l)) (sym same) ∙ line_read e j
