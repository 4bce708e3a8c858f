-- Lemmas on the first row of a journal.
use Rattle.std.proofs.Common.{◌≡◌, ℕ, ◌≤◌, ◌<◌, ◌++◌, true, List, [], ◌∷◌, length, get_or, refl, sym, ap, ◌∙◌, arith}
use Rattle.std.specs.List.{list_all}
use Rattle.std.proofs.lemmas.List.{append-nil}
use Rattle.bg_history.specs.declared.entry.Entry.{Entry}
use Rattle.bg_history.specs.declared.entry.Entry.TheVariants.{Deploy}
use Rattle.bg_journal.specs.Texts.{entries_text, entry_text, is_journaled}
use Rattle.bg_order_journal.specs.Refusals.{DeployFaultIs, FirstRowFaultIs, NamesNoRevision}
use Rattle.bg_order_journal.specs.declared.start_fault.StartFault.{StartFault}
use Rattle.bg_order_journal.specs.declared.start_fault.StartFault.TheVariants as fault

one_journaled : (e : Entry) → is_journaled e ≡ true → list_all is_journaled (e ∷ []) ≡ true
one_journaled e is = rw is refl

-- no first revision follows the settings, since its entry would have been read
pub unnamed : (settings row rest : List ℕ) → row ≡ settings ++ rest
    → ((e : Entry) (name ports : List ℕ) → e ≡ Deploy 1 name ports → list_all is_journaled (e ∷ []) ≡ true → entries_text (e ∷ []) ≡ rest → ⊥)
    → NamesNoRevision settings row
unnamed settings row rest is none = (
  rest,
  is,
  λ name ports journaled same.
      none (Deploy 1 name ports) name ports refl (one_journaled (Deploy 1 name ports) journaled) (append-nil (entry_text (Deploy 1 name ports)) ∙ sym same),
)

-- none was read, or more than one
pub not_one : (settings row rest : List ℕ) (read : List Entry) → row ≡ settings ++ rest → (length read ≡ 1 → ⊥)
    → ((e : Entry) → list_all is_journaled (e ∷ []) ≡ true → entries_text (e ∷ []) ≡ rest → read ≡ e ∷ []) → NamesNoRevision settings row
not_one settings row rest read is other each =
    unnamed settings row rest is (λ e name ports deploys journaled same. other (ap length (each e journaled same)))

only_one : (read : List Entry) (e : Entry) → 1 ≤ length read → length read < 2 → e ≡ get_or read 0 e → read ≡ e ∷ []
only_one [] e some few is = absurd (omega arith)
only_one (x ∷ []) e some few is = ap (λ y. y ∷ []) (sym is)
only_one (x ∷ y ∷ more) e some few is = absurd (omega arith)

-- the fault of the only entry that was read
pub fault_of_entry : (settings row rest : List ℕ) (read : List Entry) (entry : Entry) (why : StartFault) → row ≡ settings ++ rest
    → 1 ≤ length read → length read < 2 → entry ≡ get_or read 0 entry
    → ((e : Entry) → list_all is_journaled (e ∷ []) ≡ true → entries_text (e ∷ []) ≡ rest → read ≡ e ∷ [])
    → DeployFaultIs entry why → FirstRowFaultIs settings row why
fault_of_entry settings row rest read entry fault.NoFirstRevision is some few first each other =
    unnamed settings row rest is
    (λ e name ports deploys journaled same.
    let one : read ≡ entry ∷ [] = only_one read entry some few first in
    let all : read ≡ e ∷ [] = each e journaled same in
    let alike : entry ∷ [] ≡ e ∷ [] = sym one ∙ all in
    let it : entry ≡ e = cc in
    other name ports (it ∙ deploys))
fault_of_entry settings row rest read entry fault.OutOfMemory is some few first each other = tt
fault_of_entry settings row rest read entry (fault.Journal f) is some few first each other = absurd other
fault_of_entry settings row rest read entry fault.OtherStrategy is some few first each other = absurd other
fault_of_entry settings row rest read entry fault.NoStrategy is some few first each other = absurd other
fault_of_entry settings row rest read entry (fault.BadLine order line) is some few first each other = absurd other
fault_of_entry settings row rest read entry fault.NotNew is some few first each other = absurd other
fault_of_entry settings row rest read entry fault.Changed is some few first each other = absurd other
