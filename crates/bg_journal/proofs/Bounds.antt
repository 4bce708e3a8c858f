-- Lemmas on the bounds of request numbers.
use Rattle.std.proofs.Common.{◌≡◌, ℕ, ◌^◌, ◌<◌, List, [], ◌∷◌, Some, None, refl}
use Rattle.bg_history.specs.declared.entry.Entry.{Entry}
use Rattle.bg_history.specs.declared.entry.Entry.TheVariants.{Tick, Deploy, Available, Verdict, Promote, PromoteFull, Abort, Retry, Enter, Leave, Outcome}
use Rattle.bg_history.specs.declared.entry.Outcome.TheVariants.{Ready, Resumed, Switched, Promoted, ScaledDown, Removed}
use Rattle.bg_journal.specs.Bounds.{bound_in, bound_text}
use Rattle.bg_journal.specs.Texts.{entries_text}
use Rattle.bg_journal.proofs.WordNumbers.{number_decimal}

pub bound_is_read : (n : ℕ) → n < 2 ^ 64 → bound_in (bound_text n) ≡ Some n
bound_is_read n small = number_decimal 64 n small small

-- no line of an entry begins as the text of a bound does
pub entries_say_none : (entries : List Entry) → bound_in (entries_text entries) ≡ None
entries_say_none [] = refl
entries_say_none (Tick m ∷ later) = refl
entries_say_none (Deploy r name ports ∷ later) = refl
entries_say_none (Available r n ∷ later) = refl
entries_say_none (Verdict analysis result ∷ later) = refl
entries_say_none (Promote ∷ later) = refl
entries_say_none (PromoteFull ∷ later) = refl
entries_say_none (Abort ∷ later) = refl
entries_say_none (Retry ∷ later) = refl
entries_say_none (Enter seat service number r port ∷ later) = refl
entries_say_none (Leave seat number r ∷ later) = refl
entries_say_none (Outcome (Ready r) ∷ later) = refl
entries_say_none (Outcome (Resumed r) ∷ later) = refl
entries_say_none (Outcome (Switched r) ∷ later) = refl
entries_say_none (Outcome (Promoted r) ∷ later) = refl
entries_say_none (Outcome (ScaledDown r) ∷ later) = refl
entries_say_none (Outcome (Removed r) ∷ later) = refl
