-- The statuses of refusals, one at a time.
use Rattle.std.proofs.Common.{◌≡◌, ℕ, ◌+◌, Bool, true, false, ◌==◌, ◌||◌, length, refl, subst, sym, IsTrue}
use Rattle.std.specs.Fmt.{digits}
use Rattle.std.proofs.lemmas.Bool.{eqb-true}
use Rattle.bg_http.specs.ErrorPages.{title_of}
use Rattle.bg_http.specs.Statuses.{is_refusal}
use Rattle.bg_http.specs.Texts.{reason_of}

-- what holds of each status of a refusal
by_status : (P : ℕ → Type 0) → P 400 → P 413 → P 431 → P 501 → P 502 → P 503 → (status : ℕ)
    → IsTrue (is_refusal status) → P status
by_status P bad large many undone gateway away status refuses =
    by_tests (status == 400) refl (status == 413) refl (status == 431) refl (status == 501) refl (status == 502) refl (status == 503) refl refuses
  where
    at : (code : ℕ) → (status == code) ≡ true → P code → P status
    at code e h = subst P (sym (eqb-true status code e)) h

    by_tests : (a : Bool) → (status == 400) ≡ a → (b : Bool) → (status == 413) ≡ b → (c : Bool) → (status == 431) ≡ c
        → (d : Bool) → (status == 501) ≡ d → (e : Bool) → (status == 502) ≡ e → (f : Bool) → (status == 503) ≡ f
        → (a || b || c || d || e || f) ≡ true → P status
    by_tests true ia b ib c ic d id e ie f ig some = at 400 ia bad
    by_tests false ia true ib c ic d id e ie f ig some = at 413 ib large
    by_tests false ia false ib true ic d id e ie f ig some = at 431 ic many
    by_tests false ia false ib false ic true id e ie f ig some = at 501 id undone
    by_tests false ia false ib false ic false id true ie f ig some = at 502 ie gateway
    by_tests false ia false ib false ic false id false ie true ig some = at 503 ig away
    by_tests false ia false ib false ic false id false ie false ig some = cc

-- a status has three digits, and a space is behind it
pub titled : (status : ℕ) → IsTrue (is_refusal status) → 4 + length (reason_of status) ≡ length (title_of status)
unfolding digits
titled = by_status (λ status. 4 + length (reason_of status) ≡ length (title_of status)) refl refl refl refl refl refl
