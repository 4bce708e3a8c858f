-- A past without the entries of some requests.
use Rattle.std.proofs.Common.{◌≡◌, ℕ, Bool, true, false, not, cond, ◌==◌, List, [], ◌∷◌, ◌++◌, filter, refl, arith, ap, sym, ◌∙◌}
use Rattle.std.proofs.lemmas.Bool.Decides.{nat_tests}
use Rattle.std.proofs.lemmas.List.Elements.{filter-append}
use Rattle.bg_history.specs.declared.entry.Entry.{Entry}
use Rattle.bg_history.specs.declared.entry.Entry.TheVariants.{Tick, Enter, Leave}
use Rattle.bg_strategy.specs.declared.strategy.Strategy.{Strategy}
use Rattle.bg_history.specs.Kept.{Opening}
use Rattle.bg_history.specs.AttemptBounds.{moment}
use Rattle.bg_history.specs.Requests.{Request, open_requests}
use Rattle.bg_history.specs.Compacted.{without}
use Rattle.bg_history_laws.specs.Alike.{Alike}
use Rattle.bg_history_laws.proofs.Compacted.Alike.{alike_itself, alike_then, alike_both, alike_quiet}
use Rattle.bg_history_laws.proofs.Lists.{filter-swap}

pub without-moment : (gone : ℕ → Bool) (past : List Entry) → moment past ≡ moment (without gone past)
without-moment gone [] = refl
without-moment gone (Tick m ∷ before) = refl
without-moment gone (Enter seat service number r port ∷ before) = go (gone number) (without-moment gone before) where
  go : (b : Bool) → moment before ≡ moment (without gone before) → moment before ≡ moment (cond (not b) (Enter seat service number r port ∷ without gone before) (without gone before))
  go true h = h
  go false h = h
without-moment gone (Leave seat number r ∷ before) = go (gone number) (without-moment gone before) where
  go : (b : Bool) → moment before ≡ moment (without gone before) → moment before ≡ moment (cond (not b) (Leave seat number r ∷ without gone before) (without gone before))
  go true h = h
  go false h = h
without-moment gone (e ∷ before) = without-moment gone before

pub without-alike : (s : Strategy) (o : Opening) (gone : ℕ → Bool) (past : List Entry) → Alike s o past (without gone past)
without-alike s o gone [] = alike_itself s o []
without-alike s o gone (Tick m ∷ before) = alike_both (Tick m) (without-alike s o gone before) (without-moment gone before) refl
without-alike s o gone (Enter seat service number r port ∷ before) = go (gone number) (without-alike s o gone before) (without-moment gone before) where
  go : (b : Bool) → Alike s o before (without gone before) → moment before ≡ moment (without gone before)
      → Alike s o (Enter seat service number r port ∷ before) (cond (not b) (Enter seat service number r port ∷ without gone before) (without gone before))
  go true h was = alike_then (alike_quiet s o (Enter seat service number r port) before refl) h
  go false h was = alike_both (Enter seat service number r port) h was was
without-alike s o gone (Leave seat number r ∷ before) = go (gone number) (without-alike s o gone before) (without-moment gone before) where
  go : (b : Bool) → Alike s o before (without gone before) → moment before ≡ moment (without gone before)
      → Alike s o (Leave seat number r ∷ before) (cond (not b) (Leave seat number r ∷ without gone before) (without gone before))
  go true h was = alike_then (alike_quiet s o (Leave seat number r) before refl) h
  go false h was = alike_both (Leave seat number r) h was was
without-alike s o gone (e ∷ before) = alike_both e (without-alike s o gone before) (without-moment gone before) (without-moment gone before)

-- after a filter that drops more, an earlier filter has no effect
pub filter-absorb : {X : Type 0} (p k : X → Bool) → ((x : X) → k x ≡ true → p x ≡ true) → (xs : List X) → filter k (filter p xs) ≡ filter k xs
filter-absorb p k more [] = refl
filter-absorb p k more (x ∷ xs) = go (p x) (k x) refl refl (filter-absorb p k more xs) where
  go : (b c : Bool) → p x ≡ b → k x ≡ c → filter k (filter p xs) ≡ filter k xs → filter k (cond b (x ∷ filter p xs) (filter p xs)) ≡ cond c (x ∷ filter k xs) (filter k xs)
  go true true hp hk h = rw hk (ap (λ ys. x ∷ ys) h)
  go true false hp hk h = rw hk h
  go false true hp hk h = let e : p x ≡ true = more x hk in absurd (cc)
  go false false hp hk h = h

drop-number : (gone : ℕ → Bool) (number : ℕ) → gone number ≡ true → (q : Request) → not (gone q.number) ≡ true → not (q.number == number) ≡ true
drop-number gone number h q k = by-test (q.number == number) refl where
  by-test : (b : Bool) → (q.number == number) ≡ b → not b ≡ true
  by-test true is =
      let e : q.number ≡ number = grind (arith, nat_tests) in
      let g : gone q.number ≡ true = ap gone e ∙ h in
      absurd (cc)
  by-test false is = refl

append-none : (xs : List Request) → xs ++ [] ≡ xs
append-none [] = refl
append-none (x ∷ xs) = ap (λ ys. x ∷ ys) (append-none xs)

-- the open requests are the earlier ones, except those
pub without-open : (gone : ℕ → Bool) (past : List Entry) → open_requests (without gone past) ≡ filter (λ q. not (gone q.number)) (open_requests past)
without-open gone [] = refl
without-open gone (Enter seat service number r port ∷ before) =
    go (gone number) (without-open gone before)
    ∙ sym (filter-append (λ q. not (gone q.number)) (open_requests before) (record { seat = seat; number = number; revision = r; port = port } ∷ [])) where
      new : Request
      new = record { seat = seat; number = number; revision = r; port = port }

      go : (b : Bool) → open_requests (without gone before) ≡ filter (λ q. not (gone q.number)) (open_requests before)
          → open_requests (cond (not b) (Enter seat service number r port ∷ without gone before) (without gone before))
          ≡ filter (λ q. not (gone q.number)) (open_requests before) ++ cond (not b) (record { seat = seat; number = number; revision = r; port = port } ∷ []) []
      go true h = h ∙ sym (append-none (filter (λ q. not (gone q.number)) (open_requests before)))
      go false h = ap (λ xs. xs ++ record { seat = seat; number = number; revision = r; port = port } ∷ []) h
without-open gone (Leave seat number r ∷ before) = go (gone number) refl (without-open gone before) where
  go : (b : Bool) → gone number ≡ b → open_requests (without gone before) ≡ filter (λ q. not (gone q.number)) (open_requests before)
      → open_requests (cond (not b) (Leave seat number r ∷ without gone before) (without gone before))
      ≡ filter (λ q. not (gone q.number)) (filter (λ q. not (q.number == number)) (open_requests before))
  go true is h = h ∙ sym (filter-absorb (λ q. not (q.number == number)) (λ q. not (gone q.number)) (drop-number gone number is) (open_requests before))
  go false is h = ap (filter (λ q. not (q.number == number))) h ∙ filter-swap (λ q. not (q.number == number)) (λ q. not (gone q.number)) (open_requests before)
without-open gone (e ∷ before) = without-open gone before
