-- The sizes of revisions.
use Rattle.std.proofs.Common.{◌≡◌, ◌≤◌, ℕ, Bool, true, false, cond, ◌==◌, nat_le, List, [], ◌∷◌, refl, arith, subst, le_trans}
use Rattle.std.proofs.lemmas.Bool.Decides.{nat_tests}
use Rattle.bg_strategy.specs.declared.strategy.Strategy.{Strategy}
use Rattle.bg_history.specs.declared.entry.Entry.{Entry}
use Rattle.bg_history.specs.declared.entry.Entry.TheVariants.{Deploy, Available, Retry, Outcome}
use Rattle.bg_history.specs.declared.entry.Outcome.TheVariants.{Resumed, ScaledDown}
use Rattle.bg_history.specs.Kept.{Opening}
use Rattle.bg_history.specs.Sizes.{begins, at_least, desired, available}
use Rattle.bg_history.specs.Deadlines.{exists_in}
use Rattle.bg_history.specs.Steps.{all_allowed}
use Rattle.bg_history_laws.proofs.Tests.{and_parts}
use Rattle.bg_history_laws.proofs.Reached.Allowing.{allowed_now, allowed_before}

-- raising a size doesn't make it smaller
pub at_least-more : (b : Bool) (n size : ℕ) → size ≤ at_least b n size
at_least-more true n size = omega arith
at_least-more false n size = omega arith

-- a raised size is at most a bound of both sizes
at_least-most : (b : Bool) (n size most : ℕ) → n ≤ most → size ≤ most → at_least b n size ≤ most
at_least-most true n size most hn hs = omega arith
at_least-most false n size most hn hs = hs

-- a choice of two sizes is at most a bound of both
cond-most : (b : Bool) (n m most : ℕ) → n ≤ most → m ≤ most → cond b n m ≤ most
cond-most true n m most hn hm = hn
cond-most false n m most hn hm = hm

-- no revision wants more than full size
pub desired-most : (s : Strategy) (r : ℕ) (past : List Entry) → desired s r past ≤ s.replicas
desired-most s r [] = cond-most (r == 1) s.replicas 0 s.replicas (omega arith) (omega arith)
desired-most s r (Outcome (ScaledDown q) ∷ before) = cond-most (q == r) 0 (desired s r before) s.replicas (omega arith) (desired-most s r before)
desired-most s r (Outcome (Resumed q) ∷ before) = at_least-most (q == r) s.replicas (desired s r before) s.replicas (omega arith) (desired-most s r before)
desired-most s r (Deploy q name ports ∷ before) =
    at_least-most (begins r (Deploy q name ports) before) s.preview_replicas (desired s r before) s.replicas s.few_previews (desired-most s r before)
desired-most s r (Retry ∷ before) =
    at_least-most (begins r Retry before) s.preview_replicas (desired s r before) s.replicas s.few_previews (desired-most s r before)
desired-most s r (_ ∷ before) = desired-most s r before

-- a report has at most as many endpoints as the revision wants
reported-most : (b : Bool) (q r n a : ℕ) (d : ℕ → ℕ) → (q == r) ≡ b → nat_le n (d q) ≡ true → a ≤ d r → cond b n a ≤ d r
reported-most true q r n a d is h rest = let e : q ≡ r = grind (arith, nat_tests) in subst (λ k. n ≤ d k) e (grind (arith, nat_tests))
reported-most false q r n a d is h rest = rest

-- both sizes of a revision that is scaled down are 0
down-most : (b : Bool) (a d : ℕ) → a ≤ d → cond b 0 a ≤ cond b 0 d
down-most true a d h = omega arith
down-most false a d h = h

-- a revision has at most as many available endpoints as it wants
pub available-most : (s : Strategy) (o : Opening) (r : ℕ) (past : List Entry) → all_allowed s o past ≡ true → available r past ≤ desired s r past
available-most s o r [] h = omega arith
available-most s o r (Available q n ∷ before) h =
    reported-most (q == r) q r n (available r before) (λ k. desired s k before) refl
    (and_parts (exists_in q before) (nat_le n (desired s q before)) (allowed_now s o (Available q n) before h)).1
    (available-most s o r before (allowed_before s o (Available q n) before h))
available-most s o r (Outcome (ScaledDown q) ∷ before) h =
    down-most (q == r) (available r before) (desired s r before) (available-most s o r before (allowed_before s o (Outcome (ScaledDown q)) before h))
available-most s o r (Outcome (Resumed q) ∷ before) h =
    le_trans (available-most s o r before (allowed_before s o (Outcome (Resumed q)) before h)) (at_least-more (q == r) s.replicas (desired s r before))
available-most s o r (Deploy q name ports ∷ before) h =
    le_trans (available-most s o r before (allowed_before s o (Deploy q name ports) before h))
    (at_least-more (begins r (Deploy q name ports) before) s.preview_replicas (desired s r before))
available-most s o r (Retry ∷ before) h =
    le_trans (available-most s o r before (allowed_before s o Retry before h)) (at_least-more (begins r Retry before) s.preview_replicas (desired s r before))
available-most s o r (e ∷ before) h = available-most s o r before (allowed_before s o e before h)
