-- The effect of an entry on the revisions of a past.
use Rattle.std.proofs.Common.{◌≡◌, ◌<◌, ◌≤◌, ℕ, Bool, true, false, not, max, cond, ◌==◌, ◌&&◌, List, [], ◌∷◌, ◌++◌, map, filter, Option, Some, None, refl, arith, ◌∙◌, ap, inl, inr}
use Rattle.std.proofs.Math.Nat.{max-zero}
use Rattle.std.proofs.lemmas.Bool.Decides.{nat_tests, eqb_tells}
use Rattle.bg_strategy.specs.declared.strategy.Strategy.{Strategy}
use Rattle.bg_revisions.specs.declared.revision.Revision.{Revision}
use Rattle.bg_revisions.specs.Rosters.{resized, reported}
use Rattle.bg_history.specs.declared.entry.Entry.{Entry}
use Rattle.bg_history.specs.declared.entry.Entry.TheVariants.{Deploy, Available, Retry, Outcome}
use Rattle.bg_history.specs.declared.entry.Outcome.TheVariants.{Resumed, ScaledDown, Removed}
use Rattle.bg_history.specs.Kept.{Opening, Template}
use Rattle.bg_history.specs.AttemptBounds.{stable_of, newest_of}
use Rattle.bg_history.specs.Sizes.{existing, last_number, at_least, desired, available, Ascends}
use Rattle.bg_history.specs.Deadlines.{exists_in}
use Rattle.bg_history.specs.Templates.{template}
use Rattle.bg_history_laws.specs.Listed.{sized, revision_of, revisions_of}
use Rattle.bg_history_laws.specs.Changes.{resizes_none}
use Rattle.bg_history_laws.proofs.Listed.Members.{existing-upto, put-there, put-end}
use Rattle.bg_history_laws.proofs.Listed.Templates.{template-there, template-undeployed, template-other, template-kept}
use Rattle.bg_history_laws.proofs.Listed.Mapped.{map-map, map-same, map-upto, map-end, map-filter}

-- a revision has its number, regardless of its template
pub sized-number : (r desired_size there : ℕ) (t : Option Template) → (sized r desired_size there t).number ≡ r
sized-number r desired_size there None = refl
sized-number r desired_size there (Some t) = refl

-- revision q with another available size, and the others unchanged
sized-reported : (q n r desired_size there : ℕ) (t : Option Template) → sized r desired_size (cond (q == r) n there) t ≡ reported q n (sized r desired_size there t)
sized-reported q n r desired_size there None = grind (arith, nat_tests)
sized-reported q n r desired_size there (Some t) = grind (arith, nat_tests)

-- the same with another desired_size size, which isn't 0
sized-resized : (q n r desired_size there : ℕ) (t : Option Template) → (n == 0) ≡ false → sized r (cond (r == q) n desired_size) there t ≡ resized q n (sized r desired_size there t)
sized-resized q n r desired_size there None some = grind (arith, nat_tests)
sized-resized q n r desired_size there (Some t) some = grind (arith, nat_tests)

-- the same with the desired_size size 0, and so no available endpoint
sized-emptied : (q r desired_size there : ℕ) (t : Option Template) → sized r (cond (q == r) 0 desired_size) (cond (q == r) 0 there) t ≡ resized q 0 (sized r desired_size there t)
sized-emptied q r desired_size there None = grind (arith, nat_tests)
sized-emptied q r desired_size there (Some t) = grind (arith, nat_tests)

-- q wants at least a size; the test says which revision is q
raised : (s : Strategy) (past : List Entry) (test : Bool) (q r least : ℕ) → test ≡ (r == q) → at_least test least (desired s r past) ≡ cond (r == q) (max least (desired s q past)) (desired s r past)
raised s past test q r least is = elim (eqb_tells r q) [
  | inl h ↦ rw (is, h.0, h.1) refl
  | inr h ↦ rw (is, h.0) refl
]

-- the greater of two sizes isn't 0 if one of them isn't
max-some : (least size : ℕ) → 1 ≤ least → (max least size == 0) ≡ false
max-some least size some = grind (arith, nat_tests)

-- so revision q wants the greater of the two sizes, and the others are unchanged
raised-resized : (s : Strategy) (past : List Entry) (test : Bool) (q r least there : ℕ) (t : Option Template) → 1 ≤ least → test ≡ (r == q)
    → sized r (at_least test least (desired s r past)) there t ≡ resized q (max least (desired s q past)) (sized r (desired s r past) there t)
raised-resized s past test q r least there t some is =
    ap (λ n. sized r n there t) (raised s past test q r least is)
    ∙ sized-resized q (max least (desired s q past)) r (desired s r past) there t (max-some least (desired s q past) some)

-- the test for one number, in both directions
eqb-swap : (a b : ℕ) → (a == b) ≡ (b == a)
eqb-swap a b = grind (arith, nat_tests)

-- a report sets the available endpoints
pub listed-available : (s : Strategy) (o : Opening) (past : List Entry) (r n : ℕ) → revisions_of s o (Available r n ∷ past) ≡ map (reported r n) (revisions_of s o past)
listed-available s o past r n = map-map _ (revision_of s o past) (reported r n) (existing past)
    (λ q. sized-reported r n q (desired s q past) (available q past) (template o q past))

-- after a retry, the newest revision wants the preview's size
pub listed-retry : (s : Strategy) (o : Opening) (past : List Entry) → revisions_of s o (Retry ∷ past)
    ≡ map (resized (newest_of past) (max s.preview_replicas (desired s (newest_of past) past))) (revisions_of s o past)
listed-retry s o past = map-map _ (revision_of s o past) (resized (newest_of past) (max s.preview_replicas (desired s (newest_of past) past))) (existing past)
    (λ q. raised-resized s past (q == newest_of past) (newest_of past) q s.preview_replicas (available q past) (template o q past) s.some_preview refl)

-- after the end of the pause, the revision wants full size
pub listed-resumed : (s : Strategy) (o : Opening) (past : List Entry) (q : ℕ) → revisions_of s o (Outcome (Resumed q) ∷ past)
    ≡ map (resized q (max s.replicas (desired s q past))) (revisions_of s o past)
listed-resumed s o past q = map-map _ (revision_of s o past) (resized q (max s.replicas (desired s q past))) (existing past)
    (λ r. raised-resized s past (q == r) q r s.replicas (available r past) (template o r past) s.some_replica (eqb-swap q r))

-- after a scale-down, the revision wants no endpoint
pub listed-scaled_down : (s : Strategy) (o : Opening) (past : List Entry) (q : ℕ) → revisions_of s o (Outcome (ScaledDown q) ∷ past)
    ≡ map (resized q 0) (revisions_of s o past)
listed-scaled_down s o past q = map-map _ (revision_of s o past) (resized q 0) (existing past)
    (λ r. sized-emptied q r (desired s r past) (available r past) (template o r past))

-- the deploy of an existing revision adds no revision
listed-there : (s : Strategy) (o : Opening) (past : List Entry) (r : ℕ) (name ports : List ℕ) → Ascends (existing past) → exists_in r past ≡ true
    → revisions_of s o (Deploy r name ports ∷ past) ≡ map (revision_of s o (Deploy r name ports ∷ past)) (existing past)
listed-there s o past r name ports ascends within =
    ap (map (revision_of s o (Deploy r name ports ∷ past))) (put-there r (existing past) ascends within)

-- a deploy of r begins only an attempt of r, if r isn't stable
begins-own : (r q stable : ℕ) → (r == stable) ≡ false → ((r == q) && not (q == stable)) ≡ (q == r)
begins-own r q stable other = grind (arith, nat_tests)

-- it begins no attempt if r is stable
begins-none : (r q stable : ℕ) → (r == stable) ≡ true → ((r == q) && not (q == stable)) ≡ false
begins-none r q stable same = grind (arith, nat_tests)

-- after the deploy of an existing revision that isn't stable, the revision wants the preview's size
pub listed-deploy : (s : Strategy) (o : Opening) (past : List Entry) (r : ℕ) (name ports : List ℕ) → Ascends (existing past)
    → exists_in r past ≡ true → (r == stable_of past) ≡ false
    → revisions_of s o (Deploy r name ports ∷ past) ≡ map (resized r (max s.preview_replicas (desired s r past))) (revisions_of s o past)
listed-deploy s o past r name ports ascends within other =
    listed-there s o past r name ports ascends within
    ∙ map-map _ (revision_of s o past) (resized r (max s.preview_replicas (desired s r past))) (existing past) (λ q.
    ap (sized q (desired s q (Deploy r name ports ∷ past)) (available q past)) (template-kept o q r name ports past (template-there o r past within))
    ∙ raised-resized s past ((r == q) && not (q == stable_of past)) r q s.preview_replicas (available q past) (template o q past) s.some_preview
    (begins-own r q (stable_of past) other))

-- the deploy of the stable revision changes nothing
pub listed-deploy_stable : (s : Strategy) (o : Opening) (past : List Entry) (r : ℕ) (name ports : List ℕ) → Ascends (existing past)
    → exists_in r past ≡ true → (r == stable_of past) ≡ true
    → revisions_of s o (Deploy r name ports ∷ past) ≡ revisions_of s o past
listed-deploy_stable s o past r name ports ascends within same =
    listed-there s o past r name ports ascends within
    ∙ map-same _ (revision_of s o past) (existing past) (λ q.
    ap (sized q (desired s q (Deploy r name ports ∷ past)) (available q past)) (template-kept o q r name ports past (template-there o r past within))
    ∙ ap (λ b. sized q (at_least b s.preview_replicas (desired s q past)) (available q past) (template o q past)) (begins-none r q (stable_of past) same))

-- a deploy leaves each other revision
deploy-other : (s : Strategy) (o : Opening) (past : List Entry) (r q : ℕ) (name ports : List ℕ) → (r == q) ≡ false
    → revision_of s o (Deploy r name ports ∷ past) q ≡ revision_of s o past q
deploy-other s o past r q name ports other =
    ap (sized q (desired s q (Deploy r name ports ∷ past)) (available q past)) (template-other o q r name ports past other)
    ∙ ap (λ b. sized q (at_least (b && not (q == stable_of past)) s.preview_replicas (desired s q past)) (available q past) (template o q past)) other

-- a new revision has the preview's size
deploy-own : (s : Strategy) (o : Opening) (past : List Entry) (r : ℕ) (name ports : List ℕ) → last_number past < r → (r == stable_of past) ≡ false
    → desired s r past ≡ 0 → available r past ≡ 0
    → revision_of s o (Deploy r name ports ∷ past) r ≡ record { number = r; name = name; ports = ports; desired = s.preview_replicas; available = 0 }
deploy-own s o past r name ports above other none there =
    let own : (r == r) ≡ true = grind (arith, nat_tests) in
    rw (template-undeployed o r past above, own, other, none, there, max-zero) refl

-- the deploy of a new one puts it at the end
pub listed-new : (s : Strategy) (o : Opening) (past : List Entry) (r : ℕ) (name ports : List ℕ) → last_number past < r → (r == stable_of past) ≡ false
    → desired s r past ≡ 0 → available r past ≡ 0
    → revisions_of s o (Deploy r name ports ∷ past) ≡ revisions_of s o past ++ record { number = r; name = name; ports = ports; desired = s.preview_replicas; available = 0 } ∷ []
listed-new s o past r name ports above other none there =
    let f : ℕ → Revision = revision_of s o (Deploy r name ports ∷ past) in
    ap (map f) (put-end (last_number past) r (existing past) above (existing-upto past))
    ∙ map-end f r (existing past)
    ∙ ap (λ v. map f (existing past) ++ v ∷ []) (deploy-own s o past r name ports above other none there)
    ∙ ap (λ vs. vs ++ record { number = r; name = name; ports = ports; desired = s.preview_replicas; available = 0 } ∷ [])
    (map-upto (last_number past) f (revision_of s o past) (existing past) (existing-upto past)
    (λ q le. deploy-other s o past r q name ports (grind (arith, nat_tests))))

-- what is removed is left out
pub listed-removed : (s : Strategy) (o : Opening) (past : List Entry) (r : ℕ) → revisions_of s o (Outcome (Removed r) ∷ past)
    ≡ filter (λ v. not (v.number == r)) (revisions_of s o past)
listed-removed s o past r = map-filter (revision_of s o past) r (existing past)
    (λ q. sized-number q (desired s q past) (available q past) (template o q past))

-- the other entries change nothing
pub listed-same : (s : Strategy) (o : Opening) (past : List Entry) (e : Entry) → resizes_none e ≡ true → revisions_of s o (e ∷ past) ≡ revisions_of s o past
listed-same s o past (Deploy r name ports) none = absurd (grind arith)
listed-same s o past (Available r n) none = absurd (grind arith)
listed-same s o past Retry none = absurd (grind arith)
listed-same s o past (Outcome (Resumed r)) none = absurd (grind arith)
listed-same s o past (Outcome (ScaledDown r)) none = absurd (grind arith)
listed-same s o past (Outcome (Removed r)) none = absurd (grind arith)
listed-same s o past _ none = refl
