-- Which revision has a number, a name, a template.
use Rattle.std.proofs.Common.{◌≡◌, ℕ, Bool, true, false, cond, ◌==◌, List, [], ◌∷◌, map, find, Option, Some, None, Ok, Err, refl, arith, ◌∙◌, ap, inl, inr}
use Rattle.std.specs.Option.{option_map, is_some}
use Rattle.std.specs.Str.{bytes_eq}
use Rattle.std.proofs.lemmas.Bool.Decides.{nat_tests, eqb_tells}
use Rattle.bg_strategy.specs.declared.strategy.Strategy.{Strategy}
use Rattle.bg_revisions.specs.declared.revision.Revision.{Revision}
use Rattle.bg_revisions.specs.declared.revision_fault.RevisionFault.TheVariants.{SameTemplate, PortsDiffer}
use Rattle.bg_revisions.specs.Rosters.{numbered, named, has_template, namesake_of, template_of}
use Rattle.bg_history.specs.declared.entry.Entry.{Entry}
use Rattle.bg_history.specs.Kept.{Opening, Template}
use Rattle.bg_history.specs.Sizes.{existing, desired, available}
use Rattle.bg_history.specs.Deadlines.{exists_in}
use Rattle.bg_history.specs.Templates.{template, is_named, has_ports, namesake}
use Rattle.bg_history.specs.Allowed.{is_template}
use Rattle.bg_history_laws.specs.Listed.{sized, revision_of, revisions_of}
use Rattle.bg_history_laws.specs.Answers.{namesake_answer, template_answer}
use Rattle.bg_history_laws.proofs.Listed.Templates.{template-there}
use Rattle.bg_history_laws.proofs.Listed.Changed.{sized-number}
use Rattle.bg_history_laws.proofs.Lists.{member}

-- the first revision that passes is that of the first number whose test says so
find-map : (f : ℕ → Revision) (passes : Revision → Bool) (test : ℕ → Bool) (xs : List ℕ) → ((q : ℕ) → member q xs ≡ true → passes (f q) ≡ test q)
    → find passes (map f xs) ≡ option_map f (find test xs)
find-map f passes test [] same = refl
find-map f passes test (x ∷ xs) same =
    find-cases (passes (f x)) (test x) (same x (grind (arith, nat_tests))) (find-map f passes test xs (λ q later. same q (grind (arith, nat_tests)))) where
      find-cases : (b c : Bool) → b ≡ c → find passes (map f xs) ≡ option_map f (find test xs) → cond b (Some (f x)) (find passes (map f xs)) ≡ option_map f (cond c (Some x) (find test xs))
      find-cases true true is rest = refl
      find-cases true false is rest = absurd (grind arith)
      find-cases false true is rest = absurd (grind arith)
      find-cases false false is rest = rest

-- a number is found if it is in the list
find-member : (r : ℕ) (xs : List ℕ) → find (λ q. q == r) xs ≡ cond (member r xs) (Some r) None
find-member r [] = refl
find-member r (x ∷ xs) = elim (eqb_tells x r) [
  | inl h ↦ rw (h.0, h.1) refl
  | inr h ↦ rw h.0 (find-member r xs)
]

-- the revision of a number, if there is one
map-cond : (f : ℕ → Revision) (b : Bool) (r : ℕ) → option_map f (cond b (Some r) None) ≡ cond b (Some (f r)) None
map-cond f true r = refl
map-cond f false r = refl

-- the revision of a number
pub listed-numbered : (s : Strategy) (o : Opening) (past : List Entry) (r : ℕ) → numbered r (revisions_of s o past)
    ≡ cond (exists_in r past) (Some (revision_of s o past r)) None
listed-numbered s o past r =
    find-map (revision_of s o past) (λ v. v.number == r) (λ q. q == r) (existing past)
    (λ q within. ap (λ n. n == r) (sized-number q (desired s q past) (available q past) (template o q past)))
    ∙ ap (option_map (revision_of s o past)) (find-member r (existing past))
    ∙ map-cond (revision_of s o past) (exists_in r past) r

-- a revision with a template has the name of the template
sized-named : (name : List ℕ) (r desired_size there : ℕ) (t : Option Template) → is_some t ≡ true → bytes_eq (sized r desired_size there t).name name ≡ is_named name t
sized-named name r desired_size there None some = absurd (grind arith)
sized-named name r desired_size there (Some t) some = refl

-- a revision with a template has the ports of the template
sized-template : (name ports : List ℕ) (r desired_size there : ℕ) (t : Option Template) → is_some t ≡ true
    → has_template name ports (Some (sized r desired_size there t)) ≡ is_template name ports t
sized-template name ports r desired_size there None some = absurd (grind arith)
sized-template name ports r desired_size there (Some t) some = refl

-- the revision of a name
pub listed-named : (s : Strategy) (o : Opening) (past : List Entry) (name : List ℕ) → named name (revisions_of s o past)
    ≡ option_map (revision_of s o past) (namesake o name past)
listed-named s o past name =
    find-map (revision_of s o past) (λ v. bytes_eq v.name name) (λ q. is_named name (template o q past)) (existing past)
    (λ q within. sized-named name q (desired s q past) (available q past) (template o q past) (template-there o q past within))

-- an element that is found passes the test
find-passes : (test : ℕ → Bool) (xs : List ℕ) (q : ℕ) → find test xs ≡ Some q → test q ≡ true
find-passes test [] q found = absurd (grind arith)
find-passes test (x ∷ xs) q found = grind (arith, find-passes test xs q)

-- a revision that has the name has a template, so its ports are those of the template
sized-namesake : (name ports : List ℕ) (r desired_size there : ℕ) (t : Option Template) → is_named name t ≡ true
    → namesake_of ports (Some (sized r desired_size there t)) ≡ cond (has_ports ports t) (Ok (Some r)) (Err PortsDiffer)
sized-namesake name ports r desired_size there None named = absurd (grind arith)
sized-namesake name ports r desired_size there (Some t) named = refl

-- the answer for the namesake of the name
namesake-answer : (s : Strategy) (o : Opening) (past : List Entry) (name ports : List ℕ) (q : Option ℕ) → namesake o name past ≡ q
    → namesake_of ports (option_map (revision_of s o past) q) ≡ namesake_answer o ports q past
namesake-answer s o past name ports None is = refl
namesake-answer s o past name ports (Some q) is = sized-namesake name ports q (desired s q past) (available q past) (template o q past)
    (find-passes (λ r. is_named name (template o r past)) (existing past) q is)

-- the answer of a roster of these revisions to a template
pub listed-template : (s : Strategy) (o : Opening) (past : List Entry) (newest : ℕ) (name ports : List ℕ) → exists_in newest past ≡ true
    → template_of newest name ports (revisions_of s o past) ≡ template_answer o newest name ports past
listed-template s o past newest name ports within =
    let v : Revision = revision_of s o past newest in
    let numbered_is : numbered newest (revisions_of s o past) ≡ Some v = rw within at (listed-numbered s o past newest) in
    let same : has_template name ports (Some v) ≡ is_template name ports (template o newest past)
    = sized-template name ports newest (desired s newest past) (available newest past) (template o newest past) (template-there o newest past within) in
    ap (λ u. cond (has_template name ports u) (Err SameTemplate) (namesake_of ports (named name (revisions_of s o past)))) numbered_is
    ∙ ap (λ b. cond b (Err SameTemplate) (namesake_of ports (named name (revisions_of s o past)))) same
    ∙ ap (λ a. cond (is_template name ports (template o newest past)) (Err SameTemplate) a)
    (ap (namesake_of ports) (listed-named s o past name) ∙ namesake-answer s o past name ports (namesake o name past) refl)
