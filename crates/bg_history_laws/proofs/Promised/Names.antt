-- Names and ports: each revision's are well formed, and no two existing revisions have the same name. So the stable
-- revision's template may be deployed again while another revision is the newest.
use Rattle.std.proofs.Common.{◌≡◌, ◌<◌, ◌+◌, ℕ, Bool, true, false, not, cond, ◌==◌, ◌&&◌, ◌||◌, nat_le, List, [], ◌∷◌, Option, Some, None, is_some, refl, arith, ap, sym, subst, ◌∙◌, ◌⊎◌, inl, inr}
use Rattle.std.specs.Option.{option_or}
use Rattle.std.specs.Str.{bytes_eq}
use Rattle.std.proofs.lemmas.Bool.Decides.{nat_tests}
use Rattle.std.proofs.lemmas.Option.{same_Some}
use Rattle.std.proofs.lemmas.Slice.Eq.{bytes_eq-Decides}
use Rattle.bg_strategy.specs.declared.strategy.Strategy.{Strategy}
use Rattle.bg_strategy.specs.Label.{is_label}
use Rattle.bg_revisions.specs.PortLists.{are_ports}
use Rattle.bg_history.specs.declared.entry.Entry.{Entry}
use Rattle.bg_history.specs.declared.entry.Entry.TheVariants.{Deploy, Outcome}
use Rattle.bg_history.specs.declared.entry.Outcome.TheVariants.{Removed}
use Rattle.bg_history.specs.Kept.{Opening, Template}
use Rattle.bg_history.specs.AttemptBounds.{newest_of}
use Rattle.bg_history.specs.Sizes.{existing, last_number}
use Rattle.bg_history.specs.Deadlines.{exists_in}
use Rattle.bg_history.specs.Templates.{template, is_named, has_ports, namesake}
use Rattle.bg_history.specs.Allowed.{is_template, fits_namesake, may_deploy}
use Rattle.bg_history.specs.Steps.{all_allowed, is_opening}
use Rattle.bg_history_laws.specs.Reachable.{Reachable}
use Rattle.bg_history_laws.proofs.Tests.{and_parts, and_both, both_ways, equal_itself}
use Rattle.bg_history_laws.proofs.Reached.Allowing.{allowed_now, allowed_before, Returns, Begins, deployed}
use Rattle.bg_history_laws.proofs.Finding.{found, none-passes}
use Rattle.bg_history_laws.proofs.Reached.Existing.{exists-Deploy, exists-Removed}

-- a revision that exists after a deploy is the deployed one, or it existed before
exists-deployed : (q n : ℕ) (name ports : List ℕ) (before : List Entry) → exists_in q (Deploy n name ports ∷ before) ≡ true → (exists_in q before ≡ true) ⊎ ((exists_in q before ≡ false) × (q ≡ n))
exists-deployed q n name ports before h = go (exists_in q before) refl (sym (exists-Deploy q n name ports before) ∙ h) where
  go : (b : Bool) → exists_in q before ≡ b → ((n == q) || b) ≡ true → (exists_in q before ≡ true) ⊎ ((exists_in q before ≡ false) × (q ≡ n))
  go true is h = inl is
  go false is h = inr (is, grind (arith, nat_tests))

-- a revision that exists after a removal existed before
exists-removed : (q n : ℕ) (before : List Entry) → exists_in q (Outcome (Removed n) ∷ before) ≡ true → exists_in q before ≡ true
exists-removed q n before h = (and_parts (not (q == n)) (exists_in q before) (sym (exists-Removed q n before) ∙ h)).1

-- a revision keeps the template that it had
old-template : (o : Opening) (q n : ℕ) (name ports : List ℕ) (before : List Entry) → is_some (template o q before) ≡ true → template o q (Deploy n name ports ∷ before) ≡ template o q before
old-template o q n name ports before h = go (template o q before) h where
  go : (t : Option Template) → is_some t ≡ true → option_or t (cond (n == q) (Some (record { name = name; ports = ports })) None) ≡ t
  go None h = absurd (cc)
  go (Some t) h = refl

-- a revision that had no template gets the deployed one
new-template : (o : Opening) (n : ℕ) (name ports : List ℕ) (before : List Entry) → template o n before ≡ None → template o n (Deploy n name ports ∷ before) ≡ Some (record { name = name; ports = ports })
new-template o n name ports before h = rw (h, equal_itself n) refl

-- if two names are equal, a template is named by either
named-same : (name other : List ℕ) (t : Option Template) → bytes_eq name other ≡ true → is_named other t ≡ true → is_named name t ≡ true
named-same name other t same h = let e : name ≡ other = (bytes_eq-Decides name other).0 same in rw e h

-- existing revisions with the same name are the same revision
abbrev pub OwnNames : Opening → List Entry → Type 0
OwnNames o past = (q r : ℕ) (name : List ℕ) → exists_in q past ≡ true → exists_in r past ≡ true → is_named name (template o q past) ≡ true → is_named name (template o r past) ≡ true → q ≡ r

own-deployed : (o : Opening) (n : ℕ) (name ports : List ℕ) (before : List Entry) → ((q : ℕ) → exists_in q before ≡ true → is_some (template o q before) ≡ true)
    → ((q : ℕ) → last_number before < q → template o q before ≡ None) → Returns o n name ports before ⊎ Begins o n name before
    → OwnNames o before → OwnNames o (Deploy n name ports ∷ before)
own-deployed o n name ports before some undeployed kind own q r other hq hr nq nr =
    go (exists-deployed q n name ports before hq) (exists-deployed r n name ports before hr) kind where
      earlier : (k : ℕ) → exists_in k before ≡ true → is_named other (template o k (Deploy n name ports ∷ before)) ≡ true → is_named other (template o k before) ≡ true
      earlier k here h = ap (is_named other) (sym (old-template o k n name ports before (some k here))) ∙ h

      fresh : (k : ℕ) → Begins o n name before → k ≡ n → is_named other (template o k (Deploy n name ports ∷ before)) ≡ true → bytes_eq name other ≡ true
      fresh k new is h =
          let e : last_number before < n = let next : n ≡ last_number before + 1 = new.next in omega arith in
          ap (is_named other) (sym (new-template o n name ports before (undeployed n e))) ∙ subst (λ (m : ℕ). is_named other (template o m (Deploy n name ports ∷ before)) ≡ true) is h

      go : ((exists_in q before ≡ true) ⊎ ((exists_in q before ≡ false) × (q ≡ n))) → ((exists_in r before ≡ true) ⊎ ((exists_in r before ≡ false) × (r ≡ n)))
          → Returns o n name ports before ⊎ Begins o n name before → q ≡ r
      go (inl a) (inl b) k = own q r other a b (earlier q a nq) (earlier r b nr)
      go (inr a) (inr b) k = a.1 ∙ sym b.1
      go (inl a) (inr b) (inl k) = both_ways (exists_in r before) (subst (λ (m : ℕ). exists_in m before ≡ true) (sym b.1) k.exists) b.0
      go (inr a) (inl b) (inl k) = both_ways (exists_in q before) (subst (λ (m : ℕ). exists_in m before ≡ true) (sym a.1) k.exists) a.0
      go (inl a) (inr b) (inr k) =
          both_ways (is_named name (template o q before)) (named-same name other (template o q before) (fresh r k b.1 nr) (earlier q a nq)) (k.free q a)
      go (inr a) (inl b) (inr k) =
          both_ways (is_named name (template o r before)) (named-same name other (template o r before) (fresh q k a.1 nq) (earlier r b nr)) (k.free r b)

pub own-names : ((s : Strategy) (o : Opening) (past : List Entry) → all_allowed s o past ≡ true → Reachable s o past)
    → (s : Strategy) (o : Opening) (past : List Entry) → all_allowed s o past ≡ true → OwnNames o past
own-names reach s o [] a = λ q r name hq hr nq nr. let e : q ≡ 1 = grind (arith, nat_tests) in let f : r ≡ 1 = grind (arith, nat_tests) in e ∙ sym f
own-names reach s o (Deploy n name ports ∷ before) a =
    let earlier = allowed_before s o (Deploy n name ports) before a in
    let there = reach s o before earlier in
    own-deployed o n name ports before there.templates there.undeployed_template (deployed s o n name ports before (allowed_now s o (Deploy n name ports) before a))
    (own-names reach s o before earlier)
own-names reach s o (Outcome (Removed n) ∷ before) a = λ q r name hq hr nq nr.
    own-names reach s o before (allowed_before s o (Outcome (Removed n)) before a) q r name (exists-removed q n before hq) (exists-removed r n before hr) nq nr
own-names reach s o (e ∷ before) a = own-names reach s o before (allowed_before s o e before a)

-- a deployed template has a label and the ports of a revision
abbrev pub is_well_formed : Strategy → Template → Bool
is_well_formed s t = is_label t.name && are_ports s.replicas t.ports

-- the template of each revision has a label and the ports of a revision
pub template-well_formed : (s : Strategy) (o : Opening) (r : ℕ) (past : List Entry) (t : Template) → is_opening s o ≡ true → all_allowed s o past ≡ true → template o r past ≡ Some t → is_well_formed s t ≡ true
template-well_formed s o r [] t opens a is = go (r == 1) is where
  good : is_well_formed s o.template ≡ true
  good = (and_parts _ (nat_le 1 o.seats) (and_parts _ (nat_le o.seats 2048) opens).0).0

  go : (b : Bool) → cond b (Some o.template) None ≡ Some t → is_well_formed s t ≡ true
  go true is = let e : o.template ≡ t = same_Some o.template t is in rw (← e) good
  go false is = absurd (cc)
template-well_formed s o r (Deploy q name ports ∷ before) t opens a is =
    go (template o r before) (q == r) refl is (template-well_formed s o r before t opens (allowed_before s o (Deploy q name ports) before a)) where
      new : is_label name && are_ports s.replicas ports ≡ true
      new = (and_parts _ (not (is_template name ports (template o (newest_of before) before)))
          (and_parts _ (fits_namesake o (namesake o name before) q ports before) (allowed_now s o (Deploy q name ports) before a)).0).0

      go : (u : Option Template) (b : Bool) → template o r before ≡ u → option_or u (cond b (Some (record { name = name; ports = ports })) None) ≡ Some t → (template o r before ≡ Some t → is_well_formed s t ≡ true) → is_well_formed s t ≡ true
      go (Some u) b was is rest = rest (was ∙ is)
      go None true was is rest = let e : record { name = name; ports = ports } ≡ t = same_Some _ t is in rw (← e) new
      go None false was is rest = absurd (cc)
template-well_formed s o r (e ∷ before) t opens a is = template-well_formed s o r before t opens (allowed_before s o e before a) is

-- the stable revision owns its name, so its template may be deployed again where another revision is the newest
pub may-revert : ((s : Strategy) (o : Opening) (past : List Entry) → all_allowed s o past ≡ true → Reachable s o past)
    → (s : Strategy) (o : Opening) (past : List Entry) (r : ℕ) (t : Template) → is_opening s o ≡ true → all_allowed s o past ≡ true
    → exists_in r past ≡ true → template o r past ≡ Some t → (newest_of past == r) ≡ false → may_deploy s o r t.name t.ports past ≡ true
may-revert reach s o past r t opens a here is other =
    let formed = and_parts (is_label t.name) (are_ports s.replicas t.ports) (template-well_formed s o r past t opens a is) in
    and_both _ (fits_namesake o (namesake o t.name past) r t.ports past)
    (and_both _ (not (is_template t.name t.ports (template o (newest_of past) past))) (and_both (is_label t.name) (are_ports s.replicas t.ports) formed.0 formed.1)
    (not_newest (is_template t.name t.ports (template o (newest_of past) past)) refl))
    (owned (namesake o t.name past) refl) where
      own : OwnNames o past
      own = own-names reach s o past a

      itself : (xs : List ℕ) → bytes_eq xs xs ≡ true
      itself xs = (bytes_eq-Decides xs xs).1 refl

      named : is_named t.name (template o r past) ≡ true
      named = ap (is_named t.name) is ∙ itself t.name

      not_newest : (b : Bool) → is_template t.name t.ports (template o (newest_of past) past) ≡ b → not b ≡ true
      not_newest false h = refl
      not_newest true h =
          let same : newest_of past ≡ r = own (newest_of past) r t.name (reach s o past a).newest here (and_parts (is_named t.name (template o (newest_of past) past)) _ h).0 named in
          both_ways (newest_of past == r) (ap (λ k. k == r) same ∙ equal_itself r) other

      owned : (k : Option ℕ) → namesake o t.name past ≡ k → fits_namesake o k r t.ports past ≡ true
      owned None h = both_ways (is_named t.name (template o r past)) named (none-passes (λ q. is_named t.name (template o q past)) r (existing past) h here)
      owned (Some k) h =
          let there = found (λ q. is_named t.name (template o q past)) k (existing past) h in
          let same : k ≡ r = own k r t.name there.1 here there.0 named in
          let ports : has_ports t.ports (template o r past) ≡ true = ap (has_ports t.ports) is ∙ itself t.ports in
          subst (λ (m : ℕ). (m == r) && has_ports t.ports (template o m past) ≡ true) (sym same) (and_both (r == r) _ (equal_itself r) ports)
