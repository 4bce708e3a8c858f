-- A request that was open and hasn't left is still open at its revision and port.
use Rattle.std.proofs.Common.{◌≡◌, ℕ, Bool, ◌==◌, true, false, cond, List, [], ◌∷◌, ◌++◌, map, filter, find, Option, Some, None, is_some, refl, ap, sym, subst, ◌∙◌}
use Rattle.std.proofs.lemmas.Option.{same_Some}
use Rattle.bg_strategy.specs.declared.strategy.Strategy.{Strategy}
use Rattle.bg_history.specs.declared.entry.Entry.{Entry}
use Rattle.bg_history.specs.declared.entry.Entry.TheVariants.{Outcome as came}
use Rattle.bg_history.specs.declared.entry.Outcome as outcome
use Rattle.bg_history.specs.declared.entry.Outcome.TheVariants.{ScaledDown}
use Rattle.bg_history.specs.Kept.{Opening, Template}
use Rattle.bg_history.specs.Compacted.{compacted}
use Rattle.bg_history.specs.Sizes.{is_scaled}
use Rattle.bg_history.specs.Requests.{Request, open_requests, open_at}
use Rattle.bg_history.specs.Deadlines.{exists_in, is_empty}
use Rattle.bg_history.specs.Templates.{template}
use Rattle.bg_history.specs.Allowed.{is_allowed}
use Rattle.bg_history.specs.Steps.{all_allowed, is_opening, with_outcomes, Follows, Step}
use Rattle.bg_history_laws.specs.Reachable.{exists_scaled, Reachable}
use Rattle.bg_history_laws.specs.Compaction.{Same}
use Rattle.bg_history_laws.specs.OpenRequests.{open_request, is_leaving, is_outcome, stays, IsServed}
use Rattle.bg_history_laws.proofs.Tests.{and_parts, both_ways, equal_itself, equal_numbers}
use Rattle.bg_history_laws.proofs.Reached.Allowing.{scaled_down}
use Rattle.bg_history_laws.proofs.Reached.Staying.{stays-kept, stays as stays-scaled}
use Rattle.bg_history.specs.Marks.{scales_down}
use Rattle.bg_history_laws.proofs.Promised.Outcomes.{first-allowed}
use Rattle.bg_history_laws.proofs.Promised.OpenRequests.{found-all, stays-open, stays-template, stays-open_over, stays-template_over}
use Rattle.bg_history_laws.proofs.Promised.Ports.{has_port, open-ports}

pub served : ((s : Strategy) (o : Opening) (past : List Entry) → all_allowed s o past ≡ true → Reachable s o past)
    → (s : Strategy) (o : Opening) (later past : List Entry) (q : Request) (t : Template) → is_opening s o ≡ true → all_allowed s o (later ++ past) ≡ true
    → open_request q.number past ≡ Some q → template o q.revision past ≡ Some t → stays q.number later ≡ true → IsServed s o q t (later ++ past)
served reach s o later past q t opens a is there h =
    let still = stays-open_over q.number q later past h is in
    let same = stays-template_over o q.revision t later past there in
    record {
      open_still = still;
      revision = found-all (λ x. x.number == q.number) (λ x. exists_scaled s x.revision (later ++ past)) q (open_requests (later ++ past)) still (reach s o (later ++ past) a).open_scaled;
      template_is = same;
      port = ap (has_port q.port) (sym same)
          ∙ found-all (λ x. x.number == q.number) (λ x. has_port x.port (template o x.revision (later ++ past))) q (open_requests (later ++ past)) still (open-ports reach s o (later ++ past) opens a);
    }

-- each open request is open at its revision and port
pub served-now : ((s : Strategy) (o : Opening) (past : List Entry) → all_allowed s o past ≡ true → Reachable s o past)
    → (s : Strategy) (o : Opening) (past : List Entry) (q : Request) → is_opening s o ≡ true → all_allowed s o past ≡ true → open_request q.number past ≡ Some q
    → (t : Template) × IsServed s o q t past
served-now reach s o past q opens a is = go (template o q.revision past) refl (there.templates q.revision (and_parts (exists_in q.revision past) (is_scaled s q.revision past) selected_scaled).0) where
  there : Reachable s o past
  there = reach s o past a

  selected_scaled : exists_scaled s q.revision past ≡ true
  selected_scaled = found-all (λ x. x.number == q.number) (λ x. exists_scaled s x.revision past) q (open_requests past) is there.open_scaled

  go : (t : Option Template) → template o q.revision past ≡ t → is_some t ≡ true → (t : Template) × IsServed s o q t past
  go None same h = absurd (cc)
  go (Some t) same h = (t, served reach s o [] past q t opens a is same refl)

-- if a request of r is open, r has open requests
open-some : (p : Request → Bool) (q : Request) (xs : List Request) → find p xs ≡ Some q → is_empty (map (λ x. x.number) (filter (λ x. x.revision == q.revision) xs)) ≡ false
open-some p q [] is = absurd (cc)
open-some p q (x ∷ xs) is = go (p x) (x.revision == q.revision) refl is (open-some p q xs) where
  go : (a b : Bool) → (x.revision == q.revision) ≡ b → cond a (Some x) (find p xs) ≡ Some q → (find p xs ≡ Some q → is_empty (map (λ x. x.number) (filter (λ x. x.revision == q.revision) xs)) ≡ false)
      → is_empty (map (λ x. x.number) (cond b (x ∷ filter (λ x. x.revision == q.revision) xs) (filter (λ x. x.revision == q.revision) xs))) ≡ false
  go a true here is rest = refl
  go true false here is rest = let e : x ≡ q = same_Some x q is in both_ways (x.revision == q.revision) (ap (λ y. x.revision == y.revision) (sym e) ∙ equal_itself x.revision) here
  go false false here is rest = rest is

-- an entry that isn't its Leave keeps the request served if it keeps the size of its revision
served-kept : (s : Strategy) (o : Opening) (e : Entry) (past : List Entry) (q : Request) (t : Template) → IsServed s o q t past → is_leaving q.number e ≡ false
    → exists_scaled s q.revision (e ∷ past) ≡ true → IsServed s o q t (e ∷ past)
served-kept s o e past q t h other exists_and_scaled = record {
  open_still = stays-open q.number q e past other h.open_still;
  revision = exists_and_scaled;
  template_is = stays-template o q.revision t e past h.template_is;
  port = h.port;
}

-- each other event keeps the request served, whether it is allowed or not
served-event : (s : Strategy) (o : Opening) (e : Entry) (past : List Entry) (q : Request) (t : Template) → IsServed s o q t past → is_outcome e ≡ false → is_leaving q.number e ≡ false
    → IsServed s o q t (e ∷ past)
served-event s o (came x) past q t h event other = absurd (cc)
served-event s o e past q t h event other = served-kept s o e past q t h other (stays-kept s q.revision e past refl refl h.revision)

-- no allowed outcome scales down the revision of an open request
other-down : (s : Strategy) (x : outcome.Outcome) (past : List Entry) (o : Opening) (q : Request) (t : Template) → IsServed s o q t past → is_allowed s o (came x) past ≡ true
    → scales_down q.revision (came x) ≡ false
other-down s (ScaledDown r) past o q t h may = other (r == q.revision) refl where
  other : (b : Bool) → (r == q.revision) ≡ b → (r == q.revision) ≡ false
  other false is = is
  other true is =
      let same : r ≡ q.revision = equal_numbers r q.revision is in
      both_ways (is_empty (open_at q.revision past)) (subst (λ (k : ℕ). is_empty (open_at k past) ≡ true) same (scaled_down s r past may).empty)
      (open-some (λ x. x.number == q.number) q (open_requests past) h.open_still)
other-down s x past o q t h may = refl

-- each allowed outcome keeps the request served
served-outcome : (s : Strategy) (o : Opening) (x : outcome.Outcome) (past : List Entry) (q : Request) (t : Template) → IsServed s o q t past → is_allowed s o (came x) past ≡ true
    → IsServed s o q t (came x ∷ past)
served-outcome s o x past q t h may =
    served-kept s o (came x) past q t h refl (stays-scaled s o q.revision (came x) past may (other-down s x past o q t h may) h.revision)

served-outcomes : (s : Strategy) (o : Opening) (xs : List outcome.Outcome) (past : List Entry) (q : Request) (t : Template) → Follows s xs past → IsServed s o q t past
    → IsServed s o q t (with_outcomes xs past)
served-outcomes s o [] past q t f h = h
served-outcomes s o (x ∷ xs) past q t f h = served-outcome s o x (with_outcomes xs past) q t (served-outcomes s o xs past q t f.0 h) (first-allowed s o (with_outcomes xs past) x f.1)

-- each step other than its Leave keeps the request served
pub served-step : (s : Strategy) (o : Opening) (e : Entry) (past : List Entry) (xs : List outcome.Outcome) (new : List Entry) (q : Request) (t : Template)
    → IsServed s o q t past → is_outcome e ≡ false → is_leaving q.number e ≡ false → Step s e past xs new → IsServed s o q t new
served-step s o e past xs new q t h event other step =
    subst (λ (p : List Entry). IsServed s o q t p) (sym step.new_is) (served-outcomes s o xs (e ∷ past) q t step.follow (served-event s o e past q t h event other))

-- the request is served in a past that gives the same answers
pub served-compacted : (s : Strategy) (o : Opening) (past : List Entry) (q : Request) (t : Template) → Same s o past (compacted past) → IsServed s o q t past → IsServed s o q t (compacted past)
served-compacted s o past q t same h = record {
  open_still = ap (find (λ x. x.number == q.number)) (sym same.held) ∙ h.open_still;
  revision = rw (← same.alike.exist, ← same.alike.size q.revision) h.revision;
  template_is = sym (same.alike.templates q.revision) ∙ h.template_is;
  port = h.port;
}
