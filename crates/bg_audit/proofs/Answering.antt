-- What the facts of a past say of its revisions.
use Rattle.std.proofs.Common.{◌≡◌, ◌+◌, ℕ, Bool, true, false, not, cond, ◌==◌, ◌&&◌, ◌||◌, nat_lt, nat_le, List, [], ◌∷◌, map, filter, find, length, count_by, Option, Some, None, is_some, is_none, refl, ap, sym, ◌∙◌}
use Rattle.std.specs.List.{list_any}
use Rattle.std.specs.Option.{option_or, option_map}
use Rattle.std.proofs.lemmas.List.Sums.{length-filter, sum_by-cons}
use Rattle.bg_strategy.specs.declared.strategy.Strategy.{Strategy}
use Rattle.bg_revisions.specs.declared.revision.Revision.{Revision}
use Rattle.bg_revisions.specs.Rosters.{numbered}
use Rattle.bg_history.specs.declared.entry.Entry.{Entry}
use Rattle.bg_history.specs.declared.entry.Outcome.TheVariants.{ScaledDown, Removed}
use Rattle.bg_history.specs.Kept.{Template, Opening}
use Rattle.bg_history.specs.AttemptBounds.{moment}
use Rattle.bg_history.specs.Selections.{is_selected}
use Rattle.bg_history.specs.Sizes.{existing, desired, available, is_scaled}
use Rattle.bg_history.specs.Templates.{template}
use Rattle.bg_history.specs.Promotion.{first_promotion}
use Rattle.bg_history.specs.Marks as past
use Rattle.bg_history.specs.Requests.{Request, open_requests, open_at}
use Rattle.bg_history.specs.Deadlines.{exists_in, is_spare, is_left, left_later, rank_after, reaches_limit, is_reached, time_of, marks_due, is_empty, may_scale_down, is_old, old_revisions, is_first, may_remove}
use Rattle.bg_history.specs.Steps.{is_settled}
use Rattle.bg_history_laws.specs.Listed.{sized, revision_of, revisions_of}
use Rattle.bg_audit.specs.declared.audited_state.AuditedState.{AuditedState}
use Rattle.bg_audit.specs.declared.facts.Facts.{Facts}
use Rattle.bg_audit.specs.AuditedState.{IsAuditedState}
use Rattle.bg_audit.specs.Marked.{kind_told, mark_told, mark_there, mark_in}
use Rattle.bg_audit.specs.Requests.{request_told}
use Rattle.bg_audit.specs.Known.{Knows}
use Rattle.bg_audit.specs.Selected.{selects_in}
use Rattle.bg_audit.specs.Scans.{is_spare_in, is_left_in, left_later_in, time_in, count_left_later, marks_due_in, scales_down_in, is_old_in, is_numbered, removes_in}
use Rattle.bg_audit.proofs.Tests.{equal_itself}
use Rattle.bg_audit.proofs.Listed.{Finds, sized-desired}

pub sized-number : (r n m : ℕ) (t : Option Template) → (sized r n m t).number ≡ r
sized-number r n m None = refl
sized-number r n m (Some t) = refl

-- the number of the revision
own-number : (s : Strategy) (o : Opening) (p : List Entry) (r : ℕ) → (revision_of s o p r).number ≡ r
own-number s o p r = sized-number r (desired s r p) (available r p) (template o r p)

own-desired : (s : Strategy) (o : Opening) (p : List Entry) (r : ℕ) → (revision_of s o p r).desired ≡ desired s r p
own-desired s o p r = sized-desired r (desired s r p) (available r p) (template o r p)

selects-is : (s : Strategy) (p : List Entry) (c : AuditedState) (r : ℕ) → IsAuditedState s p c → selects_in c r ≡ is_selected r p
selects-is s p c r state = rw (state.active_is, state.running_is, state.newest_is, state.stable_is) refl

spare-is : (s : Strategy) (o : Opening) (p : List Entry) (c : AuditedState) (r : ℕ) → IsAuditedState s p c → is_spare_in c (revision_of s o p r) ≡ is_spare s r p
spare-is s o p c r state =
    ap (λ n. nat_le 1 n && not (selects_in c (revision_of s o p r).number)) (own-desired s o p r)
    ∙ ap (λ n. is_scaled s r p && not (selects_in c n)) (own-number s o p r)
    ∙ ap (λ b. is_scaled s r p && not b) (selects-is s p c r state)

old-is : (s : Strategy) (o : Opening) (p : List Entry) (c : AuditedState) (r : ℕ) → IsAuditedState s p c → is_old_in c (revision_of s o p r) ≡ is_old s p r
old-is s o p c r state =
    ap (λ n. not (nat_le 1 n) && not (selects_in c (revision_of s o p r).number) && not ((revision_of s o p r).number == c.newest)) (own-desired s o p r)
    ∙ ap (λ n. not (is_scaled s r p) && not (selects_in c n) && not (n == c.newest)) (own-number s o p r)
    ∙ ap (λ b. not (is_scaled s r p) && not b && not (r == c.newest)) (selects-is s p c r state)
    ∙ ap (λ n. not (is_scaled s r p) && not (is_selected r p) && not (r == n)) state.newest_is

-- the list has the number
abbrev member : ℕ → List ℕ → Bool
member r xs = list_any (λ q. q == r) xs

first-member : (x : ℕ) (xs : List ℕ) → member x (x ∷ xs) ≡ true
first-member x xs = rw (equal_itself x) refl

or-true : (a b : Bool) → b ≡ true → a || b ≡ true
or-true true b h = refl
or-true false b h = h

-- counting over the list of revisions
count-map : (g : ℕ → Revision) (p : Revision → Bool) (t : ℕ → Bool) (xs : List ℕ) → ((q : ℕ) → member q xs ≡ true → p (g q) ≡ t q) → count_by p (map g xs) ≡ count_by t xs
count-map g p t [] same = refl
count-map g p t (x ∷ xs) same =
    sum_by-cons (λ v. cond (p v) 1 0) (g x) (map g xs)
    ∙ ap (λ b. cond b 1 0 + count_by p (map g xs)) (same x (first-member x xs))
    ∙ ap (λ n. cond (t x) 1 0 + n) (count-map g p t xs (λ q h. same q (or-true (x == q) (member q xs) h)))
    ∙ sym (sum_by-cons (λ y. cond (t y) 1 0) x xs)

-- finding a number that passes, and testing whether there is one
numbered-first : (g : ℕ → Revision) (p : Revision → Bool) (t : ℕ → Bool) (r : ℕ) (xs : List ℕ) → ((q : ℕ) → (g q).number ≡ q) → ((q : ℕ) → p (g q) ≡ t q)
    → is_numbered r (find p (map g xs)) ≡ is_first r (filter t xs)
numbered-first g p t r [] own same = refl
numbered-first g p t r (x ∷ xs) own same =
    ap (λ b. is_numbered r (cond b (Some (g x)) (find p (map g xs)))) (same x) ∙ go (t x) (numbered-first g p t r xs own same) where
      go : (b : Bool) → is_numbered r (find p (map g xs)) ≡ is_first r (filter t xs)
          → is_numbered r (cond b (Some (g x)) (find p (map g xs))) ≡ is_first r (cond b (x ∷ filter t xs) (filter t xs))
      go true rest = ap (λ n. n == r) (own x)
      go false rest = rest

-- a mark in the type of the code says the same as the mark
time-told : (s : Strategy) (k : past.MarkKind) (at : ℕ) → time_in s (kind_told k) at ≡ time_of s k at
time-told s past.Left at = refl
time-told s past.Superseded at = refl
time-told s past.Aborted at = refl
time-told s past.Cleared at = refl

left-told : (k : past.MarkKind) → is_left_in (kind_told k) ≡ is_left k
left-told past.Left = refl
left-told past.Superseded = refl
left-told past.Aborted = refl
left-told past.Cleared = refl

later-told : (position : ℕ) (m : Option past.Mark) → left_later_in position (option_map mark_told m) ≡ left_later position m
later-told position None = refl
later-told position (Some m) = ap (λ b. b && nat_lt position m.position) (left-told m.kind)

mark-is : (s : Strategy) (o : Opening) (p : List Entry) (f : Facts) (r : ℕ) → Knows s o p f → exists_in r p ≡ true → mark_in (revision_of s o p r).number f.marks.items ≡ option_map mark_told (past.mark s r p)
mark-is s o p f r known there = ap (λ n. mark_in n f.marks.items) (own-number s o p r) ∙ ap mark_there (known.marks r there)

rank-is : (s : Strategy) (o : Opening) (p : List Entry) (f : Facts) (position : ℕ) → Knows s o p f → count_left_later f position ≡ rank_after s position p
rank-is s o p f position known =
    ap (λ vs. count_by (λ v. is_spare_in f.state v && left_later_in position (mark_in v.number f.marks.items)) vs) known.revisions
    ∙ count-map (revision_of s o p) (λ v. is_spare_in f.state v && left_later_in position (mark_in v.number f.marks.items)) (λ q. is_spare s q p && left_later position (past.mark s q p)) (existing p)
    (λ q there.
    ap (λ b. b && left_later_in position (mark_in (revision_of s o p q).number f.marks.items)) (spare-is s o p f.state q known.state)
    ∙ ap (λ m. is_spare s q p && left_later_in position m) (mark-is s o p f q known there)
    ∙ ap (λ b. is_spare s q p && b) (later-told position (past.mark s q p)))

due-told : (s : Strategy) (o : Opening) (p : List Entry) (f : Facts) (m : Option past.Mark) → Knows s o p f → marks_due_in s f (option_map mark_told m) ≡ marks_due s m p
due-told s o p f None known = refl
due-told s o p f (Some m) known =
    ap (λ t. is_reached t f.state.moment || (is_left_in (kind_told m.kind) && reaches_limit s.revision_limit (count_left_later f m.position))) (time-told s m.kind m.moment)
    ∙ ap (λ n. is_reached (time_of s m.kind m.moment) n || (is_left_in (kind_told m.kind) && reaches_limit s.revision_limit (count_left_later f m.position))) known.state.moment_is
    ∙ ap (λ b. is_reached (time_of s m.kind m.moment) (moment p) || (b && reaches_limit s.revision_limit (count_left_later f m.position))) (left-told m.kind)
    ∙ ap (λ n. is_reached (time_of s m.kind m.moment) (moment p) || (is_left m.kind && reaches_limit s.revision_limit n)) (rank-is s o p f m.position known)

-- if no request in the facts is at r, no request is open at r
none-open : (r : ℕ) (qs : List Request) → not (list_any (λ q. q.revision == r) (map request_told qs)) ≡ is_empty (map (λ q. q.number) (filter (λ q. q.revision == r) qs))
none-open r [] = refl
none-open r (q ∷ qs) = go (q.revision == r) (none-open r qs) where
  go : (b : Bool) → not (list_any (λ x. x.revision == r) (map request_told qs)) ≡ is_empty (map (λ x. x.number) (filter (λ x. x.revision == r) qs))
      → not (b || list_any (λ x. x.revision == r) (map request_told qs)) ≡ is_empty (map (λ x. x.number) (cond b (q ∷ filter (λ x. x.revision == r) qs) (filter (λ x. x.revision == r) qs)))
  go true rest = refl
  go false rest = rest

-- a revision may be scaled down if the facts say so
pub scales-down : (s : Strategy) (o : Opening) (p : List Entry) (f : Facts) (r : ℕ) → Knows s o p f → Finds s o p r → scales_down_in s f (numbered r f.revisions.items) ≡ may_scale_down s r p
scales-down s o p f r known finds =
    ap (λ vs. scales_down_in s f (numbered r vs)) known.revisions ∙ ap (scales_down_in s f) finds ∙ go (exists_in r p) refl where
      there : exists_in r p ≡ true → scales_down_in s f (Some (revision_of s o p r)) ≡ (is_spare s r p && marks_due s (past.mark s r p) p && is_empty (open_at r p))
      there is =
          ap (λ b. b && marks_due_in s f (mark_in (revision_of s o p r).number f.marks.items) && not (list_any (λ q. q.revision == (revision_of s o p r).number) f.requests.items))
          (spare-is s o p f.state r known.state)
          ∙ ap (λ m. is_spare s r p && marks_due_in s f m && not (list_any (λ q. q.revision == (revision_of s o p r).number) f.requests.items)) (mark-is s o p f r known is)
          ∙ ap (λ b. is_spare s r p && b && not (list_any (λ q. q.revision == (revision_of s o p r).number) f.requests.items)) (due-told s o p f (past.mark s r p) known)
          ∙ ap (λ n. is_spare s r p && marks_due s (past.mark s r p) p && not (list_any (λ q. q.revision == n) f.requests.items)) (own-number s o p r)
          ∙ ap (λ qs. is_spare s r p && marks_due s (past.mark s r p) p && not (list_any (λ q. q.revision == r) qs)) known.requests
          ∙ ap (λ b. is_spare s r p && marks_due s (past.mark s r p) p && b) (none-open r (open_requests p))

      go : (b : Bool) → exists_in r p ≡ b → scales_down_in s f (cond b (Some (revision_of s o p r)) None) ≡ ((b && is_spare s r p && marks_due s (past.mark s r p) p) && is_empty (open_at r p))
      go true is = there is
      go false is = refl

-- a revision may be removed if the facts say so
pub removes-is : (s : Strategy) (o : Opening) (p : List Entry) (f : Facts) (r : ℕ) → Knows s o p f → removes_in s f r ≡ may_remove s r p
removes-is s o p f r known =
    ap (λ vs. nat_lt s.history_limit (count_by (is_old_in f.state) vs) && is_numbered r (find (is_old_in f.state) vs)) known.revisions
    ∙ ap (λ n. nat_lt s.history_limit n && is_numbered r (find (is_old_in f.state) (revisions_of s o p)))
    (count-map (revision_of s o p) (is_old_in f.state) (is_old s p) (existing p) (λ q there. old-is s o p f.state q known.state) ∙ sym (length-filter (is_old s p) (existing p)))
    ∙ ap (λ b. nat_lt s.history_limit (length (old_revisions s p)) && b)
    (numbered-first (revision_of s o p) (is_old_in f.state) (is_old s p) r (existing p) (own-number s o p) (λ q. old-is s o p f.state q known.state))

-- one of the two outcomes is allowed for some revision
or-four : (a b c d : Bool) → (a || b) || (c || d) ≡ (a || c) || (b || d)
or-four true b c d = refl
or-four false true true d = refl
or-four false true false d = refl
or-four false false c d = refl

some-find : (t : ℕ → Bool) (x : ℕ) (xs : List ℕ) → is_some (find t (x ∷ xs)) ≡ (t x || is_some (find t xs))
some-find t x xs = go (t x) where
  go : (b : Bool) → is_some (cond b (Some x) (find t xs)) ≡ (b || is_some (find t xs))
  go true = refl
  go false = refl

ends-listed : (g : ℕ → Revision) (p : Revision → Bool) (t u : ℕ → Bool) (xs : List ℕ) → ((q : ℕ) → p (g q) ≡ (t q || u q)) → list_any p (map g xs) ≡ (is_some (find t xs) || is_some (find u xs))
ends-listed g p t u [] same = refl
ends-listed g p t u (x ∷ xs) same =
    ap (λ b. b || list_any p (map g xs)) (same x) ∙ ap (λ b. (t x || u x) || b) (ends-listed g p t u xs same)
    ∙ or-four (t x) (u x) (is_some (find t xs)) (is_some (find u xs))
    ∙ ap (λ b. b || (u x || is_some (find u xs))) (sym (some-find t x xs)) ∙ ap (λ b. is_some (find t (x ∷ xs)) || b) (sym (some-find u x xs))

none-of : {X : Type 0} (a : Option X) (b c : Option ℕ) (f g : ℕ → X) → is_none (option_or a (option_or (option_map f b) (option_map g c))) ≡ (not (is_some a) && not (is_some b || is_some c))
none-of (Some x) b c f g = refl
none-of None (Some x) c f g = refl
none-of None None (Some x) f g = refl
none-of None None None f g = refl

-- whether a revision may be scaled down or removed
pub ends-is : (s : Strategy) (o : Opening) (p : List Entry) (f : Facts) → Knows s o p f → ((r : ℕ) → Finds s o p r)
    → list_any (λ v. scales_down_in s f (numbered v.number f.revisions.items) || removes_in s f v.number) f.revisions.items
    ≡ (is_some (find (λ r. may_scale_down s r p) (existing p)) || is_some (find (λ r. may_remove s r p) (existing p)))
ends-is s o p f known finds =
    ap (λ vs. list_any (λ v. scales_down_in s f (numbered v.number f.revisions.items) || removes_in s f v.number) vs) known.revisions
    ∙ ends-listed (revision_of s o p) (λ v. scales_down_in s f (numbered v.number f.revisions.items) || removes_in s f v.number) (λ r. may_scale_down s r p) (λ r. may_remove s r p) (existing p)
    (λ q. ap (λ n. scales_down_in s f (numbered n f.revisions.items) || removes_in s f n) (own-number s o p q)
    ∙ ap (λ b. b || removes_in s f q) (scales-down s o p f q known (finds q)) ∙ ap (λ b. may_scale_down s q p || b) (removes-is s o p f q known))

-- no allowed outcome is left undone
pub settled-is : (s : Strategy) (p : List Entry) (step ends : Bool) → step ≡ is_some (first_promotion s p)
    → ends ≡ (is_some (find (λ r. may_scale_down s r p) (existing p)) || is_some (find (λ r. may_remove s r p) (existing p)))
    → (not step && not ends) ≡ is_settled s p
settled-is s p step ends is_step is_end =
    ap (λ b. not b && not ends) is_step ∙ ap (λ b. not (is_some (first_promotion s p)) && not b) is_end
    ∙ sym (none-of (first_promotion s p) (find (λ r. may_scale_down s r p) (existing p)) (find (λ r. may_remove s r p) (existing p)) ScaledDown Removed)
