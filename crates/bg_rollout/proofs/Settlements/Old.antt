-- Which revisions of the roster are old.
use Rattle.std.proofs.Common.{◌≡◌, ◌+◌, ◌<◌, ◌≤◌, ℕ, Bool, true, false, not, cond, ◌==◌, ◌&&◌, ◌||◌, nat_lt, nat_le, List, [], ◌∷◌, ◌++◌, length, map, filter, find, take, get_or, Option, Some, None, refl, ap, sym, ◌∙◌, arith, length-append}
use Rattle.std.specs.Option.{option_map}
use Rattle.std.proofs.lemmas.Bool.Decides.{nat_tests}
use Rattle.std.proofs.lemmas.List.Elements.{filter_more}
use Rattle.bg_strategy.specs.declared.strategy.Strategy.{Strategy}
use Rattle.bg_revisions.specs.declared.revision.Revision.{Revision}
use Rattle.bg_revisions.specs.declared.revision.Selectors.{Selectors}
use Rattle.bg_history.specs.declared.entry.Entry.{Entry}
use Rattle.bg_history.specs.Kept.{Opening}
use Rattle.bg_history.specs.AttemptBounds.{stable_of, newest_of}
use Rattle.bg_history.specs.Selections.{active_of, preview_of, selectors_of}
use Rattle.bg_history.specs.Sizes.{existing, desired, is_scaled}
use Rattle.bg_history.specs.Deadlines.{is_old, old_revisions}
use Rattle.bg_history_laws.specs.Listed.{revision_of, revisions_of}
use Rattle.bg_history_laws.specs.Removals.{first_of}
use Rattle.bg_rollout.specs.Settling.{old_among}
use Rattle.bg_rollout.proofs.ControlEvents.Events.{wants, is_numbered}

-- the number of elements that pass, with one more element
pub counted_more : (p : Revision → Bool) (revisions : List Revision) (i : ℕ) (d : Revision) (b : Bool) → i < length revisions → p (get_or revisions i d) ≡ b
    → length (filter p (take (i + 1) revisions)) ≡ length (filter p (take i revisions)) + cond b 1 0
counted_more p revisions i d b within is =
    ap length (filter_more p revisions i d within ∙ ap (λ t. filter p (take i revisions) ++ cond t (get_or revisions i d ∷ []) []) is)
    ∙ length-append (filter p (take i revisions)) (cond b (get_or revisions i d ∷ []) []) ∙ one b
  where
    one : (b : Bool) → length (filter p (take i revisions)) + length (cond b (get_or revisions i d ∷ []) []) ≡ length (filter p (take i revisions)) + cond b 1 0
    one true = refl
    one false = refl

unscaled : (n : ℕ) → (n == 0) ≡ not (nat_le 1 n)
unscaled n = grind (arith, nat_tests)

split : (a b c d e : Bool) → (a && not b && not c && not d && not e) ≡ (a && not (b || c || d) && not e)
split true true c d e = refl
split true false true d e = refl
split true false false true e = refl
split true false false false e = refl
split false b c d e = refl

-- a revision is old in the roster if it is old in the past
pub old_is_old : (s : Strategy) (o : Opening) (past : List Entry) (r : ℕ) → old_among (selectors_of past) (revision_of s o past r) ≡ is_old s past r
old_is_old s o past r =
    ap (λ (n : ℕ). ((revision_of s o past r).desired == 0) && not (n == active_of past) && not (n == preview_of past) && not (n == stable_of past) && not (n == newest_of past)) (is_numbered s o past r)
    ∙ ap (λ (n : ℕ). (n == 0) && not (r == active_of past) && not (r == preview_of past) && not (r == stable_of past) && not (r == newest_of past)) (wants s o past r)
    ∙ ap (λ t. t && not (r == active_of past) && not (r == preview_of past) && not (r == stable_of past) && not (r == newest_of past)) (unscaled (desired s r past))
    ∙ split (not (is_scaled s r past)) (r == active_of past) (r == preview_of past) (r == stable_of past) (r == newest_of past)

-- so the old revisions of the roster are those of the past
count_map : (f : ℕ → Revision) (p : Revision → Bool) (q : ℕ → Bool) (xs : List ℕ) → ((r : ℕ) → p (f r) ≡ q r) → length (filter p (map f xs)) ≡ length (filter q xs)
count_map f p q [] same = refl
count_map f p q (x ∷ xs) same = go (p (f x)) (q x) (same x) (count_map f p q xs same) where
  go : (a b : Bool) → a ≡ b → length (filter p (map f xs)) ≡ length (filter q xs) → length (cond a (f x ∷ filter p (map f xs)) (filter p (map f xs))) ≡ length (cond b (x ∷ filter q xs) (filter q xs))
  go true true e rest = omega (arith, rest)
  go true false e rest = absurd (cc)
  go false true e rest = absurd (cc)
  go false false e rest = rest

first_map : (f : ℕ → Revision) (p : Revision → Bool) (q : ℕ → Bool) (xs : List ℕ) → ((r : ℕ) → p (f r) ≡ q r) → ((r : ℕ) → (f r).number ≡ r)
    → option_map (λ (v : Revision). v.number) (find p (map f xs)) ≡ first_of (filter q xs)
first_map f p q [] same numbered = refl
first_map f p q (x ∷ xs) same numbered = go (p (f x)) (q x) (same x) (first_map f p q xs same numbered) where
  go : (a b : Bool) → a ≡ b → option_map (λ (v : Revision). v.number) (find p (map f xs)) ≡ first_of (filter q xs)
      → option_map (λ (v : Revision). v.number) (cond a (Some (f x)) (find p (map f xs))) ≡ first_of (cond b (x ∷ filter q xs) (filter q xs))
  go true true e rest = ap Some (numbered x)
  go true false e rest = absurd (cc)
  go false true e rest = absurd (cc)
  go false false e rest = rest

pub old_counted : (s : Strategy) (o : Opening) (past : List Entry) (revisions : List Revision) (x : Selectors) → revisions ≡ revisions_of s o past → x ≡ selectors_of past
    → length (filter (old_among x) revisions) ≡ length (old_revisions s past)
old_counted s o past revisions x is selected =
    ap (λ (vs : List Revision). length (filter (old_among x) vs)) is ∙ ap (λ (y : Selectors). length (filter (old_among y) (revisions_of s o past))) selected
    ∙ count_map (revision_of s o past) (old_among (selectors_of past)) (is_old s past) (existing past) (old_is_old s o past)

pub old_first : (s : Strategy) (o : Opening) (past : List Entry) (revisions : List Revision) (x : Selectors) → revisions ≡ revisions_of s o past → x ≡ selectors_of past
    → option_map (λ (v : Revision). v.number) (find (old_among x) revisions) ≡ first_of (old_revisions s past)
old_first s o past revisions x is selected =
    ap (λ (vs : List Revision). option_map (λ (v : Revision). v.number) (find (old_among x) vs)) is
    ∙ ap (λ (y : Selectors). option_map (λ (v : Revision). v.number) (find (old_among y) (revisions_of s o past))) selected
    ∙ first_map (revision_of s o past) (old_among (selectors_of past)) (is_old s past) (existing past) (old_is_old s o past) (is_numbered s o past)

-- the next revision to remove: the first of the old ones, if there are more than the strategy keeps
pub none_removed : (limit n : ℕ) (olds : List ℕ) (next : Option ℕ) → next ≡ cond (nat_lt limit (length olds)) (first_of olds) None → n ≡ length olds → n ≤ limit → None ≡ next
none_removed limit n olds next is count few =
    let within : nat_lt limit (length olds) ≡ false = rw (← count) (grind (arith, nat_tests)) in
    sym (is ∙ ap (λ t. cond t (first_of olds) None) within)

pub first_removed : (limit n : ℕ) (olds : List ℕ) (next : Option ℕ) → next ≡ cond (nat_lt limit (length olds)) (first_of olds) None → n ≡ length olds → limit < n → first_of olds ≡ next
first_removed limit n olds next is count more =
    let above : nat_lt limit (length olds) ≡ true = rw (← count) (grind (arith, nat_tests)) in
    sym (is ∙ ap (λ t. cond t (first_of olds) None) above)
