-- The numbers of revisions: which were given, and how many exist.
use Rattle.std.proofs.Common.{◌≡◌, ◌≤◌, ◌<◌, ◌+◌, ◌^◌, ℕ, Bool, true, false, not, cond, max, ◌==◌, ◌||◌, nat_le, List, [], ◌∷◌, length, Option, Some, None, is_some, refl, arith, sym, ◌∙◌, ◌⊎◌, inl, inr, le_trans}
use Rattle.std.specs.Option.{option_or}
use Rattle.std.proofs.lemmas.Bool.Decides.{nat_tests}
use Rattle.bg_strategy.specs.declared.strategy.Strategy.{Strategy}
use Rattle.bg_history.specs.declared.entry.Entry.{Entry}
use Rattle.bg_history.specs.declared.entry.Entry.TheVariants.{Tick, Deploy, Retry, Outcome}
use Rattle.bg_history.specs.declared.entry.Outcome.TheVariants.{Resumed, ScaledDown, Removed}
use Rattle.bg_history.specs.Kept.{Template, Opening}
use Rattle.bg_history.specs.AttemptBounds.{moment, newest_of}
use Rattle.bg_history.specs.Sizes.{put, existing, last_number, begins, at_least, desired, available, Ascends}
use Rattle.bg_history.specs.Deadlines.{exists_in}
use Rattle.bg_history.specs.Templates.{template}
use Rattle.bg_history.specs.Steps.{all_allowed}
use Rattle.bg_history_laws.proofs.Tests.{and_parts}
use Rattle.bg_history_laws.proofs.Reached.Existing.{exists-Deploy, exists-Removed, length-put, length-put_member, length-filtered}
use Rattle.bg_history_laws.proofs.Reached.Sizes.{available-most}
use Rattle.bg_history_laws.proofs.Reached.Allowing.{allowed_now, allowed_before, Returns, Begins, deployed, resumed-newest}

-- the newest revision's number was given
pub newest-given : (past : List Entry) → newest_of past ≤ last_number past
newest-given [] = omega arith
newest-given (Deploy r name ports ∷ before) = omega arith
newest-given (_ ∷ before) = newest-given before

-- the deployed number and the numbers before were given
either-given : (r q last : ℕ) (b : Bool) → ((q == r) || b) ≡ true → (b ≡ true → r ≤ last) → r ≤ max q last
either-given r q last true h rest = let le : r ≤ last = rest refl in omega arith
either-given r q last false h rest = grind (arith, nat_tests)

-- the number of an existing revision was given
pub given_to : (r : ℕ) (past : List Entry) → exists_in r past ≡ true → r ≤ last_number past
given_to r [] h = grind (arith, nat_tests)
given_to r (Deploy q name ports ∷ before) h =
    either-given r q (last_number before) (exists_in r before) (sym (exists-Deploy r q name ports before) ∙ h) (given_to r before)
given_to r (Outcome (Removed q) ∷ before) h =
    given_to r before (and_parts (not (r == q)) (exists_in r before) (sym (exists-Removed r q before) ∙ h)).1
given_to r (_ ∷ before) h = given_to r before h

-- a deploy has a number from 1 on if the existing revisions have
deployed_from : (o : Opening) (r q : ℕ) (name ports : List ℕ) (before : List Entry) → Returns o q name ports before ⊎ Begins o q name before
    → ((q == r) || exists_in r before) ≡ true → ((k : ℕ) → exists_in k before ≡ true → 1 ≤ k) → 1 ≤ r
deployed_from o r q name ports before d h rest = go (exists_in r before) refl d h where
  go : (b : Bool) → exists_in r before ≡ b → Returns o q name ports before ⊎ Begins o q name before → ((q == r) || b) ≡ true → 1 ≤ r
  go true is d h = rest r is
  go false is (inl x) h = let e : q ≡ r = grind (arith, nat_tests) in rw (← e) (rest q x.exists)
  go false is (inr x) h = let e : q ≡ r = grind (arith, nat_tests) in let next : q ≡ last_number before + 1 = x.next in omega arith

-- each existing revision has a number from 1 on
pub given_from : (s : Strategy) (o : Opening) (r : ℕ) (past : List Entry) → all_allowed s o past ≡ true → exists_in r past ≡ true → 1 ≤ r
given_from s o r [] a h = grind (arith, nat_tests)
given_from s o r (Deploy q name ports ∷ before) a h =
    deployed_from o r q name ports before (deployed s o q name ports before (allowed_now s o (Deploy q name ports) before a))
    (sym (exists-Deploy r q name ports before) ∙ h) (λ k. given_from s o k before (allowed_before s o (Deploy q name ports) before a))
given_from s o r (Outcome (Removed q) ∷ before) a h =
    given_from s o r before (allowed_before s o (Outcome (Removed q)) before a) (and_parts (not (r == q)) (exists_in r before) (sym (exists-Removed r q before) ∙ h)).1
given_from s o r (e ∷ before) a h = given_from s o r before (allowed_before s o e before a) h

-- a size of 0 that isn't raised is 0
at_least-same : (b : Bool) (n size : ℕ) → b ≡ false → size ≡ 0 → at_least b n size ≡ 0
at_least-same true n size is h = absurd (cc)
at_least-same false n size is h = h

-- a given number differs from one that wasn't given
other_number : (q r last : ℕ) → q ≤ last → last < r → (q == r) ≡ false
other_number q r last le lt = grind (arith, nat_tests)

-- a revision whose number wasn't given wants nothing
pub undeployed_size : (s : Strategy) (o : Opening) (r : ℕ) (past : List Entry) → all_allowed s o past ≡ true → last_number past < r → desired s r past ≡ 0
undeployed_size s o r [] a lt = let other : (r == 1) ≡ false = grind (arith, nat_tests) in rw other refl
undeployed_size s o r (Deploy q name ports ∷ before) a lt =
    let more : last_number before < r = omega arith in
    let other : (q == r) ≡ false = other_number q r (max q (last_number before)) (omega arith) lt in
    at_least-same (begins r (Deploy q name ports) before) s.preview_replicas (desired s r before) (rw other refl)
    (undeployed_size s o r before (allowed_before s o (Deploy q name ports) before a) more)
undeployed_size s o r (Retry ∷ before) a lt =
    let le : newest_of before ≤ last_number before = newest-given before in
    at_least-same (r == newest_of before) s.preview_replicas (desired s r before) (grind (arith, nat_tests))
    (undeployed_size s o r before (allowed_before s o Retry before a) lt)
undeployed_size s o r (Outcome (Resumed q) ∷ before) a lt =
    let le : newest_of before ≤ last_number before = newest-given before in
    let e : q ≡ newest_of before = resumed-newest s q before (allowed_now s o (Outcome (Resumed q)) before a) in
    at_least-same (q == r) s.replicas (desired s r before) (other_number q r (last_number before) (omega arith) lt)
    (undeployed_size s o r before (allowed_before s o (Outcome (Resumed q)) before a) lt)
undeployed_size s o r (Outcome (ScaledDown q) ∷ before) a lt = go (q == r) (undeployed_size s o r before (allowed_before s o (Outcome (ScaledDown q)) before a) lt) where
  go : (b : Bool) → desired s r before ≡ 0 → cond b 0 (desired s r before) ≡ 0
  go true h = refl
  go false h = h
undeployed_size s o r (e ∷ before) a lt = undeployed_size s o r before (allowed_before s o e before a) lt

-- so it has no available endpoint
pub undeployed_available : (s : Strategy) (o : Opening) (r : ℕ) (past : List Entry) → all_allowed s o past ≡ true → last_number past < r → available r past ≡ 0
undeployed_available s o r past a lt = omega (arith, available-most s o r past a, undeployed_size s o r past a lt)

-- so it has no template
pub undeployed_template : (o : Opening) (r : ℕ) (past : List Entry) → last_number past < r → template o r past ≡ None
undeployed_template o r [] lt = let other : (r == 1) ≡ false = grind (arith, nat_tests) in rw other refl
undeployed_template o r (Deploy q name ports ∷ before) lt =
    let more : last_number before < r = omega arith in
    let other : (q == r) ≡ false = other_number q r (max q (last_number before)) (omega arith) lt in
    go (template o r before) (q == r) (undeployed_template o r before more) other where
      go : (t : Option Template) (b : Bool) → t ≡ None → b ≡ false → option_or t (cond b (Some (record { name = name; ports = ports })) None) ≡ None
      go t true none is = absurd (cc)
      go None false none is = refl
      go (Some t) false none is = none
undeployed_template o r (_ ∷ before) lt = undeployed_template o r before lt

-- an existing revision has a template
pub templates : (o : Opening) (r : ℕ) (past : List Entry) → exists_in r past ≡ true → is_some (template o r past) ≡ true
templates o r [] h = let same : (r == 1) ≡ true = grind (arith, nat_tests) in rw same refl
templates o r (Deploy q name ports ∷ before) h =
    go (template o r before) (q == r) (exists_in r before) (sym (exists-Deploy r q name ports before) ∙ h) (templates o r before) where
      go : (t : Option Template) (b e : Bool) → b || e ≡ true → (e ≡ true → is_some t ≡ true)
          → is_some (option_or t (cond b (Some (record { name = name; ports = ports })) None)) ≡ true
      go (Some t) b e h rest = refl
      go None true e h rest = refl
      go None false e h rest = rest h
templates o r (Outcome (Removed q) ∷ before) h =
    templates o r before (and_parts (not (r == q)) (exists_in r before) (sym (exists-Removed r q before) ∙ h)).1
templates o r (_ ∷ before) h = templates o r before h

-- a deploy adds a revision only if there is room
few_deployed : (o : Opening) (r : ℕ) (name ports : List ℕ) (before : List Entry) → Returns o r name ports before ⊎ Begins o r name before → Ascends (existing before)
    → length (existing before) ≤ 64 → length (put r (existing before)) ≤ 64
few_deployed o r name ports before (inl x) ascends h = omega (arith, length-put_member r (existing before) ascends x.exists)
few_deployed o r name ports before (inr x) ascends h = let room : length (existing before) < 64 = x.room in omega (arith, length-put r (existing before))

-- at most 64 revisions exist
pub few : (s : Strategy) (o : Opening) (past : List Entry) → ((past : List Entry) → Ascends (existing past)) → all_allowed s o past ≡ true → length (existing past) ≤ 64
few s o [] ascends a = omega arith
few s o (Deploy r name ports ∷ before) ascends a =
    few_deployed o r name ports before (deployed s o r name ports before (allowed_now s o (Deploy r name ports) before a)) (ascends before)
    (few s o before ascends (allowed_before s o (Deploy r name ports) before a))
few s o (Outcome (Removed r) ∷ before) ascends a =
    le_trans (length-filtered (λ q. not (q == r)) (existing before)) (few s o before ascends (allowed_before s o (Outcome (Removed r)) before a))
few s o (e ∷ before) ascends a = few s o before ascends (allowed_before s o e before a)

-- a deploy gives at most one number
next_deployed : (o : Opening) (r n : ℕ) (name ports : List ℕ) (before : List Entry) → Returns o r name ports before ⊎ Begins o r name before
    → last_number before ≤ n → max r (last_number before) ≤ n + 1
next_deployed o r n name ports before (inl x) h = let le : r ≤ last_number before = given_to r before x.exists in omega arith
next_deployed o r n name ports before (inr x) h = let next : r ≡ last_number before + 1 = x.next in omega arith

-- the opening or an entry gave each number
pub numbers : (s : Strategy) (o : Opening) (past : List Entry) → all_allowed s o past ≡ true → last_number past ≤ 1 + length past
numbers s o [] a = omega arith
numbers s o (Deploy r name ports ∷ before) a =
    le_trans (next_deployed o r (1 + length before) name ports before (deployed s o r name ports before (allowed_now s o (Deploy r name ports) before a))
    (numbers s o before (allowed_before s o (Deploy r name ports) before a))) (omega arith)
numbers s o (e ∷ before) a = omega (arith, numbers s o before (allowed_before s o e before a))

-- no moment is above 2^53
pub moment-most : (s : Strategy) (o : Opening) (past : List Entry) → all_allowed s o past ≡ true → moment past ≤ 2 ^ 53
moment-most s o [] a = omega arith
moment-most s o (Tick m ∷ before) a =
    let most : nat_le m (2 ^ 53) ≡ true = (and_parts (nat_le (moment before) m) (nat_le m (2 ^ 53)) (allowed_now s o (Tick m) before a)).1 in
    grind (arith, nat_tests)
moment-most s o (e ∷ before) a = moment-most s o before (allowed_before s o e before a)
