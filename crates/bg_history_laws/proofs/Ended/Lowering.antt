-- Entries that make no revision due.
use Rattle.std.proofs.Common.{◌≡◌, ◌≤◌, ℕ, Bool, true, false, not, cond, ◌==◌, ◌&&◌, ◌||◌, List, ◌∷◌, count_by, Option, Some, None, refl, arith, sym, ◌∙◌, ap}
use Rattle.std.proofs.lemmas.Bool.Decides.{nat_tests}
use Rattle.bg_history.specs.declared.entry.Entry.{Entry}
use Rattle.bg_history.specs.declared.entry.Entry.TheVariants.{Enter, Leave, Outcome}
use Rattle.bg_history.specs.declared.entry.Outcome.TheVariants.{ScaledDown, Removed}
use Rattle.bg_revisions.specs.declared.revision.Service.{Service}
use Rattle.bg_strategy.specs.declared.strategy.Strategy.{Strategy}
use Rattle.bg_history.specs.AttemptBounds.{moment, is_halt}
use Rattle.bg_history.specs.Selections.{active_of}
use Rattle.bg_history.specs.Sizes.{existing, begins}
use Rattle.bg_history.specs.Requests.{open_at}
use Rattle.bg_history.specs.Marks.{Left, Cleared, Mark, supersedes, scales_down, kind_of, mark}
use Rattle.bg_history.specs.Deadlines.{time_of, exists_in, is_spare, is_left, left_later, rank_after, reaches_limit, is_reached, marks_due, is_due, is_empty, may_scale_down}
use Rattle.bg_history_laws.proofs.Ended.Counts.{count-fewer, count-filter, member-part}

-- an entry that makes no revision due: a spare revision after it was spare before, with the same mark
pub record IsCalm (s : Strategy) (e : Entry) (before : List Entry) : Type 0 where
  pub moment_is : moment (e ∷ before) ≡ moment before
  pub existed : (q : ℕ) → exists_in q (e ∷ before) ≡ true → exists_in q before ≡ true
  pub no_more : (p : ℕ → Bool) → count_by p (existing (e ∷ before)) ≤ count_by p (existing before)
  pub was_spare : (q : ℕ) → is_spare s q (e ∷ before) ≡ true → is_spare s q before ≡ true
  pub mark_is : (q : ℕ) → is_spare s q (e ∷ before) ≡ true → mark s q (e ∷ before) ≡ mark s q before

-- the parts of a conjunction
pub both : (a b : Bool) → a && b ≡ true → (a ≡ true) × (b ≡ true)
both true b h = (refl, h)
both false b h = absurd (cc)

-- no rank increases
rank-calm : (s : Strategy) (position : ℕ) (e : Entry) (before : List Entry) → IsCalm s e before → rank_after s position (e ∷ before) ≤ rank_after s position before
rank-calm s position e before calm =
    let after : ℕ → Bool = λ q. is_spare s q (e ∷ before) && left_later position (mark s q (e ∷ before)) in
    let earlier : ℕ → Bool = λ q. is_spare s q before && left_later position (mark s q before) in
    let fewer : count_by after (existing (e ∷ before)) ≤ count_by earlier (existing (e ∷ before))
    = count-fewer earlier after (existing (e ∷ before)) (λ q h.
    let parts = both (is_spare s q (e ∷ before)) (left_later position (mark s q (e ∷ before))) h in
    let later : left_later position (mark s q before) ≡ true = ap (λ m. left_later position m) (sym (calm.mark_is q parts.0)) ∙ parts.1 in
    rw (calm.was_spare q parts.0, later) refl) in
    omega (arith, fewer, calm.no_more earlier)

-- a greater number reaches the limit, too
over-more : (limit : Option ℕ) (n m : ℕ) → n ≤ m → reaches_limit limit n ≡ true → reaches_limit limit m ≡ true
over-more None n m le h = h
over-more (Some limit) n m le h = grind (arith, nat_tests)

-- a test that holds for more makes a choice of two hold for more
either-more : (a b c d : Bool) → (b ≡ true → d ≡ true) → a || (c && b) ≡ true → a || (c && d) ≡ true
either-more true b c d more h = refl
either-more false b true d more h = more h
either-more false b false d more h = h

-- if a mark makes its revision due, it did so before
marks_due-calm : (s : Strategy) (m : Option Mark) (e : Entry) (before : List Entry) → IsCalm s e before → marks_due s m (e ∷ before) ≡ true → marks_due s m before ≡ true
marks_due-calm s None e before calm h = h
marks_due-calm s (Some m) e before calm h =
    let now : is_reached (time_of s m.kind m.moment) (moment before) || (is_left m.kind && reaches_limit s.revision_limit (rank_after s m.position (e ∷ before))) ≡ true
    = ap (λ t. is_reached (time_of s m.kind m.moment) t || (is_left m.kind && reaches_limit s.revision_limit (rank_after s m.position (e ∷ before)))) (sym calm.moment_is) ∙ h in
    either-more (is_reached (time_of s m.kind m.moment) (moment before)) (reaches_limit s.revision_limit (rank_after s m.position (e ∷ before))) (is_left m.kind) (reaches_limit s.revision_limit (rank_after s m.position before))
    (over-more s.revision_limit (rank_after s m.position (e ∷ before)) (rank_after s m.position before) (rank-calm s m.position e before calm)) now

-- a revision that is due was due before
due-calm : (s : Strategy) (q : ℕ) (e : Entry) (before : List Entry) → IsCalm s e before → is_due s q (e ∷ before) ≡ true → is_due s q before ≡ true
due-calm s q e before calm h =
    let two = both (exists_in q (e ∷ before) && is_spare s q (e ∷ before)) (marks_due s (mark s q (e ∷ before)) (e ∷ before)) h in
    let one = both (exists_in q (e ∷ before)) (is_spare s q (e ∷ before)) two.0 in
    let due : marks_due s (mark s q before) (e ∷ before) ≡ true = ap (λ m. marks_due s m (e ∷ before)) (sym (calm.mark_is q one.1)) ∙ two.1 in
    rw (calm.existed q one.0, calm.was_spare q one.1, marks_due-calm s (mark s q before) e before calm due) refl

-- two tests that didn't both hold before don't both hold now, if each implies the one before
still-fails : (a b c d : Bool) → (a ≡ true → c ≡ true) → (b ≡ true → d ≡ true) → c && d ≡ false → a && b ≡ false
still-fails true true c d first second h = let e : c ≡ true = first refl in let f : d ≡ true = second refl in absurd (grind arith)
still-fails true false c d first second h = refl
still-fails false b c d first second h = refl

-- a revision that may not be scaled down still may not, if none of its open requests left
pub not-lowered : (s : Strategy) (q : ℕ) (e : Entry) (before : List Entry) → IsCalm s e before → (is_empty (open_at q (e ∷ before)) ≡ true → is_empty (open_at q before) ≡ true)
    → may_scale_down s q before ≡ false → may_scale_down s q (e ∷ before) ≡ false
not-lowered s q e before calm empty fails =
    still-fails (is_due s q (e ∷ before)) (is_empty (open_at q (e ∷ before))) (is_due s q before) (is_empty (open_at q before)) (due-calm s q e before calm) empty fails

-- an entry marks only revisions that it selects, begins, supersedes, halts or scales down
unmarked : (s : Strategy) (q : ℕ) (e : Entry) (before : List Entry) → active_of (e ∷ before) ≡ active_of before → begins q e before ≡ false → supersedes s q e before ≡ false
    → scales_down q e ≡ false → is_halt e ≡ false → mark s q (e ∷ before) ≡ mark s q before
unmarked s q e before active begin supersede lower halt =
    let none : kind_of s q e before ≡ None = rw (active, begin, supersede, lower, halt) (by-active (active_of before == q)) in
    rw none refl where
      by-active : (a : Bool) → cond (a && not a && true) (Some Left) (cond (not a && a || false || false) (Some Cleared) None) ≡ None
      by-active true = refl
      by-active false = refl

-- a request that enters
pub enter-calm : (s : Strategy) (seat : ℕ) (service : Service) (number r port : ℕ) (before : List Entry) → IsCalm s (Enter seat service number r port) before
enter-calm s seat service number r port before = record {
  moment_is = refl;
  existed = λ q h. h;
  no_more = λ p. omega arith;
  was_spare = λ q h. h;
  mark_is = λ q h. unmarked s q (Enter seat service number r port) before refl refl refl refl refl;
}

-- a request that leaves
pub leave-calm : (s : Strategy) (seat number r : ℕ) (before : List Entry) → IsCalm s (Leave seat number r) before
leave-calm s seat number r before = record {
  moment_is = refl;
  existed = λ q h. h;
  no_more = λ p. omega arith;
  was_spare = λ q h. h;
  mark_is = λ q h. unmarked s q (Leave seat number r) before refl refl refl refl refl;
}

-- a revision that is removed
pub removed-calm : (s : Strategy) (r : ℕ) (before : List Entry) → IsCalm s (Outcome (Removed r)) before
removed-calm s r before = record {
  moment_is = refl;
  existed = λ q h. member-part (λ p. not (p == r)) q (existing before) h;
  no_more = λ p. count-filter p (λ q. not (q == r)) (existing before);
  was_spare = λ q h. h;
  mark_is = λ q h. unmarked s q (Outcome (Removed r)) before refl refl refl refl refl;
}

-- a revision that is still spare is another one, and was spare
spare-other : (s : Strategy) (q r : ℕ) (before : List Entry) → is_spare s q (Outcome (ScaledDown r) ∷ before) ≡ true → ((r == q) ≡ false) × (is_spare s q before ≡ true)
spare-other s q r before h = (grind (arith, nat_tests), grind (arith, nat_tests))

-- a revision that is scaled down
pub scaled_down-calm : (s : Strategy) (r : ℕ) (before : List Entry) → IsCalm s (Outcome (ScaledDown r)) before
scaled_down-calm s r before = record {
  moment_is = refl;
  existed = λ q h. h;
  no_more = λ p. omega arith;
  was_spare = λ q h. (spare-other s q r before h).1;
  mark_is = λ q h. unmarked s q (Outcome (ScaledDown r)) before refl refl refl (spare-other s q r before h).0 refl;
}
