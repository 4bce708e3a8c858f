-- The stamp of a revision after a past.
use Rattle.std.proofs.Common.{◌≡◌, ◌+◌, ℕ, Bool, true, false, cond, ◌==◌, List, [], ◌∷◌, length, Option, Some, None, is_some, refl, arith, ◌∙◌, ap, sym, inl, inr}
use Rattle.std.specs.List.{list_any}
use Rattle.std.specs.Option.{option_or, option_map}
use Rattle.std.proofs.lemmas.Bool.Decides.{nat_tests, eqb_tells}
use Rattle.bg_history.specs.declared.entry.Entry.{Entry}
use Rattle.bg_history.specs.declared.entry.Entry.TheVariants.{Deploy, Retry, Outcome}
use Rattle.bg_history.specs.declared.entry.Outcome.TheVariants.{Switched, ScaledDown}
use Rattle.bg_history.specs.AttemptBounds.{moment}
use Rattle.bg_history.specs.Marks.{MarkKind, Left, Superseded, Aborted, Cleared, Mark, kind_of, mark}
use Rattle.bg_history.specs.Deadlines.{deadline_of}
use Rattle.bg_strategy.specs.declared.strategy.Strategy.{Strategy}
use Rattle.bg_history.specs.declared.mark.Cause.TheVariants as cause
use Rattle.bg_history.specs.Tables.{Stamp, stamp_at, others, stamp_of, stamped, touched, stamp_all, stamps_of}

-- the stamp of r after a mark of that kind
abbrev pub after : Strategy → Option MarkKind → ℕ → ℕ → ℕ → Option Stamp → Option Stamp
after s None r at position stamp = stamp
after s (Some Left) r at position stamp = Some (stamp_at r cause.Left (at + s.delay) position)
after s (Some Superseded) r at position stamp = Some (stamp_at r cause.Superseded at position)
after s (Some Aborted) r at position stamp = Some (stamp_at r cause.Aborted (at + s.abort_delay) position)
after s (Some Cleared) r at position stamp = None

-- the stamp of the newest mark of r
abbrev pub live : Strategy → ℕ → Option Mark → Option Stamp
live s r None = None
live s r (Some m) = after s (Some m.kind) r m.moment m.position None

-- the stamps of other revisions have none of r
stamp_of-others_same : (r : ℕ) (stamps : List Stamp) → stamp_of r (others r stamps) ≡ None
stamp_of-others_same r [] = refl
stamp_of-others_same r (stamp ∷ stamps) = grind (arith, nat_tests, stamp_of-others_same r stamps)

-- among the stamps of revisions other than q, another revision keeps its own
stamp_of-others_other : (q r : ℕ) (stamps : List Stamp) → (q == r) ≡ false → stamp_of r (others q stamps) ≡ stamp_of r stamps
stamp_of-others_other q r [] ne = refl
stamp_of-others_other q r (stamp ∷ stamps) ne = grind (arith, nat_tests, stamp_of-others_other q r stamps ne)

-- a mark for r changes the stamp of r, and of no other revision
stamp_of-stamped_same : (s : Strategy) (k : Option MarkKind) (r at position : ℕ) (stamps : List Stamp) → stamp_of r (stamped s k r at position stamps) ≡ after s k r at position (stamp_of r stamps)
stamp_of-stamped_same s None r at position stamps = refl
stamp_of-stamped_same s (Some Left) r at position stamps = grind (arith, nat_tests)
stamp_of-stamped_same s (Some Superseded) r at position stamps = grind (arith, nat_tests)
stamp_of-stamped_same s (Some Aborted) r at position stamps = grind (arith, nat_tests)
stamp_of-stamped_same s (Some Cleared) r at position stamps = stamp_of-others_same r stamps

stamp_of-stamped_other : (s : Strategy) (k : Option MarkKind) (q r at position : ℕ) (stamps : List Stamp) → (q == r) ≡ false → stamp_of r (stamped s k q at position stamps) ≡ stamp_of r stamps
stamp_of-stamped_other s None q r at position stamps ne = refl
stamp_of-stamped_other s (Some Left) q r at position stamps ne = grind (arith, nat_tests, stamp_of-others_other q r stamps ne)
stamp_of-stamped_other s (Some Superseded) q r at position stamps ne = grind (arith, nat_tests, stamp_of-others_other q r stamps ne)
stamp_of-stamped_other s (Some Aborted) q r at position stamps ne = grind (arith, nat_tests, stamp_of-others_other q r stamps ne)
stamp_of-stamped_other s (Some Cleared) q r at position stamps ne = stamp_of-others_other q r stamps ne

-- an entry marks only the revisions that it touches
untouched : (s : Strategy) (r : ℕ) (e : Entry) (before : List Entry) → list_any (λ q. q == r) (touched e before) ≡ false → kind_of s r e before ≡ None
untouched s r (Deploy q name ports) before out = grind (arith, nat_tests)
untouched s r Retry before out = grind (arith, nat_tests)
untouched s r (Outcome (Switched q)) before out = grind (arith, nat_tests)
untouched s r (Outcome (ScaledDown q)) before out = grind (arith, nat_tests)
untouched s r e before out = grind (arith, nat_tests)

-- a mark that occurs twice counts once
after_twice : (s : Strategy) (k : Option MarkKind) (r at position : ℕ) (stamp : Option Stamp) → after s k r at position (after s k r at position stamp) ≡ after s k r at position stamp
after_twice s None r at position stamp = refl
after_twice s (Some Left) r at position stamp = refl
after_twice s (Some Superseded) r at position stamp = refl
after_twice s (Some Aborted) r at position stamp = refl
after_twice s (Some Cleared) r at position stamp = refl

after_cond : (s : Strategy) (b : Bool) (k : Option MarkKind) (r at position : ℕ) (stamp : Option Stamp) → after s k r at position (cond b (after s k r at position stamp) stamp) ≡ after s k r at position stamp
after_cond s true k r at position stamp = after_twice s k r at position stamp
after_cond s false k r at position stamp = refl

-- the stamp of r after an entry, with its effect on these revisions
abbrev renewed : Strategy → ℕ → Entry → List Entry → List ℕ → Option Stamp → Option Stamp
renewed s r e before qs stamp = cond (list_any (λ q. q == r) qs) (after s (kind_of s r e before) r (moment (e ∷ before)) (length before) stamp) stamp

-- one more revision to mark: r itself or another one
stamp_of-stamp_here : (s : Strategy) (r : ℕ) (e : Entry) (before : List Entry) (q : ℕ) (qs : List ℕ) (stamps : List Stamp) → (q == r) ≡ true → q ≡ r
    → stamp_of r (stamp_all s e before qs stamps) ≡ renewed s r e before qs (stamp_of r stamps)
    → stamp_of r (stamp_all s e before (q ∷ qs) stamps) ≡ renewed s r e before (q ∷ qs) (stamp_of r stamps)
stamp_of-stamp_here s r e before q qs stamps same is below =
    rw (same, is, stamp_of-stamped_same s (kind_of s r e before) r (moment (e ∷ before)) (length before) (stamp_all s e before qs stamps), below)
    (after_cond s (list_any (λ q. q == r) qs) (kind_of s r e before) r (moment (e ∷ before)) (length before) (stamp_of r stamps))

stamp_of-stamp_there : (s : Strategy) (r : ℕ) (e : Entry) (before : List Entry) (q : ℕ) (qs : List ℕ) (stamps : List Stamp) → (q == r) ≡ false
    → stamp_of r (stamp_all s e before qs stamps) ≡ renewed s r e before qs (stamp_of r stamps)
    → stamp_of r (stamp_all s e before (q ∷ qs) stamps) ≡ renewed s r e before (q ∷ qs) (stamp_of r stamps)
stamp_of-stamp_there s r e before q qs stamps other below =
    rw (other, stamp_of-stamped_other s (kind_of s q e before) q r (moment (e ∷ before)) (length before) (stamp_all s e before qs stamps) other) below

-- the stamp of r after several marks of one entry
stamp_of-stamp_all : (s : Strategy) (r : ℕ) (e : Entry) (before : List Entry) (qs : List ℕ) (stamps : List Stamp)
    → stamp_of r (stamp_all s e before qs stamps)
    ≡ renewed s r e before qs (stamp_of r stamps)
stamp_of-stamp_all s r e before [] stamps = refl
stamp_of-stamp_all s r e before (q ∷ qs) stamps =
    elim (eqb_tells q r) [
      | inl h ↦ stamp_of-stamp_here s r e before q qs stamps h.0 h.1 (stamp_of-stamp_all s r e before qs stamps)
      | inr h ↦ stamp_of-stamp_there s r e before q qs stamps h.0 (stamp_of-stamp_all s r e before qs stamps)
    ]

-- the stamp of r after one more entry
stamp_of-step : (s : Strategy) (r : ℕ) (e : Entry) (before : List Entry)
    → stamp_of r (stamps_of s (e ∷ before)) ≡ after s (kind_of s r e before) r (moment (e ∷ before)) (length before) (stamp_of r (stamps_of s before))
stamp_of-step s r e before =
    stamp_of-stamp_all s r e before (touched e before) (stamps_of s before)
    ∙ settled s r e before (list_any (λ q. q == r) (touched e before)) (untouched s r e before) where
      settled : (s : Strategy) (r : ℕ) (e : Entry) (before : List Entry) (b : Bool) → (b ≡ false → kind_of s r e before ≡ None)
          → cond b (after s (kind_of s r e before) r (moment (e ∷ before)) (length before) (stamp_of r (stamps_of s before))) (stamp_of r (stamps_of s before))
          ≡ after s (kind_of s r e before) r (moment (e ∷ before)) (length before) (stamp_of r (stamps_of s before))
      settled s r e before true none = refl
      settled s r e before false none = rw (none refl) refl

-- one more mark becomes the newest one
live_step : (s : Strategy) (k : Option MarkKind) (r at position : ℕ) (m : Option Mark)
    → live s r (option_or (option_map (λ kind. record { kind = kind; moment = at; position = position }) k) m) ≡ after s k r at position (live s r m)
live_step s None r at position m = refl
live_step s (Some Left) r at position m = refl
live_step s (Some Superseded) r at position m = refl
live_step s (Some Aborted) r at position m = refl
live_step s (Some Cleared) r at position m = refl

-- after a past, each revision has the stamp of its newest mark
pub stamp_of-past : (s : Strategy) (r : ℕ) (past : List Entry) → stamp_of r (stamps_of s past) ≡ live s r (mark s r past)
stamp_of-past s r [] = refl
stamp_of-past s r (e ∷ before) =
    stamp_of-step s r e before
    ∙ ap (λ stamp. after s (kind_of s r e before) r (moment (e ∷ before)) (length before) stamp) (stamp_of-past s r before)
    ∙ sym (live_step s (kind_of s r e before) r (moment (e ∷ before)) (length before) (mark s r before))

-- a revision has a deadline if its newest mark makes a stamp
pub live-deadline : (s : Strategy) (r : ℕ) (m : Option Mark) → is_some (deadline_of s m) ≡ is_some (live s r m)
live-deadline s r None = refl
live-deadline s r (Some m) = go m.kind m.moment m.position where
  go : (k : MarkKind) (at position : ℕ) → is_some (deadline_of s (Some (record { kind = k; moment = at; position = position }))) ≡ is_some (live s r (Some (record { kind = k; moment = at; position = position })))
  go Left at position = refl
  go Superseded at position = refl
  go Aborted at position = refl
  go Cleared at position = refl
