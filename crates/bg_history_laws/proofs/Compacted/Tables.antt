-- A past and the compacted past make the same table of marks.
use Rattle.std.proofs.Common.{◌≡◌, ℕ, Bool, true, false, not, cond, ◌==◌, List, [], ◌∷◌, length, filter, Option, Some, None, refl, ap, sym, ◌∙◌}
use Rattle.bg_history.specs.declared.entry.Entry.{Entry}
use Rattle.bg_history.specs.declared.entry.Entry.TheVariants.{Tick, Deploy, Retry, Enter, Leave, Outcome}
use Rattle.bg_history.specs.declared.entry.Outcome.TheVariants.{Switched, ScaledDown}
use Rattle.bg_strategy.specs.declared.strategy.Strategy.{Strategy}
use Rattle.bg_history.specs.Kept.{Opening}
use Rattle.bg_history.specs.AttemptBounds.{moment, stable_of, newest_of}
use Rattle.bg_history.specs.Selections.{active_of}
use Rattle.bg_history.specs.Marks.{MarkKind, Left, Superseded, Aborted, Cleared, kind_of}
use Rattle.bg_history.specs.Tables.{Stamp, stamped, others, touched, stamp_all, stamps_of, marks_of, table_of}
use Rattle.bg_history.specs.Compacted.{without, untick, thin, compacted, left_numbers, is_among}
use Rattle.bg_history_laws.specs.Alike.{Alike}
use Rattle.bg_history_laws.proofs.Compacted.Steps.{active-both}
use Rattle.bg_history_laws.proofs.Compacted.Marks.{kinds-both}
use Rattle.bg_history_laws.proofs.Compacted.Without.{without-moment, without-alike}
use Rattle.bg_history_laws.proofs.Compacted.Thin.{thin-moment, thin-alike}

others-marks : (q : ℕ) (stamps : List Stamp) → marks_of (others q stamps) ≡ filter (λ m. not (m.revision == q)) (marks_of stamps)
others-marks q [] = refl
others-marks q (x ∷ xs) = go (x.mark.revision == q) (others-marks q xs) where
  go : (b : Bool) → marks_of (others q xs) ≡ filter (λ m. not (m.revision == q)) (marks_of xs)
      → marks_of (cond (not b) (x ∷ others q xs) (others q xs)) ≡ cond (not b) (x.mark ∷ filter (λ m. not (m.revision == q)) (marks_of xs)) (filter (λ m. not (m.revision == q)) (marks_of xs))
  go true h = h
  go false h = ap (λ t. x.mark ∷ t) h

others-both : (q : ℕ) (x y : List Stamp) → marks_of x ≡ marks_of y → marks_of (others q x) ≡ marks_of (others q y)
others-both q x y h = others-marks q x ∙ ap (filter (λ m. not (m.revision == q))) h ∙ sym (others-marks q y)

stamped-both : (s : Strategy) (k : Option MarkKind) (q at n p : ℕ) (x y : List Stamp) → marks_of x ≡ marks_of y → marks_of (stamped s k q at n x) ≡ marks_of (stamped s k q at p y)
stamped-both s None q at n p x y h = h
stamped-both s (Some Left) q at n p x y h = rw (others-both q x y h) refl
stamped-both s (Some Superseded) q at n p x y h = rw (others-both q x y h) refl
stamped-both s (Some Aborted) q at n p x y h = rw (others-both q x y h) refl
stamped-both s (Some Cleared) q at n p x y h = others-both q x y h

stamp_all-both : (s : Strategy) (e : Entry) (a b : List Entry) (qs : List ℕ) (x y : List Stamp) → ((r : ℕ) → kind_of s r e a ≡ kind_of s r e b) → moment (e ∷ a) ≡ moment (e ∷ b) → marks_of x ≡ marks_of y
    → marks_of (stamp_all s e a qs x) ≡ marks_of (stamp_all s e b qs y)
stamp_all-both s e a b [] x y kinds now h = h
stamp_all-both s e a b (q ∷ qs) x y kinds now h =
    stamped-both s (kind_of s q e a) q (moment (e ∷ a)) (length a) (length b) (stamp_all s e a qs x) (stamp_all s e b qs y) (stamp_all-both s e a b qs x y kinds now h)
    ∙ ap (λ k. marks_of (stamped s k q (moment (e ∷ a)) (length b) (stamp_all s e b qs y))) (kinds q)
    ∙ ap (λ t. marks_of (stamped s (kind_of s q e b) q t (length b) (stamp_all s e b qs y))) now

touched-both : (e : Entry) (a b : List Entry) → stable_of a ≡ stable_of b → newest_of a ≡ newest_of b → active_of a ≡ active_of b → touched e a ≡ touched e b
touched-both (Deploy r name ports) a b st new act = rw (act, new) refl
touched-both Retry a b st new act = rw new refl
touched-both (Outcome (Switched r)) a b st new act = rw act refl
touched-both (Outcome (ScaledDown r)) a b st new act = refl
touched-both e a b st new act = cc

table-both : {s : Strategy} {o : Opening} {a b : List Entry} → (e : Entry) → Alike s o a b → moment (e ∷ a) ≡ moment (e ∷ b) → marks_of (stamps_of s a) ≡ marks_of (stamps_of s b)
    → marks_of (stamps_of s (e ∷ a)) ≡ marks_of (stamps_of s (e ∷ b))
table-both {s} {o} {a} {b} e h now t =
    stamp_all-both s e a b (touched e a) (stamps_of s a) (stamps_of s b) (kinds-both s e a b h.stable h.newest h.active (active-both e a b h.stable h.active) h.size) now t
    ∙ ap (λ qs. marks_of (stamp_all s e b qs (stamps_of s b))) (touched-both e a b h.stable h.newest h.active)

without-table : (s : Strategy) (o : Opening) (gone : ℕ → Bool) (past : List Entry) → marks_of (stamps_of s past) ≡ marks_of (stamps_of s (without gone past))
without-table s o gone [] = refl
without-table s o gone (Tick m ∷ before) = without-table s o gone before
without-table s o gone (Enter seat service number r port ∷ before) = go (gone number) (without-table s o gone before) where
  go : (b : Bool) → marks_of (stamps_of s before) ≡ marks_of (stamps_of s (without gone before))
      → marks_of (stamps_of s before) ≡ marks_of (stamps_of s (cond (not b) (Enter seat service number r port ∷ without gone before) (without gone before)))
  go true h = h
  go false h = h
without-table s o gone (Leave seat number r ∷ before) = go (gone number) (without-table s o gone before) where
  go : (b : Bool) → marks_of (stamps_of s before) ≡ marks_of (stamps_of s (without gone before))
      → marks_of (stamps_of s before) ≡ marks_of (stamps_of s (cond (not b) (Leave seat number r ∷ without gone before) (without gone before)))
  go true h = h
  go false h = h
without-table s o gone (e ∷ before) = table-both e (without-alike s o gone before) (without-moment gone before) (without-table s o gone before)

untick-table : (s : Strategy) (past : List Entry) → marks_of (stamps_of s (untick past)) ≡ marks_of (stamps_of s past)
untick-table s [] = refl
untick-table s (Tick m ∷ before) = refl
untick-table s (e ∷ before) = refl

thin-table : (s : Strategy) (o : Opening) (past : List Entry) → marks_of (stamps_of s past) ≡ marks_of (stamps_of s (thin past))
thin-table s o [] = refl
thin-table s o (Tick m ∷ before) = thin-table s o before ∙ sym (untick-table s (thin before))
thin-table s o (e ∷ before) = table-both e (thin-alike s o before) (thin-moment before) (thin-table s o before)

pub table-same : (s : Strategy) (o : Opening) (past : List Entry) → table_of s (compacted past) ≡ table_of s past
table-same s o past =
    let g : ℕ → Bool = is_among (left_numbers past) in
    ap (λ t. record { delay = s.delay; abort_delay = s.abort_delay; limit = s.revision_limit; marks = t }) (sym (without-table s o g past ∙ thin-table s o (without g past)))

-- the same without the entries of some requests
pub table-without : (s : Strategy) (o : Opening) (gone : ℕ → Bool) (past : List Entry) → table_of s (without gone past) ≡ table_of s past
table-without s o gone past =
    ap (λ t. record { delay = s.delay; abort_delay = s.abort_delay; limit = s.revision_limit; marks = t }) (sym (without-table s o gone past))
