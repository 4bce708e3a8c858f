-- Lemmas on pasts without superseded ticks.
use Rattle.std.proofs.Common.{◌≡◌, ℕ, Bool, true, List, [], ◌∷◌, ◌++◌, reverse, refl, sym, ap, ◌∙◌, subst}
use Rattle.std.proofs.lemmas.List.{reverse-append}
use Rattle.std.specs.Prelude.{not}
use Rattle.std.specs.List.{list_all}
use Rattle.std.proofs.lemmas.Bool.{and_parts}
use Rattle.bg_strategy.specs.declared.strategy.Strategy.{Strategy}
use Rattle.bg_history.specs.declared.entry.Entry.{Entry}
use Rattle.bg_history.specs.declared.entry.Entry.TheVariants.{Tick, Enter, Leave}
use Rattle.bg_history.specs.Kept.{Opening}
use Rattle.bg_history.specs.Compacted.{closed_after, compacted, is_among, left_numbers, raised, thin, without}
use Rattle.bg_history.specs.Requests.{calls_of}
use Rattle.bg_history.specs.Steps.{IsLegal}
use Rattle.bg_history.specs.Tables.{table_of}
use Rattle.bg_history_laws.specs.Compaction.{Compacts}
use Rattle.bg_history_laws.specs.Journaled.{is_of_request}
use Rattle.bg_journal.specs.Ticks.{KeepsWithoutTicks, left_by}

-- one more entry, of which the superseded tick is dropped
pub thin_step : (e : Entry) (before : List Entry) → thin (e ∷ before) ≡ e ∷ left_by e (thin before)
thin_step (Tick m) before = refl
thin_step e before = refl

abbrev pub no_request : List Entry → Bool
no_request past = list_all (λ e. not (is_of_request e)) past

no_left : (past : List Entry) → no_request past ≡ true → left_numbers past ≡ []
no_left [] h = refl
no_left (Enter seat service number r port ∷ before) h = cc
no_left (Leave seat number r ∷ before) h = cc
no_left (e ∷ before) h = no_left before (and_parts (not (is_of_request e)) (no_request before) h).1

none_without : (gone : ℕ → Bool) (past : List Entry) → no_request past ≡ true → without gone past ≡ past
none_without gone [] h = refl
none_without gone (Enter seat service number r port ∷ before) h = cc
none_without gone (Leave seat number r ∷ before) h = cc
none_without gone (e ∷ before) h = ap (λ xs. e ∷ xs) (none_without gone before (and_parts (not (is_of_request e)) (no_request before) h).1)

none_raised : (gone : ℕ → Bool) (past : List Entry) (closed : List ℕ) → no_request past ≡ true → raised gone past closed ≡ closed
none_raised gone [] closed h = refl
none_raised gone (Enter seat service number r port ∷ before) closed h = cc
none_raised gone (Leave seat number r ∷ before) closed h = cc
none_raised gone (e ∷ before) closed h = none_raised gone before closed (and_parts (not (is_of_request e)) (no_request before) h).1

-- a past without requests is compacted by dropping its superseded ticks
compacted_is : (past : List Entry) → no_request past ≡ true → compacted past ≡ thin past
compacted_is past h = ap thin (none_without (is_among (left_numbers past)) past h)

closed_is : (past : List Entry) (closed : List ℕ) → no_request past ≡ true → closed_after past closed ≡ closed
closed_is past closed h = none_raised (is_among (left_numbers past)) past closed h

pub keeps : (s : Strategy) (o : Opening) (closed : List ℕ) (past : List Entry) → no_request past ≡ true → Compacts s o closed past
    → table_of s (compacted past) ≡ table_of s past → KeepsWithoutTicks s o closed past
keeps s o closed past h c table =
    let p = compacted_is past h in
    let q = closed_is past closed h in
    record {
      legal = subst (λ (cs : List ℕ). IsLegal s o cs (thin past)) q (subst (λ (es : List Entry). IsLegal s o (closed_after past closed) es) p c.legal);
      same = rw (sym p) c.same;
      answers = rw (sym p) c.answers;
      table = rw (sym p) table;
      calls = λ seat.
          ap (λ cs. calls_of cs seat (thin past)) (sym q) ∙ ap (λ es. calls_of (closed_after past closed) seat es) (sym p) ∙ c.calls seat;
    }

-- one more entry at the end of entries whose superseded ticks are dropped
pub pushed : (seen : List Entry) (e : Entry) (before kept new : List Entry) → reverse kept ≡ thin (reverse seen ++ before)
    → reverse new ≡ e ∷ left_by e (reverse kept) → reverse new ≡ thin (reverse (seen ++ e ∷ []) ++ before)
pushed seen e before kept new was is =
    is ∙ ap (λ past. e ∷ left_by e past) was ∙ sym (thin_step e (reverse seen ++ before))
    ∙ ap (λ past. thin (past ++ before)) (sym (reverse-append seen (e ∷ [])))
