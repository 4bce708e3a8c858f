-- Lemmas on the rows that a process remembers of a database.
use Rattle.std.proofs.Common.{◌≡◌, ◌⊎◌, ◌≤◌, inl, inr, ℕ, Bool, true, false, List, [], ◌∷◌, ◌++◌, length, map, string_bytes, Option, Some, None, IsTrue, refl, sym, ap, subst, ◌∙◌, arith}
use Rattle.std.specs.Prelude.{drop, String}
use Rattle.std.specs.declared.alloc.Global.{Global}
use Rattle.std.proofs.lemmas.List.{append-nil, length-map, map-append}
use Rattle.sqlite.specs.Effect.{Database}
use Rattle.sqlite.specs.Held.{Held, state}
use Rattle.sqlite.specs.State.{State}
use Rattle.sqlite_trees.specs.declared.store.Store.{Ghosts}
use Rattle.bg_journal_store.specs.Journal.{Appends, IsJournal, Keeps, LeavesEither, LeavesJournals, LeavesOnly, texts_in}
use Rattle.bg_order_journal.specs.Ties.{IsTied, IsTiedAs, MayFind, Ties}

-- the rows that were read
pub read : (old new : State) (rows : List (List ℕ)) → IsJournal old → LeavesJournals new → LeavesOnly new (texts_in old.now.trees)
    → rows ≡ texts_in old.committed.trees → IsTrue new.is_open → Keeps old new → Ties new rows []
read old new rows journal journals only is stays keeps =
    let same : texts_in old.now.trees ≡ rows = ap (λ (d : Database). texts_in d.trees) (sym journal.committed) ∙ sym is in
    record {
      journals = journals;
      crash = λ db may. inl (only db may ∙ same);
      settled = λ none. (stays, keeps.texts ∙ same);
    }

-- a row that was appended
pub appended : (old new : State) (rows : List (List ℕ)) (text : List ℕ) → Ties old rows [] → Appends old new text → LeavesJournals new
    → Ties new (rows ++ text ∷ []) []
appended old new rows text ties it journals =
    let now : texts_in old.now.trees ++ text ∷ [] ≡ rows ++ text ∷ [] = ap (λ l. l ++ text ∷ []) (ties.settled refl).1 in
    record {
      journals = journals;
      crash = λ db may. inl (it.durable db may ∙ now);
      settled = λ none. (it.journal.is_open, it.texts ∙ now);
    }

-- a row of which the database did not say that it has it
pub failed : (old new : State) (rows : List (List ℕ)) (text : List ℕ) → Ties old rows []
    → LeavesEither new (texts_in old.now.trees) (texts_in old.now.trees ++ text ∷ []) → LeavesJournals new → Ties new rows (text ∷ [])
failed old new rows text ties either journals =
    let was : texts_in old.now.trees ≡ rows = (ties.settled refl).1 in
    record {
      journals = journals;
      crash = λ db may. elim (either db may) [
        | inl e ↦ inl (e ∙ was)
        | inr e ↦ inr (e ∙ ap (λ l. l ++ text ∷ []) was)
      ];
      settled = λ none. absurd cc;
    }

-- a row that was not tried
untried : (s : State) (rows : List (List ℕ)) (text : List ℕ) → Ties s rows [] → Ties s rows (text ∷ [])
untried s rows text ties = record {
  journals = ties.journals;
  crash = λ db may. elim (ties.crash db may) [
    | inl e ↦ inl e
    | inr e ↦ inl (e ∙ append-nil rows)
  ];
  settled = λ none. absurd cc;
}

pub not_tried : {S : Type 0} (g : Ghosts S) (journal : Option (Held S)) (rows : List (List ℕ)) (text : List ℕ) → IsTied g journal rows []
    → IsTied g journal rows (text ∷ [])
not_tried g None rows text tied = λ e. cc
not_tried g (Some journal) rows text tied = λ clean. untried (state g journal) rows text (tied clean)

drop_first : (rows more : List (List ℕ)) → 1 ≤ length rows → drop 1 (rows ++ more) ≡ drop 1 rows ++ more
drop_first [] more some = absurd (omega arith)
drop_first (row ∷ rows) more some = refl

-- the orders that are kept, after more rows
pub kept_more : (old new : List (String Global)) (more : List (List ℕ)) → 1 ≤ length old
    → map string_bytes new ≡ map string_bytes old ++ more → drop 1 (map string_bytes new) ≡ drop 1 (map string_bytes old) ++ more
kept_more old new more some is =
    let long : 1 ≤ length (map string_bytes old) = rw (length-map old string_bytes) some in
    ap (drop 1) is ∙ drop_first (map string_bytes old) more long

pub survives : {S : Type 0} (g : Ghosts S) (journal : Option (Held S)) (rows doubt found : List (List ℕ)) → 1 ≤ length rows → IsTied g journal rows doubt
    → MayFind g journal found → (found ≡ drop 1 rows) ⊎ (found ≡ drop 1 rows ++ doubt)
survives g None rows doubt found some tied may = absurd may
survives g (Some journal) rows doubt found some tied may =
    elim ((tied may.0).crash may.1.0 may.1.1) [
      | inl e ↦ inl (may.1.2 ∙ ap (drop 1) e)
      | inr e ↦ inr (may.1.2 ∙ ap (drop 1) e ∙ drop_first rows doubt some)
    ]

-- what becomes of a text that was kept or is in doubt
pub settled : {S : Type 0} (g : Ghosts S) (journal : Option (Held S)) (before after : List (String Global)) (text : String Global) (doubt : List (List ℕ)) (kept : Bool)
    → IsTiedAs g journal (map string_bytes before) (string_bytes text) kept → (kept ≡ true → after ≡ before ++ text ∷ []) → (kept ≡ true → doubt ≡ [])
    → (kept ≡ false → after ≡ before) → (kept ≡ false → doubt ≡ string_bytes text ∷ []) → IsTied g journal (map string_bytes after) doubt
settled g journal before after text doubt true tied all none same unsure =
    subst (λ (ds : List (List ℕ)). IsTied g journal (map string_bytes after) ds) (sym (none refl))
    (subst (λ (rs : List (List ℕ)). IsTied g journal rs []) (sym (ap (map string_bytes) (all refl) ∙ map-append string_bytes before (text ∷ []))) tied)
settled g journal before after text doubt false tied all none same unsure =
    subst (λ (ds : List (List ℕ)). IsTied g journal (map string_bytes after) ds) (sym (unsure refl))
    (subst (λ (rs : List (String Global)). IsTied g journal (map string_bytes rs) (string_bytes text ∷ [])) (sym (same refl)) tied)
