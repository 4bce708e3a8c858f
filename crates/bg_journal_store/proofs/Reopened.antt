-- What the next open takes from what a crash left.
use Rattle.std.proofs.Common.{◌≡◌, ◌⊎◌, inl, inr, Bool, true, false, refl, sym, ap, subst, ◌∙◌}
use Rattle.std.specs.Bool.{Decides}
use Rattle.std.specs.Cmp.Lexicographic.{pointwise}
use Rattle.std.specs.Coded.{Coded-set, coded_list, coded_ℕ}
use Rattle.std.specs.Str.{bytes_eq}
use Rattle.std.proofs.lemmas.Slice.Eq.{bytes_eq-Decides, slice_eq-Decides}
use Rattle.std.proofs.Math.Logic.{∥∥₁_elim}
use Rattle.sqlite.specs.Effect.{Database}
use Rattle.sqlite.specs.Held.{Held}
use Rattle.sqlite.specs.Files.{HoldsDatabase, file_state}
use Rattle.sqlite.specs.State.{State, IsLive}
use Rattle.sqlite_schema.specs.declared.schema.Schema.{Schema}
use Rattle.sqlite.proofs.Theorems.{opens_again}
use Rattle.sqlite_disk.specs.declared.Disk.{Ghosts}
use Rattle.sqlite_wal.proofs.LogLemmas.{SeenMayStay}
use Rattle.sqlite_store.specs.Laws.{settled_at}
use Rattle.sqlite_store.specs.declared.store.FileStore.{FileStore}
use Rattle.sqlite_store.specs.FileStore.{recovers}
use Rattle.sqlite_trees.specs.Tree.{Trees}
use Rattle.sqlite_trees.specs.Props.{Trees-set}
use Rattle.sqlite_catalog.specs.Listing.{IsSound}
use Rattle.bg_journal_store.specs.Schema.{journal_schema}
use Rattle.bg_journal_store.specs.Journal.{texts_in, IsJournal, SurvivesCrash, SurvivesFailure}
use Rattle.bg_journal_store.proofs.Opening.{one_schema}

-- the last commit of a journal has its tables
pub sound_last : (s : State) → IsJournal s → IsLive s → (db : Trees) → db ≡ s.committed.trees → IsSound journal_schema db
sound_last s journal live db last =
    subst (IsSound journal_schema) (sym last)
    (subst (λ (c : Schema). IsSound c s.committed.trees) (ap (λ (d : Database). d.schema) journal.committed ∙ journal.schema) (live journal.is_open).1)

pub survives : {D : Type 0} {g : Ghosts D} → SeenMayStay g → (journal : Held (FileStore D g)) → IsLive (file_state journal) → SurvivesCrash journal
survives stays journal live is numbered left may texts opened =
    let last = (file_state journal).committed in
    let sound : IsSound last.schema last.trees = (live is.is_open).1 in
    let schema : last.schema ≡ journal_schema = ap (λ (d : Database). d.schema) is.committed ∙ is.schema in
    let settles = λ (db : Trees) (left : _). settled_at journal.store stays db is.is_open left in
    let found : opened.found ≡ last.trees =
    ∥∥₁_elim (opens_again journal.store numbered (λ db left. (last.schema, subst (IsSound last.schema) (sym (settles db left)) sound)) left may) (Trees-set _ _)
    (λ db. opened.holds db.0 db.2 ∙ settles db.0 db.1) in
    elim opened.comes [
      | inl same ↦ same.1 ∙ ap texts_in (found ∙ ap (λ (d : Database). d.trees) is.committed)
      | inr none ↦ absurd (one_schema last.trees (subst (λ s. IsSound s last.trees) schema sound) (subst (IsSound _) found none.0))
    ]

-- what the next open takes, by whether that are these texts
pub survives_failure : {D : Type 0} {g : Ghosts D} → SeenMayStay g → (journal : Held (FileStore D g)) → SurvivesFailure journal
survives_failure stays journal before after sound either numbered left may texts opened =
    go (pointwise bytes_eq texts before) (slice_eq-Decides bytes_eq-Decides texts before _ refl)
  where
    one : (db : Trees) → recovers journal.store db → HoldsDatabase left db → (texts ≡ before) ⊎ (texts ≡ after)
    one db might held =
        let found : opened.found ≡ db = opened.holds db held in
        elim opened.comes [
          | inl same ↦ (let is = same.1 ∙ ap texts_in found in elim (either db might) [
            | inl e ↦ inl (is ∙ e)
            | inr e ↦ inr (is ∙ e)
          ])
          | inr none ↦ absurd (one_schema db (sound db might) (subst (IsSound _) found none.0))
        ]

    other : ¬ (texts ≡ before) → (texts ≡ before) ⊎ (texts ≡ after) → texts ≡ after
    other differ (inl e) = absurd (differ e)
    other differ (inr e) = e

    go : (b : Bool) → Decides b (texts ≡ before) → (texts ≡ before) ⊎ (texts ≡ after)
    go true decides = inl (decides.0 refl)
    go false decides =
        inr (∥∥₁_elim (opens_again journal.store numbered (λ db might. (journal_schema, sound db might)) left may) (Coded-set (coded_list (coded_list coded_ℕ)) _ _)
        (λ db. other (λ e. let same : false ≡ true = decides.1 e in cc) (one db.0 db.1 db.2)))
