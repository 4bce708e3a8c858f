-- A call that leaves a journal as it was.
use Rattle.std.proofs.Common.{◌≡◌, false, IsTrue, sym, ap, subst, ◌∙◌, [], ◌∷◌}
use Rattle.sqlite.specs.Effect.{Database}
use Rattle.sqlite.specs.State.{State, IsUnchanged, IsRolledBack}
use Rattle.sqlite_trees.specs.Tree.{Trees}
use Rattle.sqlite_trees.specs.View.{IsShaped}
use Rattle.sqlite_trees.specs.declared.store.Shape.TheVariants as shape
use Rattle.bg_journal_store.specs.Schema.{version}
use Rattle.bg_journal_store.specs.Journal.{texts_in, settings_in, IsJournal, Keeps}

-- it sees what the old one sees, and that is committed
pub record IsSame (old new : State) : Type 0 where
  pub now : new.now ≡ old.now
  pub committed : new.committed ≡ old.now
  pub autocommit : new.in_transaction ≡ false

-- while it is open, a crash leaves the last commit
abbrev pub Settles : State → Type 0
Settles s = IsTrue s.is_open → (db : Trees) → s.may_leave db → db ≡ s.committed.trees

module _ {s new : State} (journal : IsJournal s) where
  pub unchanged : IsUnchanged s new → IsSame s new
  unchanged u = record { now = u.0.now_is; committed = u.0.committed_is ∙ journal.committed; autocommit = u.0.mode ∙ journal.autocommit }

  pub undone : IsRolledBack s new → IsTrue new.is_open → IsSame s new
  undone back stays = record { now = (back.undone stays).0 ∙ journal.committed; committed = (back.undone stays).1 ∙ journal.committed; autocommit = back.autocommit }

  pub same_journal : IsSame s new → IsTrue new.is_open → IsJournal new
  same_journal same stays = record {
    is_open = stays;
    autocommit = same.autocommit;
    schema = ap (λ (d : Database). d.schema) same.now ∙ journal.schema;
    committed = same.committed ∙ sym same.now;
    numbered = subst (λ (d : Database). IsShaped shape.Table (d.trees 0)) (sym same.now) journal.numbered;
    version = subst (λ (d : Database). settings_in d.trees ≡ version ∷ []) (sym same.now) journal.version;
  }

  pub keeps_texts : IsSame s new → Settles new → IsTrue new.is_open → Keeps s new
  keeps_texts same settles stays = record {
    was_open = journal.is_open;
    journal = same_journal same stays;
    texts = ap (λ (d : Database). texts_in d.trees) same.now;
    durable = λ db may. ap texts_in (settles stays db may ∙ ap (λ (d : Database). d.trees) same.committed);
  }
