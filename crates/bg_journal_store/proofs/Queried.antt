-- What a query leaves.
use Rattle.std.proofs.Common.{◌⊎◌, inl, inr, ℕ, List, [], Some, None, Option, IsTrue, subst}
use Rattle.sqlite.specs.Order.{Row}
use Rattle.sqlite_resolve.specs.declared.compiled.Compiled.{Compiled}
use Rattle.sqlite_schema.specs.declared.command.Returning.{Returning}
use Rattle.sqlite.specs.declared.error.Error.{Error}
use Rattle.sqlite.specs.Listing.{understood}
use Rattle.sqlite.specs.Clock.{timed}
use Rattle.sqlite.specs.State.{State, Shown, ShowsRows, FailsToShow, FailsToQuery, IsNotRun, IsUnchanged}
use Rattle.sqlite.proofs.Callers.{IsPlain}
use Rattle.bg_journal_store.specs.Schema.{journal_schema}
use Rattle.bg_journal_store.specs.Journal.{IsJournal}
use Rattle.bg_journal_store.proofs.Kept.{IsSame, unchanged, undone}

-- the query gave rows, or failed
abbrev pub Leaves : List ℕ → State → State → Type 0
Leaves sql old new = ((rows : List Row) × Shown sql [] old new rows) ⊎ ((e : Error) × FailsToQuery sql [] old new e)

pub shown_open : (old new : State) (sql : List ℕ) (c : Compiled) (params : Row) (rows : List Row) (returning : Option Returning) → ShowsRows old new sql c params rows returning → IsTrue old.is_open
shown_open old new sql c params rows None h = h.3.0.was_open
shown_open old new sql c params rows (Some what) h = h.1.shown.was_open

-- a query that gave rows was asked of an open connection
pub gave_open : (sql : List ℕ) (old new : State) (rows : List Row) → Shown sql [] old new rows → IsTrue old.is_open
unfolding Shown
gave_open sql old new rows h = shown_open old new sql h.0 _ rows h.0.returning h.2

failed_open : (old new : State) (sql : List ℕ) (c : Compiled) (params : Row) (e : Error) (returning : Option Returning) → FailsToShow old new sql c params e returning → IsTrue new.is_open → IsTrue old.is_open
failed_open old new sql c params e None h stays = h.3.0.was_open
failed_open old new sql c params e (Some what) (inl why) stays = why.1.0.was_open
failed_open old new sql c params e (Some what) (inr f) stays = f.3.was_open stays

-- what it leaves open was open
pub query_open : (sql : List ℕ) (old new : State) → Leaves sql old new → IsTrue new.is_open → IsTrue old.is_open
unfolding Shown FailsToQuery IsNotRun
query_open sql old new (inl h) stays = shown_open old new sql h.1.0 _ h.0 h.1.0.returning h.1.2
query_open sql old new (inr (e, inl (inl h))) stays = h.1.0.was_open
query_open sql old new (inr (e, inl (inr f))) stays = f.3.was_open stays
query_open sql old new (inr (e, inr h)) stays = failed_open old new sql h.0 _ e h.0.returning h.2 stays

-- a query that gave rows and is no write changed nothing
pub shown_unchanged : (sql : List ℕ) (old new : State) (rows : List Row) → IsPlain (understood old.now.schema sql) → Shown sql [] old new rows → IsUnchanged old new
unfolding Shown
shown_unchanged sql old new rows plain h =
    let none = (subst IsPlain h.1.is plain).0 in
    (subst (ShowsRows old new sql h.0 (timed [] h.0.formats h.1.now) rows) none h.2).3

failed_same : {old new : State} (journal : IsJournal old) (sql : List ℕ) (c : Compiled) (params : Row) (e : Error) (returning : Option Returning) → FailsToShow old new sql c params e returning → IsTrue new.is_open → IsSame old new
failed_same journal sql c params e None h stays = unchanged journal h.3
failed_same journal sql c params e (Some what) (inl why) stays = unchanged journal why.1
failed_same journal sql c params e (Some what) (inr f) stays = undone journal f.3 stays

pub query_same : {old new : State} (journal : IsJournal old) (sql : List ℕ) → IsPlain (understood journal_schema sql) → Leaves sql old new → IsTrue new.is_open → IsSame old new
unfolding FailsToQuery IsNotRun
query_same {old} {new} journal sql plain (inl h) stays = unchanged journal (shown_unchanged sql old new h.0 (rw journal.schema plain) h.1)
query_same journal sql plain (inr (e, inl (inl h))) stays = unchanged journal h.1
query_same journal sql plain (inr (e, inl (inr f))) stays = undone journal f.3 stays
query_same journal sql plain (inr (e, inr h)) stays = failed_same journal sql h.0 _ e h.0.returning h.2 stays
