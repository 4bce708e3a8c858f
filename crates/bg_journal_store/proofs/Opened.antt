-- A statement that inserts ends well only on a connection that was open.
use Rattle.std.proofs.Common.{◌≡◌, inl, inr, ℕ, ◌+◌, List, [], codes, Option, IfOk, false, Ok, Err, IsTrue, refl, sym, ap, subst, ◌∙◌}
use Rattle.std.specs.Bool.{⊤}
use Rattle.std.proofs.lemmas.Bool.{cases_Bool}
use Rattle.sqlite.specs.Order.{Row}
use Rattle.sqlite_schema.specs.declared.schema.Schema.{Schema}
use Rattle.sqlite_schema.specs.declared.command.Source.{Source}
use Rattle.sqlite_schema.specs.declared.command.Returning.{Returning}
use Rattle.sqlite.specs.Command.{Command}
use Rattle.sqlite.specs.Command.TheVariants.{Insert}
use Rattle.sqlite_resolve.specs.declared.compiled.Compiled.{Compiled}
use Rattle.sqlite_ast.specs.declared.Rows.{Rows}
use Rattle.sqlite_ast.specs.declared.Statement.{Statement}
use Rattle.sqlite_ast.specs.declared.Statement.TheVariants as written
use Rattle.sqlite_ast.specs.declared.Conflict.TheVariants as conflict
use Rattle.sqlite_resolve.specs.Body.{table_at}
use Rattle.sqlite_resolve.specs.Compile.{compiled, planned, meaning, command, command_by, first, insert, insert_or_abort, new_rows, returning, small, target as target_in, timed as timed_in, with_command}
use Rattle.sqlite_resolve.specs.Lowering.{Checked, and_then}
use Rattle.sqlite_tied.specs.Compute.{everything}
use Rattle.sqlite.specs.declared.error.Error.{Error}
use Rattle.sqlite.specs.Listing.{understood, reads_listing, if_select, listing_schema}
use Rattle.sqlite.specs.State.{State, Executes, ExecutesIn, IsNotRun, Runs, shows_rows, text_of}
use Rattle.sqlite.specs.Clock.{timed}

abbrev pub insert_text : List ℕ
insert_text = codes "INSERT INTO entries (text) VALUES (?1)"

inverse : {A B : Type 0} (r : Checked A) (f : A → Checked B) (b : B) → and_then r f ≡ Ok b → (a : A) × (r ≡ Ok a) × (f a ≡ Ok b)
inverse (Ok a) f b h = (a, refl, h)
inverse (Err e) f b h = absurd cc

-- an INSERT with no ON CONFLICT
abbrev IsInsert : Statement → Type 0
IsInsert (written.Insert conflict.Abort name columns rows [] shown) = ⊤
IsInsert _ = ⊥

insert_is_parsed : IfOk (first insert_text) (λ p. IsInsert p.statement)
unfolding first everything
insert_is_parsed = tt

abbrev pub Inserts : Command → Type 0
Inserts k = (at : ℕ) × (rows : Source) × (k ≡ Insert at rows)

same_ok : {A : Type 0} {a b : A} → ◌≡◌ {A = Checked A} (Ok a) (Ok b) → a ≡ b
same_ok e = cc

inserted : (schema : Schema) (base : ℕ) (name : List ℕ) (columns : List (List ℕ)) (rows : Rows) (k : Command) → insert schema base name columns rows ≡ Ok k → Inserts k
unfolding insert
inserted schema base name columns rows k h =
    let target = inverse (target_in schema name) (λ at. and_then (table_at schema at) (λ table. and_then (new_rows schema table base columns rows) (λ s. Ok (Insert at s)))) k h in
    let table = inverse (table_at schema target.0) (λ table. and_then (new_rows schema table base columns rows) (λ s. Ok (Insert target.0 s))) k target.2 in
    let given = inverse (new_rows schema table.0 base columns rows) (λ s. Ok (Insert target.0 s)) k table.2 in
    (target.0, given.0, sym (same_ok given.2))

commanded : (schema : Schema) (formats : List (List ℕ)) (base : ℕ) (s : Statement) (k : Command) → IsInsert s → command_by schema formats base s ≡ Ok k → Inserts k
unfolding insert_or_abort
commanded schema formats base (written.Insert conflict.Abort name columns rows [] shown) k is h = inserted schema base name columns rows k h
commanded schema formats base _ k is h = absurd is

compiled_inserts : (schema : Schema) (c : Compiled) → compiled schema insert_text ≡ Ok c → Inserts c.command
unfolding compiled planned meaning command
compiled_inserts schema c h =
    let read = inverse (first insert_text) (λ p. and_then (planned schema p) (λ plan. Ok (with_command p plan))) c h in
    let p = read.0 in
    let formats = timed_in schema p.formats p.statement in
    let base = small p.names + small formats in
    let plan = inverse (planned schema p) (λ plan. Ok (with_command p plan)) c read.2 in
    let meant = inverse (meaning schema p base) (λ found. Ok (formats, found)) plan.0 plan.1 in
    let shown = inverse (returning schema base p.statement) (λ shown. and_then (command schema p.formats base p.statement) (λ k. Ok (k, shown))) meant.0 meant.1 in
    let made = inverse (command schema p.formats base p.statement) (λ k. Ok (k, shown.0)) meant.0 shown.2 in
    let known : made.0 ≡ c.command = ap (λ (f : Command × Option Returning). f.0) (same_ok made.2) ∙ ap (λ (f : List (List ℕ) × (Command × Option Returning)). f.1.0) (same_ok meant.2) ∙ ap (λ (k : Compiled). k.command) (same_ok plan.2) in
    subst Inserts known (commanded schema p.formats base p.statement made.0 (subst (λ r. IfOk r (λ p. IsInsert p.statement)) read.1 insert_is_parsed) made.1)

unlisted : (c : Compiled) → ¬ (if_select (compiled listing_schema insert_text) ≡ Ok c)
unfolding compiled listing_schema everything
unlisted c h = cc

pub understood_inserts : (schema : Schema) (c : Compiled) → understood schema insert_text ≡ Ok c → Inserts c.command
unfolding understood
understood_inserts schema c h = elim (cases_Bool (reads_listing schema insert_text)) [
  | inl listed ↦ absurd (unlisted c (rw listed at h))
  | inr plain ↦ compiled_inserts schema c (rw plain at h)
]

inserts_open : (old new : State) (returning : _) (command : Command) (text : List ℕ) (params : Row) (count at : ℕ) (rows : Source) → command ≡ Insert at rows → Runs old new returning command text params count → IsTrue old.is_open
inserts_open old new returning command text params count at rows is ran = (subst (λ k. Runs old new returning k text params count) is ran).shown.was_open

pub was_open : (old new : State) (params : Row) (count : ℕ) → Executes insert_text params old new (Ok count) → IsTrue old.is_open
unfolding ExecutesIn
was_open old new params count h = elim (cases_Bool (shows_rows false h.0)) [
  | inl shows ↦ absurd (let e = (rw shows at h.2).0 in cc)
  | inr runs ↦ (let it = understood_inserts old.now.schema h.0 h.1.is in
      inserts_open old new h.0.returning h.0.command (text_of insert_text h.0) (timed params h.0.formats h.1.now) count it.0 it.1 it.2 (rw runs at h.2))
]

-- a refusal that leaves it open found it open
pub still_open : (sql : List ℕ) (old new : State) (params : Row) (e : Error) → Executes sql params old new (Err e) → IsTrue new.is_open → IsTrue old.is_open
unfolding ExecutesIn IsNotRun
still_open sql old new params e (inl (inl h)) stays = h.1.0.was_open
still_open sql old new params e (inl (inr f)) stays = f.3.was_open stays
still_open sql old new params e (inr h) stays = elim (cases_Bool (shows_rows false h.0)) [
  | inl shows ↦ (rw shows at h.2).1.0.was_open
  | inr runs ↦ elim (rw runs at h.2) [
    | inl why ↦ why.1.0.was_open
    | inr f ↦ f.3.was_open stays
  ]
]
