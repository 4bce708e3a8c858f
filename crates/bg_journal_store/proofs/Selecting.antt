-- What the statements that read the texts of a table give.
use Rattle.std.proofs.Common.{◌≡◌, ℕ, pos, negsuc, List, [], ◌∷◌, map, flat_map, codes, true, false, None, Less, IsPermutation, refl, sym, ap, subst, ◌∙◌}
use Rattle.std.proofs.lemmas.List.Concat.{flat_map_single}
use Rattle.sqlite.specs.declared.types.Value.TheVariants.{Int}
use Rattle.sqlite.specs.Order.{Row, column, value_cmp}
use Rattle.sqlite.specs.Term.{Env, lit, col}
use Rattle.sqlite.specs.Query.{Query, inner, end, IsAnswer, Output, output, output_cmp, page}
use Rattle.sqlite.specs.Collation.TheVariants.{Binary}
use Rattle.sqlite.specs.Command.{Command}
use Rattle.sqlite.specs.Command.TheVariants.{Select}
use Rattle.sqlite.specs.Program.{overlay}
use Rattle.sqlite_sql.proofs.QueryLemmas.{output_cmp_total}
use Rattle.sqlite_keyed.proofs.ListLemmas.{ascending-map, ascending_weaker}
use Rattle.sqlite_keyed.proofs.SortLemmas.{sorted_unique}
use Rattle.sqlite_trees.specs.Tree.{rowid, IsTable, IsAscending}
use Rattle.sqlite_tied.specs.Compute.{everything}
use Rattle.sqlite.specs.Listing.{understood, reads_listing}
use Rattle.sqlite.specs.State.{State, Shown}
use Rattle.sqlite.proofs.Callers.{IsPlain, command_of, reads_as}
use Rattle.bg_journal_store.specs.Schema.{journal_schema}
use Rattle.bg_journal_store.specs.Journal.{row_text, shown_text, texts_at}

abbrev pub entries_text : List ℕ
entries_text = codes "SELECT text FROM entries ORDER BY number"

abbrev pub settings_text : List ℕ
settings_text = codes "SELECT text FROM settings ORDER BY number"

abbrev pub by_number : ℕ → Query
by_number tree = record {
  from = inner tree end;
  filter = [];
  group = None;
  project = col 1 2 ∷ [];
  distinct = false;
  collations = [];
  order = (col 1 0, record { collation = Binary; descending = false }) ∷ [];
  limit = lit (Int (negsuc 0));
  offset = lit (Int (pos 0));
}

abbrev pub selects : ℕ → Command
selects tree = Select (record { lets = []; body = by_number tree }) (codes "text" ∷ [])

pub entries_is : command_of (understood journal_schema entries_text) ≡ selects 0
unfolding understood everything
entries_is = refl

settings_is : command_of (understood journal_schema settings_text) ≡ selects 1
unfolding understood everything
settings_is = refl

pub entries_plain : IsPlain (understood journal_schema entries_text)
unfolding understood everything
entries_plain = (refl, refl)

pub settings_plain : IsPlain (understood journal_schema settings_text)
unfolding understood everything
settings_plain = (refl, refl)

pub entries_unlisted : reads_listing journal_schema entries_text ≡ false
unfolding understood everything
entries_unlisted = refl

settings_unlisted : reads_listing journal_schema settings_text ≡ false
unfolding understood everything
settings_unlisted = refl

-- what a row is sorted by, and what it shows
abbrev shown_of : Row → Output
shown_of row = (rowid row ∷ [], column row 2 ∷ [])

abbrev as_env : Row → Env
as_env row = [] ∷ row ∷ []

-- the rows rise by what they are sorted by
rising : (tree : ℕ) (rows : List Row) → IsTable rows → IsAscending (λ a b. output_cmp (by_number tree) a b ≡ Less) (map shown_of rows)
rising tree rows up =
    ascending-map (λ a b. output_cmp (by_number tree) a b ≡ Less) shown_of rows
    (ascending_weaker (λ a b. value_cmp (rowid a) (rowid b) ≡ Less) (λ a b. output_cmp (by_number tree) (shown_of a) (shown_of b) ≡ Less) (λ a b lower. rw lower) rows up)

-- what is shown of a row of a table of texts
abbrev pub text_row : Row → Row
text_row row = column row 2 ∷ []

-- an answer over these rows shows their texts in the order of their numbers
answers_in_order : (tree : ℕ) (all : List Row) (staged : List Env) (kept ordered : List Output) (rows : List Row) → IsTable all → staged ≡ map as_env all → kept ≡ map (output (by_number tree)) staged
    → IsPermutation kept ordered → Rattle.std.proofs.Common.IsSorted (output_cmp (by_number tree)) ordered → rows ≡ page (by_number tree) [] (map (λ (o : Output). o.1) ordered)
    → rows ≡ map (λ row. column row 2 ∷ []) all
answers_in_order tree all staged kept ordered rows up made outputs same sorted shown =
    let is : kept ≡ map shown_of all = outputs ∙ ap (map (output (by_number tree))) made ∙ map_again all in
    let one : ordered ≡ map shown_of all =
    sorted_unique (output_cmp (by_number tree)) (output_cmp_total (by_number tree)) (map shown_of all) ordered (rising tree all up) (subst (λ k. IsPermutation k ordered) is same) sorted in
    shown ∙ ap (map (λ (o : Output). o.1)) one ∙ map_texts all
  where
    map_again : (all : List Row) → map (output (by_number tree)) (map as_env all) ≡ map shown_of all
    map_again [] = refl
    map_again (row ∷ more) = ap (λ l. shown_of row ∷ l) (map_again more)

    map_texts : (all : List Row) → map (λ (o : Output). o.1) (map shown_of all) ≡ map (λ row. column row 2 ∷ []) all
    map_texts [] = refl
    map_texts (row ∷ more) = ap (λ l. (column row 2 ∷ []) ∷ l) (map_texts more)

texts_shown : (all : List Row) → map shown_text (map (λ row. column row 2 ∷ []) all) ≡ map row_text all
texts_shown [] = refl
texts_shown (row ∷ more) = ap (λ l. row_text row ∷ l) (texts_shown more)

module _ (old new : State) (rows : List Row) (has : old.now.schema ≡ journal_schema) where
  -- the rows that are shown of the orders
  pub entries_rows : IsTable (old.now.trees 0) → Shown entries_text [] old new rows → rows ≡ map text_row (old.now.trees 0)
  entries_rows up h =
      let answer : IsAnswer (by_number 0) (overlay old.now.trees []) [] rows = (reads_as entries_text [] old new journal_schema has (selects 0) entries_is entries_plain entries_unlisted rows h).answer _ in
      answers_in_order 0 (old.now.trees 0) answer.staged answer.kept answer.ordered rows up (answer.grouped ∙ flat_map_single as_env (old.now.trees 0)) answer.distinct answer.same answer.sorted answer.shown

  -- and their texts
  pub entries_shown : IsTable (old.now.trees 0) → Shown entries_text [] old new rows → map shown_text rows ≡ texts_at 0 old.now.trees
  entries_shown up h = ap (map shown_text) (entries_rows up h) ∙ texts_shown (old.now.trees 0)

  -- and of the settings
  pub settings_shown : IsTable (old.now.trees 1) → Shown settings_text [] old new rows → map shown_text rows ≡ texts_at 1 old.now.trees
  settings_shown up h =
      let answer : IsAnswer (by_number 1) (overlay old.now.trees []) [] rows = (reads_as settings_text [] old new journal_schema has (selects 1) settings_is settings_plain settings_unlisted rows h).answer _ in
      ap (map shown_text) (answers_in_order 1 (old.now.trees 1) answer.staged answer.kept answer.ordered rows up (answer.grouped ∙ flat_map_single as_env (old.now.trees 1)) answer.distinct answer.same answer.sorted answer.shown)
      ∙ texts_shown (old.now.trees 1)
