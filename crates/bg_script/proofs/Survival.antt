-- Lemmas on what a start finds of the orders that a journal keeps.
use Rattle.std.proofs.Common.{◌≡◌, ◌⊎◌, Bool, true, ◌&&◌, ℕ, List, [], ◌∷◌, ◌++◌, map, reverse, refl, sym, ap, ◌∙◌, subst, inl, inr}
use Rattle.std.specs.List.{flat_map, list_all}
use Rattle.std.proofs.lemmas.Grind.{flat_map-append, reverse_onto}
use Rattle.std.proofs.lemmas.List.{append-nil, append_assoc, map-append, reverse-reverse}
use Rattle.std.proofs.lemmas.List.Folds.{list_all-append}
use Rattle.bg_history.specs.declared.entry.Entry.{Entry}
use Rattle.bg_history.specs.declared.entry.Entry.TheVariants.{Outcome as outcome}
use Rattle.bg_history.specs.declared.entry.Outcome.{Outcome}
use Rattle.bg_history.specs.Compacted.{thin}
use Rattle.bg_history.specs.Steps.{with_outcomes}
use Rattle.bg_journal.specs.Texts.{entries_text, entry_text, is_journaled}
use Rattle.bg_rollout.specs.Following.{Resumes}
use Rattle.bg_rollout.specs.Routing.{Routing}
use Rattle.bg_script.specs.Survival.{AreReadFrom, AreTextsOf, BeginsWith, entries_of, order_text}

-- the text of all orders is their texts, one after the other
text_of_orders : (orders : List (List Entry)) → flat_map (λ text. text) (map entries_text orders) ≡ entries_text (entries_of orders)
text_of_orders [] = refl
text_of_orders (first ∷ orders) =
    ap (λ t. entries_text first ++ t) (text_of_orders orders) ∙ sym (flat_map-append entry_text first (entries_of orders))

-- the texts of the entries that texts have, one after the other
order_texts : (texts : List (List ℕ)) → flat_map order_text texts ≡ flat_map (λ text. text) (map order_text texts)
order_texts [] = refl
order_texts (text ∷ texts) = ap (λ t. order_text text ++ t) (order_texts texts)

both_true : (a b : Bool) → a ≡ true → b ≡ true → (a && b) ≡ true
both_true a b p q = ap (λ t. t && b) p ∙ q

-- the list begins with these entries
abbrev Begins : List Entry → List Entry → Type 0
Begins first entries = (later : List Entry) × (entries ≡ first ++ later)

-- the outcomes that are recorded after a journal come behind its entries
begins : (outcomes : List Outcome) (past : List Entry) → Begins (reverse past) (reverse (with_outcomes outcomes past))
begins [] past = ([], sym (append-nil (reverse past)))
begins (x ∷ earlier) past =
    let before = begins earlier past in (
      before.0 ++ outcome x ∷ [],
      reverse_onto (with_outcomes earlier past) (outcome x) [] ∙ ap (λ l. l ++ outcome x ∷ []) before.1 ∙ append_assoc (reverse past) before.0 (outcome x ∷ []),
    )

-- no tick is superseded by an outcome
thin_outcomes : (outcomes : List Outcome) (past : List Entry) → thin (with_outcomes outcomes past) ≡ with_outcomes outcomes (thin past)
thin_outcomes [] past = refl
thin_outcomes (x ∷ earlier) past = ap (λ l. outcome x ∷ l) (thin_outcomes earlier past)

-- no two lists of entries have one text
abbrev pub Differ : Type 0
Differ = (first second : List Entry) → list_all is_journaled first ≡ true → list_all is_journaled second ≡ true → entries_text first ≡ entries_text second → first ≡ second

-- the entries that texts have, with their superseded ticks
record IsRead (texts : List (List ℕ)) (entries : List Entry) : Type 0 where
  text_is : entries_text entries ≡ flat_map order_text texts
  journaled : list_all is_journaled entries ≡ true

-- the entries that are read from the texts of orders are those of the orders
read_back : Differ → (orders : List (List Entry)) (texts : List (List ℕ)) (entries : List Entry) → AreTextsOf orders texts → IsRead texts entries
    → entries ≡ entries_of orders
read_back differ orders texts entries are read =
    differ entries (entries_of orders) read.journaled are.journaled (read.text_is ∙ order_texts texts ∙ ap (flat_map (λ text. text)) are.texts_are ∙ text_of_orders orders)

-- the texts of these orders, and then of those
both_texts : (orders unsure : List (List Entry)) (kept doubt : List (List ℕ)) → AreTextsOf orders kept → AreTextsOf unsure doubt → AreTextsOf (orders ++ unsure) (kept ++ doubt)
both_texts orders unsure kept doubt p q = record {
  texts_are = map-append order_text kept doubt ∙ ap (λ l. l ++ map order_text doubt) p.texts_are ∙ ap (λ l. map entries_text orders ++ l) q.texts_are
      ∙ sym (map-append entries_text orders unsure);
  journaled = ap (list_all is_journaled) (flat_map-append (λ entries. entries) orders unsure)
      ∙ list_all-append is_journaled (entries_of orders) (entries_of unsure) ∙ both_true _ _ p.journaled q.journaled;
}

found_entries : Differ → (orders unsure : List (List Entry)) (kept doubt found : List (List ℕ)) (entries : List Entry) → AreTextsOf orders kept → AreTextsOf unsure doubt
    → (found ≡ kept) ⊎ (found ≡ kept ++ doubt) → IsRead found entries → Begins (entries_of orders) entries
found_entries differ orders unsure kept doubt found entries are maybe (inl is) read =
    ([], read_back differ orders kept entries are (subst (λ (t : List (List ℕ)). IsRead t entries) is read) ∙ sym (append-nil (entries_of orders)))
found_entries differ orders unsure kept doubt found entries are maybe (inr is) read = (
  entries_of unsure,
  read_back differ (orders ++ unsure) (kept ++ doubt) entries (both_texts orders unsure kept doubt are maybe) (subst (λ (t : List (List ℕ)). IsRead t entries) is read)
      ∙ flat_map-append (λ es. es) orders unsure,
)

pub survive : Differ → (orders unsure : List (List Entry)) (kept doubt found : List (List ℕ)) (entries : List Entry) → AreTextsOf orders kept → AreTextsOf unsure doubt
    → (found ≡ kept) ⊎ (found ≡ kept ++ doubt) → AreReadFrom found entries → (old new : Routing) → Resumes old entries new
    → BeginsWith (entries_of orders) new.past
survive differ orders unsure kept doubt found entries are maybe is read old new resumed =
    let outcomes = resumed.outcomes in
    let first = found_entries differ orders unsure kept doubt found read.all are maybe is (record { text_is = read.text_is; journaled = read.journaled }) in
    let after = begins outcomes (reverse read.all) in
    let whole : with_outcomes outcomes (reverse read.all) ≡ reverse (entries_of orders ++ (first.0 ++ after.0)) =
    sym (reverse-reverse (with_outcomes outcomes (reverse read.all)))
    ∙ ap reverse (after.1 ∙ ap (λ l. l ++ after.0) (reverse-reverse read.all ∙ first.1) ∙ append_assoc (entries_of orders) first.0 after.0) in (
      first.0 ++ after.0,
      ap (λ (r : Routing). r.past) resumed.now_is ∙ ap (with_outcomes outcomes) read.entries_are
          ∙ sym (thin_outcomes outcomes (reverse read.all)) ∙ ap thin whole,
    )
