-- Lemmas on the entries of the orders of a journal.
use Rattle.std.proofs.Common.{◌≡◌, ◌<◌, ◌+◌, ℕ, Bool, true, ◌&&◌, List, [], ◌∷◌, ◌++◌, length, map, reverse, get_or, take, string_bytes, Option, None, sym, ap, subst, ◌∙◌}
use Rattle.std.specs.Prelude.{drop, String}
use Rattle.std.specs.declared.alloc.Global.{Global}
use Rattle.std.specs.List.{flat_map, list_all}
use Rattle.std.proofs.lemmas.Grind.{flat_map-append}
use Rattle.std.proofs.lemmas.List.{append-nil, append_assoc, map-append, map_more, reverse-append, take-append-drop}
use Rattle.std.proofs.lemmas.List.Folds.{list_all-append}
use Rattle.bg_history.specs.declared.entry.Entry.{Entry}
use Rattle.bg_history.specs.Compacted.{thin}
use Rattle.bg_journal.specs.Bounds.{bound_in}
use Rattle.bg_journal.specs.Texts.{entries_text, entry_text, is_journaled}
use Rattle.bg_script.specs.Survival.{AreReadFrom, order_text, unless_bound}
use Rattle.bg_order_journal.specs.Refusals.{OrderFaultIs, OrdersFaultIs}
use Rattle.bg_order_journal.specs.Starts.{AreSaid}
use Rattle.bg_order_journal.specs.declared.start_fault.StartFault.{StartFault}

both_true : (a b : Bool) → a ≡ true → b ≡ true → (a && b) ≡ true
both_true a b p q = ap (λ t. t && b) p ∙ q

-- what a text has of orders comes behind what the texts before it have
texts_more : (texts : List (List ℕ)) (text own : List ℕ) → order_text text ≡ own
    → flat_map order_text (texts ++ text ∷ []) ≡ flat_map order_text texts ++ own
texts_more texts text own is =
    flat_map-append order_text texts (text ∷ []) ∙ ap (λ t. flat_map order_text texts ++ t) (append-nil (order_text text) ∙ is)

-- the entries of one more order
pub order_read : (texts : List (List ℕ)) (text : List ℕ) (entries later new : List Entry) → bound_in text ≡ None → (read : AreReadFrom texts entries)
    → entries_text later ≡ text → list_all is_journaled later ≡ true
    → reverse new ≡ thin (reverse later ++ reverse read.all) → AreReadFrom (texts ++ text ∷ []) new
order_read texts text entries later new none read is journaled new_is = record {
  all = read.all ++ later;
  text_is = flat_map-append entry_text read.all later
      ∙ ap (λ t. t ++ entries_text later) read.text_is
      ∙ ap (λ t. flat_map order_text texts ++ t) is
      ∙ sym (texts_more texts text text (ap (λ (o : Option ℕ). unless_bound o text) none));
  journaled = list_all-append is_journaled read.all later ∙ both_true _ _ read.journaled journaled;
  entries_are = new_is ∙ ap thin (sym (reverse-append read.all later));
}

-- a fault of the order in the text at this place, behind texts that were read
pub refused_at : (texts : List (String Global)) (place : ℕ) (text : String Global) (entries : List Entry) (numbers count : ℕ) (fault : StartFault)
    → place < length texts → text ≡ get_or texts place text → AreSaid (map string_bytes (take place texts)) entries numbers count
    → bound_in (string_bytes text) ≡ None → OrderFaultIs (string_bytes text) (count + 1) fault → OrdersFaultIs (map string_bytes texts) fault
refused_at texts place text entries numbers count fault inside is said none at =
    let before = map string_bytes (take place texts) in
    let later = map string_bytes (drop (place + 1) texts) in
    let here : map string_bytes (take (place + 1) texts) ≡ before ++ string_bytes text ∷ [] =
    map_more string_bytes texts place text inside ∙ ap (λ t. before ++ string_bytes t ∷ []) (sym is) in
    let all : map string_bytes texts ≡ before ++ string_bytes text ∷ later =
    ap (map string_bytes) (sym (take-append-drop (place + 1) texts)) ∙ map-append string_bytes (take (place + 1) texts) (drop (place + 1) texts)
    ∙ ap (λ l. l ++ later) here ∙ append_assoc before (string_bytes text ∷ []) later in
    (before, string_bytes text, later, all, (entries, said.entries_are), none, subst (λ n. OrderFaultIs (string_bytes text) (n + 1) fault) said.count_is at)
