use Rattle.std.proofs.Common.{◌≡◌, ◌∙◌, ℕ, List, ap, sym, map}
use Rattle.std.specs.Prelude.{Bool, drop, take}
use Rattle.std.specs.Borrow.{Bor}
use Rattle.std.specs.List.{list_any}
use Rattle.std.proofs.lemmas.List.{drop-map, length-drop}
use Rattle.std.proofs.Math.Seq.{take-length}
use Rattle.clap.proofs.WalkLemmas.{list_any-map}
use Rattle.bg_command_line.specs.GivenWords.{is_option}
use Rattle.bg_command_line.proofs.words.has_option.Goals as goal

pub returns-in-Some : goal.returns-in-Some
returns-in-Some c =
    let is : List ℕ → Bool = is_option c.args.option.now c.args.start.now in
    let text : Bor (List ℕ) → List ℕ = λ w. w.now in
    let words = c.args.words.now in
    let arguments : c.in-Some.arguments.now ≡ drop 1 words =
    c.in-Some.ensures.lookup.0.2
    ∙ ap (λ (n : ℕ). take n (drop 1 words)) (sym (length-drop 1 words))
    ∙ take-length (drop 1 words) in
    c.have_option.ensures
    ∙ list_any-map is text c.in-Some.arguments.now
    ∙ ap (λ (xs : List (Bor (List ℕ))). list_any is (map text xs)) arguments
    ∙ sym (ap (list_any is) (drop-map text 1 words))
