use Rattle.std.proofs.Common.{◌≡◌, refl, sym, arith, subst, List, [], ◌∷◌, None}
use Rattle.bg_audit.specs.declared.marks.NewestMark.{NewestMark}
use Rattle.bg_audit.specs.Marked.{HasMarks}
use Rattle.bg_audit.proofs.Marking.{marks-opening}
use Rattle.bg_audit.proofs.facts.Facts.new.Goals as goal

pub returns : goal.returns
returns c = λ seats. record {
  state = c.new.ensures c.args.strategy.now;
  revisions = grind arith;
  marks =
      let kept : c.add-2.new.marks.items ≡ record { revision = 1; mark = None } ∷ [] = grind arith in
      let P : List NewestMark → Type 0 = λ ms. HasMarks c.args.strategy.now [] ms in subst P (sym kept) (marks-opening c.args.strategy.now);
  requests = c.new-2.ensures.items;
  greatest = refl;
}
