use Rattle.std.proofs.Common.{◌≡◌, ◌==◌, ◌<◌, ◌≤◌, ◌∷◌, ℕ, Bool, List, false, length, subst, sym, ap, ◌∙◌, arith}
use Rattle.std.specs.Io.BufRead.{strip_last}
use Rattle.std.proofs.lemmas.Bool.Decides.{nat_tests}
use Rattle.bg_operator.specs.declared.lines.Found.TheVariants.{Line, TooLong}
use Rattle.bg_operator.specs.Lines.{lines_of}
use Rattle.bg_operator.specs.Reading.{Gives}
use Rattle.bg_operator.specs.Taking.{PassesLine, TakesLine}
use Rattle.bg_operator.proofs.Pieces.{Known-both, Known-weaker}
use Rattle.bg_operator.proofs.FirstLine.{gives_break, gives_rest, gives_long}
use Rattle.bg_operator.proofs.lines.next_line.Goals as goal
use Rattle.bg_operator.proofs.lines.next_line.Goals.{in-Break, in-End+else-is_empty}

some : (n m : ℕ) (t : Bool) → t ≡ (n == 0) → t ≡ false → m ≡ n → 0 < m
some n m t e f g = grind (arith, nat_tests)

too_long : (final line xs ys : List ℕ) → line ≡ final → lines_of xs ≡ line ∷ lines_of ys → 4096 < length final → Gives TooLong final xs ys
too_long final line xs ys same first far = (line, first, subst (λ (l : List ℕ). 4096 < length l) (sym same) far)

whole : (final line xs ys : List ℕ) → line ≡ final → lines_of xs ≡ line ∷ lines_of ys → length final ≤ 4096 → Gives Line final xs ys
whole final line xs ys same first short = (first ∙ ap (λ l. l ∷ lines_of ys) same, short)

pub returns-in-Room : goal.returns-in-Room
returns-in-Room g c =
    let kept = c.take_line.new.line.items in
    Known-both (TakesLine 4098 c.in_ok-take_line.field-0 kept) PassesLine (Gives TooLong kept) _ _ _
    (λ xs ys zs p q. let taken = rw c.in-Room.is at p in gives_long kept xs ys zs taken.0 taken.1 q)
    c.in_ok-take_line.ensures c.in_ok-skip_line-in-Room.ensures

pub returns-then-len-gt-LONGEST_LINE : goal.returns-then-len-gt-LONGEST_LINE
returns-then-len-gt-LONGEST_LINE g c =
    let kept = c.take_line.new.line.items in
    let final = c.match-branch-2.line.items in
    let far : 4096 < length final = omega arith in
    Known-weaker (TakesLine 4098 c.in_ok-take_line.field-0 kept) (Gives TooLong final) _ _
    (λ xs ys p. elim c.match-branch-2.branch [
      | in-Break w ↦
          let same : strip_last 13 kept ≡ final = cc in
          too_long final (strip_last 13 kept) xs ys same (gives_break kept xs ys (rw w.in-Break.is at p)) far
      | in-End+else-is_empty w ↦
          let same : kept ≡ final = cc in
          let taken = rw w.in-End.is at p in
          too_long final kept xs ys same (gives_rest kept xs ys taken.0 taken.1 (some _ (length kept) _ w.is_empty.ensures w.if-is_empty.false (omega arith))) far
    ])
    c.in_ok-take_line.ensures

pub returns : goal.returns
returns g c =
    let kept = c.take_line.new.line.items in
    let final = c.match-branch-2.line.items in
    let short : length final ≤ 4096 = omega arith in
    Known-weaker (TakesLine 4098 c.in_ok-take_line.field-0 kept) (Gives Line final) _ _
    (λ xs ys p. elim c.match-branch-2.branch [
      | in-Break w ↦
          let same : strip_last 13 kept ≡ final = cc in
          whole final (strip_last 13 kept) xs ys same (gives_break kept xs ys (rw w.in-Break.is at p)) short
      | in-End+else-is_empty w ↦
          let same : kept ≡ final = cc in
          let taken = rw w.in-End.is at p in
          whole final kept xs ys same (gives_rest kept xs ys taken.0 taken.1 (some _ (length kept) _ w.is_empty.ensures w.if-is_empty.false (omega arith))) short
    ])
    c.in_ok-take_line.ensures
