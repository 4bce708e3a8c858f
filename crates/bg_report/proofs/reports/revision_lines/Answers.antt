use Rattle.std.proofs.Common.{◌≡◌, ◌<◌, length, arith, Some, None, slice_get, option_copied, sym, ap, ◌∙◌, subst}
use Rattle.std.proofs.lemmas.List.{length-map}
use Rattle.std.specs.Io.KnownBytes.{Appends}
use Rattle.bg_history.specs.Sizes.{existing}
use Rattle.bg_history_laws.specs.Listed.{revisions_of, revision_of}
use Rattle.bg_report.specs.Reports.{revision_line}
use Rattle.bg_report.proofs.ReportLines.{writes_next, has_element}
use Rattle.bg_report.proofs.reports.revision_lines.Goals as goal
use Rattle.bg_report.proofs.reports.revision_lines.Goals.{in-Some+in_ok-write, in_default}

pub loop-place-preserved : goal.loop-place-preserved
loop-place-preserved g c =
    let b = c.args.book.now in
    let xs = revisions_of b.strategy b.opening b.past in
    let place = c.loop-place.place in
    elim c.match-revision.branch [
      | in-Some+in_ok-write w ↦
          let revision = w.in-Some.revision.now in
          let here : slice_get xs place ≡ Some revision = sym c.revision.ensures.past ∙ ap option_copied w.in-Some.is in
          let written : Appends (g.W.Write.contents c.loop-place.writer) (g.W.Write.contents c.match-revision.writer) (revision_line b revision) =
          subst (λ s. Appends (g.W.Write.contents c.loop-place.writer) (g.W.Write.contents s) (revision_line b revision)) (sym w.writer-is) w.in_ok-write.ensures.bytes in
          writes_next (revision_line b) xs place revision _ _ _ here c.loop-place.invariant written
      | in_default w ↦
          let none : slice_get xs place ≡ None = sym c.revision.ensures.past ∙ ap option_copied w.in_default.is in
          let within : place < length xs = omega (arith, c.loop-place-test.true, c.count-place-end.ensures, length-map (existing b.past) (revision_of b.strategy b.opening b.past)) in
          absurd (has_element xs place within none)
    ]
