use Rattle.std.proofs.Common.{ap, sym, ◌∙◌, subst, arith}
use Rattle.sqlite.specs.Effect.{Database}
use Rattle.sqlite.specs.State.{HasCleanDisk}
use Rattle.sqlite.specs.Files.{file_state, AreFoundIn}
use Rattle.sqlite_wal.specs.Files.{image_at}
use Rattle.bg_journal_store.proofs.Opening.{found_shaped}
use Rattle.bg_journal_store.proofs.journal.Journal+FileStore+FileFrom+S.open.Goals as goal

pub accept-requires-clause-opened : goal.accept-requires-clause-opened
accept-requires-clause-opened g c clean = (c.in-Ok.ensures.opened clean).0

pub accept-requires-clause-ordered : goal.accept-requires-clause-ordered
accept-requires-clause-ordered g c clean sound =
    let same = ap (λ (d : Database). d.trees) (c.in-Ok.ensures.opened clean).0.clean in
    found_shaped (image_at g.S.Start) (file_state c.in-Ok.conn).now.trees (subst (AreFoundIn (image_at g.S.Start)) (sym same) (c.in-Ok.ensures.found clean).reads) sound

pub returns-in-Ok-clause-found : goal.returns-in-Ok-clause-found
returns-in-Ok-clause-found g c clean =
    let was : HasCleanDisk (file_state c.in-Ok.conn) = omega (arith, c.accept.ensures.clean, clean) in
    let same = ap (λ (d : Database). d.trees) (c.in-Ok.ensures.opened was).0.clean in
    let found = c.in-Ok.ensures.found was in
    record {
      found = (file_state c.in-Ok.conn).now.trees;
      holds = λ db held. same ∙ found.holds db held;
      reads = subst (AreFoundIn (image_at g.S.Start)) (sym same) found.reads;
      comes = c.in_ok-accept-in-Ok.ensures.comes clean;
    }

pub invariant_of-result : goal.invariant_of-result
invariant_of-result g c = (λ clean opened. c.in_ok-accept-in-Ok.ensures.journal clean, c.accept.ensures.limit ∙ c.in-Ok.ensures.fresh.unlimited)
