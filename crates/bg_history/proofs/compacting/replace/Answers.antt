use Rattle.std.proofs.Common.{Some, ap, sym, ◌∙◌, arith}
use Rattle.std.proofs.lemmas.Option.{same_Some}
use Rattle.bg_history.proofs.Laying.{get-at}
use Rattle.bg_history.proofs.compacting.replace.Goals as goal

pub bounds-closed-seat : goal.bounds-closed-seat
bounds-closed-seat c =
    let k = c.in-Enter in
    let at = get-at c.args.entries.now c.args.place c.index-entries-place.result c.requires.within ∙ ap Some k.is in
    (c.requires.fits k.seat k.number k.revision k.port k.service at).0

pub overflow_add-closed : goal.overflow_add-closed
overflow_add-closed c =
    let k = c.in-Enter in
    let at = get-at c.args.entries.now c.args.place c.index-entries-place.result c.requires.within ∙ ap Some k.is in
    let most = (c.requires.fits k.seat k.number k.revision k.port k.service at).1 in
    omega (arith, most)

pub bounds-closed-seat-in-Enter : goal.bounds-closed-seat-in-Enter
bounds-closed-seat-in-Enter c =
    let k = c.in-Enter in
    let at = get-at c.args.entries.now c.args.place c.index-entries-place.result c.requires.within ∙ ap Some k.is in
    (c.requires.fits k.seat k.number k.revision k.port k.service at).0

pub returns-in-Enter-clause-entries : goal.returns-in-Enter-clause-entries
returns-in-Enter-clause-entries c seat number revision port service h =
    let k = c.in-Enter in
    let at = get-at c.args.entries.now c.args.place c.index-entries-place.result c.requires.within ∙ ap Some k.is in
    let same = same_Some _ _ (sym at ∙ h) in
    cc

pub returns-in-Enter-clause-closed : goal.returns-in-Enter-clause-closed
returns-in-Enter-clause-closed c seat number revision port service h =
    let k = c.in-Enter in
    let at = get-at c.args.entries.now c.args.place c.index-entries-place.result c.requires.within ∙ ap Some k.is in
    let same = same_Some _ _ (sym at ∙ h) in
    cc

pub returns-in_default : goal.returns-in_default
returns-in_default c =
    let at = get-at c.args.entries.now c.args.place c.index-entries-place.result c.requires.within in
    record {
      entries = λ seat number revision port service h. absurd (c.in_default.not-Enter seat service number revision port (same_Some _ _ (sym at ∙ h)));
      closed = λ seat number revision port service h. absurd (c.in_default.not-Enter seat service number revision port (same_Some _ _ (sym at ∙ h)));
    }
