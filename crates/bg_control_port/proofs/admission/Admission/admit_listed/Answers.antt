use Rattle.std.proofs.Common.{subst}
use Rattle.std.proofs.lemmas.List.Elements.{All-same}
use Rattle.std.proofs.lemmas.Result.{IfOk-weaker}
use Rattle.bg_control_port.proofs.Admitting.{HasListed, all_have_listed}
use Rattle.bg_control_port.specs.Admissions.{served_of}
use Rattle.bg_peers.specs.Confirmed.{AreConfirmed}
use Rattle.bg_control_port.proofs.admission.Admission.admit_listed.Goals as goal

pub returns-clause-listed : goal.returns-clause-listed
returns-clause-listed g c =
    let operators = c.args.operators.now in
    let arrived = c.args.arrived.items in
    let users = c.in_ok-users.users.items in
    IfOk-weaker c.serve_confirmed.result _ _
    (λ v is. All-same (HasListed operators) v.items (served_of arrived users) is
    (all_have_listed operators arrived users c.in_ok-users.ensures.listed))
    c.serve_confirmed.ensures

pub returns-clause-served : goal.returns-clause-served
returns-clause-served g c =
    IfOk-weaker c.serve_confirmed.result _ _
    (λ v is. (
      c.in_ok-users.users.items,
      subst (λ streams. AreConfirmed g.L.PeerLookup.tells c.args.operators.now c.args.lookup.now c.confirmed.new.lookup streams c.in_ok-users.users.items)
          c.deref.ensures.value c.in_ok-users.ensures.confirmed,
      is,
    ))
    c.serve_confirmed.ensures
