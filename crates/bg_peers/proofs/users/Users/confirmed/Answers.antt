use Rattle.std.proofs.Common.{◌≡◌, false, None, ap, length, replicate, sym, ◌∙◌}
use Rattle.std.proofs.lemmas.List.Elements.{All-same}
use Rattle.std.proofs.lemmas.Result.{IfOk-weaker}
use Rattle.std.specs.List.{list_any}
use Rattle.bg_peers.proofs.Confirming.{IsListed, all_listed, none_confirmed}
use Rattle.bg_peers.specs.Confirmed.{confirmed_users, has_user_of}
use Rattle.bg_peers.proofs.users.Users.confirmed.Goals as goal

pub returns-clause-listed : goal.returns-clause-listed
returns-clause-listed g c =
    let users = c.args.self.now in
    let first = c.deref-2.result.now in
    let second = c.deref-3.result.now in
    IfOk-weaker c.confirmed_users.result _ _
    (λ v is. All-same (IsListed users) v.items (confirmed_users users first second) is (all_listed users first second))
    c.confirmed_users.ensures

pub returns-then-not-has_any_of-clause-confirmed :
    goal.returns-then-not-has_any_of-clause-confirmed
returns-then-not-has_any_of-clause-confirmed g c =
    let users = c.args.self.now in
    let first = c.in_ok-first.first.items in
    let none : list_any (has_user_of users) first ≡ false =
    sym (c.if-not-has_any_of.ensures ∙ ap (λ xs. list_any (has_user_of users) xs) c.deref.ensures.value) in
    let count : c.len.result ≡ length first =
    c.len.ensures ∙ sym c.deref.ensures.len ∙ ap length c.deref.ensures.value in
    IfOk-weaker c.nobody.result _ _
    (λ v is. (
      c.read.new.self,
      first,
      first,
      c.in_ok-first.ensures,
      (λ some. absurd (cc)),
      is ∙ ap (λ n. replicate n None) count ∙ sym (none_confirmed users first none),
    ))
    c.nobody.ensures
