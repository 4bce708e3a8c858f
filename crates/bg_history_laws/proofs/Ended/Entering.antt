-- A request that enters allows no outcome.
use Rattle.std.proofs.Common.{◌≡◌, ℕ, true, ◌==◌, List, [], ◌∷◌, ◌++◌, map, filter, refl, arith}
use Rattle.std.proofs.lemmas.Bool.Decides.{nat_tests}
use Rattle.bg_history.specs.declared.entry.Entry.{Entry}
use Rattle.bg_history.specs.declared.entry.Entry.TheVariants.{Enter}
use Rattle.bg_revisions.specs.declared.revision.Service.{Service}
use Rattle.bg_strategy.specs.declared.strategy.Strategy.{Strategy}
use Rattle.bg_history.specs.Requests.{Request, open_requests}
use Rattle.bg_history.specs.Deadlines.{is_empty}
use Rattle.bg_history.specs.Steps.{is_settled}
use Rattle.bg_history_laws.proofs.Ended.Settled.{done-from_settled, settled-from_done}
use Rattle.bg_history_laws.proofs.Ended.Lowering.{not-lowered, enter-calm}

-- if no request is at q after one more, none was at q before
empty-more : (q : ℕ) (x : Request) (held : List Request)
    → is_empty (map (λ o. o.number) (filter (λ o. o.revision == q) (held ++ x ∷ []))) ≡ true → is_empty (map (λ o. o.number) (filter (λ o. o.revision == q) held)) ≡ true
empty-more q x [] h = refl
empty-more q x (o ∷ held) h = grind (arith, nat_tests, empty-more q x held)

-- no revision becomes due, and no revision becomes old
pub entering-settles : (s : Strategy) (past : List Entry) (seat : ℕ) (service : Service) (number r port : ℕ)
    → is_settled s past ≡ true → is_settled s (Enter seat service number r port ∷ past) ≡ true
entering-settles s past seat service number r port h =
    let e : Entry = Enter seat service number r port in
    let done = done-from_settled s past h in
    settled-from_done s (e ∷ past)
    (record {
      no_step = done.no_step;
      no_lowering = λ q. not-lowered s q e past (enter-calm s seat service number r port past)
          (empty-more q (record { seat = seat; number = number; revision = r; port = port }) (open_requests past))
          (done.no_lowering q);
      few_old = done.few_old;
    })
