-- The ports that are dialled for a request, one after the other.
use Rattle.std.proofs.Common.{◌≡◌, ℕ, ◌+◌, true, List, [], ◌∷◌, ◌++◌, length, refl, sym, ap, subst, append-nil, append_assoc, Option, IsNone, IsSome}
use Rattle.bg_endpoints.specs.Choices.{is_new}
use Rattle.bg_dial.specs.declared.dialled.Route.{Route}
use Rattle.bg_endpoints.specs.Routing.{AreInTurnAfter, IsChosen, IsInTurn, IsNextPort}
use Rattle.bg_event_loop.specs.Tries.{AreInTurn, TakesRoute, TriesRun, route_of, tried}
use Rattle.bg_event_loop.specs.declared.tries.Tries.{Tries}

-- one more port behind those in turn
in_turn_more : (follows : List ℕ → ℕ → Type 0) (before ports : List ℕ) (port : ℕ) → AreInTurnAfter follows before ports
    → is_new port (before ++ ports) ≡ true → follows (before ++ ports) port
    → AreInTurnAfter follows before (ports ++ port ∷ [])
in_turn_more follows before [] port turn once chosen = (
  subst (λ (all : List ℕ). is_new port all ≡ true) (append-nil before) once,
  subst (λ (all : List ℕ). follows all port) (append-nil before) chosen,
  tt,
)
in_turn_more follows before (one ∷ ports) port turn once chosen =
    let all : before ++ one ∷ ports ≡ (before ++ one ∷ []) ++ ports = sym (append_assoc before (one ∷ []) ports) in (
      turn.0,
      turn.1,
      in_turn_more follows (before ++ one ∷ []) ports port turn.2
          (subst (λ (ports : List ℕ). is_new port ports ≡ true) all once)
          (subst (λ (ports : List ℕ). follows ports port) all chosen),
    )

run_in_turn : (follows : List ℕ → ℕ → Type 0) (now : Tries) (others : List Tries) (last : Tries)
    → AreInTurnAfter follows [] (tried now) → TriesRun follows now others last → AreInTurnAfter follows [] (tried last)
run_in_turn follows now [] last turn is = subst (λ (t : Tries). AreInTurnAfter follows [] (tried t)) is turn
run_in_turn follows now (next ∷ others) last turn is =
    let more = in_turn_more follows [] (tried now) next.port turn is.0.once is.0.chosen in
    run_in_turn follows next others last
    (subst (λ (failed : List ℕ). AreInTurnAfter follows [] (failed ++ next.port ∷ [])) (sym is.0.failed_is) more) is.1

pub in_turn : (follows : List ℕ → ℕ → Type 0) (first : Tries) (others : List Tries) (last : Tries)
    → AreInTurn follows first others last
in_turn follows first others last none chosen is =
    run_in_turn follows first others last
    (subst (λ (failed : List ℕ). AreInTurnAfter follows [] (failed ++ first.port ∷ [])) (sym none) (refl, chosen, tt)) is

-- ports in turn by a relation are so by each that follows from it
in_turn_by : (one other : List ℕ → ℕ → Type 0) → ((tried : List ℕ) (port : ℕ) → one tried port → other tried port)
    → (before ports : List ℕ) → AreInTurnAfter one before ports → AreInTurnAfter other before ports
in_turn_by one other so before [] turn = tt
in_turn_by one other so before (port ∷ ports) turn =
    (turn.0, so before port turn.1, in_turn_by one other so (before ++ port ∷ []) ports turn.2)

abbrev route : ℕ → ℕ → Route
route port tries = record { port = port; tries = tries }

-- without a directory, a second port is none
alone : {D : Type 0} (directory : Option D) → IsNone directory → (ticket : ℕ) (failed : List ℕ) (port : ℕ)
    → AreInTurnAfter (IsNextPort directory ticket) [] (failed ++ port ∷ [])
    → route port (length failed + 1) ≡ route ticket 1
alone directory absent ticket [] port turn = ap (λ (p : ℕ). route p 1) (turn.1.1 absent).0
alone directory absent ticket (one ∷ []) port turn = absurd (let second = (turn.2.1.1 absent).1 in cc)
alone directory absent ticket (one ∷ two ∷ failed) port turn = absurd (let second = (turn.2.1.1 absent).1 in cc)

pub takes_route : {D : Type 0} (directory : Option D) (ticket : ℕ) (first : Tries) (others : List Tries) (last : Tries)
    → TakesRoute directory ticket first others last
takes_route directory ticket first others last none chosen is = (by_directory, without) where
  turn : AreInTurnAfter (IsNextPort directory ticket) [] (tried last)
  turn = in_turn (IsNextPort directory ticket) first others last none chosen is

  by_directory : IsSome directory → IsInTurn (IsChosen ticket) (route_of last)
  by_directory some = record {
    earlier = last.failed.items;
    count = refl;
    ports = in_turn_by (IsNextPort directory ticket) (IsChosen ticket) (λ tried port next. next.0 some) [] (tried last) turn;
  }

  without : IsNone directory → route_of last ≡ route ticket 1
  without absent = alone directory absent ticket last.failed.items last.port turn
