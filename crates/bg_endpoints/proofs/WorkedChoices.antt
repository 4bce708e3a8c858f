-- Worked choices: a revision has the ports 9101, 9102 and 9103, of which two are available.
use Rattle.std.proofs.Common.{◌≡◌, true, false, [], ◌∷◌, map}
use Rattle.bg_endpoints.specs.Choices.{takes_part}
use Rattle.bg_endpoints.specs.declared.port_lists.PortList.{PortList}
use Rattle.bg_endpoints.specs.declared.table.Table.{Table}

module _ (t : Table) (l : PortList) (ports : l.ports.items ≡ 9101 ∷ 9102 ∷ 9103 ∷ []) (two : l.available ≡ 2) where
  -- none is down: the third port is not available
  first_two : t.down.items ≡ [] → map (takes_part t l 9101) (9101 ∷ 9102 ∷ 9103 ∷ []) ≡ true ∷ true ∷ false ∷ []
  first_two down = simp (ports, two, down)

  -- the first one is down: the third one is up in its place
  in_its_place : t.down.items ≡ 9101 ∷ [] → map (takes_part t l 9101) (9101 ∷ 9102 ∷ 9103 ∷ []) ≡ true ∷ true ∷ true ∷ []
  in_its_place down = simp (ports, two, down)

  -- the third one is down
  third_down : t.down.items ≡ 9103 ∷ [] → map (takes_part t l 9101) (9101 ∷ 9102 ∷ 9103 ∷ []) ≡ true ∷ true ∷ false ∷ []
  third_down down = simp (ports, two, down)

  -- a request whose ticket has the third port came while three were available
  own_ticket : t.down.items ≡ [] → map (takes_part t l 9103) (9101 ∷ 9102 ∷ 9103 ∷ []) ≡ true ∷ true ∷ true ∷ []
  own_ticket down = simp (ports, two, down)
