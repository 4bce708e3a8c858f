-- The rank of a revision among stamps.
use Rattle.std.proofs.Common.{◌≡◌, ◌<◌, ◌≤◌, ◌+◌, ℕ, Bool, true, false, ◌==◌, ◌&&◌, nat_lt, List, [], ◌∷◌, Some, refl, arith, inl, inr}
use Rattle.std.proofs.lemmas.Bool.Decides.{nat_tests, eqb_tells}
use Rattle.bg_scaledown.specs.Due.{one_if, rank_in}
use Rattle.bg_history.specs.Tables.{Stamp, stamp_of, marks_of}
use Rattle.bg_scaledown.proofs.Orders.{stamp_has_left, LeftBefore, Ordered}

-- the number of counted stamps that left after that many entries
abbrev pub later : (ℕ → Bool) → ℕ → List Stamp → ℕ
later counted position [] = 0
later counted position (stamp ∷ stamps) = one_if (stamp_has_left stamp && counted stamp.mark.revision && nat_lt position stamp.position) + later counted position stamps

-- no stamp of those that left earlier is later
later-none : (counted : ℕ → Bool) (low position : ℕ) (stamps : List Stamp) → low ≤ position → LeftBefore low stamps → later counted position stamps ≡ 0
later-none counted low position [] le before = refl
later-none counted low position (stamp ∷ stamps) le before = grind (arith, nat_tests, before.0, later-none counted low position stamps le before.1)

-- a stamp in a list of stamps that left earlier left earlier
stamp_of-left_before : (low r : ℕ) (stamps : List Stamp) (me : Stamp) → LeftBefore low stamps → stamp_of r stamps ≡ Some me → stamp_has_left me ≡ true → me.position < low
stamp_of-left_before low r [] me before here left = cc
stamp_of-left_before low r (stamp ∷ stamps) me before here left = grind (arith, nat_tests, before.0, stamp_of-left_before low r stamps me before.1)

-- the case in which r's stamp is the first
rank_in-here : (counted : ℕ → Bool) (r : ℕ) (stamp : Stamp) (stamps : List Stamp) (me : Stamp) → Ordered (stamp ∷ stamps) → stamp_of r (stamp ∷ stamps) ≡ Some me → stamp_has_left me ≡ true
    → (stamp.mark.revision == r) ≡ true → rank_in counted r (marks_of (stamp ∷ stamps)) ≡ later counted me.position (stamp ∷ stamps)
rank_in-here counted r stamp stamps me ordered here left same =
    let is : stamp ≡ me = grind (arith, nat_tests) in
    let stamp_left : stamp_has_left stamp ≡ true = rw is left in
    let none : later counted stamp.position stamps ≡ 0 = later-none counted stamp.position stamp.position stamps (omega arith) (ordered.0 stamp_left) in
    grind (arith, nat_tests)

-- the case in which another stamp is the first
rank_in-there : (counted : ℕ → Bool) (r : ℕ) (stamp : Stamp) (stamps : List Stamp) (me : Stamp) (b : Bool) → stamp_has_left stamp ≡ b → Ordered (stamp ∷ stamps) → stamp_of r stamps ≡ Some me → stamp_has_left me ≡ true
    → (stamp.mark.revision == r) ≡ false → rank_in counted r (marks_of stamps) ≡ later counted me.position stamps → rank_in counted r (marks_of (stamp ∷ stamps)) ≡ later counted me.position (stamp ∷ stamps)
rank_in-there counted r stamp stamps me true is ordered here left other below =
    let newer : me.position < stamp.position = stamp_of-left_before stamp.position r stamps me (ordered.0 is) here left in
    grind (arith, nat_tests)
rank_in-there counted r stamp stamps me false is ordered here left other below = grind (arith, nat_tests)

-- the counted stamps in front of r's are those that left later
pub rank_in-is_later : (counted : ℕ → Bool) (r : ℕ) (stamps : List Stamp) (me : Stamp) → Ordered stamps → stamp_of r stamps ≡ Some me → stamp_has_left me ≡ true
    → rank_in counted r (marks_of stamps) ≡ later counted me.position stamps
rank_in-is_later counted r [] me ordered here left = cc
rank_in-is_later counted r (stamp ∷ stamps) me ordered here left =
    elim (eqb_tells stamp.mark.revision r) [
      | inl h ↦ rank_in-here counted r stamp stamps me ordered here left h.0
      | inr h ↦ let below_here : stamp_of r stamps ≡ Some me = grind (arith, nat_tests) in
          rank_in-there counted r stamp stamps me (stamp_has_left stamp) refl ordered below_here left h.0 (rank_in-is_later counted r stamps me ordered.1 below_here left)
    ]
