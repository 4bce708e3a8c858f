-- Each change keeps the invariant of a roster.
use Rattle.std.proofs.Common.{◌≡◌, ◌<◌, ◌≤◌, ◌+◌, ℕ, Bool, true, false, cond, ◌==◌, List, [], ◌∷◌, ◌++◌, length, map, filter, None, refl, arith, ap, sym, ◌∙◌, length-append, take, drop}
use Rattle.std.specs.Str.{bytes_eq}
use Rattle.std.proofs.lemmas.Bool.Decides.{nat_tests}
use Rattle.std.proofs.lemmas.Slice.Eq.{bytes_eq-Decides}
use Rattle.std.proofs.lemmas.List.{length-map, take_all, drop_all, append-nil}
use Rattle.bg_revisions.specs.declared.revision.Revision.{Revision}
use Rattle.bg_revisions.specs.Rosters.{Listing, named, is_well_formed, resized, reported, AscendsWithin, HasOwnNames, AreWellFormed, IsRoster}

-- a change that keeps number, name and ports
record Keeps (f : Revision → Revision) : Type 0 where
  number : (v : Revision) → (f v).number ≡ v.number
  name : (v : Revision) → (f v).name ≡ v.name
  ports : (v : Revision) → (f v).ports ≡ v.ports

named-map : (f : Revision → Revision) (name : List ℕ) (vs : List Revision) → Keeps f → named name vs ≡ None → named name (map f vs) ≡ None
named-map f name [] keeps absent = refl
named-map f name (v ∷ vs) keeps absent = rw (keeps.name v) (grind (arith, nat_tests, named-map f name vs keeps))

Ascends-map : (f : Revision → Revision) (low last : ℕ) (vs : List Revision) → Keeps f → AscendsWithin low last vs → AscendsWithin low last (map f vs)
Ascends-map f low last [] keeps h = h
Ascends-map f low last (v ∷ vs) keeps h = rw (keeps.number v) (h.0, Ascends-map f v.number last vs keeps h.1)

HasOwnNames-map : (f : Revision → Revision) (vs : List Revision) → Keeps f → HasOwnNames vs → HasOwnNames (map f vs)
HasOwnNames-map f [] keeps h = tt
HasOwnNames-map f (v ∷ vs) keeps h = rw (keeps.name v) (named-map f v.name vs keeps h.0, HasOwnNames-map f vs keeps h.1)

AreWellFormed-map : (f : Revision → Revision) (replicas : ℕ) (vs : List Revision) → Keeps f → AreWellFormed replicas vs → AreWellFormed replicas (map f vs)
AreWellFormed-map f replicas [] keeps h = tt
AreWellFormed-map f replicas (v ∷ vs) keeps h = rw (keeps.name v, keeps.ports v) (h.0, AreWellFormed-map f replicas vs keeps h.1)

IsRoster-map : (f : Revision → Revision) (r : Listing) → Keeps f → IsRoster r → IsRoster (record r { revisions = map f r.revisions })
IsRoster-map f r keeps h = record {
  few = rw (length-map r.revisions f) h.few;
  ascends = Ascends-map f 0 r.last r.revisions keeps h.ascends;
  own_names = HasOwnNames-map f r.revisions keeps h.own_names;
  well_formed = AreWellFormed-map f r.replicas r.revisions keeps h.well_formed;
}

keep-when : (b : Bool) (v w : Revision) → w.number ≡ v.number → w.name ≡ v.name → w.ports ≡ v.ports
    → ((cond b w v).number ≡ v.number) × ((cond b w v).name ≡ v.name) × ((cond b w v).ports ≡ v.ports)
keep-when true v w number name ports = (number, name, ports)
keep-when false v w number name ports = (refl, refl, refl)

-- a roster is still one after a revision's desired number of endpoints is set
pub IsRoster-resized : (number n : ℕ) (r : Listing) → IsRoster r → IsRoster (record r { revisions = map (resized number n) r.revisions })
IsRoster-resized number n r h = IsRoster-map (resized number n) r (record {
  number = λ v. (keep-when (v.number == number) v (record v { desired = n; available = cond (n == 0) 0 v.available }) refl refl refl).0;
  name = λ v. (keep-when (v.number == number) v (record v { desired = n; available = cond (n == 0) 0 v.available }) refl refl refl).1;
  ports = λ v. (keep-when (v.number == number) v (record v { desired = n; available = cond (n == 0) 0 v.available }) refl refl refl).2;
}) h

-- a roster is still one after a report
pub IsRoster-reported : (number n : ℕ) (r : Listing) → IsRoster r → IsRoster (record r { revisions = map (reported number n) r.revisions })
IsRoster-reported number n r h = IsRoster-map (reported number n) r (record {
  number = λ v. (keep-when (v.number == number) v (record v { available = n }) refl refl refl).0;
  name = λ v. (keep-when (v.number == number) v (record v { available = n }) refl refl refl).1;
  ports = λ v. (keep-when (v.number == number) v (record v { available = n }) refl refl refl).2;
}) h

Ascends-lower : (low high last : ℕ) (vs : List Revision) → low ≤ high → AscendsWithin high last vs → AscendsWithin low last vs
Ascends-lower low high last [] le h = omega (arith, h)
Ascends-lower low high last (v ∷ vs) le h = (omega (arith, h.0), h.1)

named-filter : (p : Revision → Bool) (name : List ℕ) (vs : List Revision) → named name vs ≡ None → named name (filter p vs) ≡ None
named-filter p name [] absent = refl
named-filter p name (v ∷ vs) absent = grind (arith, nat_tests, named-filter p name vs)

Ascends-filter : (p : Revision → Bool) (low last : ℕ) (vs : List Revision) → AscendsWithin low last vs → AscendsWithin low last (filter p vs)
Ascends-filter p low last [] h = h
Ascends-filter p low last (v ∷ vs) h = kept (p v) low last v (filter p vs) h.0 (Ascends-filter p v.number last vs h.1) where
  kept : (b : Bool) (low last : ℕ) (v : Revision) (vs : List Revision) → low < v.number → AscendsWithin v.number last vs → AscendsWithin low last (cond b (v ∷ vs) vs)
  kept true low last v vs lt h = (lt, h)
  kept false low last v vs lt h = Ascends-lower low v.number last vs (omega arith) h

HasOwnNames-filter : (p : Revision → Bool) (vs : List Revision) → HasOwnNames vs → HasOwnNames (filter p vs)
HasOwnNames-filter p [] h = tt
HasOwnNames-filter p (v ∷ vs) h = kept (p v) v (filter p vs) (named-filter p v.name vs h.0) (HasOwnNames-filter p vs h.1) where
  kept : (b : Bool) (v : Revision) (vs : List Revision) → named v.name vs ≡ None → HasOwnNames vs → HasOwnNames (cond b (v ∷ vs) vs)
  kept true v vs here h = (here, h)
  kept false v vs here h = h

AreWellFormed-filter : (p : Revision → Bool) (replicas : ℕ) (vs : List Revision) → AreWellFormed replicas vs → AreWellFormed replicas (filter p vs)
AreWellFormed-filter p replicas [] h = tt
AreWellFormed-filter p replicas (v ∷ vs) h = kept (p v) replicas v (filter p vs) h.0 (AreWellFormed-filter p replicas vs h.1) where
  kept : (b : Bool) (replicas : ℕ) (v : Revision) (vs : List Revision) → is_well_formed replicas v.name v.ports ≡ true → AreWellFormed replicas vs → AreWellFormed replicas (cond b (v ∷ vs) vs)
  kept true replicas v vs here h = (here, h)
  kept false replicas v vs here h = h

few-filter : (p : Revision → Bool) (vs : List Revision) → length (filter p vs) ≤ length vs
few-filter p [] = omega arith
few-filter p (v ∷ vs) = grind (arith, nat_tests, few-filter p vs)

-- a roster is still one after revisions are removed
pub IsRoster-filter : (p : Revision → Bool) (r : Listing) → IsRoster r → IsRoster (record r { revisions = filter p r.revisions })
IsRoster-filter p r h = record {
  few = omega (arith, few-filter p r.revisions, h.few);
  ascends = Ascends-filter p 0 r.last r.revisions h.ascends;
  own_names = HasOwnNames-filter p r.revisions h.own_names;
  well_formed = AreWellFormed-filter p r.replicas r.revisions h.well_formed;
}

Ascends-push : (low last : ℕ) (vs : List Revision) (v : Revision) → v.number ≡ last + 1 → AscendsWithin low last vs → AscendsWithin low v.number (vs ++ v ∷ [])
Ascends-push low last [] v next h = (omega (arith, h), omega arith)
Ascends-push low last (w ∷ vs) v next h = (h.0, Ascends-push w.number last vs v next h.1)

differ : (a b : List ℕ) (same : Bool) → bytes_eq b a ≡ same → bytes_eq a b ≡ false → same ≡ false
differ a b false is other = refl
differ a b true is other =
    let e : b ≡ a = (bytes_eq-Decides b a).0 is in
    let back : bytes_eq a b ≡ true = (bytes_eq-Decides a b).1 (sym e) in
    cc

named-push : (name : List ℕ) (vs : List Revision) (v : Revision) → named name vs ≡ None → bytes_eq v.name name ≡ false → named name (vs ++ v ∷ []) ≡ None
named-push name [] v absent other = rw other refl
named-push name (w ∷ vs) v absent other = grind (arith, nat_tests, named-push name vs v)

HasOwnNames-push : (vs : List Revision) (v : Revision) → named v.name vs ≡ None → HasOwnNames vs → HasOwnNames (vs ++ v ∷ [])
HasOwnNames-push [] v absent h = (refl, tt)
HasOwnNames-push (w ∷ vs) v absent h =
    let other : bytes_eq w.name v.name ≡ false = grind (arith, nat_tests) in
    let rest : named v.name vs ≡ None = grind (arith, nat_tests) in
    (named-push w.name vs v h.0 (differ w.name v.name (bytes_eq v.name w.name) refl other), HasOwnNames-push vs v rest h.1)

AreWellFormed-push : (replicas : ℕ) (vs : List Revision) (v : Revision) → is_well_formed replicas v.name v.ports ≡ true → AreWellFormed replicas vs → AreWellFormed replicas (vs ++ v ∷ [])
AreWellFormed-push replicas [] v here h = (here, tt)
AreWellFormed-push replicas (w ∷ vs) v here h = (h.0, AreWellFormed-push replicas vs v here h.1)

-- a roster is still one after a revision with a new name is added
pub IsRoster-push : (r : Listing) (v : Revision) → v.number ≡ r.last + 1 → named v.name r.revisions ≡ None → is_well_formed r.replicas v.name v.ports ≡ true
    → length r.revisions < 64 → IsRoster r → IsRoster (record r { revisions = r.revisions ++ v ∷ []; last = v.number })
IsRoster-push r v next is_new formed room h = record {
  few = omega (arith, length-append r.revisions (v ∷ []));
  ascends = Ascends-push 0 r.last r.revisions v next h.ascends;
  own_names = HasOwnNames-push r.revisions v is_new h.own_names;
  well_formed = AreWellFormed-push r.replicas r.revisions v formed h.well_formed;
}

-- after a loop over a whole list, each element has been changed
pub map-whole : (f : Revision → Revision) (xs items : List Revision) (n : ℕ) → items ≡ map f (take n xs) ++ drop n xs → length xs ≤ n → items ≡ map f xs
map-whole f xs items n done all = done ∙ ap (λ ys. map f ys ++ drop n xs) (take_all n xs all) ∙ ap (λ ys. map f xs ++ ys) (drop_all n xs all) ∙ append-nil (map f xs)

-- a vector whose elements were all written back
pub take-written : (xs items : List Revision) (len : ℕ) → length items ≡ length xs → length xs ≡ len → take len (items ++ drop (length items) xs) ≡ items
take-written xs items len same is =
    ap (λ ys. take len (items ++ ys)) (drop_all (length items) xs (omega arith)) ∙ ap (take len) (append-nil items) ∙ take_all len items (omega arith)
