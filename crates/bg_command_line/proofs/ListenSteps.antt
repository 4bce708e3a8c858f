-- What one more text adds to the addresses that texts write, and what its fault says of all texts.
use Rattle.std.proofs.Common.{◌≡◌, ◌∙◌, ◌<◌, ℕ, ◌+◌, suc, arith, List, [], ◌∷◌, ◌++◌, ap, sym, get_or, length, map, take, drop, take-append-drop, add-one}
use Rattle.std.proofs.Math.Seq.{drop-cons, take-suc}
use Rattle.std.proofs.lemmas.List.{length_push, map-append}
use Rattle.std.proofs.lemmas.List.Elements.{All-push}
use Rattle.std.proofs.lemmas.List.Kept.{AllPairs-cons}
use Rattle.std.specs.Borrow.{Bor}
use Rattle.std.specs.List.{AllZip}
use Rattle.std.specs.Prelude.{All, AllPairs}
use Rattle.std.specs.declared.net.ip_addr.IpAddr.{IpAddr}
use Rattle.clap.specs.Words.{Text}
use Rattle.bg_command_line.specs.Addresses.{IsAddressText}
use Rattle.bg_command_line.specs.declared.listen_addresses.ListenFault.{ListenFault}
use Rattle.bg_command_line.specs.ListenAddresses.{AreInConflict, AreWritten, IsFaultAt, IsFirstFault, IsNextAddress}

pairs_push : {X : Type 0} (R : X → X → Type 0) (xs : List X) (y : X) → AllPairs R xs → All (λ x. R x y) xs → AllPairs R (xs ++ y ∷ [])
pairs_push R [] y pairs last = λ i j d below within. absurd (omega arith)
pairs_push R (x ∷ xs) y pairs last =
    AllPairs-cons R x (xs ++ y ∷ [])
    (All-push (R x) xs y (λ k d within. pairs 0 (suc k) d (omega arith) (omega arith)) (last 0 x (omega arith)))
    (pairs_push R xs y (λ i j d below within. pairs (suc i) (suc j) d (omega arith) (omega arith)) (λ k d within. last (suc k) d (omega arith)))

zip_push : {X Y : Type 0} (R : X → Y → Type 0) (xs : List X) (ys : List Y) (x : X) (y : Y) → AllZip R xs ys → R x y
    → AllZip R (xs ++ x ∷ []) (ys ++ y ∷ [])
zip_push R [] [] x y zip last = (last, tt)
zip_push R [] (b ∷ ys) x y zip last = absurd zip
zip_push R (a ∷ xs) [] x y zip last = absurd zip
zip_push R (a ∷ xs) (b ∷ ys) x y zip last = (zip.0, zip_push R xs ys x y zip.1 last)

abbrev pub texts_of : List (Bor Text) → List Text
texts_of = map (λ t. t.now)

texts_more : (xs : List (Bor Text)) (i : ℕ) (d : Bor Text) → i < length xs
    → texts_of (take (i + 1) xs) ≡ texts_of (take i xs) ++ (get_or xs i d).now ∷ []
texts_more xs i d within =
    let more : take (i + 1) xs ≡ take i xs ++ get_or xs i d ∷ [] = rw add-one (take-suc xs i d within) in
    ap texts_of more ∙ map-append (λ (t : Bor Text). t.now) (take i xs) (get_or xs i d ∷ [])

texts_split : (xs : List (Bor Text)) (i : ℕ) (d : Bor Text) → i < length xs
    → texts_of xs ≡ texts_of (take i xs) ++ (get_or xs i d).now ∷ texts_of (drop (suc i) xs)
texts_split xs i d within =
    let parts : xs ≡ take i xs ++ get_or xs i d ∷ drop (suc i) xs =
    sym (take-append-drop i xs) ∙ ap (λ (ys : List (Bor Text)). take i xs ++ ys) (drop-cons xs i d within) in
    ap texts_of parts ∙ map-append (λ (t : Bor Text). t.now) (take i xs) (get_or xs i d ∷ drop (suc i) xs)

written_push : (texts : List Text) (addresses : List IpAddr) (text : Text) (next : IpAddr) → AreWritten texts addresses
    → IsNextAddress addresses text next → AreWritten (texts ++ text ∷ []) (addresses ++ next ∷ [])
written_push texts addresses text next so_far is = record {
  written = zip_push IsAddressText texts addresses text next so_far.written is.1;
  apart = pairs_push (λ a b. AreInConflict a b → ⊥) addresses next so_far.apart is.2;
  few = rw length_push (omega (arith, is.0));
}

-- the texts up to the next one write the addresses up to the next one
pub written_more : (xs : List (Bor Text)) (i : ℕ) (d : Bor Text) (addresses more : List IpAddr) (next : IpAddr) → i < length xs
    → AreWritten (texts_of (take i xs)) addresses → IsNextAddress addresses (get_or xs i d).now next
    → more ≡ addresses ++ next ∷ [] → AreWritten (texts_of (take (i + 1) xs)) more
written_more xs i d addresses more next within so_far is grows =
    rw (texts_more xs i d within, grows) (written_push (texts_of (take i xs)) addresses (get_or xs i d).now next so_far is)

-- the fault of the next text is the first one
pub first_fault : (xs : List (Bor Text)) (i : ℕ) (d : Bor Text) (addresses : List IpAddr) (fault : ListenFault) → i < length xs
    → AreWritten (texts_of (take i xs)) addresses → IsFaultAt addresses (get_or xs i d).now fault → IsFirstFault (texts_of xs) fault
first_fault xs i d addresses fault within so_far is = record {
  before = texts_of (take i xs);
  text = (get_or xs i d).now;
  after = texts_of (drop (suc i) xs);
  addresses = addresses;
  is = texts_split xs i d within;
  written = so_far;
  has_fault = is;
}
