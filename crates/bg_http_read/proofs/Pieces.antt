-- An input that is read in pieces from a stream.
use Rattle.std.proofs.Common.{◌≡◌, ℕ, ◌+◌, ◌≤◌, List, [], ◌++◌, length, take, sym, ◌∙◌, ap, append_assoc, arith, subst, Option, Some, None, IfSome, IfOk, IfErr, Result, Ok, Err, refl}
use Rattle.std.proofs.lemmas.List.{append-nil, length-append, length-take-le, take-append-le, take-take, take_all}
use Rattle.std.proofs.Math.Seq.{take-append-add}
use Rattle.std.specs.Io.KnownBytes.{Consumes, IsAtEnd, Keeps}
use Rattle.bg_http_read.specs.Streams.{Leaves}

-- these bytes of the input came, and the rest is to come
abbrev pub Came : List ℕ → List ℕ → List ℕ → Type 0
Came seen input rest = input ≡ seen ++ rest

-- a piece was read, and the rest comes after it
joined : (seen bytes input rest after : List ℕ) → input ≡ seen ++ rest → rest ≡ bytes ++ after
    → (seen ++ bytes) ++ after ≡ input
joined seen bytes input rest after h k =
    append_assoc seen bytes after ∙ ap (λ l. seen ++ l) (sym k) ∙ sym h

-- no byte came yet
pub none_came : (first : Option (List ℕ)) → Leaves (Came []) first first
none_came None = tt
none_came (Some i) = refl

-- one more piece came
pub piece_came : (seen bytes : List ℕ) (first left next : Option (List ℕ))
    → Leaves (Came seen) first left → Consumes left next bytes
    → Leaves (Came (seen ++ bytes)) first next
piece_came seen bytes None left next h k = tt
piece_came seen bytes (Some i) None next h k = absurd h
piece_came seen bytes (Some i) (Some r) None h k = absurd k
piece_came seen bytes (Some i) (Some r) (Some q) h k = sym (joined seen bytes i r q h k)

-- more bytes came: some directly into a body, and others after them
pub came_straight : (seen came now : List ℕ) (first left next : Option (List ℕ))
    → Leaves (Came seen) first left → now ≡ seen ++ came → Consumes left next came
    → Leaves (Came now) first next
came_straight seen came now first left next h is k =
    subst (λ l. Leaves (Came l) first next) (sym is) (piece_came seen came first left next h k)

pub came_behind : (seen came now bytes : List ℕ) (first left next : Option (List ℕ))
    → Leaves (Came seen) first left → now ≡ seen ++ came → Consumes left next (came ++ bytes)
    → Leaves (Came (now ++ bytes)) first next
came_behind seen came now bytes first left next h is k =
    came_straight seen (came ++ bytes) (now ++ bytes) first left next h
    (ap (λ l. l ++ bytes) is ∙ append_assoc seen came bytes) k

-- a fact about every continuation of the bytes that came holds for the input
pub whole_input : (P : List ℕ → Type 0) (seen : List ℕ) (first left : Option (List ℕ))
    → Leaves (Came seen) first left → ((more : List ℕ) → P (seen ++ more)) → IfSome first P
whole_input P seen None left h p = tt
whole_input P seen (Some i) None h p = absurd h
whole_input P seen (Some i) (Some r) h p = subst P (sym h) (p r)

-- a fact about the bytes that came holds for an input that ends there
pub ended_input : (P : List ℕ → Type 0) (seen : List ℕ) (first left : Option (List ℕ))
    → Leaves (Came seen) first left → IsAtEnd left → P seen → IfSome first P
ended_input P seen None left h end p = tt
ended_input P seen (Some i) None h end p = absurd h
ended_input P seen (Some i) (Some r) h end p =
    subst P (sym (append-nil seen) ∙ ap (λ l. seen ++ l) (sym end) ∙ sym h) p

-- the same for an answer and for a fault at the end of the input
pub ended_ok : {T E : Type 0} (P : T → List ℕ → Type 0) (r : Result T E) (seen : List ℕ)
    (first left : Option (List ℕ)) → Leaves (Came seen) first left → IsAtEnd left
    → IfOk r (λ x. P x seen) → IfOk r (λ x. IfSome first (P x))
ended_ok P (Ok x) seen first left h end p = ended_input (P x) seen first left h end p
ended_ok P (Err e) seen first left h end p = tt

pub ended_err : {T E : Type 0} (P : E → List ℕ → Type 0) (r : Result T E) (seen : List ℕ)
    (first left : Option (List ℕ)) → Leaves (Came seen) first left → IsAtEnd left
    → IfErr r (λ e. P e seen) → IfErr r (λ e. IfSome first (P e))
ended_err P (Ok x) seen first left h end p = tt
ended_err P (Err e) seen first left h end p = ended_input (P e) seen first left h end p

-- no more bytes came
pub came_kept : (seen : List ℕ) (first left next : Option (List ℕ)) → Leaves (Came seen) first left
    → Keeps left next → Leaves (Came seen) first next
came_kept seen None left next h k = tt
came_kept seen (Some i) None next h k = absurd h
came_kept seen (Some i) (Some r) None h k = absurd k
came_kept seen (Some i) (Some r) (Some q) h k = subst (λ l. i ≡ seen ++ l) (sym k) h

-- the first bytes, and after them the first of those that were appended
pub first_bytes : (count last : ℕ) (bytes more rest : List ℕ) → count ≤ length bytes
    → last ≤ length more
    → take (count + last) (take count bytes ++ (more ++ rest)) ≡ take count bytes ++ take last more
first_bytes count last bytes more rest fits few =
    ap (λ n. take (n + last) (take count bytes ++ (more ++ rest))) (sym (length-take-le count bytes fits))
    ∙ take-append-add (take count bytes) (more ++ rest) last
    ∙ ap (λ l. take count bytes ++ l) (take-append-le last more rest few)

-- bytes were read into the room after others, and the room was cut off after them
pub room_filled : (old room now piece post rest new : List ℕ) (start count stop long size : ℕ)
    → new ≡ take stop (take size ((take start now ++ (piece ++ post)) ++ rest))
    → now ≡ take long old ++ room → start ≡ length old → length old ≤ long → count ≤ length piece
    → stop ≡ start + count → stop ≤ size → new ≡ old ++ take count piece
room_filled old room now piece post rest new start count stop long size filled is at all fits ends within =
    filled ∙ take-take stop size ((take start now ++ (piece ++ post)) ++ rest) within
    ∙ ap (λ n. take n ((take start now ++ (piece ++ post)) ++ rest)) ends
    ∙ ap (take (start + count)) (append_assoc (take start now) (piece ++ post) rest
    ∙ ap (λ l. take start now ++ l) (append_assoc piece post rest))
    ∙ first_bytes start count now piece (post ++ rest) inside fits
    ∙ ap (λ l. l ++ take count piece) front
  where
    whole : now ≡ old ++ room
    whole = is ∙ ap (λ l. l ++ room) (take_all long old all)

    inside : start ≤ length now
    inside = omega (arith, at, ap length whole, length-append old room)

    front : take start now ≡ old
    front =
        ap (take start) whole ∙ ap (λ n. take n (old ++ room)) at
        ∙ take-append-le (length old) old room (omega arith) ∙ take_all (length old) old (omega arith)
