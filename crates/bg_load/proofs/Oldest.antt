-- The eight oldest large requests.
use Rattle.std.proofs.Common.{◌≡◌, ◌⊎◌, ◌&&◌, ℕ, ◌+◌, ◌<◌, ◌≤◌, Bool, true, false, cond, length, sum_by, nat_le, nat_lt}
use Rattle.std.proofs.Common.{Option, Some, None, refl, sym, ap, subst, ◌∙◌, inl, inr, arith, eq-eqb, le-leb}
use Rattle.std.proofs.lemmas.Bool.{and_from, and_right, cases_Bool, cases_eq, cases_lt, le-ltb, leb-true, lt-leb, lt-ltb}
use Rattle.bg_load.proofs.RegisterLemmas.{Places, known, within}
use Rattle.bg_load.proofs.Sums.{sum_by-le-both, sum_by-le-each, sum_by-lt-each, sum_by-le-length}
use Rattle.bg_load.specs.Activities.{is_large}
use Rattle.bg_load.specs.Loads.{if_so}
use Rattle.bg_load.specs.Rankings.{IsNoLater}
use Rattle.bg_load.specs.Pauses.{is_large_from, is_older_large, is_to_pause, large_from, older}
use Rattle.bg_load.specs.Registers.{Holds, at, has_number}
use Rattle.bg_load.specs.declared.connection.Connection.{Connection}
use Rattle.bg_load.specs.declared.pauses.Pauses.TheVariants as pauses

-- what a place with a large request adds to the older ones, by its number
older-yes : (n : ℕ) (c : Connection) → is_large c.load.activity ≡ true → c.number < n → is_older_large n (Some c) ≡ 1
older-yes n c large less =
    ap (λ b. cond b 1 0) (and_from (is_large c.load.activity) (nat_lt c.number n) large (lt-ltb c.number n less))

older-no : (n : ℕ) (c : Connection) → n ≤ c.number → is_older_large n (Some c) ≡ 0
older-no n c above = elim (is_large c.load.activity) as (λ b. ◌≡◌ {A = ℕ} (cond (b && nat_lt c.number n) 1 0) 0) [
  | true ↦ ap (λ b. cond b 1 0) (le-ltb c.number n above)
  | false ↦ refl
]

older-small : (n : ℕ) (c : Connection) → is_large c.load.activity ≡ false → is_older_large n (Some c) ≡ 0
older-small n c small = ap (λ b. cond (b && nat_lt c.number n) 1 0) small

-- it adds no less to those that are older than a greater number
older-le : (n m : ℕ) → n ≤ m → (p : Option Connection) → is_older_large n p ≤ is_older_large m p
older-le n m le None = omega arith
older-le n m le (Some c) = elim (cases_Bool (is_large c.load.activity)) [
  | inl large ↦ elim (cases_lt c.number n) [
    | inl less ↦ let a = older-yes n c large less in let b = older-yes m c large (omega arith) in omega arith
    | inr above ↦ let a = older-no n c above in omega arith
  ]
  | inr small ↦ let a = older-small n c small in omega arith
]

-- a large request that is not among those from a number on has a lesser one
below-none : (least : ℕ) (c : Connection) → is_large c.load.activity ≡ true → large_from least (Some c) ≡ None → c.number < least
below-none least c large none =
    elim (cases_lt c.number least) [
      | inl less ↦ less
      | inr above ↦
          let all = and_from (is_large c.load.activity) (nat_le least c.number) large (le-leb least c.number above) in
          let some = ap (λ b. if_so b c.number) all in
          absurd (cc)
    ]

-- one that is among them is no older than the oldest
above-first : (least first : ℕ) (c : Connection) → is_large c.load.activity ≡ true → least ≤ c.number
    → IsNoLater (Some first) (large_from least (Some c)) → first ≤ c.number
above-first least first c large above later =
    let all = and_from (is_large c.load.activity) (nat_le least c.number) large (le-leb least c.number above) in
    subst (λ b. IsNoLater (Some first) (if_so b c.number)) all later

-- what is known of one that is among them
pub record IsLargeAt (least number : ℕ) (c : Connection) : Type 0 where
  pub large : is_large c.load.activity ≡ true
  pub above : least ≤ c.number
  pub number_is : c.number ≡ number

large-parts : (least number : ℕ) (c : Connection) → large_from least (Some c) ≡ Some number → IsLargeAt least number c
large-parts least number c some =
    go (is_large c.load.activity) (nat_le least c.number) refl refl some where
      go : (b d : Bool) → is_large c.load.activity ≡ b → nat_le least c.number ≡ d → if_so (b && d) c.number ≡ Some number
          → IsLargeAt least number c
      go true true e f is = record { large = e; above = leb-true least c.number f; number_is = same is } where
        same : Some c.number ≡ Some number → c.number ≡ number
        same i = cc
      go true false e f is = absurd (cc)
      go false d e f is = absurd (cc)

module _ (places : Places) where
  -- more are older than a greater number
  pub older-mono : (n m : ℕ) → n ≤ m → older n places ≤ older m places
  older-mono n m le = sum_by-le-each (is_older_large n) (is_older_large m) None places (λ k less. older-le n m le (at places k))

  -- and so is a large request itself, if its number is less than that
  pub older-strict : (key n m : ℕ) (c : Connection) → at places key ≡ Some c → is_large c.load.activity ≡ true → n ≤ c.number
      → c.number < m → older n places < older m places
  older-strict key n m c was large low high =
      sum_by-lt-each (is_older_large n) (is_older_large m) None places key
      (λ k less. older-le n m (omega arith) (at places k)) (within places key c was)
      (subst (λ p. is_older_large n p < is_older_large m p) (sym was)
      (let a = older-no n c low in let b = older-yes m c large high in omega arith))

  pub none-older : older 0 places ≡ 0
  none-older = let le = sum_by-le-length (is_older_large 0) 0 at_place places in omega arith where
    at_place : (p : Option Connection) → is_older_large 0 p ≤ 0
    at_place None = omega arith
    at_place (Some c) = let a = older-no 0 c (omega arith) in omega arith

  -- one more is older than the number that follows the oldest of those from a number on
  pub older-next : (least key number : ℕ) → sum_by (has_number number) places ≤ 1 → key < length places
      → large_from least (at places key) ≡ Some number
      → ((k : ℕ) → k < length places → IsNoLater (Some number) (large_from least (at places k)))
      → older (number + 1) places ≡ older least places + 1
  older-next least key number once less some first = go (at places key) refl some where
    at_place : (p : Option Connection) → IsNoLater (Some number) (large_from least p)
        → is_older_large (number + 1) p ≤ is_older_large least p + has_number number p
    at_place None later = omega arith
    at_place (Some c) later = elim (cases_Bool (is_large c.load.activity)) [
      | inl large ↦ elim (cases_lt c.number least) [
        | inl below ↦
            let a = older-yes least c large below in
            let most : is_older_large (number + 1) (Some c) ≤ 1 = one_at_most _ in
            omega arith
        | inr above ↦
            let after = above-first least number c large above later in
            elim (cases_eq c.number number) [
              | inl same ↦
                  let own : has_number number (Some c) ≡ 1 = ap (λ b. cond b 1 0) (eq-eqb c.number number same) in
                  let most : is_older_large (number + 1) (Some c) ≤ 1 = one_at_most _ in
                  omega arith
              | inr other ↦ let a = older-no (number + 1) c (omega arith) in omega arith
            ]
      ]
      | inr small ↦ let a = older-small (number + 1) c small in omega arith
    ] where
      one_at_most : (b : Bool) → cond b 1 0 ≤ 1
      one_at_most true = omega arith
      one_at_most false = omega arith

    go : (p : Option Connection) → at places key ≡ p → large_from least p ≡ Some number
        → older (number + 1) places ≡ older least places + 1
    go None was is = absurd (cc)
    go (Some c) was is =
        let parts = large-parts least number c is in
        let low = parts.above in
        let number_is = parts.number_is in
        let up = sum_by-le-both (is_older_large (number + 1)) (is_older_large least) (has_number number) None places
        (λ k inside. at_place (at places k) (first k inside)) in
        let down = older-strict key least (number + 1) c was parts.large low (omega arith) in
        omega arith

  -- once eight are older than a number, or no large request is from it on, it parts those that go on from the others
  pub oldest-end : (least : ℕ) → older least places ≤ 8
      → (older least places ≡ 8) ⊎ ((k : ℕ) → k < length places → large_from least (at places k) ≡ None)
      → (key : ℕ) → is_large_from least (at places key) ≡ is_to_pause pauses.Younger places (at places key)
  oldest-end least most last key = go (at places key) refl where
    parted : (c : Connection) → at places key ≡ Some c → is_large c.load.activity ≡ true
        → nat_le least c.number ≡ nat_le 8 (older c.number places)
    parted c was large = elim (cases_lt c.number least) [
      | inl below ↦
          let less = older-strict key c.number least c was large (omega arith) below in
          lt-leb least c.number below ∙ sym (lt-leb 8 (older c.number places) (omega arith))
      | inr above ↦ elim last [
        | inl eight ↦
            let more = older-mono least c.number above in
            le-leb least c.number above ∙ sym (le-leb 8 (older c.number places) (omega arith))
        | inr none ↦
            let is_none = subst (λ p. large_from least p ≡ None) was (none key (within places key c was)) in
            let below = below-none least c large is_none in
            absurd (omega arith)
      ]
    ]

    go : (p : Option Connection) → at places key ≡ p → is_large_from least p ≡ is_to_pause pauses.Younger places p
    go None was = refl
    go (Some c) was = elim (cases_Bool (is_large c.load.activity)) [
      | inl large ↦ ap (λ b. is_large c.load.activity && b) (parted c was large)
      | inr small ↦
          ap (λ b. b && nat_le least c.number) small ∙ sym (ap (λ b. b && nat_le 8 (older c.number places)) small)
    ]

  -- the number of a large request is that of a connection
  pub large-within : (least key number : ℕ) → large_from least (at places key) ≡ Some number → key < length places
  large-within least key number some = go (at places key) refl some where
    go : (p : Option Connection) → at places key ≡ p → large_from least p ≡ Some number → key < length places
    go None was is = absurd (cc)
    go (Some c) was is = within places key c was

  pub large-known : (next least key number : ℕ) → Holds places next
      → large_from least (at places key) ≡ Some number → number < next
  large-known next least key number holds some = go (at places key) refl some where
    go : (p : Option Connection) → at places key ≡ p → large_from least p ≡ Some number → number < next
    go None was is = absurd (cc)
    go (Some c) was is =
        let less = known places next key c holds was in
        let same = (large-parts least number c is).number_is in
        omega arith

  -- no large request is paused from the next number on
  pub none-from : (next : ℕ) → Holds places next → (key : ℕ)
      → is_large_from next (at places key) ≡ is_to_pause pauses.Off places (at places key)
  none-from next holds key = go (at places key) refl where
    go : (p : Option Connection) → at places key ≡ p → is_large_from next p ≡ is_to_pause pauses.Off places p
    go None was = refl
    go (Some c) was =
        and_right (is_large c.load.activity) (nat_le next c.number) (lt-leb next c.number (known places next key c holds was))

  -- if fewer than eight are left, none is paused
  pub fewer-end : (next least : ℕ) → Holds places next → older least places ≤ 8
      → ((k : ℕ) → k < length places → large_from least (at places k) ≡ None)
      → (key : ℕ) → is_large_from next (at places key) ≡ is_to_pause pauses.Younger places (at places key)
  fewer-end next least holds most none key =
      none-from next holds key ∙ off (at places key) ∙ sym (go (at places key) refl) ∙ oldest-end least most (inr none) key where
        off : (p : Option Connection) → is_to_pause pauses.Off places p ≡ false
        off None = refl
        off (Some c) = refl

        if_none : (b : Bool) (number : ℕ) → if_so b number ≡ None → b ≡ false
        if_none true number is = absurd (cc)
        if_none false number is = refl

        go : (p : Option Connection) → at places key ≡ p → is_large_from least p ≡ false
        go None was = refl
        go (Some c) was = if_none (is_large_from least (Some c)) c.number
            (subst (λ p. large_from least p ≡ None) was (none key (within places key c was)))
