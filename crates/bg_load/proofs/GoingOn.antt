-- How many large requests go on while the port pauses.
use Rattle.std.proofs.Common.{◌≡◌, ◌&&◌, not, ℕ, ◌+◌, ◌<◌, ◌≤◌, suc, zero, Bool, true, false, cond, length, sum_by, nat_le, nat_lt}
use Rattle.std.proofs.Common.{Option, Some, None, refl, sym, ap, subst, ◌∙◌, inl, inr, arith, eq-eqb, le-leb}
use Rattle.std.proofs.lemmas.Bool.{and_from, cases_Bool, cases_eq, cases_lt, le-ltb, lt-leb, lt-ltb}
use Rattle.std.proofs.lemmas.List.Sums.{sum_by-le-sum_by}
use Rattle.bg_load.proofs.Oldest.{none-older, older-mono}
use Rattle.bg_load.proofs.RegisterLemmas.{Places, known, within}
use Rattle.bg_load.proofs.Sums.{sum_by-le-both, sum_by-le-each, sum_by-le-length}
use Rattle.bg_load.specs.Activities.{is_large}
use Rattle.bg_load.specs.Pauses.{FewGoOn, IsAsRuled, OldestGoOn, goes_on, is_large_at, is_older_large, is_paused, older}
use Rattle.bg_load.specs.Registers.{Register, at, has_number}
use Rattle.bg_load.specs.Totals.{paused_of}
use Rattle.bg_load.specs.declared.connection.Connection.{Connection}
use Rattle.bg_load.specs.declared.pauses.Pauses.{Pauses}
use Rattle.bg_load.specs.declared.pauses.Pauses.TheVariants as pauses

module _ (places : Places) where
  -- 1 if the place has a large request below a number to which fewer than eight are older, and otherwise 0
  abbrev is_early : ℕ → Option Connection → ℕ
  is_early n None = 0
  is_early n (Some c) = cond (is_large c.load.activity && (nat_lt c.number n && nat_lt (older c.number places) 8)) 1 0

  one_at_most : (b : Bool) → cond b 1 0 ≤ 1
  one_at_most true = omega arith
  one_at_most false = omega arith

  early-yes : (n : ℕ) (c : Connection) → is_large c.load.activity ≡ true → c.number < n → older c.number places < 8
      → is_early n (Some c) ≡ 1
  early-yes n c large less few =
      ap (λ b. cond b 1 0) (and_from (is_large c.load.activity) (nat_lt c.number n && nat_lt (older c.number places) 8) large
      (and_from (nat_lt c.number n) (nat_lt (older c.number places) 8) (lt-ltb c.number n less) (lt-ltb (older c.number places) 8 few)))

  early-above : (n : ℕ) (c : Connection) → n ≤ c.number → is_early n (Some c) ≡ 0
  early-above n c above = elim (is_large c.load.activity) as (λ b. ◌≡◌ {A = ℕ} (cond (b && (nat_lt c.number n && nat_lt (older c.number places) 8)) 1 0) 0) [
    | true ↦ ap (λ b. cond (b && nat_lt (older c.number places) 8) 1 0) (le-ltb c.number n above)
    | false ↦ refl
  ]

  early-many : (n : ℕ) (c : Connection) → 8 ≤ older c.number places → is_early n (Some c) ≡ 0
  early-many n c many = elim (is_large c.load.activity) as (λ b. ◌≡◌ {A = ℕ} (cond (b && (nat_lt c.number n && nat_lt (older c.number places) 8)) 1 0) 0) [
    | true ↦ elim (nat_lt c.number n) as (λ b. ◌≡◌ {A = ℕ} (cond (b && nat_lt (older c.number places) 8) 1 0) 0) [
      | true ↦ ap (λ b. cond b 1 0) (le-ltb (older c.number places) 8 many)
      | false ↦ refl
    ]
    | false ↦ refl
  ]

  early-small : (n : ℕ) (c : Connection) → is_large c.load.activity ≡ false → is_early n (Some c) ≡ 0
  early-small n c small = ap (λ b. cond (b && (nat_lt c.number n && nat_lt (older c.number places) 8)) 1 0) small

  early-most : (n : ℕ) (c : Connection) → is_early n (Some c) ≤ 1
  early-most n c = one_at_most (is_large c.load.activity && (nat_lt c.number n && nat_lt (older c.number places) 8))

  -- below the next number there is no further one, unless its connection has the number itself
  early-next : (n : ℕ) (c : Connection) → (c.number ≡ n → ⊥) → is_early (suc n) (Some c) ≤ is_early n (Some c)
  early-next n c other = elim (cases_Bool (is_large c.load.activity)) [
    | inl large ↦ elim (cases_lt (older c.number places) 8) [
      | inl few ↦ elim (cases_lt c.number n) [
        | inl less ↦ let own = early-yes n c large less few in let most = early-most (suc n) c in omega arith
        | inr above ↦ let zero_here = early-above (suc n) c (omega arith) in omega arith
      ]
      | inr many ↦ let zero_here = early-many (suc n) c many in omega arith
    ]
    | inr small ↦ let zero_here = early-small (suc n) c small in omega arith
  ]

  -- those are at most as many as the older ones
  early-older : (n : ℕ) → sum_by (is_early n) places ≤ older n places
  early-older n = sum_by-le-sum_by (is_early n) (is_older_large n) places at_place where
    at_place : (p : Option Connection) → is_early n p ≤ is_older_large n p
    at_place None = omega arith
    at_place (Some c) = elim (is_large c.load.activity) as (λ b. cond (b && (nat_lt c.number n && nat_lt (older c.number places) 8)) 1 0 ≤ cond (b && nat_lt c.number n) 1 0) [
      | true ↦ elim (nat_lt c.number n) as (λ b. cond (b && nat_lt (older c.number places) 8) 1 0 ≤ cond b 1 0) [
        | true ↦ one_at_most (nat_lt (older c.number places) 8)
        | false ↦ omega arith
      ]
      | false ↦ omega arith
    ]

  module _ (once : (number : ℕ) → sum_by (has_number number) places ≤ 1) where
    early-eight : (n : ℕ) → sum_by (is_early n) places ≤ 8
    early-eight zero = let least = early-older 0 in let none = none-older places in omega arith
    early-eight (suc n) = elim (cases_lt (older n places) 8) [
      | inl few ↦
          let more = sum_by-le-both (is_early (suc n)) (is_early n) (has_number n) None places (λ k less. one_more (at places k)) in
          let below = early-older n in
          let one = once n in
          omega arith
      | inr many ↦
          let same = sum_by-le-sum_by (is_early (suc n)) (is_early n) places (no_more many) in
          let before = early-eight n in
          omega arith
    ] where
      one_more : (p : Option Connection) → is_early (suc n) p ≤ is_early n p + has_number n p
      one_more None = omega arith
      one_more (Some c) = elim (cases_eq c.number n) [
        | inl same ↦
            let own : has_number n (Some c) ≡ 1 = ap (λ b. cond b 1 0) (eq-eqb c.number n same) in
            let most = early-most (suc n) c in
            omega arith
        | inr other ↦ let le = early-next n c other in omega arith
      ]

      no_more : 8 ≤ older n places → (p : Option Connection) → is_early (suc n) p ≤ is_early n p
      no_more many None = omega arith
      no_more many (Some c) = elim (cases_eq c.number n) [
        | inl same ↦ let zero_here = early-many (suc n) c (subst (λ m. 8 ≤ older m places) (sym same) many) in omega arith
        | inr other ↦ early-next n c other
      ]

-- while the younger ones are paused, a request goes on only if fewer than eight are older
going : (places : Places) (next : ℕ) (c : Connection) → c.number < next → IsAsRuled pauses.Younger places (Some c)
    → goes_on (Some c) ≤ is_early places next (Some c)
going places next c less ruled = elim (cases_Bool (is_large c.load.activity)) [
  | inl large ↦ elim (cases_lt (older c.number places) 8) [
    | inl few ↦
        let one = early-yes places next c large less few in
        let most : goes_on (Some c) ≤ 1 = one_at_most places (is_large_at (Some c) && not (is_paused (Some c))) in
        omega arith
    | inr many ↦
        let paused : is_paused (Some c) ≡ true =
        ruled ∙ and_from (is_large c.load.activity) (nat_le 8 (older c.number places)) large (le-leb 8 (older c.number places) many) in
        let none : goes_on (Some c) ≡ 0 =
        ap (λ b. cond (b && not (is_paused (Some c))) 1 0) large ∙ ap (λ b. cond (not b) 1 0) paused in
        omega arith
  ]
  | inr small ↦ let none : goes_on (Some c) ≡ 0 = ap (λ b. cond (b && not (is_paused (Some c))) 1 0) small in omega arith
]

-- while all are paused, none goes on
none_goes : (places : Places) (p : Option Connection) → IsAsRuled pauses.All places p → goes_on p ≤ 0
none_goes places None ruled = omega arith
none_goes places (Some c) ruled =
    let none : goes_on (Some c) ≡ 0 =
    ap (λ b. cond (is_large_at (Some c) && not b) 1 0) ruled ∙ never (is_large c.load.activity) in
    omega arith where
      never : (b : Bool) → ◌≡◌ {A = ℕ} (cond (b && not b) 1 0) 0
      never true = refl
      never false = refl

-- while the port does not pause, none is paused
none_paused : (places : Places) (p : Option Connection) → IsAsRuled pauses.Off places p → paused_of p ≤ 0
none_paused places None ruled = omega arith
none_paused places (Some c) ruled = let none : paused_of (Some c) ≡ 0 = ap (λ b. cond b 1 0) ruled in omega arith

-- a sum whose parts are 0 is 0
no_sum : (f : Option Connection → ℕ) (places : Places) → ((k : ℕ) → k < length places → f (at places k) ≤ 0)
    → sum_by f places ≡ 0
no_sum f places none =
    let le = sum_by-le-each f (λ p. 0) None places none in
    let zeros = sum_by-le-length {X = Option Connection} (λ p. 0) 0 (λ p. omega arith) places in
    omega arith

-- while the younger ones are paused, a large request goes on exactly if fewer than eight are older
goes_few : (places : Places) (c : Connection) → IsAsRuled pauses.Younger places (Some c) → goes_on (Some c) ≡ 1
    → older c.number places < 8
goes_few places c ruled goes = elim (cases_lt (older c.number places) 8) [
  | inl few ↦ few
  | inr many ↦
      let paused : c.load.is_paused ≡ is_large c.load.activity =
      ruled ∙ ap (λ b. is_large c.load.activity && b) (le-leb 8 (older c.number places) many) ∙ whole (is_large c.load.activity) in
      let none : goes_on (Some c) ≡ 0 = ap (λ b. cond (is_large c.load.activity && not b) 1 0) paused ∙ never (is_large c.load.activity) in
      absurd (omega arith)
] where
  whole : (b : Bool) → b && true ≡ b
  whole true = refl
  whole false = refl

  never : (b : Bool) → ◌≡◌ {A = ℕ} (cond (b && not b) 1 0) 0
  never true = refl
  never false = refl

few_goes : (places : Places) (c : Connection) → IsAsRuled pauses.Younger places (Some c) → is_large c.load.activity ≡ true
    → older c.number places < 8 → goes_on (Some c) ≡ 1
few_goes places c ruled large few =
    let runs : c.load.is_paused ≡ false =
    ruled ∙ ap (λ b. is_large c.load.activity && b) (lt-leb 8 (older c.number places) few) ∙ none (is_large c.load.activity) in
    ap (λ b. cond (b && not c.load.is_paused) 1 0) large ∙ ap (λ b. cond (not b) 1 0) runs where
      none : (b : Bool) → b && false ≡ false
      none true = refl
      none false = refl

oldest_go_on : (places : Places) → ((k : ℕ) → k < length places → IsAsRuled pauses.Younger places (at places k))
    → OldestGoOn places
oldest_go_on places ruled key other c elder was is goes old =
    let few = goes_few places c (subst (λ p. IsAsRuled pauses.Younger places p) was (ruled key (within places key c was))) goes in
    let more = older-mono places elder.number c.number (omega (arith, old.1)) in
    few_goes places elder (subst (λ p. IsAsRuled pauses.Younger places p) is (ruled other (within places other elder is))) old.0
    (omega arith)

pub few_go_on : (which : Pauses) (register : Register) → FewGoOn which register
few_go_on pauses.Off register holds ruled =
    no_sum paused_of register.places (λ k less. none_paused register.places (at register.places k) (ruled k less))
few_go_on pauses.Younger register holds ruled = (omega (arith, each, most), oldest_go_on register.places ruled) where
  at_place : (k : ℕ) (p : Option Connection) → at register.places k ≡ p → IsAsRuled pauses.Younger register.places p
      → goes_on p ≤ is_early register.places register.next p
  at_place k None was is = omega arith
  at_place k (Some c) was is =
      going register.places register.next c (known register.places register.next k c holds was) is

  each : sum_by goes_on register.places ≤ sum_by (is_early register.places register.next) register.places
  each = sum_by-le-each goes_on (is_early register.places register.next) None register.places
      (λ k less. at_place k (at register.places k) refl (ruled k less))

  most : sum_by (is_early register.places register.next) register.places ≤ 8
  most = early-eight register.places holds.once register.next
few_go_on pauses.All register holds ruled =
    no_sum goes_on register.places (λ k less. none_goes register.places (at register.places k) (ruled k less))
