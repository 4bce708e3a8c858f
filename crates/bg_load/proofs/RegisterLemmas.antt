-- The changes of the places keep what holds of their numbers.
use Rattle.std.proofs.Common.{◌≡◌, ◌==◌, ℕ, ◌+◌, ◌-◌, ◌<◌, cond, List, ◌++◌, length}
use Rattle.std.proofs.Common.{set, replicate, sum_by, Option, Some, None, inl, inr, refl, sym, ap, subst, ◌∙◌, arith}
use Rattle.std.proofs.Common.{eq-eqb, ne_eqb, length-append, get_or-set_same, get_or-set_other}
use Rattle.std.proofs.lemmas.Bool.{cases_eq, cases_lt}
use Rattle.std.proofs.lemmas.List.{get_or_append_left, get_or-append_right, get_or_past, get_or-replicate, length-replicate, set_past}
use Rattle.std.proofs.lemmas.List.Sums.{sum_by-set}
use Rattle.bg_load.proofs.TotalLemmas.{more_sum}
use Rattle.bg_load.specs.Changes.{grown}
use Rattle.bg_load.specs.Registers.{Holds, at, has_number}
use Rattle.bg_load.specs.declared.connection.Connection.{Connection}
use Rattle.bg_load.specs.declared.load.Load.{Load}

abbrev pub Places : Type 0
Places = List (Option Connection)

-- a key with a connection is the key of a place
pub within : (places : Places) (key : ℕ) (c : Connection) → at places key ≡ Some c → key < length places
within places key c was =
    elim (cases_lt key (length places)) [
      | inl less ↦ less
      | inr past ↦ let none = get_or_past places key None past in absurd (cc)
    ]

pub at-same : (places : Places) (key : ℕ) (p : Option Connection) → key < length places → at (set places key p) key ≡ p
at-same places key p less = get_or-set_same places key p None less

pub at-other : (places : Places) (key other : ℕ) (p : Option Connection) → (other ≡ key → ⊥)
    → at (set places key p) other ≡ at places other
at-other places key other p ne = get_or-set_other places key other p None ne

number_is : (c : Connection) → has_number c.number (Some c) ≡ 1
number_is c = ap (λ b. cond b 1 0) (eq-eqb c.number c.number refl)

number_other : (number : ℕ) (c : Connection) → (c.number ≡ number → ⊥) → has_number number (Some c) ≡ 0
number_other number c ne = ap (λ b. cond b 1 0) (ne_eqb c.number number ne)

-- the key is the key of a place of the grown table
pub grown_within : (places : Places) (key : ℕ) → key < length (grown places key)
grown_within places key =
    let both = length-append places (replicate (key + 1 - length places) None) in
    let free = length-replicate {A = Option Connection} (key + 1 - length places) None in
    omega arith

-- each place of it is as before, or free
pub grown_at : (places : Places) (key other : ℕ) → at (grown places key) other ≡ at places other
grown_at places key other =
    elim (cases_lt other (length places)) [
      | inl less ↦ get_or_append_left places (replicate (key + 1 - length places) None) None other less
      | inr past ↦
          get_or-append_right places (replicate (key + 1 - length places) None) (length places) other None refl past
          ∙ free (key + 1 - length places) (other - length places) ∙ sym (get_or_past places other None past)
    ] where
      free : (count k : ℕ) → at (replicate count None) k ≡ None
      free count k =
          elim (cases_lt k count) [
            | inl less ↦ get_or-replicate count k None None less
            | inr past ↦
                let size = length-replicate {A = Option Connection} count None in
                get_or_past (replicate count None) k None (omega arith)
          ]

module _ (places : Places) (next : ℕ) where
  -- each number that is used was given
  pub known : (key : ℕ) (c : Connection) → Holds places next → at places key ≡ Some c → c.number < next
  known key c holds was =
      elim (cases_lt c.number next) [
        | inl less ↦ less
        | inr above ↦
            let inside = within places key c was in
            let change = sum_by-set (has_number c.number) places key None None inside in
            let none = holds.fresh c.number above in
            let own : has_number c.number (at places key) ≡ 1 = ap (has_number c.number) was ∙ number_is c in
            absurd (omega arith)
      ]

  -- a connection has another load
  pub kept : (key : ℕ) (c d : Connection) → Holds places next → at places key ≡ Some c → d.number ≡ c.number
      → Holds (set places key (Some d)) next
  kept key c d holds was same = record {
    once = λ number. let change = keeps number in let one = holds.once number in omega arith;
    fresh = λ number above. let change = keeps number in let none = holds.fresh number above in omega arith;
  } where
    keeps : (number : ℕ) → sum_by (has_number number) (set places key (Some d)) ≡ sum_by (has_number number) places
    keeps number =
        let change = sum_by-set (has_number number) places key (Some d) None (within places key c was) in
        let before : has_number number (at places key) ≡ has_number number (Some c) = ap (has_number number) was in
        let after : has_number number (Some d) ≡ has_number number (Some c) = ap (λ n. cond (n == number) 1 0) same in
        omega arith

  -- a connection has left
  pub freed : (key : ℕ) → Holds places next → Holds (set places key None) next
  freed key holds =
      elim (cases_lt key (length places)) [
        | inl less ↦ record {
          once = λ number. let change = sum_by-set (has_number number) places key None None less in
              let one = holds.once number in omega arith;
          fresh = λ number above. let change = sum_by-set (has_number number) places key None None less in
              let none = holds.fresh number above in omega arith;
        }
        | inr past ↦ subst (λ ps. Holds ps next) (sym (set_past places key None past)) holds
      ]

  -- there are more places, all of them free
  pub more : (count : ℕ) → Holds places next → Holds (places ++ replicate count None) next
  more count holds = record {
    once = λ number. let same = more_sum (has_number number) refl places count in
        let one = holds.once number in omega arith;
    fresh = λ number above. let same = more_sum (has_number number) refl places count in
        let none = holds.fresh number above in omega arith;
  }

  -- the next number is given to the request of a key
  pub numbered_holds : (key : ℕ) (load : Load) → Holds places next
      → Holds (set places key (Some (record { number = next; load = load }))) (next + 1)
  numbered_holds key load holds = elim (cases_lt key (length places)) [
    | inl less ↦ record {
      once = λ number. let change = sum_by-set (has_number number) places key (Some c) None less in
          elim (cases_eq next number) [
            | inl is ↦
                let none = holds.fresh number (omega arith) in
                let own : has_number number (Some c) ≡ 1 = subst (λ n. has_number n (Some c) ≡ 1) is (number_is c) in
                omega arith
            | inr ne ↦ let own = number_other number c ne in let one = holds.once number in omega arith
          ];
      fresh = λ number above. let change = sum_by-set (has_number number) places key (Some c) None less in
          let own = number_other number c (λ is. omega arith) in
          let none = holds.fresh number (omega arith) in
          omega arith;
    }
    | inr past ↦ subst (λ ps. Holds ps (next + 1)) (sym (set_past places key (Some c) past)) (record {
      once = holds.once;
      fresh = λ number above. holds.fresh number (omega arith);
    })
  ] where
    c : Connection
    c = record { number = next; load = load }
