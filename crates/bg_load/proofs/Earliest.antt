-- The earliest of the connections so far, in a ranking.
use Rattle.std.proofs.Common.{◌≡◌, ℕ, ◌+◌, ◌<◌, Bool, true, false, cond, Option, Some, None, refl, sym, subst, inl, inr, arith}
use Rattle.std.proofs.Common.{ltb-true, ltb-false, nat_lt}
use Rattle.std.proofs.lemmas.Bool.{cases_lt}
use Rattle.bg_load.specs.Rankings.{IsEarlier, IsNoLater, earlier}

-- below an index, this is the first by a function of the index that gives a rank: none has a lesser one, and none before it
-- has the same; or none has a rank
pub record IsEarliestAt (since : ℕ → Option ℕ) (end : ℕ) (first : ℕ × ℕ) : Type 0 where
  pub within : first.0 < end
  pub rank : since first.0 ≡ Some first.1
  pub least : (k : ℕ) → k < end → IsNoLater (Some first.1) (since k)
  pub before : (k : ℕ) → k < first.0 → IsEarlier (Some first.1) (since k)

abbrev pub IsEarliest : (ℕ → Option ℕ) → ℕ → Option (ℕ × ℕ) → Type 0
IsEarliest since end None = (k : ℕ) → k < end → since k ≡ None
IsEarliest since end (Some first) = IsEarliestAt since end first

below : (P : ℕ → Type 0) (end : ℕ) → ((k : ℕ) → k < end → P k) → P end → (k : ℕ) → k < end + 1 → P k
below P end before here k less =
    elim (cases_lt k end) [
      | inl under ↦ before k under
      | inr over ↦ subst P (let same : end ≡ k = omega arith in same) here
    ]

pub earliest_more : (since : ℕ → Option ℕ) (end : ℕ) (first : Option (ℕ × ℕ)) (next : Option ℕ) → IsEarliest since end first
    → since end ≡ next → IsEarliest since (end + 1) (earlier first end next)
earliest_more since end None None before is = below (λ k. since k ≡ None) end before is
earliest_more since end (Some first) None before is = record {
  within = omega (arith, before.within);
  rank = before.rank;
  least = below (λ k. IsNoLater (Some first.1) (since k)) end before.least (subst (λ o. IsNoLater (Some first.1) o) (sym is) tt);
  before = before.before;
}
earliest_more since end None (Some moment) before is = record {
  within = omega arith;
  rank = is;
  least = below (λ k. IsNoLater (Some moment) (since k)) end
      (λ k less. subst (λ o. IsNoLater (Some moment) o) (sym (before k less)) tt)
      (subst (λ o. IsNoLater (Some moment) o) (sym is) (omega arith));
  before = λ k less. subst (λ o. IsEarlier (Some moment) o) (sym (before k less)) tt;
}
earliest_more since end (Some first) (Some moment) before is = go (nat_lt moment first.1) refl where
  through : (o : Option ℕ) → moment < first.1 → IsNoLater (Some first.1) o → IsEarlier (Some moment) o
  through None less h = tt
  through (Some other) less h = omega arith

  weaker : (o : Option ℕ) → IsEarlier (Some moment) o → IsNoLater (Some moment) o
  weaker None h = tt
  weaker (Some other) h = omega arith

  go : (b : Bool) → nat_lt moment first.1 ≡ b → IsEarliest since (end + 1) (cond b (Some (end, moment)) (Some first))
  go true e =
      let less = ltb-true moment first.1 e in
      let under : (k : ℕ) → k < end → IsEarlier (Some moment) (since k) = λ k inside. through (since k) less (before.least k inside) in
      record {
        within = omega arith;
        rank = is;
        least = below (λ k. IsNoLater (Some moment) (since k)) end (λ k inside. weaker (since k) (under k inside))
            (subst (λ o. IsNoLater (Some moment) o) (sym is) (omega arith));
        before = under;
      }
  go false e =
      let more = ltb-false moment first.1 e in
      record {
        within = omega (arith, before.within);
        rank = before.rank;
        least = below (λ k. IsNoLater (Some first.1) (since k)) end before.least (subst (λ o. IsNoLater (Some first.1) o) (sym is) more);
        before = before.before;
      }
