-- The effect of an entry on the requests in the facts.
use Rattle.std.proofs.Common.{◌≡◌, ℕ, Bool, true, false, not, cond, ◌==◌, List, [], ◌∷◌, map, filter, refl, ap}
use Rattle.bg_history.specs.Requests.{Request}
use Rattle.bg_audit.specs.Requests.{request_told}

-- dropping a number drops its request
pub dropped-told : (n : ℕ) (qs : List Request) → filter (λ q. not (q.number == n)) (map request_told qs) ≡ map request_told (filter (λ q. not (q.number == n)) qs)
dropped-told n [] = refl
dropped-told n (q ∷ qs) = go (not (q.number == n)) (dropped-told n qs) where
  go : (b : Bool) → filter (λ x. not (x.number == n)) (map request_told qs) ≡ map request_told (filter (λ x. not (x.number == n)) qs)
      → cond b (request_told q ∷ filter (λ x. not (x.number == n)) (map request_told qs)) (filter (λ x. not (x.number == n)) (map request_told qs))
      ≡ map request_told (cond b (q ∷ filter (λ x. not (x.number == n)) qs) (filter (λ x. not (x.number == n)) qs))
  go true rest = ap (λ xs. request_told q ∷ xs) rest
  go false rest = rest
