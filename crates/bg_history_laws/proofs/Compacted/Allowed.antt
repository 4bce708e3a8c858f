-- An entry that is allowed is still allowed after whole requests are removed, except its own.
use Rattle.std.proofs.Common.{◌≡◌, ℕ, Bool, true, false, not, cond, ◌^◌, ◌==◌, ◌&&◌, nat_lt, nat_le, List, [], ◌∷◌, map, filter, find, Some, is_none, refl, arith, ap, sym, ◌∙◌}
use Rattle.std.specs.List.{list_all}
use Rattle.std.proofs.lemmas.Bool.Decides.{nat_tests}
use Rattle.bg_strategy.specs.declared.strategy.Strategy.{Strategy}
use Rattle.bg_revisions.specs.declared.revision.Service.{Service}
use Rattle.bg_history.specs.declared.entry.Entry.{Entry}
use Rattle.bg_history.specs.declared.entry.Entry.TheVariants.{Tick, Deploy, Available, Verdict, Promote, PromoteFull, Abort, Retry, Enter, Leave, Outcome}
use Rattle.bg_history.specs.declared.entry.Outcome.TheVariants.{Ready, Resumed, Switched, Promoted, ScaledDown, Removed}
use Rattle.bg_history.specs.Kept.{Opening}
use Rattle.bg_history.specs.AttemptBounds.{moment}
use Rattle.bg_history.specs.Sizes.{desired, available}
use Rattle.bg_history.specs.Requests.{Request, open_requests, open_at, held_by, request_numbers}
use Rattle.bg_history.specs.Deadlines.{exists_in, is_due, is_empty}
use Rattle.bg_history.specs.Allowed.{selection, has_value, port_of, may_enter, holds, is_allowed}
use Rattle.bg_history.specs.Compacted.{keeps, without, thin}
use Rattle.bg_history_laws.specs.Alike.{Alike}
use Rattle.bg_history_laws.proofs.Compacted.Without.{without-open}
use Rattle.bg_history_laws.proofs.Compacted.Thin.{thin-open, thin-numbers}
use Rattle.bg_history_laws.proofs.Compacted.Questions.{attempted, paused-same, awaits-same, ready-same, resume-same, switch-same, promote-same, exists-same, due-same, remove-same, deploy-same, selection-same, port-same}
use Rattle.bg_history_laws.proofs.Tests.{and_parts, and_both}

-- the second past has only requests of the first one, and all of those whose number doesn't pass the test
pub record FewerRequests (gone : ℕ → Bool) (a b : List Entry) : Type 0 where
  pub none : (seat : ℕ) → is_none (held_by seat a) ≡ true → is_none (held_by seat b) ≡ true
  pub same : (seat number r : ℕ) → not (gone number) ≡ true → holds number r (held_by seat a) ≡ true → holds number r (held_by seat b) ≡ true
  pub numbers : (p : ℕ → Bool) → list_all p (request_numbers a) ≡ true → list_all p (request_numbers b) ≡ true
  pub empty : (r : ℕ) → is_empty (open_at r a) ≡ true → is_empty (open_at r b) ≡ true

enter-fewer : {s : Strategy} {o : Opening} {a b : List Entry} → (gone : ℕ → Bool) (seat : ℕ) (v : Service) (number r port : ℕ) → Alike s o a b → FewerRequests gone a b
    → may_enter s o seat v number r port a ≡ true → may_enter s o seat v number r port b ≡ true
enter-fewer {s} {o} {a} {b} gone seat v number r port h f k =
    let five = and_parts _ (has_value port (port_of o r number a)) k in
    let four = and_parts _ (list_all (λ n. nat_lt n number) (request_numbers a)) five.0 in
    let three = and_parts _ (nat_le 1 (available r a)) four.0 in
    let two = and_parts _ (has_value r (selection s v a)) three.0 in
    let one = and_parts (nat_lt seat o.seats) (is_none (held_by seat a)) two.0 in
    let picked : has_value r (selection s v b) ≡ true = ap (has_value r) (sym (selection-same v h)) ∙ two.1 in
    let reported : nat_le 1 (available r b) ≡ true = ap (nat_le 1) (sym (h.reported r)) ∙ three.1 in
    let port_is : has_value port (port_of o r number b) ≡ true = ap (has_value port) (sym (port-same r number h)) ∙ five.1 in
    and_both _ (has_value port (port_of o r number b))
    (and_both _ (list_all (λ n. nat_lt n number) (request_numbers b))
    (and_both _ (nat_le 1 (available r b))
    (and_both _ (has_value r (selection s v b))
    (and_both (nat_lt seat o.seats) (is_none (held_by seat b)) one.0 (f.none seat one.1)) picked) reported) (f.numbers (λ n. nat_lt n number) four.1)) port_is

pub allowed-fewer : (s : Strategy) (o : Opening) (gone : ℕ → Bool) (e : Entry) (a b : List Entry) → Alike s o a b → moment a ≡ moment b → FewerRequests gone a b
    → keeps gone e ≡ true → is_allowed s o e a ≡ true → is_allowed s o e b ≡ true
allowed-fewer s o gone (Tick m) a b h now f kept k = ap (λ t. nat_le t m && nat_le m (2 ^ 53)) (sym now) ∙ k
allowed-fewer s o gone (Deploy r name ports) a b h now f kept k = sym (deploy-same r name ports h) ∙ k
allowed-fewer s o gone (Available r n) a b h now f kept k =
    ap (λ x. x && nat_le n (desired s r b)) (sym (exists-same r h)) ∙ ap (λ t. exists_in r a && nat_le n t) (sym (h.size r)) ∙ k
allowed-fewer s o gone (Verdict analysis finding) a b h now f kept k = sym (awaits-same analysis h) ∙ k
allowed-fewer s o gone Promote a b h now f kept k = sym (paused-same h) ∙ k
allowed-fewer s o gone PromoteFull a b h now f kept k = rw (← h.running, ← (attempted h).full) k
allowed-fewer s o gone Abort a b h now f kept k = sym h.running ∙ k
allowed-fewer s o gone Retry a b h now f kept k = sym h.halted ∙ k
allowed-fewer s o gone (Enter seat service number r port) a b h now f kept k = enter-fewer gone seat service number r port h f k
allowed-fewer s o gone (Leave seat number r) a b h now f kept k = f.same seat number r kept k
allowed-fewer s o gone (Outcome (Ready r)) a b h now f kept k = sym (ready-same r h) ∙ k
allowed-fewer s o gone (Outcome (Resumed r)) a b h now f kept k = sym (resume-same r h now) ∙ k
allowed-fewer s o gone (Outcome (Switched r)) a b h now f kept k = sym (switch-same r h) ∙ k
allowed-fewer s o gone (Outcome (Promoted r)) a b h now f kept k = sym (promote-same r h) ∙ k
allowed-fewer s o gone (Outcome (ScaledDown r)) a b h now f kept k =
    let two = and_parts (is_due s r a) (is_empty (open_at r a)) k in
    and_both (is_due s r b) (is_empty (open_at r b)) (sym (due-same r h now) ∙ two.0) (f.empty r two.1)
allowed-fewer s o gone (Outcome (Removed r)) a b h now f kept k = sym (remove-same r h) ∙ k

-- if no request is found, none is found in a part
none-part : (p k : Request → Bool) (xs : List Request) → is_none (find p xs) ≡ true → is_none (find p (filter k xs)) ≡ true
none-part p k [] h = refl
none-part p k (x ∷ xs) h = go (p x) (k x) refl h (none-part p k xs) where
  go : (b c : Bool) → p x ≡ b → is_none (cond b (Some x) (find p xs)) ≡ true → (is_none (find p xs) ≡ true → is_none (find p (filter k xs)) ≡ true)
      → is_none (find p (cond c (x ∷ filter k xs) (filter k xs))) ≡ true
  go true c is h rest = absurd (cc)
  go false true is h rest = rw is (rest h)
  go false false is h rest = rest h

-- a request that is found is found in a part that keeps it
holds-part : (p : Request → Bool) (gone : ℕ → Bool) (number r : ℕ) (xs : List Request) → not (gone number) ≡ true → holds number r (find p xs) ≡ true
    → holds number r (find p (filter (λ q. not (gone q.number)) xs)) ≡ true
holds-part p gone number r [] kept h = h
holds-part p gone number r (x ∷ xs) kept h = go (p x) (not (gone x.number)) refl refl h (holds-part p gone number r xs kept) where
  go : (b c : Bool) → p x ≡ b → not (gone x.number) ≡ c → holds number r (cond b (Some x) (find p xs)) ≡ true
      → (holds number r (find p xs) ≡ true → holds number r (find p (filter (λ q. not (gone q.number)) xs)) ≡ true)
      → holds number r (find p (cond c (x ∷ filter (λ q. not (gone q.number)) xs) (filter (λ q. not (gone q.number)) xs))) ≡ true
  go true true is k h rest = rw is h
  go true false is k h rest =
      let n : x.number ≡ number = grind (arith, nat_tests) in
      let g : not (gone x.number) ≡ true = ap (λ t. not (gone t)) n ∙ kept in
      absurd (cc)
  go false true is k h rest = rw is (rest h)
  go false false is k h rest = rest h

empty-part : (p k : Request → Bool) (xs : List Request) → is_empty (map (λ q. q.number) (filter p xs)) ≡ true → is_empty (map (λ q. q.number) (filter p (filter k xs))) ≡ true
empty-part p k [] h = refl
empty-part p k (x ∷ xs) h = go (p x) (k x) refl h (empty-part p k xs) where
  go : (b c : Bool) → p x ≡ b → is_empty (map (λ q. q.number) (cond b (x ∷ filter p xs) (filter p xs))) ≡ true
      → (is_empty (map (λ q. q.number) (filter p xs)) ≡ true → is_empty (map (λ q. q.number) (filter p (filter k xs))) ≡ true)
      → is_empty (map (λ q. q.number) (filter p (cond c (x ∷ filter k xs) (filter k xs)))) ≡ true
  go true c is h rest = absurd (cc)
  go false true is h rest = rw is (rest h)
  go false false is h rest = rest h

-- the numbers are a part of the numbers before
pub without-numbers : (gone p : ℕ → Bool) (past : List Entry) → list_all p (request_numbers past) ≡ true → list_all p (request_numbers (without gone past)) ≡ true
without-numbers gone p [] h = refl
without-numbers gone p (Enter seat service number r port ∷ before) h =
    let two = and_parts (p number) (list_all p (request_numbers before)) h in
    go (gone number) two.0 (without-numbers gone p before two.1) where
      go : (b : Bool) → p number ≡ true → list_all p (request_numbers (without gone before)) ≡ true
          → list_all p (request_numbers (cond (not b) (Enter seat service number r port ∷ without gone before) (without gone before))) ≡ true
      go true here rest = rest
      go false here rest = and_both (p number) (list_all p (request_numbers (without gone before))) here rest
without-numbers gone p (Leave seat number r ∷ before) h =
    let two = and_parts (p number) (list_all p (request_numbers before)) h in
    go (gone number) two.0 (without-numbers gone p before two.1) where
      go : (b : Bool) → p number ≡ true → list_all p (request_numbers (without gone before)) ≡ true
          → list_all p (request_numbers (cond (not b) (Leave seat number r ∷ without gone before) (without gone before))) ≡ true
      go true here rest = rest
      go false here rest = and_both (p number) (list_all p (request_numbers (without gone before))) here rest
without-numbers gone p (e ∷ before) h = without-numbers gone p before h

pub without-fewer : (gone : ℕ → Bool) (past : List Entry) → FewerRequests gone past (without gone past)
without-fewer gone past = record {
  none = λ seat h. ap (λ xs. is_none (find (λ q. q.seat == seat) xs)) (without-open gone past) ∙ none-part (λ q. q.seat == seat) (λ q. not (gone q.number)) (open_requests past) h;
  same = λ seat number r kept h. ap (λ xs. holds number r (find (λ q. q.seat == seat) xs)) (without-open gone past) ∙ holds-part (λ q. q.seat == seat) gone number r (open_requests past) kept h;
  numbers = λ p h. without-numbers gone p past h;
  empty = λ r h. ap (λ xs. is_empty (map (λ q. q.number) (filter (λ q. q.revision == r) xs))) (without-open gone past)
      ∙ empty-part (λ q. q.revision == r) (λ q. not (gone q.number)) (open_requests past) h;
}

pub thin-fewer : (gone : ℕ → Bool) (past : List Entry) → FewerRequests gone past (thin past)
thin-fewer gone past = record {
  none = λ seat h. rw (thin-open past) h;
  same = λ seat number r kept h. rw (thin-open past) h;
  numbers = λ p h. rw (thin-numbers past) h;
  empty = λ r h. rw (thin-open past) h;
}
