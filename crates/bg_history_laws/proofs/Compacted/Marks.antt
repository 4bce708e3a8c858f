-- The marks of two pasts that give the same answers.
use Rattle.std.proofs.Common.{◌≡◌, ◌<◌, ◌+◌, ℕ, suc, Bool, true, false, not, cond, ◌==◌, ◌&&◌, ◌||◌, List, [], ◌∷◌, length, Option, Some, None, refl, arith, ap, sym, ◌∙◌}
use Rattle.std.specs.Option.{option_or, option_map}
use Rattle.std.proofs.lemmas.Bool.Decides.{nat_tests}
use Rattle.bg_strategy.specs.declared.strategy.Strategy.{Strategy}
use Rattle.bg_history.specs.declared.entry.Entry.{Entry}
use Rattle.bg_history.specs.declared.entry.Entry.TheVariants.{Tick, Deploy, Enter, Leave}
use Rattle.bg_history.specs.AttemptBounds.{moment, stable_of, newest_of}
use Rattle.bg_history.specs.Selections.{active_of}
use Rattle.bg_history.specs.Sizes.{desired}
use Rattle.bg_history.specs.Marks.{MarkKind, Left, Cleared, Mark, mark, kind_of, supersedes}
use Rattle.bg_history_laws.specs.Alike.{is_quiet, said, earlier, MarksAlike}
use Rattle.bg_history_laws.proofs.Compacted.Steps.{begins-both}

-- the mark of an entry that makes one, else the mark before
abbrev pub next_mark : Option MarkKind → ℕ → ℕ → Option Mark → Option Mark
next_mark k at position m = option_or (option_map (λ kind. record { kind = kind; moment = at; position = position }) k) m

supersedes-both : (s : Strategy) (r : ℕ) (e : Entry) (a b : List Entry) → stable_of a ≡ stable_of b → newest_of a ≡ newest_of b → active_of a ≡ active_of b → desired s r a ≡ desired s r b
    → supersedes s r e a ≡ supersedes s r e b
supersedes-both s r (Deploy q name ports) a b st new act size = rw (st, new, act, size) refl
supersedes-both s r e a b st new act size = refl

kind-both : (s : Strategy) (r : ℕ) (e : Entry) (a b : List Entry) → stable_of a ≡ stable_of b → newest_of a ≡ newest_of b → active_of a ≡ active_of b → active_of (e ∷ a) ≡ active_of (e ∷ b)
    → desired s r a ≡ desired s r b → kind_of s r e a ≡ kind_of s r e b
kind-both s r e a b st new act act2 size = rw (act2, new, act, supersedes-both s r e a b st new act size, begins-both r e a b st new) refl

-- a mark has fewer entries before it than the past has
abbrev pub Within : ℕ → Option Mark → Type 0
Within n None = Unit {0}
Within n (Some m) = m.position < n

within-next : (k : Option MarkKind) (at n : ℕ) (m : Option Mark) → Within n m → Within (n + 1) (next_mark k at n m)
within-next None at n None w = tt
within-next None at n (Some m) w = omega arith
within-next (Some k) at n m w = omega arith

within-suc : (n : ℕ) (m : Option Mark) → Within (n + 1) m → Within (suc n) m
within-suc n None w = tt
within-suc n (Some m) w = omega arith

pub mark-within : (s : Strategy) (r : ℕ) (past : List Entry) → Within (length past) (mark s r past)
mark-within s r [] = tt
mark-within s r (e ∷ before) =
    within-suc (length before) (mark s r (e ∷ before))
    (within-next (kind_of s r e before) (moment (e ∷ before)) (length before) (mark s r before) (mark-within s r before))

said-next : (k : Option MarkKind) (at n p : ℕ) (x y : Option Mark) → said x ≡ said y → said (next_mark k at n x) ≡ said (next_mark k at p y)
said-next None at n p x y h = h
said-next (Some k) at n p x y h = refl

-- a mark that an entry makes now comes after the marks before
none-later : (n : ℕ) (k : MarkKind) (at : ℕ) (y : Option Mark) → Within n y → earlier (Some (record { kind = k; moment = at; position = n })) y ≡ false
none-later n k at None w = refl
none-later n k at (Some m) w = grind (arith, nat_tests)

is_made : Option Mark → Bool
is_made None = false
is_made (Some m) = true

all-earlier : (n : ℕ) (k : MarkKind) (at : ℕ) (y : Option Mark) → Within n y → earlier y (Some (record { kind = k; moment = at; position = n })) ≡ is_made y
unfolding is_made
all-earlier n k at None w = refl
all-earlier n k at (Some m) w = grind (arith, nat_tests)

made-same : (x y : Option Mark) → said x ≡ said y → is_made x ≡ is_made y
unfolding is_made
made-same None None h = refl
made-same None (Some y) h = absurd (cc)
made-same (Some x) None h = absurd (cc)
made-same (Some x) (Some y) h = refl

order-next : (k l : Option MarkKind) (at n p : ℕ) (x y u v : Option Mark) → Within n x → Within n y → Within p u → Within p v → said x ≡ said u
    → earlier x y ≡ earlier u v → earlier (next_mark k at n x) (next_mark l at n y) ≡ earlier (next_mark k at p u) (next_mark l at p v)
order-next None None at n p x y u v wx wy wu wv h t = t
order-next None (Some l) at n p x y u v wx wy wu wv h t = all-earlier n l at x wx ∙ made-same x u h ∙ sym (all-earlier p l at u wu)
order-next (Some k) None at n p x y u v wx wy wu wv h t = none-later n k at y wy ∙ sym (none-later p k at v wv)
order-next (Some k) (Some l) at n p x y u v wx wy wu wv h t = grind (arith, nat_tests)

pub marks-both : (s : Strategy) (e : Entry) (a b : List Entry) → ((r : ℕ) → kind_of s r e a ≡ kind_of s r e b) → moment (e ∷ a) ≡ moment (e ∷ b) → MarksAlike s a b → MarksAlike s (e ∷ a) (e ∷ b)
marks-both s e a b kinds now h = record {
  say = λ r.
      said-next (kind_of s r e a) (moment (e ∷ a)) (length a) (length b) (mark s r a) (mark s r b) (h.say r)
      ∙ ap (λ k. said (next_mark k (moment (e ∷ a)) (length b) (mark s r b))) (kinds r)
      ∙ ap (λ t. said (next_mark (kind_of s r e b) t (length b) (mark s r b))) now;
  order = λ q r.
      order-next (kind_of s q e a) (kind_of s r e a) (moment (e ∷ a)) (length a) (length b) (mark s q a) (mark s r a) (mark s q b) (mark s r b)
      (mark-within s q a) (mark-within s r a) (mark-within s q b) (mark-within s r b) (h.say q) (h.order q r)
      ∙ ap (λ k. earlier (next_mark k (moment (e ∷ a)) (length b) (mark s q b)) (next_mark (kind_of s r e a) (moment (e ∷ a)) (length b) (mark s r b))) (kinds q)
      ∙ ap (λ k. earlier (next_mark (kind_of s q e b) (moment (e ∷ a)) (length b) (mark s q b)) (next_mark k (moment (e ∷ a)) (length b) (mark s r b))) (kinds r)
      ∙ ap (λ t. earlier (next_mark (kind_of s q e b) t (length b) (mark s q b)) (next_mark (kind_of s r e b) t (length b) (mark s r b))) now;
}

pub kinds-both : (s : Strategy) (e : Entry) (a b : List Entry) → stable_of a ≡ stable_of b → newest_of a ≡ newest_of b → active_of a ≡ active_of b → active_of (e ∷ a) ≡ active_of (e ∷ b)
    → ((r : ℕ) → desired s r a ≡ desired s r b) → (r : ℕ) → kind_of s r e a ≡ kind_of s r e b
kinds-both s e a b st new act act2 size r = kind-both s r e a b st new act act2 (size r)

-- a quiet entry makes no mark
quiet-by : (a h : Bool) → cond (a && not a && h) (Some Left) (cond (not a && a || false || false) (Some Cleared) None) ≡ None
quiet-by true h = refl
quiet-by false h = refl

pub quiet-mark : (s : Strategy) (r : ℕ) (e : Entry) (a : List Entry) → is_quiet e ≡ true → mark s r (e ∷ a) ≡ mark s r a
quiet-mark s r (Tick m) a q = rw (quiet-by (active_of a == r) true) refl
quiet-mark s r (Enter seat service number v port) a q = rw (quiet-by (active_of a == r) true) refl
quiet-mark s r (Leave seat number v) a q = rw (quiet-by (active_of a == r) true) refl
quiet-mark s r e a q = absurd (cc)
