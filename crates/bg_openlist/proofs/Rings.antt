-- A ring after a node was removed, or appended at its end.
use Rattle.std.proofs.Common.{◌≡◌, ℕ, ◌<◌, List, [], ◌∷◌, ◌++◌, length, get_or, set, refl, sym, ap, ◌∙◌}
use Rattle.std.specs.Prelude.{◌≢◌}
use Rattle.std.proofs.lemmas.List.{get_or-set_same, get_or-set_other}
use Rattle.bg_openlist.specs.Distinct.{Fresh, Distinct}
use Rattle.bg_openlist.specs.Rings.{Path, walk}

-- the last of the nodes, or a if there is none
abbrev pub last_from : ℕ → List ℕ → ℕ
last_from a [] = a
last_from a (k ∷ ks) = last_from k ks

-- the first of the nodes, or b if there is none
abbrev pub first_of : List ℕ → ℕ → ℕ
first_of [] b = b
first_of (k ∷ ks) b = k

reversed : {x y : ℕ} → (x ≢ y) → y ≢ x
reversed n e = n (sym e)

-- links of other nodes don't matter
pub frame : (nx pv : List ℕ) (p x q y a : ℕ) (ks : List ℕ) (b : ℕ) → Path nx pv a ks b → (a ≢ p) → Fresh p ks → Fresh q ks → (b ≢ q) → Path (set nx p x) (set pv q y) a ks b
frame nx pv p x q y a [] b h na fp fq nb = (get_or-set_other nx p a x 0 na ∙ h.0, get_or-set_other pv q b y 0 nb ∙ h.1)
frame nx pv p x q y a (k ∷ ks) b h na fp fq nb =
    (get_or-set_other nx p a x 0 na ∙ h.0, get_or-set_other pv q k y 0 fq.0 ∙ h.1, frame nx pv p x q y k ks b h.2 fp.0 fp.1 fq.1 nb)

pub starts : (nx pv : List ℕ) (a : ℕ) (ks : List ℕ) (b : ℕ) → Path nx pv a ks b → get_or nx a 0 ≡ first_of ks b
starts nx pv a [] b h = h.0
starts nx pv a (k ∷ ks) b h = h.0

-- the neighbours of a node
pub sides : (nx pv : List ℕ) (a : ℕ) (ps : List ℕ) (k : ℕ) (qs : List ℕ) (b : ℕ) → Path nx pv a (ps ++ k ∷ qs) b → (get_or pv k 0 ≡ last_from a ps) × (get_or nx k 0 ≡ first_of qs b)
sides nx pv a [] k qs b h = (h.1, starts nx pv k qs b h.2)
sides nx pv a (d ∷ ps) k qs b h = sides nx pv d ps k qs b h.2

pub last_is : (nx pv : List ℕ) (a : ℕ) (ks : List ℕ) (b : ℕ) → Path nx pv a ks b → get_or pv b 0 ≡ last_from a ks
last_is nx pv a [] b h = h.1
last_is nx pv a (k ∷ ks) b h = last_is nx pv k ks b h.2

fresh_last : (x d : ℕ) (ps : List ℕ) → Fresh x (d ∷ ps) → last_from d ps ≢ x
fresh_last x d [] f = f.0
fresh_last x d (p ∷ ps) f = fresh_last x p ps f.1

fresh_first : (x : ℕ) (ps : List ℕ) (k : ℕ) (qs : List ℕ) (b : ℕ) → Fresh x (ps ++ k ∷ qs) → (b ≢ x) → first_of qs b ≢ x
fresh_first x [] k [] b f n = n
fresh_first x [] k (c ∷ rs) b f n = f.1.0
fresh_first x (p ∷ ps) k qs b f n = fresh_first x ps k qs b f.1 n

pub fresh_cut : (x : ℕ) (ps : List ℕ) (k : ℕ) (qs : List ℕ) → Fresh x (ps ++ k ∷ qs) → Fresh x (ps ++ qs)
fresh_cut x [] k qs f = f.1
fresh_cut x (p ∷ ps) k qs f = (f.0, fresh_cut x ps k qs f.1)

pub fresh_at : (x : ℕ) (ps : List ℕ) (k : ℕ) (qs : List ℕ) → Fresh x (ps ++ k ∷ qs) → k ≢ x
fresh_at x [] k qs f = f.0
fresh_at x (p ∷ ps) k qs f = fresh_at x ps k qs f.1

pub distinct_cut : (ps : List ℕ) (k : ℕ) (qs : List ℕ) → Distinct (ps ++ k ∷ qs) → Distinct (ps ++ qs)
distinct_cut [] k qs d = d.1
distinct_cut (p ∷ ps) k qs d = (fresh_cut p ps k qs d.0, distinct_cut ps k qs d.1)

-- the node occurs in no other place
pub distinct_at : (ps : List ℕ) (k : ℕ) (qs : List ℕ) → Distinct (ps ++ k ∷ qs) → Fresh k (ps ++ qs)
distinct_at [] k qs d = d.0
distinct_at (p ∷ ps) k qs d = (reversed (fresh_at p ps k qs d.0), distinct_at ps k qs d.1)

pub fresh_front : (x : ℕ) (ps qs : List ℕ) → Fresh x (ps ++ qs) → Fresh x ps
fresh_front x [] qs f = tt
fresh_front x (p ∷ ps) qs f = (f.0, fresh_front x ps qs f.1)

pub fresh_back : (x : ℕ) (ps qs : List ℕ) → Fresh x (ps ++ qs) → Fresh x qs
fresh_back x [] qs f = f
fresh_back x (p ∷ ps) qs f = fresh_back x ps qs f.1

pub fresh_push : (x : ℕ) (ks : List ℕ) (k : ℕ) → Fresh x ks → (k ≢ x) → Fresh x (ks ++ k ∷ [])
fresh_push x [] k f n = (n, tt)
fresh_push x (y ∷ ys) k f n = (f.0, fresh_push x ys k f.1 n)

pub distinct_push : (ks : List ℕ) (k : ℕ) → Distinct ks → Fresh k ks → Distinct (ks ++ k ∷ [])
distinct_push [] k d f = (tt, tt)
distinct_push (y ∷ ys) k d f = (fresh_push y ys k d.0 (reversed f.0), distinct_push ys k d.1 f.1)

-- a node is removed
pub cut : (nx pv : List ℕ) (a : ℕ) (ps : List ℕ) (k : ℕ) (qs : List ℕ) (b : ℕ) → Path nx pv a (ps ++ k ∷ qs) b → Fresh a (ps ++ k ∷ qs) → Distinct (ps ++ k ∷ qs) → Fresh b (ps ++ k ∷ qs)
    → last_from a ps < length nx → first_of qs b < length pv
    → Path (set nx (last_from a ps) (first_of qs b)) (set pv (first_of qs b) (last_from a ps)) a (ps ++ qs) b
cut nx pv a [] k [] b h fa d fb lp lq = (get_or-set_same nx a b 0 lp, get_or-set_same pv b a 0 lq)
cut nx pv a [] k (c ∷ rs) b h fa d fb lp lq =
    (get_or-set_same nx a c 0 lp, get_or-set_same pv c a 0 lq, frame nx pv a c c a c rs b h.2.2 fa.1.0 fa.1.1 d.1.0 (reversed fb.1.0))
cut nx pv a (p ∷ ps) k qs b h fa d fb lp lq = (
  get_or-set_other nx (last_from p ps) a (first_of qs b) 0 (reversed (fresh_last a p ps (fresh_front a (p ∷ ps) (k ∷ qs) fa))) ∙ h.0,
  get_or-set_other pv (first_of qs b) p (last_from p ps) 0 (reversed (fresh_first p ps k qs b d.0 (reversed fb.0))) ∙ h.1,
  cut nx pv p ps k qs b h.2 d.0 d.1 fb.1 lp lq,
)

-- a node whose own links are set is appended at the end
pub push : (nx pv : List ℕ) (a : ℕ) (ks : List ℕ) (k b : ℕ) → Path nx pv a ks b → get_or nx k 0 ≡ b → get_or pv k 0 ≡ last_from a ks → Fresh a ks → Distinct ks → Fresh b ks → Fresh k ks → (a ≢ k) → (b ≢ k)
    → last_from a ks < length nx → b < length pv
    → Path (set nx (last_from a ks) k) (set pv b k) a (ks ++ k ∷ []) b
push nx pv a [] k b h ek el fa d fb fk na nb lp lq =
    (get_or-set_same nx a k 0 lp, get_or-set_other pv b k k 0 (reversed nb) ∙ el, (get_or-set_other nx a k k 0 (reversed na) ∙ ek, get_or-set_same pv b k 0 lq))
push nx pv a (c ∷ ks) k b h ek el fa d fb fk na nb lp lq = (
  get_or-set_other nx (last_from c ks) a k 0 (reversed (fresh_last a c ks fa)) ∙ h.0,
  get_or-set_other pv b c k 0 fb.0 ∙ h.1,
  push nx pv c ks k b h.2 ek el d.0 d.1 fb.1 fk.1 fk.0 nb lp lq,
)

walk_all : (nx pv : List ℕ) (a : ℕ) (ks : List ℕ) (b : ℕ) → Path nx pv a ks b → walk nx (length ks) a ≡ ks
walk_all nx pv a [] b h = refl
walk_all nx pv a (k ∷ ks) b h = (λ i. h.0 i ∷ walk nx (length ks) (h.0 i)) ∙ ap (λ l. k ∷ l) (walk_all nx pv k ks b h.2)

-- the walk along nx, with as many steps as there are nodes, visits the nodes
pub walk_is : (nx pv : List ℕ) (a : ℕ) (ks : List ℕ) (b n : ℕ) → n ≡ length ks → Path nx pv a ks b → walk nx n a ≡ ks
walk_is nx pv a ks b n e h = ap (λ j. walk nx j a) e ∙ walk_all nx pv a ks b h
