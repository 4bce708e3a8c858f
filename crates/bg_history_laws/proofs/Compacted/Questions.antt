-- Pasts that give the same answers at the same moment agree on each further question that doesn't depend on requests.
use Rattle.std.proofs.Common.{◌≡◌, ℕ, Bool, true, false, ◌&&◌, List, [], ◌∷◌, length, count_by, filter, find, Option, Some, None, refl, ap, sym, ◌∙◌}
use Rattle.std.proofs.lemmas.Option.{same_Some}
use Rattle.std.proofs.lemmas.List.Sums.{length-filter}
use Rattle.bg_strategy.specs.declared.strategy.Strategy.{Strategy}
use Rattle.bg_revisions.specs.declared.revision.Service.{Service}
use Rattle.bg_revisions.specs.declared.revision.Service.TheVariants as service
use Rattle.bg_history.specs.declared.entry.Analysis.{Analysis}
use Rattle.bg_history.specs.declared.entry.Analysis.TheVariants.{Pre, Post}
use Rattle.bg_history.specs.declared.entry.Entry.{Entry}
use Rattle.bg_history.specs.declared.entry.Entry.TheVariants.{Tick, Enter, Leave}
use Rattle.bg_history.specs.Kept.{Opening}
use Rattle.bg_history.specs.AttemptBounds.{moment, newest_of}
use Rattle.bg_history.specs.Attempts.{is_ready, is_resumed, is_switched, is_promote, is_promote_full, is_post_success}
use Rattle.bg_history.specs.Selections.{preview_of, is_selected}
use Rattle.bg_history.specs.Sizes.{existing, is_scaled}
use Rattle.bg_history.specs.Phases.{is_steady, is_scaling, awaits_pre, is_paused, is_sizing, awaits_post}
use Rattle.bg_history.specs.Promotion.{may_be_ready, may_resume, may_switch, may_promote, first_promotion}
use Rattle.bg_history.specs.Marks.{Mark, mark}
use Rattle.bg_history.specs.Deadlines.{deadline_of, deadline, exists_in, is_spare, left_later, rank_after, marks_due, is_due, is_old, old_revisions, may_remove}
use Rattle.bg_history.specs.Templates.{template, is_named, namesake}
use Rattle.bg_history.specs.Allowed.{fits_namesake, may_deploy, awaits, selection, port_of}
use Rattle.bg_history_laws.specs.Alike.{is_quiet, said, earlier, Attempted, Alike}

-- tests that agree at each element count, keep and find the same
pub filter-same : (p q : ℕ → Bool) → ((x : ℕ) → p x ≡ q x) → (xs : List ℕ) → filter p xs ≡ filter q xs
filter-same p q f [] = refl
filter-same p q f (x ∷ xs) = rw (f x, filter-same p q f xs) refl

pub count-same : (p q : ℕ → Bool) → ((x : ℕ) → p x ≡ q x) → (xs : List ℕ) → count_by p xs ≡ count_by q xs
count-same p q f xs = sym (length-filter p xs) ∙ ap length (filter-same p q f xs) ∙ length-filter q xs

pub find-same : (p q : ℕ → Bool) → ((x : ℕ) → p x ≡ q x) → (xs : List ℕ) → find p xs ≡ find q xs
find-same p q f [] = refl
find-same p q f (x ∷ xs) = rw (f x, find-same p q f xs) refl

-- no test of an attempt passes a quiet entry
resumed-quiet : (e : Entry) → is_quiet e ≡ true → is_resumed e ≡ false
resumed-quiet (Tick m) q = refl
resumed-quiet (Enter seat service number r port) q = refl
resumed-quiet (Leave seat number r) q = refl
resumed-quiet e q = absurd (cc)

ready-quiet : (e : Entry) → is_quiet e ≡ true → is_ready e ≡ false
ready-quiet (Tick m) q = refl
ready-quiet (Enter seat service number r port) q = refl
ready-quiet (Leave seat number r) q = refl
ready-quiet e q = absurd (cc)

switched-quiet : (e : Entry) → is_quiet e ≡ true → is_switched e ≡ false
switched-quiet (Tick m) q = refl
switched-quiet (Enter seat service number r port) q = refl
switched-quiet (Leave seat number r) q = refl
switched-quiet e q = absurd (cc)

promote-quiet : (e : Entry) → is_quiet e ≡ true → is_promote e ≡ false
promote-quiet (Tick m) q = refl
promote-quiet (Enter seat service number r port) q = refl
promote-quiet (Leave seat number r) q = refl
promote-quiet e q = absurd (cc)

full-quiet : (e : Entry) → is_quiet e ≡ true → is_promote_full e ≡ false
full-quiet (Tick m) q = refl
full-quiet (Enter seat service number r port) q = refl
full-quiet (Leave seat number r) q = refl
full-quiet e q = absurd (cc)

success-quiet : (e : Entry) → is_quiet e ≡ true → is_post_success e ≡ false
success-quiet (Tick m) q = refl
success-quiet (Enter seat service number r port) q = refl
success-quiet (Leave seat number r) q = refl
success-quiet e q = absurd (cc)

pub attempted : {s : Strategy} {o : Opening} {a b : List Entry} → Alike s o a b → Attempted a b
attempted h = record {
  ready = h.attempt is_ready ready-quiet;
  resumed = h.attempt is_resumed resumed-quiet;
  switched = h.attempt is_switched switched-quiet;
  promote = h.attempt is_promote promote-quiet;
  full = h.attempt is_promote_full full-quiet;
  success = h.attempt is_post_success success-quiet;
}

pub preview-same : {s : Strategy} {o : Opening} {a b : List Entry} → Alike s o a b → preview_of a ≡ preview_of b
preview-same h = rw (h.running, h.newest, h.stable) refl

pub selected-same : {s : Strategy} {o : Opening} {a b : List Entry} → (r : ℕ) → Alike s o a b → is_selected r a ≡ is_selected r b
selected-same r h = rw (h.active, h.running, h.newest, h.stable) refl

pub scaled-same : {s : Strategy} {o : Opening} {a b : List Entry} → (r : ℕ) → Alike s o a b → is_scaled s r a ≡ is_scaled s r b
scaled-same r h = rw (h.size r) refl

pub exists-same : {s : Strategy} {o : Opening} {a b : List Entry} → (r : ℕ) → Alike s o a b → exists_in r a ≡ exists_in r b
exists-same r h = rw h.exist refl

pub spare-same : {s : Strategy} {o : Opening} {a b : List Entry} → (r : ℕ) → Alike s o a b → is_spare s r a ≡ is_spare s r b
spare-same {s} {o} {a} {b} r h = cc (scaled-same r h, selected-same r h)

-- phases
pub steady-same : {s : Strategy} {o : Opening} {a b : List Entry} → Alike s o a b → is_steady a ≡ is_steady b
steady-same h = rw (h.halted, h.running) refl

pub scaling-same : {s : Strategy} {o : Opening} {a b : List Entry} → Alike s o a b → is_scaling a ≡ is_scaling b
scaling-same h = rw (h.running, (attempted h).ready) refl

pub awaits_pre-same : {s : Strategy} {o : Opening} {a b : List Entry} → Alike s o a b → awaits_pre s a ≡ awaits_pre s b
awaits_pre-same h = rw ((attempted h).ready, (attempted h).resumed, h.pass) refl

pub paused-same : {s : Strategy} {o : Opening} {a b : List Entry} → Alike s o a b → is_paused s a ≡ is_paused s b
paused-same h = rw ((attempted h).resumed, h.pass) refl

pub sizing-same : {s : Strategy} {o : Opening} {a b : List Entry} → Alike s o a b → is_sizing a ≡ is_sizing b
sizing-same h = rw ((attempted h).resumed, (attempted h).switched) refl

pub awaits_post-same : {s : Strategy} {o : Opening} {a b : List Entry} → Alike s o a b → awaits_post s a ≡ awaits_post s b
awaits_post-same h = rw (attempted h).switched refl

pub awaits-same : {s : Strategy} {o : Opening} {a b : List Entry} → (analysis : Analysis) → Alike s o a b → awaits analysis s a ≡ awaits analysis s b
awaits-same Pre h = awaits_pre-same h
awaits-same Post h = awaits_post-same h

-- steps of an attempt
pub ready-same : {s : Strategy} {o : Opening} {a b : List Entry} → (r : ℕ) → Alike s o a b → may_be_ready s r a ≡ may_be_ready s r b
ready-same r h = rw (h.running, h.newest, (attempted h).ready, h.reported r) refl

pub resume-same : {s : Strategy} {o : Opening} {a b : List Entry} → (r : ℕ) → Alike s o a b → moment a ≡ moment b → may_resume s r a ≡ may_resume s r b
resume-same r h now = rw (h.running, h.newest, (attempted h).ready, (attempted h).resumed, (attempted h).full, (attempted h).promote, h.pass, now) refl

pub switch-same : {s : Strategy} {o : Opening} {a b : List Entry} → (r : ℕ) → Alike s o a b → may_switch s r a ≡ may_switch s r b
switch-same r h = rw (h.running, h.newest, (attempted h).resumed, (attempted h).switched, h.reported r) refl

pub promote-same : {s : Strategy} {o : Opening} {a b : List Entry} → (r : ℕ) → Alike s o a b → may_promote s r a ≡ may_promote s r b
promote-same r h = rw (h.running, h.newest, (attempted h).switched, (attempted h).success, (attempted h).full) refl

pub promotion-same : {s : Strategy} {o : Opening} {a b : List Entry} → Alike s o a b → moment a ≡ moment b → first_promotion s a ≡ first_promotion s b
promotion-same {s} {o} {a} {b} h now =
    rw h.newest (cc (ready-same (newest_of b) h, resume-same (newest_of b) h now, switch-same (newest_of b) h, promote-same (newest_of b) h))

-- deadlines
deadline-by : (s : Strategy) (x y : Option Mark) → said x ≡ said y → deadline_of s x ≡ deadline_of s y
deadline-by s None None h = refl
deadline-by s None (Some y) h = absurd (cc)
deadline-by s (Some x) None h = absurd (cc)
deadline-by s (Some x) (Some y) h = let e = same_Some _ _ h in rw (ap (λ t. t.kind) e, ap (λ t. t.at) e) refl

pub deadline-same : {s : Strategy} {o : Opening} {a b : List Entry} → (r : ℕ) → Alike s o a b → deadline s r a ≡ deadline s r b
deadline-same {s} {o} {a} {b} r h = deadline-by s (mark s r a) (mark s r b) (h.marks.say r)

later-by : (x y : Mark) (m n : Option Mark) → said m ≡ said n → earlier (Some x) m ≡ earlier (Some y) n → left_later x.position m ≡ left_later y.position n
later-by x y None None h k = refl
later-by x y None (Some n) h k = absurd (cc)
later-by x y (Some m) None h k = absurd (cc)
later-by x y (Some m) (Some n) h k = let e = same_Some _ _ h in rw (ap (λ t. t.kind) e, k) refl

rank-same : {s : Strategy} {o : Opening} {a b : List Entry} → (r : ℕ) (x y : Mark) → mark s r a ≡ Some x → mark s r b ≡ Some y → Alike s o a b
    → rank_after s x.position a ≡ rank_after s y.position b
rank-same {s} {o} {a} {b} r x y hx hy h =
    count-same (λ q. is_spare s q a && left_later x.position (mark s q a)) (λ q. is_spare s q b && left_later y.position (mark s q b))
    (λ q. rw (spare-same q h, later-by x y (mark s q a) (mark s q b) (h.marks.say q) (ap (λ m. earlier m (mark s q a)) (sym hx) ∙ h.marks.order r q ∙ ap (λ m. earlier m (mark s q b)) hy)) refl)
    (existing a)
    ∙ ap (count_by (λ q. is_spare s q b && left_later y.position (mark s q b))) h.exist

due-by : {s : Strategy} {o : Opening} {a b : List Entry} → (r : ℕ) (x y : Option Mark) → mark s r a ≡ x → mark s r b ≡ y → said x ≡ said y → Alike s o a b → moment a ≡ moment b
    → marks_due s x a ≡ marks_due s y b
due-by r None None hx hy e h now = refl
due-by r None (Some y) hx hy e h now = absurd (cc)
due-by r (Some x) None hx hy e h now = absurd (cc)
due-by {s} {o} {a} {b} r (Some x) (Some y) hx hy e h now =
    let t = same_Some _ _ e in
    rw (ap (λ t. t.kind) t, ap (λ t. t.at) t, now, rank-same r x y hx hy h) refl

pub due-same : {s : Strategy} {o : Opening} {a b : List Entry} → (r : ℕ) → Alike s o a b → moment a ≡ moment b → is_due s r a ≡ is_due s r b
due-same {s} {o} {a} {b} r h now =
    rw (exists-same r h, spare-same r h, due-by r (mark s r a) (mark s r b) refl refl (h.marks.say r) h now) refl

pub old-same : {s : Strategy} {o : Opening} {a b : List Entry} → Alike s o a b → old_revisions s a ≡ old_revisions s b
old-same {s} {o} {a} {b} h =
    filter-same (is_old s a) (is_old s b) (λ r. rw (scaled-same r h, selected-same r h, h.newest) refl) (existing a)
    ∙ ap (filter (is_old s b)) h.exist

pub remove-same : {s : Strategy} {o : Opening} {a b : List Entry} → (r : ℕ) → Alike s o a b → may_remove s r a ≡ may_remove s r b
remove-same {s} {o} {a} {b} r h = rw (old-same h) refl

-- deploys
pub namesake-same : {s : Strategy} {o : Opening} {a b : List Entry} → (name : List ℕ) → Alike s o a b → namesake o name a ≡ namesake o name b
namesake-same {s} {o} {a} {b} name h =
    find-same (λ q. is_named name (template o q a)) (λ q. is_named name (template o q b)) (λ q. rw (h.templates q) refl) (existing a)
    ∙ ap (find (λ q. is_named name (template o q b))) h.exist

fits-same : {s : Strategy} {o : Opening} {a b : List Entry} → (q : Option ℕ) (r : ℕ) (ports : List ℕ) → Alike s o a b → fits_namesake o q r ports a ≡ fits_namesake o q r ports b
fits-same None r ports h = rw (h.last, h.exist) refl
fits-same (Some q) r ports h = rw (h.templates q) refl

pub deploy-same : {s : Strategy} {o : Opening} {a b : List Entry} → (r : ℕ) (name ports : List ℕ) → Alike s o a b → may_deploy s o r name ports a ≡ may_deploy s o r name ports b
deploy-same {s} {o} {a} {b} r name ports h =
    rw (h.newest, h.templates (newest_of b), namesake-same name h, fits-same (namesake o name b) r ports h) refl

-- requests that enter
pub selection-same : {s : Strategy} {o : Opening} {a b : List Entry} → (v : Service) → Alike s o a b → selection s v a ≡ selection s v b
selection-same service.Active h = rw h.active refl
selection-same service.Preview h = rw (h.running, h.newest, h.stable) refl

pub port-same : {s : Strategy} {o : Opening} {a b : List Entry} → (r number : ℕ) → Alike s o a b → port_of o r number a ≡ port_of o r number b
port-same r number h = rw (h.templates r, h.reported r) refl
