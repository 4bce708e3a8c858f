-- What the facts of a past allow.
use Rattle.std.proofs.Common.{◌≡◌, ℕ, Bool, true, false, cond, ◌==◌, ◌&&◌, nat_lt, nat_le, List, [], ◌∷◌, map, find, length, Option, Some, None, is_some, is_none, refl, ap, ◌∙◌, arith}
use Rattle.std.specs.List.{list_all}
use Rattle.std.specs.Option.{option_map}
use Rattle.std.specs.Str.{bytes_eq}
use Rattle.std.proofs.lemmas.Bool.Decides.{nat_tests}
use Rattle.bg_strategy.specs.declared.strategy.Strategy.{Strategy}
use Rattle.bg_revisions.specs.declared.revision.Service.{Service}
use Rattle.bg_revisions.specs.declared.revision.Service.TheVariants.{Active, Preview}
use Rattle.bg_revisions.specs.declared.revision.Revision.{Revision}
use Rattle.bg_revisions.specs.Rosters.{numbered, named, has_template}
use Rattle.bg_history.specs.declared.entry.Entry.{Entry}
use Rattle.bg_history.specs.Kept.{Template, Opening}
use Rattle.bg_history.specs.AttemptBounds.{newest_of}
use Rattle.bg_history.specs.Selections.{active_of, preview_of}
use Rattle.bg_history.specs.Sizes.{existing, last_number, desired, available}
use Rattle.bg_history.specs.Requests.{Request, open_requests, held_by, request_numbers}
use Rattle.bg_history.specs.Deadlines.{exists_in}
use Rattle.bg_history.specs.Templates.{template, is_named, has_ports, namesake}
use Rattle.bg_history.specs.Allowed.{is_template, fits_namesake, selection, has_value, port_in, port_of, may_enter, holds}
use Rattle.bg_history_laws.specs.Reachable.{Reachable}
use Rattle.bg_history_laws.specs.Listed.{sized, revision_of, revisions_of}
use Rattle.bg_audit.specs.declared.facts.Facts.{Facts}
use Rattle.bg_audit.specs.Requests.{request_told, greater_of, greatest_of, is_above}
use Rattle.bg_audit.specs.Known.{Knows}
use Rattle.bg_audit.specs.Scans.{fits_named, wants_in, has_port_in, is_held_in, enters_in}
use Rattle.bg_audit.proofs.Tests.{and_parts, equal_numbers}
use Rattle.bg_audit.proofs.Listed.{Finds, found-member, sized-desired}

-- a revision that is found by its number is in the list
found-there : (s : Strategy) (o : Opening) (p : List Entry) (r : ℕ) (xs : List Revision) → xs ≡ revisions_of s o p → Finds s o p r → exists_in r p ≡ true → numbered r xs ≡ Some (revision_of s o p r)
found-there s o p r xs is finds there = ap (numbered r) is ∙ finds ∙ ap (λ b. cond b (Some (revision_of s o p r)) None) there

templated : (name ports : List ℕ) (r n m : ℕ) (t : Option Template) → is_some t ≡ true → has_template name ports (Some (sized r n m t)) ≡ is_template name ports t
templated name ports r n m None h = absurd (cc)
templated name ports r n m (Some t) h = refl

-- the template of the newest revision
pub newest-template : (s : Strategy) (o : Opening) (p : List Entry) (f : Facts) (name ports : List ℕ) → Knows s o p f → Reachable s o p → Finds s o p (newest_of p)
    → has_template name ports (numbered f.state.newest f.revisions.items) ≡ is_template name ports (template o (newest_of p) p)
newest-template s o p f name ports known reach finds =
    ap (λ r. has_template name ports (numbered r f.revisions.items)) known.state.newest_is
    ∙ ap (has_template name ports) (found-there s o p (newest_of p) f.revisions.items known.revisions finds reach.newest)
    ∙ templated name ports (newest_of p) (desired s (newest_of p) p) (available (newest_of p) p) (template o (newest_of p) p) (reach.templates (newest_of p) reach.newest)

owned : (r : ℕ) (ports : List ℕ) (q n m : ℕ) (t : Option Template) → is_some t ≡ true
    → ((sized q n m t).number == r) && bytes_eq (sized q n m t).ports ports ≡ (q == r) && has_ports ports t
owned r ports q n m None h = absurd (cc)
owned r ports q n m (Some t) h = refl

-- the namesake of a name
pub namesake-fits : (s : Strategy) (o : Opening) (p : List Entry) (f : Facts) (r : ℕ) (name ports : List ℕ) → Knows s o p f → Reachable s o p
    → named name (revisions_of s o p) ≡ option_map (revision_of s o p) (namesake o name p) → length (revisions_of s o p) ≡ length (existing p)
    → fits_named (named name f.revisions.items) r ports f.state.last (length f.revisions.items) ≡ fits_namesake o (namesake o name p) r ports p
namesake-fits s o p f r name ports known reach law count =
    ap (λ vs. fits_named (named name vs) r ports f.state.last (length vs)) known.revisions
    ∙ ap (λ v. fits_named v r ports f.state.last (length (revisions_of s o p))) law
    ∙ ap (λ n. fits_named (option_map (revision_of s o p) (namesake o name p)) r ports n (length (revisions_of s o p))) known.state.last_is
    ∙ ap (λ n. fits_named (option_map (revision_of s o p) (namesake o name p)) r ports (last_number p) n) count
    ∙ go (namesake o name p) refl where
      go : (q : Option ℕ) → namesake o name p ≡ q → fits_named (option_map (revision_of s o p) q) r ports (last_number p) (length (existing p)) ≡ fits_namesake o q r ports p
      go None is = refl
      go (Some q) is =
          owned r ports q (desired s q p) (available q p) (template o q p) (reach.templates q (found-member (λ x. is_named name (template o x p)) q (existing p) is))

-- a report of this many endpoints
pub report-fits : (s : Strategy) (o : Opening) (p : List Entry) (f : Facts) (r n : ℕ) → Knows s o p f → Finds s o p r
    → wants_in n (numbered r f.revisions.items) ≡ (exists_in r p && nat_le n (desired s r p))
report-fits s o p f r n known finds = ap (λ vs. wants_in n (numbered r vs)) known.revisions ∙ ap (wants_in n) finds ∙ go (exists_in r p) where
  go : (b : Bool) → wants_in n (cond b (Some (revision_of s o p r)) None) ≡ (b && nat_le n (desired s r p))
  go true = ap (λ k. nat_le n k) (sized-desired r (desired s r p) (available r p) (template o r p))
  go false = refl

find-told : (seat : ℕ) (qs : List Request) → find (λ q. q.seat == seat) (map request_told qs) ≡ option_map request_told (find (λ q. q.seat == seat) qs)
find-told seat [] = refl
find-told seat (q ∷ qs) = go (q.seat == seat) (find-told seat qs) where
  go : (b : Bool) → find (λ x. x.seat == seat) (map request_told qs) ≡ option_map request_told (find (λ x. x.seat == seat) qs)
      → cond b (Some (request_told q)) (find (λ x. x.seat == seat) (map request_told qs)) ≡ option_map request_told (cond b (Some q) (find (λ x. x.seat == seat) qs))
  go true rest = refl
  go false rest = rest

-- the facts have the request that a seat holds
held-is : (s : Strategy) (o : Opening) (p : List Entry) (f : Facts) (seat : ℕ) → Knows s o p f → find (λ q. q.seat == seat) f.requests.items ≡ option_map request_told (held_by seat p)
held-is s o p f seat known = ap (λ qs. find (λ q. q.seat == seat) qs) known.requests ∙ find-told seat (open_requests p)

held-told : (number r : ℕ) (q : Option Request) → is_held_in number r (option_map request_told q) ≡ holds number r q
held-told number r None = refl
held-told number r (Some q) = refl

pub holds-is : (s : Strategy) (o : Opening) (p : List Entry) (f : Facts) (seat number r : ℕ) → Knows s o p f
    → is_held_in number r (find (λ q. q.seat == seat) f.requests.items) ≡ holds number r (held_by seat p)
holds-is s o p f seat number r known = ap (is_held_in number r) (held-is s o p f seat known) ∙ held-told number r (held_by seat p)

none-told : (q : Option Request) → is_none (option_map request_told q) ≡ is_none q
none-told None = refl
none-told (Some q) = refl

and-is_true : (b : Bool) → b ≡ b && true
and-is_true true = refl
and-is_true false = refl

-- a number above the greatest number is above every number
above-all : (n : ℕ) (ms : List ℕ) → is_above n (greatest_of ms) ≡ list_all (λ m. nat_lt m n) ms
above-all n [] = refl
above-all n (m ∷ ms) = go (greatest_of ms) ∙ ap (λ b. nat_lt m n && b) (above-all n ms) where
  go : (g : Option ℕ) → nat_lt (greater_of m g) n ≡ (nat_lt m n && is_above n g)
  go None = and-is_true (nat_lt m n)
  go (Some k) = grind (arith, nat_tests)

ported : (number port r n m : ℕ) (t : Option Template) → is_some t ≡ true → has_port_in number port (Some (sized r n m t)) ≡ (nat_le 1 m && has_value port (port_in t number m))
ported number port r n m None h = absurd (cc)
ported number port r n m (Some t) h = refl

-- a selected revision exists
selected-there : (s : Strategy) (o : Opening) (p : List Entry) (service : Service) (r : ℕ) → Reachable s o p → has_value r (selection s service p) ≡ true → exists_in r p ≡ true
selected-there s o p Active r reach h =
    let e : active_of p ≡ r = equal_numbers (active_of p) r h in rw (← e) (and_parts (exists_in (active_of p) p) _ reach.active).0
selected-there s o p Preview r reach h = go (is_some s.preview_service) h where
  go : (b : Bool) → has_value r (cond b (Some (preview_of p)) None) ≡ true → exists_in r p ≡ true
  go true h = let e : preview_of p ≡ r = equal_numbers (preview_of p) r h in rw (← e) (and_parts (exists_in (preview_of p) p) _ reach.preview).0
  go false h = absurd (cc)

entering : (ab c d e f x : Bool) → (c ≡ true → x ≡ (d && f)) → (ab && c) && x && e ≡ (((ab && c) && d) && e) && f
entering false c d e f x h = refl
entering true false d e f x h = refl
entering true true d e f x h = ap (λ b. b && e) (h refl) ∙ go d e f where
  go : (d e f : Bool) → (d && f) && e ≡ (d && e) && f
  go false e f = refl
  go true true true = refl
  go true true false = refl
  go true false true = refl
  go true false false = refl

-- a request may enter if the facts say so
pub enters-is : (s : Strategy) (o : Opening) (p : List Entry) (f : Facts) (service : Service) (seats seat number r port : ℕ) → Knows s o p f → Reachable s o p → Finds s o p r → seats ≡ o.seats
    → enters_in f seats (selection s service p) seat number r port ≡ may_enter s o seat service number r port p
enters-is s o p f service seats seat number r port known reach finds is =
    ap (λ n. enters_in f n (selection s service p) seat number r port) is
    ∙ ap (λ b. nat_lt seat o.seats && b && has_value r (selection s service p) && has_port_in number port (numbered r f.revisions.items) && is_above number f.greatest)
    (ap is_none (held-is s o p f seat known) ∙ none-told (held_by seat p))
    ∙ ap (λ b. nat_lt seat o.seats && is_none (held_by seat p) && has_value r (selection s service p) && has_port_in number port (numbered r f.revisions.items) && b)
    (ap (is_above number) known.greatest ∙ above-all number (request_numbers p))
    ∙ entering (nat_lt seat o.seats && is_none (held_by seat p)) (has_value r (selection s service p)) (nat_le 1 (available r p)) (list_all (λ n. nat_lt n number) (request_numbers p))
    (has_value port (port_of o r number p)) (has_port_in number port (numbered r f.revisions.items))
    (λ chosen.
    let there : exists_in r p ≡ true = selected-there s o p service r reach chosen in
    ap (has_port_in number port) (found-there s o p r f.revisions.items known.revisions finds there)
    ∙ ported number port r (desired s r p) (available r p) (template o r p) (reach.templates r there))
