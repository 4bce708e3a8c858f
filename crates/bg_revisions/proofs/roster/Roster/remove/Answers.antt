use Rattle.std.proofs.Common.{ℕ, ◌≡◌, ◌==◌, not, List, filter, rules, refl}
use Rattle.std.proofs.lemmas.Fn.{filter_same}
use Rattle.bg_revisions.specs.declared.revision.Revision.{Revision}
use Rattle.bg_revisions.specs.Rosters.{Listing}
use Rattle.bg_revisions.proofs.Listings.{IsRoster-filter}
use Rattle.bg_revisions.proofs.roster.Roster.remove.Goals as goal

-- the revisions of other numbers
abbrev others : ℕ → List Revision → List Revision
others number vs = filter (λ v. not (v.number == number)) vs

pub invariant_of-self : goal.invariant_of-self
invariant_of-self c =
    let before : Listing = record { replicas = c.self.inside.replicas; revisions = c.self.inside.revisions.items; last = c.self.inside.last } in
    let kept : c.retain.new.self.items ≡ others c.args.number before.revisions = filter_same _ (λ (v : Revision). not (v.number == c.args.number)) _ (λ x b f' k. search rules) _ _ c.retain.ensures.filtered in
    rw kept (IsRoster-filter _ before c.self.invariant)

pub returns : goal.returns
returns c =
    let kept : c.retain.new.self.items ≡ others c.args.number c.self.inside.revisions.items = filter_same _ (λ (v : Revision). not (v.number == c.args.number)) _ (λ x b f' k. search rules) _ _ c.retain.ensures.filtered in
    rw (kept, ← c.self.view_is) refl
