use Rattle.std.proofs.Common.{◌≡◌, ℕ, List, length, Option, Some, None, true, sym, ap, ◌∙◌, slice_get, subst}
use Rattle.bg_ledger.specs.declared.holding.Holding.{Holding}
use Rattle.bg_rollout.specs.Gathering.{are_all, are_from, gather_fault}
use Rattle.bg_strategy.specs.declared.strategy.Strategy.{Strategy}
use Rattle.bg_history.specs.declared.entry.Entry.{Entry}
use Rattle.bg_history.specs.Kept.{Opening}
use Rattle.bg_history.specs.Steps.{IsLegal, is_settled}
use Rattle.bg_rollout.specs.Routing.{Routing}
use Rattle.bg_book.specs.Runs.{LeavesAll}
use Rattle.bg_book.proofs.Settings.{strategy-left}
use Rattle.bg_book.proofs.book.Book.close.Goals as goal

none_some : {X : Type 0} (o : Option X) (x : X) → o ≡ None → o ≡ Some x → ⊥
none_some o x none some = absurd (cc)

pub unreachable-requires : goal.unreachable-requires
unreachable-requires g c =
    let n = g.N.Names.seats in
    let seats = c.args.seats in
    let new = c.leave_all.new.seats in
    let left = c.lent.ensures seats.len seats.items _ new c.as_mut_slice.ensures.value c.leave_all.ensures.order (sym seats.ok.0) in
    let all : are_all n new ≡ true =
    ap (are_from 0 n) c.leave_all.ensures.order ∙ ap (are_all n) c.as_mut_slice.ensures.value ∙ c.requires.all in
    none_some _ _ (ap (gather_fault n) left ∙ c.gathers.ensures n new all c.leave_all.ensures.out) c.in-Err.ensures.answer

pub returns-clause-left : goal.returns-clause-left
returns-clause-left g c =
    let book = c.args.self in
    let items = c.args.seats.items in
    let new = c.leave_all.new.self in
    let out = c.leave_all.new.seats in
    let left : LeavesAll book items (length items) new out =
    subst (λ (xs : List Holding). LeavesAll book xs (length xs) new out) c.as_mut_slice.ensures.value c.leave_all.ensures.left in
    let same = c.lent.ensures c.args.seats.len items _ out c.as_mut_slice.ensures.value c.leave_all.ensures.order (sym c.args.seats.ok.0) in (
      new,
      out,
      left,
      c.leave_all.ensures.out,
      c.in-Ok.ensures.history.0,
      c.in-Ok.ensures.history.1,
      c.in-Ok.ensures.history.2,
      λ i seat there. c.in-Ok.ensures.calls i seat (ap (λ xs. slice_get xs i) same ∙ there),
    )

-- the history is legal and settled by the strategy of the book before
strategy_is : (b new : Routing) (items value out : List Holding) → value ≡ items → LeavesAll b value (length value) new out → new.strategy ≡ b.strategy
strategy_is b new items value out same left = strategy-left b new value out (length value) left

legal_for : (s t : Strategy) (o : Opening) (closed : List ℕ) (past : List Entry) → t ≡ s → IsLegal t o closed past → IsLegal s o closed past
legal_for s t o closed past same legal = subst (λ (u : Strategy). IsLegal u o closed past) same legal

settled_for : (s t : Strategy) (past : List Entry) → t ≡ s → is_settled t past ≡ true → is_settled s past ≡ true
settled_for s t past same settled = subst (λ (u : Strategy). is_settled u past ≡ true) same settled

pub returns-clause-legal : goal.returns-clause-legal
returns-clause-legal g c =
    legal_for c.args.self.strategy c.leave_all.new.self.strategy _ _ _
    (strategy_is c.args.self c.leave_all.new.self c.args.seats.items c.as_mut_slice.result.now c.leave_all.new.seats c.as_mut_slice.ensures.value c.leave_all.ensures.left)
    c.in-Ok.ensures.legal

pub returns-clause-settled : goal.returns-clause-settled
returns-clause-settled g c =
    settled_for c.args.self.strategy c.leave_all.new.self.strategy c.in-Ok.history.past
    (strategy_is c.args.self c.leave_all.new.self c.args.seats.items c.as_mut_slice.result.now c.leave_all.new.seats c.as_mut_slice.ensures.value c.leave_all.ensures.left)
    c.in-Ok.ensures.settled
