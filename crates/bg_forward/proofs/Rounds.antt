-- Lemmas on the connections of a worker.
use Rattle.std.proofs.Common.{◌≡◌, ℕ, ◌+◌, Option, Some, None, ◌∙◌, arith}
use Rattle.bg_rollout.specs.declared.ticket.Ticket.{Ticket}
use Rattle.bg_ledger.specs.declared.holding.Holding.{Holding}
use Rattle.bg_forward.specs.Seats.{Worked, calls_made}

-- a connection was served
pub round_served : (n : ℕ) (first now next : Holding) (entered : Option Ticket) → Worked n first now
    → next.number ≡ 0 → next.index ≡ now.index → next.calls ≡ now.calls + calls_made entered
    → Worked (n + 1) first next
round_served n first now next None w out index calls =
    let most = w.most in
    let before = w.calls in
    record {
      entered = w.entered;
      most = omega arith;
      out = out;
      index = index ∙ w.index;
      calls = omega arith;
    }
round_served n first now next (Some t) w out index calls =
    let most = w.most in
    let before = w.calls in
    record {
      entered = w.entered + 1;
      most = omega arith;
      out = out;
      index = index ∙ w.index;
      calls = omega arith;
    }
