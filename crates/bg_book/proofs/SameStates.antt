-- The readers of a book whose history is compacted give the same answers.
use Rattle.std.proofs.Common.{◌≡◌, ◌==◌, find, refl, ap, sym, ◌∙◌}
use Rattle.bg_history.specs.Requests.{held_by, calls_of}
use Rattle.bg_history.specs.Compacted.{compacted}
use Rattle.bg_history_laws.specs.Listed.{revisions_of}
use Rattle.bg_history_laws.specs.Compaction.{Compacts}
use Rattle.bg_rollout.specs.Compaction.{with_compacted}
use Rattle.bg_book.specs.Compaction.{SameState}
use Rattle.bg_rollout.specs.PastState.{seated}
use Rattle.bg_rollout.specs.Routing.{Routing}

pub same_state : (b : Routing) → Compacts b.strategy b.opening b.closed b.past
    → revisions_of b.strategy b.opening b.past ≡ revisions_of b.strategy b.opening (compacted b.past) → SameState b (with_compacted b)
same_state b c revisions =
    let x = c.answers in record {
      moment_is = c.same.now;
      phase_is = rw (x.post, x.sizing, x.paused, x.pre, x.scaling, x.steady, c.same.alike.halted) refl;
      selectors_are = rw (c.same.alike.active, x.preview, c.same.alike.stable, c.same.alike.newest) refl;
      revisions_are = revisions;
      deadlines_are = x.due_at;
      draining_is = λ r. rw (x.due r, c.same.held) refl;
      past_limit_is = λ r. rw (x.due r, c.same.held, x.due_at r, c.same.now) refl;
      open_are = λ r. rw c.same.held refl;
      seats_are = λ i.
          ap (λ y. seated i (calls_of b.closed i b.past) (find (λ q. q.seat == i) y)) c.same.held
          ∙ ap (λ n. seated i n (held_by i (compacted b.past))) (sym (c.calls i));
      given_is = sym c.given;
    }
