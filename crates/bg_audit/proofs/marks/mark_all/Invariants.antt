use Rattle.std.proofs.Common.{◌≡◌, ◌++◌, List, map, take, drop}
use Rattle.bg_strategy.specs.declared.strategy.Strategy.{Strategy}
use Rattle.bg_history.specs.declared.entry.Entry.{Entry}
use Rattle.bg_audit.specs.Marked.{IsAround, remarked}
use Rattle.bg_audit.proofs.marks.mark_all.Given as goal

abbrev pub invariant-loop-marked : goal.invariant-loop-marked
invariant-loop-marked l =
    (s : Strategy) (past : List Entry) → IsAround s l.entry past l.around
    → l.marked-items ≡ map (remarked s l.entry past) (take l.marked-index l.initial.marked-items) ++ drop l.marked-index l.initial.marked-items
