use Rattle.std.proofs.Common.{◌≡◌, ℕ, ◌-◌, ◌≤◌, List, drop, length}
use Rattle.bg_http.specs.ResponseRules.{asks_for_head}
use Rattle.bg_http.specs.declared.request.Request.{Request}
use Rattle.bg_http_read.specs.Responses.{SkipsInterim}
use Rattle.bg_http_read.proofs.final_head.HeadSearch.take_from.Given as goal

abbrev pub invariant-loop-self : goal.invariant-loop-self
invariant-loop-self l = record {
  fits : l.taken ≤ length l.bytes;
  skips : (request : Request) (seen : List ℕ) → l.to_head ≡ asks_for_head request
      → SkipsInterim request l.initial.self.interim seen l.bytes
      → SkipsInterim request l.self.interim seen (drop l.taken l.bytes);
  few : l.self.interim ≤ 17;
}

abbrev pub decreases-loop-self : goal.decreases-loop-self
decreases-loop-self l = 17 - l.self.interim
