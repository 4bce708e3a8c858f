use Rattle.std.proofs.Common.{◌≡◌, true}
use Rattle.bg_history.specs.Requests.{request_numbers}
use Rattle.bg_history.specs.Steps.{all_given}
use Rattle.bg_audit.specs.Openings.{oldest}
use Rattle.bg_audit.proofs.numbers.lie_within.Given as goal

abbrev pub invariant-loop-place : goal.invariant-loop-place
invariant-loop-place l = all_given l.given (request_numbers (oldest l.place l.history.past)) ≡ true
