use Rattle.std.proofs.Common.{arith, refl, subst, sym}
use Rattle.bg_http_read.specs.Responses.{SkipsInterim}
use Rattle.bg_http_read.proofs.taken_heads.ResponseHeads.new.Goals as goal

pub returns-clause-first : goal.returns-clause-first
returns-clause-first c = record {
  asked = c.asks_for_head.ensures;
  few = omega (arith, c.new.ensures.interim);
  skips = λ more. subst (λ n. SkipsInterim c.args.request.now n more more) (sym c.new.ensures.interim) refl;
}
