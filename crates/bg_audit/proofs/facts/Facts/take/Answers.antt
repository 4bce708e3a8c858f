use Rattle.std.proofs.Common.{refl, sym, arith}
use Rattle.bg_audit.specs.Openings.{oldest}
use Rattle.bg_audit.proofs.Prefixes.{oldest-length}
use Rattle.bg_audit.proofs.facts.Facts.take.Goals as goal

pub returns : goal.returns
returns c = λ o known reach allowed.
    let past = oldest c.args.place c.args.history.now.past in
    record {
      state = c.take.ensures;
      revisions = c.in_ok-take.ensures o past known.state reach allowed known.revisions;
      marks =
          c.in_ok-take-2.ensures c.args.strategy.now o past
          (record {
            before_is = known.state;
            after_is = c.take.ensures;
            scaled_is = c.newest_is_scaled-newest_is_scaled.ensures c.args.strategy.now o past known reach;
            delay_is = refl;
            position_is = sym (oldest-length c.args.place c.args.history.now.past (omega (arith, c.requires.place)));
          }) reach known.marks;
      requests = c.in_ok-take-3.ensures past known.requests;
      greatest = c.greatest_number-self.ensures past known.greatest;
    }
