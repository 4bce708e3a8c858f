-- What calls make of a connection on which a response is passed on.
use Rattle.std.proofs.Common.{◌≡◌, ◌∙◌, Bool, true, false, cond, ◌&&◌, List, [], ◌∷◌, ◌++◌, nat_le, refl, sym, ap, subst, arith}
use Rattle.bg_client_side.proofs.LeftLemmas.{front_of_none}
use Rattle.bg_client_side.specs.Clients.{Client, at, failed_at, taken}
use Rattle.bg_client_side.specs.Laws.{PassedOnAlone, PassesOnAlone}
use Rattle.bg_client_side.specs.Runs.{Calls, ClientCall, answers, answers_by, became_whole, begins_closing, begins_passing_on, continues, count_if, cuts, discards, ends_input, fails, feeds, looks, one_if, passed_by, passes_on, read_as, read_by, read_in, takes, whole_by, whole_in, writes, written_by, written_in}
use Rattle.bg_client_side.specs.Stages.{goes_on, is_passing_on}
use Rattle.bg_client_side.specs.declared.stage.PassingOn.{PassingOn}
use Rattle.bg_client_side.specs.declared.stage.Stage.{Stage}
use Rattle.bg_client_side.specs.declared.stage.Stage.TheVariants as stage

-- a response is passed on still, and the connection goes on after it as before
record IsStill (p : PassingOn) (new : Client) : Type 0 where
  passes : is_passing_on new.stage ≡ true
  same : goes_on new.stage ≡ p.goes_on

-- a call while a response is passed on
record IsAlone (p : PassingOn) (call : ClientCall) (new : Client) : Type 0 where
  only_it : written_by call ≡ passed_by call
  none_read : read_by call ≡ []
  none_whole : whole_by call ≡ []
  still : IsStill p new

still_of : (p : PassingOn) (c new : Client) → new ≡ at (stage.PassingOn p) c → IsStill p new
still_of p c new is = record {
  passes = ap (λ (n : Client). is_passing_on n.stage) is;
  same = ap (λ (n : Client). goes_on n.stage) is;
}

call_alone : (p : PassingOn) (c : Client) (call : ClientCall) (new : Client) → Calls (at (stage.PassingOn p) c) call new
    → answers_by call ≡ 0 → IsAlone p call new
call_alone p c (feeds bytes now result whole) new is none = record {
  only_it = refl;
  none_read = ap (λ r. read_as r bytes) is.0.0;
  none_whole = ap one_if (is.1 ∙ ap (λ r. became_whole r new) is.0.0);
  still = still_of p c new is.0.1;
}
call_alone p c (continues result whole) new is none = record {
  only_it = refl;
  none_read = refl;
  none_whole = ap one_if (is.1 ∙ ap (λ r. became_whole r new) is.0.0);
  still = still_of p c new is.0.1;
}
call_alone p c (takes request) new is none = record {
  only_it = refl;
  none_read = refl;
  none_whole = refl;
  still = still_of p c new (is.1 ∙ ap (λ r. taken r (at (stage.PassingOn p) c)) is.0);
}
call_alone p c (answers text weight persistence now awaited) new is none =
    let one = ap count_if is.0 in absurd (cc)
call_alone p c (begins_passing_on persistence now begun) new is none =
    record { only_it = refl; none_read = refl; none_whole = refl; still = still_of p c new is.1 }
call_alone p c (passes_on bytes waits now passes) new is none = record {
  only_it = refl;
  none_read = refl;
  none_whole = refl;
  still = record {
    passes = ap (λ (n : Client). is_passing_on n.stage) is.1;
    same = ap (λ (n : Client). goes_on n.stage) is.1;
  };
}
call_alone p c (cuts was) new is none = let one = ap count_if is.0 in absurd (cc)
call_alone p c (writes bytes now result whole) new is none = record {
  only_it = front_of_none bytes is.0.0 is.0.1;
  none_read = refl;
  none_whole = ap one_if (is.2 ∙ ap (λ r. became_whole r new) is.1.0);
  still = still_of p c new is.1.1;
}
call_alone p c ends_input new is none = record {
  only_it = refl;
  none_read = refl;
  none_whole = refl;
  still = record {
    passes = ap (λ (n : Client). is_passing_on n.stage) is;
    same = ap (λ (n : Client). goes_on n.stage) is;
  };
}
call_alone p c begins_closing new is none = record {
  only_it = refl;
  none_read = refl;
  none_whole = refl;
  still = record {
    passes = ap (λ (n : Client). is_passing_on n.stage) is;
    same = ap (λ (n : Client). goes_on n.stage) is;
  };
}
call_alone p c fails new is none = record {
  only_it = refl;
  none_read = refl;
  none_whole = refl;
  still = record {
    passes = ap (λ (n : Client). is_passing_on n.stage) is;
    same = ap (λ (n : Client). goes_on n.stage) is;
  };
}
call_alone p c (discards count) new is none =
    record { only_it = refl; none_read = refl; none_whole = refl; still = still_of p c new is }
call_alone p c (looks now) new is none =
    record { only_it = refl; none_read = refl; none_whole = refl; still = late (p.waits && nat_le c.facts.until now) is } where
      late : (b : Bool) → new ≡ cond b (failed_at (stage.PassingOn p) (at (stage.PassingOn p) c)) (at (stage.PassingOn p) c)
          → IsStill p new
      late true is_late = record {
        passes = ap (λ (n : Client). is_passing_on n.stage) is_late;
        same = ap (λ (n : Client). goes_on n.stage) is_late;
      }
      late false is_not = still_of p c new is_not

pub passes_on_alone : (calls : List ClientCall) (old new : Client) → PassesOnAlone old calls new
passes_on_alone [] old new is passes none = record {
  only_it = refl;
  none_read = refl;
  none_whole = refl;
  passes_still = ap (λ (c : Client). is_passing_on c.stage) (sym is) ∙ passes;
  goes_on_as_before = ap (λ (c : Client). goes_on c.stage) (sym is);
}
passes_on_alone (call ∷ more) old new is passes none =
    go old.stage refl passes (λ still. passes_on_alone more is.0 new is.2 still (omega (arith, none))) where
      Others : Type 0
      Others = is_passing_on is.0.stage ≡ true → PassedOnAlone is.0 more new

      joins : (p : PassingOn) → old.stage ≡ stage.PassingOn p → IsAlone p call is.0 → Others
          → PassedOnAlone old (call ∷ more) new
      joins p at_is first after =
          let others = after first.still.passes in
          record {
            only_it = ap (λ w. w ++ written_in more) first.only_it ∙ ap (λ w. passed_by call ++ w) others.only_it;
            none_read = ap (λ r. r ++ read_in more) first.none_read ∙ others.none_read;
            none_whole = ap (λ w. w ++ whole_in more) first.none_whole ∙ others.none_whole;
            passes_still = others.passes_still;
            goes_on_as_before = others.goes_on_as_before ∙ first.still.same ∙ ap goes_on (sym at_is);
          }

      go : (s : Stage) → old.stage ≡ s → is_passing_on s ≡ true → Others → PassedOnAlone old (call ∷ more) new
      go stage.Idle at_is passes others = absurd (cc)
      go stage.Reading at_is passes others = absurd (cc)
      go stage.Continuing at_is passes others = absurd (cc)
      go (stage.Waiting request) at_is passes others = absurd (cc)
      go stage.Inside at_is passes others = absurd (cc)
      go (stage.PassingOn p) at_is passes others =
          let passing : old ≡ at (stage.PassingOn p) old = ap (λ s. at s old) at_is in
          let first = call_alone p old call is.0 (subst (λ (c : Client). Calls c call is.0) passing is.1) (omega (arith, none)) in
          joins p at_is first others
      go (stage.Refused named) at_is passes others = absurd (cc)
      go (stage.Answering answering) at_is passes others = absurd (cc)
      go (stage.Lingering lingering) at_is passes others = absurd (cc)
      go stage.Left at_is passes others = absurd (cc)
