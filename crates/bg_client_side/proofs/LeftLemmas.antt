-- A connection that has left, and one whose request is inside.
use Rattle.std.proofs.Common.{◌≡◌, ◌∙◌, ℕ, true, cond, List, [], ◌∷◌, ◌++◌, refl, sym, ap, subst}
use Rattle.bg_client_side.specs.Clients.{Client, at, taken}
use Rattle.bg_client_side.specs.Laws.{StaysLeft}
use Rattle.bg_client_side.specs.Runs.{Calls, ClientCall, answers, became_whole, begins_closing, begins_passing_on, continues, cuts, discards, ends_input, fails, feeds, looks, one_if, passes_on, takes, whole_by, whole_in, writes, written_by, written_in}
use Rattle.bg_client_side.specs.Stages.{has_left}
use Rattle.bg_client_side.specs.declared.stage.Stage.{Stage}
use Rattle.bg_client_side.specs.declared.stage.Stage.TheVariants as stage

pub front_of_none : (bytes rest : List ℕ) → [] ≡ bytes ++ rest → bytes ≡ []
front_of_none [] rest is = refl
front_of_none (byte ∷ bytes) rest is = absurd (cc)

pub stage_left : (s : Stage) → has_left s ≡ true → s ≡ stage.Left
stage_left stage.Idle is = absurd (cc)
stage_left stage.Reading is = absurd (cc)
stage_left stage.Continuing is = absurd (cc)
stage_left (stage.Waiting request) is = absurd (cc)
stage_left stage.Inside is = absurd (cc)
stage_left (stage.PassingOn passing) is = absurd (cc)
stage_left (stage.Refused named) is = absurd (cc)
stage_left (stage.Answering answering) is = absurd (cc)
stage_left (stage.Lingering lingering) is = absurd (cc)
stage_left stage.Left is = refl

-- a call after which the connection has left, and that gave no request and wrote nothing
record StaysOut (call : ClientCall) (new : Client) : Type 0 where
  out : has_left new.stage ≡ true
  none : whole_by call ≡ []
  nothing : written_by call ≡ []

out_of : (c new : Client) → new ≡ at stage.Left c → has_left new.stage ≡ true
out_of c new is = ap (λ (n : Client). has_left n.stage) is

call_stays : (c : Client) (call : ClientCall) (new : Client) → Calls (at stage.Left c) call new → StaysOut call new
call_stays c (feeds bytes now result whole) new is = record {
  out = out_of c new is.0.1;
  none = ap one_if (is.1 ∙ ap (λ r. became_whole r new) is.0.0);
  nothing = refl;
}
call_stays c (continues result whole) new is = record {
  out = out_of c new is.0.1;
  none = ap one_if (is.1 ∙ ap (λ r. became_whole r new) is.0.0);
  nothing = refl;
}
call_stays c (takes request) new is = record {
  out = out_of c new (is.1 ∙ ap (λ r. taken r (at stage.Left c)) is.0);
  none = refl;
  nothing = refl;
}
call_stays c (answers text weight persistence now awaited) new is =
    record { out = out_of c new is.1; none = refl; nothing = refl }
call_stays c (begins_passing_on persistence now begun) new is =
    record { out = out_of c new is.1; none = refl; nothing = refl }
call_stays c (passes_on bytes waits now passes) new is = record {
  out = out_of c new is.1;
  none = refl;
  nothing = ap (λ b. cond b bytes []) is.0;
}
call_stays c (cuts was) new is = record { out = out_of c new is.1; none = refl; nothing = refl }
call_stays c (writes bytes now result whole) new is = record {
  out = out_of c new is.1.1;
  none = ap one_if (is.2 ∙ ap (λ r. became_whole r new) is.1.0);
  nothing = front_of_none bytes is.0.0 is.0.1;
}
call_stays c ends_input new is =
    record { out = ap (λ (n : Client). has_left n.stage) is; none = refl; nothing = refl }
call_stays c begins_closing new is =
    record { out = ap (λ (n : Client). has_left n.stage) is; none = refl; nothing = refl }
call_stays c fails new is = record { out = out_of c new is; none = refl; nothing = refl }
call_stays c (discards count) new is = record { out = out_of c new is; none = refl; nothing = refl }
call_stays c (looks now) new is = record { out = out_of c new is; none = refl; nothing = refl }

pub stays_left : (calls : List ClientCall) (old new : Client) → StaysLeft old calls new
stays_left [] old new is left = (ap (λ (c : Client). has_left c.stage) (sym is) ∙ left, refl, refl)
stays_left (call ∷ more) old new is left =
    let at_left : old ≡ at stage.Left old = ap (λ s. at s old) (stage_left old.stage left) in
    let first = call_stays old call is.0 (subst (λ (c : Client). Calls c call is.0) at_left is.1) in
    let others = stays_left more is.0 new is.2 first.out in (
      others.0,
      ap (λ one. one ++ whole_in more) first.none ∙ others.1,
      ap (λ one. one ++ written_in more) first.nothing ∙ others.2,
    )
