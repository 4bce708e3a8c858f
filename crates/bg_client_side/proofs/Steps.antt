-- What one call makes of a connection.
use Rattle.std.proofs.Common.{◌≡◌, ◌∙◌, ℕ, ◌+◌, ◌≤◌, Bool, true, false, cond, List, [], ◌++◌, inr, refl, sym, ap, subst, arith, append-nil}
use Rattle.bg_client_side.specs.Clients.{Client, answering, left}
use Rattle.bg_client_side.specs.Facts.{later}
use Rattle.bg_client_side.specs.Runs.{ClientCall, IsNoEarlier, answers_by, asked_by, count_if, given_by, written_by}
use Rattle.bg_client_side.specs.Stages.{awaits_answer, has_left, rank, to_write}
use Rattle.bg_client_side.specs.declared.stage.Stage.TheVariants as stage
use Rattle.bg_client_side.specs.declared.stage.Stage.{Stage}

-- one call, of which a part of an answer is cut off, and an answer is lost, only if the connection leaves
pub record Step (old : Client) (call : ClientCall) (new : Client) : Type 0 where
  pub cut : List ℕ
  pub in_sequence : to_write old.stage ++ given_by call ≡ written_by call ++ (to_write new.stage ++ cut)
  pub lost : ℕ
  pub once : count_if (awaits_answer old.stage) + asked_by call
      ≡ answers_by call + count_if (awaits_answer new.stage) + lost
  pub none : has_left new.stage ≡ false → (cut ≡ []) × (lost ≡ 0)
  pub forward : IsNoEarlier old new

-- a call that leads to a stage, and neither gives an answer nor writes one
pub stage_step : (old new : Client) (call : ClientCall) (s : Stage) → new.stage ≡ s → new.facts.answered ≡ old.facts.answered
    → given_by call ≡ [] → written_by call ≡ [] → to_write s ≡ to_write old.stage
    → count_if (awaits_answer old.stage) + asked_by call ≡ answers_by call + count_if (awaits_answer s)
    → rank old.stage ≤ rank s → Step old call new
stage_step old new call s is same given written rest once later = record {
  cut = [];
  in_sequence =
      ap (λ g. to_write old.stage ++ g) given ∙ append-nil (to_write old.stage) ∙ sym rest ∙ ap to_write (sym is)
      ∙ sym (append-nil (to_write new.stage)) ∙ ap (λ w. w ++ (to_write new.stage ++ [])) (sym written);
  lost = 0;
  once = let counts = ap (λ t. count_if (awaits_answer t)) is in omega (arith, once, counts);
  none = λ stays. (refl, refl);
  forward = inr (same, subst (λ t. rank old.stage ≤ rank t) (sym is) later);
}

pub no_later_than_left : (s : Stage) → rank s ≤ 8
no_later_than_left stage.Idle = omega arith
no_later_than_left stage.Reading = omega arith
no_later_than_left stage.Continuing = omega arith
no_later_than_left (stage.Waiting request) = omega arith
no_later_than_left stage.Inside = omega arith
no_later_than_left (stage.PassingOn passing) = omega arith
no_later_than_left (stage.Refused named) = omega arith
no_later_than_left (stage.Answering answering) = omega arith
no_later_than_left (stage.Lingering lingering) = omega arith
no_later_than_left stage.Left = omega arith

-- a call by which the connection leaves, and which neither gives an answer nor writes one
pub left_step : (old : Client) (call : ClientCall) → given_by call ≡ [] → written_by call ≡ [] → asked_by call ≡ 0
    → answers_by call ≡ 0 → Step old call (left old)
left_step old call given written asked none = record {
  cut = to_write old.stage;
  in_sequence =
      ap (λ g. to_write old.stage ++ g) given ∙ append-nil (to_write old.stage)
      ∙ ap (λ w. w ++ to_write old.stage) (sym written);
  lost = count_if (awaits_answer old.stage);
  once = omega (arith, asked, none);
  none = λ stays. absurd (cc);
  forward = inr (refl, no_later_than_left old.stage);
}

-- a call that changes nothing
pub quiet_step : (old : Client) (call : ClientCall) → given_by call ≡ [] → written_by call ≡ [] → asked_by call ≡ 0
    → answers_by call ≡ 0 → Step old call old
quiet_step old call given written asked none =
    stage_step old old call old.stage refl refl given written refl (omega (arith, asked, none)) (omega arith)

pub leaves_if : (b : Bool) (old : Client) (call : ClientCall) → given_by call ≡ [] → written_by call ≡ [] → asked_by call ≡ 0
    → answers_by call ≡ 0 → (stays : Client) → stays.stage ≡ old.stage → stays.facts.answered ≡ old.facts.answered
    → (new : Client) → new ≡ cond b (left stays) stays → Step old call new
leaves_if true old call given written asked none stays stage_is same new is =
    let leaves = left_step old call given written asked none in
    let to_left = ap (λ (n : Client). n.stage) is in
    record {
      cut = leaves.cut;
      in_sequence = leaves.in_sequence ∙ ap (λ t. written_by call ++ (to_write t ++ leaves.cut)) (sym to_left);
      lost = leaves.lost;
      once = let counts = ap (λ t. count_if (awaits_answer t)) to_left in omega (arith, leaves.once, counts);
      none = λ stay. absurd (cc);
      forward = inr (
        ap (λ (n : Client). n.facts.answered) is ∙ same,
        subst (λ t. rank old.stage ≤ rank t) (sym to_left) (no_later_than_left old.stage),
      );
    }
leaves_if false old call given written asked none stays stage_is same new is =
    stage_step old new call old.stage (ap (λ (n : Client). n.stage) is ∙ stage_is)
    (ap (λ (n : Client). n.facts.answered) is ∙ same) given written refl (omega (arith, asked, none)) (omega arith)
