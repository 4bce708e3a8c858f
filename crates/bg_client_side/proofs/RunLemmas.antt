-- What calls, one after the other, make of a connection.
use Rattle.std.proofs.Common.{◌≡◌, ◌∙◌, ℕ, ◌+◌, Bool, true, false, inl, inr, refl, sym, ap, arith, append-nil, append_assoc, List, [], ◌∷◌, ◌++◌}
use Rattle.bg_client_side.proofs.LeftLemmas.{stage_left, stays_left}
use Rattle.bg_client_side.proofs.StepLemmas.{step}
use Rattle.bg_client_side.proofs.Steps.{Step}
use Rattle.bg_client_side.specs.Clients.{Client, accepted}
use Rattle.bg_client_side.specs.Laws.{GoesForward, IdleHasAnswered, IsAnsweredOnce, IsWrittenInSequence}
use Rattle.bg_client_side.specs.Runs.{ClientCall, IsNoEarlier, count_if, given_by, given_in, written_by, written_in}
use Rattle.bg_client_side.specs.Stages.{awaits_answer, has_left, is_idle, rank, to_write}
use Rattle.bg_client_side.specs.declared.facts.ClientSettings.{ClientSettings}
use Rattle.bg_client_side.specs.declared.stage.Stage.{Stage}
use Rattle.bg_client_side.specs.declared.stage.Stage.TheVariants as stage

later_still : (old mid new : Client) → IsNoEarlier old mid → IsNoEarlier mid new → IsNoEarlier old new
later_still old mid new (inl less) (inl more) = inl (omega (arith, less, more))
later_still old mid new (inl less) (inr more) = inl (omega (arith, less, more.0))
later_still old mid new (inr less) (inl more) = inl (omega (arith, less.0, more))
later_still old mid new (inr less) (inr more) = inr (more.0 ∙ less.0, omega (arith, less.1, more.1))

pub goes_forward : (calls : List ClientCall) (old new : Client) → GoesForward old calls new
goes_forward [] old new is =
    let rank_is = ap (λ (c : Client). rank c.stage) is in
    inr (ap (λ (c : Client). c.facts.answered) (sym is), omega (arith, rank_is))
goes_forward (call ∷ more) old new is =
    later_still old is.0 new (step old is.0 call is.1).forward (goes_forward more is.0 new is.2)

left_has_none : (s : Stage) → has_left s ≡ true → to_write s ≡ []
left_has_none s is = ap to_write (stage_left s is)

-- texts that are written one after the other, of which nothing was cut off before
joined : (rest given others written more to cut left : List ℕ) → rest ++ given ≡ written ++ (to ++ cut) → cut ≡ []
    → to ++ others ≡ more ++ left → rest ++ (given ++ others) ≡ (written ++ more) ++ left
joined rest given others written more to cut left first none second =
    sym (append_assoc rest given others) ∙ ap (λ t. t ++ others) (first ∙ ap (λ c. written ++ (to ++ c)) none
    ∙ ap (λ t. written ++ t) (append-nil to)) ∙ append_assoc written to others ∙ ap (λ t. written ++ t) second
    ∙ sym (append_assoc written more left)

-- texts after which the connection had left
cut_off : (rest given others written more to cut : List ℕ) → rest ++ given ≡ written ++ (to ++ cut) → to ≡ [] → more ≡ []
    → rest ++ (given ++ others) ≡ (written ++ more) ++ (cut ++ others)
cut_off rest given others written more to cut first none nothing =
    sym (append_assoc rest given others) ∙ ap (λ t. t ++ others) (first ∙ ap (λ t. written ++ (t ++ cut)) none)
    ∙ append_assoc written cut others ∙ ap (λ t. t ++ (cut ++ others)) (sym (append-nil written) ∙ ap (λ m. written ++ m) (sym nothing))

pub written_in_sequence : (calls : List ClientCall) (old new : Client) → IsWrittenInSequence old calls new
written_in_sequence [] old new is = (
  [],
  append-nil (to_write old.stage) ∙ ap (λ (c : Client). to_write c.stage) is ∙ sym (append-nil (to_write new.stage)),
  λ stays. refl,
)
written_in_sequence (call ∷ more) old new is =
    go (has_left is.0.stage) refl (step old is.0 call is.1) (written_in_sequence more is.0 new is.2) where
      go : (b : Bool) → has_left is.0.stage ≡ b → Step old call is.0
          → ((cut : List ℕ) × (to_write is.0.stage ++ given_in more ≡ written_in more ++ to_write new.stage ++ cut)
          × (has_left new.stage ≡ false → cut ≡ []))
          → ((cut : List ℕ) × (to_write old.stage ++ given_in (call ∷ more) ≡ written_in (call ∷ more) ++ to_write new.stage ++ cut)
          × (has_left new.stage ≡ false → cut ≡ []))
      go true left first others =
          let after = stays_left more is.0 new is.2 left in
          let out = after.0 in
          let all = cut_off (to_write old.stage) (given_by call) (given_in more) (written_by call) (written_in more)
          (to_write is.0.stage) first.cut first.in_sequence (left_has_none is.0.stage left) after.2 in
          let written = written_by call ++ written_in more in
          let rest : written ≡ written ++ to_write new.stage =
          sym (append-nil written) ∙ ap (λ t. written ++ t) (sym (left_has_none new.stage out)) in
          (first.cut ++ given_in more, all ∙ ap (λ t. t ++ (first.cut ++ given_in more)) rest, λ stays. absurd (cc))
      go false stays first others =
          let written = written_by call ++ written_in more in
          let all = joined (to_write old.stage) (given_by call) (given_in more) (written_by call) (written_in more)
          (to_write is.0.stage) first.cut (to_write new.stage ++ others.0) first.in_sequence (first.none stays).0
          (others.1 ∙ append_assoc (written_in more) (to_write new.stage) others.0) in
          (others.0, all ∙ sym (append_assoc written (to_write new.stage) others.0), others.2)

pub answered_once : (calls : List ClientCall) (old new : Client) → IsAnsweredOnce old calls new
answered_once [] old new is =
    let counts = ap (λ (c : Client). count_if (awaits_answer c.stage)) is in
    (0, omega (arith, counts), λ stays. refl)
answered_once (call ∷ more) old new is =
    let first = step old is.0 call is.1 in
    let others = answered_once more is.0 new is.2 in (
      first.lost + others.0,
      omega (arith, first.once, others.1),
      go (has_left is.0.stage) refl first others.0 others.2,
    ) where
      go : (b : Bool) → has_left is.0.stage ≡ b → (first : Step old call is.0) (lost : ℕ) → (has_left new.stage ≡ false → lost ≡ 0)
          → has_left new.stage ≡ false → first.lost + lost ≡ 0
      go true left first lost others stays =
          let out = (stays_left more is.0 new is.2 left).0 in absurd (cc)
      go false on first lost others stays =
          let none = (first.none on).1 in
          let no_more = others stays in
          omega (arith, none, no_more)

idle_stage : (s : Stage) → is_idle s ≡ true → (awaits_answer s ≡ false) × (has_left s ≡ false)
idle_stage stage.Idle is = (refl, refl)
idle_stage stage.Reading is = absurd (cc)
idle_stage stage.Continuing is = absurd (cc)
idle_stage (stage.Waiting request) is = absurd (cc)
idle_stage stage.Inside is = absurd (cc)
idle_stage (stage.PassingOn passing) is = absurd (cc)
idle_stage (stage.Refused named) is = absurd (cc)
idle_stage (stage.Answering answering) is = absurd (cc)
idle_stage (stage.Lingering lingering) is = absurd (cc)
idle_stage stage.Left is = absurd (cc)

pub idle_has_answered : (settings : ClientSettings) (now : ℕ) (calls : List ClientCall) (new : Client)
    → IdleHasAnswered settings now calls new
idle_has_answered settings now calls new is idle =
    let all = answered_once calls (accepted settings now) new is in
    let stays = idle_stage new.stage idle in
    let none = all.2 stays.1 in
    let awaits = ap count_if stays.0 in
    let counts = all.1 in
    omega (arith, counts, none, awaits)
