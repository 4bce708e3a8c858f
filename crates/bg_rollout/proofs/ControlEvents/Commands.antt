-- What a promotion command leaves unchanged.
use Rattle.std.proofs.Common.{◌≡◌, true, List, ◌∷◌, refl}
use Rattle.bg_history.specs.declared.entry.Entry.{Entry}
use Rattle.bg_history.specs.declared.entry.Entry.TheVariants.{Verdict, Promote, PromoteFull, Abort, Retry}
use Rattle.bg_history.specs.AttemptBounds.{moment}
use Rattle.bg_history.specs.Sizes.{last_number}
use Rattle.bg_rollout.specs.PastState.{lists_of}
use Rattle.bg_rollout.specs.Recording.{is_command}
use Rattle.bg_rollout.proofs.WholeStates.Carrying.{IsPlain}

-- what each promotion command leaves unchanged
pub record Leaves (e : Entry) (past : List Entry) : Type 0 where
  pub plain : IsPlain e past
  pub last : last_number (e ∷ past) ≡ last_number past
  pub moment : moment (e ∷ past) ≡ moment past
  pub lists : lists_of (e ∷ past) ≡ lists_of past

pub command_leaves : (e : Entry) (past : List Entry) → is_command e ≡ true → Leaves e past
command_leaves (Verdict analysis result) past h = record { plain = record { requests = refl; numbers = refl; entered = refl; calls = λ i. refl }; last = refl; moment = refl; lists = refl }
command_leaves Promote past h = record { plain = record { requests = refl; numbers = refl; entered = refl; calls = λ i. refl }; last = refl; moment = refl; lists = refl }
command_leaves PromoteFull past h = record { plain = record { requests = refl; numbers = refl; entered = refl; calls = λ i. refl }; last = refl; moment = refl; lists = refl }
command_leaves Abort past h = record { plain = record { requests = refl; numbers = refl; entered = refl; calls = λ i. refl }; last = refl; moment = refl; lists = refl }
command_leaves Retry past h = record { plain = record { requests = refl; numbers = refl; entered = refl; calls = λ i. refl }; last = refl; moment = refl; lists = refl }
command_leaves _ past h = absurd (cc)
