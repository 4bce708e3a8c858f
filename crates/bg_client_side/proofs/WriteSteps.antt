-- What a call by which an answer was written makes of a connection.
use Rattle.std.proofs.Common.{◌≡◌, ◌∙◌, ℕ, ◌≤◌, Bool, true, false, cond, List, [], ◌∷◌, ◌++◌, length, drop, inl, inr, refl, sym, ap, subst, arith, append-nil, Option, Some, None}
use Rattle.bg_http.specs.declared.request.Request.{Request}
use Rattle.bg_client_side.specs.Outgoing.{with_written}
use Rattle.bg_client_side.proofs.LeftLemmas.{front_of_none}
use Rattle.bg_client_side.proofs.ReadSteps.{reads_early, is_read}
use Rattle.bg_client_side.proofs.Steps.{Step, no_later_than_left, quiet_step}
use Rattle.bg_client_side.specs.Clients.{Client, Finishes, WritesOn, WritesRest, answering, at_until, left, next}
use Rattle.bg_client_side.specs.Facts.{later}
use Rattle.bg_client_side.specs.Runs.{Calls, ClientCall, IsNoEarlier, asks_answer, count_if, writes}
use Rattle.bg_client_side.specs.Stages.{as_answering, awaits_answer, rank, to_write}
use Rattle.bg_client_side.specs.declared.reading.Fed.{Fed}
use Rattle.bg_client_side.specs.declared.stage.Answering.{Answering}
use Rattle.bg_client_side.specs.declared.stage.Stage.TheVariants as stage
use Rattle.bg_client_side.specs.declared.stage.Stage.{Stage}

-- no stage but that of an answer has an answer to write
no_answer : (s : Stage) → as_answering s ≡ None → to_write s ≡ []
no_answer stage.Idle is = refl
no_answer stage.Reading is = refl
no_answer stage.Continuing is = refl
no_answer (stage.Waiting request) is = refl
no_answer stage.Inside is = refl
no_answer (stage.PassingOn passing) is = refl
no_answer (stage.Refused named) is = refl
no_answer (stage.Answering answering) is = absurd (cc)
no_answer (stage.Lingering lingering) is = refl
no_answer stage.Left is = refl

drop_front : (bytes rest : List ℕ) → drop (length bytes) (bytes ++ rest) ≡ rest
drop_front [] rest = refl
drop_front (byte ∷ bytes) rest = drop_front bytes rest

-- what an answer at hand is
record IsAnswering (s : Stage) (a : Answering) : Type 0 where
  rest : to_write s ≡ a.text.rest
  none : awaits_answer s ≡ false
  early : rank s ≡ 6

is_answering : (s : Stage) (a : Answering) → as_answering s ≡ Some a → IsAnswering s a
is_answering stage.Idle a is = absurd (cc)
is_answering stage.Reading a is = absurd (cc)
is_answering stage.Continuing a is = absurd (cc)
is_answering (stage.Waiting request) a is = absurd (cc)
is_answering stage.Inside a is = absurd (cc)
is_answering (stage.PassingOn passing) a is = absurd (cc)
is_answering (stage.Refused named) a is = absurd (cc)
is_answering (stage.Answering answering) a is = record {
  rest = cc;
  none = refl;
  early = refl;
}
is_answering (stage.Lingering lingering) a is = absurd (cc)
is_answering stage.Left a is = absurd (cc)

-- a call by which the rest of an answer was written
ends_answer : (old new : Client) (bytes : List ℕ) (now : ℕ) (result : Fed) (whole : Option Request) (to : Stage)
    → new.stage ≡ to → to_write to ≡ [] → to_write old.stage ≡ bytes → awaits_answer old.stage ≡ false
    → count_if (asks_answer result) ≡ count_if (awaits_answer to) → IsNoEarlier old new
    → Step old (writes bytes now result whole) new
ends_answer old new bytes now result whole to is nothing rest none asks forward = record {
  cut = [];
  in_sequence =
      append-nil (to_write old.stage) ∙ rest ∙ sym (append-nil bytes)
      ∙ ap (λ w. bytes ++ (w ++ [])) (sym (ap to_write is ∙ nothing));
  lost = 0;
  once =
      let counts = ap (λ t. count_if (awaits_answer t)) is in
      let before = ap count_if none in
      omega (arith, counts, before, asks);
  none = λ stays. (refl, refl);
  forward = forward;
}

pub writes_step : (old new : Client) (bytes : List ℕ) (now : ℕ) (result : Fed) (whole : Option Request)
    → Calls old (writes bytes now result whole) new → Step old (writes bytes now result whole) new
writes_step old new bytes now result whole is = go (as_answering old.stage) refl is.1 where
  call : ClientCall
  call = writes bytes now result whole

  finish : (a : Answering) → IsAnswering old.stage a → bytes ≡ a.text.rest → (b : Bool)
      → Finishes b a.was_whole now old result new → Step old call new
  finish a at_hand all true read =
      let c = next now old in
      let done = is_read c new [] result (reads_early stage.Idle refl) read in
      ends_answer old new bytes now result whole done.to_stage done.stage_is done.nothing (at_hand.rest ∙ sym all) at_hand.none
      done.asks (inl (omega (arith, done.same)))
  finish a at_hand all false last = last_one old.facts.has_ended last.1 where
    last_one : (b : Bool)
        → new ≡ cond b (left old) (at_until (stage.Lingering (record { was_whole = a.was_whole; passed = 0 })) (later now 10000)
        old)
        → Step old call new
    last_one true to =
        ends_answer old new bytes now result whole stage.Left (ap (λ (n : Client). n.stage) to) refl (at_hand.rest ∙ sym all)
        at_hand.none (ap (λ r. count_if (asks_answer r)) last.0)
        (inr (
          ap (λ (n : Client). n.facts.answered) to,
          subst (λ t. rank old.stage ≤ rank t) (sym (ap (λ (n : Client). n.stage) to)) (no_later_than_left old.stage),
        ))
    last_one false to =
        let lingers = stage.Lingering (record { was_whole = a.was_whole; passed = 0 }) in
        ends_answer old new bytes now result whole lingers (ap (λ (n : Client). n.stage) to) refl (at_hand.rest ∙ sym all)
        at_hand.none (ap (λ r. count_if (asks_answer r)) last.0)
        (inr (
          ap (λ (n : Client). n.facts.answered) to,
          subst (λ t. rank old.stage ≤ rank t) (sym (ap (λ (n : Client). n.stage) to)) (omega (arith, at_hand.early)),
        ))

  goes_on : (a : Answering) → IsAnswering old.stage a → (left_over : List ℕ)
      → left_over ≡ (with_written a.text (length bytes)).rest → bytes ++ left_over ≡ a.text.rest
      → WritesRest left_over a (length bytes) now old result new → Step old call new
  goes_on a at_hand [] rest_is all last = finish a at_hand (sym (append-nil bytes) ∙ all) a.goes_on last
  goes_on a at_hand (byte ∷ more) rest_is all kept =
      let stage_is = ap (λ (n : Client). n.stage) kept.1 in
      let counts = ap (λ t. count_if (awaits_answer t)) stage_is in
      let before = ap count_if at_hand.none in
      let asks = ap (λ r. count_if (asks_answer r)) kept.0 in
      record {
        cut = [];
        in_sequence =
            append-nil (to_write old.stage) ∙ at_hand.rest ∙ sym all
            ∙ ap (λ w. bytes ++ w) (rest_is ∙ sym (ap to_write stage_is) ∙ sym (append-nil (to_write new.stage)));
        lost = 0;
        once = omega (arith, counts, before, asks);
        none = λ stays. (refl, refl);
        forward = inr (
          ap (λ (n : Client). n.facts.answered) kept.1,
          subst (λ t. rank old.stage ≤ rank t) (sym stage_is) (omega (arith, at_hand.early)),
        );
      }

  go : (o : Option Answering) → as_answering old.stage ≡ o → WritesOn o (length bytes) now old result new → Step old call new
  go None none kept =
      let written = front_of_none bytes is.0.0 (sym (no_answer old.stage none) ∙ is.0.1) in
      let asks = ap (λ r. count_if (asks_answer r)) kept.0 in
      subst (Step old call) (sym kept.1) (quiet_step old call refl written asks refl)
  go (Some a) some wrote =
      let at_hand = is_answering old.stage a some in
      let all = sym at_hand.rest ∙ is.0.1 in
      let rest_is = ap (drop (length bytes)) all ∙ drop_front bytes is.0.0 in
      goes_on a at_hand (with_written a.text (length bytes)).rest refl (ap (λ r. bytes ++ r) rest_is ∙ sym all) wrote
