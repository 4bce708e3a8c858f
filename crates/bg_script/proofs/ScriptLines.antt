-- Lemmas on the lines of a script.
use Rattle.std.proofs.Common.{◌≡◌, ◌⊎◌, ℕ, Bool, false, ◌||◌, List, refl, sym, subst, inl, inr, Option}
use Rattle.std.specs.Prelude.{Ok}
use Rattle.std.specs.Io.KnownBytes.{Appends}
use Rattle.bg_strategy.specs.declared.strategy.Strategy.{Strategy}
use Rattle.bg_operator.specs.declared.command.Command.TheVariants as command
use Rattle.bg_operator.specs.Commands.{IsReadAs, line_reading}
use Rattle.bg_operator.specs.Lines.{lines_of}
use Rattle.bg_script.specs.declared.answer.Answer.{Answer}
use Rattle.bg_script.specs.declared.answering.FirstRevision.{FirstRevision}
use Rattle.bg_script.specs.declared.answering.LinesEnd.{LinesEnd}
use Rattle.bg_script.specs.declared.answering.LinesEnd.TheVariants as lines_end
use Rattle.bg_script.specs.AnswerTexts.{answer_text, is_fault}
use Rattle.bg_script.specs.LineAnswers.{Answered, AnswersLines, text_of_all}
use Rattle.bg_script.specs.LineSteps.{Stage, Closed, Said, ScriptOpens}
use Rattle.bg_script.specs.Scripts.{IsOver, Ran}
use Rattle.bg_script.proofs.LinesInOrder.{AnsweredFrom, Goes, both_answered, one_answered, or_false}

-- the reading of a line that was read as `quit`
quit_reading : (line : List ℕ) → IsReadAs (line_reading line) (Ok command.Quit) → line_reading line ≡ Ok command.Quit
quit_reading line (inl same) = sym same
quit_reading line (inr refused) = cc

-- the script ends here
pub over : (start stage : Stage) (first last : Option (List ℕ)) (faulted : Bool) (xs : List ℕ) (rest : List (List ℕ))
    → AnsweredFrom start first last faulted (lines_of xs) rest stage → IsOver rest → Ran start first last faulted xs
over start stage first last faulted xs rest p is = record {
  all = p.all;
  rest = rest;
  end = stage;
  answers = p.answers;
  is_over = is;
  appended = p.appended;
  fault_is = p.fault_is;
}

ran_to_end : (start stage : Stage) (first last : Option (List ℕ)) (faulted : Bool) (xs ys : List ℕ)
    → AnswersLines start lines_end.End faulted first last stage xs ys → Ran start first last faulted xs
ran_to_end start stage first last faulted xs ys a =
    over start stage first last faulted xs a.rest
    (record { all = a.all; answers = a.answers; appended = subst (λ (o : Option (List ℕ)). Appends first o (text_of_all a.all)) (sym a.ends.1) a.appended; fault_is = a.fault_is })
    (subst IsOver (sym a.ends.0) tt)

ran_to_quit : (start stage : Stage) (first last : Option (List ℕ)) (faulted : Bool) (xs ys : List ℕ)
    → AnswersLines start lines_end.Quit faulted first last stage xs ys → Ran start first last faulted xs
ran_to_quit start stage first last faulted xs ys a =
    over start stage first last faulted xs a.rest
    (record { all = a.all; answers = a.answers; appended = subst (λ (o : Option (List ℕ)). Appends first o (text_of_all a.all)) (sym a.ends.1) a.appended; fault_is = a.fault_is })
    (subst IsOver (sym a.ends.0.1) (quit_reading a.ends.0.0 a.ends.0.2))

pub ran_to_its_end : (start stage : Stage) (first last : Option (List ℕ)) (faulted : Bool) (end : LinesEnd) (xs ys : List ℕ)
    → (end ≡ lines_end.Quit) ⊎ (end ≡ lines_end.End) → AnswersLines start end faulted first last stage xs ys → Ran start first last faulted xs
ran_to_its_end start stage first last faulted end xs ys (inl is) a =
    ran_to_quit start stage first last faulted xs ys (subst (λ (e : LinesEnd). AnswersLines start e faulted first last stage xs ys) is a)
ran_to_its_end start stage first last faulted end xs ys (inr is) a =
    ran_to_end start stage first last faulted xs ys (subst (λ (e : LinesEnd). AnswersLines start e faulted first last stage xs ys) is a)

-- a run that goes on from here
pub goes_through : (start stage : Stage) (first now last : Option (List ℕ)) (faulted later : Bool) (xs ys : List ℕ)
    → Goes start first now stage faulted xs ys → Ran stage now last later ys → Ran start first last (faulted || later) xs
goes_through start stage first now last faulted later xs ys p r =
    over start r.end first last (faulted || later) xs r.rest
    (both_answered start stage r.end first now last faulted later (lines_of xs) (lines_of ys) r.rest p
    (record { all = r.all; answers = r.answers; appended = r.appended; fault_is = r.fault_is }))
    r.is_over

-- lines were answered up to an `open`, and then it was
pub goes_past_open : (s : Strategy) (count : ℕ) (stage next : Stage) (first now mid new : Option (List ℕ)) (faulted later : Bool) (revision : FirstRevision) (said : Answer) (xs ys zs : List ℕ)
    → Goes (Closed s count) first now (Closed s count) faulted xs ys → AnswersLines (Closed s count) (lines_end.Open revision) later now mid stage ys zs
    → stage ≡ Closed s count → ScriptOpens s count revision.name revision.ports (Said said) next → is_fault said ≡ false → Appends mid new (answer_text said)
    → Goes (Closed s count) first new next (faulted || later) xs zs
goes_past_open s count stage next first now mid new faulted later revision said xs ys zs p a same opens plain wrote =
    let asked = a.ends.0 in
    let before : AnsweredFrom (Closed s count) now a.answered later (lines_of ys) a.rest (Closed s count) =
    record { all = a.all; answers = subst (λ (t : Stage). Answered (Closed s count) (lines_of ys) a.rest a.all t) same a.answers; appended = a.appended; fault_is = a.fault_is } in
    let one = one_answered (Closed s count) next a.answered new asked.0 (lines_of zs) (Ok (command.Open revision.name revision.ports)) (Said said) asked.2 refl opens
    (subst (λ (o : Option (List ℕ)). Appends o new (answer_text said)) a.ends.1 wrote) in
    let answered : AnsweredFrom (Closed s count) a.answered new false a.rest (lines_of zs) next =
    subst (λ (t : Bool). AnsweredFrom (Closed s count) a.answered new t a.rest (lines_of zs) next) plain
    (subst (λ ls. AnsweredFrom (Closed s count) a.answered new (is_fault said) ls (lines_of zs) next) (sym asked.1) one) in
    let both = both_answered (Closed s count) (Closed s count) next now a.answered new later false (lines_of ys) a.rest (lines_of zs) before answered in
    both_answered (Closed s count) (Closed s count) next first now new faulted later (lines_of xs) (lines_of ys) (lines_of zs) p
    (subst (λ (t : Bool). AnsweredFrom (Closed s count) now new t (lines_of ys) (lines_of zs) next) (or_false later) both)
