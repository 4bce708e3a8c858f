-- Lemmas on lines that are answered one after the other.
use Rattle.std.proofs.Common.{◌≡◌, ℕ, Bool, true, false, ◌||◌, ◌&&◌, List, [], ◌∷◌, ◌++◌, refl, sym, ap, ◌∙◌, subst, Option, Some}
use Rattle.std.specs.Prelude.{Result, Ok, Err}
use Rattle.std.specs.Io.KnownBytes.{Appends}
use Rattle.std.proofs.KnownBytes.{Appends-trans}
use Rattle.std.proofs.lemmas.Grind.{flat_map-append}
use Rattle.std.proofs.lemmas.List.{append-nil}
use Rattle.bg_operator.specs.declared.command.Command.{Command}
use Rattle.bg_operator.specs.declared.line_fault.LineFault.{LineFault}
use Rattle.bg_operator.specs.Commands.{IsReadAs, line_reading}
use Rattle.bg_operator.specs.HttpLines.{is_http_line, speaks_http}
use Rattle.bg_operator.specs.Lines.{lines_of}
use Rattle.bg_operator.specs.OperatorLines.{NextIs}
use Rattle.bg_script.specs.declared.answering.LinesEnd.TheVariants as lines_end
use Rattle.bg_script.specs.LineAnswers.{Answered, AnswersLines, WroteAnswer, ends_connection, has_fault, text_of_all}
use Rattle.bg_script.specs.LineSteps.{Stage, Written, ReadStep, is_connection, is_fault_written, written_text}

or_assoc : (a b c : Bool) → (a || (b || c)) ≡ ((a || b) || c)
or_assoc true b c = refl
or_assoc false b c = refl

pub or_false : (a : Bool) → (a || false) ≡ a
or_false true = refl
or_false false = refl

-- lines were answered, and then further ones
pub answered_then : (a b c : Stage) (lines middle rest : List (List ℕ)) (first later : List Written) → Answered a lines middle first b
    → Answered b middle rest later c → Answered a lines rest (first ++ later) c
answered_then a b c lines middle rest [] later p q =
    subst (λ (stage : Stage). Answered stage lines rest later c) p.1 (subst (λ (l : List (List ℕ)). Answered b l rest later c) (sym p.0) q)
answered_then a b c [] middle rest (written ∷ first) later p q = absurd p
answered_then a b c (line ∷ lines) middle rest (written ∷ first) later p q = (p.0, p.1, answered_then p.0 b c lines middle rest first later p.2 q)

pub has_fault-append : (first later : List Written) → has_fault (first ++ later) ≡ (has_fault first || has_fault later)
has_fault-append [] later = refl
has_fault-append (written ∷ first) later =
    ap (λ t. is_fault_written written || t) (has_fault-append first later) ∙ or_assoc (is_fault_written written) (has_fault first) (has_fault later)

pub text-append : (first later : List Written) → text_of_all (first ++ later) ≡ text_of_all first ++ text_of_all later
text-append first later = flat_map-append written_text first later

-- from first to last these lines were answered, and the rest was not
pub record AnsweredFrom (start : Stage) (first last : Option (List ℕ)) (faulted : Bool) (lines rest : List (List ℕ)) (next : Stage) : Type 0 where
  pub all : List Written
  pub answers : Answered start lines rest all next
  pub appended : Appends first last (text_of_all all)
  pub fault_is : faulted ≡ has_fault all

-- the one after the other
pub both_answered : (a b c : Stage) (first now last : Option (List ℕ)) (faulted later : Bool) (lines middle rest : List (List ℕ))
    → AnsweredFrom a first now faulted lines middle b → AnsweredFrom b now last later middle rest c → AnsweredFrom a first last (faulted || later) lines rest c
both_answered a b c first now last faulted later lines middle rest p q = record {
  all = p.all ++ q.all;
  answers = answered_then a b c lines middle rest p.all q.all p.answers q.answers;
  appended = subst (λ (t : List ℕ). Appends first last t) (sym (text-append p.all q.all)) (Appends-trans first now last _ _ p.appended q.appended);
  fault_is = ap (λ t. t || later) p.fault_is ∙ ap (λ t. has_fault p.all || t) q.fault_is ∙ sym (has_fault-append p.all q.all);
}

-- one line was answered
pub one_answered : (stage next : Stage) (first last : Option (List ℕ)) (line : List ℕ) (later : List (List ℕ)) (read : Result Command LineFault) (written : Written)
    → IsReadAs (line_reading line) read → ends_connection stage read line ≡ false → ReadStep stage read written next → Appends first last (written_text written)
    → AnsweredFrom stage first last (is_fault_written written) (line ∷ later) later next
one_answered stage next first last line later read written is plain step wrote = record {
  all = written ∷ [];
  answers = (next, (read, is, plain, step), (refl, refl));
  appended = subst (λ (t : List ℕ). Appends first last t) (sym (append-nil (written_text written))) wrote;
  fault_is = sym (or_false (is_fault_written written));
}

-- what was answered of the bytes xs, of which ys are unread
abbrev pub Goes : Stage → Option (List ℕ) → Option (List ℕ) → Stage → Bool → List ℕ → List ℕ → Type 0
Goes start first now stage faulted xs ys = AnsweredFrom start first now faulted (lines_of xs) (lines_of ys) stage

-- the next line is answered
pub goes_on : (start stage next : Stage) (first now new : Option (List ℕ)) (faulted fault http : Bool) (read : Result Command LineFault) (xs ys zs : List ℕ)
    → Goes start first now stage faulted xs ys → NextIs (Some read) http ys zs → (is_connection stage && http) ≡ false → WroteAnswer stage read now new next fault
    → Goes start first new next (faulted || fault) xs zs
goes_on start stage next first now new faulted fault http read xs ys zs p line plain w =
    let one = one_answered stage next now new line.0 (lines_of zs) read w.written line.2 (ap (λ t. is_connection stage && t) (sym line.3) ∙ plain) w.step w.appended in
    let more : AnsweredFrom stage now new fault (lines_of ys) (lines_of zs) next =
    subst (λ (t : Bool). AnsweredFrom stage now new t (lines_of ys) (lines_of zs) next) (sym w.fault_is)
    (subst (λ ls. AnsweredFrom stage now new (is_fault_written w.written) ls (lines_of zs) next) (sym line.1) one) in
    both_answered start stage next first now new faulted fault (lines_of xs) (lines_of ys) (lines_of zs) p more

-- a line that speaks HTTP is a fault
fault_of_http : (read : Result Command LineFault) (line : List ℕ) → speaks_http read line ≡ true → (fault : LineFault) × (read ≡ Err fault) × (is_http_line line ≡ true)
fault_of_http (Err fault) line http = (fault, refl, http)
fault_of_http (Ok command) line http = cc

-- the next line was answered, and is a line of HTTP
pub ends_by_http : (start stage next : Stage) (first now new : Option (List ℕ)) (faulted fault http : Bool) (read : Result Command LineFault) (xs ys zs : List ℕ)
    → Goes start first now stage faulted xs ys → NextIs (Some read) http ys zs → http ≡ true → WroteAnswer stage read now new next fault
    → AnswersLines start lines_end.SpeaksHttp true first new next xs zs
ends_by_http start stage next first now new faulted fault http read xs ys zs p line is w =
    let found = fault_of_http read line.0 (sym line.3 ∙ is) in
    let stays = subst (λ r. ReadStep stage r w.written next) found.1 w.step in
    record {
      rest = lines_of ys;
      answered = now;
      all = p.all;
      answers = subst (λ (s : Stage). Answered start (lines_of xs) (lines_of ys) p.all s) (sym stays.1) p.answers;
      appended = p.appended;
      fault_is = refl;
      ends = record {
        line = line.0;
        fault = found.0;
        next = line.1;
        is_read = subst (λ r. IsReadAs (line_reading line.0) r) found.1 line.2;
        is_http = found.2;
        answered = subst (λ w. Appends now new (written_text w)) stays.0 w.appended;
      };
    }
