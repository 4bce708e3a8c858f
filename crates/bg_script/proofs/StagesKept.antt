-- Lemmas on the stages of lines.
use Rattle.std.proofs.Common.{List, refl, ap, ◌∙◌}
use Rattle.bg_ledger.specs.declared.holding.Holding.{Holding}
use Rattle.bg_rollout.specs.Routing.{Routing}
use Rattle.bg_script.specs.declared.answer.Answer.TheVariants as answer
use Rattle.bg_script.specs.declared.stages.WithoutBook.{WithoutBook}
use Rattle.bg_script.specs.declared.stages.WithoutBook.TheVariants as without_book
use Rattle.bg_script.specs.LineSteps.{ByBook, MayFollow, Said, Stage, Written, is_connection, is_journaled, is_open}
use Rattle.bg_script.specs.Stages.{closed_stage}

pub follows : (a b c : Stage) → MayFollow a b → MayFollow b c → MayFollow a c
follows a b c p q = record {
  connection = q.connection ∙ p.connection;
  closed = λ shut. q.closed (ap is_open (p.closed shut) ∙ shut) ∙ p.closed shut;
  stays = λ at plain. q.stays (ap is_connection (p.stays at plain) ∙ at) (ap is_journaled (p.stays at plain) ∙ plain) ∙ p.stays at plain;
}

-- the answer without a book to a line that asks for one
pub not_open : (in_script : Routing → List Holding → Written → Stage → Type 0) (at_desk : Written → Type 0) (stage : WithoutBook)
    → ByBook in_script at_desk (closed_stage stage) (Said answer.NotOpen) (closed_stage stage)
not_open in_script at_desk (without_book.Script settings) = (refl, refl)
not_open in_script at_desk without_book.Connection = (refl, refl)
