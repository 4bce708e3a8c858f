-- The stages while no book is open.
use Rattle.bg_script.specs.declared.stages.WithoutBook.{WithoutBook}
use Rattle.bg_script.specs.declared.stages.WithoutBook.TheVariants as without_book
use Rattle.bg_script.specs.LineSteps.{Stage, Closed, ConnectionClosed}

-- the stage in definitions
abbrev pub closed_stage : WithoutBook → Stage
closed_stage (without_book.Script settings) = Closed settings.now.strategy.now settings.now.seats
closed_stage without_book.Connection = ConnectionClosed
