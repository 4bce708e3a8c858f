use Rattle.std.proofs.Common.{◌≡◌, length}
use Rattle.bg_operator.specs.Words.{words_ahead}
use Rattle.bg_operator.proofs.words.WordsIterator.next.Given as goal

abbrev pub invariant-loop-word : goal.invariant-loop-word
invariant-loop-word l = words_ahead l.fn.self ≡ words_ahead l.self

abbrev pub decreases-loop-word : goal.decreases-loop-word
decreases-loop-word l = length l.self.rest.now
