use Rattle.std.proofs.Common.{◌≡◌, drop, false}
use Rattle.max_words.specs.Words.{max_from}
use Rattle.max_words.proofs.words.max_at.Given as goal

abbrev pub invariant-loop-place : goal.invariant-loop-place
invariant-loop-place l = max_from l.payee l.place (drop l.place l.words) ≡ max_from false 0 l.words
