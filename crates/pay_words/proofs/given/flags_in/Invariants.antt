use Rattle.std.proofs.Common.{◌≡◌, drop, [], None}
use Rattle.pay_words.specs.Given.{flags_from}
use Rattle.pay_words.proofs.FirstWord.{IsBehind}
use Rattle.pay_words.proofs.given.flags_in.Given as goal

abbrev pub invariant-loop-place : goal.invariant-loop-place
invariant-loop-place l = (flags_from (l.given.items, l.wanted) l.place (drop l.place l.words) ≡ flags_from ([], None) 0 l.words) × IsBehind l.words l.place l.given.items l.wanted
