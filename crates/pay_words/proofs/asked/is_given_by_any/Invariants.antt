use Rattle.std.proofs.Common.{◌≡◌, drop}
use Rattle.pay_words.specs.Asked.{is_given_by_any}
use Rattle.pay_words.proofs.asked.is_given_by_any.Given as goal

abbrev pub invariant-loop-flag : goal.invariant-loop-flag
invariant-loop-flag l = is_given_by_any l.words l.given l.name (drop l.flag-index l.flags) ≡ is_given_by_any l.words l.given l.name l.flags
