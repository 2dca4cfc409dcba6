use Rattle.std.proofs.Common.{◌≡◌, drop}
use Rattle.pay_words.specs.Given.{place_of}
use Rattle.pay_words.proofs.given.place_of.Given as goal

abbrev pub invariant-loop-one : goal.invariant-loop-one
invariant-loop-one l = place_of (drop l.one-index l.given) l.flag ≡ place_of l.given l.flag
