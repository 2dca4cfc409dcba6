use Rattle.std.proofs.Common.{◌≡◌, take, None}
use Rattle.wide_check.specs.Feeding.{Takes, fed}
use Rattle.wide_check.proofs.checker.WideChecker.feed.Given as goal

abbrev pub invariant-loop-letter : goal.invariant-loop-letter
invariant-loop-letter l = record {
  fine : l.self.fault ≡ None;
  takes : Takes l.fn.self (take l.letter-index l.tokens);
  is : l.self ≡ fed l.fn.self (take l.letter-index l.tokens);
}
