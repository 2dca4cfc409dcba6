use Rattle.std.proofs.Common.{◌≡◌, take, None}
use Rattle.log_checker.specs.Feeding.{Takes, fed}
use Rattle.log_checker.proofs.checker.Checker.feed.Given as goal

abbrev pub invariant-loop-letter : goal.invariant-loop-letter
invariant-loop-letter l = record {
  fine : l.self.fault ≡ None;
  takes : Takes l.fn.self (take l.letter-index l.tokens);
  is : l.self ≡ fed l.fn.self (take l.letter-index l.tokens);
}
