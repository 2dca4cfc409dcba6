use Rattle.std.proofs.Common.{◌≡◌, drop}
use Rattle.std.specs.List.{list_any}
use Rattle.pay_words.specs.Payments.{is_equals}
use Rattle.sweep_words.proofs.saying.has_amount.Given as goal

abbrev pub invariant-loop-byte : goal.invariant-loop-byte
invariant-loop-byte l = list_any is_equals (drop l.byte-index l.word) ≡ list_any is_equals l.word
