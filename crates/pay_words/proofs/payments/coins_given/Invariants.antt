use Rattle.std.proofs.Common.{◌≡◌, take, map, string_bytes}
use Rattle.std.specs.List.{flat_map}
use Rattle.pay_words.specs.Payments.{coin_given}
use Rattle.pay_words.proofs.payments.coins_given.Given as goal

abbrev pub invariant-loop-one : goal.invariant-loop-one
invariant-loop-one l = map string_bytes l.coins.items ≡ flat_map (coin_given l.words) (take l.one-index l.given)
