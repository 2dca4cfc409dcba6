use Rattle.std.proofs.Common.{◌≡◌, take}
use Rattle.std.specs.List.{filter_map}
use Rattle.payment_facts.specs.AnyCoin.{facts_at}
use Rattle.payment_facts.proofs.any_coin.known_facts.Given as goal

abbrev pub invariant-loop-coin : goal.invariant-loop-coin
invariant-loop-coin l = l.all.items ≡ filter_map (facts_at l.wallet l.book l.tip l.rate) (take l.coin-index l.coins)
