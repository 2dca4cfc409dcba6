use Rattle.std.proofs.Common.{◌≡◌, map, take}
use Rattle.serde_json.specs.View.{view}
use Rattle.request_making.specs.Written.{coin_data}
use Rattle.request_making.proofs.writing.coins_value.Given as goal

abbrev pub invariant-loop-coin : goal.invariant-loop-coin
invariant-loop-coin l = map view l.list.items ≡ map coin_data (take l.coin-index l.coins)
