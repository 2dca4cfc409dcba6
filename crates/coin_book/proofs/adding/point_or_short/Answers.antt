use Rattle.std.proofs.Common.{◌++◌, ap, sym}
use Rattle.std.specs.Map.{keys_of}
use Rattle.std.specs.Option.{option_to_list}
use Rattle.coin_book.proofs.ShortSteps.{none_told}
use Rattle.coin_book.proofs.adding.point_or_short.Goals as goal

pub returns-in-None : goal.returns-in-None
returns-in-None c = none_told (keys_of c.args.base.now.coins.entries ++ keys_of c.args.own.now.coins.entries) (option_to_list c.args.point) (ap (λ o. option_to_list o) (sym c.in-None.is))
