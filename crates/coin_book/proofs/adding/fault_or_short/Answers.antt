use Rattle.std.proofs.Common.{◌∙◌, ◌++◌, List, ap}
use Rattle.std.specs.Prelude.{unwrap_or}
use Rattle.std.specs.Map.{keys_of}
use Rattle.fund_base.specs.declared.outpoint.OutPoint.{OutPoint}
use Rattle.coin_book.specs.Faults.{fault_behind}
use Rattle.coin_book.specs.declared.fault.BookFault.TheVariants.{Memory}
use Rattle.coin_book.proofs.adding.fault_or_short.Goals as goal

pub returns : goal.returns
returns c = λ height.
    c.point_or_short.ensures ∙ ap (λ (l : List OutPoint). unwrap_or (fault_behind (keys_of c.args.base.now.coins.entries ++ keys_of c.args.own.now.coins.entries) l) Memory) (c.first_point.ensures height)
