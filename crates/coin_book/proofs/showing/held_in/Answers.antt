use Rattle.std.proofs.Common.{◌≡◌, ap, List, [], sym}
use Rattle.std.specs.Map.{lookup}
use Rattle.std.specs.Option.{option_map}
use Rattle.std.proofs.lemmas.List.{nil_from_length}
use Rattle.fund_base.specs.Outpoints.{same_outpoint}
use Rattle.fund_base.specs.declared.outpoint.OutPoint.{OutPoint}
use Rattle.coin_book.specs.declared.held.Held.{Held}
use Rattle.coin_book.proofs.showing.held_in.Goals as goal

pub returns-then-is_empty : goal.returns-then-is_empty
returns-then-is_empty c =
    let none : c.args.coins.now.entries ≡ [] = nil_from_length c.args.coins.now.entries (c.is_empty.ensures.0 c.if-is_empty.true) in
    ap (λ (es : List (OutPoint × Held)). option_map (λ (h : Held). h.coin) (lookup (same_outpoint c.args.coin.now) es)) (sym none)
