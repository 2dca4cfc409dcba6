use Rattle.std.proofs.Common.{◌∙◌, ap, sym, ◌||◌, Bool}
use Rattle.std.specs.List.{list_any}
use Rattle.std.specs.Map.{keys_of}
use Rattle.fund_base.specs.Outpoints.{same_outpoint}
use Rattle.coin_book.proofs.ledger.stands.Goals as goal

pub returns-then-is_there : goal.returns-then-is_there
returns-then-is_there c =
    c.if-is_there.true ∙ ap (λ (b : Bool). b || list_any (same_outpoint c.args.point.now) (keys_of c.args.coins.now.entries)) (sym c.if-is_there.true ∙ c.is_there.ensures)

pub returns-else-is_there : goal.returns-else-is_there
returns-else-is_there c =
    c.is_there-else-is_there.ensures
    ∙ ap (λ (b : Bool). b || list_any (same_outpoint c.args.point.now) (keys_of c.args.coins.now.entries)) (sym c.if-is_there.false ∙ c.is_there.ensures)
