use Rattle.std.proofs.Common.{◌≡◌, ◌∙◌, List, sym, ap, subst}
use Rattle.std.specs.List.{IsDistinct}
use Rattle.std.specs.Map.{keys_of}
use Rattle.fund_base.specs.Outpoints.{same_outpoint}
use Rattle.fund_base.specs.declared.outpoint.OutPoint.{OutPoint}
use Rattle.coin_book.specs.declared.coin.Spend.{Spend}
use Rattle.coin_book.proofs.PlaceSteps.{keys_shown}
use Rattle.coin_book.proofs.spends.Spends.len.Goals as goal

pub returns-clause-apart : goal.returns-clause-apart
returns-clause-apart c =
    subst (IsDistinct same_outpoint) (sym (keys_shown c.self.inside.all.items c.self.inside.places.entries c.self.inside.lists.entries) ∙ ap (λ (es : List (OutPoint × List Spend)). keys_of es) c.self.view_is) c.len.ensures.unique
