use Rattle.std.proofs.Common.{◌≡◌, ◌∙◌, ap, List, [], sym}
use Rattle.std.specs.List.{list_any}
use Rattle.std.specs.Map.{keys_of}
use Rattle.std.proofs.lemmas.List.{nil_from_length}
use Rattle.std.proofs.lemmas.Map.Made.{is_some-lookup}
use Rattle.fund_base.specs.Outpoints.{same_outpoint}
use Rattle.fund_base.specs.declared.outpoint.OutPoint.{OutPoint}
use Rattle.coin_book.specs.declared.held.Held.{Held}
use Rattle.coin_book.proofs.ledger.is_there.Goals as goal

pub returns-then-is_empty : goal.returns-then-is_empty
returns-then-is_empty c =
    let none : c.args.coins.now.entries ≡ [] = nil_from_length c.args.coins.now.entries (c.is_empty.ensures.0 c.if-is_empty.true) in
    ap (λ (es : List (OutPoint × Held)). list_any (same_outpoint c.args.point.now) (keys_of es)) (sym none)

pub returns : goal.returns
returns c = c.contains_key.ensures ∙ is_some-lookup (same_outpoint c.args.point.now) c.args.coins.now.entries
