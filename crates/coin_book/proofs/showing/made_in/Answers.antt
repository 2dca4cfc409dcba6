use Rattle.std.proofs.Common.{◌∙◌, ap, sym, Some}
use Rattle.std.specs.Map.{lookup}
use Rattle.std.specs.Option.{option_map}
use Rattle.fund_base.specs.Outpoints.{same_outpoint}
use Rattle.fund_base.specs.declared.outpoint.OutPoint.{OutPoint}
use Rattle.coin_book.specs.declared.held.Held.{Held}
use Rattle.coin_book.proofs.ShownCoins.{own_key}
use Rattle.coin_book.proofs.showing.made_in.Goals as goal

pub returns-clause-maker : goal.returns-clause-maker
returns-clause-maker c =
    let es = c.args.coins.now.entries in
    let held = c.in_ok-held.held.now in
    let key = own_key es c.args.i c.in_ok-held.field-0-0.now held c.requires (sym c.in_ok-held.ensures.entry) in
    ap (λ (p : OutPoint). option_map (λ (h : Held). h.maker.value) (lookup (same_outpoint p) es)) (sym key)
    ∙ ap (option_map (λ (h : Held). h.maker.value)) c.in_ok-held.ensures.value
    ∙ ap Some (sym c.as_ref.ensures)
