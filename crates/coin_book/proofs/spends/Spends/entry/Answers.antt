use Rattle.std.proofs.Common.{◌≡◌, ◌∙◌, ℕ, List, Option, Some, sym, ap}
use Rattle.std.specs.Prelude.{option_map, slice_get}
use Rattle.fund_base.specs.declared.outpoint.OutPoint.{OutPoint}
use Rattle.coin_book.specs.Places.{found_at, spends_in}
use Rattle.coin_book.specs.declared.coin.Spend.{Spend}
use Rattle.coin_book.proofs.PlaceSteps.{at_place, seen, shown_get}
use Rattle.coin_book.proofs.spends.Spends.entry.Goals as goal

pub returns : goal.returns
returns c =
    let all = c.self.inside.all.items in
    let places = c.self.inside.places.entries in
    let lists = c.self.inside.lists.entries in
    let p = c.in_ok-point.point.now in
    ap (λ (l : List Spend). Some (p, l))
    (c.at.ensures ∙ ap (λ (es : List (OutPoint × List Spend)). spends_in es p) (sym c.self.view_is) ∙ seen all places lists p ∙ ap (at_place all lists p) c.in_ok-point.ensures.value)
    ∙ ap (λ (e : Option (OutPoint × ℕ)). option_map (λ (e : OutPoint × ℕ). (e.0, found_at all lists e.0 e.1)) e) c.in_ok-point.ensures.entry
    ∙ sym (shown_get all places lists c.args.i)
    ∙ ap (λ (es : List (OutPoint × List Spend)). slice_get es c.args.i) c.self.view_is
