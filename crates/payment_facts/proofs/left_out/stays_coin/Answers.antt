use Rattle.std.proofs.Common.{◌≡◌, ◌∙◌, ◌&&◌, Bool, Option, Some, None, not, sym, ap}
use Rattle.std.specs.Prelude.{bytes_eq, is_none, is_some}
use Rattle.std.specs.Option.{option_copied}
use Rattle.indexmap.specs.IndexSet.{contains}
use Rattle.coin_book.specs.AtOutpoint.{coin_under}
use Rattle.coin_book.specs.Spends.{height_of}
use Rattle.coin_book.specs.declared.coin.Coin.{Coin}
use Rattle.payment_facts.proofs.HeightSteps.{coin_is, coin_tells}
use Rattle.payment_facts.proofs.left_out.stays_coin.Goals as goal

pub returns-in-Some : goal.returns-in-Some
returns-in-Some c =
    let h = c.args.book.now in
    let o = c.args.point.now in
    let gone = contains bytes_eq c.args.gone.now o.txid in
    let found : Some c.in-Some.coin.now ≡ coin_under h o = sym (ap option_copied c.in-Some.is) ∙ c.get.ensures in
    ap not (c.is_left_out.ensures ∙ ap (λ (b : Bool). gone && b) (sym (coin_tells h o c.in-Some.coin.now (sym found))))
    ∙ ap (λ (b : Bool). b && not (gone && is_none (height_of h.confirmed o.txid))) (ap (λ (r : Option Coin). is_some r) found ∙ coin_is h o)

pub returns-in-None : goal.returns-in-None
returns-in-None c =
    let h = c.args.book.now in
    let o = c.args.point.now in
    let gone = contains bytes_eq c.args.gone.now o.txid in
    let found : None ≡ coin_under h o = sym (ap option_copied c.in-None.is) ∙ c.get.ensures in
    ap (λ (b : Bool). b && not (gone && is_none (height_of h.confirmed o.txid))) (ap (λ (r : Option Coin). is_some r) found ∙ coin_is h o)
