use Rattle.std.proofs.Common.{◌≡◌, ◌∙◌, Option, Some, None, sym, ap}
use Rattle.std.specs.Prelude.{option_map}
use Rattle.std.specs.Option.{option_copied, option_or}
use Rattle.tx_codec.specs.declared.tx.TxOut.{TxOut}
use Rattle.coin_book.specs.AtOutpoint.{coin_under}
use Rattle.coin_book.specs.declared.coin.Coin.{Coin}
use Rattle.known_fees.specs.Worth.{output_among, worth_of}
use Rattle.known_fees.proofs.worth.worth.Goals as goal

pub returns-in-Some : goal.returns-in-Some
unfolding worth_of
returns-in-Some c =
    let found : Some c.in-Some.coin.now ≡ coin_under c.args.book.now c.args.point.now = sym (ap option_copied c.in-Some.is) ∙ c.get.ensures in
    ap (λ (r : Option Coin). option_or (option_map (λ (c : Coin). c.value) r) (option_map (λ (x : TxOut). x.value) (output_among c.args.txs.now c.args.point.now))) found

pub returns-in-None : goal.returns-in-None
unfolding worth_of
returns-in-None c =
    let none : None ≡ coin_under c.args.book.now c.args.point.now = sym (ap option_copied c.in-None.is) ∙ c.get.ensures in
    c.output_worth.ensures
    ∙ ap (λ (r : Option Coin). option_or (option_map (λ (c : Coin). c.value) r) (option_map (λ (x : TxOut). x.value) (output_among c.args.txs.now c.args.point.now))) none
