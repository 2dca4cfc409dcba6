use Rattle.std.proofs.Common.{◌≡◌, ◌∙◌, ap, length, subst, sym}
use Rattle.std.specs.Prelude.{IfOk, OnErr, ◌<◌, map}
use Rattle.tx_codec.specs.Transaction.{Transaction}
use Rattle.tx_codec.specs.Txid.{txid_of}
use Rattle.coin_book.specs.Coins.{made_in}
use Rattle.coin_book.specs.Invariant.{held_made, weigher}
use Rattle.coin_book.proofs.making.held_in.Goals as goal

pub shared_in-requires : goal.shared_in-requires
shared_in-requires c =
    let same : c.in-Some.maker.now.value ≡ c.args.tx.now = rw c.in-Some.is at c.requires.shared in
    c.requires.txid ∙ ap txid_of (sym same)

pub returns-in-Some-clause-made : goal.returns-in-Some-clause-made
returns-in-Some-clause-made c =
    let same : c.in-Some.maker.now.value ≡ c.args.tx.now = rw c.in-Some.is at c.requires.shared in
    subst (λ (t : Transaction). IfOk c.shared_in.result (λ v. map held_made v.items ≡ made_in (weigher c.args.weights.now.entries) c.args.height t)) same c.shared_in.ensures.made

pub returns-in-Some-clause-short : goal.returns-in-Some-clause-short
returns-in-Some-clause-short c =
    let same : c.in-Some.maker.now.value ≡ c.args.tx.now = rw c.in-Some.is at c.requires.shared in
    subst (λ (t : Transaction). OnErr c.shared_in.result (0 < length (made_in (weigher c.args.weights.now.entries) c.args.height t))) same c.shared_in.ensures.short
