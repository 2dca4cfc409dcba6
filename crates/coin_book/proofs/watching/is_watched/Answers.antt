use Rattle.std.proofs.Common.{◌≡◌, ◌∙◌, Bool, sym, ap}
use Rattle.std.specs.List.{list_all}
use Rattle.tx_codec.specs.Transaction.{Transaction}
use Rattle.tx_codec.specs.declared.tx.TxIn.{TxIn}
use Rattle.coin_book.specs.Watched.{watches, watches_txid}
use Rattle.coin_book.proofs.AskedSteps.{all_seen, inputs_seen}
use Rattle.coin_book.proofs.watching.is_watched.Goals as goal

pub returns-then-has_txid-clause-yes : goal.returns-then-has_txid-clause-yes
returns-then-has_txid-clause-yes c = λ is.
    let w = c.args.watched.now in
    let seen : TxIn → Bool = λ i. watches w i.prev in
    let inputs : c.deref.result.now ≡ c.args.tx.now.inputs = c.deref.ensures.value ∙ ap (λ (t : Transaction). t.inputs) c.tx.view_is in
    record {
      txid = ap (watches_txid w) (sym c.requires) ∙ sym c.has_txid.ensures ∙ c.if-has_txid.true;
      inputs = inputs_seen w c.args.tx.now.inputs (sym (ap (list_all seen) inputs) ∙ sym c.inputs_watched.ensures ∙ is);
    }

pub returns-then-has_txid-clause-no : goal.returns-then-has_txid-clause-no
returns-then-has_txid-clause-no c = λ seen.
    let w = c.args.watched.now in
    let inputs : c.deref.result.now ≡ c.args.tx.now.inputs = c.deref.ensures.value ∙ ap (λ (t : Transaction). t.inputs) c.tx.view_is in
    c.inputs_watched.ensures ∙ ap (list_all (λ (i : TxIn). watches w i.prev)) inputs ∙ all_seen w c.args.tx.now.inputs seen.inputs
