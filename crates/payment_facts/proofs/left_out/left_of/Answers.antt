use Rattle.std.proofs.Common.{◌≡◌, ◌∙◌, ◌++◌, not, Bool, cond, List, [], ◌∷◌, Vec, Global, sym, ap}
use Rattle.std.specs.Prelude.{bytes_eq}
use Rattle.std.proofs.lemmas.List.{append-nil}
use Rattle.std.proofs.lemmas.List.Elements.{filter_more}
use Rattle.indexmap.specs.IndexSet.{contains}
use Rattle.tx_codec.specs.Transaction.{Transaction}
use Rattle.tx_codec.specs.Txid.{txid_of}
use Rattle.payment_facts.proofs.left_out.left_of.Goals as goal
use Rattle.payment_facts.proofs.left_out.left_of.Goals.{then-not-contains+in_ok-copy+in_ok-push, else-not-contains}

pub loop-tx-preserved : goal.loop-tx-preserved
loop-tx-preserved c =
    let x : Transaction = c.tx-item.result in
    let old : List Transaction = c.loop-tx.left.items in
    let p : Transaction → Bool = λ t. not (contains bytes_eq c.args.gone.now (txid_of t)) in
    let told : c.contains.result ≡ contains bytes_eq c.args.gone.now (txid_of x) = c.contains.ensures ∙ ap (contains bytes_eq c.args.gone.now) c.txid.ensures in
    let more : c.if-not-contains.left.items ≡ old ++ cond (p x) (x ∷ []) [] =
    elim c.if-not-contains.branch [
      | then-not-contains+in_ok-copy+in_ok-push w ↦ ap (λ (v : Vec Transaction Global). v.items) w.left-is ∙ w.in_ok-push.ensures.items ∙ ap (λ (t : Transaction). old ++ t ∷ []) w.in_ok-copy.ensures ∙ ap (λ b. old ++ cond b (x ∷ []) []) (sym (ap not (sym told ∙ w.if-not-contains.true)))
      | else-not-contains w ↦ ap (λ (v : Vec Transaction Global). v.items) w.left-is ∙ sym (append-nil old) ∙ ap (λ b. old ++ cond b (x ∷ []) []) (sym (ap not (sym told ∙ w.if-not-contains.false)))
    ]
    in
    more
    ∙ (λ k. c.loop-tx.invariant k ++ cond (p (c.tx-item.is k)) (c.tx-item.is k ∷ []) [])
    ∙ sym (filter_more p c.args.txs.now c.loop-tx.tx-index x c.loop-tx-test.true)
