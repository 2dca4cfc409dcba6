use Rattle.std.proofs.Common.{◌∙◌, ◌||◌, ◌<◌, Bool, true, cond, take, get_or, sym, ap, arith, true≢false}
use Rattle.std.specs.Prelude.{bytes_eq}
use Rattle.std.proofs.lemmas.List.Folds.{list_any_more}
use Rattle.indexmap.specs.IndexSet.{contains, spare}
use Rattle.tx_codec.specs.declared.tx.TxIn.{TxIn}
use Rattle.desk_chain.specs.PendingTxids.{has_parent}
use Rattle.fund_files.proofs.SetLaws.{join, none_more}
use Rattle.desk_chain.proofs.pending_txids.add_parents.Goals as goal

pub loop-input-init : goal.loop-input-init
loop-input-init c = record { added = λ txid. none_more (contains bytes_eq c.args.set.now txid); room = λ h. omega (arith, h) }

pub loop-input-preserved : goal.loop-input-preserved
loop-input-preserved c = record {
  added = λ txid.
      let p : TxIn → Bool = λ i. bytes_eq i.prev.txid txid in
      let xs = c.args.inputs.now in
      let i = c.loop-input.input-index in
      let old = contains bytes_eq c.args.set.now txid in
      c.in_ok-insert.ensures.updates.0 txid
      ∙ (λ k. cond (ap p c.input-item.is k) true (c.loop-input.invariant.added txid k))
      ∙ join (p (get_or xs i c.input-item.result)) old (has_parent txid (take i xs))
      ∙ ap (λ b. old || b) (sym (list_any_more p xs i c.input-item.result c.loop-input-test.true));
  room = λ h. let r = c.loop-input.invariant.room h in omega (arith, r, c.insert.ensures.spare);
}

pub returns-in_err-insert-clause-succeeds : goal.returns-in_err-insert-clause-succeeds
returns-in_err-insert-clause-succeeds c = λ h.
    let r = c.loop-input.invariant.room h in
    let some : 0 < spare c.loop-input.set = omega (arith, r, c.loop-input-test.true) in
    absurd (true≢false (sym (c.in_err-insert.ensures.succeeds some)))
