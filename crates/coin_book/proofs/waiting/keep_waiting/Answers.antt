use Rattle.std.proofs.Common.{◌∙◌, ◌++◌, ◌∷◌, [], Bool, cond, ap, arith}
use Rattle.std.specs.Prelude.{bytes_eq}
use Rattle.indexmap.specs.IndexSet.{insert_key}
use Rattle.coin_book.proofs.MergeSteps.{told_ok}
use Rattle.coin_book.proofs.PendingSteps.{waiting_more}
use Rattle.coin_book.proofs.waiting.keep_waiting.Goals as goal

pub returns-clause-waiting : goal.returns-clause-waiting
returns-clause-waiting c =
    let room = c.in_ok-reserve.ensures.ok in
    let pushed = c.push.ensures.items ∙ ap (λ (b : Bool). cond b (c.reserve.new.self.items ++ c.of.result ∷ []) c.reserve.new.self.items) (c.push.ensures.succeeds (omega arith)) in
    waiting_more c.args.tx.now c.args.waiting.now.items c.reserve.new.self.items c.push.new.self.items c.of.result c.of.ensures c.in_ok-reserve.ensures.items pushed

pub returns-clause-txids : goal.returns-clause-txids
returns-clause-txids c =
    let spare = c.in_ok-reserve-2.ensures.ok in
    told_ok c.insert.result (c.insert.ensures.succeeds (omega arith)) c.insert.ensures.keys ∙ (λ k. insert_key bytes_eq (c.in_ok-reserve-2.ensures.keys k) c.args.txid)
