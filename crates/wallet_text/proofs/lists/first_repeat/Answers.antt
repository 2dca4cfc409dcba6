use Rattle.std.proofs.Common.{ℕ, Ok, Option, ap, arith, rules}
use Rattle.wallet_text.proofs.Orders.{repeat_found, repeat_step, repeat_none}
use Rattle.wallet_text.proofs.lists.first_repeat.Goals as goal

pub returns-then-not-branch : goal.returns-then-not-branch
returns-then-not-branch c =
    ap (λ (o : Option ℕ). Ok o) (repeat_found c.args.txids.now c.loop-index.index c.index-txids-index.result c.index-txids-index.result c.loop-index.seen.keys c.in_ok-insert.field-0 _ (omega arith) c.index-txids-index.is c.loop-index.invariant.seen
    c.in_ok-insert.ensures.added (search rules) c.loop-index.invariant.read)

pub loop-index-preserved : goal.loop-index-preserved
loop-index-preserved c =
    let s = repeat_step c.args.txids.now c.loop-index.index c.index-txids-index.result c.index-txids-index.result c.loop-index.seen.keys c.insert.new.self.keys c.in_ok-insert.field-0 _ (omega arith) c.index-txids-index.is c.loop-index.invariant.seen
    c.in_ok-insert.ensures.added (search rules) c.in_ok-insert.ensures.keys c.loop-index.invariant.read in
    record { seen = s.0; read = s.1; room = omega (arith, c.loop-index.invariant.room, c.insert.ensures.spare) }

pub returns : goal.returns
returns c = ap (λ (o : Option ℕ). Ok o) (repeat_none c.args.txids.now c.loop-index.index _ (omega arith) c.loop-index.invariant.read)
