use Rattle.std.proofs.Common.{rules, ◌∙◌, ap, sym, cond, Bool, length, arith, ◌<◌}
use Rattle.std.proofs.lemmas.Bool.{lt-ltb}
use Rattle.indexmap.proofs.CallerLemmas.{filter-RetainsPairs}
use Rattle.fund_base.specs.declared.outpoint.OutPoint.{OutPoint}
use Rattle.coin_book.specs.Merging.{staying, stays}
use Rattle.coin_book.specs.declared.held.Held.{Held}
use Rattle.coin_book.proofs.moving.settle.Goals as goal

pub returns-then-left-len : goal.returns-then-left-len
returns-then-left-len c =
    let n = c.len.ensures.len in
    let lt = c.if-left-len.true in
    let few : c.args.left < length c.args.pending.now.entries = omega arith in
    filter-RetainsPairs _ (λ (e : OutPoint × Held). stays c.args.heights.now.entries e.0) _ (λ k v b w g call. search rules) _ _ c.retain.ensures.filtered
    ∙ sym (ap (λ (b : Bool). cond b (staying c.args.heights.now.entries c.args.pending.now.entries) c.args.pending.now.entries) (lt-ltb c.args.left (length c.args.pending.now.entries) few))
