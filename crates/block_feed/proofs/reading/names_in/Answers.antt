use Rattle.std.proofs.Common.{◌≡◌, Ok, subst}
use Rattle.std.proofs.lemmas.Result.{err_from_is_err_and}
use Rattle.fund_base.specs.Cursor.{At, take_at}
use Rattle.block_feed.specs.declared.reading.BlockNames.{BlockNames}
use Rattle.block_feed.proofs.BlockLaws.{start}
use Rattle.block_feed.proofs.NameLaws.{held_names, held_uncounted, held_unlinked, held_yields, ok_named}
use Rattle.block_feed.proofs.reading.names_in.Goals as goal

pub returns-in-Some-clause-gives : goal.returns-in-Some-clause-gives
returns-in-Some-clause-gives c =
    let front : take_at 80 (start c.args.bytes.now) ≡ Ok (c.in-Ok.header.now, c.take.new.self) = subst (λ (at : At). take_at 80 at ≡ Ok (c.in-Ok.header.now, c.take.new.self)) c.new-cursor.ensures c.in-Ok.ensures.moves in
    λ _. held_unlinked c.args.previous.now c.args.height c.args.bytes.now c.in-Ok.header.now c.take.new.self c.in-Some.fault front c.in-Some.ensures.gives

pub returns-in_err-txids-clause-gives : goal.returns-in_err-txids-clause-gives
returns-in_err-txids-clause-gives c =
    let front : take_at 80 (start c.args.bytes.now) ≡ Ok (c.in-Ok.header.now, c.take.new.self) = subst (λ (at : At). take_at 80 at ≡ Ok (c.in-Ok.header.now, c.take.new.self)) c.new-cursor.ensures c.in-Ok.ensures.moves in
    let p = err_from_is_err_and c.from_residual.result c.from_residual.ensures.1 in
    rw (p.1, p.2) (λ other. held_uncounted c.args.previous.now c.args.height c.args.bytes.now c.in-Ok.header.now c.take.new.self _ front c.in-None.ensures.linked (c.in_err-txids.ensures.gives other))

pub returns-clause-gives : goal.returns-clause-gives
returns-clause-gives c =
    let front : take_at 80 (start c.args.bytes.now) ≡ Ok (c.in-Ok.header.now, c.take.new.self) = subst (λ (at : At). take_at 80 at ≡ Ok (c.in-Ok.header.now, c.take.new.self)) c.new-cursor.ensures c.in-Ok.ensures.moves in
    held_yields (λ (b : BlockNames). b.height) (λ (b : BlockNames). b.hash) c.args.previous.now c.args.height c.args.bytes.now c.in-Ok.header.now c.take.new.self c.in_ok-txids.txids.items c.sealed.result
    front c.in-None.ensures.linked c.in_ok-txids.ensures.gives c.sealed.ensures.gives c.sealed.ensures.height

pub returns-clause-txids : goal.returns-clause-txids
returns-clause-txids c =
    let front : take_at 80 (start c.args.bytes.now) ≡ Ok (c.in-Ok.header.now, c.take.new.self) = subst (λ (at : At). take_at 80 at ≡ Ok (c.in-Ok.header.now, c.take.new.self)) c.new-cursor.ensures c.in-Ok.ensures.moves in
    ok_named (λ (b : BlockNames). b.txids.items) c.in_ok-txids.txids.items _ c.sealed.result c.sealed.ensures.txids
    (held_names c.args.height c.args.bytes.now c.in-Ok.header.now c.take.new.self c.in_ok-txids.txids.items front c.in_ok-txids.ensures.gives)
