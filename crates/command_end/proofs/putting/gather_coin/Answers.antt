use Rattle.std.proofs.Common.{List, ℕ, ◌∷◌, ◌++◌, subst}
use Rattle.std.specs.Fmt.{decimal}
use Rattle.command_end.specs.Coin.{shown_hash}
use Rattle.command_end.specs.Puts.{IsCut, IsGathered}
use Rattle.command_end.proofs.PutLaws.{coin_parts, gathered_on, lost_first, lost_later, on_err}
use Rattle.command_end.proofs.putting.gather_coin.Goals as goal

pub returns-in_err-gather_hash-clause-cut : goal.returns-in_err-gather_hash-clause-cut
returns-in_err-gather_hash-clause-cut g c = on_err _ _
    (subst (λ (bytes : List ℕ). IsCut g.O.Sink.tells (c.args.held.now.items ++ bytes) (g.O.Sink.view c.args.out.now) (g.O.Sink.view c.gather_hash.new.out)) (coin_parts c.args.word.now c.args.coin.now) (lost_first g.O.Sink.tells (c.args.word.now ++ shown_hash c.args.coin.now.txid) (58 ∷ decimal c.args.coin.now.index) c.args.held.now.items (g.O.Sink.view c.args.out.now) (g.O.Sink.view c.gather_hash.new.out) (rw c.bytes.ensures.value at c.in_err-gather_hash.ensures.cut)))

pub returns-in_err-gather_number-clause-cut : goal.returns-in_err-gather_number-clause-cut
returns-in_err-gather_number-clause-cut g c = on_err _ _
    (subst (λ (bytes : List ℕ). IsCut g.O.Sink.tells (c.args.held.now.items ++ bytes) (g.O.Sink.view c.args.out.now) (g.O.Sink.view c.gather_number.new.out)) (coin_parts c.args.word.now c.args.coin.now) (lost_later g.O.Sink.tells (c.args.word.now ++ shown_hash c.args.coin.now.txid) (58 ∷ decimal c.args.coin.now.index) c.args.held.now.items c.gather_hash.new.held.items (g.O.Sink.view c.args.out.now) (g.O.Sink.view c.gather_hash.new.out) (g.O.Sink.view c.gather_number.new.out) (rw c.bytes.ensures.value at c.in_ok-gather_hash.ensures.whole) (rw c.from.ensures at c.in_err-gather_number.ensures.cut)))

pub returns-clause-whole : goal.returns-clause-whole
returns-clause-whole g c =
    (subst (λ (bytes : List ℕ). IsGathered g.O.Sink.tells bytes c.args.held.now.items c.gather_number.new.held.items (g.O.Sink.view c.args.out.now) (g.O.Sink.view c.gather_number.new.out)) (coin_parts c.args.word.now c.args.coin.now) (gathered_on g.O.Sink.tells (c.args.word.now ++ shown_hash c.args.coin.now.txid) (58 ∷ decimal c.args.coin.now.index) c.args.held.now.items c.gather_hash.new.held.items c.gather_number.new.held.items (g.O.Sink.view c.args.out.now) (g.O.Sink.view c.gather_hash.new.out) (g.O.Sink.view c.gather_number.new.out) (rw c.bytes.ensures.value at c.in_ok-gather_hash.ensures.whole) (rw c.from.ensures at c.in_ok-gather_number.ensures.whole)))
