use Rattle.std.proofs.Common.{◌≡◌, ℕ, true, false, take_all, length, Some, Ok, [], ◌∷◌, ◌++◌, Option, sym, ap, ◌∙◌, subst, arith}
use Rattle.std.specs.List.{list_any, IsDistinct}
use Rattle.std.proofs.lemmas.Map.Made.{AllPairs-from_IsDistinct}
use Rattle.std.proofs.lemmas.Option.{none-some}
use Rattle.fund_base.proofs.OutpointLaws.{same_outpoint-Decides}
use Rattle.fund_base.specs.Outpoints.{same_outpoint}
use Rattle.request_text.specs.RequestText.{repeat_behind}
use Rattle.request_text.proofs.Repeats.{ends, found, goes_on, grown, none_yet, stays, taken, was_new, was_seen}
use Rattle.request_text.proofs.coins.first_repeat.Goals as goal

pub loop-coin-init : goal.loop-coin-init
loop-coin-init c = record {
  keys = c.requires.empty;
  read = ap (λ ks. repeat_behind ks c.args.coins.now) c.requires.empty;
  unique = none_yet c.args.seen.now.keys c.requires.empty;
  room = omega (arith, c.requires.room);
}

pub returns-then-not-branch-clause-exact : goal.returns-then-not-branch-clause-exact
returns-then-not-branch-clause-exact c =
    let seen : list_any (same_outpoint c.coin-item.result) c.loop-coin.seen.keys ≡ true = was_seen _ _ c.in_ok-insert.ensures.added c.if-not-branch.true in
    let same : c.insert.new.self.keys ≡ c.loop-coin.seen.keys = stays c.loop-coin.seen.keys c.insert.new.self.keys c.coin-item.result c.in_ok-insert.ensures.keys seen in
    ap (λ (o : Option ℕ). Ok o) (ap Some (c.len.ensures.len ∙ ap length same) ∙ found c.loop-coin.seen.keys c.args.coins.now c.loop-coin.coin-index c.coin-item.result _ c.loop-coin-test.true c.coin-item.is seen c.loop-coin.invariant.read)

pub returns-then-not-branch-clause-distinct : goal.returns-then-not-branch-clause-distinct
returns-then-not-branch-clause-distinct c none =
    let seen : list_any (same_outpoint c.coin-item.result) c.loop-coin.seen.keys ≡ true = was_seen _ _ c.in_ok-insert.ensures.added c.if-not-branch.true in
    absurd (none-some _ (sym none ∙ sym (found c.loop-coin.seen.keys c.args.coins.now c.loop-coin.coin-index c.coin-item.result _ c.loop-coin-test.true c.coin-item.is seen c.loop-coin.invariant.read)))

pub loop-coin-preserved : goal.loop-coin-preserved
loop-coin-preserved c =
    let is_new : list_any (same_outpoint c.coin-item.result) c.loop-coin.seen.keys ≡ false = was_new _ _ c.in_ok-insert.ensures.added c.if-not-branch.false in
    let last : c.insert.new.self.keys ≡ c.loop-coin.seen.keys ++ c.coin-item.result ∷ [] = grown c.loop-coin.seen.keys c.insert.new.self.keys c.coin-item.result c.in_ok-insert.ensures.keys is_new in
    record {
      keys = taken c.insert.new.self.keys c.args.coins.now c.loop-coin.coin-index c.coin-item.result c.loop-coin-test.true c.coin-item.is (last ∙ ap (λ ks. ks ++ c.coin-item.result ∷ []) c.loop-coin.invariant.keys);
      read = rw last (goes_on c.loop-coin.seen.keys c.args.coins.now c.loop-coin.coin-index c.coin-item.result _ c.loop-coin-test.true c.coin-item.is is_new c.loop-coin.invariant.read);
      unique = c.in_ok-insert.ensures.unique;
      room = omega (arith, c.loop-coin.invariant.room, c.insert.ensures.spare);
    }

pub returns-clause-exact : goal.returns-clause-exact
returns-clause-exact c = ap (λ (o : Option ℕ). Ok o) (ends c.loop-coin.seen.keys c.args.coins.now c.loop-coin.coin-index _ c.loop-coin-test.false c.loop-coin.invariant.read)

pub returns-clause-distinct : goal.returns-clause-distinct
returns-clause-distinct c none =
    AllPairs-from_IsDistinct same_outpoint-Decides c.args.coins.now (subst (IsDistinct same_outpoint) (c.loop-coin.invariant.keys ∙ take_all c.loop-coin.coin-index c.args.coins.now c.loop-coin-test.false) c.loop-coin.invariant.unique)
