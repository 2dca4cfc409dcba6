use Rattle.std.proofs.Common.{◌≡◌, ◌&&◌, not, filter}
use Rattle.std.specs.Prelude.{bytes_eq}
use Rattle.indexmap.specs.IndexSet.{contains}
use Rattle.fund_base.specs.Outpoints.{same_outpoint}
use Rattle.coin_candidates.specs.declared.candidate.Candidate.{Candidate}
use Rattle.fee_bump.proofs.bump.added.Given as goal

abbrev pub invariant-loop-coin : goal.invariant-loop-coin
invariant-loop-coin l = l.added.items ≡ filter (λ (c : Candidate). not (contains same_outpoint l.points c.coin) && not (contains bytes_eq l.gone c.coin.txid)) l.yielded
