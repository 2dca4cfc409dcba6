-- Which coins may be spent now, each looked up at its outpoint.
use Rattle.std.specs.Prelude.{◌≡◌, false, Bool, List, Contains, length, map}
use Rattle.std.specs.Option.{option_map_or}
use Rattle.indexmap.specs.IndexSet.{contains}
use Rattle.coin_book.specs.AtOutpoint.{coin_under}
use Rattle.fund_base.specs.Outpoints.{same_outpoint}
use Rattle.coin_candidates.specs.declared.candidate.Candidate.{Candidate}
use Rattle.fund_base.specs.declared.outpoint.OutPoint.{OutPoint}
use Rattle.fund_files.specs.declared.chain.Chain.{Chain}
use Rattle.payment_states.specs.Candidates.{is_candidate, is_claimed, is_locked, is_pending}
use Rattle.payment_states.specs.Graph.{below}
use Rattle.payment_states.specs.Payments.{payments_of}
use Rattle.payment_states.specs.PendingView.{view_of}
use Rattle.fund_desk.specs.declared.ready.Known.{Known}

-- how the pending payments stand, which of them are Pending, and the outpoints that Pending ones spend and that are locked
pub record IsKnownOf (k : Chain) (known : Known) : Type 0 where
  pub states : known.states ≡ payments_of k.wallet k.book
  pub pending : known.pending.items ≡ map (is_pending (view_of k.wallet k.book)) (below (length k.wallet.pending))
  pub claimed : (o : OutPoint) → contains same_outpoint known.spoken.claimed o ≡ is_claimed (view_of k.wallet k.book) o
  pub locked : (o : OutPoint) → contains same_outpoint known.spoken.locked o ≡ is_locked k.wallet o

-- there is a coin at the outpoint, and it may be spent
abbrev pub is_ready : Chain → OutPoint → Bool
is_ready k o = option_map_or (is_candidate k.wallet k.book k.tip.height) (coin_under k.book o) false

-- at each outpoint there is one of these coins at most
abbrev pub IsOneAtEach : List Candidate → Type 0
IsOneAtEach coins = (a b : Candidate) → Contains coins a → Contains coins b → a.coin ≡ b.coin → a ≡ b
