-- How the request of a chain ends is how the files end.
use Rattle.std.specs.Prelude.{ℕ, List, All, Contains}
use Rattle.std.proofs.Common.{subst, ◌∙◌}
use Rattle.std.proofs.lemmas.List.Elements.{All-contains, All-weaker}
use Rattle.block_feed.specs.Block.{ChainBlock}
use Rattle.coin_candidates.specs.declared.candidate.Candidate.{Candidate}
use Rattle.payment_states.specs.Makers.{HasMaker}
use Rattle.request_text.specs.PlainRequest.{PlainRequest}
use Rattle.wallet_text.specs.PlainWallet.{PlainWallet}
use Rattle.fund_files.specs.Chain.{chain_from}
use Rattle.fund_files.specs.declared.chain.Chain.{Chain}
use Rattle.command_end.specs.Names.{Sources}
use Rattle.command_inputs.specs.Names.{Payment}
use Rattle.command_sweep.proofs.OutcomeLaws.{inputs_due}
use Rattle.command_sweep.specs.Endings.{IsConcluded, IsEnded, IsPaid, IsUnpaid}
use Rattle.command_sweep.specs.Inputs.{AreAsked, AreInputs}
use Rattle.command_sweep.specs.Results.{IsNotSwept, IsSwept}
use Rattle.command_sweep.specs.declared.ending.Ending.{Ending}
use Rattle.command_sweep.specs.declared.ending.Ending.TheVariants as endings

-- coins among those whose transactions a book has
pub made_among : (k : Chain) (all coins : List Candidate) → All (HasMaker k.book) all → All (Contains all) coins → All (HasMaker k.book) coins
made_among k all coins made from = All-weaker (Contains all) (HasMaker k.book) (λ c there. All-contains (HasMaker k.book) all c made there) coins from

module _ (told : Type 0) (files : List ℕ → List ℕ) (s : Sources) (p : Payment) (w : PlainWallet) (blocks : List ChainBlock) (r : PlainRequest) (inputs : told → AreInputs files s p w blocks r) where
  abbrev k : Chain
  k = chain_from w blocks

  paid_on : (report : List ℕ) → IsPaid k r report → IsSwept told files s p report
  paid_on report h = record {
    wallet = w;
    blocks = blocks;
    asked = r;
    coins = h.coins;
    amount = h.amount;
    inputs = inputs;
    sweeps = h.sweeps;
    psbt = h.text.psbt;
    shows = h.text.shows;
    fit = h.text.fit;
    reports = h.text.reports;
    comes_to = λ t. inputs_due files s p w blocks r (inputs t) ∙ h.due;
  }

  unpaid_on : (report : List ℕ) → IsUnpaid k r report → IsNotSwept told files s p report
  unpaid_on report h = record {
    wallet = w;
    blocks = blocks;
    asked = r;
    inputs = inputs;
    short = h.short;
    reports = h.reports;
    told = h.told;
    comes_to = λ t. inputs_due files s p w blocks r (inputs t) ∙ h.due;
  }

  ended_on : (e : Ending) → IsConcluded k r e → IsEnded told files s p e
  ended_on (endings.NoSelection report) h = unpaid_on report.items h
  ended_on (endings.Swept report) h = paid_on report.items h

-- a request of a chain that was read
pub held_ends : (told : Type 0) (files : List ℕ → List ℕ) (s : Sources) (p : Payment) (k : Chain) (r : PlainRequest) (e : Ending) → AreAsked told files s p k r → IsConcluded k r e → IsEnded told files s p e
held_ends told files s p k r e h c = ended_on told files s p k.wallet h.held.blocks r h.inputs e (subst (λ (x : Chain). IsConcluded x r e) h.held.is c)
