-- How the request of a chain ends is how the files end.
use Rattle.std.specs.Prelude.{ℕ, List}
use Rattle.std.proofs.Common.{subst, ◌∙◌}
use Rattle.block_feed.specs.Block.{ChainBlock}
use Rattle.request_text.specs.PlainRequest.{PlainRequest}
use Rattle.wallet_text.specs.PlainWallet.{PlainWallet}
use Rattle.fund_files.specs.Chain.{chain_from}
use Rattle.fund_files.specs.declared.chain.Chain.{Chain}
use Rattle.command_end.specs.Names.{Sources}
use Rattle.command_inputs.specs.Names.{Payment}
use Rattle.command_share.proofs.OutcomeLaws.{inputs_due}
use Rattle.command_share.specs.Endings.{IsConcluded, IsEnded, IsNoneEnd, IsOpenEnd, IsPaidEnd}
use Rattle.command_share.specs.Inputs.{AreAsked, AreInputs}
use Rattle.command_share.specs.Results.{IsNotShared, IsShared, IsUnfinished}
use Rattle.command_share.specs.declared.ending.Ending.{Ending}
use Rattle.command_share.specs.declared.ending.Ending.TheVariants as endings

module _ (told : Type 0) (files : List ℕ → List ℕ) (s : Sources) (p : Payment) (w : PlainWallet) (blocks : List ChainBlock) (r : PlainRequest) (inputs : told → AreInputs files s p w blocks r) where
  abbrev k : Chain
  k = chain_from w blocks

  paid_on : (report log : List ℕ) → IsPaidEnd k r report log → IsShared told files s p report log
  paid_on report log h = record {
    wallet = w;
    blocks = blocks;
    asked = r;
    run = h.run;
    paying = h.paying;
    inputs = inputs;
    pays = h.pays;
    psbt = h.text.psbt;
    shows = h.text.shows;
    fit = h.text.fit;
    few = h.text.few;
    reports = h.text.reports;
    logs = h.logs;
    reads = h.reads;
    comes_to = λ t. inputs_due files s p w blocks r (inputs t) ∙ h.due;
  }

  none_on : (report log : List ℕ) → IsNoneEnd k r report log → IsNotShared told files s p report log
  none_on report log h = record {
    wallet = w;
    blocks = blocks;
    asked = r;
    run = h.run;
    inputs = inputs;
    none = h.none;
    reports = h.reports;
    told = h.told;
    logs = h.logs;
    reads = h.reads;
    comes_to = λ t. inputs_due files s p w blocks r (inputs t) ∙ h.due;
  }

  open_on : (report : List ℕ) → IsOpenEnd k r report → IsUnfinished told files s p report
  open_on report h = record {
    wallet = w;
    blocks = blocks;
    asked = r;
    run = h.run;
    number = h.number;
    inputs = inputs;
    left = h.left;
    reports = h.reports;
    told = h.told;
    comes_to = λ t. inputs_due files s p w blocks r (inputs t) ∙ h.due;
  }

  ended_on : (e : Ending) → IsConcluded k r e → IsEnded told files s p e
  ended_on (endings.Unfinished report) h = open_on report.items h
  ended_on (endings.NoSelection texts) h = none_on texts.report.items texts.log.items h
  ended_on (endings.Shared texts) h = paid_on texts.report.items texts.log.items h

-- a request of a chain that was read
pub held_ends : (told : Type 0) (files : List ℕ → List ℕ) (s : Sources) (p : Payment) (k : Chain) (r : PlainRequest) (e : Ending) → AreAsked told files s p k r → IsConcluded k r e → IsEnded told files s p e
held_ends told files s p k r e h c = ended_on told files s p k.wallet h.held.blocks r h.inputs e (subst (λ (x : Chain). IsConcluded x r e) h.held.is c)
