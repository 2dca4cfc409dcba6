-- Files hold one chain and one request.
use Rattle.std.proofs.Common.{◌≡◌, ℕ, List, Result, Ok}
use Rattle.block_feed.specs.Block.{ChainBlock}
use Rattle.request_text.specs.PlainRequest.{PlainRequest}
use Rattle.wallet_text.specs.PlainWallet.{PlainWallet}
use Rattle.fund_files.proofs.ChainLaws.{asked_held, chain_held}
use Rattle.fund_files.specs.Cause.{FileCause}
use Rattle.fund_files.specs.Chain.{chain_from}
use Rattle.fund_files.specs.Outcome.{asked_of, chain_of}
use Rattle.fund_files.specs.declared.chain.Chain.{Chain}
use Rattle.command_end.specs.Names.{Sources}
use Rattle.command_inputs.specs.Inputs.{AreInputs}
use Rattle.command_inputs.specs.Names.{Payment}

same_held : (a b : Chain) (x : Result Chain FileCause) → x ≡ Ok a → x ≡ Ok b → a ≡ b
same_held a b x e f = cc

same_request : (a b : PlainRequest) (x : Result PlainRequest FileCause) → x ≡ Ok a → x ≡ Ok b → a ≡ b
same_request a b x e f = cc

module _ (files : List ℕ → List ℕ) (s : Sources) (p : Payment) (v w : PlainWallet) (us bs : List ChainBlock) (q r : PlainRequest) (h : AreInputs files s p v us q) (k : AreInputs files s p w bs r) where
  pub one_held : chain_from v us ≡ chain_from w bs
  one_held = same_held (chain_from v us) (chain_from w bs) (chain_of (files s.wallet) (files s.blocks)) (chain_held (files s.wallet) (files s.blocks) v us h.chain) (chain_held (files s.wallet) (files s.blocks) w bs k.chain)

  pub one_request : q ≡ r
  one_request = same_request q r (asked_of (files p.request)) (asked_held (files p.request) q h.request) (asked_held (files p.request) r k.request)
