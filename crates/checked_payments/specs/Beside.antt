-- The files that a payment wrote, beside those of which it was made.
use Rattle.std.specs.Prelude.{ℕ, ◌≡◌, List, string_bytes}
use Rattle.command_inputs.specs.Names.{Payment}
use Rattle.request_making.specs.Written.{request_bytes}
use Rattle.pay_words.specs.declared.asked.Asked.{Asked}

-- The wallet and the blocks are as they were. The request of what is asked, this report and this log stand in files of these names.
pub record StandsFor (a : Asked) (files : List ℕ → List ℕ) (report log : List ℕ) (checked : List ℕ → List ℕ) (p : Payment) (name : List ℕ) : Type 0 where
  pub wallet : checked (string_bytes a.names.wallet) ≡ files (string_bytes a.names.wallet)
  pub blocks : checked (string_bytes a.names.blocks) ≡ files (string_bytes a.names.blocks)
  pub request_is : checked p.request ≡ request_bytes a.payments.items a.coins.items a.settings
  pub report_is : checked name ≡ report
  pub log_is : checked p.log ≡ log
