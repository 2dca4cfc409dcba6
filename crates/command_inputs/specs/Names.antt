-- The names of the files of a payment and of a job, without where they lie in memory.
use Rattle.std.specs.Borrow.{Bor}
use Rattle.std.specs.Prelude.{ℕ, List, Option, option_map}
use Rattle.command_inputs.specs.declared.names.Payment.{Payment as Lent}

-- the names of the files of a payment: what is asked for, and where the log is written
pub record Payment : Type 0 where
  pub request : List ℕ
  pub log : List ℕ

-- the names that are lent
abbrev pub plain_payment : Lent → Payment
plain_payment p = record { request = p.request.now; log = p.log.now }

-- the name of a job, where one is lent
abbrev pub plain_job : Option (Bor (List ℕ)) → Option (List ℕ)
plain_job job = option_map (λ name. name.now) job
