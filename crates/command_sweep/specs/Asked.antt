-- Which requests a sweep takes.
use Rattle.std.specs.Prelude.{ℕ, ◌≡◌, ◌&&◌, ◌==◌, Bool, List, [], length, is_none, None}
use Rattle.request_text.specs.PlainRequest.{PlainRequest}
use Rattle.command_inputs.specs.Names.{Payment}

-- A request with one recipient, which lists no coin and replaces no payment.
pub record IsForSweep (r : PlainRequest) : Type 0 where
  pub one : length r.recipients ≡ 1
  pub coins : r.coins ≡ []
  pub bump : r.bump ≡ None

-- the same as a test
abbrev pub is_for_sweep : PlainRequest → Bool
is_for_sweep r = (length r.recipients == 1) && (length r.coins == 0) && is_none r.bump

-- the names of the files of a sweep: what is asked for, and no log
abbrev pub asked_by : (request : List ℕ) → Payment
asked_by request = record { request = request; log = [] }
