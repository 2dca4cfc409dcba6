-- For which payment a request is refused.
use Rattle.std.specs.Prelude.{ℕ, Option, Some, None, Result, Ok, Err}
use Rattle.request_text.specs.PlainRequest.{PlainRequest}
use Rattle.request_text.specs.declared.fault.Refusal.{Refusal}
use Rattle.request_text.specs.declared.fault.Refusal.TheVariants as refusals

-- the recipient that a fault is about: its address, its script or its amount
abbrev pub recipient_about : Refusal → Option ℕ
recipient_about (refusals.Address index fault) = Some index
recipient_about (refusals.Script index) = Some index
recipient_about (refusals.AmountRange index) = Some index
recipient_about (refusals.Dust index) = Some index
recipient_about _ = None

-- that of what is asked for, where it is no request
abbrev pub refused_in : Result PlainRequest Refusal → Option ℕ
refused_in (Ok request) = None
refused_in (Err fault) = recipient_about fault
