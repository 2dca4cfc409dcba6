-- Faults with their names as bytes, and what a call on a whole file tells.
use Rattle.std.specs.Prelude.{◌≡◌, ◌≢◌, string_bytes, Result, Ok, Err}
use Rattle.fund_base.specs.Parsing.{YieldsAll}
use Rattle.segwit_addr.specs.declared.fault.AddrFault.TheVariants.{Memory as AddrMemory}
use Rattle.json_fields.specs.declared.fault.FieldFault.TheVariants as given
use Rattle.request_text.specs.PlainRequest.{PlainRequest}
use Rattle.request_text.specs.declared.fault.Refusal.{Refusal}
use Rattle.request_text.specs.declared.fault.Refusal.TheVariants as plain
use Rattle.request_text.specs.declared.fault.RequestFault.{RequestFault}
use Rattle.request_text.specs.declared.fault.RequestFault.TheVariants.{NotJson, Kind, Member, Missing, Address, Script, AmountRange, Dust, SumRange, NoRecipients, RateRange, TriesRange, Repeat, Memory}

-- a fault with the name of a member as bytes
abbrev pub plain_fault : RequestFault → Refusal
plain_fault NotJson = plain.Field given.NotJson
plain_fault (Kind name) = plain.Field (given.Kind name)
plain_fault (Member name) = plain.Field (given.Member (string_bytes name))
plain_fault (Missing name) = plain.Field (given.Missing name)
plain_fault (Address index fault) = plain.Address index fault
plain_fault (Script index) = plain.Script index
plain_fault (AmountRange index) = plain.AmountRange index
plain_fault (Dust index) = plain.Dust index
plain_fault SumRange = plain.SumRange
plain_fault NoRecipients = plain.NoRecipients
plain_fault (RateRange name) = plain.RateRange name
plain_fault TriesRange = plain.TriesRange
plain_fault (Repeat index) = plain.Repeat index
plain_fault Memory = plain.Field given.Memory

-- What a call returned is what reading gives, unless memory ran out.
abbrev pub Reads : Result PlainRequest RequestFault → Result PlainRequest Refusal → Type 0
Reads (Ok request) reading = reading ≡ Ok request
Reads (Err fault) reading = plain_fault fault ≢ plain.Field given.Memory → reading ≡ Err (plain_fault fault)

-- an address's fault has a cause other than out of memory
abbrev pub HasCause : Refusal → Type 0
HasCause (plain.Field fault) = Unit {0}
HasCause (plain.Address index fault) = fault ≢ AddrMemory
HasCause (plain.Script index) = Unit {0}
HasCause (plain.AmountRange index) = Unit {0}
HasCause (plain.Dust index) = Unit {0}
HasCause plain.SumRange = Unit {0}
HasCause plain.NoRecipients = Unit {0}
HasCause (plain.RateRange name) = Unit {0}
HasCause plain.TriesRange = Unit {0}
HasCause (plain.Repeat index) = Unit {0}

-- What a part of the reading returned, seen by view, is what reading gives, unless memory ran out.
abbrev pub Gives : {X Y : Type 0} → (X → Y) → Result X Refusal → Result Y Refusal → Type 0
Gives view result reading = YieldsAll (plain.Field given.Memory) view result reading
