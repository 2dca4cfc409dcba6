-- Which faults of a wallet file are of an entry's form.
use Rattle.std.specs.Prelude.{ℕ, ◌≡◌, ◌⊎◌, List, Result}
use Rattle.tx_codec.specs.declared.fault.TxFault.{TxFault}
use Rattle.json_fields.specs.declared.fault.FieldFault.{FieldFault}
use Rattle.json_fields.specs.declared.fault.FieldFault.TheVariants.{Kind, Member, Missing}
use Rattle.serde_json.specs.Data.{Data}
use Rattle.wallet_text.specs.declared.fault.Refusal.{Refusal}
use Rattle.wallet_text.specs.declared.fault.Refusal.TheVariants.{Field, Script, Weight, Tx}
use Rattle.entry_laws.specs.Forms.{IsToldWhere}

-- An entry gets this fault of its form, with a name, exactly where this holds of the entry and the name.
abbrev pub IsFormWhere : {A : Type 0} → (Data → Result A Refusal) → (List ℕ → FieldFault) → (Data → List ℕ → Type 0) → Type 0
IsFormWhere reading fault holds = IsToldWhere reading (λ name. Field (fault name)) holds

-- a value of the wrong kind, an unknown member, or one that is missing
abbrev pub IsFormFault : Refusal → Type 0
IsFormFault fault = (name : List ℕ) × ((fault ≡ Field (Kind name)) ⊎ ((fault ≡ Field (Member name)) ⊎ (fault ≡ Field (Missing name))))

-- the fault of a script or of a weight, by an index
abbrev pub IsWatchFault : Refusal → Type 0
IsWatchFault fault = (told : ℕ) × ((fault ≡ Script told) ⊎ (fault ≡ Weight told))

-- the fault of a transaction, by its list and its index
abbrev pub IsOfTx : Refusal → Type 0
IsOfTx fault = (list : List ℕ) × (told : ℕ) × (cause : TxFault) × (fault ≡ Tx list told cause)
