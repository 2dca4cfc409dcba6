-- An entry of `recipients`, and the whole list, by what they say and not by how they are read.
use Rattle.std.specs.Prelude.{ℕ, ◌≡◌, ◌≤◌, ◌<◌, ◌⊎◌, ◌↔◌, List, [], ◌∷◌, length, codes, Option, Some, Ok, Err}
use Rattle.std.specs.Result.{result_err}
use Rattle.json_fields.specs.Fields.{object_at, text_at, hex_at, number_at}
use Rattle.json_fields.specs.Rules.{HasMembers, AreKnown, AreRead, IsHexString, wrong}
use Rattle.json_fields.specs.declared.fault.FieldFault.{FieldFault}
use Rattle.segwit_addr.specs.Reading.{decode_of}
use Rattle.serde_json.specs.Data.{Data, array, string, number, unsigned}
use Rattle.serde_json.specs.Find.{get}
use Rattle.serde_json.specs.View.{items_of}
use Rattle.request_text.specs.RequestText.{one_of, entry_names, entry_required, index_of, recipient_behind}
use Rattle.request_text.specs.declared.fault.Refusal.{Refusal}
use Rattle.request_text.specs.declared.request.Recipient.{Recipient}

-- the member `amount` is this whole number of 64 bits
pub record HasAmount (d : Data) (amount : ℕ) : Type 0 where
  pub stands : get (codes "amount") d ≡ Some (number (unsigned amount))
  pub most : amount ≤ 18_446_744_073_709_551_615

-- an object of a text, which is to be an address, and an amount
pub record IsToAddress (d : Data) (text : List ℕ) (amount : ℕ) : Type 0 where
  pub members : HasMembers d (λ ms. AreKnown (codes "address" ∷ codes "amount" ∷ []) ms)
  pub address : get (codes "address") d ≡ Some (string text)
  pub money : HasAmount d amount

-- an object of a script, which hex spells, and an amount
pub record IsToScript (d : Data) (script : List ℕ) (amount : ℕ) : Type 0 where
  pub members : HasMembers d (λ ms. AreKnown (codes "script" ∷ codes "amount" ∷ []) ms)
  pub spelled : (s : Data) × (get (codes "script") d ≡ Some s) × IsHexString s script
  pub money : HasAmount d amount

-- the length isn't that of a script: it is 0 or above 10,000
abbrev pub IsNoScript : List ℕ → Type 0
IsNoScript script = (length script ≡ 0) ⊎ (10_000 < length script)

-- The entry names this amount for this script: that of its address, or one that it spells, of 1 to 10,000 bytes.
abbrev pub PaysTo : Data → List ℕ → ℕ → Type 0
PaysTo d script amount =
    ((text : List ℕ) × IsToAddress d text amount × (decode_of text ≡ Ok script))
    ⊎ (IsToScript d script amount × (¬ IsNoScript script))

-- The entry is an object of this form, of an address or a script and an amount, and this holds of the two.
abbrev pub IsEntryOf : (Data → List ℕ → ℕ → Type 0) → (List ℕ → ℕ → Type 0) → Data → Type 0
IsEntryOf form holds d = (words : List ℕ) × (amount : ℕ) × form d words amount × holds words amount

-- the entry is of neither form
abbrev pub IsNoEntry : Data → Type 0
IsNoEntry d = (text script : List ℕ) (amount : ℕ) → (¬ IsToAddress d text amount) × (¬ IsToScript d script amount)

-- An entry, whatever stands before it, is refused with this fault, which has its index, exactly where this holds of it.
abbrev pub IsRefusedWhere : (ℕ → Refusal) → (Data → Type 0) → Type 0
IsRefusedWhere fault holds =
    (before : List Recipient) (d : Data) (told : ℕ) → (recipient_behind before d ≡ Err (fault told)) ↔ ((told ≡ index_of (length before)) × holds d)

-- what is wrong with the form of an entry, in the order in which it is reported: not one of the two, no object of its
-- members, then each member by itself
abbrev pub form_faults : Data → List (Option FieldFault)
form_faults d =
    result_err (one_of (get (codes "address") d) (get (codes "script") d))
    ∷ result_err (object_at (codes "recipients") entry_names entry_required d)
    ∷ wrong (text_at (codes "address")) (get (codes "address") d)
    ∷ wrong (hex_at (codes "script")) (get (codes "script") d)
    ∷ wrong (number_at (codes "amount") 18_446_744_073_709_551_615) (get (codes "amount") d)
    ∷ []

-- the entries of a list are read as these recipients, one for each
abbrev pub AreRecipients : Data → List Recipient → Type 0
AreRecipients d recipients = (ds : List Data) × (d ≡ array (items_of ds)) × (length recipients ≡ length ds) × AreRead recipient_behind ds recipients
