-- An entry of `scripts`, and `change`, by what it says and not by how it is read.
use Rattle.std.specs.Prelude.{ℕ, ◌≡◌, ◌≤◌, ◌<◌, ◌⊎◌, List, [], ◌∷◌, length, codes, Some}
use Rattle.json_fields.specs.Rules.{HasMembers, AreKnown, IsHexString}
use Rattle.serde_json.specs.Data.{Data, number, unsigned}
use Rattle.serde_json.specs.Find.{get}
use Rattle.wallet_text.specs.declared.wallet.Watch.{Watch}

-- an object of a script, which hex spells, and a weight, which is a whole number of 64 bits
pub record IsEntry (d : Data) (w : Watch) : Type 0 where
  pub members : HasMembers d (λ ms. AreKnown (codes "script" ∷ codes "weight" ∷ []) ms)
  pub spelled : (s : Data) × (get (codes "script") d ≡ Some s) × IsHexString s w.script
  pub weighed : get (codes "weight") d ≡ Some (number (unsigned w.weight))
  pub most : w.weight ≤ 18_446_744_073_709_551_615

-- the length isn't that of a script: it is 0 or above 10,000
abbrev pub IsNoScript : List ℕ → Type 0
IsNoScript script = (length script ≡ 0) ⊎ (10_000 < length script)

-- the weight isn't one that an input can have
abbrev pub IsNoWeight : ℕ → Type 0
IsNoWeight weight = (weight < 165) ⊎ (400_000 < weight)
