-- What is wrong with the form of a value, by what the value is and not by how it is read.
use Rattle.std.specs.Prelude.{ℕ, ◌≡◌, ◌≢◌, ◌≤◌, ◌⊎◌, ◌↔◌, List, [], ◌∷◌, length, reverse, Some, Result, Err}
use Rattle.fund_base.specs.declared.outpoint.OutPoint.{OutPoint}
use Rattle.json_fields.specs.Rules.{HasMembers, AreKnown, HasAll, IsFirstMissing, IsLeastUnknown, IsHexString, IsCoinText, IsFirstRefused}
use Rattle.json_fields.specs.declared.fault.FieldFault.{FieldFault}
use Rattle.json_fields.specs.declared.fault.FieldFault.TheVariants.{Kind}
use Rattle.serde_json.specs.Data.{Data, array, number, object, string, unsigned, Members}
use Rattle.serde_json.specs.Find.{get}
use Rattle.serde_json.specs.View.{items_of}

-- ---- which fault a value gets

-- A value gets this fault, with a name, exactly where this holds of the value and the name.
abbrev pub IsToldWhere : {A E : Type 0} → (Data → Result A E) → (List ℕ → E) → (Data → List ℕ → Type 0) → Type 0
IsToldWhere reading fault holds = (d : Data) (name : List ℕ) → (reading d ≡ Err (fault name)) ↔ holds d name

-- It gets one fault alone, that its kind is wrong, by this name, exactly where this holds of it.
abbrev pub IsWrongWhere : {A : Type 0} → List ℕ → (Data → Result A FieldFault) → (Data → Type 0) → Type 0
IsWrongWhere name reading holds = (d : Data) (fault : FieldFault) → (reading d ≡ Err fault) ↔ ((fault ≡ Kind name) × holds d)

-- ---- a value by itself

-- the value is no object
abbrev pub IsNoObject : Data → Type 0
IsNoObject d = (ms : Members) → d ≢ object ms

-- it is no list
abbrev pub IsNoList : Data → Type 0
IsNoList d = (ds : List Data) → d ≢ array (items_of ds)

-- it is no whole number up to the greatest
abbrev pub IsNoNumber : ℕ → Data → Type 0
IsNoNumber most d = (n : ℕ) → n ≤ most → d ≢ number (unsigned n)

-- it spells no bytes in hex
abbrev pub IsNoHex : Data → Type 0
IsNoHex d = (bytes : List ℕ) → ¬ IsHexString d bytes

-- it spells these 32 bytes in hex, the last byte first, as TXIDs and block hashes are shown
pub record IsHashString (d : Data) (hash : List ℕ) : Type 0 where
  pub len : length hash ≡ 32
  pub spelled : IsHexString d (reverse hash)

-- it spells no hash
abbrev pub IsNoHash : Data → Type 0
IsNoHash d = (hash : List ℕ) → ¬ IsHashString d hash

-- it is a text of this coin
abbrev pub IsCoinString : Data → OutPoint → Type 0
IsCoinString d coin = (text : List ℕ) × (d ≡ string text) × IsCoinText text coin

-- it is a text of no coin
abbrev pub IsNoCoin : Data → Type 0
IsNoCoin d = (coin : OutPoint) → ¬ IsCoinString d coin

-- ---- an object of a member that hex spells, and one that is a whole number

-- an object of these members, each of them there
abbrev pub HasExactly : List (List ℕ) → Data → Type 0
HasExactly names d = HasMembers d (λ ms. AreKnown names ms × HasAll names ms)

-- it is no object: it is told by the name of the whole
pub record IsWrongWhole (whole : List ℕ) (d : Data) (told : List ℕ) : Type 0 where
  pub named : told ≡ whole
  pub wrong : IsNoObject d

-- its first member spells no bytes
pub record IsMisspelled (first second : List ℕ) (d : Data) (told : List ℕ) : Type 0 where
  pub named : told ≡ first
  pub members : HasExactly (first ∷ second ∷ []) d
  pub value : Data
  pub stands : get first d ≡ Some value
  pub wrong : IsNoHex value

-- its first member spells bytes, and its second is no whole number up to the greatest
pub record IsMiscounted (first second : List ℕ) (most : ℕ) (d : Data) (told : List ℕ) : Type 0 where
  pub named : told ≡ second
  pub members : HasExactly (first ∷ second ∷ []) d
  pub bytes : List ℕ
  pub spelled : (x : Data) × (get first d ≡ Some x) × IsHexString x bytes
  pub value : Data
  pub stands : get second d ≡ Some value
  pub wrong : IsNoNumber most value

-- which value of such an object is of the wrong kind: the whole, the first member, or the second
abbrev pub IsWrongKind : (whole first second : List ℕ) → ℕ → Data → List ℕ → Type 0
IsWrongKind whole first second most d told =
    IsWrongWhole whole d told ⊎ (IsMisspelled first second d told ⊎ IsMiscounted first second most d told)

-- of its members this is the least by bytes that isn't known
abbrev pub HasUnknown : (known : List (List ℕ)) → Data → List ℕ → Type 0
HasUnknown known d name = HasMembers d (λ ms. IsLeastUnknown known ms name)

-- its members are known, and of the required ones it lacks this, the first in the order of its table
abbrev pub IsLacking : (known required : List (List ℕ)) → Data → List ℕ → Type 0
IsLacking known required d name = HasMembers d (λ ms. AreKnown known ms × IsFirstMissing required ms name)

-- ---- a list

-- It is no list, which is told by the list's name, or the fault is that of its first entry that is refused.
abbrev pub IsListFault : {A E : Type 0} → (FieldFault → E) → List ℕ → (List A → Data → Result A E) → Data → E → Type 0
IsListFault tell name reading d fault =
    ((fault ≡ tell (Kind name)) × IsNoList d)
    ⊎ ((ds : List Data) × (d ≡ array (items_of ds)) × IsFirstRefused reading ds fault)
