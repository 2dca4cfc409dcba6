-- The first field of a format that isn't as it must be, where the fields stand one after the other.
use Rattle.std.specs.Prelude.{ℕ, ◌≡◌, ◌≢◌, ◌+◌, ◌<◌, ◌⊎◌, List, [], ◌++◌, length}
use Rattle.fund_base.specs.CompactSize.{IsCut, IsLong}

-- The bytes, of which the first stands at this place, begin with a front of whole fields, behind which this field comes.
-- What stands there isn't such a field, which makes the fault.
pub record IsBroken {F E : Type 0} (Comes : List ℕ → F → Type 0) (Breaks : F → ℕ → List ℕ → E → Type 0) (start : ℕ) (bytes : List ℕ) (fault : E) : Type 0 where
  pub front : List ℕ
  pub behind : List ℕ
  pub parts : bytes ≡ front ++ behind
  pub field : F
  pub comes : Comes front field
  pub place : ℕ
  pub place_is : place ≡ start + length front
  pub breaks : Breaks field place behind fault

-- this field comes first, before any bytes
pub record IsFirst {F : Type 0} (first : F) (front : List ℕ) (field : F) : Type 0 where
  pub front_is : front ≡ []
  pub field_is : field ≡ first

-- The front begins with the text of something whole, and behind that come the fields that then come.
pub record FollowsWhole {X F : Type 0} (text : X → List ℕ) (Is : X → Type 0) (Then : X → List ℕ → F → Type 0) (front : List ℕ) (field : F) : Type 0 where
  pub whole : X
  pub inner : List ℕ
  pub is : Is whole
  pub parts : front ≡ text whole ++ inner
  pub comes : Then whole inner field

-- ---- fields that many formats have, and their faults

-- fewer bytes are left than the field has
pub record IsShort {E : Type 0} (truncated : ℕ → E) (size place : ℕ) (behind : List ℕ) (fault : E) : Type 0 where
  pub short : length behind < size
  pub is : fault ≡ truncated place

-- The bytes end within a spelling in CompactSize.
pub record IsCutSize {E : Type 0} (truncated : ℕ → E) (place : ℕ) (behind : List ℕ) (fault : E) : Type 0 where
  pub cut : IsCut behind
  pub is : fault ≡ truncated place

-- They begin with a spelling in CompactSize that isn't the shortest of its number.
pub record IsLongSize {E : Type 0} (long : ℕ → E) (place : ℕ) (behind : List ℕ) (fault : E) : Type 0 where
  pub spelled : IsLong behind
  pub is : fault ≡ long place

-- no number in CompactSize stands there
abbrev pub IsNoSize : {E : Type 0} → (truncated long : ℕ → E) → ℕ → List ℕ → E → Type 0
IsNoSize truncated long place behind fault = IsCutSize truncated place behind fault ⊎ IsLongSize long place behind fault

-- bytes are left
pub record IsMore {E : Type 0} (trailing : ℕ → E) (place : ℕ) (behind : List ℕ) (fault : E) : Type 0 where
  pub some : behind ≢ []
  pub is : fault ≡ trailing place
