-- What each recipient bears of a sum, and what it is left with, in satoshi.
use Rattle.std.specs.Prelude.{ℕ, ◌≡◌, ◌<◌, ◌≤◌, ◌+◌, ◌-◌, ◌/◌, ◌%◌, ◌==◌, List, [], ◌∷◌, length, map, sum, slice_index, if◌then◌else◌}
use Rattle.psbt_codec.specs.Fault.{shown}
use Rattle.fee_sharing.specs.declared.fault.ShareFault.{ShareFault}
use Rattle.fee_sharing.specs.declared.fault.ShareFault.TheVariants.{ShareDust, Memory}

-- What the recipient at a place bears of a sum that so many recipients bear: an equal part in whole satoshi, and the first
-- one what is left over besides.
abbrev pub share_of : (borne count place : ℕ) → ℕ
share_of borne count place = borne / count + (if place == 0 then borne % count else 0)

-- the amount at a place is below its share and its dust threshold together
abbrev pub FallsShort : (borne : ℕ) (amounts dusts : List ℕ) (place : ℕ) → Type 0
FallsShort borne amounts dusts k = slice_index amounts k < share_of borne (length amounts) k + slice_index dusts k

-- it is the first such
pub record IsFirstShort (borne : ℕ) (amounts dusts : List ℕ) (place : ℕ) : Type 0 where
  pub within : place < length amounts
  pub short : FallsShort borne amounts dusts place
  pub before : (k : ℕ) → k < place → FallsShort borne amounts dusts k → ⊥

-- an index shows the first such, as a fault gives indices
pub record IsFirstShortAt (borne : ℕ) (amounts dusts : List ℕ) (index : ℕ) : Type 0 where
  pub place : ℕ
  pub first : IsFirstShort borne amounts dusts place
  pub index_is : index ≡ shown place

-- no amount does
abbrev pub AllReach : (borne : ℕ) (amounts dusts : List ℕ) → Type 0
AllReach borne amounts dusts = (k : ℕ) → k < length amounts → FallsShort borne amounts dusts k → ⊥

-- What is left of amounts: each less its share, which is no less than its dust threshold. What they lost together is what
-- is borne.
pub record AreLeft (borne : ℕ) (amounts dusts left : List ℕ) : Type 0 where
  pub count : length left ≡ length amounts
  pub each : (k : ℕ) → k < length amounts → slice_index left k + share_of borne (length amounts) k ≡ slice_index amounts k
  pub dust : (k : ℕ) → k < length amounts → slice_index dusts k ≤ slice_index left k
  pub together : sum left + borne ≡ sum amounts

-- The same, worked out: the first amount less an equal part and what is left over, the others less an equal part.
abbrev pub less_parts : (part over : ℕ) → List ℕ → List ℕ
less_parts part over [] = []
less_parts part over (first ∷ others) = (first - (part + over)) ∷ map (λ n. n - part) others

unfoldable pub left_of : (borne : ℕ) (amounts : List ℕ) → List ℕ
left_of borne amounts = less_parts (borne / length amounts) (borne % length amounts) amounts

-- Why there are no shares. The first amount that is below its share and its dust threshold together is told by its index.
-- Where memory is short, no amount is.
abbrev pub IsShareFault : (borne : ℕ) (amounts dusts : List ℕ) → ShareFault → Type 0
IsShareFault borne amounts dusts (ShareDust index) = IsFirstShortAt borne amounts dusts index
IsShareFault borne amounts dusts Memory = AllReach borne amounts dusts
