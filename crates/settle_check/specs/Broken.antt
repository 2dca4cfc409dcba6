-- Why a signed transaction doesn't settle a payment: the first field of `Settles` that doesn't hold.
use Rattle.std.specs.Prelude.{ℕ, ℤ, pos, ◌≡◌, ◌≢◌, ◌+◌, ◌-ℤ◌, ◌≤◌, ◌<◌, ◌⊎◌, List, length, map, slice_get, Some}
use Rattle.fund_base.specs.Least.{IsLeast}
use Rattle.psbt_codec.specs.Fault.{shown}
use Rattle.tx_codec.specs.declared.tx.TxIn.{TxIn}
use Rattle.tx_codec.specs.declared.tx.TxOut.{TxOut}
use Rattle.tx_codec.specs.Transaction.{Transaction}
use Rattle.tx_codec.specs.Weight.{weight_of}
use Rattle.settle_check.specs.declared.fault.Differing.{Differing}
use Rattle.settle_check.specs.declared.fault.Differing.TheVariants.{Version, Locktime, Count, Input, Output}
use Rattle.settle_check.specs.declared.fault.SettleFault.{SettleFault}
use Rattle.settle_check.specs.declared.fault.SettleFault.TheVariants.{Report, NotFunded, Psbt, NoValue, Foreign, Differs, Unsigned, Heavier, TooHeavy, BelowRate}
use Rattle.settle_check.specs.Settled.{bare_input, true_weight_of, worth_of, needed_of, IsSamePayment, IsUnsigned, AreSigned, AreWithin}

-- ---- another payment

-- the first index at which the lists have another entry
pub record IsFirstOther {X : Type 0} (xs ys : List X) (index : ℕ) : Type 0 where
  pub place : ℕ
  pub first : IsLeast (λ k. slice_get xs k ≢ slice_get ys k) place
  pub index_is : index ≡ shown place

-- one version and one lock time
abbrev pub HasSameHead : Transaction → Transaction → Type 0
HasSameHead tx signed = (signed.version ≡ tx.version) × (signed.locktime ≡ tx.locktime)

-- and as many inputs and outputs
abbrev pub HasSameCounts : Transaction → Transaction → Type 0
HasSameCounts tx signed = HasSameHead tx signed × (length signed.inputs ≡ length tx.inputs) × (length signed.outputs ≡ length tx.outputs)

-- This is the first in which they are not the same payment, in this order: the version, the lock time, a count, an input and
-- an output.
abbrev pub IsDifference : Transaction → Transaction → Differing → Type 0
IsDifference tx signed Version = signed.version ≢ tx.version
IsDifference tx signed Locktime = (signed.version ≡ tx.version) × (signed.locktime ≢ tx.locktime)
IsDifference tx signed Count = HasSameHead tx signed × ((length signed.inputs ≢ length tx.inputs) ⊎ (length signed.outputs ≢ length tx.outputs))
IsDifference tx signed (Input index) = HasSameCounts tx signed × IsFirstOther (map bare_input signed.inputs) (map bare_input tx.inputs) index
IsDifference tx signed (Output index) =
    HasSameCounts tx signed × (map bare_input signed.inputs ≡ map bare_input tx.inputs) × IsFirstOther signed.outputs tx.outputs index

-- ---- an input that isn't signed, or is too heavy

-- the input at this index isn't signed
abbrev pub IsUnsignedAt : List TxIn → ℕ → Type 0
IsUnsignedAt inputs k = (i : TxIn) × (slice_get inputs k ≡ Some i) × IsUnsigned i

-- the first such index
pub record IsFirstUnsigned (inputs : List TxIn) (index : ℕ) : Type 0 where
  pub place : ℕ
  pub first : IsLeast (IsUnsignedAt inputs) place
  pub index_is : index ≡ shown place

-- the input at this index was declared to weigh the one and weighs the other, which is more
pub record IsHeavierBy (declared : List ℕ) (signed : Transaction) (k most weight : ℕ) : Type 0 where
  pub input : TxIn
  pub told : slice_get declared k ≡ Some most
  pub stands : slice_get signed.inputs k ≡ Some input
  pub weighs : weight ≡ true_weight_of signed.segwit input
  pub more : most < weight

abbrev pub IsHeavierAt : List ℕ → Transaction → ℕ → Type 0
IsHeavierAt declared signed k = (most : ℕ) × (weight : ℕ) × IsHeavierBy declared signed k most weight

-- the first such index, and both weights
pub record IsFirstHeavier (declared : List ℕ) (signed : Transaction) (index most weight : ℕ) : Type 0 where
  pub place : ℕ
  pub first : IsLeast (IsHeavierAt declared signed) place
  pub index_is : index ≡ shown place
  pub by_so_much : IsHeavierBy declared signed place most weight

-- ---- the fault

-- What the transaction needs at the rate is missing. The fee is what the spent outputs are worth less what it pays out, which
-- may be below 0.
pub record IsBelow (spent : List TxOut) (signed : Transaction) (rate : ℕ) (fee : ℤ) (needed : ℕ) : Type 0 where
  pub fee_is : fee ≡ pos (worth_of spent) -ℤ pos (worth_of signed.outputs)
  pub needed_is : needed ≡ needed_of rate signed
  pub short : worth_of spent < worth_of signed.outputs + needed

-- The first part of what settles that is broken, and how. The first five faults are of what a payment is read from, and are
-- none of these.
abbrev pub IsSettleFault : Transaction → List TxOut → List ℕ → Transaction → ℕ → SettleFault → Type 0
IsSettleFault tx spent declared signed rate (Report place) = ⊥
IsSettleFault tx spent declared signed rate NotFunded = ⊥
IsSettleFault tx spent declared signed rate (Psbt fault) = ⊥
IsSettleFault tx spent declared signed rate (NoValue index) = ⊥
IsSettleFault tx spent declared signed rate (Foreign index) = ⊥
IsSettleFault tx spent declared signed rate (Differs part) = IsDifference tx signed part
IsSettleFault tx spent declared signed rate (Unsigned index) = IsSamePayment tx signed × IsFirstUnsigned signed.inputs index
IsSettleFault tx spent declared signed rate (Heavier index most weight) = IsSamePayment tx signed × AreSigned signed.inputs × IsFirstHeavier declared signed index most weight
IsSettleFault tx spent declared signed rate (TooHeavy weight) =
    IsSamePayment tx signed × AreSigned signed.inputs × AreWithin declared signed × (weight ≡ weight_of signed) × (400_000 < weight)
IsSettleFault tx spent declared signed rate (BelowRate fee needed) =
    IsSamePayment tx signed × AreSigned signed.inputs × AreWithin declared signed × (weight_of signed ≤ 400_000) × IsBelow spent signed rate fee needed
