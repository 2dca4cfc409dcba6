-- The three scripts of a workload, and the weights that inputs which spend them are declared to have.
use Rattle.std.specs.Prelude.{ℕ, zero, suc, List, [], ◌∷◌, ◌++◌, replicate}
use Rattle.wallet_text.specs.declared.wallet.Watch.{Watch}
use Rattle.command_work.specs.declared.kind.Kind.{Kind}
use Rattle.command_work.specs.declared.kind.Kind.TheVariants.{WitnessKeyHash, Taproot, KeyHash}

-- the kind that a remainder by three stands for
abbrev pub kind_of : ℕ → Kind
kind_of zero = WitnessKeyHash
kind_of (suc zero) = Taproot
kind_of (suc (suc n)) = KeyHash

-- a kind's script: a witness program of version 0 with twenty bytes 11, one of version 1 with 32 bytes 22, and a payment
-- to the hash of a public key, twenty bytes 33 (all in hex)
unfoldable pub script_of : Kind → List ℕ
script_of WitnessKeyHash = 0 ∷ 20 ∷ replicate 20 17
script_of Taproot = 81 ∷ 32 ∷ replicate 32 34
script_of KeyHash = 118 ∷ 169 ∷ 20 ∷ (replicate 20 51 ++ 136 ∷ 172 ∷ [])

-- the weight of an input that spends it, in weight units
abbrev pub weight_of : Kind → ℕ
weight_of WitnessKeyHash = 272
weight_of Taproot = 230
weight_of KeyHash = 593

-- the entry of a wallet
abbrev pub watch_of : Kind → Watch
watch_of kind = record { script = script_of kind; weight = weight_of kind }

-- all three, in order
abbrev pub watches : List Watch
watches = watch_of WitnessKeyHash ∷ watch_of Taproot ∷ watch_of KeyHash ∷ []
