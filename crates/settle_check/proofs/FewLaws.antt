-- A transaction within the weight limit has few inputs.
use Rattle.std.proofs.Common.{◌≡◌, ◌+◌, ◌*◌, ◌≤◌, ℕ, zero, suc, List, [], ◌∷◌, length, refl, arith, length-append}
use Rattle.std.specs.Prelude.{slice_get, sum_by, Some}
use Rattle.std.specs.List.{flat_map}
use Rattle.std.proofs.lemmas.List.Concat.{length-flat_map}
use Rattle.std.proofs.lemmas.List.Sums.{sum_by-cons}
use Rattle.fund_base.specs.CompactSize.{compact}
use Rattle.tx_codec.specs.declared.tx.TxIn.{TxIn}
use Rattle.tx_codec.specs.Transaction.{Transaction}
use Rattle.tx_codec.specs.TransactionText.{InputFits, IsTransaction, bare_text, input_text}
use Rattle.tx_codec.specs.Weight.{weight_of}
use Rattle.settle_check.proofs.FirstLaws.{read_all}

-- where each is at least so much, all together are
pub least_sum : {X : Type 0} (f : X → ℕ) (m : ℕ) (xs : List X) → ((k : ℕ) (x : X) → slice_get xs k ≡ Some x → m ≤ f x) → length xs * m ≤ sum_by f xs
least_sum f m [] each = omega arith
least_sum f m (x ∷ xs) each =
    let one : m ≤ f x = each zero x refl in
    let more : length xs * m ≤ sum_by f xs = least_sum f m xs (λ k y e. each (suc k) y e) in
    let split : sum_by f (x ∷ xs) ≡ f x + sum_by f xs = sum_by-cons f x xs in
    omega arith

-- an input takes 41 bytes at least
input_least : (i : TxIn) → InputFits i → 41 ≤ length (input_text i)
unfolding input_text compact
input_least i fits = let h = fits.txid_len in grind (arith, length-append)

pub inputs_least : (inputs : List TxIn) → ((k : ℕ) (i : TxIn) → slice_get inputs k ≡ Some i → InputFits i) → length inputs * 41 ≤ length (flat_map input_text inputs)
inputs_least inputs fit =
    let sum = least_sum (λ (i : TxIn). length (input_text i)) 41 inputs (λ k i e. input_least i (fit k i e)) in
    omega (arith, length-flat_map input_text inputs)

-- the inputs' text is a part of the bare form
bare_more : (t : Transaction) → length (flat_map input_text t.inputs) ≤ length (bare_text t)
unfolding bare_text
bare_more t = grind (arith, length-append)

pub few_inputs : (t : Transaction) → IsTransaction t → weight_of t ≤ 400_000 → length t.inputs ≤ 4_000
unfolding weight_of
few_inputs t is light =
    let each = inputs_least t.inputs (λ k i e. read_all InputFits t.inputs k i is.inputs e) in
    let more = bare_more t in
    omega (arith, light, each, more)
