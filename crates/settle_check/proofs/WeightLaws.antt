-- What an input weighs in either form.
use Rattle.std.proofs.Common.{◌≡◌, ◌+◌, ◌*◌, ◌-◌, ◌^◌, ◌∙◌, ◌<◌, ℕ, Bool, true, false, List, length, get_or, min, ap, arith}
use Rattle.std.specs.Prelude.{Some, slice_get}
use Rattle.fund_base.specs.CompactSize.{prefixed}
use Rattle.tx_codec.specs.declared.tx.TxIn.{TxIn}
use Rattle.tx_codec.specs.Transaction.{Transaction}
use Rattle.tx_codec.specs.TransactionText.{stack_text}
use Rattle.settle_check.specs.Settled.{true_weight_of}
use Rattle.settle_check.proofs.FirstLaws.{stands}

pub segregated_weight : (segwit : Bool) (i : TxIn) (n : ℕ) → segwit ≡ true → n ≡ min (4 * (40 + length (prefixed i.script)) + length (stack_text i)) (2 ^ 64 - 1) → n ≡ true_weight_of segwit i
unfolding true_weight_of
segregated_weight true i n on is = is
segregated_weight false i n on is = absurd cc

pub legacy_weight : (segwit : Bool) (i : TxIn) (n : ℕ) → segwit ≡ false → n ≡ min (4 * (40 + length (prefixed i.script))) (2 ^ 64 - 1) → n ≡ true_weight_of segwit i
unfolding true_weight_of
legacy_weight true i n off is = absurd cc
legacy_weight false i n off is = omega (arith, is)

-- what is read of a transaction's inputs, and what was reckoned of it
pub read_input : (t : Transaction) (own : List TxIn) (segwit : Bool) (i weight : ℕ) (x : TxIn) → own ≡ t.inputs → segwit ≡ t.segwit → i < length t.inputs → x ≡ get_or own i x → weight ≡ true_weight_of segwit x
    → (slice_get t.inputs i ≡ Some x) × (weight ≡ true_weight_of t.segwit x)
read_input t own segwit i weight x same form lt is weighs =
    let here : x ≡ get_or t.inputs i x = is ∙ ap (λ (l : List TxIn). get_or l i x) same in
    (stands t.inputs i x lt here, weighs ∙ ap (λ (b : Bool). true_weight_of b x) form)
