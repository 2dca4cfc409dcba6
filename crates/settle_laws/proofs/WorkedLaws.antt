-- The worked payment.
use Rattle.std.proofs.Common.{◌≡◌, ◌∙◌, ◌≤◌, ℕ, zero, suc, true, List, [], ◌∷◌, refl, sym, ap, arith}
use Rattle.std.specs.Prelude.{replicate}
use Rattle.std.proofs.lemmas.List.Elements.{All-cons, All-nil}
use Rattle.std.proofs.lemmas.Option.{same_Some}
use Rattle.fee_rates.specs.Fee.{fee_of, vsize_of}
use Rattle.fund_base.specs.CompactSize.{compact}
use Rattle.settle_check.specs.Broken.{IsFirstHeavier, IsFirstUnsigned, IsHeavierBy, IsSettleFault}
use Rattle.settle_check.specs.Settled.{AreSigned, AreWithin, IsSamePayment, IsUnsigned, Settles, needed_of, true_weight_of}
use Rattle.settle_check.specs.declared.fault.SettleFault.TheVariants.{Heavier, Unsigned}
use Rattle.tx_codec.specs.TransactionText.{bare_text, input_text, output_text, segregated_text, stack_text}
use Rattle.tx_codec.specs.Weight.{weight_of}
use Rattle.tx_codec.specs.declared.tx.TxIn.{TxIn}
use Rattle.settle_laws.specs.Worked.{worked_declared, worked_input, worked_payment, worked_signed, worked_spent}

abbrev witness_of : ℕ → List (List ℕ)
witness_of size = replicate size 48 ∷ replicate 33 2 ∷ []

pub weight71 : weight_of (worked_signed 71) ≡ 437
unfolding weight_of bare_text segregated_text input_text output_text stack_text compact
weight71 = refl

pub weight72 : weight_of (worked_signed 72) ≡ 438
unfolding weight_of bare_text segregated_text input_text output_text stack_text compact
weight72 = refl

pub vsize437 : vsize_of 437 ≡ 110
unfolding vsize_of
vsize437 = refl

pub vsize438 : vsize_of 438 ≡ 110
unfolding vsize_of
vsize438 = refl

fee110 : fee_of 10_000 110 ≡ 1_100
unfolding fee_of
fee110 = refl

pub true71 : true_weight_of true (worked_input (witness_of 71)) ≡ 271
unfolding true_weight_of stack_text compact
true71 = refl

pub true72 : true_weight_of true (worked_input (witness_of 72)) ≡ 272
unfolding true_weight_of stack_text compact
true72 = refl

pub true73 : true_weight_of true (worked_input (witness_of 73)) ≡ 273
unfolding true_weight_of stack_text compact
true73 = refl

-- ---- the payment

same : (size : ℕ) → IsSamePayment worked_payment (worked_signed size)
same size = record { version = refl; locktime = refl; inputs = refl; outputs = refl }

signed : (size : ℕ) → AreSigned (worked_signed size).inputs
signed size = All-cons (λ (i : TxIn). IsUnsigned i → ⊥) (worked_input (witness_of size)) [] (λ h. let e = h.1 in absurd cc) (All-nil (λ (i : TxIn). IsUnsigned i → ⊥))

within : (size w : ℕ) → true_weight_of true (worked_input (witness_of size)) ≡ w → w ≤ 272 → AreWithin worked_declared (worked_signed size)
within size w weighs le zero most i told there =
    let one : 272 ≡ most = same_Some 272 most told in
    let input : worked_input (witness_of size) ≡ i = same_Some (worked_input (witness_of size)) i there in
    let same_weight : true_weight_of true i ≡ w = ap (λ (x : TxIn). true_weight_of true x) (sym input) ∙ weighs in
    omega (arith, one, same_weight, le)
within size w weighs le (suc k) most i told there = absurd cc

settles : (size w weight : ℕ) → true_weight_of true (worked_input (witness_of size)) ≡ w → w ≤ 272 → weight_of (worked_signed size) ≡ weight → weight ≤ 400_000 → vsize_of weight ≡ 110 → Settles worked_payment worked_spent worked_declared (worked_signed size) 10_000
settles size w weight weighs le total light virtual =
    let needed : needed_of 10_000 (worked_signed size) ≡ 1_100 = ap (λ (n : ℕ). fee_of 10_000 (vsize_of n)) total ∙ ap (fee_of 10_000) virtual ∙ fee110 in
    record { same = same size; all_signed = signed size; within = within size w weighs le; weight = omega (arith, total, light); pays = omega (arith, needed) }

pub settles71 : Settles worked_payment worked_spent worked_declared (worked_signed 71) 10_000
settles71 = settles 71 271 437 true71 (omega arith) weight71 (omega arith) vsize437

pub settles72 : Settles worked_payment worked_spent worked_declared (worked_signed 72) 10_000
settles72 = settles 72 272 438 true72 (omega arith) weight72 (omega arith) vsize438

pub heavier73 : IsSettleFault worked_payment worked_spent worked_declared (worked_signed 73) 10_000 (Heavier 0 272 273)
heavier73 =
    let much : IsHeavierBy worked_declared (worked_signed 73) 0 272 273 = record { input = worked_input (witness_of 73); told = refl; stands = refl; weighs = sym true73; more = omega arith } in
    let first : IsFirstHeavier worked_declared (worked_signed 73) 0 272 273 = record { place = 0; first = record { holds = (272, 273, much); least = λ m there. omega arith }; index_is = refl; by_so_much = much } in
    (same 73, signed 73, first)

pub unsigned0 : IsSettleFault worked_payment worked_spent worked_declared worked_payment 10_000 (Unsigned 0)
unsigned0 =
    let first : IsFirstUnsigned worked_payment.inputs 0 = record { place = 0; first = record { holds = (worked_input [], refl, (refl, refl)); least = λ m there. omega arith }; index_is = refl } in
    (record { version = refl; locktime = refl; inputs = refl; outputs = refl }, first)
