use Rattle.std.specs.Prelude.{ℤ, pos, ◌-ℤ◌}
use Rattle.std.proofs.Common.{◌≡◌, ◌∙◌, ◌≤◌, ℕ, List, ap, arith, refl, subst, sym}
use Rattle.std.proofs.lemmas.Int.{ints}
use Rattle.fee_rates.specs.Fee.{fee_of, vsize_of}
use Rattle.tx_codec.specs.Transaction.{Transaction}
use Rattle.tx_codec.specs.declared.tx.TxIn.{TxIn}
use Rattle.tx_codec.specs.declared.tx.TxOut.{TxOut}
use Rattle.settle_check.specs.Broken.{IsFirstUnsigned}
use Rattle.settle_check.specs.Settled.{AreSigned, worth_of}
use Rattle.settle_check.specs.declared.fault.SettleFault.TheVariants.{BelowRate, Differs, Heavier, TooHeavy, Unsigned}
use Rattle.settle_check.proofs.FaultLaws.{below_by, renamed, same_count, settled_by, told_fault, told_none, unsettled}
use Rattle.settle_check.proofs.FewLaws.{few_inputs}
use Rattle.settle_check.proofs.judging.settle.Goals as goal
use mir.Syntax.{w64}
use mir.Val.{of_z, to_z}

-- a difference of amounts as it is passed on
passed : (z : ℤ) (a b : ℕ) → z ≡ pos a -ℤ pos b → a ≤ 9_000_000_000_000_000_000 → b ≤ 9_000_000_000_000_000_000 → to_z w64 (of_z w64 z) ≡ pos a -ℤ pos b
passed z a b is la lb = omega (arith, ints)

pub returns-in-Some-clause-settles : goal.returns-in-Some-clause-settles
returns-in-Some-clause-settles c =
    unsettled c.args.tx.now c.args.spent.now c.args.declared.now c.args.signed.now c.args.rate (Differs c.in-Some.part) c.in-Some.ensures

pub returns-in-Some-clause-refused : goal.returns-in-Some-clause-refused
returns-in-Some-clause-refused c =
    told_fault c.args.tx.now c.args.spent.now c.args.declared.now c.args.signed.now c.args.rate (Differs c.in-Some.part) c.in-Some.ensures

pub returns-in-Some-unsigned-clause-settles : goal.returns-in-Some-unsigned-clause-settles
returns-in-Some-unsigned-clause-settles c =
    let same = c.in_default.ensures in
    unsettled c.args.tx.now c.args.spent.now c.args.declared.now c.args.signed.now c.args.rate (Unsigned c.in-Some-unsigned.index) (same, subst (λ (l : List TxIn). IsFirstUnsigned l c.in-Some-unsigned.index) (c.deref.ensures.value ∙ ap (λ (t : Transaction). t.inputs) c.signed.view_is) c.in-Some-unsigned.ensures)

pub returns-in-Some-unsigned-clause-refused : goal.returns-in-Some-unsigned-clause-refused
returns-in-Some-unsigned-clause-refused c =
    let same = c.in_default.ensures in
    told_fault c.args.tx.now c.args.spent.now c.args.declared.now c.args.signed.now c.args.rate (Unsigned c.in-Some-unsigned.index) (same, subst (λ (l : List TxIn). IsFirstUnsigned l c.in-Some-unsigned.index) (c.deref.ensures.value ∙ ap (λ (t : Transaction). t.inputs) c.signed.view_is) c.in-Some-unsigned.ensures)

pub heavier-requires : goal.heavier-requires
heavier-requires c = c.requires.declared ∙ sym (same_count c.args.signed.now.inputs c.args.tx.now.inputs c.in_default.ensures.inputs)

pub returns-in-Some-heavier-clause-settles : goal.returns-in-Some-heavier-clause-settles
returns-in-Some-heavier-clause-settles c =
    let same = c.in_default.ensures in
    let signed = subst (λ (l : List TxIn). AreSigned l) (c.deref.ensures.value ∙ ap (λ (t : Transaction). t.inputs) c.signed.view_is) c.in_default-unsigned.ensures in
    unsettled c.args.tx.now c.args.spent.now c.args.declared.now c.args.signed.now c.args.rate (Heavier c.in-Some-heavier.index c.in-Some-heavier.most c.in-Some-heavier.weight) (same, signed, renamed c.args.declared.now c.args.signed.now _ _ _ c.in-Some-heavier.index c.in-Some-heavier.most c.in-Some-heavier.weight c.in-Some-heavier.ensures c.in-Some-heavier.index-is c.in-Some-heavier.most-is c.in-Some-heavier.weight-is)

pub returns-in-Some-heavier-clause-refused : goal.returns-in-Some-heavier-clause-refused
returns-in-Some-heavier-clause-refused c =
    let same = c.in_default.ensures in
    let signed = subst (λ (l : List TxIn). AreSigned l) (c.deref.ensures.value ∙ ap (λ (t : Transaction). t.inputs) c.signed.view_is) c.in_default-unsigned.ensures in
    told_fault c.args.tx.now c.args.spent.now c.args.declared.now c.args.signed.now c.args.rate (Heavier c.in-Some-heavier.index c.in-Some-heavier.most c.in-Some-heavier.weight) (same, signed, renamed c.args.declared.now c.args.signed.now _ _ _ c.in-Some-heavier.index c.in-Some-heavier.most c.in-Some-heavier.weight c.in-Some-heavier.ensures c.in-Some-heavier.index-is c.in-Some-heavier.most-is c.in-Some-heavier.weight-is)

pub returns-then-weight-gt-MAX_WEIGHT-clause-settles : goal.returns-then-weight-gt-MAX_WEIGHT-clause-settles
returns-then-weight-gt-MAX_WEIGHT-clause-settles c =
    let same = c.in_default.ensures in
    let signed = subst (λ (l : List TxIn). AreSigned l) (c.deref.ensures.value ∙ ap (λ (t : Transaction). t.inputs) c.signed.view_is) c.in_default-unsigned.ensures in
    let within = c.in_default-heavier.ensures in
    unsettled c.args.tx.now c.args.spent.now c.args.declared.now c.args.signed.now c.args.rate (TooHeavy c.weight-weight.result) (same, signed, within, c.weight-weight.ensures, omega (arith, c.if-weight-gt-MAX_WEIGHT.true))

pub returns-then-weight-gt-MAX_WEIGHT-clause-refused : goal.returns-then-weight-gt-MAX_WEIGHT-clause-refused
returns-then-weight-gt-MAX_WEIGHT-clause-refused c =
    let same = c.in_default.ensures in
    let signed = subst (λ (l : List TxIn). AreSigned l) (c.deref.ensures.value ∙ ap (λ (t : Transaction). t.inputs) c.signed.view_is) c.in_default-unsigned.ensures in
    let within = c.in_default-heavier.ensures in
    told_fault c.args.tx.now c.args.spent.now c.args.declared.now c.args.signed.now c.args.rate (TooHeavy c.weight-weight.result) (same, signed, within, c.weight-weight.ensures, omega (arith, c.if-weight-gt-MAX_WEIGHT.true))

pub fee-needed-requires-clause-size : goal.fee-needed-requires-clause-size
fee-needed-requires-clause-size c = omega (arith, c.vsize-vsize.ensures.most, c.if-weight-gt-MAX_WEIGHT.false)

pub worth_of-worth-requires : goal.worth_of-worth-requires
worth_of-worth-requires c =
    let few = few_inputs c.args.signed.now c.requires.text (omega (arith, c.weight-weight.ensures, c.if-weight-gt-MAX_WEIGHT.false)) in
    omega (arith, few, (c.requires.spent ∙ sym (same_count c.args.signed.now.inputs c.args.tx.now.inputs c.in_default.ensures.inputs)))

pub paid_by-paid-requires : goal.paid_by-paid-requires
paid_by-paid-requires c = subst (λ (l : List TxOut). worth_of l ≤ 2_100_000_000_000_000) (sym (c.deref-2.ensures.value ∙ ap (λ (t : Transaction). t.outputs) c.signed.view_is)) c.requires.text.money

pub overflow_add-paid : goal.overflow_add-paid
overflow_add-paid c =
    let most = subst (λ (l : List TxOut). worth_of l ≤ 2_100_000_000_000_000) (sym (c.deref-2.ensures.value ∙ ap (λ (t : Transaction). t.outputs) c.signed.view_is)) c.requires.text.money in
    omega (arith, most, c.paid_by-paid.ensures, c.fee-needed.ensures.most, c.vsize-vsize.ensures.most, c.if-weight-gt-MAX_WEIGHT.false)

pub less-requires-clause-worth : goal.less-requires-clause-worth
less-requires-clause-worth c = omega (arith, c.worth_of-worth.ensures.most)

pub less-requires-clause-paid : goal.less-requires-clause-paid
less-requires-clause-paid c =
    let most = subst (λ (l : List TxOut). worth_of l ≤ 2_100_000_000_000_000) (sym (c.deref-2.ensures.value ∙ ap (λ (t : Transaction). t.outputs) c.signed.view_is)) c.requires.text.money in
    omega (arith, most, c.paid_by-paid.ensures)

pub returns-then-worth-paid-clause-settles : goal.returns-then-worth-paid-clause-settles
returns-then-worth-paid-clause-settles c =
    let same = c.in_default.ensures in
    let signed = subst (λ (l : List TxIn). AreSigned l) (c.deref.ensures.value ∙ ap (λ (t : Transaction). t.inputs) c.signed.view_is) c.in_default-unsigned.ensures in
    let within = c.in_default-heavier.ensures in
    let most = subst (λ (l : List TxOut). worth_of l ≤ 2_100_000_000_000_000) (sym (c.deref-2.ensures.value ∙ ap (λ (t : Transaction). t.outputs) c.signed.view_is)) c.requires.text.money in
    let paid = c.paid_by-paid.ensures ∙ ap (λ (l : List TxOut). worth_of l) (c.deref-2.ensures.value ∙ ap (λ (t : Transaction). t.outputs) c.signed.view_is) in
    let needed = c.fee-needed.ensures.value ∙ ap (fee_of c.args.rate) (c.vsize-vsize.ensures.value ∙ ap vsize_of c.weight-weight.ensures) in
    let fee = passed c.less.result c.worth_of-worth.result c.paid_by-paid.result c.less.ensures (omega (arith, c.worth_of-worth.ensures.most)) (omega (arith, most, c.paid_by-paid.ensures)) in
    unsettled c.args.tx.now c.args.spent.now c.args.declared.now c.args.signed.now c.args.rate (BelowRate (to_z w64 (of_z w64 c.less.result)) c.fee-needed.result) (same, signed, within, omega (arith, c.weight-weight.ensures, c.if-weight-gt-MAX_WEIGHT.false), below_by c.args.spent.now c.args.signed.now c.args.rate c.worth_of-worth.result c.paid_by-paid.result c.fee-needed.result (to_z w64 (of_z w64 c.less.result)) fee c.worth_of-worth.ensures.value paid needed c.if-worth-paid.true)

pub returns-then-worth-paid-clause-refused : goal.returns-then-worth-paid-clause-refused
returns-then-worth-paid-clause-refused c =
    let same = c.in_default.ensures in
    let signed = subst (λ (l : List TxIn). AreSigned l) (c.deref.ensures.value ∙ ap (λ (t : Transaction). t.inputs) c.signed.view_is) c.in_default-unsigned.ensures in
    let within = c.in_default-heavier.ensures in
    let most = subst (λ (l : List TxOut). worth_of l ≤ 2_100_000_000_000_000) (sym (c.deref-2.ensures.value ∙ ap (λ (t : Transaction). t.outputs) c.signed.view_is)) c.requires.text.money in
    let paid = c.paid_by-paid.ensures ∙ ap (λ (l : List TxOut). worth_of l) (c.deref-2.ensures.value ∙ ap (λ (t : Transaction). t.outputs) c.signed.view_is) in
    let needed = c.fee-needed.ensures.value ∙ ap (fee_of c.args.rate) (c.vsize-vsize.ensures.value ∙ ap vsize_of c.weight-weight.ensures) in
    let fee = passed c.less.result c.worth_of-worth.result c.paid_by-paid.result c.less.ensures (omega (arith, c.worth_of-worth.ensures.most)) (omega (arith, most, c.paid_by-paid.ensures)) in
    told_fault c.args.tx.now c.args.spent.now c.args.declared.now c.args.signed.now c.args.rate (BelowRate (to_z w64 (of_z w64 c.less.result)) c.fee-needed.result) (same, signed, within, omega (arith, c.weight-weight.ensures, c.if-weight-gt-MAX_WEIGHT.false), below_by c.args.spent.now c.args.signed.now c.args.rate c.worth_of-worth.result c.paid_by-paid.result c.fee-needed.result (to_z w64 (of_z w64 c.less.result)) fee c.worth_of-worth.ensures.value paid needed c.if-worth-paid.true)

pub overflow_sub-result : goal.overflow_sub-result
overflow_sub-result c = omega (arith, c.if-worth-paid.false)

pub spare-requires-clause-count : goal.spare-requires-clause-count
spare-requires-clause-count c = c.requires.declared ∙ sym (same_count c.args.signed.now.inputs c.args.tx.now.inputs c.in_default.ensures.inputs)

pub spare-requires-clause-few : goal.spare-requires-clause-few
spare-requires-clause-few c =
    let few = few_inputs c.args.signed.now c.requires.text (omega (arith, c.weight-weight.ensures, c.if-weight-gt-MAX_WEIGHT.false)) in
    omega (arith, few, (c.requires.declared ∙ sym (same_count c.args.signed.now.inputs c.args.tx.now.inputs c.in_default.ensures.inputs)))

pub spare-requires-clause-within : goal.spare-requires-clause-within
spare-requires-clause-within c = c.in_default-heavier.ensures

pub returns-clause-settles : goal.returns-clause-settles
returns-clause-settles c =
    let same = c.in_default.ensures in
    let signed = subst (λ (l : List TxIn). AreSigned l) (c.deref.ensures.value ∙ ap (λ (t : Transaction). t.inputs) c.signed.view_is) c.in_default-unsigned.ensures in
    let within = c.in_default-heavier.ensures in
    let paid = c.paid_by-paid.ensures ∙ ap (λ (l : List TxOut). worth_of l) (c.deref-2.ensures.value ∙ ap (λ (t : Transaction). t.outputs) c.signed.view_is) in
    let needed = c.fee-needed.ensures.value ∙ ap (fee_of c.args.rate) (c.vsize-vsize.ensures.value ∙ ap vsize_of c.weight-weight.ensures) in
    let s = settled_by c.args.tx.now c.args.spent.now c.args.declared.now c.args.signed.now c.args.rate c.weight-weight.result c.worth_of-worth.result c.paid_by-paid.result c.fee-needed.result same signed within c.weight-weight.ensures (omega (arith, c.if-weight-gt-MAX_WEIGHT.false)) c.worth_of-worth.ensures.value paid needed c.if-worth-paid.false in
    (λ _. s, λ _. refl)

pub returns-clause-refused : goal.returns-clause-refused
returns-clause-refused c =
    let same = c.in_default.ensures in
    let signed = subst (λ (l : List TxIn). AreSigned l) (c.deref.ensures.value ∙ ap (λ (t : Transaction). t.inputs) c.signed.view_is) c.in_default-unsigned.ensures in
    let within = c.in_default-heavier.ensures in
    let paid = c.paid_by-paid.ensures ∙ ap (λ (l : List TxOut). worth_of l) (c.deref-2.ensures.value ∙ ap (λ (t : Transaction). t.outputs) c.signed.view_is) in
    let needed = c.fee-needed.ensures.value ∙ ap (fee_of c.args.rate) (c.vsize-vsize.ensures.value ∙ ap vsize_of c.weight-weight.ensures) in
    let s = settled_by c.args.tx.now c.args.spent.now c.args.declared.now c.args.signed.now c.args.rate c.weight-weight.result c.worth_of-worth.result c.paid_by-paid.result c.fee-needed.result same signed within c.weight-weight.ensures (omega (arith, c.if-weight-gt-MAX_WEIGHT.false)) c.worth_of-worth.ensures.value paid needed c.if-worth-paid.false in
    told_none c.args.tx.now c.args.spent.now c.args.declared.now c.args.signed.now c.args.rate _ s

pub returns-clause-vsize : goal.returns-clause-vsize
returns-clause-vsize c = c.vsize-vsize.ensures.value ∙ ap vsize_of c.weight-weight.ensures

pub returns-clause-fee : goal.returns-clause-fee
returns-clause-fee c =
    let paid = c.paid_by-paid.ensures ∙ ap (λ (l : List TxOut). worth_of l) (c.deref-2.ensures.value ∙ ap (λ (t : Transaction). t.outputs) c.signed.view_is) in
    omega (arith, paid, c.worth_of-worth.ensures.value, c.if-worth-paid.false)
