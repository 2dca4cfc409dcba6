-- The whole of a PSBT: which field is the first that is broken.
use Rattle.std.proofs.Common.{◌≡◌, ◌+◌, ◌<◌, ◌^◌, ℕ, zero, suc, Bool, true, false, cond, List, [], ◌++◌, length, take, drop, All, Result, Ok, Err, refl, sym, ap, subst, ◌∙◌, arith, inl, inr}
use Rattle.std.specs.Prelude.{Option, Some, None, option_and_then, is_some, ◌⊎◌, ◌==◌, bytes_eq, Contains, ⊤}
use Rattle.std.specs.Int.{w32, to_le_bytes}
use Rattle.std.proofs.lemmas.Bool.{cases_Bool, both_ways, eqb-true, eqb-false, eq-eqb, ne_eqb, false_from_ne_true}
use Rattle.std.proofs.lemmas.List.{take-append-drop, take_at, drop_at}
use Rattle.std.proofs.lemmas.List.Elements.{All-contains, All-drop}
use Rattle.fund_base.specs.CompactSize.{compact}
use Rattle.fund_base.specs.Cursor.{At, IsBytes, after}
use Rattle.fund_base.specs.Parsing.{◌>>=◌, many_from}
use Rattle.fund_base.proofs.Laws.{guard_met, guard_ok, ok_is, Takes, Reads}
use Rattle.fund_base.proofs.Lists.{equal_bytes, same_bytes}
use Rattle.tx_codec.specs.declared.fault.TxFault.TheVariants as txs
use Rattle.tx_codec.specs.Transaction.{Transaction}
use Rattle.psbt_codec.specs.declared.counts.Counts.{Counts}
use Rattle.psbt_codec.specs.declared.fault.PsbtFault.{PsbtFault}
use Rattle.psbt_codec.specs.declared.fault.PsbtFault.TheVariants as faults
use Rattle.psbt_codec.specs.declared.pairs.Part.TheVariants.{Global}
use Rattle.psbt_codec.specs.declared.psbt.Versioned.{Versioned}
use Rattle.psbt_codec.specs.PartialTransaction.{PartialTransaction}
use Rattle.psbt_codec.specs.Psbt.{Pair, magic, map_text, typed, IsPair}
use Rattle.psbt_codec.specs.Reading.{start, value_of, unsigned_of, number32_in, count_in, needed, told_or, right_from, forms_at, counts_at, each_at, next_input_at, next_output_at, next_input_fields, next_output_fields, payment_of, whole_at, fields_at, version_of, in_version, behind_global, map_at, magic_at, maps_at, psbt_at, versioned_of, read_of}
use Rattle.psbt_codec.proofs.CountMeaning.{IsRight, right_value}
use Rattle.psbt_codec.proofs.Decoded.{number32_decodes, count_decodes}
use Rattle.psbt_codec.proofs.MapMeaning.{found_typed, missing_typed, value_there}
use Rattle.psbt_codec.proofs.Readable.{unversioned_err, unversioned_fails}
use Rattle.tx_laws.specs.Broken.{IsBroken, IsFirst}
use Rattle.tx_laws.proofs.Cuts.{end_in, end_told, end_given, guard_told, met_told}
use Rattle.tx_laws.proofs.Judged.{Judged, Either, first, judged_as, judged_is, or_none, then}
use Rattle.psbt_laws.specs.Fields.{Field, Breaks, meant, IsUnmarked, TellsOther, count_fault}
use Rattle.psbt_laws.specs.Fields.Field.{Magic, Version, Payment, Some as IsSome, End}
use Rattle.psbt_laws.specs.Order.{ArePairs, CountsThen, HasPayment, InputsCome, InputFieldsCome, IsNumber32, IsNumber64, MapThen, OutputsCome, OutputFieldsCome, PaymentThen, PsbtComes, TellsVersion, Tested, VersionThen}
use Rattle.psbt_laws.proofs.FieldMaps.{input_fields_judged, output_fields_judged}
use Rattle.psbt_laws.proofs.GlobalForms.{form_then, inputs_type, locktime_type, mixed_type, outputs_type, version_type}
use Rattle.psbt_laws.proofs.Keys.{decoded, some4}
use Rattle.psbt_laws.proofs.Pairs.{map_then_from}
use Rattle.psbt_laws.proofs.Payments.{held_again, held_by, inputs_judged, outputs_judged, payment_by, payment_given}
use Rattle.psbt_laws.proofs.Steps.{Tellings, known_then, needed_then, tested_then}

assoc : {A B C E : Type 0} (r : Result A E) (f : A → Result B E) (g : B → Result C E) → (r >>= λ x. (f x >>= g)) ≡ ((r >>= f) >>= g)
assoc (Ok x) f g = refl
assoc (Err d) f g = refl

abbrev ending : Versioned × At → Result Versioned PsbtFault
ending x = end_in faults.Trailing x.0 x.1

-- ---- version 0

-- what is read behind the unsigned transaction
abbrev behind_payment : Transaction → At → Result (PartialTransaction × At) PsbtFault
behind_payment tx at = each_at next_input_at [] tx.inputs at >>= λ spent. each_at next_output_at tt tx.outputs spent.1 >>= λ outputs. Ok (record { tx = tx; spent = spent.0 }, outputs.1)

abbrev finish : ℕ → PartialTransaction × At → Result Versioned PsbtFault
finish version read = in_version version read >>= ending

payment_judged : (tx : Transaction) (at : At) → IsBytes at.rest → Judged Breaks (InputsCome 0 tx.inputs (OutputsCome tx.outputs)) at (behind_payment tx at >>= finish 0)
payment_judged tx at fits =
    judged_is Breaks (InputsCome 0 tx.inputs (OutputsCome tx.outputs)) at _ _ (assoc (each_at next_input_at [] tx.inputs at) _ (finish 0))
    (inputs_judged tx.inputs [] (OutputsCome tx.outputs) at _ fits (λ spent a a_fits.
    judged_is Breaks (OutputsCome tx.outputs) a _ _ (assoc (each_at next_output_at tt tx.outputs a) (λ outputs. Ok (record { tx = tx; spent = spent }, outputs.1)) (finish 0))
    (outputs_judged tx.outputs a _ a_fits (λ b b_fits.
    let v : Versioned = record { version = 0; psbt = record { tx = tx; spent = spent } } in
    first Breaks End b _ (end_told faults.Trailing v b) (end_given faults.Trailing v b)))))

whole_judged : (pairs : List Pair) (at : At) → ArePairs Global pairs → IsBytes at.rest → Judged Breaks (PaymentThen pairs) at (whole_at pairs at >>= finish 0)
unfolding whole_at
whole_judged pairs at are fits =
    judged_is Breaks (PaymentThen pairs) at _ _ (assoc (unsigned_of (value_of 0 pairs)) (λ tx. behind_payment tx at) (finish 0))
    (known_then (Payment pairs) (HasPayment pairs) (λ tx. InputsCome 0 tx.inputs (OutputsCome tx.outputs)) at (unsigned_of (value_of 0 pairs)) _ fits (λ tx e. held_by pairs are (value_of 0 pairs) refl tx e) (held_again pairs are)
    (first Breaks (Payment pairs) at _ (λ fault e. payment_by pairs are (value_of 0 pairs) refl fault e) (payment_given pairs are))
    (λ tx held. payment_judged tx at fits))

-- ---- version 2

count_in_range : {Y : Type 0} (kind : ℕ) (e : PsbtFault) (pairs : List Pair) (n : ℕ) → Contains pairs (typed kind (compact n)) → (kind < 253) → ((fault : PsbtFault) → fault ≡ e → count_fault kind fault) → ((fault : PsbtFault) → count_fault kind fault → fault ≡ e) → ((m : ℕ) → Contains pairs (typed kind (compact m)) → m < 2 ^ 64 → m ≡ n)
    → (Then : List ℕ → Field → Type 0) (at : At) (f : ⊤ → Result Y PsbtFault) → IsBytes at.rest → Judged Breaks Then at (f tt) → Judged Breaks (Tested (IsSome kind pairs) (0 < n) Then) at (cond {A = Result ⊤ PsbtFault} (n == 0) (Err e) (Ok tt) >>= f)
count_in_range kind e pairs n there small told given one Then at f fits later =
    tested_then (IsSome kind pairs) (0 < n) Then at (cond {A = Result ⊤ PsbtFault} (n == 0) (Err e) (Ok tt)) f fits
    (λ u r. above n (guard_ok (n == 0) e (Ok tt) u r).0)
    (λ u some. rw (ne_eqb n 0 (λ none. absurd (omega (arith, some, none)))) refl)
    (λ fault r.
    let g = guard_told (n == 0) e tt fault r in
    record { there = subst (λ (m : ℕ). Contains pairs (typed kind (compact m))) (eqb-true n 0 g.0) there; is = told fault g.1 })
    (λ fault c.
    let none : n ≡ 0 = sym (one 0 c.there (omega arith)) in
    rw (eq-eqb n 0 none) (ap (λ (f : PsbtFault). Err f) (sym (given fault c.is))))
    (λ _. later)
  where
    above : (m : ℕ) → (m == 0) ≡ false → 0 < m
    above zero r = absurd cc
    above (suc m) r = omega arith

counts_head : {B C : Type 0} (r0 r2 r3 r4 r5 : Result ⊤ PsbtFault) (v i o : Result ℕ PsbtFault) (d e : PsbtFault) (made : ℕ → ℕ → ℕ → Counts) (g : Counts → Result B PsbtFault) (k : B → Result C PsbtFault)
    → (r0 >>= λ (_ : ⊤). r2 >>= λ (_ : ⊤). r3 >>= λ (_ : ⊤). r4 >>= λ (_ : ⊤). r5 >>= λ (_ : ⊤). v >>= λ a. i >>= λ b. o >>= λ c.
    cond {A = Result ⊤ PsbtFault} (b == 0) (Err d) (Ok tt) >>= λ (_ : ⊤). cond {A = Result ⊤ PsbtFault} (c == 0) (Err e) (Ok tt) >>= λ (_ : ⊤). (g (made a b c) >>= k))
    ≡ ((((r0 >>= λ (_ : ⊤). r2 >>= λ (_ : ⊤). r3 >>= λ (_ : ⊤). r4 >>= λ (_ : ⊤). r5) >>= λ (_ : ⊤). v >>= λ a. i >>= λ b. o >>= λ c. cond (b == 0) (Err d) (cond (c == 0) (Err e) (Ok (made a b c)))) >>= g) >>= k)
counts_head (Err f) r2 r3 r4 r5 v i o d e made g k = refl
counts_head (Ok _) (Err f) r3 r4 r5 v i o d e made g k = refl
counts_head (Ok _) (Ok _) (Err f) r4 r5 v i o d e made g k = refl
counts_head (Ok _) (Ok _) (Ok _) (Err f) r5 v i o d e made g k = refl
counts_head (Ok _) (Ok _) (Ok _) (Ok _) (Err f) v i o d e made g k = refl
counts_head (Ok _) (Ok _) (Ok _) (Ok _) (Ok _) (Err f) i o d e made g k = refl
counts_head (Ok _) (Ok _) (Ok _) (Ok _) (Ok _) (Ok a) (Err f) o d e made g k = refl
counts_head (Ok _) (Ok _) (Ok _) (Ok _) (Ok _) (Ok a) (Ok b) (Err f) d e made g k = refl
counts_head {B = B} {C = C} (Ok _) (Ok _) (Ok _) (Ok _) (Ok _) (Ok a) (Ok b) (Ok c) d e made g k = by (b == 0) (c == 0)
  where
    by : (none some : Bool)
        → (cond {A = Result ⊤ PsbtFault} none (Err d) (Ok tt) >>= λ (_ : ⊤). cond {A = Result ⊤ PsbtFault} some (Err e) (Ok tt) >>= λ (_ : ⊤). (g (made a b c) >>= k)) ≡ ((cond none (Err d) (cond some (Err e) (Ok (made a b c))) >>= g) >>= k)
    by true some = refl
    by false true = refl
    by false false = refl

-- the maps of so many inputs and outputs, and the end
abbrev behind_counts : Counts → At → Result (PartialTransaction × At) PsbtFault
behind_counts counts at = many_from next_input_fields counts.inputs [] at >>= λ inputs. many_from next_output_fields counts.outputs [] inputs.1 >>= λ outputs. Ok (payment_of counts inputs.0 outputs.0, outputs.1)

counts_judged : (counts : Counts) (at : At) → IsBytes at.rest → Judged Breaks (InputFieldsCome 0 counts.inputs (OutputFieldsCome [] counts.outputs)) at (behind_counts counts at >>= finish 2)
counts_judged counts at fits =
    judged_is Breaks (InputFieldsCome 0 counts.inputs (OutputFieldsCome [] counts.outputs)) at _ _ (assoc (many_from next_input_fields counts.inputs [] at) _ (finish 2))
    (input_fields_judged counts.inputs [] (OutputFieldsCome [] counts.outputs) at _ fits (λ inputs a a_fits.
    judged_is Breaks (OutputFieldsCome [] counts.outputs) a _ _ (assoc (many_from next_output_fields counts.outputs [] a) (λ outputs. Ok (payment_of counts inputs outputs.0, outputs.1)) (finish 2))
    (output_fields_judged counts.outputs [] a _ a_fits (λ outputs b b_fits.
    let v : Versioned = record { version = 2; psbt = payment_of counts inputs outputs } in
    first Breaks End b _ (end_told faults.Trailing v b) (end_given faults.Trailing v b)))))

abbrev lock_of : List Pair → ℕ
lock_of pairs = told_or 0 (option_and_then number32_in (value_of 3 pairs))

abbrev counts_in : List Pair → ℕ → ℕ → ℕ → Counts
counts_in pairs version inputs outputs = record { version = version; locktime = lock_of pairs; inputs = inputs; outputs = outputs }

number_tellings : (pairs : List Pair) → ArePairs Global pairs → All (IsRight 2) pairs → Tellings number32_in (to_le_bytes w32) IsNumber32 2 pairs
number_tellings pairs are each = record {
  small = omega arith;
  distinct = are.pairs_fit.distinct;
  holds = λ value there.
      let h = right_value 2 pairs are.pairs_fit each (omega arith) value there in
      decoded number32_in (to_le_bytes w32) IsNumber32 number32_decodes value h.0 h.1;
  again = number32_decodes.again;
}

count_tellings : (kind : ℕ) (pairs : List Pair) → kind < 253 → ArePairs Global pairs → ((value : List ℕ) → Contains pairs (typed kind value) → IsBytes value × (is_some (count_in value) ≡ true)) → Tellings count_in compact IsNumber64 kind pairs
count_tellings kind pairs small are right = record {
  small = small;
  distinct = are.pairs_fit.distinct;
  holds = λ value there. let h = right value there in decoded count_in compact IsNumber64 count_decodes value h.0 h.1;
  again = count_decodes.again;
}

one_count : (kind : ℕ) (pairs : List Pair) → kind < 253 → ArePairs Global pairs → (n : ℕ) → n < 2 ^ 64 → Contains pairs (typed kind (compact n)) → (m : ℕ) → Contains pairs (typed kind (compact m)) → m < 2 ^ 64 → m ≡ n
one_count kind pairs small are n n_small there m other m_small =
    let a = value_there pairs kind (compact n) small are.pairs_fit.distinct there in
    let b = value_there pairs kind (compact m) small are.pairs_fit.distinct other in
    let same : compact m ≡ compact n = cc in
    let read : Some m ≡ Some n = sym (count_decodes.again m m_small) ∙ ap count_in same ∙ count_decodes.again n n_small in
    cc

inputs_fault : (fault : PsbtFault) → fault ≡ faults.Unsigned txs.NoInputs → count_fault 4 fault
inputs_fault fault is = inl (refl, is)

inputs_fault_is : (fault : PsbtFault) → count_fault 4 fault → fault ≡ faults.Unsigned txs.NoInputs
inputs_fault_is fault (inl (_, is)) = is
inputs_fault_is fault (inr (e, _)) = absurd (omega (arith, e))

outputs_fault : (fault : PsbtFault) → fault ≡ faults.Unsigned txs.NoOutputs → count_fault 5 fault
outputs_fault fault is = inr (refl, is)

outputs_fault_is : (fault : PsbtFault) → count_fault 5 fault → fault ≡ faults.Unsigned txs.NoOutputs
outputs_fault_is fault (inl (e, _)) = absurd (omega (arith, e))
outputs_fault_is fault (inr (_, is)) = is

fields_judged : (place : ℕ) (pairs : List Pair) (at : At) → ArePairs Global pairs → IsBytes at.rest → place + length (map_text pairs) ≡ at.place → Judged Breaks (CountsThen pairs) at (fields_at place pairs at >>= finish 2)
unfolding fields_at counts_at forms_at
fields_judged place pairs at are fits place_is =
    let values : All (λ (p : Pair). IsBytes p.value) pairs = λ i d lt. (are.pairs_fit.each i d lt).value_fits.0 in
    let version = needed 2 (option_and_then number32_in (value_of 2 pairs)) in
    let inputs = needed 4 (option_and_then count_in (value_of 4 pairs)) in
    let outputs = needed 5 (option_and_then count_in (value_of 5 pairs)) in
    judged_is Breaks (CountsThen pairs) at _ _
    (counts_head (right_from 0 place pairs) (right_from 2 place pairs) (right_from 3 place pairs) (right_from 4 place pairs) (right_from 5 place pairs) version inputs outputs (faults.Unsigned txs.NoInputs) (faults.Unsigned txs.NoOutputs) (counts_in pairs) (λ counts. behind_counts counts at) (finish 2))
    (form_then 0 place pairs mixed_type values _ at _ fits place_is (λ r0.
    form_then 2 place pairs version_type values _ at _ fits place_is (λ r2.
    form_then 3 place pairs locktime_type values _ at _ fits place_is (λ r3.
    form_then 4 place pairs inputs_type values _ at _ fits place_is (λ r4.
    form_then 5 place pairs outputs_type values _ at _ fits place_is (λ r5.
    needed_then number32_in (to_le_bytes w32) IsNumber32 2 pairs (number_tellings pairs are r2) _ at _ fits (λ v v_small v_there.
    needed_then count_in compact IsNumber64 4 pairs (count_tellings 4 pairs (omega arith) are (right_value 4 pairs are.pairs_fit r4 (omega arith))) _ at _ fits (λ i i_small i_there.
    needed_then count_in compact IsNumber64 5 pairs (count_tellings 5 pairs (omega arith) are (right_value 5 pairs are.pairs_fit r5 (omega arith))) _ at _ fits (λ o o_small o_there.
    count_in_range 4 (faults.Unsigned txs.NoInputs) pairs i i_there (omega arith) inputs_fault inputs_fault_is (one_count 4 pairs (omega arith) are i i_small i_there) _ at _ fits
    (count_in_range 5 (faults.Unsigned txs.NoOutputs) pairs o o_there (omega arith) outputs_fault outputs_fault_is (one_count 5 pairs (omega arith) are o o_small o_there) _ at _ fits
    (counts_judged (counts_in pairs v i o) at fits)))))))))))

-- ---- the version

version_right : (pairs : List Pair) → ArePairs Global pairs → (value : List ℕ) → Contains pairs (typed 251 value) → IsBytes value × (is_some (number32_in value) ≡ true)
version_right pairs are value there =
    let fits = (All-contains (IsPair (meant Global)) pairs (typed 251 value) are.pairs_fit.each there).value_fits.0 in
    (fits, some4 value fits (are.values 251 value (omega arith) there refl))

told_version : (pairs : List Pair) → ArePairs Global pairs → (o : Option (List ℕ)) → value_of 251 pairs ≡ o → (n : ℕ) → n < 2 ^ 32 → TellsVersion pairs n → told_or 0 (option_and_then number32_in o) ≡ n
told_version pairs are o is n small (inl there) =
    let is_there : o ≡ Some (to_le_bytes w32 n) = sym is ∙ value_there pairs 251 (to_le_bytes w32 n) (omega arith) are.pairs_fit.distinct there in
    ap (λ (x : Option (List ℕ)). told_or 0 (option_and_then number32_in x)) is_there ∙ ap (λ (x : Option ℕ). told_or 0 x) (number32_decodes.again n small)
told_version pairs are None is n small (inr (none, nought)) = sym nought
told_version pairs are (Some value) is n small (inr (none, nought)) = absurd (none value (found_typed pairs 251 value (omega arith) is))

tells_version : (pairs : List Pair) → ArePairs Global pairs → (o : Option (List ℕ)) → value_of 251 pairs ≡ o → (n : ℕ) → told_or 0 (option_and_then number32_in o) ≡ n → TellsVersion pairs n × (n < 2 ^ 32)
tells_version pairs are None is n e =
    let none : (value : List ℕ) → Contains pairs (typed 251 value) → ⊥ = λ value there. missing_typed pairs 251 value (omega arith) is there in
    (inr (none, sym e), omega (arith, e))
tells_version pairs are (Some value) is n e =
    let there = found_typed pairs 251 value (omega arith) is in
    let r = version_right pairs are value there in
    let d = decoded number32_in (to_le_bytes w32) IsNumber32 number32_decodes value r.0 r.1 in
    let read : number32_in value ≡ Some d.0 = ap number32_in d.2 ∙ number32_decodes.again d.0 d.1 in
    let same : d.0 ≡ n = sym (ap (λ (x : Option ℕ). told_or 0 x) read) ∙ e in
    (inl (subst (λ (m : ℕ). Contains pairs (typed 251 (to_le_bytes w32 m))) same (subst (λ (v : List ℕ). Contains pairs (typed 251 v)) d.2 there)), subst (λ (m : ℕ). m < 2 ^ 32) same d.1)

-- the other two of three ways to go on
abbrev Others : List Pair → (List ℕ → Field → Type 0) → List ℕ → Field → Type 0
Others pairs Then front field = IsFirst (Version pairs) front field ⊎ Then front field

no_version : (pairs : List Pair) (n : ℕ) → ArePairs Global pairs → version_of pairs ≡ n → (n ≡ 0) ⊎ (n ≡ 2) → (fault : PsbtFault) → TellsOther pairs fault → ⊥
no_version pairs n are is (inl nought) fault o = o.some (sym (told_version pairs are (value_of 251 pairs) refl o.version o.small (inl o.there)) ∙ is ∙ nought)
no_version pairs n are is (inr two) fault o = o.other (sym (told_version pairs are (value_of 251 pairs) refl o.version o.small (inl o.there)) ∙ is ∙ two)

not_both : (pairs : List Pair) → ArePairs Global pairs → TellsVersion pairs 0 → TellsVersion pairs 2 → ⊥
not_both pairs are nought two =
    let a = told_version pairs are (value_of 251 pairs) refl 0 (omega arith) nought in
    let b = told_version pairs are (value_of 251 pairs) refl 2 (omega arith) two in
    omega (arith, a, b)

-- what doesn't come isn't broken
never_comes : (pairs : List Pair) (n : ℕ) (Then : List ℕ → Field → Type 0) (Is : Type 0) (at : At) → ArePairs Global pairs → version_of pairs ≡ n → (n ≡ 0) ⊎ (n ≡ 2) → (Is → ⊥) → (fault : PsbtFault) → IsBroken (Others pairs (λ front field. Is × Then front field)) Breaks at.place at.rest fault → ⊥
never_comes pairs n Then Is at are is one never fault b = elim b.comes [
  | inl c ↦ no_version pairs n are is one fault (subst (λ (d : Field). Breaks d b.place b.behind fault) c.field_is b.breaks)
  | inr c ↦ never c.0
]

first_to : (pairs : List Pair) → TellsVersion pairs 0 → (front : List ℕ) (field : Field) → PaymentThen pairs front field ⊎ Others pairs (λ f d. TellsVersion pairs 2 × CountsThen pairs f d) front field → VersionThen pairs front field
first_to pairs nought front field (inl c) = inr (inl (nought, c))
first_to pairs nought front field (inr (inl v)) = inl v
first_to pairs nought front field (inr (inr c)) = inr (inr c)

first_back : (pairs : List Pair) (front : List ℕ) (field : Field) → VersionThen pairs front field → PaymentThen pairs front field ⊎ Others pairs (λ f d. TellsVersion pairs 2 × CountsThen pairs f d) front field
first_back pairs front field (inl v) = inr (inl v)
first_back pairs front field (inr (inl c)) = inl c.1
first_back pairs front field (inr (inr c)) = inr (inr c)

second_to : (pairs : List Pair) → TellsVersion pairs 2 → (front : List ℕ) (field : Field) → CountsThen pairs front field ⊎ Others pairs (λ f d. TellsVersion pairs 0 × PaymentThen pairs f d) front field → VersionThen pairs front field
second_to pairs two front field (inl c) = inr (inr (two, c))
second_to pairs two front field (inr (inl v)) = inl v
second_to pairs two front field (inr (inr c)) = inr (inl c)

second_back : (pairs : List Pair) (front : List ℕ) (field : Field) → VersionThen pairs front field → CountsThen pairs front field ⊎ Others pairs (λ f d. TellsVersion pairs 0 × PaymentThen pairs f d) front field
second_back pairs front field (inl v) = inr (inl v)
second_back pairs front field (inr (inr c)) = inl c.1
second_back pairs front field (inr (inl c)) = inr (inr c)

abbrev Either2 : List Pair → List ℕ → Field → Type 0
Either2 pairs front field = (TellsVersion pairs 0 × PaymentThen pairs front field) ⊎ (TellsVersion pairs 2 × CountsThen pairs front field)

no_other : (pairs : List Pair) (at : At) → ArePairs Global pairs → (version_of pairs ≡ 0 → ⊥) → (version_of pairs ≡ 2 → ⊥) → (fault : PsbtFault) → IsBroken (Either2 pairs) Breaks at.place at.rest fault → ⊥
no_other pairs at are not0 not2 fault b = elim b.comes [
  | inl c ↦ not0 (told_version pairs are (value_of 251 pairs) refl 0 (omega arith) c.0)
  | inr c ↦ not2 (told_version pairs are (value_of 251 pairs) refl 2 (omega arith) c.0)
]

tells_other : (pairs : List Pair) → ArePairs Global pairs → (version_of pairs ≡ 0 → ⊥) → (version_of pairs ≡ 2 → ⊥) → (fault : PsbtFault) → fault ≡ faults.Version (version_of pairs) → TellsOther pairs fault
tells_other pairs are not0 not2 fault is = by (tells_version pairs are (value_of 251 pairs) refl (version_of pairs) refl)
  where
    by : TellsVersion pairs (version_of pairs) × (version_of pairs < 2 ^ 32) → TellsOther pairs fault
    by (inl there, small) = record { version = version_of pairs; there = there; small = small; some = not0; other = not2; is = is }
    by (inr (none, nought), small) = absurd (not0 nought)

other_given : (pairs : List Pair) → ArePairs Global pairs → (fault : PsbtFault) → TellsOther pairs fault → fault ≡ faults.Version (version_of pairs)
other_given pairs are fault o = o.is ∙ ap (λ (n : ℕ). faults.Version n) (sym (told_version pairs are (value_of 251 pairs) refl o.version o.small (inl o.there)))

version_judged : (place : ℕ) (pairs : List Pair) (at : At) → ArePairs Global pairs → IsBytes at.rest → place + length (map_text pairs) ≡ at.place → Judged Breaks (VersionThen pairs) at (behind_global place pairs at >>= ending)
unfolding behind_global
version_judged place pairs at are fits place_is =
    elim (cases_Bool (version_of pairs == 0)) [
      | inl nought ↦
          let is : version_of pairs ≡ 0 = eqb-true (version_of pairs) 0 nought in
          let tells : TellsVersion pairs 0 = (tells_version pairs are (value_of 251 pairs) refl 0 is).0 in
          let read : (whole_at pairs at >>= finish 0) ≡ (behind_global place pairs at >>= ending) = rw nought (assoc (whole_at pairs at) (in_version 0) ending) in
          judged_is Breaks (VersionThen pairs) at _ _ read
          (judged_as Breaks _ (VersionThen pairs) at _ fits (λ front field _ c. first_to pairs tells front field c) (λ front field _ c. first_back pairs front field c)
          (or_none Breaks (PaymentThen pairs) (Others pairs (λ f d. TellsVersion pairs 2 × CountsThen pairs f d)) at _ fits (whole_judged pairs at are fits)
          (never_comes pairs 0 (CountsThen pairs) (TellsVersion pairs 2) at are is (inl refl) (λ two. not_both pairs are tells two))))
      | inr some ↦ elim (cases_Bool (version_of pairs == 2)) [
        | inl second ↦
            let is : version_of pairs ≡ 2 = eqb-true (version_of pairs) 2 second in
            let tells : TellsVersion pairs 2 = (tells_version pairs are (value_of 251 pairs) refl 2 is).0 in
            let read : (fields_at place pairs at >>= finish 2) ≡ (behind_global place pairs at >>= ending) = rw (some, second) (assoc (fields_at place pairs at) (in_version 2) ending) in
            judged_is Breaks (VersionThen pairs) at _ _ read
            (judged_as Breaks _ (VersionThen pairs) at _ fits (λ front field _ c. second_to pairs tells front field c) (λ front field _ c. second_back pairs front field c)
            (or_none Breaks (CountsThen pairs) (Others pairs (λ f d. TellsVersion pairs 0 × PaymentThen pairs f d)) at _ fits (fields_judged place pairs at are fits place_is)
            (never_comes pairs 2 (PaymentThen pairs) (TellsVersion pairs 0) at are is (inr refl) (λ nought. not_both pairs are nought tells))))
        | inr other ↦
            let not0 : version_of pairs ≡ 0 → ⊥ = eqb-false (version_of pairs) 0 some in
            let not2 : version_of pairs ≡ 2 → ⊥ = eqb-false (version_of pairs) 2 other in
            let failed : Result Versioned PsbtFault = Err (faults.Version (version_of pairs)) in
            let read : failed ≡ (behind_global place pairs at >>= ending) = rw (some, other) refl in
            judged_is Breaks (VersionThen pairs) at _ _ read
            (or_none Breaks (IsFirst (Version pairs)) (Either2 pairs) at failed fits
            (first Breaks (Version pairs) at failed (λ fault e. tells_other pairs are not0 not2 fault (sym (cc e))) (λ fault o. ap (λ (f : PsbtFault). Err f) (sym (other_given pairs are fault o))))
            (no_other pairs at are not0 not2))
      ]
    ]

-- ---- the whole

maps_judged : (at : At) → IsBytes at.rest → Judged Breaks (MapThen Global VersionThen) at (maps_at at >>= ending)
unfolding maps_at
maps_judged at fits =
    judged_is Breaks (MapThen Global VersionThen) at _ _ (assoc (map_at Global at) (λ pairs. behind_global at.place pairs.0 pairs.1) ending)
    (map_then_from Global VersionThen at (λ pairs. behind_global at.place pairs.0 pairs.1 >>= ending) fits (λ pairs a are a_fits place. version_judged at.place pairs a are a_fits (sym place)))

magic_there : (bytes : List ℕ) → bytes_eq (take 5 bytes) magic ≡ true → bytes ≡ magic ++ drop 5 bytes
magic_there bytes e = sym (take-append-drop 5 bytes) ∙ ap (λ (l : List ℕ). l ++ drop 5 bytes) (equal_bytes (take 5 bytes) magic e)

there_magic : (bytes rest : List ℕ) → bytes ≡ magic ++ rest → bytes_eq (take 5 bytes) magic ≡ true
there_magic bytes rest is = same_bytes (take 5 bytes) magic (ap (λ (l : List ℕ). take 5 l) is ∙ take_at magic rest 5 refl)

abbrev magic_of : ⊤ → List ℕ
magic_of _ = magic

magics : Reads magic_at magic_of (λ _. Unit {0})
magics = record {
  takes = λ at x fits e.
      let g = guard_met _ _ _ _ e in
      let t : Takes at magic (after 5 at) = record { parts = magic_there at.rest g.0; place_is = refl; rest_fits = All-drop (λ b. b < 256) 5 at.rest fits } in
      (subst (λ (y : ⊤ × At). Takes at magic y.1) (ok_is (tt, after 5 at) x (Ok (tt, after 5 at)) refl g.1) t, tt);
  again = λ u at rest is parts. record { next = after 5 at; reads = rw (there_magic at.rest rest parts) refl; left = ap (λ (l : List ℕ). drop 5 l) parts ∙ drop_at magic rest 5 refl };
}

unmarked_told : (at : At) (fault : PsbtFault) → magic_at at ≡ Err fault → IsUnmarked at.rest fault
unmarked_told at fault e =
    let g = met_told (bytes_eq (take 5 at.rest) magic) faults.Magic (tt, after 5 at) fault e in
    record { none = λ rest is. both_ways (bytes_eq (take 5 at.rest) magic) g.0 (there_magic at.rest rest is); is = g.1 }

unmarked_given : (at : At) (fault : PsbtFault) → IsUnmarked at.rest fault → magic_at at ≡ Err fault
unmarked_given at fault u =
    let none : bytes_eq (take 5 at.rest) magic ≡ false = false_from_ne_true (bytes_eq (take 5 at.rest) magic) (λ e. u.none (drop 5 at.rest) (magic_there at.rest e)) in
    rw none (ap (λ (f : PsbtFault). Err f) (sym u.is))

abbrev MagicParts : List ℕ → Field → Type 0
MagicParts = Either (IsFirst Magic) magic_of (λ _. Unit {0}) (λ _. MapThen Global VersionThen)

magic_to : (front : List ℕ) (field : Field) → MagicParts front field → PsbtComes front field
magic_to front field (inl c) = inl c
magic_to front field (inr h) = inr (record { inner = h.inner; parts = h.parts; comes = h.comes })

magic_back : (front : List ℕ) (field : Field) → PsbtComes front field → MagicParts front field
magic_back front field (inl c) = inl c
magic_back front field (inr h) = inr (record { whole = tt; inner = h.inner; is = tt; parts = h.parts; comes = h.comes })

versioned_judged : (bytes : List ℕ) → IsBytes bytes → Judged Breaks PsbtComes (start bytes) (versioned_of bytes)
unfolding psbt_at
versioned_judged bytes fits =
    judged_as Breaks MagicParts PsbtComes (start bytes) _ fits (λ front field _ c. magic_to front field c) (λ front field _ c. magic_back front field c)
    (judged_is Breaks MagicParts (start bytes) _ _ (assoc (magic_at (start bytes)) (λ m. maps_at m.1) ending)
    (then Breaks magic_at magic_of (λ _. Unit {0}) magics (IsFirst Magic) (λ _. MapThen Global VersionThen) (start bytes) (λ m. maps_at m.1 >>= ending) fits (first Breaks Magic (start bytes) _ (unmarked_told (start bytes)) (unmarked_given (start bytes))) (λ m a _ a_fits.
    maps_judged a a_fits)))

pub psbt_judged : (bytes : List ℕ) → IsBytes bytes → Judged Breaks PsbtComes (start bytes) (read_of bytes)
psbt_judged bytes fits =
    let j = versioned_judged bytes fits in
    record { tells = λ fault e. j.tells fault (unversioned_err (versioned_of bytes) fault e); gives = λ fault b. unversioned_fails (versioned_of bytes) fault (j.gives fault b) }
