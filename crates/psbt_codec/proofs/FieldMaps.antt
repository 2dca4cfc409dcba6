-- The maps of version 2 behind the global one: what is read of them is a PSBT that they tell, and such a PSBT is read.
use Rattle.std.proofs.Common.{◌≡◌, ◌≢◌, ℕ, suc, ◌+◌, ◌≤◌, Bool, false, List, [], ◌∷◌, ◌++◌, length, map, All, Ok, refl, sym, ap, subst, ◌∙◌, append_assoc, arith}
use Rattle.std.specs.Prelude.{Any, Some}
use Rattle.std.specs.Int.{w32, to_le_bytes}
use Rattle.std.specs.List.{flat_map, zip, AllZip, AllByRecursion}
use Rattle.std.proofs.lemmas.List.{append-nil}
use Rattle.std.proofs.lemmas.List.Elements.{All-from_recursion, recursion_from_All}
use Rattle.std.proofs.lemmas.List.Sums.{sum_by-append, sum_by-cons, sum_by_push}
use Rattle.std.proofs.lemmas.Slice.Zip.{firsts-zip, seconds-zip}
use Rattle.fund_base.specs.CompactSize.{compact}
use Rattle.fund_base.specs.Cursor.{At, IsBytes}
use Rattle.fund_base.specs.Parsing.{many_from}
use Rattle.fund_base.proofs.Laws.{bind_ok, bind_is, ok_is, Takes, takes_then, Again}
use Rattle.fund_base.proofs.Repeat.{AllFrom, from_all, all_from}
use Rattle.tx_codec.specs.declared.tx.TxIn.{TxIn}
use Rattle.tx_codec.specs.declared.tx.TxOut.{TxOut}
use Rattle.tx_codec.specs.TransactionText.{InputFits, OutputFits, IsTransaction}
use Rattle.tx_codec.proofs.Outputs.{worth}
use Rattle.tx_codec.proofs.PartLaws.{FitsBehind}
use Rattle.psbt_codec.specs.declared.counts.Counts.{Counts}
use Rattle.psbt_codec.specs.declared.pairs.Part.TheVariants.{Global}
use Rattle.psbt_codec.specs.declared.psbt.Spent.{Spent}
use Rattle.psbt_codec.specs.PartialTransaction.{PartialTransaction}
use Rattle.psbt_codec.specs.Psbt.{Pair, HasKnownPair, map_text, IsGlobalFields, IsInputFields, IsOutputFields, AreFields, IsPsbt, IsUnsigned}
use Rattle.psbt_codec.specs.Reading.{fields_at, next_input_fields, next_output_fields, payment_of, version_of}
use Rattle.psbt_codec.proofs.Decoded.{IsBare, bare_form}
use Rattle.psbt_codec.proofs.CountMeaning.{CountsTaken, counts_take, counts_again, counts_of, version_told}
use Rattle.psbt_codec.proofs.ManyMaps.{many_take, many_again}
use Rattle.psbt_codec.proofs.MapReads.{MapFits}
use Rattle.psbt_codec.proofs.OwnFields.{FieldInput, input_take, input_again, output_take, output_again}
use Rattle.psbt_codec.proofs.WholeMaps.{Pairwise}

-- ---- the inputs beside what is known of the outputs that they spend

abbrev Known : Type 0
Known = TxIn × Spent

abbrev inputs_of : List Known → List TxIn
inputs_of xs = map (λ (k : Known). k.0) xs

abbrev spent_of : List Known → List Spent
spent_of xs = map (λ (k : Known). k.1) xs

zip_parts : (xs : List Known) → zip (inputs_of xs) (spent_of xs) ≡ xs
zip_parts [] = refl
zip_parts (x ∷ xs) = ap (λ (l : List Known). x ∷ l) (zip_parts xs)

inputs_len : (xs : List Known) → length (inputs_of xs) ≡ length xs
inputs_len [] = refl
inputs_len (x ∷ xs) = ap (λ (n : ℕ). suc n) (inputs_len xs)

spent_len : (xs : List Known) → length (spent_of xs) ≡ length xs
spent_len [] = refl
spent_len (x ∷ xs) = ap (λ (n : ℕ). suc n) (spent_len xs)

zip_len : (inputs : List TxIn) (spent : List Spent) → length spent ≡ length inputs → length (zip inputs spent) ≡ length inputs
zip_len [] spent len = refl
zip_len (i ∷ inputs) [] len = absurd (omega (arith, len))
zip_len (i ∷ inputs) (s ∷ spent) len = ap (λ (n : ℕ). suc n) (zip_len inputs spent (omega (arith, len)))

each_fits : (xs : List Known) → AllByRecursion FieldInput xs → AllByRecursion InputFits (inputs_of xs)
each_fits [] each = tt
each_fits (x ∷ xs) each = (each.0.fits, each_fits xs each.1)

each_unsigned : (xs : List Known) → AllByRecursion FieldInput xs → AllByRecursion IsUnsigned (inputs_of xs)
each_unsigned [] each = tt
each_unsigned (x ∷ xs) each = (each.0.unsigned, each_unsigned xs each.1)

each_spent : (xs : List Known) → AllByRecursion FieldInput xs → AllByRecursion Pairwise xs
each_spent [] each = tt
each_spent (x ∷ xs) each = (each.0.spent, each_spent xs each.1)

each_input : (inputs : List TxIn) (spent : List Spent) → length spent ≡ length inputs → AllByRecursion InputFits inputs → AllByRecursion IsUnsigned inputs → AllByRecursion Pairwise (zip inputs spent) → AllByRecursion FieldInput (zip inputs spent)
each_input [] spent len fits unsigned known = tt
each_input (i ∷ inputs) [] len fits unsigned known = absurd (omega (arith, len))
each_input (i ∷ inputs) (s ∷ spent) len fits unsigned known = (record { fits = fits.0; unsigned = unsigned.0; spent = known.0 }, each_input inputs spent (omega (arith, len)) fits.1 unsigned.1 known.1)

no_witness : (inputs : List TxIn) → All IsUnsigned inputs → Any (λ (i : TxIn). i.witness ≢ []) inputs → ⊥
no_witness inputs each some = some.4 (ap (λ (i : TxIn). i.witness) (sym some.3) ∙ (each some.0 some.1 some.2).witness)

-- ---- the outputs

each_output : (before outputs : List TxOut) → AllFrom FitsBehind before outputs → worth before ≤ 2_100_000_000_000_000 → AllByRecursion OutputFits outputs × (worth (before ++ outputs) ≤ 2_100_000_000_000_000)
each_output before [] fits range = (tt, rw append-nil range)
each_output before (o ∷ outputs) fits range =
    let pushed : worth (before ++ o ∷ []) ≤ 2_100_000_000_000_000 = rw sum_by_push fits.0.range in
    let others = each_output (before ++ o ∷ []) outputs fits.1 pushed in
    ((fits.0.fits, others.0), rw (← append_assoc before (o ∷ []) outputs) others.1)

output_each : (before outputs : List TxOut) → AllByRecursion OutputFits outputs → worth (before ++ outputs) ≤ 2_100_000_000_000_000 → AllFrom FitsBehind before outputs
output_each before [] fits range = tt
output_each before (o ∷ outputs) fits range =
    let here : worth before + o.value ≤ 2_100_000_000_000_000 = omega (arith, sum_by-append (λ (p : TxOut). p.value) before (o ∷ outputs), sum_by-cons (λ (p : TxOut). p.value) o outputs) in
    (record { fits = fits.0; range = here }, output_each (before ++ o ∷ []) outputs fits.1 (rw append_assoc range))

-- ---- what stands behind the global map

pub record FieldsTaken (pairs : List Pair) (at : At) (x : PartialTransaction × At) : Type 0 where
  pub inputs : List (List Pair)
  pub outputs : List (List Pair)
  pub takes : Takes at (flat_map map_text inputs ++ flat_map map_text outputs) x.1
  pub psbt : IsPsbt x.0
  pub maps : AreFields x.0 pairs inputs outputs

-- what was read is a transaction
transaction_is : (pairs : List Pair) (c : Counts) (xs : List Known) (outputs : List TxOut) → CountsTaken pairs c → length xs ≡ c.inputs → length outputs ≡ c.outputs → AllByRecursion FieldInput xs → AllFrom FitsBehind [] outputs → IsTransaction (payment_of c xs outputs).tx
transaction_is pairs c xs outputs counts ins outs each behind =
    let right = each_output [] outputs behind (omega arith) in
    let unsigned : All IsUnsigned (inputs_of xs) = All-from_recursion IsUnsigned (inputs_of xs) (each_unsigned xs each) in
    record {
      version = counts.version_fits;
      locktime = counts.locktime_fits;
      inputs = All-from_recursion InputFits (inputs_of xs) (each_fits xs each);
      inputs_some = omega (arith, inputs_len xs, ins, counts.inputs_some);
      inputs_len = omega (arith, inputs_len xs, ins, counts.inputs_fit);
      outputs = All-from_recursion OutputFits outputs right.0;
      outputs_some = omega (arith, outs, counts.outputs_some);
      outputs_len = omega (arith, outs, counts.outputs_fit);
      money = right.1;
      segregated = ((λ is. absurd cc), (λ some. absurd (no_witness (inputs_of xs) unsigned some)));
    }

psbt_is : (pairs : List Pair) (c : Counts) (xs : List Known) (outputs : List TxOut) → CountsTaken pairs c → length xs ≡ c.inputs → length outputs ≡ c.outputs → AllByRecursion FieldInput xs → AllFrom FitsBehind [] outputs → IsPsbt (payment_of c xs outputs)
psbt_is pairs c xs outputs counts ins outs each behind = record {
  text = transaction_is pairs c xs outputs counts ins outs each behind;
  unsigned = All-from_recursion IsUnsigned (inputs_of xs) (each_unsigned xs each);
  spent_len = spent_len xs ∙ sym (inputs_len xs);
  spent = subst (λ (l : List Known). All Pairwise l) (sym (zip_parts xs)) (All-from_recursion Pairwise xs (each_spent xs each));
}

global_told : (pairs : List Pair) (c : Counts) (xs : List Known) (outputs : List TxOut) → CountsTaken pairs c → length xs ≡ c.inputs → length outputs ≡ c.outputs → HasKnownPair pairs 251 (to_le_bytes w32) (Some 2) → IsGlobalFields (payment_of c xs outputs).tx pairs
global_told pairs c xs outputs counts ins outs version = record {
  pairs_fit = counts.pairs_fit;
  unmixed = counts.unmixed;
  version = version;
  tx_version = counts.tx_version;
  locktime = counts.locktime;
  inputs = subst (λ (n : ℕ). HasKnownPair pairs 4 compact (Some n)) (sym (inputs_len xs ∙ ins)) counts.inputs;
  outputs = subst (λ (n : ℕ). HasKnownPair pairs 5 compact (Some n)) (sym outs) counts.outputs;
}

pub fields_take : (place : ℕ) (pairs : List Pair) (at : At) (x : PartialTransaction × At) → MapFits Global [] pairs → version_of pairs ≡ 2 → IsBytes at.rest → fields_at place pairs at ≡ Ok x → FieldsTaken pairs at x
unfolding fields_at
fields_take place pairs at x fit two fits e =
    let c = bind_ok _ _ x e in
    let i = bind_ok _ _ x c.2 in
    let o = bind_ok _ _ x i.2 in
    let counts = counts_take place pairs c.0 fit c.1 in
    let ti = many_take next_input_fields IsInputFields (λ _. FieldInput) input_take c.0.inputs [] at i.0 fits i.1 in
    let to = many_take next_output_fields IsOutputFields FitsBehind output_take c.0.outputs [] i.0.1 o.0 ti.takes.rest_fits o.1 in
    let all = takes_then at i.0.1 o.0.1 (flat_map map_text ti.maps) (flat_map map_text to.maps) ti.takes to.takes in
    let each : AllByRecursion FieldInput ti.items = from_all FieldInput [] ti.items ti.fits in
    let p : PartialTransaction = payment_of c.0 ti.items to.items in
    let psbt : IsPsbt p = psbt_is pairs c.0 ti.items to.items counts ti.count to.count each to.fits in
    let maps : AreFields p pairs ti.maps to.maps = record {
      global_is = global_told pairs c.0 ti.items to.items counts ti.count to.count (version_told pairs fit two);
      inputs_are = subst (λ (l : List Known). AllZip IsInputFields l ti.maps) (sym (zip_parts ti.items)) ti.are;
      outputs_are = to.are;
    } in
    let taken : FieldsTaken pairs at (p, o.0.1) = record { inputs = ti.maps; outputs = to.maps; takes = all; psbt = psbt; maps = maps } in
    let made : PartialTransaction × At = (payment_of c.0 i.0.0 o.0.0, o.0.1) in
    let same : (p, o.0.1) ≡ made = ap (λ (l : List Known). (payment_of c.0 l to.items, o.0.1)) (sym ti.whole) ∙ ap (λ (l : List TxOut). (payment_of c.0 i.0.0 l, o.0.1)) (sym to.whole) in
    subst (λ (y : PartialTransaction × At). FieldsTaken pairs at y) (same ∙ ok_is made x (Ok made) refl o.2) taken

-- a payment of these parts
abbrev built : ℕ → List TxIn → List TxOut → ℕ → Bool → List Spent → PartialTransaction
built version inputs outputs locktime segwit spent = record { tx = record { version = version; inputs = inputs; outputs = outputs; locktime = locktime; segwit = segwit }; spent = spent }

same_payment : (p : PartialTransaction) → IsPsbt p → payment_of (counts_of p.tx) (zip p.tx.inputs p.spent) p.tx.outputs ≡ p
same_payment p is =
    let t = p.tx in
    let bare : IsBare t = record { text = is.text; unsigned = is.unsigned } in
    let firsts : inputs_of (zip t.inputs p.spent) ≡ t.inputs = firsts-zip t.inputs p.spent is.spent_len in
    let seconds : spent_of (zip t.inputs p.spent) ≡ p.spent = seconds-zip t.inputs p.spent is.spent_len in
    ap (λ (l : List TxIn). built t.version l t.outputs t.locktime false (spent_of (zip t.inputs p.spent))) firsts
    ∙ ap (λ (l : List Spent). built t.version t.inputs t.outputs t.locktime false l) seconds
    ∙ ap (λ (b : Bool). built t.version t.inputs t.outputs t.locktime b p.spent) (sym (bare_form t bare))

-- a payment that was read, and the place behind it
abbrev read_to : At → PartialTransaction → PartialTransaction × At
read_to next p = (p, next)

pub fields_again : (place : ℕ) (p : PartialTransaction) (global : List Pair) (inputs outputs : List (List Pair)) (at : At) (rest : List ℕ) → IsPsbt p → AreFields p global inputs outputs → at.rest ≡ flat_map map_text inputs ++ (flat_map map_text outputs ++ rest)
    → Again (fields_at place global at) p rest
unfolding fields_at
fields_again place p global inputs outputs at rest psbt are parts =
    let xs = zip p.tx.inputs p.spent in
    let known : AllByRecursion Pairwise xs = recursion_from_All Pairwise xs psbt.spent in
    let each : AllByRecursion FieldInput xs = each_input p.tx.inputs p.spent psbt.spent_len (recursion_from_All InputFits p.tx.inputs psbt.text.inputs) (recursion_from_All IsUnsigned p.tx.inputs psbt.unsigned) known in
    let c = counts_again place p.tx global are.global_is psbt.text in
    let i = many_again next_input_fields IsInputFields (λ _. FieldInput) input_again xs inputs [] at (flat_map map_text outputs ++ rest) are.inputs_are (all_from FieldInput [] xs each) parts in
    let count : length xs ≡ length p.tx.inputs = zip_len p.tx.inputs p.spent psbt.spent_len in
    let read : many_from next_input_fields (length p.tx.inputs) [] at ≡ Ok (xs, i.next) = ap (λ (n : ℕ). many_from next_input_fields n [] at) (sym count) ∙ i.reads in
    let behind = output_each [] p.tx.outputs (recursion_from_All OutputFits p.tx.outputs psbt.text.outputs) psbt.text.money in
    let o = many_again next_output_fields IsOutputFields FitsBehind output_again p.tx.outputs outputs [] i.next rest are.outputs_are behind i.left in
    record { next = o.next; reads = bind_is _ _ _ _ c (bind_is _ _ _ _ read (bind_is _ _ _ _ o.reads (ap (λ (q : PartialTransaction). Ok (read_to o.next q)) (same_payment p psbt)))); left = o.left }
