-- A PSBT whose inputs are all final, and the transaction that these make.
use Rattle.std.proofs.Common.{◌≡◌, ◌≢◌, ◌∙◌, ◌<◌, ◌^◌, ◌≤◌, ◌↔◌, ℕ, suc, Bool, true, false, List, [], ◌∷◌, ◌++◌, length, drop, All, Option, Some, None, not, refl, sym, ap, subst, inl, inr, arith, length-append}
use Rattle.std.specs.Prelude.{Any, IsTrue, sum_by, unwrap_or}
use Rattle.std.specs.List.{AllZip, flat_map, zip}
use Rattle.std.proofs.lemmas.List.Elements.{All-cons, All-contains, All-head, All-nil, All-tail, All-weaker}
use Rattle.fund_base.specs.CompactSize.{compact}
use Rattle.fund_base.specs.declared.outpoint.OutPoint.{OutPoint}
use Rattle.tx_codec.specs.Reading.{are_empty}
use Rattle.tx_codec.specs.Transaction.{Transaction}
use Rattle.tx_codec.specs.TransactionText.{HasWitness, InputFits, IsTransaction, OutputFits}
use Rattle.tx_codec.specs.declared.tx.TxOut.{TxOut}
use Rattle.tx_codec.specs.declared.tx.TxIn.{TxIn}
use Rattle.tx_codec.proofs.LawsOfStacks.{has_stack, not_empty}
use Rattle.psbt_codec.specs.PartialTransaction.{PartialTransaction}
use Rattle.psbt_codec.specs.Psbt.{AreMapsOf, IsInputFields, IsInputMap, IsMap, IsPair, IsPsbt, IsReadable, IsString, Pair, global_field_types, global_types, input_field_types, input_types, magic, map_text, typed}
use Rattle.psbt_codec.specs.Reading.{value_of}
use Rattle.psbt_codec.specs.declared.psbt.Spent.{Spent}
use Rattle.psbt_codec.proofs.MapMeaning.{found_typed}
use Rattle.psbt_codec.proofs.PairLaws.{compact_some}
use Rattle.signed_psbt.specs.Maps.{ArePairs, IsPlain}
use Rattle.signed_psbt.specs.Signed.{AreFinal, IsFinal, IsFirstFault, IsSignedFault, IsSignedPsbt, IsStackOf, StackFits}
use Rattle.signed_psbt.specs.declared.fault.SignedFault.{SignedFault}
use Rattle.signed_psbt.specs.declared.fault.SignedFault.TheVariants.{Psbt, Unsigned, Witness}

-- ---- maps as pairs

is_plain : (meant : List ℕ) (p : Pair) → IsPair meant p → IsPlain p
is_plain meant p is =
    let key = is.key in
    let parts = ap (λ (l : List ℕ). length l) key.parts in
    let one = compact_some key.kind in
    record {
      some = λ none. omega (arith, ap (λ (l : List ℕ). length l) none, parts, one, length-append (compact key.kind) key.key_data);
      key = is.key_fits;
      value = is.value_fits;
    }

plain_map : (meant : List ℕ) (pairs : List Pair) → IsMap meant pairs → ArePairs pairs
plain_map meant pairs is = All-weaker (IsPair meant) IsPlain (is_plain meant) pairs is.each

-- as many maps, each of plain pairs
pub record Plain (maps : List (List Pair)) (n : ℕ) : Type 0 where
  pub are : All ArePairs maps
  pub many : length maps ≡ n

plain_maps : (spent : List Spent) (maps : List (List Pair)) → AllZip IsInputMap spent maps → Plain maps (length spent)
plain_maps [] [] h = record { are = All-nil ArePairs; many = refl }
plain_maps [] (m ∷ maps) h = absurd h
plain_maps (s ∷ spent) [] h = absurd h
plain_maps (s ∷ spent) (m ∷ maps) h =
    let rest = plain_maps spent maps h.1 in
    record { are = All-cons ArePairs m maps (plain_map input_types m h.0.pairs_fit) rest.are; many = ap suc rest.many }

plain_fields : (known : List (TxIn × Spent)) (maps : List (List Pair)) → AllZip IsInputFields known maps → Plain maps (length known)
plain_fields [] [] h = record { are = All-nil ArePairs; many = refl }
plain_fields [] (m ∷ maps) h = absurd h
plain_fields (k ∷ known) [] h = absurd h
plain_fields (k ∷ known) (m ∷ maps) h =
    let rest = plain_fields known maps h.1 in
    record { are = All-cons ArePairs m maps (plain_map input_field_types m h.0.pairs_fit) rest.are; many = ap suc rest.many }

zip_len : (inputs : List TxIn) (spent : List Spent) → length spent ≡ length inputs → length (zip inputs spent) ≡ length inputs
zip_len [] spent e = refl
zip_len (i ∷ inputs) [] e = absurd (omega (arith, e))
zip_len (i ∷ inputs) (s ∷ spent) e = ap suc (zip_len inputs spent (omega (arith, e)))

pub record Given (global : List Pair) (inputs : List (List Pair)) (n : ℕ) : Type 0 where
  pub global_are : ArePairs global
  pub plain : Plain inputs n

given_by : (p : PartialTransaction) (version : ℕ) (global : List Pair) (inputs outputs : List (List Pair)) → IsPsbt p → AreMapsOf version p global inputs outputs → Given global inputs (length p.tx.inputs)
given_by p version global inputs outputs is (inl h) =
    let maps = plain_maps p.spent inputs h.1.inputs_are in
    record { global_are = plain_map global_types global h.1.global_is.pairs_fit; plain = record { are = maps.are; many = maps.many ∙ is.spent_len } }
given_by p version global inputs outputs is (inr h) =
    let maps = plain_fields (zip p.tx.inputs p.spent) inputs h.1.inputs_are in
    record { global_are = plain_map global_field_types global h.1.global_is.pairs_fit; plain = record { are = maps.are; many = maps.many ∙ zip_len p.tx.inputs p.spent is.spent_len } }

pub given : (bytes : List ℕ) (p : PartialTransaction) → (r : IsReadable bytes p) → Given r.global r.inputs (length p.tx.inputs)
given bytes p r = given_by p r.version r.global r.inputs r.outputs r.psbt r.maps

-- what stands behind the magic
pub behind_magic : (bytes : List ℕ) (p : PartialTransaction) → (r : IsReadable bytes p) → drop 5 bytes ≡ map_text r.global ++ (flat_map map_text r.inputs ++ flat_map map_text r.outputs)
behind_magic bytes p r = ap (λ (l : List ℕ). drop 5 l) r.spelling

pub has_magic : (bytes : List ℕ) (p : PartialTransaction) → (r : IsReadable bytes p) → 5 ≤ length bytes
has_magic bytes p r = let parts = ap (λ (l : List ℕ). length l) r.spelling in omega (arith, parts, length-append magic (map_text r.global ++ (flat_map map_text r.inputs ++ flat_map map_text r.outputs)))

-- ---- the transaction

script_fits : (pairs : List Pair) → ArePairs pairs → (o : Option (List ℕ)) → value_of 7 pairs ≡ o → IsString (unwrap_or o [])
script_fits pairs are None e = (All-nil (λ (b : ℕ). b < 256), omega arith)
script_fits pairs are (Some v) e =
    let there = found_typed pairs 7 v (omega arith) e in
    let plain : IsPlain (typed 7 v) = All-contains IsPlain pairs (typed 7 v) are there in
    plain.value

stack_fits : (o : Option (List ℕ)) (stack : List (List ℕ)) → IsStackOf o stack → StackFits stack
stack_fits None stack e = subst StackFits (sym e) (All-nil IsString, omega arith)
stack_fits (Some text) stack h = h.0

input_fits : (i : TxIn) (pairs : List Pair) (j : TxIn) → InputFits i → ArePairs pairs → IsFinal i pairs j → InputFits j
input_fits i pairs j fits are h =
    let stack = stack_fits (value_of 8 pairs) j.witness h.witness in
    let script : IsString j.script = subst IsString (sym h.script) (script_fits pairs are (value_of 7 pairs) refl) in
    record {
      txid_len = ap (λ (o : OutPoint). length o.txid) h.prev ∙ fits.txid_len;
      txid = subst (λ (o : OutPoint). All (λ (b : ℕ). b < 256) o.txid) (sym h.prev) fits.txid;
      index = subst (λ (o : OutPoint). o.index < 2 ^ 32) (sym h.prev) fits.index;
      script = script.0;
      script_len = script.1;
      sequence = subst (λ (n : ℕ). n < 2 ^ 32) (sym h.sequence) fits.sequence;
      stack = stack.0;
      stack_len = stack.1;
    }

-- inputs made final have texts, and are as many
pub record MadeFit (inputs made : List TxIn) : Type 0 where
  pub fit : All InputFits made
  pub many : length made ≡ length inputs

made_fit : (inputs : List TxIn) (maps : List (List Pair)) (made : List TxIn) → All InputFits inputs → All ArePairs maps → AreFinal inputs maps made → MadeFit inputs made
made_fit [] [] [] fit are h = record { fit = All-nil InputFits; many = refl }
made_fit [] [] (j ∷ js) fit are h = absurd h
made_fit [] (m ∷ ms) js fit are h = absurd h
made_fit (i ∷ is) [] js fit are h = absurd h
made_fit (i ∷ is) (m ∷ ms) [] fit are h = absurd h
made_fit (i ∷ is) (m ∷ ms) (j ∷ js) fit are h =
    let rest = made_fit is ms js (All-tail InputFits i is fit) (All-tail ArePairs m ms are) h.1 in
    record { fit = All-cons InputFits j js (input_fits i m j (All-head InputFits i is fit) (All-head ArePairs m ms are) h.0) rest.fit; many = ap suc rest.many }

-- the form of the text is that of the witnesses
pub form_by : (inputs : List TxIn) (b e : Bool) → b ≡ not e → e ≡ are_empty inputs → IsTrue b ↔ Any (λ (i : TxIn). i.witness ≢ []) inputs
form_by inputs b true is empty = (λ t. absurd cc, λ a. let some = not_empty inputs a.0 a.1 a.2 a.3 a.4 in absurd cc)
form_by inputs b false is empty = (λ t. has_stack inputs (sym empty), λ a. is)

-- a transaction that is the payment of the PSBT, but for its inputs, which are final
pub record IsMade (p : PartialTransaction) (maps : List (List Pair)) (t : Transaction) : Type 0 where
  pub version : t.version ≡ p.tx.version
  pub locktime : t.locktime ≡ p.tx.locktime
  pub outputs : t.outputs ≡ p.tx.outputs
  pub final : AreFinal p.tx.inputs maps t.inputs
  pub form : IsTrue t.segwit ↔ HasWitness t

pub signed_by : (bytes : List ℕ) (p : PartialTransaction) (r : IsReadable bytes p) (t : Transaction) → IsMade p r.inputs t → IsSignedPsbt bytes t
signed_by bytes p r t m = record { psbt = p; readable = r; version = m.version; locktime = m.locktime; outputs = m.outputs; inputs = m.final; form = m.form }

pub text_by : (bytes : List ℕ) (p : PartialTransaction) (r : IsReadable bytes p) (t : Transaction) → IsMade p r.inputs t → IsTransaction t
text_by bytes p r t m =
    let w = r.psbt.text in
    let g = given bytes p r in
    let fit = made_fit p.tx.inputs r.inputs t.inputs w.inputs g.plain.are m.final in
    let many = fit.many in
    let some = w.inputs_some in
    let len = w.inputs_len in
    record {
      version = subst (λ (n : ℕ). n < 2 ^ 32) (sym m.version) w.version;
      locktime = subst (λ (n : ℕ). n < 2 ^ 32) (sym m.locktime) w.locktime;
      inputs = fit.fit;
      inputs_some = omega (arith, many, some);
      inputs_len = omega (arith, many, len);
      outputs = subst (λ (l : List TxOut). All OutputFits l) (sym m.outputs) w.outputs;
      outputs_some = subst (λ (l : List TxOut). 0 < length l) (sym m.outputs) w.outputs_some;
      outputs_len = subst (λ (l : List TxOut). length l < 2 ^ 64) (sym m.outputs) w.outputs_len;
      money = subst (λ (l : List TxOut). sum_by (λ (o : TxOut). o.value) l ≤ 2_100_000_000_000_000) (sym m.outputs) w.money;
      segregated = m.form;
    }

pub fault_by : (bytes : List ℕ) (p : PartialTransaction) (r : IsReadable bytes p) (e : SignedFault) → IsFirstFault r.inputs e → IsSignedFault bytes e
fault_by bytes p r (Psbt fault) first = absurd first.wrong
fault_by bytes p r (Unsigned index) first = (p, r, first)
fault_by bytes p r (Witness index) first = (p, r, first)
