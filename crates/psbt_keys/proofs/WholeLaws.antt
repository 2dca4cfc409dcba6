-- The maps of a PSBT, and what is written of them.
use Rattle.std.proofs.Common.{◌≡◌, ◌≢◌, ◌∙◌, ℕ, suc, List, [], ◌∷◌, ◌++◌, length, drop, All, refl, sym, ap, subst, inl, inr, append_assoc, arith, length-append}
use Rattle.std.specs.Prelude.{AllPairs}
use Rattle.std.specs.List.{AllZip, flat_map, zip}
use Rattle.std.proofs.lemmas.List.Elements.{All-cons, All-nil, All-weaker}
use Rattle.fund_base.specs.CompactSize.{compact}
use Rattle.tx_codec.specs.declared.tx.TxIn.{TxIn}
use Rattle.tx_codec.specs.declared.tx.TxOut.{TxOut}
use Rattle.psbt_codec.specs.PartialTransaction.{PartialTransaction}
use Rattle.psbt_codec.specs.Psbt.{AreMapsOf, HaveOtherKeys, IsInputFields, IsInputMap, IsMap, IsOutputFields, IsOutputMap, IsPair, IsPsbt, IsReadable, Pair, global_field_types, global_types, input_field_types, input_types, magic, map_text, output_field_types}
use Rattle.psbt_codec.specs.declared.psbt.Spent.{Spent}
use Rattle.psbt_codec.proofs.PairLaws.{compact_some}
use Rattle.std.proofs.lemmas.List.{append-nil}
use Rattle.signed_psbt.proofs.WholeLaws.{behind_magic}
use Rattle.signed_psbt.specs.Maps.{ArePairs, IsPlain}
use Rattle.keys_text.specs.PlainKeys.{PlainKeys}
use Rattle.psbt_keys.specs.Extended.{IsConflict, IsFirstConflict}
use Rattle.psbt_keys.specs.Keyed.{IsKeyFault, IsKeyed}
use Rattle.psbt_keys.specs.declared.fault.KeyFault.{KeyFault}
use Rattle.psbt_keys.specs.declared.fault.KeyFault.TheVariants.{Global, Input, Output}
use Rattle.psbt_keys.specs.declared.fault.MapFault.{MapFault}
use Rattle.psbt_keys.specs.declared.fault.MapFault.TheVariants.{Differs, Memory as NoMemory}
use Rattle.psbt_codec.specs.Fault.{shown}
use Rattle.psbt_keys.proofs.ExtendLaws.{agreed}
use Rattle.psbt_keys.proofs.MapsLaws.{all_agree}
use Rattle.psbt_keys.specs.Origins.{global_due, input_dues, output_dues}
use Rattle.psbt_keys.specs.Placing.{AreWritten, IsWritten}

-- ---- what is known of the maps

-- a map can be read pair by pair, and no key stands in it twice
pub record IsSound (pairs : List Pair) : Type 0 where
  pub are : ArePairs pairs
  pub alone : AllPairs HaveOtherKeys pairs

plain : (meant : List ℕ) (p : Pair) → IsPair meant p → IsPlain p
plain meant p is =
    let key = is.key in
    let parts = ap (λ (l : List ℕ). length l) key.parts in
    let one = compact_some key.kind in
    record {
      some = λ none. omega (arith, ap (λ (l : List ℕ). length l) none, parts, one, length-append (compact key.kind) key.key_data);
      key = is.key_fits;
      value = is.value_fits;
    }

sound : (meant : List ℕ) (pairs : List Pair) → IsMap meant pairs → IsSound pairs
sound meant pairs is = record { are = All-weaker (IsPair meant) IsPlain (plain meant) pairs is.each; alone = is.distinct }

-- as many such maps
pub record AreSound (maps : List (List Pair)) (n : ℕ) : Type 0 where
  pub are : All ArePairs maps
  pub alone : All (AllPairs HaveOtherKeys) maps
  pub many : n ≡ length maps

all_sound : {X : Type 0} → (R : X → List Pair → Type 0) → ((x : X) (m : List Pair) → R x m → IsSound m) → (xs : List X) (maps : List (List Pair)) → AllZip R xs maps → AreSound maps (length xs)
all_sound R each [] [] h = record { are = All-nil ArePairs; alone = All-nil (AllPairs HaveOtherKeys); many = refl }
all_sound R each [] (m ∷ maps) h = absurd h
all_sound R each (x ∷ xs) [] h = absurd h
all_sound R each (x ∷ xs) (m ∷ maps) h =
    let rest = all_sound R each xs maps h.1 in
    let here = each x m h.0 in
    record { are = All-cons ArePairs m maps here.are rest.are; alone = All-cons (AllPairs HaveOtherKeys) m maps here.alone rest.alone; many = ap suc rest.many }

zip_len : (inputs : List TxIn) (spent : List Spent) → length spent ≡ length inputs → length (zip inputs spent) ≡ length inputs
zip_len [] spent e = refl
zip_len (i ∷ inputs) [] e = absurd (omega (arith, e))
zip_len (i ∷ inputs) (s ∷ spent) e = ap suc (zip_len inputs spent (omega (arith, e)))

-- the maps of a PSBT
pub record Given (p : PartialTransaction) (global : List Pair) (inputs outputs : List (List Pair)) : Type 0 where
  pub global_is : IsSound global
  pub inputs_are : AreSound inputs (length p.tx.inputs)
  pub spent : length p.spent ≡ length inputs
  pub outputs_are : AreSound outputs (length p.tx.outputs)

given_by : (p : PartialTransaction) (version : ℕ) (global : List Pair) (inputs outputs : List (List Pair)) → IsPsbt p → AreMapsOf version p global inputs outputs → Given p global inputs outputs
given_by p version global inputs outputs is (inl h) =
    let maps = all_sound IsInputMap (λ s m i. sound input_types m i.pairs_fit) p.spent inputs h.1.inputs_are in
    record {
      global_is = sound global_types global h.1.global_is.pairs_fit;
      inputs_are = record { are = maps.are; alone = maps.alone; many = sym is.spent_len ∙ maps.many };
      spent = maps.many;
      outputs_are = all_sound IsOutputMap (λ o m i. sound [] m i) p.tx.outputs outputs h.1.outputs_are;
    }
given_by p version global inputs outputs is (inr h) =
    let maps = all_sound IsInputFields (λ k m i. sound input_field_types m i.pairs_fit) (zip p.tx.inputs p.spent) inputs h.1.inputs_are in
    let len = zip_len p.tx.inputs p.spent is.spent_len in
    record {
      global_is = sound global_field_types global h.1.global_is.pairs_fit;
      inputs_are = record { are = maps.are; alone = maps.alone; many = sym len ∙ maps.many };
      spent = is.spent_len ∙ sym len ∙ maps.many;
      outputs_are = all_sound IsOutputFields (λ o m i. sound output_field_types m i.pairs_fit) p.tx.outputs outputs h.1.outputs_are;
    }

pub given : (bytes : List ℕ) (p : PartialTransaction) → (r : IsReadable bytes p) → Given p r.global r.inputs r.outputs
given bytes p r = given_by p r.version r.global r.inputs r.outputs r.psbt r.maps

-- ---- what is written

pub texts : (front one two three : List ℕ) (g : List Pair) (is os : List (List Pair)) → one ≡ front ++ map_text g → two ≡ one ++ flat_map map_text is → three ≡ two ++ flat_map map_text os → three ≡ front ++ (map_text g ++ (flat_map map_text is ++ flat_map map_text os))
texts front one two three g is os first second third =
    third
    ∙ ap (λ (l : List ℕ). l ++ flat_map map_text os) (second ∙ ap (λ (l : List ℕ). l ++ flat_map map_text is) first)
    ∙ append_assoc (front ++ map_text g) (flat_map map_text is) (flat_map map_text os)
    ∙ append_assoc front (map_text g) (flat_map map_text is ++ flat_map map_text os)

pub keyed_by : (k : PlainKeys) (bytes : List ℕ) (p : PartialTransaction) (r : IsReadable bytes p) (one two three : List ℕ) → IsWritten (global_due k) r.global magic one → AreWritten (input_dues k p.tx.inputs p.spent) r.inputs one two → AreWritten (output_dues k p.tx.outputs) r.outputs two three → IsKeyed k bytes three
keyed_by k bytes p r one two three g is os = record {
  psbt = p;
  readable = r;
  global = g.pairs;
  inputs = is.maps;
  outputs = os.maps;
  spelling = texts magic one two three g.pairs is.maps os.maps g.text_is is.text_is os.text_is;
  global_is = g.extended;
  inputs_are = is.extended;
  outputs_are = os.extended;
}

-- ---- faults

pub fault_in_global : (k : PlainKeys) (bytes : List ℕ) (p : PartialTransaction) (r : IsReadable bytes p) (e : KeyFault) → (place : ℕ) × (kind : ℕ) × (e ≡ Global (shown place)) × IsConflict (global_due k) r.global place kind → IsKeyFault k bytes e
fault_in_global k bytes p r e h = subst (λ (f : KeyFault). IsKeyFault k bytes f) (sym h.2) (p, r, (h.0, h.1, refl, h.3))

pub fault_in_input : (k : PlainKeys) (bytes : List ℕ) (p : PartialTransaction) (r : IsReadable bytes p) (one : List ℕ) (e : KeyFault) → IsWritten (global_due k) r.global magic one
    → (number : ℕ) × (kind : ℕ) × (e ≡ Input number kind) × IsFirstConflict (input_dues k p.tx.inputs p.spent) r.inputs number kind → IsKeyFault k bytes e
fault_in_input k bytes p r one e g h = subst (λ (f : KeyFault). IsKeyFault k bytes f) (sym h.2) (p, r, (agreed (global_due k) r.global g.pairs g.extended, h.3))

pub fault_in_output : (k : PlainKeys) (bytes : List ℕ) (p : PartialTransaction) (r : IsReadable bytes p) (one two : List ℕ) (e : KeyFault) → IsWritten (global_due k) r.global magic one → AreWritten (input_dues k p.tx.inputs p.spent) r.inputs one two
    → (number : ℕ) × (kind : ℕ) × (e ≡ Output number kind) × IsFirstConflict (output_dues k p.tx.outputs) r.outputs number kind → IsKeyFault k bytes e
fault_in_output k bytes p r one two e g is h = subst (λ (f : KeyFault). IsKeyFault k bytes f) (sym h.2) (p, r, (agreed (global_due k) r.global g.pairs g.extended, all_agree (input_dues k p.tx.inputs p.spent) r.inputs is.maps is.extended, h.3))

-- ---- the walk over the maps

pub at_global : (bytes : List ℕ) (p : PartialTransaction) (r : IsReadable bytes p) (rest : List ℕ) → rest ≡ drop 5 bytes → rest ≡ map_text r.global ++ (flat_map map_text r.inputs ++ flat_map map_text r.outputs)
at_global bytes p r rest e = e ∙ behind_magic bytes p r

-- the global map was written
pub record AfterGlobal (k : PlainKeys) (bytes : List ℕ) (p : PartialTransaction) (r : IsReadable bytes p) (one rest : List ℕ) : Type 0 where
  pub written : IsWritten (global_due k) r.global magic one
  pub left : rest ≡ flat_map map_text r.inputs ++ flat_map map_text r.outputs

pub after_global : (k : PlainKeys) (bytes : List ℕ) (p : PartialTransaction) (r : IsReadable bytes p) (front one rest : List ℕ) → front ≡ magic → IsWritten (global_due k) r.global front one × (rest ≡ flat_map map_text r.inputs ++ flat_map map_text r.outputs) → AfterGlobal k bytes p r one rest
after_global k bytes p r front one rest is h = record { written = subst (λ (l : List ℕ). IsWritten (global_due k) r.global l one) is h.0; left = h.1 }

-- the inputs' maps were written
pub record AfterInputs (k : PlainKeys) (bytes : List ℕ) (p : PartialTransaction) (r : IsReadable bytes p) (one two rest : List ℕ) : Type 0 where
  pub written : AreWritten (input_dues k p.tx.inputs p.spent) r.inputs one two
  pub left : rest ≡ flat_map map_text r.outputs ++ []

pub after_inputs : (k : PlainKeys) (bytes : List ℕ) (p : PartialTransaction) (r : IsReadable bytes p) (one two rest : List ℕ) (ins : List TxIn) (sp : List Spent) → ins ≡ p.tx.inputs → sp ≡ p.spent → AreWritten (input_dues k ins sp) r.inputs one two × (rest ≡ flat_map map_text r.outputs) → AfterInputs k bytes p r one two rest
after_inputs k bytes p r one two rest ins sp is_ins is_sp h =
    let first = subst (λ (l : List TxIn). AreWritten (input_dues k l sp) r.inputs one two) is_ins h.0 in
    record { written = subst (λ (l : List Spent). AreWritten (input_dues k p.tx.inputs l) r.inputs one two) is_sp first; left = h.1 ∙ sym (append-nil (flat_map map_text r.outputs)) }

pub after_outputs : (k : PlainKeys) (bytes : List ℕ) (p : PartialTransaction) (r : IsReadable bytes p) (two three rest : List ℕ) (os : List TxOut) → os ≡ p.tx.outputs → AreWritten (output_dues k os) r.outputs two three × (rest ≡ []) → AreWritten (output_dues k p.tx.outputs) r.outputs two three
after_outputs k bytes p r two three rest os is h = subst (λ (l : List TxOut). AreWritten (output_dues k l) r.outputs two three) is h.0

-- as many maps as inputs and outputs
pub many_inputs : (bytes : List ℕ) (p : PartialTransaction) (r : IsReadable bytes p) (ins : List TxIn) → ins ≡ p.tx.inputs → length ins ≡ length r.inputs
many_inputs bytes p r ins is = ap (λ (l : List TxIn). length l) is ∙ (given bytes p r).inputs_are.many

pub many_spent : (bytes : List ℕ) (p : PartialTransaction) (r : IsReadable bytes p) (sp : List Spent) → sp ≡ p.spent → length sp ≡ length r.inputs
many_spent bytes p r sp is = ap (λ (l : List Spent). length l) is ∙ (given bytes p r).spent

pub many_outputs : (bytes : List ℕ) (p : PartialTransaction) (r : IsReadable bytes p) (os : List TxOut) → os ≡ p.tx.outputs → length os ≡ length r.outputs
many_outputs bytes p r os is = ap (λ (l : List TxOut). length l) is ∙ (given bytes p r).outputs_are.many

-- the first conflict of the inputs, and of the outputs
pub in_inputs : (k : PlainKeys) (bytes : List ℕ) (p : PartialTransaction) (r : IsReadable bytes p) (one rest : List ℕ) (ins : List TxIn) (sp : List Spent) (e : KeyFault) → ins ≡ p.tx.inputs → sp ≡ p.spent → AfterGlobal k bytes p r one rest
    → (number : ℕ) × (kind : ℕ) × (e ≡ Input number kind) × IsFirstConflict (input_dues k ins sp) r.inputs number kind → IsKeyFault k bytes e
in_inputs k bytes p r one rest ins sp e is_ins is_sp g h =
    let first = subst (λ (l : List TxIn). IsFirstConflict (input_dues k l sp) r.inputs h.0 h.1) is_ins h.3 in
    let whole = subst (λ (l : List Spent). IsFirstConflict (input_dues k p.tx.inputs l) r.inputs h.0 h.1) is_sp first in
    fault_in_input k bytes p r one e g.written (h.0, h.1, h.2, whole)

pub in_outputs : (k : PlainKeys) (bytes : List ℕ) (p : PartialTransaction) (r : IsReadable bytes p) (one two rest left : List ℕ) (os : List TxOut) (e : KeyFault) → os ≡ p.tx.outputs → AfterGlobal k bytes p r one rest → AfterInputs k bytes p r one two left
    → (number : ℕ) × (kind : ℕ) × (e ≡ Output number kind) × IsFirstConflict (output_dues k os) r.outputs number kind → IsKeyFault k bytes e
in_outputs k bytes p r one two rest left os e is g i h =
    fault_in_output k bytes p r one two e g.written i.written (h.0, h.1, h.2, subst (λ (l : List TxOut). IsFirstConflict (output_dues k l) r.outputs h.0 h.1) is h.3)

-- the fault of a map as one of the PSBT
pub told : (K : ℕ → ℕ → KeyFault) (fault : MapFault) (e memory : KeyFault) (due pairs : List Pair) → ((place kind : ℕ) → fault ≡ Differs place kind → e ≡ K place kind) → (fault ≡ NoMemory → e ≡ memory)
    → (fault ≢ NoMemory → (place : ℕ) × (kind : ℕ) × (fault ≡ Differs place kind) × IsConflict due pairs place kind) → e ≢ memory → (place : ℕ) × (kind : ℕ) × (e ≡ K place kind) × IsConflict due pairs place kind
told K fault e memory due pairs differs short h other = let w = h (λ m. other (short m)) in (w.0, w.1, differs w.0 w.1 w.2, w.3)
