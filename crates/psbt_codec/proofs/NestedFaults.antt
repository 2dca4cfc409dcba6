-- Reading the maps never ends in a fault of the magic, of bytes after the maps, or of a text.
use Rattle.std.proofs.Common.{◌≡◌, ℕ, zero, suc, Bool, true, false, cond, List, [], ◌∷◌, ◌++◌, length, ◌+◌, Result, Ok, Err, refl, subst}
use Rattle.std.specs.Prelude.{Option, Some, None, option_and_then, sum_by, ◌==◌}
use Rattle.fund_base.specs.declared.cursor.CutFault.{CutFault}
use Rattle.fund_base.specs.declared.cursor.CutFault.TheVariants as cuts
use Rattle.fund_base.specs.Cursor.{At, take_at, compact_at}
use Rattle.fund_base.specs.Parsing.{◌>>=◌, fault_as, string_at, whole_of, many_from}
use Rattle.tx_codec.specs.Reading.{legacy_tx_at}
use Rattle.tx_codec.specs.declared.fault.TxFault.{TxFault}
use Rattle.tx_codec.specs.declared.fault.TxFault.TheVariants as txs
use Rattle.tx_codec.specs.declared.tx.TxIn.{TxIn}
use Rattle.tx_codec.specs.declared.tx.TxOut.{TxOut}
use Rattle.psbt_codec.specs.declared.fault.PsbtFault.{PsbtFault}
use Rattle.psbt_codec.specs.declared.fault.PsbtFault.TheVariants.{Magic, Truncated, RepeatKey, NoUnsigned, Unsigned, NotBare, Field, Version, Mixed, Lacking, RequiredLock, WrongParent, Trailing, NotBase64}
use Rattle.psbt_codec.specs.declared.pairs.Part.{Part}
use Rattle.psbt_codec.specs.declared.pairs.Part.TheVariants.{Global, Input, Output, InputFields, OutputFields}
use Rattle.psbt_codec.specs.declared.psbt.Spent.{Spent}
use Rattle.psbt_codec.specs.Fault.{cut_fault, type_fault, unsigned_fault, shown}
use Rattle.psbt_codec.specs.Psbt.{Pair, pair_text}
use Rattle.psbt_codec.specs.Reading.{cut, start, number32_in, number64_in, count_in, txid_in, form_fits, unless, spent_in, kind_in, value_fits, keyed_at, pair_at, pairs_within, ends_or, unsigned_in, unsigned_of, input_at, each_at, next_input_at, next_output_at, whole_at, is_wrong, wrong_fault, right_from, needed, forms_at, counts_at, has_lock, input_in, input_fields_at, next_input_fields, output_in, output_fields_at, next_output_fields, payment_of, fields_at, in_version, behind_global, version_of, maps_at, value_of, map_at}

-- the faults that don't lie within the maps
abbrev pub is_outer : PsbtFault → Bool
is_outer Magic = true
is_outer (Trailing place) = true
is_outer NotBase64 = true
is_outer fault = false

-- reading that has no such fault
pub record IsInner {A : Type 0} (read : Result A PsbtFault) : Type 0 where
  pub inner : (e : PsbtFault) → read ≡ Err e → is_outer e ≡ false

done : {A : Type 0} (x : A) (e : PsbtFault) → Ok x ≡ Err e → is_outer e ≡ false
done x e is = absurd cc

fails : {A : Type 0} (d e : PsbtFault) → is_outer d ≡ false → ◌≡◌ {A = Result A PsbtFault} (Err d) (Err e) → is_outer e ≡ false
fails d e inner is = let same : d ≡ e = cc in subst (λ (x : PsbtFault). is_outer x ≡ false) same inner

-- a fault comes from one of the steps
then : {A B : Type 0} (read : Result A PsbtFault) (f : A → Result B PsbtFault) (e : PsbtFault) → (read >>= f) ≡ Err e → IsInner read → ((x : A) → f x ≡ Err e → is_outer e ≡ false) → is_outer e ≡ false
then (Ok x) f e is first later = later x is
then (Err d) f e is first later = first.inner e cc

either : {A : Type 0} (b : Bool) (x y : Result A PsbtFault) (e : PsbtFault) → cond b x y ≡ Err e → (x ≡ Err e → is_outer e ≡ false) → (y ≡ Err e → is_outer e ≡ false) → is_outer e ≡ false
either true x y e is p q = p is
either false x y e is p q = q is

told : {A E : Type 0} (tell : E → PsbtFault) (read : Result A E) → ((d : E) → is_outer (tell d) ≡ false) → IsInner (fault_as tell read)
told tell (Ok x) inner = record { inner = λ e is. done x e is }
told tell (Err d) inner = record { inner = λ e is. fails (tell d) e (inner d) is }

cut_inner : (d : CutFault) → is_outer (cut_fault d) ≡ false
cut_inner (cuts.Truncated place) = refl
cut_inner (cuts.LongCompact place) = refl

type_inner : (pair_place key_place : ℕ) (d : CutFault) → is_outer (type_fault pair_place key_place d) ≡ false
type_inner pair_place key_place (cuts.Truncated place) = refl
type_inner pair_place key_place (cuts.LongCompact place) = refl

unsigned_inner : (d : TxFault) → is_outer (unsigned_fault d) ≡ false
unsigned_inner (txs.Truncated place) = refl
unsigned_inner (txs.LongCompact place) = refl
unsigned_inner (txs.ValueRange output) = refl
unsigned_inner txs.NoInputs = refl
unsigned_inner txs.NoOutputs = refl
unsigned_inner txs.BadFlag = refl
unsigned_inner txs.EmptyWitness = refl
unsigned_inner (txs.Trailing place) = refl
unsigned_inner txs.Memory = refl

short : {A : Type 0} (read : Result A CutFault) → IsInner (cut read)
short read = told cut_fault read cut_inner

-- ---- a pair

kind_inner : (part : Part) (pair_place key_place : ℕ) (key : List ℕ) → IsInner (kind_in part pair_place key_place key)
unfolding kind_in
kind_inner part pair_place key_place key = record {
  inner = λ e is.
      let a = then _ _ e is in
      a (told (type_fault pair_place key_place) (compact_at (start key)) (type_inner pair_place key_place)) (λ kind ek.
      let b = either _ _ _ e ek in
      b (fails (Field pair_place) e refl) (done kind.0 e));
}

unless_inner : (right : Bool) (d e : PsbtFault) → is_outer d ≡ false → unless right d ≡ Err e → is_outer e ≡ false
unless_inner true d e inner is = done tt e is
unless_inner false d e inner is = fails d e inner is

value_inner : (part : Part) (place kind : ℕ) (value : List ℕ) → IsInner (value_fits part place kind value)
unfolding value_fits
value_inner part place kind value = record { inner = λ e is. unless_inner (form_fits part kind value) (Field place) e refl is }

keyed_inner : (part : Part) (before : List Pair) (place len : ℕ) (at : At) → IsInner (keyed_at part before place len at)
unfolding keyed_at
keyed_inner part before place len at = record {
  inner = λ e is.
      let a = then _ _ e is in
      a (short (take_at len at)) (λ key ea.
      let b = either _ _ _ e ea in
      b (fails (RepeatKey place) e refl) (λ eb.
      let c = then _ _ e eb in
      c (kind_inner part place at.place key.0) (λ kind ec.
      let d = then _ _ e ec in
      d (short (string_at key.1)) (λ value ed.
      let f = then _ _ e ed in
      f (value_inner part place kind value.0) (λ fits. done (record { key = key.0; value = value.0 }, value.1) e)))));
}

pair_inner : (part : Part) (before : List Pair) (at : At) → IsInner (pair_at part before at)
unfolding pair_at
pair_inner part before at = record {
  inner = λ e is.
      let a = then _ _ e is in
      a (short (compact_at at)) (λ len ea.
      let b = either _ _ _ e ea in
      b (done (None, len.1) e) (λ eb.
      let c = then _ _ e eb in
      c (keyed_inner part before at.place len.0 len.1) (λ read. done (Some read.0, read.1) e)));
}

-- ---- a map

ends_inner : {X : Type 0} (before : List Pair) (go_on : List Pair → At → Result X PsbtFault) (end : List Pair → At → X) → ((pairs : List Pair) (next : At) → IsInner (go_on pairs next)) → (o : Option Pair × At) (e : PsbtFault) → ends_or before go_on end o ≡ Err e → is_outer e ≡ false
ends_inner before go_on end later (None, at) e is = done (end before at) e is
ends_inner before go_on end later (Some pair, at) e is = (later (before ++ pair ∷ []) at).inner e is

pairs_inner : (n : ℕ) (part : Part) (before : List Pair) (at : At) → IsInner (pairs_within n part before at)
unfolding pairs_within
pairs_inner zero part before at = record { inner = λ e is. fails (Truncated at.place) e refl is }
pairs_inner (suc n) part before at = record {
  inner = λ e is.
      let a = then _ _ e is in
      a (pair_inner part before at) (λ o eo. ends_inner before (λ pairs next. pairs_within n part pairs next) (λ pairs next. (pairs, next)) (λ pairs next. pairs_inner n part pairs next) o e eo);
}

map_inner : (part : Part) (at : At) → IsInner (map_at part at)
map_inner part at = pairs_inner (length at.rest) part [] at

-- ---- the maps

unsigned_in_inner : (bytes : List ℕ) → IsInner (unsigned_in bytes)
unfolding unsigned_in
unsigned_in_inner bytes = record {
  inner = λ e is.
      let a = then _ _ e is in
      a (told unsigned_fault (whole_of (λ p. txs.Trailing p) (legacy_tx_at (start bytes))) unsigned_inner) (λ tx ea.
      let b = either _ _ _ e ea in
      b (done tx e) (fails NotBare e refl));
}

unsigned_of_inner : (o : Option (List ℕ)) → IsInner (unsigned_of o)
unsigned_of_inner None = record { inner = λ e is. fails NoUnsigned e refl is }
unsigned_of_inner (Some bytes) = unsigned_in_inner bytes

input_inner : (index : ℕ) (input : TxIn) (at : At) → IsInner (input_at index input at)
unfolding input_at
input_inner index input at = record {
  inner = λ e is.
      let a = then _ _ e is in
      a (map_inner Input at) (λ pairs ea.
      let b = either _ _ _ e ea in
      b (done (spent_in pairs.0, pairs.1) e) (fails (WrongParent (shown index)) e refl));
}

each_inner : {S X : Type 0} (part : S → X → At → Result (S × At) PsbtFault) → ((before : S) (x : X) (at : At) → IsInner (part before x at)) → (xs : List X) (before : S) (at : At) → IsInner (each_at part before xs at)
unfolding each_at
each_inner part inner [] before at = record { inner = λ e is. done (before, at) e is }
each_inner part inner (x ∷ xs) before at = record {
  inner = λ e is.
      let a = then _ _ e is in
      a (inner before x at) (λ read. (each_inner part inner xs read.0 read.1).inner e);
}

next_input_inner : (before : List Spent) (input : TxIn) (at : At) → IsInner (next_input_at before input at)
unfolding next_input_at
next_input_inner before input at = record {
  inner = λ e is.
      let a = then _ _ e is in
      a (input_inner (length before) input at) (λ spent. done (before ++ spent.0 ∷ [], spent.1) e);
}

next_output_inner : (before : Unit {0}) (output : TxOut) (at : At) → IsInner (next_output_at before output at)
unfolding next_output_at
next_output_inner before output at = record {
  inner = λ e is.
      let a = then _ _ e is in
      a (map_inner Output at) (λ pairs. done (tt, pairs.1) e);
}

whole_inner : (pairs : List Pair) (at : At) → IsInner (whole_at pairs at)
unfolding whole_at
whole_inner pairs at = record {
  inner = λ e is.
      let a = then _ _ e is in
      a (unsigned_of_inner (value_of 0 pairs)) (λ tx ea.
      let b = then _ _ e ea in
      b (each_inner next_input_at next_input_inner tx.inputs [] at) (λ spent eb.
      let c = then _ _ e eb in
      c (each_inner next_output_at next_output_inner tx.outputs tt spent.1) (λ outputs. done (record { tx = tx; spent = spent.0 }, outputs.1) e)));
}

-- ---- version 2

wrong_inner : (kind place : ℕ) → is_outer (wrong_fault kind place) ≡ false
wrong_inner kind place = by (kind == 0)
  where
    by : (b : Bool) → is_outer (cond b (Mixed place) (Field place)) ≡ false
    by true = refl
    by false = refl

right_inner : (kind place : ℕ) (pairs : List Pair) → IsInner (right_from kind place pairs)
unfolding right_from
right_inner kind place [] = record { inner = λ e is. done tt e is }
right_inner kind place (p ∷ pairs) = record {
  inner = λ e is.
      let b = either (is_wrong kind p) _ _ e is in
      b (fails (wrong_fault kind place) e (wrong_inner kind place)) (λ later. (right_inner kind (place + length (pair_text p)) pairs).inner e later);
}

needed_inner : {X : Type 0} (kind : ℕ) (o : Option X) → IsInner (needed kind o)
needed_inner kind (Some x) = record { inner = λ e is. done x e is }
needed_inner kind None = record { inner = λ e is. fails (Lacking kind) e refl is }

forms_inner : (place : ℕ) (pairs : List Pair) → IsInner (forms_at place pairs)
unfolding forms_at
forms_inner place pairs = record {
  inner = λ e is.
      let a = then _ _ e is in
      a (right_inner 0 place pairs) (λ _ ea.
      let b = then _ _ e ea in
      b (right_inner 2 place pairs) (λ _ eb.
      let c = then _ _ e eb in
      c (right_inner 3 place pairs) (λ _ ec.
      let d = then _ _ e ec in
      d (right_inner 4 place pairs) (λ _ ed. (right_inner 5 place pairs).inner e ed))));
}

counts_inner : (place : ℕ) (pairs : List Pair) → IsInner (counts_at place pairs)
unfolding counts_at
counts_inner place pairs = record {
  inner = λ e is.
      let a = then _ _ e is in
      a (forms_inner place pairs) (λ _ ea.
      let b = then _ _ e ea in
      b (needed_inner 2 (option_and_then number32_in (value_of 2 pairs))) (λ version eb.
      let c = then _ _ e eb in
      c (needed_inner 4 (option_and_then count_in (value_of 4 pairs))) (λ inputs ec.
      let d = then _ _ e ec in
      d (needed_inner 5 (option_and_then count_in (value_of 5 pairs))) (λ outputs ed.
      let f = either (inputs == 0) _ _ e ed in
      f (fails (Unsigned txs.NoInputs) e refl) (λ ef.
      let g = either (outputs == 0) _ _ e ef in
      g (fails (Unsigned txs.NoOutputs) e refl) (done _ e))))));
}

input_in_inner : (number : ℕ) (pairs : List Pair) → IsInner (input_in number pairs)
unfolding input_in
input_in_inner number pairs = record {
  inner = λ e is.
      let a = then _ _ e is in
      a (needed_inner 14 (option_and_then txid_in (value_of 14 pairs))) (λ txid ea.
      let b = then _ _ e ea in
      b (needed_inner 15 (option_and_then number32_in (value_of 15 pairs))) (λ index eb.
      let c = either (has_lock pairs) _ _ e eb in
      c (fails (RequiredLock (shown number)) e refl) (done _ e)));
}

next_fields_inner : (before : List (TxIn × Spent)) (at : At) → IsInner (next_input_fields before at)
unfolding input_fields_at
next_fields_inner before at = record {
  inner = λ e is.
      let a = then _ _ e is in
      a (map_inner InputFields at) (λ pairs ea.
      let b = then _ _ e ea in
      b (input_in_inner (length before) pairs.0) (λ input eb.
      let c = either _ _ _ e eb in
      c (done ((input, spent_in pairs.0), pairs.1) e) (fails (WrongParent (shown (length before))) e refl)));
}

output_in_inner : (number sum : ℕ) (pairs : List Pair) → IsInner (output_in number sum pairs)
unfolding output_in
output_in_inner number sum pairs = record {
  inner = λ e is.
      let a = then _ _ e is in
      a (needed_inner 3 (option_and_then number64_in (value_of 3 pairs))) (λ value ea.
      let b = then _ _ e ea in
      b (needed_inner 4 (value_of 4 pairs)) (λ script eb.
      let c = either _ _ _ e eb in
      c (fails (Unsigned (txs.ValueRange (shown number))) e refl) (done _ e)));
}

next_output_fields_inner : (before : List TxOut) (at : At) → IsInner (next_output_fields before at)
unfolding output_fields_at
next_output_fields_inner before at = record {
  inner = λ e is.
      let a = then _ _ e is in
      a (map_inner OutputFields at) (λ pairs ea.
      let b = then _ _ e ea in
      b (output_in_inner (length before) (sum_by (λ (o : TxOut). o.value) before) pairs.0) (λ output. done (output, pairs.1) e));
}

many_inner : {X : Type 0} (item : List X → At → Result (X × At) PsbtFault) → ((before : List X) (at : At) → IsInner (item before at)) → (n : ℕ) (before : List X) (at : At) → IsInner (many_from item n before at)
unfolding many_from
many_inner item inner zero before at = record { inner = λ e is. done (before, at) e is }
many_inner item inner (suc n) before at = record {
  inner = λ e is.
      let a = then _ _ e is in
      a (inner before at) (λ read. (many_inner item inner n (before ++ read.0 ∷ []) read.1).inner e);
}

fields_inner : (place : ℕ) (pairs : List Pair) (at : At) → IsInner (fields_at place pairs at)
unfolding fields_at
fields_inner place pairs at = record {
  inner = λ e is.
      let a = then _ _ e is in
      a (counts_inner place pairs) (λ counts ea.
      let b = then _ _ e ea in
      b (many_inner next_input_fields next_fields_inner counts.inputs [] at) (λ inputs eb.
      let c = then _ _ e eb in
      c (many_inner next_output_fields next_output_fields_inner counts.outputs [] inputs.1) (λ outputs. done (payment_of counts inputs.0 outputs.0, outputs.1) e)));
}

-- ---- the maps of either version

behind_inner : (place : ℕ) (pairs : List Pair) (at : At) → IsInner (behind_global place pairs at)
unfolding behind_global
behind_inner place pairs at = record {
  inner = λ e is.
      let a = either (version_of pairs == 0) _ _ e is in
      a (λ first. let f = then (whole_at pairs at) (in_version 0) e first in f (whole_inner pairs at) (λ read. done _ e)) (λ other.
      let b = either (version_of pairs == 2) _ _ e other in
      b (λ second. let f = then (fields_at place pairs at) (in_version 2) e second in f (fields_inner place pairs at) (λ read. done _ e)) (fails (Version (version_of pairs)) e refl));
}

pub maps_inner : (at : At) → IsInner (maps_at at)
unfolding maps_at
maps_inner at = record {
  inner = λ e is.
      let a = then _ _ e is in
      a (map_inner Global at) (λ pairs. (behind_inner at.place pairs.0 pairs.1).inner e);
}
