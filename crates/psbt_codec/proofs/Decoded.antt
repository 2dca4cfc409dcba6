-- What the values of a map hold: each text that is read there is read as what it spells.
use Rattle.std.proofs.Common.{◌≡◌, ◌≢◌, ℕ, ◌^◌, ◌<◌, true, false, List, [], ◌∷◌, length, get_or, All, Result, Ok, Err, refl, sym, ap, subst, ◌∙◌, arith, inl, inr}
use Rattle.std.specs.Prelude.{Option, Some, None, option_map, option_and_then, is_some, IfSome, Contains, AllPairs, ◌⊎◌, ◌==◌}
use Rattle.std.specs.Result.{result_ok}
use Rattle.std.proofs.lemmas.Bool.{cases_Bool, both_ways, false_from_ne_true, eqb-true, eq-eqb, and_from, ltb-true, lt-ltb, and_parts}
use Rattle.std.proofs.lemmas.List.{nil_from_length, get_or_default}
use Rattle.std.proofs.lemmas.List.Folds.{list_all_at}
use Rattle.std.proofs.lemmas.List.Elements.{All-head, All-tail}
use Rattle.std.proofs.lemmas.Option.{same_Some}
use Rattle.std.proofs.lemmas.Slice.Eq.{bytes_eq-Decides}
use Rattle.std.specs.Int.{w32, w64, to_le_bytes}
use Rattle.fund_base.specs.CompactSize.{compact}
use Rattle.fund_base.specs.Cursor.{At, IsBytes, take_at as bytes_at, number_at, compact_at}
use Rattle.fund_base.specs.declared.cursor.CutFault.{CutFault}
use Rattle.fund_base.specs.declared.cursor.CutFault.TheVariants as cuts
use Rattle.fund_base.proofs.Laws.{bind_ok, bind_is, guard_met, ok_is, told_ok, told_is, whole_takes, whole_again, Reads}
use Rattle.fund_base.proofs.LawsOfNumbers.{number32_reads, number64_reads, bytes_reads, count_reads}
use Rattle.tx_codec.specs.declared.fault.TxFault.{TxFault}
use Rattle.tx_codec.specs.declared.fault.TxFault.TheVariants as txs
use Rattle.tx_codec.specs.declared.tx.TxIn.{TxIn}
use Rattle.tx_codec.specs.declared.tx.TxOut.{TxOut}
use Rattle.tx_codec.specs.Reading.{tx_at, legacy_tx_at, output_in}
use Rattle.tx_codec.specs.Transaction.{Transaction}
use Rattle.tx_codec.specs.TransactionText.{bare_text, text_of, output_text, IsTransaction, IsLegacy}
use Rattle.tx_codec.proofs.Laws.{tx_reads, legacy_tx_reads}
use Rattle.tx_codec.proofs.PartLaws.{FitsBehind, output_reads}
use Rattle.psbt_codec.specs.Fault.{unsigned_fault}
use Rattle.psbt_codec.specs.Psbt.{Pair, HaveOtherKeys, HasKnownPair, typed, IsUnsigned, IsParent, IsPaid}
use Rattle.psbt_codec.specs.Reading.{start, tx_in, paid_in, all_of, number32_in, number64_in, count_in, txid_in, are_bare, unsigned_in, value_of, fits_input}
use Rattle.psbt_codec.proofs.MapMeaning.{found_typed, told_value, tells_value}

-- what is decoded fits and has this text, and such a text is decoded as it
pub record Decodes {X : Type 0} (decode : List ℕ → Option X) (text : X → List ℕ) (Fits : X → Type 0) : Type 0 where
  pub takes : (bytes : List ℕ) (x : X) → IsBytes bytes → decode bytes ≡ Some x → Fits x × (bytes ≡ text x)
  pub again : (x : X) → Fits x → decode (text x) ≡ Some x

some_ok : {X E : Type 0} (r : Result X E) (x : X) → result_ok r ≡ Some x → r ≡ Ok x
some_ok (Ok y) x e = cc
some_ok (Err d) x e = absurd cc

pub tx_decodes : Decodes tx_in text_of IsTransaction
tx_decodes = record {
  takes = λ bytes x fits e. whole_takes (λ p. txs.Trailing p) tx_at text_of IsTransaction tx_reads (start bytes) x fits (some_ok _ x e);
  again = λ x fits. ap (λ (r : Result Transaction TxFault). result_ok r) (whole_again (λ p. txs.Trailing p) tx_at text_of IsTransaction tx_reads (start (text_of x)) x fits refl);
}

pub paid_decodes : Decodes paid_in output_text IsPaid
unfolding paid_in
paid_decodes = record {
  takes = λ bytes x fits e.
      let t = whole_takes (λ p. txs.Trailing p) (output_in []) output_text (FitsBehind []) (output_reads []) (start bytes) x fits (some_ok _ x e) in
      (record { fits = t.0.fits; money = omega (arith, t.0.range) }, t.1);
  again = λ x fits.
      let right : FitsBehind [] x = record { fits = fits.fits; range = omega (arith, fits.money) } in
      ap (λ (r : Result TxOut TxFault). result_ok r) (whole_again (λ p. txs.Trailing p) (output_in []) output_text (FitsBehind []) (output_reads []) (start (output_text x)) x right refl);
}

-- what is decoded by reading all of the bytes
all_decodes : {X : Type 0} (item : At → Result (X × At) CutFault) (text : X → List ℕ) (Fits : X → Type 0) → Reads item text Fits → Decodes (λ bytes. all_of (item (start bytes))) text Fits
all_decodes {X = X} item text Fits laws = record {
  takes = λ bytes x fits e. whole_takes (λ p. cuts.Truncated p) item text Fits laws (start bytes) x fits (some_ok _ x e);
  again = λ x fits. ap (λ (r : Result X CutFault). result_ok r) (whole_again (λ p. cuts.Truncated p) item text Fits laws (start (text x)) x fits refl);
}

pub number32_decodes : Decodes number32_in (to_le_bytes w32) (λ n. n < 2 ^ 32)
unfolding number32_in
number32_decodes = all_decodes (number_at w32) (to_le_bytes w32) (λ n. n < 2 ^ 32) number32_reads

pub number64_decodes : Decodes number64_in (to_le_bytes w64) (λ n. n < 2 ^ 64)
unfolding number64_in
number64_decodes = all_decodes (number_at w64) (to_le_bytes w64) (λ n. n < 2 ^ 64) number64_reads

pub count_decodes : Decodes count_in compact (λ n. n < 2 ^ 64)
unfolding count_in
count_decodes = all_decodes compact_at compact (λ n. n < 2 ^ 64) count_reads

-- a txid of 32 bytes
abbrev pub IsTxid : List ℕ → Type 0
IsTxid x = (length x ≡ 32) × IsBytes x

pub txid_decodes : Decodes txid_in (λ x. x) IsTxid
unfolding txid_in
txid_decodes = all_decodes (bytes_at 32) (λ x. x) IsTxid (bytes_reads 32)

-- ---- an input's map

-- what is known, given by the value of a type
pub record Known {X : Type 0} (pairs : List Pair) (kind : ℕ) (text : X → List ℕ) (Fits : X → Type 0) (known : Option X) : Type 0 where
  pub tells : HasKnownPair pairs kind text known
  pub fits : IfSome known Fits

pub decoded : {X : Type 0} (o : Option X) → is_some o ≡ true → (x : X) × (o ≡ Some x)
decoded (Some x) some = (x, refl)
decoded None some = absurd cc

known_at : {X : Type 0} (decode : List ℕ → Option X) (text : X → List ℕ) (Fits : X → Type 0) → Decodes decode text Fits → (pairs : List Pair) (kind : ℕ) → kind < 253 → AllPairs HaveOtherKeys pairs
    → ((value : List ℕ) → Contains pairs (typed kind value) → IsBytes value × (is_some (decode value) ≡ true)) → (o : Option (List ℕ)) → value_of kind pairs ≡ o → Known pairs kind text Fits (option_and_then decode o)
known_at decode text Fits laws pairs kind small distinct right None e = record { tells = tells_value pairs kind text None small distinct e; fits = tt }
known_at {X = X} decode text Fits laws pairs kind small distinct right (Some value) e =
    let r = right value (found_typed pairs kind value small e) in
    let d = decoded (decode value) r.1 in
    let t = laws.takes value d.0 r.0 d.1 in
    let told : value_of kind pairs ≡ option_map text (Some d.0) = e ∙ ap (λ (v : List ℕ). Some v) t.1 in
    rw d.1 (record { tells = tells_value pairs kind text (Some d.0) small distinct told; fits = t.0 })

-- a map whose values of this type are decoded tells what they hold
pub known_is : {X : Type 0} (decode : List ℕ → Option X) (text : X → List ℕ) (Fits : X → Type 0) → Decodes decode text Fits → (pairs : List Pair) (kind : ℕ) → kind < 253 → AllPairs HaveOtherKeys pairs
    → ((value : List ℕ) → Contains pairs (typed kind value) → IsBytes value × (is_some (decode value) ≡ true)) → Known pairs kind text Fits (option_and_then decode (value_of kind pairs))
known_is decode text Fits laws pairs kind small distinct right = known_at decode text Fits laws pairs kind small distinct right (value_of kind pairs) refl

again_at : {X : Type 0} (decode : List ℕ → Option X) (text : X → List ℕ) (Fits : X → Type 0) → Decodes decode text Fits → (known : Option X) → IfSome known Fits → option_and_then decode (option_map text known) ≡ known
again_at decode text Fits laws None fits = refl
again_at decode text Fits laws (Some x) fits = laws.again x fits

-- and what a map tells is decoded from its value
pub known_again : {X : Type 0} (decode : List ℕ → Option X) (text : X → List ℕ) (Fits : X → Type 0) → Decodes decode text Fits → (pairs : List Pair) (kind : ℕ) (known : Option X) → kind < 253
    → HasKnownPair pairs kind text known → IfSome known Fits → option_and_then decode (value_of kind pairs) ≡ known
known_again decode text Fits laws pairs kind known small tells fits = ap (λ (o : Option (List ℕ)). option_and_then decode o) (told_value pairs kind text known small tells) ∙ again_at decode text Fits laws known fits

holds_at : {X : Type 0} (decode : List ℕ → Option X) (text : X → List ℕ) (Fits : X → Type 0) → Decodes decode text Fits → (known : Option X) (value : List ℕ) → IfSome known Fits → option_map text known ≡ Some value → is_some (decode value) ≡ true
holds_at decode text Fits laws None value fits e = absurd cc
holds_at decode text Fits laws (Some x) value fits e = rw (← same_Some (text x) value e, laws.again x fits) refl

-- where a map tells it, each value of this type is decoded
pub known_holds : {X : Type 0} (decode : List ℕ → Option X) (text : X → List ℕ) (Fits : X → Type 0) → Decodes decode text Fits → (pairs : List Pair) (kind : ℕ) (known : Option X)
    → HasKnownPair pairs kind text known → IfSome known Fits → (p : Pair) → Contains pairs p → p ≡ typed kind p.value → is_some (decode p.value) ≡ true
known_holds decode text Fits laws pairs kind known tells fits p has is = holds_at decode text Fits laws known p.value fits ((tells p.value).0 (rw is at has))

-- ---- the transaction that an input spends from

pub parent_takes : (i : TxIn) (o : Option Transaction) → fits_input i o ≡ true → IfSome o IsTransaction → IfSome o (IsParent i)
parent_takes i None right fits = tt
parent_takes i (Some whole) right fits =
    let p = and_parts _ _ right in
    record { text = fits; txid = (bytes_eq-Decides _ _).0 p.0; output = ltb-true _ _ p.1 }

pub parent_again : (i : TxIn) (o : Option Transaction) → IfSome o (IsParent i) → fits_input i o ≡ true
parent_again i None parent = refl
parent_again i (Some whole) parent = and_from _ _ ((bytes_eq-Decides _ _).1 parent.txid) (lt-ltb _ _ parent.output)

pub parent_fits : (i : TxIn) (o : Option Transaction) → IfSome o (IsParent i) → IfSome o IsTransaction
parent_fits i None parent = tt
parent_fits i (Some whole) parent = parent.text

-- ---- the unsigned transaction

-- a transaction that has a text, and whose inputs aren't signed
pub record IsBare (t : Transaction) : Type 0 where
  pub text : IsTransaction t
  pub unsigned : All IsUnsigned t.inputs

nil_or : {X : Type 0} (xs : List X) → (xs ≡ []) ⊎ (xs ≢ [])
nil_or [] = inl refl
nil_or (x ∷ xs) = inr (λ e. absurd cc)

no_script : (inputs : List TxIn) → are_bare inputs ≡ true → (i : ℕ) (d : TxIn) → i < length inputs → (get_or inputs i d).script ≡ []
no_script inputs bare i d lt =
    elim (cases_Bool (length (get_or inputs i d).script == 0)) [
      | inl none ↦ nil_from_length (get_or inputs i d).script (eqb-true _ _ none)
      | inr some ↦ absurd (both_ways (are_bare inputs) (list_all_at (λ (j : TxIn). length j.script == 0) inputs i d lt some) bare)
    ]

no_witness : (t : Transaction) → IsLegacy t → (i : ℕ) (d : TxIn) → i < length t.inputs → (get_or t.inputs i d).witness ≡ []
no_witness t legacy i d lt =
    elim (nil_or (get_or t.inputs i d).witness) [
      | inl none ↦ none
      | inr some ↦ absurd (both_ways t.segwit legacy.form (legacy.whole.segregated.1 (i, get_or t.inputs i d, lt, get_or_default t.inputs i (get_or t.inputs i d) d lt, some)))
    ]

legacy_text : (t : Transaction) → t.segwit ≡ false → text_of t ≡ bare_text t
legacy_text t form = rw form refl

all_bare : (inputs : List TxIn) → All IsUnsigned inputs → are_bare inputs ≡ true
all_bare [] each = refl
all_bare (i ∷ inputs) each = and_from _ _ (eq-eqb _ _ (ap (λ (l : List ℕ). length l) (All-head IsUnsigned i inputs each).script)) (all_bare inputs (All-tail IsUnsigned i inputs each))

pub bare_form : (t : Transaction) → IsBare t → t.segwit ≡ false
bare_form t bare = false_from_ne_true t.segwit (λ e. let some = bare.text.segregated.0 e in some.4 (ap (λ (i : TxIn). i.witness) (sym some.3) ∙ (bare.unsigned some.0 some.1 some.2).witness))

pub unsigned_takes : (bytes : List ℕ) (t : Transaction) → IsBytes bytes → unsigned_in bytes ≡ Ok t → IsBare t × (bytes ≡ bare_text t)
unfolding unsigned_in
unsigned_takes bytes t fits e =
    let a = bind_ok _ _ t e in
    let g = guard_met _ _ _ _ a.2 in
    let w = whole_takes (λ p. txs.Trailing p) legacy_tx_at text_of IsLegacy legacy_tx_reads (start bytes) a.0 fits (told_ok unsigned_fault _ a.0 a.1) in
    let bare : IsBare a.0 = record { text = w.0.whole; unsigned = λ i d lt. record { script = no_script a.0.inputs g.0 i d lt; witness = no_witness a.0 w.0 i d lt } } in
    subst (λ (x : Transaction). IsBare x × (bytes ≡ bare_text x)) (ok_is a.0 t (Ok a.0) refl g.1) (bare, w.1 ∙ legacy_text a.0 w.0.form)

pub unsigned_again : (t : Transaction) → IsBare t → unsigned_in (bare_text t) ≡ Ok t
unfolding unsigned_in
unsigned_again t bare =
    let form = bare_form t bare in
    let legacy : IsLegacy t = record { whole = bare.text; form = form } in
    let w = whole_again (λ p. txs.Trailing p) legacy_tx_at text_of IsLegacy legacy_tx_reads (start (bare_text t)) t legacy (sym (legacy_text t form)) in
    bind_is _ _ _ _ (told_is unsigned_fault _ t w) (rw (all_bare t.inputs bare.unsigned) refl)
