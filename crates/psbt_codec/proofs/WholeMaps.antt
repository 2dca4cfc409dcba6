-- The maps of version 0: what is read of them is what they tell, and what they tell is read.
use Rattle.std.proofs.Common.{◌≡◌, ℕ, suc, ◌<◌, true, List, [], ◌∷◌, ◌++◌, length, All, Ok, refl, sym, ap, subst, ◌∙◌, append_assoc, arith}
use Rattle.std.specs.Prelude.{Option, Some, None, option_and_then, is_some, AllPairs, Contains}
use Rattle.std.specs.Int.{w32, to_le_bytes}
use Rattle.std.specs.List.{flat_map, zip, AllZip, AllByRecursion}
use Rattle.std.proofs.lemmas.List.{append-nil}
use Rattle.std.proofs.lemmas.List.Elements.{All-contains, All-from_recursion, recursion_from_All}
use Rattle.std.proofs.lemmas.List.Concat.{flat_map-cons}
use Rattle.fund_base.specs.Cursor.{At, IsBytes}
use Rattle.fund_base.proofs.Laws.{bind_ok, bind_is, guard_met, ok_is, Takes, takes_then, takes_none, Again}
use Rattle.tx_codec.specs.declared.tx.TxIn.{TxIn}
use Rattle.tx_codec.specs.declared.tx.TxOut.{TxOut}
use Rattle.tx_codec.specs.Transaction.{Transaction}
use Rattle.tx_codec.specs.TransactionText.{bare_text, text_of, output_text, IsTransaction}
use Rattle.psbt_codec.specs.declared.pairs.Part.{Part}
use Rattle.psbt_codec.specs.declared.pairs.Part.TheVariants.{Global, Input, Output}
use Rattle.psbt_codec.specs.declared.psbt.Spent.{Spent}
use Rattle.psbt_codec.specs.PartialTransaction.{PartialTransaction}
use Rattle.psbt_codec.specs.Psbt.{Pair, typed, map_text, HaveOtherKeys, IsPair, global_types, input_types, IsGlobalMap, IsInputMap, IsOutputMap, AreMaps, IsPaid, IsSpent, IsPsbt}
use Rattle.psbt_codec.specs.Reading.{tx_in, paid_in, number32_in, value_of, told_or, version_of, unsigned_in, unsigned_of, spent_in, fits_input, input_at, each_at, next_input_at, next_output_at, whole_at}
use Rattle.psbt_codec.proofs.PairLaws.{ValueIs, PairFits, global_value, input_value}
use Rattle.psbt_codec.proofs.MapReads.{MapFits, map_reads}
use Rattle.psbt_codec.proofs.MapMeaning.{map_is, map_fits, typed_is, found_typed, told_value, tells_value, holds_typed, value_there}
use Rattle.psbt_codec.proofs.Decoded.{tx_decodes, paid_decodes, number32_decodes, decoded, known_is, known_again, known_holds, parent_takes, parent_again, parent_fits, IsBare, unsigned_takes, unsigned_again}

-- a value under a type alone is decoded
pub held : {X : Type 0} (part : Part) (pairs : List Pair) → All (PairFits part) pairs → (kind : ℕ) → kind < 253 → (decode : List ℕ → Option X) → ((value : List ℕ) → ValueIs part kind value → is_some (decode value) ≡ true)
    → (value : List ℕ) → Contains pairs (typed kind value) → IsBytes value × (is_some (decode value) ≡ true)
held part pairs each kind small decode fit value has =
    let h = holds_typed part pairs each kind (omega (arith, small)) value has in
    (h.0.0, fit value h.1)

-- ---- the global map

unsigned_known : (o : Option (List ℕ)) (t : Transaction) → unsigned_of o ≡ Ok t → (bytes : List ℕ) × (o ≡ Some bytes) × (unsigned_in bytes ≡ Ok t)
unsigned_known None t e = absurd cc
unsigned_known (Some bytes) t e = (bytes, refl, e)

-- a version of four bytes that is 0
zero_is : (o : Option (List ℕ)) (value : List ℕ) → o ≡ Some value → IsBytes value → is_some (number32_in value) ≡ true → told_or 0 (option_and_then number32_in o) ≡ 0 → value ≡ 0 ∷ 0 ∷ 0 ∷ 0 ∷ []
zero_is o value is fits some none =
    let d = decoded (number32_in value) some in
    let told : told_or 0 (option_and_then number32_in o) ≡ d.0 = ap (λ (x : Option (List ℕ)). told_or 0 (option_and_then number32_in x)) is ∙ ap (λ (x : Option ℕ). told_or 0 x) d.1 in
    (number32_decodes.takes value d.0 fits d.1).1 ∙ ap (λ (n : ℕ). to_le_bytes w32 n) (sym told ∙ none)

version_is : (pairs : List Pair) → AllPairs HaveOtherKeys pairs → All (PairFits Global) pairs → version_of pairs ≡ 0 → (value : List ℕ) → Contains pairs (typed 251 value) → value ≡ 0 ∷ 0 ∷ 0 ∷ 0 ∷ []
version_is pairs distinct each none value has =
    let h = holds_typed Global pairs each 251 (omega arith) value has in
    zero_is (value_of 251 pairs) value (value_there pairs 251 value (omega arith) distinct has) h.0.0 h.1 none

-- what a global map of version 0 tells
pub record GlobalTaken (pairs : List Pair) (t : Transaction) : Type 0 where
  pub global_is : IsGlobalMap t pairs
  pub bare : IsBare t

pub global_takes : (pairs : List Pair) (t : Transaction) → MapFits Global [] pairs → version_of pairs ≡ 0 → unsigned_of (value_of 0 pairs) ≡ Ok t → GlobalTaken pairs t
global_takes pairs t fit none e =
    let m = map_is Global pairs fit in
    let u = unsigned_known (value_of 0 pairs) t e in
    let p = All-contains (PairFits Global) pairs (typed 0 u.0) m.1 (found_typed pairs 0 u.0 (omega arith) u.1) in
    let w = unsigned_takes u.0 t p.is_pair.value_fits.0 u.2 in
    let told : value_of 0 pairs ≡ Some (bare_text t) = u.1 ∙ ap (λ (l : List ℕ). Some l) w.1 in
    record { global_is = record { pairs_fit = m.0; unsigned = tells_value pairs 0 bare_text (Some t) (omega arith) m.0.distinct told; version = version_is pairs m.0.distinct m.1 none }; bare = w.0 }

zeros_decode : number32_in (0 ∷ 0 ∷ 0 ∷ 0 ∷ []) ≡ Some 0
zeros_decode = number32_decodes.again 0 (omega arith)

global_values : (t : Transaction) (pairs : List Pair) → IsGlobalMap t pairs → (p : Pair) (q : IsPair global_types p) → Contains pairs p → ValueIs Global q.key.kind p.value
global_values t pairs is p q has = global_value q.key.kind p.value (λ version.
    let zero : p.value ≡ 0 ∷ 0 ∷ 0 ∷ 0 ∷ [] = is.version p.value (subst (λ (r : Pair). Contains pairs r) (typed_is global_types p q.key 251 version (1, omega arith, refl)) has) in
    ap (λ (v : List ℕ). is_some (number32_in v)) zero ∙ ap (λ (o : Option ℕ). is_some o) zeros_decode)

pub global_fit : (t : Transaction) (pairs : List Pair) → IsGlobalMap t pairs → MapFits Global [] pairs
global_fit t pairs is = map_fits Global pairs is.pairs_fit (global_values t pairs is)

none_told : (pairs : List Pair) (o : Option (List ℕ)) → value_of 251 pairs ≡ o → ((value : List ℕ) → Contains pairs (typed 251 value) → value ≡ 0 ∷ 0 ∷ 0 ∷ 0 ∷ []) → told_or 0 (option_and_then number32_in o) ≡ 0
none_told pairs None is version = refl
none_told pairs (Some value) is version =
    let zero = version value (found_typed pairs 251 value (omega arith) is) in
    ap (λ (v : List ℕ). told_or 0 (number32_in v)) zero ∙ ap (λ (o : Option ℕ). told_or 0 o) zeros_decode

pub version_again : (t : Transaction) (pairs : List Pair) → IsGlobalMap t pairs → version_of pairs ≡ 0
version_again t pairs is = none_told pairs (value_of 251 pairs) refl is.version

unsigned_read : (t : Transaction) (pairs : List Pair) → IsGlobalMap t pairs → IsBare t → unsigned_of (value_of 0 pairs) ≡ Ok t
unsigned_read t pairs is bare = ap unsigned_of (told_value pairs 0 bare_text (Some t) (omega arith) is.unsigned) ∙ unsigned_again t bare

-- ---- an input's map

record InputTaken (i : TxIn) (at : At) (x : Spent × At) : Type 0 where
  pub pairs : List Pair
  pub takes : Takes at (map_text pairs) x.1
  pub input_is : IsInputMap x.0 pairs
  pub spent_is : IsSpent i x.0

input_takes : (index : ℕ) (i : TxIn) (at : At) (x : Spent × At) → IsBytes at.rest → input_at index i at ≡ Ok x → InputTaken i at x
unfolding input_at
input_takes index i at x fits e =
    let a = bind_ok _ _ x e in
    let g = guard_met _ _ _ _ a.2 in
    let t = (map_reads Input).takes at a.0 fits a.1 in
    let m = map_is Input a.0.0 t.1 in
    let whole = known_is tx_in text_of IsTransaction tx_decodes a.0.0 0 (omega arith) m.0.distinct (held Input a.0.0 m.1 0 (omega arith) tx_in (λ value is. is)) in
    let paid = known_is paid_in output_text IsPaid paid_decodes a.0.0 1 (omega arith) m.0.distinct (held Input a.0.0 m.1 1 (omega arith) paid_in (λ value is. is)) in
    let s : Spent = spent_in a.0.0 in
    let is : IsInputMap s a.0.0 = record { pairs_fit = m.0; whole = whole.tells; paid = paid.tells } in
    let spent : IsSpent i s = record { whole = parent_takes i s.whole g.0 whole.fits; paid = paid.fits } in
    subst (λ (y : Spent × At). InputTaken i at y) (ok_is (s, a.0.1) x (Ok (s, a.0.1)) refl g.1) (record { pairs = a.0.0; takes = t.0; input_is = is; spent_is = spent })

input_values : (i : TxIn) (s : Spent) (pairs : List Pair) → IsInputMap s pairs → IsSpent i s → (p : Pair) (q : IsPair input_types p) → Contains pairs p → ValueIs Input q.key.kind p.value
input_values i s pairs is spent p q has = input_value q.key.kind p.value
    (λ whole. known_holds tx_in text_of IsTransaction tx_decodes pairs 0 s.whole is.whole (parent_fits i s.whole spent.whole) p has (typed_is input_types p q.key 0 whole (0, omega arith, refl)))
    (λ paid. known_holds paid_in output_text IsPaid paid_decodes pairs 1 s.paid is.paid spent.paid p has (typed_is input_types p q.key 1 paid (1, omega arith, refl)))

input_again : (index : ℕ) (i : TxIn) (s : Spent) (pairs : List Pair) (at : At) (rest : List ℕ) → IsInputMap s pairs → IsSpent i s → at.rest ≡ map_text pairs ++ rest → Again (input_at index i at) s rest
unfolding input_at
input_again index i s pairs at rest is spent parts =
    let a = (map_reads Input).again pairs at rest (map_fits Input pairs is.pairs_fit (input_values i s pairs is spent)) parts in
    let whole = known_again tx_in text_of IsTransaction tx_decodes pairs 0 s.whole (omega arith) is.whole (parent_fits i s.whole spent.whole) in
    let paid = known_again paid_in output_text IsPaid paid_decodes pairs 1 s.paid (omega arith) is.paid spent.paid in
    let same : spent_in pairs ≡ s = ap (λ (o : Option Transaction). record { whole = o; paid = (spent_in pairs).paid }) whole ∙ ap (λ (o : Option TxOut). record { whole = s.whole; paid = o }) paid in
    let right : fits_input i (spent_in pairs).whole ≡ true = rw whole (parent_again i s.whole spent.whole) in
    record { next = a.next; reads = bind_is _ _ _ _ a.reads (rw right (ap (λ (k : Spent). Ok (k, a.next)) same)); left = a.left }

-- ---- the inputs' maps, one after the other

record InputsTaken (before : List Spent) (inputs : List TxIn) (at : At) (x : List Spent × At) : Type 0 where
  pub spent : List Spent
  pub maps : List (List Pair)
  pub whole : x.0 ≡ before ++ spent
  pub takes : Takes at (flat_map map_text maps) x.1
  pub spent_are : AllZip IsSpent inputs spent
  pub maps_are : AllZip IsInputMap spent maps

inputs_take : (inputs : List TxIn) (before : List Spent) (at : At) (x : List Spent × At) → IsBytes at.rest → each_at next_input_at before inputs at ≡ Ok x → InputsTaken before inputs at x
unfolding each_at next_input_at
inputs_take [] before at x fits e =
    subst (λ (y : List Spent × At). InputsTaken before [] at y) (ok_is (before, at) x (Ok (before, at)) refl e) (record { spent = []; maps = []; whole = sym (append-nil before); takes = takes_none at fits; spent_are = tt; maps_are = tt })
inputs_take (i ∷ inputs) before at x fits e =
    let a = bind_ok _ _ x e in
    let b = bind_ok _ _ a.0 a.1 in
    let t = input_takes (length before) i at b.0 fits b.1 in
    let pushed : List Spent × At = (before ++ b.0.0 ∷ [], b.0.1) in
    let next : each_at next_input_at (before ++ b.0.0 ∷ []) inputs b.0.1 ≡ Ok x = subst (λ (y : List Spent × At). each_at next_input_at y.0 inputs y.1 ≡ Ok x) (sym (ok_is pushed a.0 (Ok pushed) refl b.2)) a.2 in
    let others = inputs_take inputs (before ++ b.0.0 ∷ []) b.0.1 x t.takes.rest_fits next in
    record {
      spent = b.0.0 ∷ others.spent;
      maps = t.pairs ∷ others.maps;
      whole = others.whole ∙ append_assoc before (b.0.0 ∷ []) others.spent;
      takes = rw flat_map-cons (takes_then at b.0.1 x.1 (map_text t.pairs) (flat_map map_text others.maps) t.takes others.takes);
      spent_are = (t.spent_is, others.spent_are);
      maps_are = (t.input_is, others.maps_are);
    }

inputs_again : (inputs : List TxIn) (spent : List Spent) (maps : List (List Pair)) (before : List Spent) (at : At) (rest : List ℕ) → AllZip IsSpent inputs spent → AllZip IsInputMap spent maps → at.rest ≡ flat_map map_text maps ++ rest
    → Again (each_at next_input_at before inputs at) (before ++ spent) rest
unfolding each_at next_input_at
inputs_again [] [] [] before at rest spent_are maps_are parts = record { next = at; reads = rw (append-nil before) refl; left = parts }
inputs_again [] [] (m ∷ maps) before at rest spent_are maps_are parts = absurd maps_are
inputs_again [] (s ∷ spent) maps before at rest spent_are maps_are parts = absurd spent_are
inputs_again (i ∷ inputs) [] maps before at rest spent_are maps_are parts = absurd spent_are
inputs_again (i ∷ inputs) (s ∷ spent) [] before at rest spent_are maps_are parts = absurd maps_are
inputs_again (i ∷ inputs) (s ∷ spent) (m ∷ maps) before at rest spent_are maps_are parts =
    let parted : at.rest ≡ map_text m ++ (flat_map map_text maps ++ rest) = parts ∙ ap (λ (l : List ℕ). l ++ rest) (flat_map-cons map_text m maps) ∙ append_assoc (map_text m) (flat_map map_text maps) rest in
    let a = input_again (length before) i s m at (flat_map map_text maps ++ rest) maps_are.0 spent_are.0 parted in
    let b = inputs_again inputs spent maps (before ++ s ∷ []) a.next rest spent_are.1 maps_are.1 a.left in
    let whole : (before ++ s ∷ []) ++ spent ≡ before ++ s ∷ spent = append_assoc before (s ∷ []) spent in
    record { next = b.next; reads = bind_is _ _ _ _ (bind_is _ _ _ _ a.reads refl) (b.reads ∙ ap (λ (l : List Spent). Ok (l, b.next)) whole); left = b.left }

-- ---- the outputs' maps, one after the other

record OutputsTaken (outputs : List TxOut) (at : At) (x : Unit {0} × At) : Type 0 where
  pub maps : List (List Pair)
  pub takes : Takes at (flat_map map_text maps) x.1
  pub maps_are : AllZip IsOutputMap outputs maps

outputs_take : (outputs : List TxOut) (at : At) (x : Unit {0} × At) → IsBytes at.rest → each_at next_output_at tt outputs at ≡ Ok x → OutputsTaken outputs at x
unfolding each_at next_output_at
outputs_take [] at x fits e = subst (λ (y : Unit {0} × At). OutputsTaken [] at y) (ok_is (tt, at) x (Ok (tt, at)) refl e) (record { maps = []; takes = takes_none at fits; maps_are = tt })
outputs_take (o ∷ outputs) at x fits e =
    let a = bind_ok _ _ x e in
    let b = bind_ok _ _ a.0 a.1 in
    let t = (map_reads Output).takes at b.0 fits b.1 in
    let pushed : Unit {0} × At = (tt, b.0.1) in
    let next : each_at next_output_at tt outputs b.0.1 ≡ Ok x = subst (λ (y : Unit {0} × At). each_at next_output_at y.0 outputs y.1 ≡ Ok x) (sym (ok_is pushed a.0 (Ok pushed) refl b.2)) a.2 in
    let others = outputs_take outputs b.0.1 x t.0.rest_fits next in
    record {
      maps = b.0.0 ∷ others.maps;
      takes = rw flat_map-cons (takes_then at b.0.1 x.1 (map_text b.0.0) (flat_map map_text others.maps) t.0 others.takes);
      maps_are = ((map_is Output b.0.0 t.1).0, others.maps_are);
    }

outputs_again : (outputs : List TxOut) (maps : List (List Pair)) (at : At) (rest : List ℕ) → AllZip IsOutputMap outputs maps → at.rest ≡ flat_map map_text maps ++ rest → Again (each_at next_output_at tt outputs at) tt rest
unfolding each_at next_output_at
outputs_again [] [] at rest maps_are parts = record { next = at; reads = refl; left = parts }
outputs_again [] (m ∷ maps) at rest maps_are parts = absurd maps_are
outputs_again (o ∷ outputs) [] at rest maps_are parts = absurd maps_are
outputs_again (o ∷ outputs) (m ∷ maps) at rest maps_are parts =
    let parted : at.rest ≡ map_text m ++ (flat_map map_text maps ++ rest) = parts ∙ ap (λ (l : List ℕ). l ++ rest) (flat_map-cons map_text m maps) ∙ append_assoc (map_text m) (flat_map map_text maps) rest in
    let a = (map_reads Output).again m at (flat_map map_text maps ++ rest) (map_fits Output m maps_are.0 (λ p q has. refl)) parted in
    let b = outputs_again outputs maps a.next rest maps_are.1 a.left in
    record { next = b.next; reads = bind_is _ _ _ _ (bind_is _ _ _ _ a.reads refl) b.reads; left = b.left }

-- ---- what is known of the outputs that are spent

abbrev pub Pairwise : TxIn × Spent → Type 0
Pairwise k = IsSpent k.0 k.1

pub zip_all : (inputs : List TxIn) (spent : List Spent) → AllZip IsSpent inputs spent → (length spent ≡ length inputs) × AllByRecursion Pairwise (zip inputs spent)
zip_all [] [] are = (refl, tt)
zip_all [] (s ∷ spent) are = absurd are
zip_all (i ∷ inputs) [] are = absurd are
zip_all (i ∷ inputs) (s ∷ spent) are = let z = zip_all inputs spent are.1 in (ap (λ n. suc n) z.0, (are.0, z.1))

pub all_zip : (inputs : List TxIn) (spent : List Spent) → length spent ≡ length inputs → AllByRecursion Pairwise (zip inputs spent) → AllZip IsSpent inputs spent
all_zip [] [] len are = tt
all_zip [] (s ∷ spent) len are = absurd (omega (arith, len))
all_zip (i ∷ inputs) [] len are = absurd (omega (arith, len))
all_zip (i ∷ inputs) (s ∷ spent) len are = (are.0, all_zip inputs spent (omega (arith, len)) are.1)

-- ---- what stands behind the global map

pub record WholeTaken (pairs : List Pair) (at : At) (x : PartialTransaction × At) : Type 0 where
  pub inputs : List (List Pair)
  pub outputs : List (List Pair)
  pub takes : Takes at (flat_map map_text inputs ++ flat_map map_text outputs) x.1
  pub psbt : IsPsbt x.0
  pub maps : AreMaps x.0 pairs inputs outputs

pub whole_takes : (pairs : List Pair) (at : At) (x : PartialTransaction × At) → MapFits Global [] pairs → version_of pairs ≡ 0 → IsBytes at.rest → whole_at pairs at ≡ Ok x → WholeTaken pairs at x
unfolding whole_at
whole_takes pairs at x fit none fits e =
    let a = bind_ok _ _ x e in
    let b = bind_ok _ _ x a.2 in
    let c = bind_ok _ _ x b.2 in
    let g = global_takes pairs a.0 fit none a.1 in
    let tb = inputs_take a.0.inputs [] at b.0 fits b.1 in
    let tc = outputs_take a.0.outputs b.0.1 c.0 tb.takes.rest_fits c.1 in
    let all = takes_then at b.0.1 c.0.1 (flat_map map_text tb.maps) (flat_map map_text tc.maps) tb.takes tc.takes in
    let spent_are : AllZip IsSpent a.0.inputs b.0.0 = rw tb.whole tb.spent_are in
    let maps_are : AllZip IsInputMap b.0.0 tb.maps = rw tb.whole tb.maps_are in
    let z = zip_all a.0.inputs b.0.0 spent_are in
    let p : PartialTransaction = record { tx = a.0; spent = b.0.0 } in
    let is : IsPsbt p = record { text = g.bare.text; unsigned = g.bare.unsigned; spent_len = z.0; spent = All-from_recursion Pairwise (zip a.0.inputs b.0.0) z.1 } in
    let maps : AreMaps p pairs tb.maps tc.maps = record { global_is = g.global_is; inputs_are = maps_are; outputs_are = tc.maps_are } in
    subst (λ (y : PartialTransaction × At). WholeTaken pairs at y) (ok_is (p, c.0.1) x (Ok (p, c.0.1)) refl c.2) (record { inputs = tb.maps; outputs = tc.maps; takes = all; psbt = is; maps = maps })

pub whole_again : (p : PartialTransaction) (global : List Pair) (inputs outputs : List (List Pair)) (at : At) (rest : List ℕ) → IsPsbt p → AreMaps p global inputs outputs → at.rest ≡ flat_map map_text inputs ++ (flat_map map_text outputs ++ rest) → Again (whole_at global at) p rest
unfolding whole_at
whole_again p global inputs outputs at rest psbt are parts =
    let bare : IsBare p.tx = record { text = psbt.text; unsigned = psbt.unsigned } in
    let spent_are = all_zip p.tx.inputs p.spent psbt.spent_len (recursion_from_All Pairwise (zip p.tx.inputs p.spent) psbt.spent) in
    let u = unsigned_read p.tx global are.global_is bare in
    let b = inputs_again p.tx.inputs p.spent inputs [] at (flat_map map_text outputs ++ rest) spent_are are.inputs_are parts in
    let c = outputs_again p.tx.outputs outputs b.next rest are.outputs_are b.left in
    record { next = c.next; reads = bind_is _ _ _ _ u (bind_is _ _ _ _ b.reads (bind_is _ _ _ _ c.reads refl)); left = c.left }
