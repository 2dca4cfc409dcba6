-- What is read keeps the rules of wallets.
use Rattle.std.proofs.Common.{◌≡◌, ◌≢◌, ℕ, zero, suc, ◌<◌, ◌≤◌, ◌==◌, Bool, true, false, cond, ◌||◌, not, List, [], ◌∷◌, ◌++◌, length, get_or, map, nat_lt, nat_le, Option, Some, None, Result, Ok, Err, Contains, refl, sym, ap, subst, ◌∙◌, true≢false, arith, append_assoc}
use Rattle.std.proofs.lemmas.Bool.{leb-true, ltb-true, ltb-false, and_parts, or_parts, not-false}
use Rattle.std.proofs.lemmas.List.{get_or_default, get_or-map, length-map, append-nil}
use Rattle.std.proofs.lemmas.List.Quantifiers.{all_pairs_push}
use Rattle.std.specs.List.{list_any}
use Rattle.std.specs.Prelude.{All, AllPairs}
use Rattle.std.proofs.lemmas.List.Elements.{All-nil}
use Rattle.fund_base.proofs.Laws.{bind_ok, told_ok}
use Rattle.serde_json.specs.Data.{Data}
use Rattle.fund_base.specs.Cursor.{IsBytes, At}
use Rattle.fund_base.specs.Parsing.{◌>>=◌, whole_of}
use Rattle.fund_base.specs.declared.outpoint.OutPoint.{OutPoint}
use Rattle.json_fields.proofs.ValueFacts.{hex_is, hash_is, coin_is}
use Rattle.json_fields.proofs.Loops.{each_keeps, each_is}
use Rattle.json_fields.proofs.Members.{is_among-Contains}
use Rattle.json_fields.proofs.NumberLaws as numbers
use Rattle.json_fields.specs.Fields.{object_at, member_at, optional, number_at, hex_at, hash_at, coin_at, entries_at, is_among, refuse, IsHash, IsPoint}
use Rattle.json_fields.specs.declared.fault.FieldFault.{FieldFault}
use Rattle.tx_codec.proofs.Laws.{tx_reads}
use Rattle.tx_codec.specs.Reading.{tx_at}
use Rattle.tx_codec.specs.Transaction.{Transaction}
use Rattle.tx_codec.specs.TransactionText.{IsTransaction}
use Rattle.tx_codec.specs.Txid.{txid_of}
use Rattle.tx_codec.specs.declared.fault.TxFault.{TxFault}
use Rattle.tx_codec.specs.declared.fault.TxFault.TheVariants.{Trailing}
use Rattle.tx_codec.specs.declared.tx.TxIn.{TxIn}
use Rattle.wallet_text.specs.WalletRules.{IsWatch, SpendsNone, ParentsComeFirst, AreDistinctScripts, AreDistinct, IsEarlier}
use Rattle.wallet_text.specs.WalletText.{field, told_index, watch_at, watch_names, has_script_length, judged, scripts_of, script_in, script_behind, change_at, tx_in, earlier_names, earlier_at, earlier_in, earlier_behind, pending_in, pending_behind, scripts_at, earlier_list_at, pending_list_at, abandoned_list_at, locked_list_at, txids_of, earlier_txids, repeat_from, spends_one_of, later_from, lists_at}
use Rattle.wallet_text.specs.declared.fault.Refusal.{Refusal}
use Rattle.wallet_text.specs.declared.fault.Refusal.TheVariants.{Field, Script, Weight, Tx}
use Rattle.wallet_text.specs.declared.wallet.Watch.{Watch}
use Rattle.wallet_text.specs.PlainWallet.{Earlier}

pub field_ok : {A B : Type 0} (first : Result A FieldFault) (then : A → Result B Refusal) (out : B) → (field first >>= then) ≡ Ok out → (x : A) × (first ≡ Ok x) × (then x ≡ Ok out)
field_ok first then out e = let s = bind_ok (field first) then out e in (s.0, told_ok Field first s.0 s.1, s.2)

-- ---- entries of scripts

watch_bytes : (whole : List ℕ) (d : Data) (w : Watch) → watch_at whole d ≡ Ok w → IsBytes w.script
unfolding watch_at
watch_bytes whole d w e =
    let a = bind_ok (object_at whole watch_names watch_names d) _ w e in
    let b = bind_ok (member_at _ d) _ w a.2 in
    let script = bind_ok (hex_at _ b.0) _ w b.2 in
    let c = bind_ok (member_at _ d) _ w script.2 in
    let weight = bind_ok (number_at _ _ c.0) _ w c.2 in
    let same : record { script = script.0; weight = weight.0 } ≡ w = cc weight.2 in
    subst (λ (v : Watch). IsBytes v.script) same (hex_is _ b.0 script.0 script.1)

-- a rule that isn't broken
passes : {A : Type 0} (test : Bool) (fault : Refusal) (rest : Result A Refusal) (out : A) → cond test (Err fault) rest ≡ Ok out → (test ≡ false) × (rest ≡ Ok out)
passes true fault rest out e = absurd (cc e)
passes false fault rest out e = (refl, e)

pub judged_is : (listed : Bool) (index : ℕ) (v w : Watch) → IsBytes v.script → judged listed index v ≡ Ok w → IsWatch w × (v ≡ w) × (listed ≡ false)
unfolding judged
judged_is listed index v w bytes e =
    let a = passes (listed || not (has_script_length v.script)) (Script (told_index index)) _ w e in
    let b = passes (nat_lt v.weight 165 || nat_lt 400000 v.weight) (Weight (told_index index)) _ w a.1 in
    let length_test = or_parts listed (not (has_script_length v.script)) a.0 in
    let lengths = and_parts (nat_lt 0 (length v.script)) (nat_le (length v.script) 10000) (not-false (has_script_length v.script) length_test.1) in
    let weights = or_parts (nat_lt v.weight 165) (nat_lt 400000 v.weight) b.0 in
    let same : v ≡ w = cc b.1 in (
      subst IsWatch same (record {
        some = ltb-true 0 (length v.script) lengths.0;
        most = leb-true (length v.script) 10000 lengths.1;
        bytes = bytes;
        least_weight = ltb-false v.weight 165 weights.0;
        most_weight = ltb-false 400000 v.weight weights.1;
      }),
      same,
      length_test.0,
    )

script_is : (index : ℕ) (before : List (List ℕ)) (d : Data) (w : Watch) → script_in index before d ≡ Ok w → IsWatch w × (is_among before w.script ≡ false)
unfolding script_in
script_is index before d w e =
    let a = field_ok (watch_at _ d) _ w e in
    let b = judged_is (is_among before a.0.script) index a.0 w (watch_bytes _ d a.0 a.1) a.2 in
    (b.0, subst (λ (v : Watch). is_among before v.script ≡ false) b.1 b.2)

pub change_is : (count : ℕ) (d : Data) (w : Watch) → change_at count d ≡ Ok w → IsWatch w
unfolding change_at
change_is count d w e =
    let a = field_ok (watch_at _ d) _ w e in
    (judged_is false count a.0 w (watch_bytes _ d a.0 a.1) a.2).0

-- an image of a list's item is in the image
image : {X : Type 0} (f : X → List ℕ) (xs : List X) (k : ℕ) (d : X) → k < length xs → Contains (map f xs) (f (get_or xs k d))
image f xs k d lt = let long = length-map xs f in (k, omega arith, get_or-map f xs k d (f (get_or xs k d)) lt)

-- what isn't in the image differs from each item
apart : {X : Type 0} (f : X → List ℕ) (xs : List X) (y : List ℕ) → is_among (map f xs) y ≡ false → (k : ℕ) (d : X) → k < length xs → f (get_or xs k d) ≢ y
apart f xs y absent k d lt e = true≢false (sym (is_among-Contains (map f xs) y (subst (Contains (map f xs)) e (image f xs k d lt))) ∙ absent)

pub scripts_are : (d : Data) (ws : List Watch) → scripts_at d ≡ Ok ws → All IsWatch ws × AreDistinctScripts ws
unfolding scripts_at
scripts_are d ws e =
    let a = field_ok (entries_at _ d) _ ws e in (
      each_is IsWatch script_behind (λ front x w is. (script_is (length front) (scripts_of front) x w is).0) a.0 ws a.2,
      each_keeps AreDistinctScripts script_behind
          (λ front x w kept is. all_pairs_push (λ (u v : Watch). u.script ≢ v.script) front w kept (apart (λ (v : Watch). v.script) front w.script (script_is (length front) (scripts_of front) x w is).1))
          a.0 [] ws (λ i j v lt within. absurd (omega arith)) a.2,
    )

-- ---- transactions

whole_ok : (read : Result (Transaction × At) TxFault) (t : Transaction) → whole_of Trailing read ≡ Ok t → (at : At) × (read ≡ Ok (t, at))
whole_ok (Err fault) t e = absurd (cc e)
whole_ok (Ok x) t e = (x.1, ap (λ s. Ok (s, x.1)) (by (length x.1.rest == 0) e))
  where
    by : (b : Bool) → cond b (Ok x.0) (Err (Trailing x.1.place)) ≡ Ok t → x.0 ≡ t
    by true reads = cc reads
    by false reads = absurd (cc reads)

tx_is : (list : List ℕ) (index : ℕ) (bytes : List ℕ) (t : Transaction) → IsBytes bytes → tx_in list index bytes ≡ Ok t → IsTransaction t
unfolding tx_in
tx_is list index bytes t fits e =
    let a = whole_ok (tx_at (record { rest = bytes; place = 0 })) t (told_ok (Tx list (told_index index)) _ t e) in
    (tx_reads.takes (record { rest = bytes; place = 0 }) (t, a.0) fits a.1).1

earlier_parts : (most : ℕ) (d : Data) (e : List ℕ × ℕ) → earlier_at most d ≡ Ok e → IsBytes e.0 × (e.1 ≤ most)
unfolding earlier_at
earlier_parts most d e is =
    let a = bind_ok (object_at _ earlier_names earlier_names d) _ e is in
    let b = bind_ok (member_at _ d) _ e a.2 in
    let bytes = bind_ok (hex_at _ b.0) _ e b.2 in
    let c = bind_ok (member_at _ d) _ e bytes.2 in
    let height = bind_ok (number_at _ most c.0) _ e c.2 in
    let same : (bytes.0, height.0) ≡ e = cc height.2 in
    subst (λ (p : List ℕ × ℕ). IsBytes p.0 × (p.1 ≤ most)) same (hex_is _ b.0 bytes.0 bytes.1, (numbers.found _ most height.0 c.0 height.1).1)

earlier_is : (most index : ℕ) (d : Data) (e : Earlier) → earlier_in most index d ≡ Ok e → IsEarlier most e
unfolding earlier_in
earlier_is most index d e is =
    let a = field_ok (earlier_at most d) _ e is in
    let b = bind_ok (tx_in _ index a.0.0) _ e a.2 in
    let parts = earlier_parts most d a.0 a.1 in
    let same : record { tx = b.0; height = a.0.1 } ≡ e = cc b.2 in
    subst (IsEarlier most) same (record { tx = tx_is _ index a.0.0 b.0 parts.0 b.1; height = parts.1 })

pending_is : (index : ℕ) (d : Data) (t : Transaction) → pending_in index d ≡ Ok t → IsTransaction t
unfolding pending_in
pending_is index d t is =
    let a = field_ok (hex_at _ d) _ t is in
    tx_is _ index a.0 t (hex_is _ d a.0 a.1) a.2

-- a list that may be left out
optional_is : {A E : Type 0} (P : A → Type 0) (default : A) (reading : Data → Result A E) (o : Option Data) (out : A) → P default → ((d : Data) (x : A) → reading d ≡ Ok x → P x) → optional default reading o ≡ Ok out → P out
optional_is P default reading None out here there e = let same : default ≡ out = cc e in subst P same here
optional_is P default reading (Some d) out here there e = there d out e

earlier_list_is : (most : ℕ) (d : Data) (es : List Earlier) → earlier_list_at most d ≡ Ok es → All (IsEarlier most) es
unfolding earlier_list_at
earlier_list_is most d es e =
    let a = field_ok (entries_at _ d) _ es e in
    each_is (IsEarlier most) (earlier_behind most) (λ front x entry is. earlier_is most (length front) x entry is) a.0 es a.2

pub earlier_are : (most : ℕ) (o : Option Data) (es : List Earlier) → optional [] (earlier_list_at most) o ≡ Ok es → All (IsEarlier most) es
earlier_are most o es e = optional_is (All (IsEarlier most)) [] (earlier_list_at most) o es (All-nil (IsEarlier most)) (earlier_list_is most) e

pending_list_is : (d : Data) (ts : List Transaction) → pending_list_at d ≡ Ok ts → All IsTransaction ts
unfolding pending_list_at
pending_list_is d ts e =
    let a = field_ok (entries_at _ d) _ ts e in
    each_is IsTransaction pending_behind (λ front x t is. pending_is (length front) x t is) a.0 ts a.2

pub pending_are : (o : Option Data) (ts : List Transaction) → optional [] pending_list_at o ≡ Ok ts → All IsTransaction ts
pending_are o ts e = optional_is (All IsTransaction) [] pending_list_at o ts (All-nil IsTransaction) pending_list_is e

abandoned_list_is : (d : Data) (hs : List (List ℕ)) → abandoned_list_at d ≡ Ok hs → All IsHash hs
unfolding abandoned_list_at
abandoned_list_is d hs e =
    let a = bind_ok (entries_at _ d) _ hs e in
    each_is IsHash (λ _. hash_at _) (λ front x h is. hash_is _ x h is) a.0 hs a.2

pub abandoned_are : (o : Option Data) (hs : List (List ℕ)) → optional [] abandoned_list_at o ≡ Ok hs → All IsHash hs
abandoned_are o hs e = optional_is (All IsHash) [] abandoned_list_at o hs (All-nil IsHash) abandoned_list_is e

locked_list_is : (d : Data) (cs : List OutPoint) → locked_list_at d ≡ Ok cs → All IsPoint cs
unfolding locked_list_at
locked_list_is d cs e =
    let a = bind_ok (entries_at _ d) _ cs e in
    each_is IsPoint (λ _. coin_at _) (λ front x c is. coin_is _ x c is) a.0 cs a.2

pub locked_are : (o : Option Data) (cs : List OutPoint) → optional [] locked_list_at o ≡ Ok cs → All IsPoint cs
locked_are o cs e = optional_is (All IsPoint) [] locked_list_at o cs (All-nil IsPoint) locked_list_is e

-- ---- whole lists

abbrev pub Apart : List ℕ → List ℕ → Type 0
Apart x y = x ≢ y

-- no repeat leaves all apart
none_repeats : (front xs : List (List ℕ)) → repeat_from front xs ≡ None → AllPairs Apart front → AllPairs Apart (front ++ xs)
unfolding repeat_from
none_repeats front [] e kept = rw (append-nil front) kept
none_repeats front (x ∷ xs) e kept = by (is_among front x) refl e (none_repeats (front ++ x ∷ []) xs)
  where
    by : (b : Bool) → is_among front x ≡ b → cond b (Some (length front)) (repeat_from (front ++ x ∷ []) xs) ≡ None → (repeat_from (front ++ x ∷ []) xs ≡ None → AllPairs Apart (front ++ x ∷ []) → AllPairs Apart ((front ++ x ∷ []) ++ xs)) → AllPairs Apart (front ++ x ∷ xs)
    by true is reads rest = absurd (cc reads)
    by false is reads rest = subst (AllPairs Apart) (append_assoc front (x ∷ []) xs) (rest reads (all_pairs_push Apart front x kept (λ k d lt same. true≢false (sym (is_among-Contains front x (k, lt, get_or_default front k x d lt ∙ same)) ∙ is))))

-- so each item of a list whose images don't repeat differs from the others
pairs_of : {X : Type 0} (f : X → List ℕ) (xs : List X) → AllPairs Apart (map f xs) → AllPairs (λ a b. f a ≢ f b) xs
pairs_of f xs h i j d lt within =
    let long = length-map xs f in
    subst (λ a. a ≢ f (get_or xs j d)) (get_or-map f xs i d (f d) (omega arith)) (subst (λ b. get_or (map f xs) i (f d) ≢ b) (get_or-map f xs j d (f d) within) (h i j (f d) lt (omega arith)))

pub distinct_of : {X : Type 0} (f : X → List ℕ) (xs : List X) → repeat_from [] (map f xs) ≡ None → AllPairs (λ a b. f a ≢ f b) xs
distinct_of f xs e = pairs_of f xs (none_repeats [] (map f xs) e (λ i j d lt within. absurd (omega arith)))

-- a test that no item passes
fails_at : {X : Type 0} (p : X → Bool) (xs : List X) → list_any p xs ≡ false → (k : ℕ) (d : X) → k < length xs → p (get_or xs k d) ≡ false
fails_at p [] e k d lt = absurd (omega arith)
fails_at p (x ∷ xs) e zero d lt = (or_parts (p x) (list_any p xs) e).0
fails_at p (x ∷ xs) e (suc k) d lt = fails_at p xs (or_parts (p x) (list_any p xs) e).1 k d (omega arith)

pub spends_none : (ts : List Transaction) (t : Transaction) → spends_one_of (txids_of ts) t ≡ false → (j : ℕ) (d : Transaction) → j < length ts → SpendsNone t (get_or ts j d)
spends_none ts t e j d within k input lt same =
    let absent : is_among (txids_of ts) (get_or t.inputs k input).prev.txid ≡ false = fails_at (λ (i : TxIn). is_among (txids_of ts) i.prev.txid) t.inputs e k input lt in
    apart txid_of ts (get_or t.inputs k input).prev.txid absent j d within (sym same)

behind_first : (t : Transaction) (ts : List Transaction) → ((j : ℕ) (d : Transaction) → j < length (t ∷ ts) → SpendsNone t (get_or (t ∷ ts) j d)) → ParentsComeFirst ts → ParentsComeFirst (t ∷ ts)
behind_first t ts none rest zero j d le within = none j d within
behind_first t ts none rest (suc i) zero d le within = absurd (omega arith)
behind_first t ts none rest (suc i) (suc j) d le within = rest i j d (omega arith) (omega arith)

pub parents_first : (index : ℕ) (ts : List Transaction) → later_from index ts ≡ None → ParentsComeFirst ts
unfolding later_from
parents_first index [] e = λ i j d le within. absurd (omega arith)
parents_first index (t ∷ ts) e = by (spends_one_of (txids_of (t ∷ ts)) t) refl e (parents_first (suc index) ts)
  where
    by : (b : Bool) → spends_one_of (txids_of (t ∷ ts)) t ≡ b → cond b (Some index) (later_from (suc index) ts) ≡ None → (later_from (suc index) ts ≡ None → ParentsComeFirst ts) → ParentsComeFirst (t ∷ ts)
    by true is reads rest = absurd (cc reads)
    by false is reads rest = behind_first t ts (spends_none (t ∷ ts) t is) (rest reads)

not_refused : {A : Type 0} (fault : A → Refusal) (o : Option A) → refuse fault o ≡ Ok tt → o ≡ None
not_refused fault None e = refl
not_refused fault (Some x) e = absurd (cc e)

pub lists_are : (earlier : List Earlier) (pending : List Transaction) → lists_at earlier pending ≡ Ok tt
    → AllPairs (λ (d e : Earlier). txid_of d.tx ≢ txid_of e.tx) earlier × AreDistinct pending × ParentsComeFirst pending
unfolding lists_at
lists_are earlier pending e =
    let a = bind_ok (refuse _ (repeat_from [] (earlier_txids earlier))) _ tt e in
    let b = bind_ok (refuse _ (repeat_from [] (txids_of pending))) _ tt a.2 in
    (distinct_of (λ (x : Earlier). txid_of x.tx) earlier (not_refused _ _ a.1), distinct_of txid_of pending (not_refused _ _ b.1), parents_first 0 pending (not_refused _ _ b.2))
