-- What the rules of entries and of whole lists come to.
use Rattle.std.proofs.Common.{◌≡◌, ◌≢◌, ℕ, zero, suc, ◌+◌, ◌<◌, ◌≤◌, Bool, true, false, cond, ◌&&◌, ◌||◌, not, List, [], ◌∷◌, ◌++◌, length, get_or, nat_lt, nat_le, ◌⊎◌, inl, inr, Option, Some, None, Result, Ok, Err, refl, sym, ap, subst, ◌∙◌, true≢false, arith, append_assoc}
use Rattle.std.proofs.lemmas.Bool.{leb-true, leb-false, ltb-true, ltb-false, lt-ltb}
use Rattle.std.proofs.lemmas.List.Quantifiers.{all_pairs_push}
use Rattle.std.proofs.lemmas.List.{get_or_default}
use Rattle.std.specs.Bool.{⊤}
use Rattle.std.specs.Prelude.{AllPairs, codes}
use Rattle.fund_base.proofs.Lists.{any_found}
use Rattle.fund_base.specs.Parsing.{◌>>=◌}
use Rattle.json_fields.proofs.Members.{is_among-Contains, Contains-is_among}
use Rattle.json_fields.specs.Fields.{is_among, refuse}
use Rattle.tx_codec.specs.Transaction.{Transaction}
use Rattle.tx_codec.specs.Txid.{txid_of}
use Rattle.tx_codec.specs.declared.tx.TxIn.{TxIn}
use Rattle.json_fields.specs.Repeats.{IsFirstRepeat}
use Rattle.wallet_text.specs.WalletRules.{IsWatch, SpendsNone, SpendsOneOf, AreDistinct, AreDistinctEarlier, IsFirstLater}
use Rattle.wallet_text.specs.WalletText.{told_index, has_script_length, judged, txids_of, earlier_txids, repeat_from, spends_one_of, later_from, lists_at}
use Rattle.wallet_text.specs.declared.fault.Refusal.{Refusal}
use Rattle.wallet_text.specs.declared.fault.Refusal.TheVariants.{Script, Weight, Repeat, ParentLater}
use Rattle.wallet_text.specs.declared.wallet.Watch.{Watch}
use Rattle.wallet_text.specs.PlainWallet.{Earlier}
use Rattle.wallet_text.proofs.Rules.{Apart, spends_none, distinct_of}

-- ---- entries

below_false : (a b : ℕ) → b ≤ a → nat_lt a b ≡ false
below_false a b le = by (nat_lt a b) refl
  where
    by : (t : Bool) → nat_lt a b ≡ t → t ≡ false
    by true e = let lt = ltb-true a b e in absurd (omega arith)
    by false e = refl

within_true : (a b : ℕ) → a ≤ b → nat_le a b ≡ true
within_true a b le = by (nat_le a b) refl
  where
    by : (t : Bool) → nat_le a b ≡ t → t ≡ true
    by true e = refl
    by false e = let lt = leb-false a b e in absurd (omega arith)

pub taken : (index : ℕ) (w : Watch) → IsWatch w → judged false index w ≡ Ok w
unfolding judged
taken index w is =
    rw (lt-ltb 0 (length w.script) is.some, within_true (length w.script) 10000 is.most, below_false w.weight 165 is.least_weight, below_false 400000 w.weight is.most_weight) refl

length_fails : (script : List ℕ) → has_script_length script ≡ false → (length script ≡ 0) ⊎ (10_000 < length script)
length_fails script e = by (nat_lt 0 (length script)) refl (nat_le (length script) 10000) refl e
  where
    by : (a : Bool) → nat_lt 0 (length script) ≡ a → (b : Bool) → nat_le (length script) 10000 ≡ b → (a && b) ≡ false → (length script ≡ 0) ⊎ (10_000 < length script)
    by false none b most test = let le = ltb-false 0 (length script) none in inl (omega arith)
    by true some false most test = inr (leb-false (length script) 10000 most)
    by true some true most test = absurd (true≢false test)

first_rule : (listed fits : Bool) (index told : ℕ) (rest : Result Watch Refusal) → ((told : ℕ) → rest ≢ Err (Script told)) → cond (listed || not fits) (Err (Script (told_index index))) rest ≡ Err (Script told) → (told ≡ told_index index) × ((listed ≡ true) ⊎ (fits ≡ false))
first_rule true fits index told rest never e = (sym (cc e), inl refl)
first_rule false false index told rest never e = (sym (cc e), inr refl)
first_rule false true index told rest never e = absurd (never told e)

not_script : (test : Bool) (index told : ℕ) (w : Watch) → cond test (Err (Weight index)) (Ok w) ≢ Err (Script told)
not_script true index told w = λ e. cc e
not_script false index told w = λ e. cc e

pub script_fault : (listed : Bool) (index told : ℕ) (w : Watch) → judged listed index w ≡ Err (Script told) → (told ≡ told_index index) × ((listed ≡ true) ⊎ ((length w.script ≡ 0) ⊎ (10_000 < length w.script)))
unfolding judged
script_fault listed index told w e =
    let a = first_rule listed (has_script_length w.script) index told _ (λ other. not_script (nat_lt w.weight 165 || nat_lt 400000 w.weight) (told_index index) other w) e in
    (a.0, by a.1)
  where
    by : (listed ≡ true) ⊎ (has_script_length w.script ≡ false) → (listed ≡ true) ⊎ ((length w.script ≡ 0) ⊎ (10_000 < length w.script))
    by (inl there) = inl there
    by (inr fails) = inr (length_fails w.script fails)

second_rule : (test low high : Bool) (index place told : ℕ) (w : Watch) → cond test (Err (Script place)) (cond (low || high) (Err (Weight index)) (Ok w)) ≡ Err (Weight told) → (told ≡ index) × ((low ≡ true) ⊎ (high ≡ true))
second_rule true low high index place told w e = absurd (cc e)
second_rule false true high index place told w e = (sym (cc e), inl refl)
second_rule false false true index place told w e = (sym (cc e), inr refl)
second_rule false false false index place told w e = absurd (cc e)

pub weight_fault : (listed : Bool) (index told : ℕ) (w : Watch) → judged listed index w ≡ Err (Weight told) → (told ≡ told_index index) × ((w.weight < 165) ⊎ (400_000 < w.weight))
unfolding judged
weight_fault listed index told w e =
    let a = second_rule (listed || not (has_script_length w.script)) (nat_lt w.weight 165) (nat_lt 400000 w.weight) (told_index index) (told_index index) told w e in
    (a.0, by a.1)
  where
    by : (nat_lt w.weight 165 ≡ true) ⊎ (nat_lt 400000 w.weight ≡ true) → (w.weight < 165) ⊎ (400_000 < w.weight)
    by (inl low) = inl (ltb-true w.weight 165 low)
    by (inr high) = inr (ltb-true 400000 w.weight high)

-- the other direction: what comes of each entry that breaks a rule
past_false : (a b : ℕ) → b < a → nat_le a b ≡ false
past_false a b lt = by (nat_le a b) refl
  where
    by : (t : Bool) → nat_le a b ≡ t → t ≡ false
    by true e = let le = leb-true a b e in absurd (omega arith)
    by false e = refl

pub script_told : (listed : Bool) (index : ℕ) (w : Watch) → (listed ≡ true) ⊎ ((length w.script ≡ 0) ⊎ (10_000 < length w.script)) → judged listed index w ≡ Err (Script (told_index index))
unfolding judged
script_told true index w why = refl
script_told false index w (inl e) = absurd (true≢false (sym e))
script_told false index w (inr (inl none)) = rw (below_false 0 (length w.script) (omega arith)) refl
script_told false index w (inr (inr long)) = rw (lt-ltb 0 (length w.script) (omega arith), past_false (length w.script) 10000 long) refl

pub weight_told : (index : ℕ) (w : Watch) → 0 < length w.script → length w.script ≤ 10_000 → (w.weight < 165) ⊎ (400_000 < w.weight) → judged false index w ≡ Err (Weight (told_index index))
unfolding judged
weight_told index w some most (inl low) =
    rw (lt-ltb 0 (length w.script) some, within_true (length w.script) 10000 most, lt-ltb w.weight 165 low) refl
weight_told index w some most (inr high) =
    rw (lt-ltb 0 (length w.script) some, within_true (length w.script) 10000 most, below_false w.weight 165 (omega arith), lt-ltb 400000 w.weight high) refl

-- ---- lists

pub repeat_is : (front xs : List (List ℕ)) (place : ℕ) → AllPairs Apart front → repeat_from front xs ≡ Some place → IsFirstRepeat (front ++ xs) place
unfolding repeat_from
repeat_is front [] place kept e = absurd (cc e)
repeat_is front (x ∷ xs) place kept e = by (is_among front x) refl e (repeat_is (front ++ x ∷ []) xs place)
  where
    by : (b : Bool) → is_among front x ≡ b → cond b (Some (length front)) (repeat_from (front ++ x ∷ []) xs) ≡ Some place → (AllPairs Apart (front ++ x ∷ []) → repeat_from (front ++ x ∷ []) xs ≡ Some place → IsFirstRepeat ((front ++ x ∷ []) ++ xs) place) → IsFirstRepeat (front ++ x ∷ xs) place
    by true is reads rest = record { front = front; again = x; back = xs; parts = refl; place_is = sym (cc reads); stood = Contains-is_among front x is; distinct = kept }
    by false is reads rest = subst (λ all. IsFirstRepeat all place) (append_assoc front (x ∷ []) xs) (rest (all_pairs_push Apart front x kept (λ k d lt same. true≢false (sym (is_among-Contains front x (k, lt, get_or_default front k x d lt ∙ same)) ∙ is))) reads)

spends_is : (ts : List Transaction) (t : Transaction) → spends_one_of (txids_of ts) t ≡ true → SpendsOneOf ts t
spends_is ts t e =
    let r = any_found (λ (i : TxIn). is_among (txids_of ts) i.prev.txid) t.inputs e in
    (r.0, r.1, Contains-is_among (txids_of ts) r.0.prev.txid r.2)

one_more : (t : Transaction) (ts : List Transaction) (n : ℕ) → ((j : ℕ) (d : Transaction) → j < length (t ∷ ts) → SpendsNone t (get_or (t ∷ ts) j d)) → ((i j : ℕ) (d : Transaction) → i < n → i ≤ j → j < length ts → SpendsNone (get_or ts i d) (get_or ts j d))
    → (i j : ℕ) (d : Transaction) → i < suc n → i ≤ j → j < length (t ∷ ts) → SpendsNone (get_or (t ∷ ts) i d) (get_or (t ∷ ts) j d)
one_more t ts n none rest zero j d lt le within = none j d within
one_more t ts n none rest (suc i) zero d lt le within = absurd (omega arith)
one_more t ts n none rest (suc i) (suc j) d lt le within = rest i j d (omega arith) (omega arith) (omega arith)

pub later_is : (index : ℕ) (ts : List Transaction) (place : ℕ) → later_from index ts ≡ Some place → (k : ℕ) × (place ≡ index + k) × IsFirstLater ts k
unfolding later_from
later_is index [] place e = absurd (cc e)
later_is index (t ∷ ts) place e = by (spends_one_of (txids_of (t ∷ ts)) t) refl e (later_is (suc index) ts place)
  where
    by : (b : Bool) → spends_one_of (txids_of (t ∷ ts)) t ≡ b → cond b (Some index) (later_from (suc index) ts) ≡ Some place → (later_from (suc index) ts ≡ Some place → (k : ℕ) × (place ≡ suc index + k) × IsFirstLater ts k) → (k : ℕ) × (place ≡ index + k) × IsFirstLater (t ∷ ts) k
    by true is reads rest =
        let same : index ≡ place = cc reads in
        (zero, omega arith, record { front = []; tx = t; back = ts; parts = refl; place_is = refl; spends = spends_is (t ∷ ts) t is; before = λ i j d lt le within. absurd (omega arith) })
    by false is reads rest =
        let r = rest reads in
        let at = r.1 in (
          suc r.0,
          omega arith,
          record {
            front = t ∷ r.2.front;
            tx = r.2.tx;
            back = r.2.back;
            parts = ap (λ l. t ∷ l) r.2.parts;
            place_is = ap suc r.2.place_is;
            spends = r.2.spends;
            before = one_more t ts (length r.2.front) (spends_none (t ∷ ts) t is) r.2.before;
          },
        )

refused_by : {A : Type 0} (fault : A → Refusal) (o : Option A) (rest : Result ⊤ Refusal) (e : Refusal) → (refuse fault o >>= λ _. rest) ≡ Err e → ((x : A) × (o ≡ Some x) × (e ≡ fault x)) ⊎ ((o ≡ None) × (rest ≡ Err e))
refused_by fault None rest e is = inr (refl, is)
refused_by fault (Some x) rest e is = inl (x, refl, sym (cc is))

refused_last : {A : Type 0} (fault : A → Refusal) (o : Option A) (e : Refusal) → refuse fault o ≡ Err e → (x : A) × (o ≡ Some x) × (e ≡ fault x)
refused_last fault None e is = absurd (cc is)
refused_last fault (Some x) e is = (x, refl, sym (cc is))

pub none_apart : AllPairs Apart []
none_apart i j d lt within = absurd (omega arith)

abbrev Repeated : List Earlier → List Transaction → List ℕ → ℕ → Type 0
Repeated earlier pending list told = (place : ℕ) × (told ≡ told_index place) × (((list ≡ codes "earlier") × IsFirstRepeat (earlier_txids earlier) place) ⊎ ((list ≡ codes "pending") × AreDistinctEarlier earlier × IsFirstRepeat (txids_of pending) place))

pub repeated : (earlier : List Earlier) (pending : List Transaction) (list : List ℕ) (told : ℕ) → lists_at earlier pending ≡ Err (Repeat list told) → Repeated earlier pending list told
unfolding lists_at
repeated earlier pending list told e = first (refused_by (λ i. Repeat (codes "earlier") (told_index i)) (repeat_from [] (earlier_txids earlier)) _ (Repeat list told) e)
  where
    third : (x : ℕ) × (later_from 0 pending ≡ Some x) × (Repeat list told ≡ ParentLater (told_index x)) → Repeated earlier pending list told
    third r = absurd (cc r.2)

    second : AreDistinctEarlier earlier → ((x : ℕ) × (repeat_from [] (txids_of pending) ≡ Some x) × (Repeat list told ≡ Repeat (codes "pending") (told_index x))) ⊎ ((repeat_from [] (txids_of pending) ≡ None) × (refuse (λ i. ParentLater (told_index i)) (later_from 0 pending) ≡ Err (Repeat list told))) → Repeated earlier pending list told
    second kept (inl r) = (r.0, cc r.2, inr (cc r.2, kept, repeat_is [] (txids_of pending) r.0 none_apart r.1))
    second kept (inr r) = third (refused_last (λ i. ParentLater (told_index i)) (later_from 0 pending) (Repeat list told) r.1)

    first : ((x : ℕ) × (repeat_from [] (earlier_txids earlier) ≡ Some x) × (Repeat list told ≡ Repeat (codes "earlier") (told_index x))) ⊎ ((repeat_from [] (earlier_txids earlier) ≡ None) × ((refuse (λ i. Repeat (codes "pending") (told_index i)) (repeat_from [] (txids_of pending)) >>= λ _. refuse (λ i. ParentLater (told_index i)) (later_from 0 pending)) ≡ Err (Repeat list told))) → Repeated earlier pending list told
    first (inl r) = (r.0, cc r.2, inl (cc r.2, repeat_is [] (earlier_txids earlier) r.0 none_apart r.1))
    first (inr r) = second (distinct_of (λ (e : Earlier). txid_of e.tx) earlier r.0) (refused_by (λ i. Repeat (codes "pending") (told_index i)) (repeat_from [] (txids_of pending)) _ (Repeat list told) r.1)

abbrev Later : List Earlier → List Transaction → ℕ → Type 0
Later earlier pending told = (place : ℕ) × (told ≡ told_index place) × AreDistinctEarlier earlier × AreDistinct pending × IsFirstLater pending place

pub later : (earlier : List Earlier) (pending : List Transaction) (told : ℕ) → lists_at earlier pending ≡ Err (ParentLater told) → Later earlier pending told
unfolding lists_at
later earlier pending told e = first (refused_by (λ i. Repeat (codes "earlier") (told_index i)) (repeat_from [] (earlier_txids earlier)) _ (ParentLater told) e)
  where
    third : AreDistinctEarlier earlier → repeat_from [] (txids_of pending) ≡ None → (x : ℕ) × (later_from 0 pending ≡ Some x) × (ParentLater told ≡ ParentLater (told_index x)) → Later earlier pending told
    third kept none r =
        let at = later_is 0 pending r.0 r.1 in
        let place = at.1 in
        let same : r.0 ≡ at.0 = omega arith in
        let is : told ≡ told_index r.0 = cc r.2 in
        (at.0, is ∙ ap told_index same, kept, distinct_of txid_of pending none, at.2)

    second : AreDistinctEarlier earlier → ((x : ℕ) × (repeat_from [] (txids_of pending) ≡ Some x) × (ParentLater told ≡ Repeat (codes "pending") (told_index x))) ⊎ ((repeat_from [] (txids_of pending) ≡ None) × (refuse (λ i. ParentLater (told_index i)) (later_from 0 pending) ≡ Err (ParentLater told))) → Later earlier pending told
    second kept (inl r) = absurd (cc r.2)
    second kept (inr r) = third kept r.0 (refused_last (λ i. ParentLater (told_index i)) (later_from 0 pending) (ParentLater told) r.1)

    first : ((x : ℕ) × (repeat_from [] (earlier_txids earlier) ≡ Some x) × (ParentLater told ≡ Repeat (codes "earlier") (told_index x))) ⊎ ((repeat_from [] (earlier_txids earlier) ≡ None) × ((refuse (λ i. Repeat (codes "pending") (told_index i)) (repeat_from [] (txids_of pending)) >>= λ _. refuse (λ i. ParentLater (told_index i)) (later_from 0 pending)) ≡ Err (ParentLater told))) → Later earlier pending told
    first (inl r) = absurd (cc r.2)
    first (inr r) = second (distinct_of (λ (e : Earlier). txid_of e.tx) earlier r.0) (refused_by (λ i. Repeat (codes "pending") (told_index i)) (repeat_from [] (txids_of pending)) _ (ParentLater told) r.1)
