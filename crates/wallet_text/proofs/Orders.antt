-- The rules over whole lists, as loops test them.
use Rattle.std.proofs.Common.{◌≡◌, ℕ, suc, ◌+◌, ◌<◌, ◌≤◌, Bool, true, false, cond, ◌||◌, List, [], ◌∷◌, ◌++◌, length, get_or, map, take, drop, bytes_eq, Option, Some, None, refl, sym, ap, ◌∙◌, arith, add-one, drop-cons, not}
use Rattle.std.proofs.Math.ListN.{drop_of_length-le}
use Rattle.std.proofs.Math.Seq.{take-suc, drop-length}
use Rattle.std.proofs.lemmas.List.{length-take-le, map_more}
use Rattle.std.proofs.lemmas.List.Folds.{list_any-append}
use Rattle.std.proofs.lemmas.Slice.Eq.{bytes_eq-Decides}
use Rattle.std.specs.List.{list_any}
use Rattle.std.proofs.lemmas.Bool.{not-false, not-true}
use Rattle.json_fields.specs.Fields.{is_among}
use Rattle.tx_codec.specs.Transaction.{Transaction}
use Rattle.tx_codec.specs.Txid.{txid_of}
use Rattle.tx_codec.specs.declared.tx.TxIn.{TxIn}
use Rattle.wallet_text.specs.WalletText.{txids_of, repeat_from, spends_one_of, later_from}

-- ---- repeats

-- one place further
pub repeat_more : (xs : List (List ℕ)) (i : ℕ) (d : List ℕ) (total : Option ℕ) → i < length xs → is_among (take i xs) (get_or xs i d) ≡ false
    → repeat_from (take i xs) (drop i xs) ≡ total → repeat_from (take (i + 1) xs) (drop (i + 1) xs) ≡ total
unfolding repeat_from
repeat_more xs i d total lt fresh so_far =
    let e : drop i xs ≡ get_or xs i d ∷ drop (suc i) xs = drop-cons xs i d lt in
    let one : repeat_from (take i xs) (drop i xs) ≡ repeat_from (take i xs ++ get_or xs i d ∷ []) (drop (suc i) xs) = rw (e, fresh) refl in
    let front : take i xs ++ get_or xs i d ∷ [] ≡ take (suc i) xs = sym (take-suc xs i d lt) in
    rw add-one (ap (λ f. repeat_from f (drop (suc i) xs)) (sym front) ∙ sym one ∙ so_far)

-- a repeat
pub repeat_here : (xs : List (List ℕ)) (i : ℕ) (d : List ℕ) (total : Option ℕ) → i < length xs → is_among (take i xs) (get_or xs i d) ≡ true
    → repeat_from (take i xs) (drop i xs) ≡ total → Some i ≡ total
unfolding repeat_from
repeat_here xs i d total lt stood so_far =
    let e : drop i xs ≡ get_or xs i d ∷ drop (suc i) xs = drop-cons xs i d lt in
    let long : length (take i xs) ≡ i = length-take-le i xs (omega arith) in
    let one : repeat_from (take i xs) (drop i xs) ≡ Some (length (take i xs)) = rw (e, stood) refl in
    sym (ap Some long) ∙ sym one ∙ so_far

-- the end
pub repeat_none : (xs : List (List ℕ)) (i : ℕ) (total : Option ℕ) → length xs ≤ i → repeat_from (take i xs) (drop i xs) ≡ total → None ≡ total
unfolding repeat_from
repeat_none xs i total le so_far =
    let e : drop i xs ≡ [] = drop_of_length-le xs le in
    let one : repeat_from (take i xs) (drop i xs) ≡ None = rw e refl in
    sym one ∙ so_far

-- a place whose string was there
pub repeat_found : (xs : List (List ℕ)) (i : ℕ) (d x : List ℕ) (seen : List (List ℕ)) (fresh : Bool) (total : Option ℕ) → i < length xs → x ≡ get_or xs i d → seen ≡ take i xs → fresh ≡ not (is_among seen x) → fresh ≡ false
    → repeat_from (take i xs) (drop i xs) ≡ total → Some i ≡ total
repeat_found xs i d x seen fresh total lt is front told known so_far =
    repeat_here xs i d total lt ((λ k. is_among (sym front k) (sym is k)) ∙ not-false (is_among seen x) (sym told ∙ known)) so_far

-- a place whose string is new
pub repeat_step : (xs : List (List ℕ)) (i : ℕ) (d x : List ℕ) (seen new : List (List ℕ)) (fresh : Bool) (total : Option ℕ) → i < length xs → x ≡ get_or xs i d → seen ≡ take i xs → fresh ≡ not (is_among seen x) → fresh ≡ true
    → new ≡ cond (is_among seen x) seen (seen ++ x ∷ []) → repeat_from (take i xs) (drop i xs) ≡ total → (new ≡ take (i + 1) xs) × (repeat_from (take (i + 1) xs) (drop (i + 1) xs) ≡ total)
repeat_step xs i d x seen new fresh total lt is front told known added so_far =
    let absent : is_among seen x ≡ false = not-true (is_among seen x) (sym told ∙ known) in
    let front_more : new ≡ take (i + 1) xs = added ∙ ap (λ b. cond b seen (seen ++ x ∷ [])) absent ∙ (λ k. front k ++ is k ∷ []) ∙ rw add-one (sym (take-suc xs i d lt)) in
    (front_more, repeat_more xs i d total lt ((λ k. is_among (sym front k) (sym is k)) ∙ absent) so_far)

-- ---- parents

-- after the last there is nothing
pub later_none : (ts : List Transaction) (later : List (List ℕ)) → later ≡ [] → (q : List ℕ) → is_among later q ≡ is_among (txids_of (drop (length ts) ts)) q
later_none ts later empty q = ap (λ l. is_among l q) empty ∙ sym (ap (λ r. is_among (txids_of r) q) (drop-length ts))

pub first_none : (ts : List Transaction) → None ≡ later_from (length ts) (drop (length ts) ts)
unfolding later_from
first_none ts = sym (ap (later_from (length ts)) (drop-length ts))

or_same : (a b : Bool) → (a ≡ true → b ≡ true) → b ≡ (a || b)
or_same true b h = h refl
or_same false b h = refl

or_last : (a b : Bool) → (a || (b || false)) ≡ (b || a)
or_last true true = refl
or_last true false = refl
or_last false true = refl
or_last false false = refl

-- a string that is inserted is among them, and no other is added
inserted : (old new : List (List ℕ)) (x q : List ℕ) → new ≡ cond (is_among old x) old (old ++ x ∷ []) → is_among new q ≡ (bytes_eq q x || is_among old q)
inserted old new x q e = ap (λ strings. is_among strings q) e ∙ by (is_among old x) refl
  where
    by : (b : Bool) → is_among old x ≡ b → is_among (cond b old (old ++ x ∷ [])) q ≡ (bytes_eq q x || is_among old q)
    by true there = or_same (bytes_eq q x) (is_among old q) (λ same. ap (is_among old) ((bytes_eq-Decides q x).0 same) ∙ there)
    by false there = list_any-append (bytes_eq q) old (x ∷ []) ∙ or_last (is_among old q) (bytes_eq q x)

-- the txids of the transactions from a place on
pub later_more : (ts : List Transaction) (i : ℕ) (d : Transaction) (old new : List (List ℕ)) (x : List ℕ) → i < length ts → x ≡ txid_of (get_or ts i d)
    → ((q : List ℕ) → is_among old q ≡ is_among (txids_of (drop (suc i) ts)) q) → new ≡ cond (is_among old x) old (old ++ x ∷ [])
    → (q : List ℕ) → is_among new q ≡ is_among (txids_of (drop i ts)) q
later_more ts i d old new x lt is same e q =
    let rest : drop i ts ≡ get_or ts i d ∷ drop (suc i) ts = drop-cons ts i d lt in
    inserted old new x q e ∙ ap (λ b. bytes_eq q x || b) (same q) ∙ ap (λ y. bytes_eq q y || is_among (txids_of (drop (suc i) ts)) q) is ∙ sym (ap (λ r. is_among (txids_of r) q) rest)

same_inputs : (a b : List (List ℕ)) → ((q : List ℕ) → is_among a q ≡ is_among b q) → (inputs : List TxIn) → list_any (λ (i : TxIn). is_among a i.prev.txid) inputs ≡ list_any (λ (i : TxIn). is_among b i.prev.txid) inputs
same_inputs a b same [] = refl
same_inputs a b same (i ∷ inputs) = ap (λ t. t || list_any (λ (j : TxIn). is_among a j.prev.txid) inputs) (same i.prev.txid) ∙ ap (λ t. is_among b i.prev.txid || t) (same_inputs a b same inputs)

-- the first place, one place further to the front
pub first_more : (ts : List Transaction) (i : ℕ) (d : Transaction) (later : List (List ℕ)) (behind now : Option ℕ) → i < length ts
    → ((q : List ℕ) → is_among later q ≡ is_among (txids_of (drop i ts)) q) → behind ≡ later_from (suc i) (drop (suc i) ts)
    → now ≡ cond (spends_one_of later (get_or ts i d)) (Some i) behind → now ≡ later_from i (drop i ts)
unfolding later_from
first_more ts i d later behind now lt same found e =
    let rest : drop i ts ≡ get_or ts i d ∷ drop (suc i) ts = drop-cons ts i d lt in
    let test : spends_one_of later (get_or ts i d) ≡ spends_one_of (txids_of (get_or ts i d ∷ drop (suc i) ts)) (get_or ts i d) =
    same_inputs later (txids_of (drop i ts)) same (get_or ts i d).inputs ∙ ap (λ r. spends_one_of (txids_of r) (get_or ts i d)) rest in
    e ∙ ap (λ b. cond b (Some i) behind) test ∙ ap (λ o. cond (spends_one_of (txids_of (get_or ts i d ∷ drop (suc i) ts)) (get_or ts i d)) (Some i) o) found ∙ sym (ap (later_from i) rest)

-- the image of one item more
pub image_more : {X : Type 0} (f : X → List ℕ) (xs : List X) (i : ℕ) (x : X) (y : List ℕ) (images : List (List ℕ)) → i < length xs → x ≡ get_or xs i x → y ≡ f x → images ≡ map f (take i xs) → images ++ y ∷ [] ≡ map f (take (i + 1) xs)
image_more f xs i x y images lt is reads so_far = ap (λ l. l ++ y ∷ []) so_far ∙ ap (λ z. map f (take i xs) ++ z ∷ []) (reads ∙ ap f is) ∙ sym (map_more f xs i x lt)
