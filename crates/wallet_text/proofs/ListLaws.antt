-- Lists that keep the rules are taken, and what is reported of others.
use Rattle.std.proofs.Common.{◌≡◌, ◌≢◌, ℕ, ◌+◌, ◌<◌, List, [], ◌∷◌, length, get_or, map, ◌⊎◌, inl, inr, Option, Some, None, Ok, Err, refl, sym, ap, subst, ◌∙◌, arith}
use Rattle.std.proofs.Math.Seq.{get_or-append_seam}
use Rattle.std.proofs.lemmas.List.{get_or-append-add, get_or-map, get_or_append_left, length-append, length-map}
use Rattle.std.proofs.lemmas.List.Elements.{All-contains}
use Rattle.std.specs.Prelude.{AllPairs, codes}
use Rattle.fund_base.specs.Parsing.{◌>>=◌}
use Rattle.json_fields.specs.Fields.{refuse}
use Rattle.tx_codec.specs.Transaction.{Transaction}
use Rattle.tx_codec.specs.Txid.{txid_of}
use Rattle.tx_codec.specs.declared.tx.TxIn.{TxIn}
use Rattle.json_fields.specs.Repeats.{IsFirstRepeat}
use Rattle.wallet_text.specs.WalletRules.{AreDistinct, AreDistinctEarlier, ParentsComeFirst, IsFirstLater}
use Rattle.wallet_text.specs.WalletText.{told_index, txids_of, earlier_txids, repeat_from, later_from, lists_at}
use Rattle.wallet_text.specs.declared.fault.Refusal.{Refusal}
use Rattle.wallet_text.specs.declared.fault.Refusal.TheVariants.{Repeat, ParentLater}
use Rattle.wallet_text.specs.PlainWallet.{Earlier}
use Rattle.wallet_text.proofs.WalletLaws.{repeat_is, later_is, none_apart}

-- of distinct images none stands twice
never_twice : {X : Type 0} (f : X → List ℕ) (x : X) (xs : List X) (place : ℕ) → AllPairs (λ a b. f a ≢ f b) xs → IsFirstRepeat (map f xs) place → ⊥
never_twice f x xs place distinct is =
    let k = is.stood.0 in
    let within = is.stood.1 in
    let long = length-map xs f in
    let parts = ap length is.parts in
    let joined = length-append is.front (is.again ∷ is.back) in
    let second_within : length is.front < length xs = omega arith in
    let first : get_or (map f xs) k is.again ≡ is.again = ap (λ l. get_or l k is.again) is.parts ∙ get_or_append_left is.front (is.again ∷ is.back) is.again k within ∙ is.stood.2 in
    let second : get_or (map f xs) (length is.front) is.again ≡ is.again = ap (λ l. get_or l (length is.front) is.again) is.parts ∙ get_or-append_seam is.front is.again is.back is.again in
    distinct k (length is.front) x within second_within
    (sym (get_or-map f xs k x is.again (omega arith)) ∙ first ∙ sym second ∙ get_or-map f xs (length is.front) x is.again second_within)

none_repeated : {X : Type 0} (f : X → List ℕ) (xs : List X) → AllPairs (λ a b. f a ≢ f b) xs → repeat_from [] (map f xs) ≡ None
unfolding repeat_from
none_repeated f [] distinct = refl
none_repeated f (x ∷ xs) distinct = by (repeat_from [] (map f (x ∷ xs))) refl
  where
    by : (o : Option ℕ) → repeat_from [] (map f (x ∷ xs)) ≡ o → o ≡ None
    by None e = refl
    by (Some place) e = absurd (never_twice f x (x ∷ xs) place distinct (repeat_is [] (map f (x ∷ xs)) place none_apart e))

-- where parents come first none comes later
never_later : (ts : List Transaction) (place : ℕ) → ParentsComeFirst ts → IsFirstLater ts place → ⊥
never_later ts place first is =
    let input = is.spends.0 in
    let stands = is.spends.2 in
    let m = stands.0 in
    let long = length-map (is.tx ∷ is.back) txid_of in
    let within : m < length (is.tx ∷ is.back) = let lt = stands.1 in omega arith in
    let joined = length-append is.front (is.tx ∷ is.back) in
    let parts = ap length is.parts in
    let here : get_or ts (length is.front) is.tx ≡ is.tx = ap (λ l. get_or l (length is.front) is.tx) is.parts ∙ get_or-append_seam is.front is.tx is.back is.tx in
    let there : get_or ts (length is.front + m) is.tx ≡ get_or (is.tx ∷ is.back) m is.tx = ap (λ l. get_or l (length is.front + m) is.tx) is.parts ∙ get_or-append-add is.front (is.tx ∷ is.back) m is.tx in
    let none = first (length is.front) (length is.front + m) is.tx (omega arith) (omega arith) in
    let apart = All-contains (λ (i : TxIn). i.prev.txid ≢ txid_of (get_or ts (length is.front + m) is.tx)) is.tx.inputs input (subst (λ (t : Transaction). (k : ℕ) (d : TxIn) → k < length t.inputs → (get_or t.inputs k d).prev.txid ≢ txid_of (get_or ts (length is.front + m) is.tx)) here none) is.spends.1 in
    apart (sym stands.2 ∙ get_or-map txid_of (is.tx ∷ is.back) m is.tx input.prev.txid within ∙ ap txid_of (sym there))

none_later : (ts : List Transaction) → ParentsComeFirst ts → later_from 0 ts ≡ None
none_later ts first = by (later_from 0 ts) refl
  where
    by : (o : Option ℕ) → later_from 0 ts ≡ o → o ≡ None
    by None e = refl
    by (Some place) e = let is = later_is 0 ts place e in absurd (never_later ts is.0 first is.2)

pub only : (earlier : List Earlier) (pending : List Transaction) → AreDistinctEarlier earlier → AreDistinct pending → ParentsComeFirst pending → lists_at earlier pending ≡ Ok tt
unfolding lists_at
only earlier pending distinct apart first =
    let none : repeat_from [] (earlier_txids earlier) ≡ None = none_repeated (λ (e : Earlier). txid_of e.tx) earlier distinct in
    rw (none, none_repeated txid_of pending apart, none_later pending first) refl

abbrev Told : Refusal → Type 0
Told fault = ((list : List ℕ) × (told : ℕ) × (fault ≡ Repeat list told)) ⊎ ((told : ℕ) × (fault ≡ ParentLater told))

pub other : (earlier : List Earlier) (pending : List Transaction) (fault : Refusal) → lists_at earlier pending ≡ Err fault → Told fault
unfolding lists_at
other earlier pending fault e = by (repeat_from [] (earlier_txids earlier)) (repeat_from [] (txids_of pending)) (later_from 0 pending) e
  where
    by : (a b c : Option ℕ) → (refuse (λ i. Repeat (codes "earlier") (told_index i)) a >>= λ _. refuse (λ i. Repeat (codes "pending") (told_index i)) b >>= λ _. refuse (λ i. ParentLater (told_index i)) c) ≡ Err fault → Told fault
    by (Some i) b c reads = inl (codes "earlier", told_index i, sym (cc reads))
    by None (Some i) c reads = inl (codes "pending", told_index i, sym (cc reads))
    by None None (Some i) reads = inr (told_index i, sym (cc reads))
    by None None None reads = absurd (cc reads)
