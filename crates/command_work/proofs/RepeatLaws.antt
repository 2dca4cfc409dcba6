-- The first of a workload's transactions that has the txid of one before it.
use Rattle.std.proofs.Common.{◌≡◌, ◌≢◌, ◌∙◌, ℕ, ◌+◌, ◌<◌, List, [], ◌∷◌, length, get_or, map, inl, inr, Option, Some, None, refl, sym, ap, arith}
use Rattle.std.specs.Prelude.{◌⊎◌, AllPairs}
use Rattle.std.proofs.Math.Seq.{get_or-append_seam}
use Rattle.std.proofs.lemmas.Bool.{cases_order}
use Rattle.std.proofs.lemmas.List.{get_or-map, get_or_append_left, length-append, length-map}
use Rattle.tx_codec.specs.Txid.{txid_of}
use Rattle.wallet_text.proofs.Rules.{distinct_of}
use Rattle.wallet_text.proofs.WalletLaws.{none_apart, repeat_is}
use Rattle.json_fields.specs.Repeats.{IsFirstRepeat}
use Rattle.wallet_text.specs.WalletRules.{AreDistinctEarlier}
use Rattle.wallet_text.specs.WalletText.{earlier_txids, repeat_from}
use Rattle.wallet_text.specs.PlainWallet.{Earlier}

-- of distinct images none stands twice
never_twice : {X : Type 0} (f : X → List ℕ) (x : X) (xs : List X) (place : ℕ) → AllPairs (λ a b. f a ≢ f b) xs → IsFirstRepeat (map f xs) place → ⊥
never_twice f x xs place distinct is =
    let k = is.stood.0 in
    let within = is.stood.1 in
    let long = length-map xs f in
    let parts = ap length is.parts in
    let joined = length-append is.front (is.again ∷ is.back) in
    let second_within : length is.front < length xs = omega arith in
    let first : get_or (map f xs) k is.again ≡ is.again = ap (λ l. get_or l k is.again) is.parts ∙ get_or_append_left is.front (is.again ∷ is.back) is.again k within ∙ is.stood.2 in
    let second : get_or (map f xs) (length is.front) is.again ≡ is.again = ap (λ l. get_or l (length is.front) is.again) is.parts ∙ get_or-append_seam is.front is.again is.back is.again in
    distinct k (length is.front) x within second_within
    (sym (get_or-map f xs k x is.again (omega arith)) ∙ first ∙ sym second ∙ get_or-map f xs (length is.front) x is.again second_within)

-- where one stands first, there is one at all
pub not_distinct : (es : List Earlier) (place : ℕ) → AreDistinctEarlier es → IsFirstRepeat (earlier_txids es) place → ⊥
not_distinct [] place distinct is =
    absurd (omega (arith, ap (λ (ts : List (List ℕ)). length ts) is.parts, length-append is.front (is.again ∷ is.back)))
not_distinct (e ∷ es) place distinct is = never_twice (λ (d : Earlier). txid_of d.tx) e (e ∷ es) place distinct is

-- none stands first before another that does
earlier_clash : (xs : List (List ℕ)) (i j : ℕ) → IsFirstRepeat xs i → IsFirstRepeat xs j → i < j → ⊥
earlier_clash xs i j a b lt =
    let k = a.stood.0 in
    let within = a.stood.1 in
    let at_i = a.place_is in
    let at_j = b.place_is in
    let t = a.again in
    let left_k : k < length b.front = omega arith in
    let left_i : length a.front < length b.front = omega arith in
    let first : get_or xs k t ≡ t = ap (λ l. get_or l k t) a.parts ∙ get_or_append_left a.front (t ∷ a.back) t k within ∙ a.stood.2 in
    let second : get_or xs (length a.front) t ≡ t = ap (λ l. get_or l (length a.front) t) a.parts ∙ get_or-append_seam a.front t a.back t in
    let first_there : get_or xs k t ≡ get_or b.front k t = ap (λ l. get_or l k t) b.parts ∙ get_or_append_left b.front (b.again ∷ b.back) t k left_k in
    let second_there : get_or xs (length a.front) t ≡ get_or b.front (length a.front) t = ap (λ l. get_or l (length a.front) t) b.parts ∙ get_or_append_left b.front (b.again ∷ b.back) t (length a.front) left_i in
    b.distinct k (length a.front) t within left_i (sym first_there ∙ first ∙ sym second ∙ second_there)

one_first : (xs : List (List ℕ)) (i j : ℕ) → IsFirstRepeat xs i → IsFirstRepeat xs j → i ≡ j
one_first xs i j a b = by (cases_order i j)
  where
    by : (i ≡ j) ⊎ ((i < j) ⊎ (j < i)) → i ≡ j
    by (inl e) = e
    by (inr (inl lt)) = absurd (earlier_clash xs i j a b lt)
    by (inr (inr lt)) = absurd (earlier_clash xs j i b a lt)

-- what stands first is found
pub repeat_found : (es : List Earlier) (place : ℕ) → IsFirstRepeat (earlier_txids es) place → repeat_from [] (earlier_txids es) ≡ Some place
repeat_found es place is = by (repeat_from [] (earlier_txids es)) refl
  where
    by : (o : Option ℕ) → repeat_from [] (earlier_txids es) ≡ o → repeat_from [] (earlier_txids es) ≡ Some place
    by None e = absurd (not_distinct es place (distinct_of (λ (d : Earlier). txid_of d.tx) es e) is)
    by (Some other) e = e ∙ ap (λ (n : ℕ). Some n) (one_first (earlier_txids es) other place (repeat_is [] (earlier_txids es) other none_apart e) is)

-- and what is found stands first
pub repeat_first : (es : List Earlier) (place : ℕ) → repeat_from [] (earlier_txids es) ≡ Some place → IsFirstRepeat (earlier_txids es) place
repeat_first es place e = repeat_is [] (earlier_txids es) place none_apart e

-- none is found where all differ
pub none_found : (es : List Earlier) → AreDistinctEarlier es → repeat_from [] (earlier_txids es) ≡ None
none_found es distinct = by (repeat_from [] (earlier_txids es)) refl
  where
    by : (o : Option ℕ) → repeat_from [] (earlier_txids es) ≡ o → repeat_from [] (earlier_txids es) ≡ None
    by None e = e
    by (Some place) e = absurd (not_distinct es place distinct (repeat_first es place e))

-- where none is found all differ
pub distinct_where_none : (es : List Earlier) → repeat_from [] (earlier_txids es) ≡ None → AreDistinctEarlier es
distinct_where_none es e = distinct_of (λ (d : Earlier). txid_of d.tx) es e
