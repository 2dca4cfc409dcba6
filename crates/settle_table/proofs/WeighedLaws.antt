-- The inputs of a signed transaction, each with the weight that was declared for it.
use Rattle.std.proofs.Common.{◌≡◌, ◌∙◌, ◌<◌, ◌≤◌, ℕ, ◌+◌, List, [], ◌∷◌, ◌++◌, Bool, length, get_or, min, take, sym, ap, arith}
use Rattle.std.specs.Prelude.{map}
use Rattle.std.specs.List.{zip}
use Rattle.std.proofs.lemmas.List.{map-append, take_all, take_more}
use Rattle.std.proofs.lemmas.Grind.{get_or_default_zero}
use Rattle.std.proofs.lemmas.Slice.Zip.{get_or-zip, length-zip}
use Rattle.settle_check.proofs.FaultLaws.{same_count}
use Rattle.settle_check.specs.Settled.{Settles}
use Rattle.tx_codec.specs.Transaction.{Transaction}
use Rattle.tx_codec.specs.declared.tx.TxIn.{TxIn}
use Rattle.tx_codec.specs.declared.tx.TxOut.{TxOut}
use Rattle.settle_table.specs.Weighed.{weighed_of}
use Rattle.settle_table.specs.declared.inputs.WeighedInput.{WeighedInput}

-- as many weights are declared as the signed transaction has inputs
pub as_declared : (tx : Transaction) (spent : List TxOut) (declared : List ℕ) (signed : Transaction) (rate : ℕ) → length declared ≡ length tx.inputs → Settles tx spent declared signed rate → length declared ≡ length signed.inputs
as_declared tx spent declared signed rate len settles = len ∙ sym (same_count signed.inputs tx.inputs settles.same.inputs)

module _ (segwit : Bool) (inputs : List TxIn) (declared : List ℕ) (len : length declared ≡ length inputs) where
  pairs_long : length (zip inputs declared) ≡ length inputs
  pairs_long = let pairs : length (zip inputs declared) ≡ min (length inputs) (length declared) = length-zip inputs declared in omega (arith, pairs, len)

  pair_at : (n : ℕ) (i : TxIn) (d : ℕ) → n < length inputs → i ≡ get_or inputs n i → d ≡ get_or declared n 0 → get_or (zip inputs declared) n (i, d) ≡ (i, d)
  pair_at n i d within here beside =
      let within' : n < length declared = omega (arith, within, len) in
      let by_input : TxIn → TxIn × ℕ = λ x. (x, get_or declared n d) in
      let by_weight : ℕ → TxIn × ℕ = λ x. (i, x) in
      get_or-zip inputs declared n (i, d) within within' ∙ ap by_input (sym here) ∙ ap by_weight (get_or_default_zero declared n d within' ∙ sym beside)

  -- one input more
  pub weighed_next : (n : ℕ) (i : TxIn) (d : ℕ) (found after : List WeighedInput) (x : WeighedInput) → n < length inputs → i ≡ get_or inputs n i → d ≡ get_or declared n 0 → found ≡ map (weighed_of segwit) (take n (zip inputs declared))
      → after ≡ found ++ x ∷ [] → x ≡ weighed_of segwit (i, d) → after ≡ map (weighed_of segwit) (take (n + 1) (zip inputs declared))
  weighed_next n i d found after x within here beside before made is =
      let pairs : List (TxIn × ℕ) = zip inputs declared in
      let lt : n < length pairs = let long = pairs_long in omega (arith, within, long) in
      let taken : take (n + 1) pairs ≡ take n pairs ++ (i, d) ∷ [] = take_more pairs n (i, d) lt ∙ ap (λ (p : TxIn × ℕ). take n pairs ++ p ∷ []) (pair_at n i d within here beside) in
      made
      ∙ ap (λ (l : List WeighedInput). l ++ x ∷ []) before
      ∙ ap (λ (y : WeighedInput). map (weighed_of segwit) (take n pairs) ++ y ∷ []) is
      ∙ sym (map-append (weighed_of segwit) (take n pairs) ((i, d) ∷ []))
      ∙ ap (λ (l : List (TxIn × ℕ)). map (weighed_of segwit) l) (sym taken)

  -- all of them
  pub weighed_all : (n : ℕ) (found : List WeighedInput) → length inputs ≤ n → found ≡ map (weighed_of segwit) (take n (zip inputs declared)) → found ≡ map (weighed_of segwit) (zip inputs declared)
  weighed_all n found over before =
      let long = pairs_long in
      before ∙ ap (λ (l : List (TxIn × ℕ)). map (weighed_of segwit) l) (take_all n (zip inputs declared) (omega (arith, over, long)))
