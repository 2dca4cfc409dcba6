-- The txids of transactions that wait, and those of one more.
use Rattle.std.specs.Prelude.{ℕ, ◌≡◌, ◌<◌, ◌≤◌, ◌++◌, ◌||◌, List, length, [], ◌∷◌, Bool, true, false, bytes_eq, Result, Ok, Err, IsOk, OnErr, OnOk}
use Rattle.std.specs.List.{list_any}
use Rattle.std.proofs.Common.{cond, refl, sym, ap, subst, ◌∙◌, true≢false}
use Rattle.std.proofs.lemmas.List.Folds.{list_any-append}
use Rattle.indexmap.specs.IndexSet.{contains, spare}
use Rattle.tx_codec.specs.Transaction.{Transaction}
use Rattle.tx_codec.specs.Txid.{txid_of}
use Rattle.tx_codec.specs.declared.tx.TxIn.{TxIn}
use Rattle.wallet_text.specs.PlainWallet.{PlainWallet}
use Rattle.desk_machine.specs.Machine.{is_repeat, spends_txid, waiting}
use Rattle.desk_chain.specs.PendingTxids.{AreTxidsOf, HasRoomFor, has_parent}
use Rattle.desk_chain.specs.declared.pending_txids.PendingTxids.{PendingTxids}

-- ---- those of none

pub none_kept : (t : PendingTxids) → t.txids.keys ≡ [] → t.parents.keys ≡ [] → AreTxidsOf [] t
none_kept t own parents = record {
  txids = λ id. ap (λ (ks : List (List ℕ)). list_any (bytes_eq id) ks) own;
  parents = λ id. ap (λ (ks : List (List ℕ)). list_any (bytes_eq id) ks) parents;
}

-- ---- the same ones

pub same_kept : (pending : List Transaction) (old new : PendingTxids) → new.txids.keys ≡ old.txids.keys → new.parents.keys ≡ old.parents.keys → AreTxidsOf pending old → AreTxidsOf pending new
same_kept pending old new own parents h = record {
  txids = λ id. ap (λ (ks : List (List ℕ)). list_any (bytes_eq id) ks) own ∙ h.txids id;
  parents = λ id. ap (λ (ks : List (List ℕ)). list_any (bytes_eq id) ks) parents ∙ h.parents id;
}

-- ---- one more

-- one is among them where it is the last, or is one of the others
own_last : (a b : Bool) → cond a true b ≡ (b || (a || false))
own_last true true = refl
own_last true false = refl
own_last false true = refl
own_last false false = refl

either_last : (a b : Bool) → (a || b) ≡ (a || (b || false))
either_last true b = refl
either_last false true = refl
either_last false false = refl

txid_more : (pending : List Transaction) (t : Transaction) (id q : List ℕ) (old new : Bool) → id ≡ txid_of t → old ≡ is_repeat pending q → new ≡ cond (bytes_eq id q) true old → new ≡ is_repeat (pending ++ t ∷ []) q
txid_more pending t id q old new same h is =
    is
    ∙ (λ k. cond (bytes_eq (same k) q) true (h k))
    ∙ own_last (bytes_eq (txid_of t) q) (is_repeat pending q)
    ∙ sym (list_any-append (λ (u : Transaction). bytes_eq (txid_of u) q) pending (t ∷ []))

parent_more : (pending : List Transaction) (t : Transaction) (inputs : List TxIn) (q : List ℕ) (old new : Bool) → inputs ≡ t.inputs → old ≡ list_any (spends_txid q) pending → new ≡ (old || has_parent q inputs) → new ≡ list_any (spends_txid q) (pending ++ t ∷ [])
parent_more pending t inputs q old new same h is =
    is
    ∙ (λ k. h k || has_parent q (same k))
    ∙ either_last (list_any (spends_txid q) pending) (spends_txid q t)
    ∙ sym (list_any-append (spends_txid q) pending (t ∷ []))

-- those of one more are added to those of others
pub more_kept : {A E : Type 0} (r : Result A E) (pending : List Transaction) (t : Transaction) (id : List ℕ) (inputs : List TxIn) (old new : PendingTxids) → id ≡ txid_of t → inputs ≡ t.inputs
    → ((q : List ℕ) → contains bytes_eq new.txids q ≡ cond (bytes_eq id q) true (contains bytes_eq old.txids q)) → ((q : List ℕ) → OnOk r (contains bytes_eq new.parents q ≡ (contains bytes_eq old.parents q || has_parent q inputs)))
    → OnOk r (AreTxidsOf pending old → AreTxidsOf (pending ++ t ∷ []) new)
more_kept (Ok a) pending t id inputs old new same read own parents = λ h. record {
  txids = λ q. txid_more pending t id q (contains bytes_eq old.txids q) (contains bytes_eq new.txids q) same (h.txids q) (own q);
  parents = λ q. parent_more pending t inputs q (contains bytes_eq old.parents q) (contains bytes_eq new.parents q) read (h.parents q) (parents q);
}
more_kept (Err e) pending t id inputs old new same read own parents = tt

-- what a call that ends well says
pub told_ok : {A E Q : Type 0} (r : Result A E) → IsOk r → OnOk r Q → Q
told_ok (Ok a) good said = said
told_ok (Err e) good said = absurd (true≢false (sym good))

-- there is room for one more
pub room_told : {A E : Type 0} (r : Result A E) (t : Transaction) (p : PendingTxids) (inputs : List TxIn) → inputs ≡ t.inputs → 0 < spare p.txids → OnOk r (length inputs ≤ spare p.parents) → OnOk r (HasRoomFor t p)
room_told (Ok a) t p inputs read own each = record { own = own; each = subst (λ (is : List TxIn). length is ≤ spare p.parents) read each }
room_told (Err e) t p inputs read own each = tt

-- whether the transaction was added or not
pub txids_either : {A E : Type 0} (r : Result A E) (old new : PlainWallet) (t : Transaction) (p : PendingTxids) → OnOk r (new ≡ waiting old t) → OnErr r (new ≡ old) → OnOk r (AreTxidsOf (old.pending ++ t ∷ []) p) → OnErr r (AreTxidsOf old.pending p)
    → AreTxidsOf new.pending p
txids_either (Ok a) old new t p more same added kept = subst (λ (w : PlainWallet). AreTxidsOf w.pending p) (sym more) added
txids_either (Err e) old new t p more same added kept = subst (λ (w : PlainWallet). AreTxidsOf w.pending p) (sym same) kept
