-- A chain with a block more, and with a transaction more that waits.
use Rattle.std.specs.Prelude.{ℕ, suc, zero, ◌≡◌, ◌≢◌, ◌≤◌, ◌<◌, ◌+◌, ◌++◌, ◌||◌, ◌⊎◌, List, [], ◌∷◌, All, Bool, true, false, flat_map, length, map, bytes_eq, Result, Ok, Err, OnErr, OnOk}
use Rattle.std.specs.List.{list_any}
use Rattle.std.proofs.Common.{inl, inr, refl, sym, ap, ◌∙◌, subst, arith, append_assoc, get_or, length-append}
use Rattle.std.proofs.lemmas.Bool.{both_ways, cases_lt, or_parts}
use Rattle.std.proofs.lemmas.List.{append-nil}
use Rattle.std.proofs.lemmas.List.Elements.{All-cons, All-nil, All-push}
use Rattle.std.proofs.lemmas.List.Quantifiers.{all_pairs_push}
use Rattle.std.proofs.lemmas.Grind.{flat_map-append}
use Rattle.std.proofs.lemmas.Slice.Eq.{bytes_eq-Decides}
use Rattle.block_feed.specs.Block.{ChainBlock}
use Rattle.coin_book.specs.History as histories
use Rattle.coin_book.specs.History.{Confirmed, History, confirmed_before, confirmed_in}
use Rattle.fund_files.specs.Chain.{IsChain, chain_from, tip_behind}
use Rattle.fund_files.specs.declared.chain.Chain.{Chain}
use Rattle.fund_files.specs.declared.chain.Tip.{Tip}
use Rattle.tx_codec.specs.Transaction.{Transaction}
use Rattle.tx_codec.specs.TransactionText.{IsTransaction}
use Rattle.tx_codec.specs.Txid.{txid_of}
use Rattle.tx_codec.specs.declared.tx.TxIn.{TxIn}
use Rattle.wallet_text.specs.PlainWallet.{PlainWallet}
use Rattle.wallet_text.specs.WalletRules.{IsWallet, ParentsComeFirst, SpendsNone}
use Rattle.desk_machine.specs.Machine.{is_later, is_repeat, spends_txid, waiting, with_block, with_pending}

-- ---- a block more

tip_last : (tip : Tip) (blocks : List ChainBlock) (block : ChainBlock) → record { height = block.height; hash = block.hash } ≡ tip_behind tip (blocks ++ block ∷ [])
tip_last tip [] block = refl
tip_last tip (b ∷ blocks) block = tip_last (record { height = b.height; hash = b.hash }) blocks block

chain_grown : (chain : List Confirmed) (blocks : List ChainBlock) (block : ChainBlock) → (chain ++ flat_map confirmed_in blocks) ++ confirmed_in block ≡ chain ++ flat_map confirmed_in (blocks ++ block ∷ [])
chain_grown chain blocks block =
    append_assoc chain (flat_map confirmed_in blocks) (confirmed_in block)
    ∙ ap (λ (c : List Confirmed). chain ++ (flat_map confirmed_in blocks ++ c)) (sym (append-nil (confirmed_in block)))
    ∙ ap (λ (c : List Confirmed). chain ++ c) (sym (flat_map-append confirmed_in blocks (block ∷ [])))

abbrev with_chain : PlainWallet → List Confirmed → Tip → Chain
with_chain w chain tip = record { wallet = w; book = record { scripts = w.scripts; confirmed = chain; pending = w.pending }; tip = tip }

block_behind : (w : PlainWallet) (blocks : List ChainBlock) (block : ChainBlock) → with_block (chain_from w blocks) block ≡ chain_from w (blocks ++ block ∷ [])
block_behind w blocks block =
    ap (λ (c : List Confirmed). with_chain w c (record { height = block.height; hash = block.hash })) (chain_grown (map confirmed_before w.earlier) blocks block)
    ∙ ap (λ (t : Tip). with_chain w (map confirmed_before w.earlier ++ flat_map confirmed_in (blocks ++ block ∷ [])) t) (tip_last (record { height = w.height; hash = w.hash }) blocks block)

abbrev HasText : ChainBlock → Type 0
HasText b = All IsTransaction b.txs

pub held_block : (k : Chain) (block : ChainBlock) → IsChain k → All IsTransaction block.txs → block.height < 4294967295 → IsChain (with_block k block)
held_block k block h texts height = record {
  blocks = h.blocks ++ block ∷ [];
  is = ap (λ (x : Chain). with_block x block) h.is ∙ block_behind k.wallet h.blocks block;
  rules = h.rules;
  texts = All-push HasText h.blocks block h.texts texts;
  height = height;
}

-- ---- a transaction more

pub fresh_in : (pending : List Transaction) (txid : List ℕ) → is_repeat pending txid ≡ false → All (λ (t : Transaction). txid_of t ≢ txid) pending
fresh_in [] txid e = All-nil _
fresh_in (t ∷ rest) txid e = by (bytes_eq (txid_of t) txid) refl e (fresh_in rest txid)
  where
    by : (b : Bool) → bytes_eq (txid_of t) txid ≡ b → (b || is_repeat rest txid) ≡ false → (is_repeat rest txid ≡ false → All (λ (u : Transaction). txid_of u ≢ txid) rest) → All (λ (u : Transaction). txid_of u ≢ txid) (t ∷ rest)
    by true is h more = absurd cc
    by false is h more = All-cons (λ (u : Transaction). txid_of u ≢ txid) t rest (λ same. absurd (both_ways (bytes_eq (txid_of t) txid) is ((bytes_eq-Decides (txid_of t) txid).1 same))) (more h)

spends_none : (inputs : List TxIn) (txid : List ℕ) → list_any (λ (i : TxIn). bytes_eq i.prev.txid txid) inputs ≡ false → All (λ (i : TxIn). i.prev.txid ≢ txid) inputs
spends_none [] txid e = All-nil _
spends_none (i ∷ rest) txid e = by (bytes_eq i.prev.txid txid) refl e (spends_none rest txid)
  where
    by : (b : Bool) → bytes_eq i.prev.txid txid ≡ b → (b || list_any (λ (x : TxIn). bytes_eq x.prev.txid txid) rest) ≡ false → (list_any (λ (x : TxIn). bytes_eq x.prev.txid txid) rest ≡ false → All (λ (x : TxIn). x.prev.txid ≢ txid) rest) → All (λ (x : TxIn). x.prev.txid ≢ txid) (i ∷ rest)
    by true is h more = absurd cc
    by false is h more = All-cons (λ (x : TxIn). x.prev.txid ≢ txid) i rest (λ same. absurd (both_ways (bytes_eq i.prev.txid txid) is ((bytes_eq-Decides i.prev.txid txid).1 same))) (more h)

none_spend : (pending : List Transaction) (t : Transaction) → list_any (spends_txid (txid_of t)) pending ≡ false → All (λ (u : Transaction). SpendsNone u t) pending
none_spend [] t e = All-nil _
none_spend (u ∷ rest) t e = by (spends_txid (txid_of t) u) refl e (none_spend rest t)
  where
    by : (b : Bool) → spends_txid (txid_of t) u ≡ b → (b || list_any (spends_txid (txid_of t)) rest) ≡ false → (list_any (spends_txid (txid_of t)) rest ≡ false → All (λ (x : Transaction). SpendsNone x t) rest) → All (λ (x : Transaction). SpendsNone x t) (u ∷ rest)
    by true is h more = absurd cc
    by false is h more = All-cons (λ (x : Transaction). SpendsNone x t) u rest (spends_none u.inputs (txid_of t) is) (more h)

-- places of a list with one more at its end
place_before : (xs : List Transaction) (t d : Transaction) (i : ℕ) → i < length xs → get_or (xs ++ t ∷ []) i d ≡ get_or xs i d
place_before [] t d i lt = absurd (omega (arith, lt))
place_before (x ∷ xs) t d zero lt = refl
place_before (x ∷ xs) t d (suc i) lt = place_before xs t d i (omega (arith, lt))

place_last : (xs : List Transaction) (t d : Transaction) (i : ℕ) → i ≡ length xs → get_or (xs ++ t ∷ []) i d ≡ t
place_last [] t d i e = rw e refl
place_last (x ∷ xs) t d zero e = absurd (omega (arith, e))
place_last (x ∷ xs) t d (suc i) e = place_last xs t d i (omega (arith, e))

below_or_last : (j n : ℕ) → j < n + 1 → (j < n) ⊎ (j ≡ n)
below_or_last j n lt = elim (cases_lt j n) [ inl less ↦ inl less | inr ge ↦ inr (omega (arith, lt, ge)) ]

none_at : (pending : List Transaction) (t : Transaction) → is_later pending t ≡ false → (i : ℕ) (d : Transaction) → i < length pending + 1 → SpendsNone (get_or (pending ++ t ∷ []) i d) t
none_at pending t e i d lt =
    let parts = or_parts (list_any (spends_txid (txid_of t)) pending) (spends_txid (txid_of t) t) e in
    elim (below_or_last i (length pending) lt) [
      | inl less ↦ subst (λ (u : Transaction). SpendsNone u t) (sym (place_before pending t d i less)) (none_spend pending t parts.0 i d less)
      | inr same ↦ subst (λ (u : Transaction). SpendsNone u t) (sym (place_last pending t d i same)) (spends_none t.inputs (txid_of t) parts.1)
    ]

parents_more : (pending : List Transaction) (t : Transaction) → ParentsComeFirst pending → is_later pending t ≡ false → ParentsComeFirst (pending ++ t ∷ [])
parents_more pending t first e = λ i j d le lt. by i j d le (let n = length-append pending (t ∷ []) in omega (arith, lt, n))
  where
    by : (i j : ℕ) (d : Transaction) → i ≤ j → j < length pending + 1 → SpendsNone (get_or (pending ++ t ∷ []) i d) (get_or (pending ++ t ∷ []) j d)
    by i j d le lt =
        elim (below_or_last j (length pending) lt) [
          | inl less ↦ (
              subst (λ (u : Transaction). SpendsNone (get_or (pending ++ t ∷ []) i d) u) (sym (place_before pending t d j less))
              (subst (λ (u : Transaction). SpendsNone u (get_or pending j d)) (sym (place_before pending t d i (omega (arith, le, less)))) (first i j d le less))
              )
          | inr same ↦ subst (λ (u : Transaction). SpendsNone (get_or (pending ++ t ∷ []) i d) u) (sym (place_last pending t d j same)) (none_at pending t e i d (omega (arith, le, lt)))
        ]

pub wallet_waits : (w : PlainWallet) (t : Transaction) → IsWallet w → IsTransaction t → is_repeat w.pending (txid_of t) ≡ false → is_later w.pending t ≡ false → IsWallet (waiting w t)
wallet_waits w t rules text fresh first = record {
  height = rules.height;
  hash = rules.hash;
  scripts = rules.scripts;
  scripts_distinct = rules.scripts_distinct;
  change = rules.change;
  earlier = rules.earlier;
  earlier_distinct = rules.earlier_distinct;
  pending = All-push IsTransaction w.pending t rules.pending text;
  pending_distinct = all_pairs_push (λ (a b : Transaction). txid_of a ≢ txid_of b) w.pending t rules.pending_distinct (λ k d lt. fresh_in w.pending (txid_of t) fresh k d lt);
  parents = parents_more w.pending t rules.parents first;
  abandoned = rules.abandoned;
  locked = rules.locked;
}

pub held_pending : (k : Chain) (t : Transaction) → IsChain k → IsTransaction t → is_repeat k.wallet.pending (txid_of t) ≡ false → is_later k.wallet.pending t ≡ false → IsChain (with_pending k t)
held_pending k t h text fresh first = record {
  blocks = h.blocks;
  is = ap (λ (x : Chain). with_pending x t) h.is;
  rules = wallet_waits k.wallet t h.rules text fresh first;
  texts = h.texts;
  height = h.height;
}

-- what waits in the book is what waits in the wallet
pub book_pending : (k : Chain) → IsChain k → k.book.pending ≡ k.wallet.pending
book_pending k h = ap (λ (x : Chain). x.book.pending) h.is

-- a wallet with these transactions that wait
abbrev pub with_waiting : PlainWallet → List Transaction → PlainWallet
with_waiting w pending = record {
  height = w.height;
  hash = w.hash;
  scripts = w.scripts;
  change = w.change;
  earlier = w.earlier;
  pending = pending;
  abandoned = w.abandoned;
  locked = w.locked;
}

pub waits_is : (w v : PlainWallet) (t : Transaction) (pending : List Transaction) → w ≡ v → pending ≡ w.pending ++ t ∷ [] → with_waiting w pending ≡ waiting v t
waits_is w v t pending same more = ap (with_waiting w) more ∙ ap (λ (x : PlainWallet). waiting x t) same

pub wallet_more : (w v : PlainWallet) (t : Transaction) (pending : List Transaction) → w ≡ v → pending ≡ w.pending ++ t ∷ [] → IsWallet v → IsTransaction t → is_repeat v.pending (txid_of t) ≡ false → is_later v.pending t ≡ false
    → IsWallet (with_waiting w pending)
wallet_more w v t pending same more rules text fresh first = subst IsWallet (sym (waits_is w v t pending same more)) (wallet_waits v t rules text fresh first)

-- none that waits in the book has the txid
pub fresh_book : (waiting pending : List Transaction) (txid : List ℕ) → waiting ≡ pending → is_repeat pending txid ≡ false → All (λ (t : Transaction). txid_of t ≢ txid) waiting
fresh_book waiting pending txid same fresh = subst (λ (ts : List Transaction). All (λ (t : Transaction). txid_of t ≢ txid) ts) (sym same) (fresh_in pending txid fresh)

-- a chain with this wallet and this book
abbrev pub chain_with : Chain → PlainWallet → History → Chain
chain_with k w book = record { wallet = w; book = book; tip = k.tip }

pub chain_more : (k : Chain) (w : PlainWallet) (t : Transaction) (book : History) → w ≡ waiting k.wallet t → book ≡ histories.with_pending k.book t → chain_with k w book ≡ with_pending k t
chain_more k w t book same is = ap (λ (x : PlainWallet). chain_with k x book) same ∙ ap (chain_with k (waiting k.wallet t)) is

pub chain_same : (k : Chain) (w : PlainWallet) (book : History) → w ≡ k.wallet → book ≡ k.book → chain_with k w book ≡ k
chain_same k w book same is = ap (λ (x : PlainWallet). chain_with k x book) same ∙ ap (chain_with k k.wallet) is

-- whether it was added or not
pub held_either : {A E : Type 0} (r : Result A E) (k : Chain) (w : PlainWallet) (t : Transaction) (book : History) → OnOk r (w ≡ waiting k.wallet t) → OnOk r (book ≡ histories.with_pending k.book t) → OnErr r (w ≡ k.wallet) → OnErr r (book ≡ k.book)
    → IsChain k → IsTransaction t → is_repeat k.wallet.pending (txid_of t) ≡ false → is_later k.wallet.pending t ≡ false → IsChain (chain_with k w book)
held_either (Ok a) k w t book more is kept still h text fresh first = subst IsChain (sym (chain_more k w t book more is)) (held_pending k t h text fresh first)
held_either (Err e) k w t book more is kept still h text fresh first = subst IsChain (sym (chain_same k w book kept still)) h

pub added_either : {A E : Type 0} (r : Result A E) (k : Chain) (w : PlainWallet) (t : Transaction) (book : History) → OnOk r (w ≡ waiting k.wallet t) → OnOk r (book ≡ histories.with_pending k.book t) → OnOk r (chain_with k w book ≡ with_pending k t)
added_either (Ok a) k w t book more is = chain_more k w t book more is
added_either (Err e) k w t book more is = tt

pub kept_either : {A E : Type 0} (r : Result A E) (k : Chain) (w : PlainWallet) (book : History) → OnErr r (w ≡ k.wallet) → OnErr r (book ≡ k.book) → OnErr r (chain_with k w book ≡ k)
kept_either (Ok a) k w book same is = tt
kept_either (Err e) k w book same is = chain_same k w book same is
