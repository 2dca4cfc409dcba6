-- What a signer gets of a payment is a PSBT.
use Rattle.std.proofs.Common.{◌≡◌, ◌∙◌, ℕ, suc, zero, ◌<◌, ◌≤◌, ◌+◌, ◌^◌, take, get_or, Bool, true, false, cond, List, [], ◌∷◌, ◌++◌, length, map, Option, Some, None, refl, sym, ap, subst}
use Rattle.std.specs.Prelude.{All, IfSome, filter, flat_map, find, nat_le, option_map, option_and_then, slice_get}
use Rattle.std.specs.List.{zip}
use Rattle.std.specs.Option.{option_to_list}
use Rattle.std.proofs.lemmas.Bool.{cond_both}
use Rattle.std.proofs.lemmas.List.{length-map, map-append, take_more}
use Rattle.std.proofs.lemmas.List.Elements.{All-nil, All-cons, All-head, All-tail, All-append, All-map, All-push, All-weaker}
use Rattle.std.proofs.lemmas.Option.{same_Some, slice_get_within}
use Rattle.fund_base.proofs.OutpointLaws.{same_outpoint-Decides}
use Rattle.fund_base.specs.Cursor.{IsBytes}
use Rattle.fund_base.specs.Outpoints.{same_outpoint}
use Rattle.coin_candidates.specs.declared.candidate.Candidate.{Candidate}
use Rattle.fund_base.specs.declared.outpoint.OutPoint.{OutPoint}
use Rattle.tx_codec.specs.Transaction.{Transaction}
use Rattle.tx_codec.specs.TransactionText.{IsTransaction}
use Rattle.tx_codec.specs.Txid.{txid_of}
use Rattle.tx_codec.specs.declared.tx.TxIn.{TxIn}
use Rattle.tx_codec.specs.declared.tx.TxOut.{TxOut}
use Rattle.block_feed.specs.Block.{ChainBlock}
use Rattle.coin_book.specs.Coinbase.{is_coinbase_of}
use Rattle.coin_book.specs.Coins.{Made, coin_at, coin_of, coins_below, confirmed_made, is_open, made_by, made_in, made_of, parent_of, pending_made, weight_for}
use Rattle.coin_book.specs.History.{Confirmed, History, confirmed_at, confirmed_before, confirmed_in}
use Rattle.fee_rates.specs.Output.{is_program_of}
use Rattle.fund_plan.specs.Pays.{payment_from, payment_of, unsigned_input}
use Rattle.fund_plan.specs.Selection.{PlainFunded}
use Rattle.payment_states.proofs.MakerSteps.{found}
use Rattle.payment_states.specs.BookOf.{IsBookOf}
use Rattle.psbt_codec.specs.declared.psbt.Spent.{Spent}
use Rattle.psbt_codec.specs.PartialTransaction.{PartialTransaction}
use Rattle.psbt_codec.specs.Psbt.{IsParent, IsPsbt, IsSpent, IsUnsigned}
use Rattle.request_text.specs.PlainRequest.{PlainRequest}
use Rattle.wallet_text.specs.PlainWallet.{Earlier, PlainWallet}
use Rattle.wallet_text.specs.WalletRules.{IsEarlier, IsWallet}
use Rattle.wallet_text.specs.declared.wallet.Watch.{Watch}
use Rattle.fund_files.specs.Chain.{HasTexts, HaveTexts, IsChain, history_of}
use Rattle.fund_payment.specs.Report.{psbt_of, spent_of}
use Rattle.fund_files.specs.declared.chain.Chain.{Chain}

-- ---- the transactions of a history have texts

abbrev HasText : Confirmed → Type 0
HasText t = IsTransaction t.tx

blocks_texts : (blocks : List ChainBlock) → HaveTexts blocks → All HasText (flat_map confirmed_in blocks)
blocks_texts [] h = All-nil HasText
blocks_texts (b ∷ blocks) h =
    let P : ChainBlock → Type 0 = λ x. All IsTransaction x.txs in
    All-append HasText (confirmed_in b) (flat_map confirmed_in blocks) (All-map HasText (confirmed_at b.height) b.txs (All-head P b blocks h)) (blocks_texts blocks (All-tail P b blocks h))

history_texts : (w : PlainWallet) (blocks : List ChainBlock) → IsWallet w → HaveTexts blocks → HasTexts (history_of w blocks)
history_texts w blocks s h =
    let earlier = All-weaker (IsEarlier w.height) (λ (e : Earlier). IsTransaction e.tx) (λ e f. f.tx) w.earlier s.earlier in
    record {
      confirmed = All-append HasText (map confirmed_before w.earlier) (flat_map confirmed_in blocks) (All-map HasText confirmed_before w.earlier earlier) (blocks_texts blocks h);
      pending = s.pending;
    }

pub held_texts : (k : Chain) → IsChain k → HasTexts k.book
held_texts k h = subst HasTexts (sym (ap (λ (x : Chain). x.book) h.is)) (history_texts k.wallet h.blocks h.rules h.texts)

-- and the book is that of the wallet
pub held_book : (k : Chain) → IsChain k → IsBookOf k.wallet k.book
held_book k h = subst (IsBookOf k.wallet) (sym (ap (λ (x : Chain). x.book) h.is)) (record { blocks = h.blocks; texts = h.texts; scripts = refl; confirmed = refl; pending = refl })

-- ---- what is told of a coin is of the transaction that made it

record IsMaker (m : Made) : Type 0 where
  text : IsTransaction m.maker
  txid : txid_of m.maker ≡ m.coin.coin.txid
  output : m.coin.coin.index < length m.maker.outputs

one_or_none : (o : Option Made) → IfSome o IsMaker → All IsMaker (option_to_list o)
one_or_none None h = All-nil IsMaker
one_or_none (Some m) h = All-cons IsMaker m [] h (All-nil IsMaker)

below_are : (coin : ℕ → Option Made) (n : ℕ) → ((k : ℕ) → IfSome (coin k) IsMaker) → All IsMaker (coins_below coin n)
unfolding coins_below
below_are coin zero h = All-nil IsMaker
below_are coin (suc n) h = All-append IsMaker (coins_below coin n) (option_to_list (coin n)) (below_are coin n h) (one_or_none (coin n) (h n))

weighed : (weigh : List ℕ → Option ℕ) (height : Option ℕ) (t : Transaction) (index : ℕ) (out : TxOut) → IsTransaction t → index < length t.outputs → IfSome (coin_of weigh height t index out) IsMaker
unfolding coin_of
weighed weigh height t index out text lt = by (weigh out.script)
  where
    by : (o : Option ℕ) → IfSome (option_map (λ (weight : ℕ). record {
      coin = record { coin = record { txid = txid_of t; index = index }; value = out.value; script = out.script; weight = weight; height = height; coinbase = is_coinbase_of t };
      maker = t;
    }) o) IsMaker
    by None = tt
    by (Some weight) = record { text = text; txid = refl; output = lt }

at_is : (weigh : List ℕ → Option ℕ) (height : Option ℕ) (t : Transaction) (index : ℕ) → IsTransaction t → IfSome (coin_at weigh height t index) IsMaker
unfolding coin_at
at_is weigh height t index text = by (nat_le index 4294967295) (slice_get t.outputs index) refl
  where
    by : (b : Bool) (o : Option TxOut) → slice_get t.outputs index ≡ o → IfSome (cond b (option_and_then (coin_of weigh height t index) o) None) IsMaker
    by false o e = tt
    by true None e = tt
    by true (Some out) e = weighed weigh height t index out text (slice_get_within t.outputs index out e)

in_are : (weigh : List ℕ → Option ℕ) (height : Option ℕ) (t : Transaction) → IsTransaction t → All IsMaker (made_in weigh height t)
unfolding made_in
in_are weigh height t text = below_are (coin_at weigh height t) (length t.outputs) (λ k. at_is weigh height t k text)

confirmed_are : (weigh : List ℕ → Option ℕ) (chain : List Confirmed) → All HasText chain → All IsMaker (flat_map (made_by weigh) chain)
confirmed_are weigh [] h = All-nil IsMaker
confirmed_are weigh (t ∷ chain) h = All-append IsMaker (made_by weigh t) (flat_map (made_by weigh) chain) (in_are weigh (Some t.height) t.tx (All-head HasText t chain h)) (confirmed_are weigh chain (All-tail HasText t chain h))

pending_are : (weigh : List ℕ → Option ℕ) (p : Transaction → Bool) (ts : List Transaction) → All IsTransaction ts → All IsMaker (flat_map (made_in weigh None) (filter p ts))
pending_are weigh p [] h = All-nil IsMaker
pending_are weigh p (t ∷ ts) h = by (p t) (pending_are weigh p ts (All-tail IsTransaction t ts h))
  where
    by : (b : Bool) → All IsMaker (flat_map (made_in weigh None) (filter p ts)) → All IsMaker (flat_map (made_in weigh None) (cond b (t ∷ filter p ts) (filter p ts)))
    by true rest = All-append IsMaker (made_in weigh None t) (flat_map (made_in weigh None) (filter p ts)) (in_are weigh None t (All-head IsTransaction t ts h)) rest
    by false rest = rest

made_are : (h : History) → HasTexts h → All IsMaker (made_of h)
unfolding made_of
made_are h texts = All-append IsMaker (confirmed_made h) (pending_made h) (confirmed_are (weight_for h.scripts) h.confirmed texts.confirmed) (pending_are (weight_for h.scripts) (is_open h.confirmed) h.pending texts.pending)

parent_is : (h : History) (o : OutPoint) (t : Transaction) (i : TxIn) → HasTexts h → i.prev ≡ o → parent_of h o ≡ Some t → IsParent i t
parent_is h o t i texts at e = by (find test (made_of h)) refl e
  where
    test : Made → Bool
    test m = same_outpoint o m.coin.coin

    by : (r : Option Made) → find test (made_of h) ≡ r → option_map (λ (m : Made). m.maker) r ≡ Some t → IsParent i t
    by None is same = absurd cc
    by (Some m) is same =
        let there = found IsMaker test (made_of h) m (made_are h texts) is in
        let own : m.maker ≡ t = same_Some m.maker t same in
        let point : m.coin.coin ≡ i.prev = sym (at ∙ (same_outpoint-Decides o m.coin.coin).0 there.0) in
        subst (λ (x : Transaction). IsParent i x) own (record {
          text = there.1.text;
          txid = there.1.txid ∙ ap (λ (q : OutPoint). q.txid) point;
          output = subst (λ (q : OutPoint). q.index < length m.maker.outputs) point there.1.output;
        })

-- ---- the payment to be signed

-- what is known of the outpoint of a coin
abbrev pub Fits : History → Candidate → Type 0
Fits h c = (i : TxIn) → i.prev ≡ c.coin → IsSpent i (spent_of h c)

whole_is : (h : History) (o : OutPoint) (i : TxIn) → HasTexts h → i.prev ≡ o → (r : Option Transaction) → parent_of h o ≡ r → IfSome r (IsParent i)
whole_is h o i texts at None e = tt
whole_is h o i texts at (Some t) e = parent_is h o t i texts at e

pub spent_fits : (h : History) (c : Candidate) → HasTexts h → c.value ≤ 2_100_000_000_000_000 → IsBytes c.script → length c.script < 2 ^ 64 → Fits h c
unfolding spent_of
spent_fits h c texts money bytes len i at =
    cond_both (is_program_of c.script) (record { whole = None; paid = Some (record { value = c.value; script = c.script }) }) (record { whole = parent_of h c.coin; paid = None })
    (λ (s : Spent). IsSpent i s)
    (λ _. record { whole = tt; paid = record { fits = record { script = bytes; script_len = len }; money = money } })
    (λ _. record { whole = whole_is h c.coin i texts at (parent_of h c.coin) refl; paid = tt })

abbrev AreSpent : TxIn × Spent → Type 0
AreSpent k = IsSpent k.0 k.1

all_spent : (b : Bool) (h : History) (coins : List Candidate) → All (Fits h) coins → All AreSpent (zip (map (unsigned_input b) coins) (map (spent_of h) coins))
all_spent b h [] fits = All-nil AreSpent
all_spent b h (c ∷ coins) fits =
    All-cons AreSpent (unsigned_input b c, spent_of h c) (zip (map (unsigned_input b) coins) (map (spent_of h) coins)) (All-head (Fits h) c coins fits (unsigned_input b c) refl) (all_spent b h coins (All-tail (Fits h) c coins fits))

pub psbt_is : (h : History) (r : PlainRequest) (change : Watch) (f : PlainFunded) → IsTransaction (payment_of r change f) → All (λ (i : TxIn). (i.script ≡ []) × (i.witness ≡ [])) (payment_of r change f).inputs → All (Fits h) f.coins → IsPsbt (psbt_of h r change f)
unfolding psbt_of payment_from
psbt_is h r change f text bare fits = record {
  text = text;
  unsigned = All-weaker (λ (i : TxIn). (i.script ≡ []) × (i.witness ≡ [])) IsUnsigned (λ i b. record { script = b.0; witness = b.1 }) (map (unsigned_input r.replaceable) f.coins) bare;
  spent_len = length-map f.coins (spent_of h) ∙ sym (length-map f.coins (unsigned_input r.replaceable));
  spent = all_spent r.replaceable h f.coins fits;
}

-- ---- one coin more

pub fits_more : (h : History) (coins : List Candidate) (i : ℕ) (c : Candidate) → i < length coins → c ≡ get_or coins i c → Fits h c → All (Fits h) (take i coins) → All (Fits h) (take (i + 1) coins)
fits_more h coins i c lt at fits so_far = subst (λ (l : List Candidate). All (Fits h) l) (ap (λ (x : Candidate). take i coins ++ x ∷ []) at ∙ sym (take_more coins i c lt)) (All-push (Fits h) (take i coins) c so_far fits)

pub spent_more : (h : History) (coins : List Candidate) (i : ℕ) (c : Candidate) (known : List Spent) → i < length coins → c ≡ get_or coins i c → known ≡ map (spent_of h) (take i coins) → known ++ spent_of h c ∷ [] ≡ map (spent_of h) (take (i + 1) coins)
spent_more h coins i c known lt at so_far =
    ap (λ (l : List Spent). l ++ spent_of h c ∷ []) so_far
    ∙ sym (map-append (spent_of h) (take i coins) (c ∷ []))
    ∙ ap (map (spent_of h)) (ap (λ (x : Candidate). take i coins ++ x ∷ []) at ∙ sym (take_more coins i c lt))

abbrev partial : Transaction → List Spent → PartialTransaction
partial tx spent = record { tx = tx; spent = spent }

-- the parts that were made are those of a PSBT
pub psbt_made : (h : History) (r : PlainRequest) (change : Watch) (f : PlainFunded) (coins : List Candidate) (tx : Transaction) (spent : List Spent) → coins ≡ f.coins → tx ≡ payment_of r change f → spent ≡ map (spent_of h) coins → IsTransaction tx
    → All (λ (i : TxIn). (i.script ≡ []) × (i.witness ≡ [])) (payment_of r change f).inputs → All (Fits h) coins → IsPsbt (record { tx = tx; spent = spent })
unfolding psbt_of
psbt_made h r change f coins tx spent own tx_is spent_is text bare fits =
    let whole = psbt_is h r change f (subst IsTransaction tx_is text) bare (subst (λ (l : List Candidate). All (Fits h) l) own fits) in
    subst IsPsbt (sym (ap (λ (t : Transaction). partial t spent) tx_is ∙ ap (partial (payment_of r change f)) (spent_is ∙ ap (map (spent_of h)) own))) whole
