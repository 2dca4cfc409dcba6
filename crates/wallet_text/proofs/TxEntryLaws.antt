-- When an entry of earlier or pending is taken, and when its transaction is refused.
use Rattle.std.proofs.Common.{◌≡◌, ◌<◌, ℕ, List, length, codes, is_some, Some, Result, Ok, Err, Contains, get_or, zero, suc, refl, sym, ap, subst, ◌∙◌, arith}
use Rattle.std.specs.Prelude.{◌↔◌}
use Rattle.fund_base.proofs.Laws.{bind_ok}
use Rattle.fund_base.specs.Parsing.{◌>>=◌, fault_as}
use Rattle.json_fields.proofs.HexLaws as hex
use Rattle.json_fields.proofs.Members.{Contains-is_among, is_some-get_member}
use Rattle.json_fields.proofs.NumberLaws as numbers
use Rattle.json_fields.proofs.ObjectLaws as objects
use Rattle.json_fields.specs.Fields.{names_of, object_at, member_at, hex_at, number_at}
use Rattle.json_fields.specs.Rules.{HasAll, IsHexString}
use Rattle.json_fields.specs.declared.fault.FieldFault.{FieldFault}
use Rattle.serde_json.specs.Data.{Data, number, unsigned}
use Rattle.serde_json.specs.Find.{get, get_member}
use Rattle.tx_codec.specs.Transaction.{Transaction}
use Rattle.tx_codec.specs.declared.fault.TxFault.{TxFault}
use Rattle.wallet_text.specs.TxEntries.{transaction_of, IsEarlierEntry}
use Rattle.wallet_text.specs.WalletText.{field, told_index, earlier_names, earlier_at, earlier_in, pending_in, tx_in}
use Rattle.wallet_text.specs.declared.fault.Refusal.{Refusal}
use Rattle.wallet_text.specs.declared.fault.Refusal.TheVariants.{Tx}
use Rattle.wallet_text.specs.PlainWallet.{Earlier}
use Rattle.wallet_text.proofs.EntryLaws.{member_stands}

-- ---- what an earlier entry is read as

entry_found : (most : ℕ) (d : Data) (bytes : List ℕ) (height : ℕ) → earlier_at most d ≡ Ok (bytes, height) → IsEarlierEntry most d bytes height
unfolding earlier_at
entry_found most d bytes height e =
    let a = bind_ok (object_at (codes "earlier") earlier_names earlier_names d) _ (bytes, height) e in
    let b = bind_ok (member_at (codes "tx") d) _ (bytes, height) a.2 in
    let spelled = bind_ok (hex_at (codes "tx") b.0) _ (bytes, height) b.2 in
    let c = bind_ok (member_at (codes "height") d) _ (bytes, height) spelled.2 in
    let high = bind_ok (number_at (codes "height") most c.0) _ (bytes, height) c.2 in
    let same : (spelled.0, high.0) ≡ (bytes, height) = cc high.2 in
    let object = objects.taken (codes "earlier") earlier_names earlier_names d a.1 in
    let law = numbers.found (codes "height") most high.0 c.0 high.1 in
    subst (λ (p : List ℕ × ℕ). IsEarlierEntry most d p.0 p.1) same (record {
      members = (object.0, object.1, object.2.0);
      spelled = (b.0, member_stands (codes "tx") d b.0 b.1, hex.found (codes "tx") spelled.0 b.0 spelled.1);
      stands = member_stands (codes "height") d c.0 c.1 ∙ ap (λ m. Some m) law.0;
      within = law.1;
    })

name_stands : (most : ℕ) (d m : Data) (name bytes : List ℕ) (height : ℕ) (is : IsEarlierEntry most d bytes height) → get name d ≡ Some m → Contains (names_of is.members.0) name
name_stands most d m name bytes height is e =
    let here : get_member name is.members.0 ≡ Some m = ap (get name) (sym is.members.1) ∙ e in
    Contains-is_among (names_of is.members.0) name (sym (is_some-get_member name is.members.0) ∙ ap is_some here)

entry_only : (most : ℕ) (d : Data) (bytes : List ℕ) (height : ℕ) → IsEarlierEntry most d bytes height → earlier_at most d ≡ Ok (bytes, height)
unfolding earlier_at member_at
entry_only most d bytes height is =
    let spelled = is.spelled in
    let object : object_at (codes "earlier") earlier_names earlier_names d ≡ Ok tt = objects.only (codes "earlier") earlier_names earlier_names d (is.members.0, is.members.1, (is.members.2, has)) in
    rw (object, spelled.1, hex.only (codes "tx") bytes spelled.0 spelled.2, is.stands, numbers.only (codes "height") most height is.within) refl
  where
    has : HasAll earlier_names is.members.0
    has name c = at c.0 c.1 c.2
      where
        at : (k : ℕ) → k < length earlier_names → get_or earlier_names k name ≡ name → Contains (names_of is.members.0) name
        at zero lt e = subst (λ n. Contains (names_of is.members.0) n) e (name_stands most d is.spelled.0 (codes "tx") bytes height is is.spelled.1)
        at (suc zero) lt e = subst (λ n. Contains (names_of is.members.0) n) e (name_stands most d (number (unsigned height)) (codes "height") bytes height is is.stands)
        at (suc (suc k)) lt e = absurd (omega arith)

-- ---- its transaction

tx_ok : (list : List ℕ) (index : ℕ) (bytes : List ℕ) (t : Transaction) → tx_in list index bytes ≡ Ok t → transaction_of bytes ≡ Ok t
unfolding tx_in
tx_ok list index bytes t e = by (transaction_of bytes) e
  where
    by : (r : Result Transaction TxFault) → fault_as (Tx list (told_index index)) r ≡ Ok t → r ≡ Ok t
    by (Ok x) reads = let same : x ≡ t = cc reads in ap (λ y. Ok y) same
    by (Err f) reads = absurd (cc reads)

tx_reads : (list : List ℕ) (index : ℕ) (bytes : List ℕ) (r : Result Transaction TxFault) → transaction_of bytes ≡ r → tx_in list index bytes ≡ fault_as (Tx list (told_index index)) r
unfolding tx_in
tx_reads list index bytes r e = ap (fault_as (Tx list (told_index index))) e

tx_err : (list other : List ℕ) (index told : ℕ) (bytes : List ℕ) (fault : TxFault) → tx_in list index bytes ≡ Err (Tx other told fault) → (other ≡ list) × (told ≡ told_index index) × (transaction_of bytes ≡ Err fault)
unfolding tx_in
tx_err list other index told bytes fault e = by (transaction_of bytes) e
  where
    by : (r : Result Transaction TxFault) → fault_as (Tx list (told_index index)) r ≡ Err (Tx other told fault) → (other ≡ list) × (told ≡ told_index index) × (r ≡ Err fault)
    by (Ok x) reads = absurd (cc reads)
    by (Err f) reads = let same : f ≡ fault = cc reads in (sym (cc reads), sym (cc reads), ap (λ y. Err y) same)

-- ---- earlier

abbrev EarlierTaken : ℕ → Data → Earlier → Type 0
EarlierTaken most d e = (bytes : List ℕ) × IsEarlierEntry most d bytes e.height × (transaction_of bytes ≡ Ok e.tx)

pub earlier_taken : (most index : ℕ) (d : Data) (e : Earlier) → (earlier_in most index d ≡ Ok e) ↔ EarlierTaken most d e
unfolding earlier_in
earlier_taken most index d e = (λ is. by (earlier_at most d) refl is, λ is. rw (entry_only most d is.0 e.height is.1, tx_reads (codes "earlier") index is.0 (Ok e.tx) is.2) refl)
  where
    by : (r : Result (List ℕ × ℕ) FieldFault) → earlier_at most d ≡ r → (field r >>= λ p. tx_in (codes "earlier") index p.0 >>= λ tx. Ok (record { tx = tx; height = p.1 })) ≡ Ok e → EarlierTaken most d e
    by (Err fault) is reads = absurd (cc reads)
    by (Ok p) is reads =
        let tx = bind_ok (tx_in (codes "earlier") index p.0) _ e reads in
        let same : record { tx = tx.0; height = p.1 } ≡ e = cc tx.2 in
        subst (EarlierTaken most d) same (p.0, entry_found most d p.0 p.1 is, tx_ok (codes "earlier") index p.0 tx.0 tx.1)

abbrev made : ℕ → Transaction → Result Earlier Refusal
made height tx = Ok (record { tx = tx; height = height })

-- after a transaction an entry is made, whatever it is
refused_tx : (index : ℕ) (bytes list : List ℕ) (told : ℕ) (fault : TxFault) (make : Transaction → Earlier) → (tx_in (codes "earlier") index bytes >>= λ tx. Ok (make tx)) ≡ Err (Tx list told fault)
    → (list ≡ codes "earlier") × (told ≡ told_index index) × (transaction_of bytes ≡ Err fault)
refused_tx index bytes list told fault make e = by (tx_in (codes "earlier") index bytes) refl e
  where
    by : (r : Result Transaction Refusal) → tx_in (codes "earlier") index bytes ≡ r → (r >>= λ tx. Ok (make tx)) ≡ Err (Tx list told fault) → (list ≡ codes "earlier") × (told ≡ told_index index) × (transaction_of bytes ≡ Err fault)
    by (Ok tx) is reads = absurd (cc reads)
    by (Err f) is reads = let same : f ≡ Tx list told fault = cc reads in tx_err (codes "earlier") list index told bytes fault (is ∙ ap (λ x. Err x) same)

abbrev EarlierRefused : ℕ → ℕ → Data → List ℕ → ℕ → TxFault → Type 0
EarlierRefused most index d list told fault = (list ≡ codes "earlier") × (told ≡ told_index index) × ((bytes : List ℕ) × (height : ℕ) × IsEarlierEntry most d bytes height × (transaction_of bytes ≡ Err fault))

pub earlier_refused : (most index : ℕ) (d : Data) (list : List ℕ) (told : ℕ) (fault : TxFault) → (earlier_in most index d ≡ Err (Tx list told fault)) ↔ EarlierRefused most index d list told fault
unfolding earlier_in
earlier_refused most index d list told fault = (
  λ is. by (earlier_at most d) refl is,
  λ is.
      rw (entry_only most d is.2.0 is.2.1 is.2.2, tx_reads (codes "earlier") index is.2.0 (Err fault) is.2.3, is.0, is.1) refl,
)
  where
    by : (r : Result (List ℕ × ℕ) FieldFault) → earlier_at most d ≡ r → (field r >>= λ p. tx_in (codes "earlier") index p.0 >>= made p.1) ≡ Err (Tx list told fault) → EarlierRefused most index d list told fault
    by (Err f) is reads = absurd (cc reads)
    by (Ok p) is reads = let all = refused_tx index p.0 list told fault (λ tx. record { tx = tx; height = p.1 }) reads in (all.0, all.1, (p.0, p.1, entry_found most d p.0 p.1 is, all.2))

-- ---- pending

abbrev PendingTaken : Data → Transaction → Type 0
PendingTaken d t = (bytes : List ℕ) × IsHexString d bytes × (transaction_of bytes ≡ Ok t)

pub pending_taken : (index : ℕ) (d : Data) (t : Transaction) → (pending_in index d ≡ Ok t) ↔ PendingTaken d t
unfolding pending_in
pending_taken index d t = (λ is. by (hex_at (codes "pending") d) refl is, λ is. rw (hex.only (codes "pending") is.0 d is.1) (tx_reads (codes "pending") index is.0 (Ok t) is.2))
  where
    by : (r : Result (List ℕ) FieldFault) → hex_at (codes "pending") d ≡ r → (field r >>= λ bytes. tx_in (codes "pending") index bytes) ≡ Ok t → PendingTaken d t
    by (Err fault) is reads = absurd (cc reads)
    by (Ok bytes) is reads = (bytes, hex.found (codes "pending") bytes d is, tx_ok (codes "pending") index bytes t reads)

abbrev PendingRefused : ℕ → Data → List ℕ → ℕ → TxFault → Type 0
PendingRefused index d list told fault = (list ≡ codes "pending") × (told ≡ told_index index) × ((bytes : List ℕ) × IsHexString d bytes × (transaction_of bytes ≡ Err fault))

pub pending_refused : (index : ℕ) (d : Data) (list : List ℕ) (told : ℕ) (fault : TxFault) → (pending_in index d ≡ Err (Tx list told fault)) ↔ PendingRefused index d list told fault
unfolding pending_in
pending_refused index d list told fault = (λ is. by (hex_at (codes "pending") d) refl is, λ is. rw (hex.only (codes "pending") is.2.0 d is.2.1, is.0, is.1) (tx_reads (codes "pending") index is.2.0 (Err fault) is.2.2))
  where
    by : (r : Result (List ℕ) FieldFault) → hex_at (codes "pending") d ≡ r → (field r >>= λ bytes. tx_in (codes "pending") index bytes) ≡ Err (Tx list told fault) → PendingRefused index d list told fault
    by (Err f) is reads = absurd (cc reads)
    by (Ok bytes) is reads = let all = tx_err (codes "pending") list index told bytes fault reads in (all.0, all.1, (bytes, hex.found (codes "pending") bytes d is, all.2))
