-- Transactions that a block lends: where the first coin of one stands, and what is kept of one that has none.
use Rattle.std.proofs.Common.{◌≡◌, ◌∙◌, ℕ, zero, suc, ◌+◌, ◌<◌, ◌≤◌, Bool, true, false, cond, ◌||◌, ◌&&◌, not, List, [], ◌∷◌, ◌++◌, ◌⊎◌, length, map, take, drop, get_or, Option, Some, None, refl, sym, ap, arith, add-one, inl, inr, true≢false, slice_get}
use Rattle.std.specs.Prelude.{bytes_eq, is_some, nat_le, option_and_then, option_map}
use Rattle.std.specs.List.{list_any}
use Rattle.std.specs.Map.{lookup}
use Rattle.std.specs.Option.{option_to_list}
use Rattle.std.proofs.lemmas.Bool.{cases_order, le-leb, leb-true}
use Rattle.std.proofs.lemmas.List.{append-nil}
use Rattle.std.proofs.lemmas.Option.{slice_get_within}
use Rattle.fund_base.specs.Outpoints.{same_outpoint}
use Rattle.fund_base.specs.declared.outpoint.OutPoint.{OutPoint}
use Rattle.fund_base.proofs.OutpointLaws.{same_outpoint-Decides}
use Rattle.tx_codec.specs.declared.tx.TxIn.{TxIn}
use Rattle.tx_codec.specs.declared.tx.TxOut.{TxOut}
use Rattle.tx_codec.specs.Transaction.{Transaction}
use Rattle.tx_codec.specs.Txid.{txid_of}
use Rattle.tx_codec.specs.Views.{points_of, scripts_of}
use Rattle.coin_book.specs.Coins.{IsFirstPlace, Made, NoneBelow, coin_at, coin_of, made_by}
use Rattle.coin_book.specs.Faults.{fault_behind, points}
use Rattle.coin_book.specs.History.{Confirmed}
use Rattle.coin_book.specs.Invariant.{HoldsChain, is_known}
use Rattle.coin_book.specs.Spends.{has_input}
use Rattle.coin_book.specs.Watched.{PlainWatched, watches, watches_txid}
use Rattle.coin_book.specs.Places.{spends_in}
use Rattle.coin_book.specs.declared.coin.Spend.{Spend}
use Rattle.coin_book.specs.declared.ledger.Ledger.{Ledger}
use Rattle.coin_book.proofs.ChainSteps.{chain_more}

-- ---- one script after the other

-- the item at a place of which the values from there on are told
pub record Stands {X Y : Type 0} (f : X → Y) (xs : List X) (k : ℕ) (y : Y) (ys : List Y) : Type 0 where
  pub item : X
  pub there : slice_get xs k ≡ Some item
  pub value : f item ≡ y
  pub rest : drop (suc k) (map f xs) ≡ ys

pub stands_at : {X Y : Type 0} (f : X → Y) (xs : List X) (k : ℕ) (y : Y) (ys : List Y) → drop k (map f xs) ≡ y ∷ ys → Stands f xs k y ys
stands_at f [] zero y ys is = absurd cc
stands_at f [] (suc k) y ys is = absurd cc
stands_at f (x ∷ xs) zero y ys is = record { item = x; there = refl; value = cc is; rest = cc is }
stands_at f (x ∷ xs) (suc k) y ys is =
    let s = stands_at f xs k y ys is in
    record { item = s.item; there = s.there; value = s.value; rest = s.rest }

pub none_behind : {X Y : Type 0} (f : X → Y) (xs : List X) (k : ℕ) → drop k (map f xs) ≡ [] → length xs ≤ k
none_behind f [] k is = omega arith
none_behind f (x ∷ xs) zero is = absurd cc
none_behind f (x ∷ xs) (suc k) is = let s = none_behind f xs k is in omega (arith, s)

mapped : {X Y : Type 0} (f : X → Y) (o : Option X) → is_some (option_map f o) ≡ is_some o
mapped f None = refl
mapped f (Some x) = refl

-- the output at a place is a coin exactly where its script is listed
coin_listed : (weigh : List ℕ → Option ℕ) (height : Option ℕ) (t : Transaction) (k : ℕ) (o : TxOut) → k ≤ 4294967295 → slice_get t.outputs k ≡ Some o → is_some (coin_at weigh height t k) ≡ is_some (weigh o.script)
unfolding coin_at coin_of
coin_listed weigh height t k o le is =
    ap (λ (b : Bool). is_some (cond b (option_and_then (coin_of weigh height t k) (slice_get t.outputs k)) None)) (le-leb k 4294967295 le)
    ∙ ap (λ (r : Option TxOut). is_some (option_and_then (coin_of weigh height t k) r)) is
    ∙ mapped _ (weigh o.script)

no_coin_beyond : (weigh : List ℕ → Option ℕ) (height : Option ℕ) (t : Transaction) (k : ℕ) → 4294967295 < k → is_some (coin_at weigh height t k) ≡ false
unfolding coin_at
no_coin_beyond weigh height t k beyond = by (nat_le k 4294967295) refl
  where
    by : (b : Bool) → nat_le k 4294967295 ≡ b → is_some (cond b (option_and_then (coin_of weigh height t k) (slice_get t.outputs k)) None) ≡ false
    by true e = let le = leb-true k 4294967295 e in absurd (omega (arith, le, beyond))
    by false e = refl

-- the scripts from a place on, before which no coin stands
pub record FirstSoFar (weigh : List ℕ → Option ℕ) (t : Transaction) (scripts : List (List ℕ)) (k : ℕ) : Type 0 where
  pub left : scripts ≡ drop k (scripts_of t)
  pub none : (height : Option ℕ) → NoneBelow (coin_at weigh height t) k

pub first_begins : (weigh : List ℕ → Option ℕ) (t : Transaction) (scripts : List (List ℕ)) → scripts ≡ scripts_of t → FirstSoFar weigh t scripts 0
first_begins weigh t scripts is = record { left = is; none = λ height k lt. absurd (omega (arith, lt)) }

-- whether the coin at the place is listed
here_listed : (weigh : List ℕ → Option ℕ) (t : Transaction) (old : List (List ℕ)) (k : ℕ) (script : List ℕ) (new : List (List ℕ)) → FirstSoFar weigh t old k → old ≡ script ∷ new → k < 4294967296 → (height : Option ℕ) → is_some (coin_at weigh height t k) ≡ is_some (weigh script)
here_listed weigh t old k script new f is lt height =
    let s = stands_at (λ (o : TxOut). o.script) t.outputs k script new (sym f.left ∙ is) in
    coin_listed weigh height t k s.item (omega (arith, lt)) s.there ∙ ap (λ (l : List ℕ). is_some (weigh l)) s.value

pub first_more : (weigh : List ℕ → Option ℕ) (t : Transaction) (old : List (List ℕ)) (k : ℕ) (script : List ℕ) (new : List (List ℕ)) → FirstSoFar weigh t old k → old ≡ script ∷ new → k < 4294967296 → is_some (weigh script) ≡ false → FirstSoFar weigh t new (k + 1)
first_more weigh t old k script new f is lt listed =
    let s = stands_at (λ (o : TxOut). o.script) t.outputs k script new (sym f.left ∙ is) in
    record {
      left = rw add-one (sym s.rest);
      none = λ height j below.
          elim (cases_order j k) [
            | inl same ↦ ap (λ (n : ℕ). is_some (coin_at weigh height t n)) same ∙ here_listed weigh t old k script new f is lt height ∙ listed
            | inr two ↦ elim two [
              | inl before ↦ f.none height j before
              | inr behind ↦ absurd (omega (arith, below, behind))
            ]
          ];
    }

pub first_here : (weigh : List ℕ → Option ℕ) (t : Transaction) (old : List (List ℕ)) (k : ℕ) (script : List ℕ) (new : List (List ℕ)) → FirstSoFar weigh t old k → old ≡ script ∷ new → k < 4294967296 → is_some (weigh script) ≡ true
    → (height : Option ℕ) → IsFirstPlace (coin_at weigh height t) (length t.outputs) (Some k)
first_here weigh t old k script new f is lt listed height =
    let s = stands_at (λ (o : TxOut). o.script) t.outputs k script new (sym f.left ∙ is) in
    (slice_get_within t.outputs k s.item s.there, f.none height, here_listed weigh t old k script new f is lt height ∙ listed)

pub first_ends : (weigh : List ℕ → Option ℕ) (t : Transaction) (old : List (List ℕ)) (k : ℕ) → FirstSoFar weigh t old k → old ≡ [] → (height : Option ℕ) → NoneBelow (coin_at weigh height t) (length t.outputs)
first_ends weigh t old k f is height =
    let le = none_behind (λ (o : TxOut). o.script) t.outputs k (sym f.left ∙ is) in
    λ j lt. f.none height j (omega (arith, le, lt))

pub first_over : (weigh : List ℕ → Option ℕ) (t : Transaction) (old : List (List ℕ)) (k : ℕ) → FirstSoFar weigh t old k → 4294967296 ≤ k → (height : Option ℕ) → NoneBelow (coin_at weigh height t) (length t.outputs)
first_over weigh t old k f over height = λ j lt. by j (cases_order j k)
  where
    by : (j : ℕ) → ((j ≡ k) ⊎ ((j < k) ⊎ (k < j))) → is_some (coin_at weigh height t j) ≡ false
    by j (inl same) = no_coin_beyond weigh height t j (omega (arith, same, over))
    by j (inr (inl before)) = f.none height j before
    by j (inr (inr behind)) = no_coin_beyond weigh height t j (omega (arith, behind, over))

-- ---- what is spent

-- the first of what is left isn't watched
pub any_more : (p : OutPoint → Bool) (all old : List OutPoint) (x : OutPoint) (new : List OutPoint) → list_any p old ≡ list_any p all → old ≡ x ∷ new → p x ≡ false → list_any p new ≡ list_any p all
any_more p all old x new so is other = ap (λ (b : Bool). b || list_any p new) (sym other) ∙ ap (list_any p) (sym is) ∙ so

pub any_here : (p : OutPoint → Bool) (all old : List OutPoint) (x : OutPoint) (new : List OutPoint) → list_any p old ≡ list_any p all → old ≡ x ∷ new → p x ≡ true → true ≡ list_any p all
any_here p all old x new so is here = ap (λ (b : Bool). b || list_any p new) (sym here) ∙ ap (list_any p) (sym is) ∙ so

pub any_ends : (p : OutPoint → Bool) (all old : List OutPoint) → list_any p old ≡ list_any p all → old ≡ [] → false ≡ list_any p all
any_ends p all old so is = ap (list_any p) (sym is) ∙ so

neither_left : (a b : Bool) → (a || b) ≡ false → a ≡ false
neither_left true b e = absurd (true≢false e)
neither_left false b e = refl

neither_right : (a b : Bool) → (a || b) ≡ false → b ≡ false
neither_right true b e = absurd (true≢false e)
neither_right false b e = e

-- an outpoint that is spent isn't watched, where none is
unwatched : (w : PlainWatched) (o : OutPoint) (inputs : List TxIn) → list_any (watches w) (map (λ (i : TxIn). i.prev) inputs) ≡ false → has_input o inputs ≡ true → watches w o ≡ false
unfolding has_input
unwatched w o [] none spent = absurd (true≢false (sym spent))
unwatched w o (i ∷ inputs) none spent = by (same_outpoint i.prev o) refl spent (unwatched w o inputs (neither_right (watches w i.prev) (list_any (watches w) (map (λ (j : TxIn). j.prev) inputs)) none))
  where
    by : (b : Bool) → same_outpoint i.prev o ≡ b → (b || has_input o inputs) ≡ true → (has_input o inputs ≡ true → watches w o ≡ false) → watches w o ≡ false
    by true same e rest = ap (watches w) (sym ((same_outpoint-Decides i.prev o).0 same)) ∙ neither_left (watches w i.prev) (list_any (watches w) (map (λ (j : TxIn). j.prev) inputs)) none
    by false same e rest = rest e

-- ---- a transaction of which nothing is kept

-- there is no first outpoint of what is told by none
pub no_point : (o : Option OutPoint) (os : List OutPoint) → is_some o ≡ false → option_to_list o ≡ os → [] ≡ os
no_point None os none is = is
no_point (Some point) os none is = absurd (true≢false none)

no_coins : (l : List Made) → [] ≡ take 1 (points l) → [] ≡ l
no_coins [] e = refl
no_coins (m ∷ l) e = absurd cc

no_spend : (mine seen spent : Bool) (old one : List Spend) → (mine ≡ true → seen ≡ false) → old ≡ old ++ cond (mine && (seen && not spent)) one []
no_spend false seen spent old one e = sym (append-nil old)
no_spend true seen spent old one e = sym (append-nil old) ∙ ap (λ (b : Bool). old ++ cond (b && not spent) one []) (sym (e refl))

pub passed_over : (w : PlainWatched) (weigh : List ℕ → Option ℕ) (before behind : List Confirmed) (base old : Ledger) (c : Confirmed) (spend : Spend) → HoldsChain w weigh [] before base → HoldsChain w weigh before behind old
    → spend ≡ record { txid = txid_of c.tx; height = c.height; place = length (before ++ behind) } → [] ≡ take 1 (points (made_by weigh c)) → (watches_txid w spend.txid || list_any (watches w) (points_of c.tx)) ≡ false → HoldsChain w weigh before (behind ++ c ∷ []) old
passed_over w weigh before behind base old c spend under h is none unseen =
    let named = neither_left (watches_txid w spend.txid) (list_any (watches w) (points_of c.tx)) unseen in
    let spends = neither_right (watches_txid w spend.txid) (list_any (watches w) (points_of c.tx)) unseen in
    chain_more w weigh before behind base old old c [] spend under h is (no_coins (made_by weigh c) none) (sym (append-nil old.coins.entries))
    (record {
      heights = λ t. ap (λ (b : Bool). cond (not b || is_known base old spend.txid) (lookup (bytes_eq t) old.heights.entries) (cond (bytes_eq spend.txid t) (Some spend.height) (lookup (bytes_eq t) old.heights.entries))) (sym named);
      spends = λ o. no_spend (has_input o c.tx.inputs) (watches w o) _ (spends_in old.spends o) (spend ∷ []) (unwatched w o c.tx.inputs spends);
    })

pub no_fault : (weigh : List ℕ → Option ℕ) (c : Confirmed) (os : List OutPoint) → [] ≡ take 1 (points (made_by weigh c)) → fault_behind os (points (made_by weigh c)) ≡ None
unfolding fault_behind
no_fault weigh c os none = ap (λ (l : List Made). fault_behind os (points l)) (sym (no_coins (made_by weigh c) none))

-- ---- one transaction after the other

-- the transaction at a place, of which those from there on are lent
pub record LentAt (txs : List Transaction) (i : ℕ) (t : Transaction) (rest : List Transaction) : Type 0 where
  pub within : i < length txs
  pub is : t ≡ get_or txs i t
  pub behind : rest ≡ drop (suc i) txs

pub lent_at : (txs : List Transaction) (i : ℕ) (t : Transaction) (rest : List Transaction) → drop i txs ≡ t ∷ rest → LentAt txs i t rest
lent_at [] zero t rest is = absurd cc
lent_at [] (suc i) t rest is = absurd cc
lent_at (u ∷ txs) zero t rest is = record { within = omega arith; is = sym (cc is); behind = sym (cc is) }
lent_at (u ∷ txs) (suc i) t rest is =
    let l = lent_at txs i t rest is in
    record { within = omega (arith, l.within); is = l.is; behind = l.behind }

pub none_lent : (txs : List Transaction) (i : ℕ) → drop i txs ≡ [] → length txs ≤ i
none_lent [] i is = omega arith
none_lent (t ∷ txs) zero is = absurd cc
none_lent (t ∷ txs) (suc i) is = let l = none_lent txs i is in omega (arith, l)

named : (txs : List Transaction) (i : ℕ) (t : Transaction) (id : List ℕ) → i < length txs → t ≡ get_or txs i t → get_or (map txid_of txs) i id ≡ txid_of t
named [] i t id lt is = absurd (omega (arith, lt))
named (u ∷ txs) zero t id lt is = ap txid_of (sym is)
named (u ∷ txs) (suc i) t id lt is = named txs i t id (omega (arith, lt)) is

-- the txid at a place is that of the transaction there
pub txid_there : (txs : List Transaction) (i : ℕ) (t : Transaction) (ids : List (List ℕ)) (id : List ℕ) → ids ≡ map txid_of txs → id ≡ get_or ids i id → i < length txs → t ≡ get_or txs i t → id ≡ txid_of t
txid_there txs i t ids id all there lt is = there ∙ ap (λ (l : List (List ℕ)). get_or l i id) all ∙ named txs i t id lt is
