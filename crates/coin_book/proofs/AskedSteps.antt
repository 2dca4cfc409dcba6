-- What may be asked of a book, and whether it is watched.
use Rattle.std.proofs.Common.{◌≡◌, ◌∙◌, ◌↔◌, ℕ, ◌<◌, suc, Option, Some, None, arith, Bool, true, false, ◌&&◌, ◌||◌, inl, inr, List, [], ◌∷◌, length, get_or, All, Contains, Vec, Global, refl, sym, ap, subst, true≢false}
use Rattle.std.specs.List.{Any, list_all, list_any}
use Rattle.std.specs.Prelude.{bytes_eq}
use Rattle.std.specs.Map.{keys_of}
use Rattle.std.specs.Option.{IfSome, option_map_or}
use Rattle.std.proofs.lemmas.List.{get_or_default, map-append}
use Rattle.std.proofs.lemmas.List.Folds.{Any-from_list_any, list_all-append, list_all-map, list_all_at, list_any_at}
use Rattle.std.proofs.lemmas.List.Sums.{AllPass-from_list_all, list_all-from_AllPass}
use Rattle.std.proofs.lemmas.Slice.Eq.{bytes_eq-Decides}
use Rattle.std.proofs.lemmas.Simd.{map-map}
use Rattle.fund_base.specs.Outpoints.{same_outpoint}
use Rattle.fund_base.specs.declared.outpoint.OutPoint.{OutPoint}
use Rattle.fund_base.proofs.OutpointLaws.{same_outpoint-Decides}
use Rattle.tx_codec.specs.Transaction.{Transaction}
use Rattle.tx_codec.specs.Txid.{txid_of}
use Rattle.tx_codec.specs.declared.tx.TxIn.{TxIn}
use Rattle.coin_book.specs.Asked.{HasUnwatchedCoin, IsAsked, Suffices, WatchesWallet}
use Rattle.coin_book.specs.Coins.{Made, coins_of, confirmed_made, made_of, pending_made}
use Rattle.coin_book.specs.Faults.{points}
use Rattle.coin_book.specs.History.{History}
use Rattle.coin_book.specs.Invariant.{IsLedger}
use Rattle.coin_book.specs.Spends.{has_input}
use Rattle.coin_book.specs.Watched.{IsWatched, PlainWatched, WatchedHistory, watches, watches_txid}
use Rattle.coin_book.specs.declared.coin.Coin.{Coin}
use Rattle.coin_book.specs.declared.held.Held.{Held}
use Rattle.coin_book.specs.declared.ledger.Ledger.{Ledger}
use Rattle.coin_book.proofs.SpendSteps.{spends_by_one}

passes : {X : Type 0} (p : X → Bool) (xs : List X) (i : ℕ) (d : X) → i < length xs → list_all p xs ≡ true → p (get_or xs i d) ≡ true
passes p xs i d lt all = by (p (get_or xs i d)) refl
  where
    by : (b : Bool) → p (get_or xs i d) ≡ b → b ≡ true
    by true e = refl
    by false e = absurd (true≢false (sym all ∙ list_all_at p xs i d lt e))

both : (a b : Bool) → a ≡ true → b ≡ true → (a && b) ≡ true
both a b e f = λ k. e k && f k

-- what is looked at says of all coins whether they are watched
pub coins_told : (h : History) (w : PlainWatched) (ws : List (Vec ℕ Global × ℕ)) (l : Ledger) (ps : List (OutPoint × Held)) (txids : List (List ℕ)) (count : ℕ) (a b : Bool) → IsLedger h w ws l ps txids count
    → a ≡ list_all (watches w) (keys_of l.coins.entries) → b ≡ list_all (watches w) (keys_of ps) → (a && b) ≡ list_all (λ (c : Coin). watches w c.coin) (coins_of h)
unfolding made_of
coins_told h w ws l ps txids count a b k first second =
    (λ i. (first ∙ ap (list_all (watches w)) k.chain.coins.keys_are) i && (second ∙ ap (list_all (watches w)) k.waiting.keys_are) i)
    ∙ sym (list_all-append (watches w) (points (confirmed_made h)) (points (pending_made h)))
    ∙ ap (list_all (watches w)) (sym (map-map (λ (c : Coin). c.coin) (λ (m : Made). m.coin) (made_of h) ∙ map-append (λ (m : Made). m.coin.coin) (confirmed_made h) (pending_made h)))
    ∙ list_all-map (watches w) (λ (c : Coin). c.coin) (coins_of h)

waiting_watched : (w : PlainWatched) (ts : List Transaction) (t : Transaction) → All (IsWatched w) ts → Contains ts t → IsWatched w t
waiting_watched w ts t all there = subst (IsWatched w) there.2 (all there.0 t there.1)

-- ---- what is watched of a wallet

pub watches_all : (v : WatchedHistory) → Suffices v → WatchesWallet v
watches_all v s = (coins, waiting)
  where
    coins : All (λ (c : Coin). watches v.watched c.coin ≡ true) (coins_of v.history)
    coins k d lt = let c = get_or (coins_of v.history) k d in s.spends c.coin (inl (c, (k, lt, get_or_default (coins_of v.history) k c d lt), refl))

    waiting : All (IsWatched v.watched) v.history.pending
    waiting k d lt =
        let t = get_or v.history.pending k d in
        let there : Contains v.history.pending t = (k, lt, get_or_default v.history.pending k t d lt) in
        record {
          txid = s.heights (txid_of t) (t, there, refl);
          inputs = λ o spends. s.spends o (inr (t, there, spends));
        }

pub suffices_when : (v : WatchedHistory) → WatchesWallet v → Suffices v
suffices_when v all = record {
  spends = spent;
  heights = λ t asked. ap (watches_txid v.watched) (sym asked.2) ∙ (waiting_watched v.watched v.history.pending asked.0 all.1 asked.1).txid;
}
  where
    spent : (o : OutPoint) → IsAsked v.history o → watches v.watched o ≡ true
    spent o (inl coin) =
        ap (watches v.watched) (sym coin.2)
        ∙ ap (λ (c : Coin). watches v.watched c.coin) (sym coin.1.2)
        ∙ all.0 coin.1.0 coin.0 coin.1.1
    spent o (inr claim) = (waiting_watched v.watched v.history.pending claim.0 all.1 claim.1).inputs o claim.2

pub suffices_both : (v : WatchedHistory) → Suffices v ↔ WatchesWallet v
suffices_both v = (watches_all v, suffices_when v)

-- whether each coin is watched tells whether all is
pub coins_suffice : (v : WatchedHistory) (is : Bool) → All (IsWatched v.watched) v.history.pending → is ≡ list_all (λ (c : Coin). watches v.watched c.coin) (coins_of v.history) → (is ≡ true) ↔ Suffices v
coins_suffice v is waiting told = (
  λ e. suffices_when v (AllPass-from_list_all (λ (c : Coin). watches v.watched c.coin) (coins_of v.history) (sym told ∙ e), waiting),
  λ s. told ∙ list_all-from_AllPass (λ (c : Coin). watches v.watched c.coin) (coins_of v.history) (watches_all v s).0,
)

some_fails : {X : Type 0} (p : X → Bool) (xs : List X) → list_all p xs ≡ false → Any (λ (x : X). p x ≡ false) xs
some_fails p [] e = absurd (true≢false e)
some_fails {X = X} p (x ∷ xs) e = by (p x) refl (some_fails p xs) e
  where
    by : (b : Bool) → p x ≡ b → (list_all p xs ≡ false → Any (λ (x : X). p x ≡ false) xs) → (b && list_all p xs) ≡ false → Any (λ (x : X). p x ≡ false) (x ∷ xs)
    by false is rest e = (0, x, omega arith, refl, is)
    by true is rest e = let a = rest e in let lt = a.2 in (suc a.0, a.1, omega arith, a.3, a.4)

-- or one isn't
pub coin_lacks : (v : WatchedHistory) (is : Bool) → is ≡ list_all (λ (c : Coin). watches v.watched c.coin) (coins_of v.history) → (is ≡ false) ↔ HasUnwatchedCoin v
coin_lacks v is told = (
  λ e. some_fails seen (coins_of v.history) (sym told ∙ e),
  λ a. told ∙ list_all_at seen (coins_of v.history) a.0 a.1 a.2 (ap seen a.3 ∙ a.4),
)
  where
    seen : Coin → Bool
    seen c = watches v.watched c.coin

-- ---- what is watched, by the lists

pub point_listed : (w : PlainWatched) (o : OutPoint) → (watches w o ≡ true) ↔ IfSome w.points (λ (os : List OutPoint). Contains os o)
unfolding watches
point_listed w o = by w.points
  where
    by : (listed : Option (List OutPoint)) → (option_map_or (λ (os : List OutPoint). list_any (same_outpoint o) os) listed true ≡ true) ↔ IfSome listed (λ (os : List OutPoint). Contains os o)
    by None = (λ e. tt, λ e. refl)
    by (Some os) = (
      λ e. let a = Any-from_list_any (same_outpoint o) os e in let same = (same_outpoint-Decides o a.1).0 a.4 in (a.0, a.2, get_or_default os a.0 o a.1 a.2 ∙ a.3 ∙ sym same),
      λ there. list_any_at (same_outpoint o) os there.0 o there.1 ((same_outpoint-Decides o (get_or os there.0 o)).1 (sym there.2)),
    )

pub txid_listed : (w : PlainWatched) (t : List ℕ) → (watches_txid w t ≡ true) ↔ IfSome w.txids (λ (ts : List (List ℕ)). Contains ts t)
unfolding watches_txid
txid_listed w t = by w.txids
  where
    by : (listed : Option (List (List ℕ))) → (option_map_or (λ (ts : List (List ℕ)). list_any (bytes_eq t) ts) listed true ≡ true) ↔ IfSome listed (λ (ts : List (List ℕ)). Contains ts t)
    by None = (λ e. tt, λ e. refl)
    by (Some ts) = (
      λ e. let a = Any-from_list_any (bytes_eq t) ts e in let same = (bytes_eq-Decides t a.1).0 a.4 in (a.0, a.2, get_or_default ts a.0 t a.1 a.2 ∙ a.3 ∙ sym same),
      λ there. list_any_at (bytes_eq t) ts there.0 t there.1 ((bytes_eq-Decides t (get_or ts there.0 t)).1 (sym there.2)),
    )

-- ---- the inputs of a transaction

pub inputs_seen : (w : PlainWatched) (inputs : List TxIn) → list_all (λ (i : TxIn). watches w i.prev) inputs ≡ true → (o : OutPoint) → has_input o inputs ≡ true → watches w o ≡ true
inputs_seen w inputs all o spends =
    let a = spends_by_one o inputs spends in
    ap (watches w) (sym a.4) ∙ ap (λ (i : TxIn). watches w i.prev) (sym a.3) ∙ passes (λ (i : TxIn). watches w i.prev) inputs a.0 a.1 a.2 all

pub all_seen : (w : PlainWatched) (inputs : List TxIn) → ((o : OutPoint) → has_input o inputs ≡ true → watches w o ≡ true) → list_all (λ (i : TxIn). watches w i.prev) inputs ≡ true
unfolding has_input
all_seen w [] seen = refl
all_seen w (x ∷ xs) seen =
    both (watches w x.prev) (list_all (λ (i : TxIn). watches w i.prev) xs)
    (seen x.prev (ap (λ (b : Bool). b || has_input x.prev xs) ((same_outpoint-Decides x.prev x.prev).1 refl)))
    (all_seen w xs (λ o e. seen o (or_right (same_outpoint x.prev o) (has_input o xs) e)))
  where
    or_right : (a b : Bool) → b ≡ true → (a || b) ≡ true
    or_right true b e = refl
    or_right false b e = e
