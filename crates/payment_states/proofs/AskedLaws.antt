-- What may be asked of the book of a wallet.
use Rattle.std.proofs.Common.{◌≡◌, ℕ, ◌<◌, List, [], map, length, get_or, Some, true, All, Contains, refl, sym, subst}
use Rattle.std.specs.Prelude.{bytes_eq, position, slice_get}
use Rattle.std.proofs.lemmas.List.{get_or_default}
use Rattle.std.proofs.lemmas.List.Elements.{All-map}
use Rattle.std.proofs.lemmas.List.Quantifiers.{position-Some}
use Rattle.std.proofs.lemmas.Option.{get_or_from_slice_get, slice_get_within}
use Rattle.std.proofs.lemmas.Slice.Eq.{bytes_eq-Decides}
use Rattle.tx_codec.specs.Transaction.{Transaction}
use Rattle.tx_codec.specs.Txid.{txid_of}
use Rattle.wallet_text.specs.PlainWallet.{PlainWallet}
use Rattle.coin_book.specs.Asked.{AreWaiting, HasCoin, IsAskedTxid}
use Rattle.coin_book.specs.Coins.{coins_of}
use Rattle.coin_book.specs.History.{History}
use Rattle.coin_book.specs.declared.coin.Coin.{Coin}
use Rattle.payment_states.specs.BookOf.{IsBookOf}

-- the wallet's own pending transactions wait
pub waiting_all : (w : PlainWallet) (h : History) → IsBookOf w h → AreWaiting h w.pending
waiting_all w h b = λ k d lt. let t = get_or w.pending k d in subst (λ (ts : List Transaction). Contains ts t) (sym b.pending) (k, lt, get_or_default w.pending k t d lt)

-- the heights of those that wait may be asked
pub asked_txids : (h : History) (ts : List Transaction) → AreWaiting h ts → All (IsAskedTxid h) (map txid_of ts)
asked_txids h ts waiting = All-map (IsAskedTxid h) txid_of ts (λ k d lt. (get_or ts k d, waiting k d lt, refl))

-- and the height of a txid that is found among theirs
pub asked_key : (h : History) (txids : List (List ℕ)) (txid : List ℕ) (place : ℕ) → All (IsAskedTxid h) txids → position (bytes_eq txid) txids ≡ Some place → IsAskedTxid h txid
asked_key h txids txid place all at =
    let p = position-Some (bytes_eq txid) txids place [] at in
    subst (IsAskedTxid h) (sym ((bytes_eq-Decides txid (get_or txids place [])).0 p.1)) (all place [] p.0)

-- a coin of the book stands at its outpoint
pub coin_there : (h : History) (i : ℕ) (c : Coin) → slice_get (coins_of h) i ≡ Some c → HasCoin h c.coin
coin_there h i c at = (c, (i, slice_get_within (coins_of h) i c at, get_or_from_slice_get (coins_of h) i c c at), refl)
