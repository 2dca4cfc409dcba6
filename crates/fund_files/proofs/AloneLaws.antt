-- A wallet behind which no block stands, and its book.
use Rattle.std.proofs.Common.{◌≡◌, ◌∙◌, ℕ, [], List, ap, arith, sym, subst, refl}
use Rattle.std.specs.Prelude.{map, All}
use Rattle.std.proofs.lemmas.List.{append-nil}
use Rattle.std.proofs.lemmas.List.Elements.{All-nil}
use Rattle.block_feed.specs.Block.{ChainBlock}
use Rattle.tx_codec.specs.Transaction.{Transaction}
use Rattle.tx_codec.specs.TransactionText.{IsTransaction}
use Rattle.coin_book.specs.History.{Confirmed, History, confirmed_before, start_of}
use Rattle.wallet_text.specs.PlainWallet.{PlainWallet}
use Rattle.wallet_text.specs.WalletRules.{IsWallet}
use Rattle.fund_files.specs.Booked.{IsBooked}
use Rattle.fund_files.specs.Chain.{IsChain, chain_from, history_of}
use Rattle.fund_files.specs.declared.booking.Booked.{Booked}
use Rattle.fund_files.specs.declared.chain.Chain.{Chain}
use Rattle.fund_files.specs.declared.chain.Tip.{Tip}
use Rattle.fund_files.proofs.BookSteps.{waiting}

-- what is begun with, and the pending transactions
pub alone_is : (w : PlainWallet) → waiting (start_of w) w.pending ≡ history_of w []
alone_is w = ap (λ (cs : List Confirmed). record { scripts = w.scripts; confirmed = cs; pending = w.pending }) (sym (append-nil (map confirmed_before w.earlier)))

pub booked_alone : (booked : Booked) (w : PlainWallet) (ts : List Transaction) → ts ≡ w.pending → IsBooked booked (waiting (start_of w) ts) → IsBooked booked (history_of w [])
booked_alone booked w ts same is = subst (λ (h : History). IsBooked booked h) (ap (waiting (start_of w)) same ∙ alone_is w) is

-- the chain ends where the wallet says
pub held_alone : (w : PlainWallet) (k : Chain) → IsWallet w → k ≡ chain_from w [] → IsChain k
held_alone w k rules is = subst IsChain (sym is) (record {
  blocks = [];
  is = refl;
  rules = rules;
  texts = All-nil (λ (b : ChainBlock). All IsTransaction b.txs);
  height = let low = rules.height in omega arith;
})

abbrev held_by : PlainWallet → History → Tip → Chain
held_by w h tip = record { wallet = w; book = h; tip = tip }

abbrev tip_at : ℕ → List ℕ → Tip
tip_at height hash = record { height = height; hash = hash }

-- the wallet, its book and its tip
pub value_alone : (w : PlainWallet) (book : History) (height : ℕ) (hash : List ℕ) → book ≡ history_of w [] → height ≡ w.height → hash ≡ w.hash → held_by w book (tip_at height hash) ≡ chain_from w []
value_alone w book height hash is high hashed =
    ap (λ (h : History). held_by w h (tip_at height hash)) is
    ∙ ap (λ (n : ℕ). held_by w (history_of w []) (tip_at n hash)) high
    ∙ ap (λ (xs : List ℕ). held_by w (history_of w []) (tip_at w.height xs)) hashed
