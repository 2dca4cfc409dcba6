-- A book of a wallet's earlier transactions.
use Rattle.std.proofs.Common.{◌≡◌, ◌∙◌, ℕ, ◌+◌, List, [], length, map, Option, Some, None, sym, ap, subst, arith, Vec, Global}
use Rattle.std.specs.declared.snapshot.Snapshot.{Snapshot}
use Rattle.std.specs.Map.{keys_of}
use Rattle.tx_codec.specs.Transaction.{Transaction}
use Rattle.block_feed.specs.Block.{ChainBlock}
use Rattle.std.proofs.lemmas.List.{append-nil, length-map}
use Rattle.std.proofs.lemmas.List.Elements.{All-nil}
use Rattle.fund_base.specs.declared.outpoint.OutPoint.{OutPoint}
use Rattle.wallet_text.specs.PlainWallet.{Earlier, PlainWallet}
use Rattle.wallet_text.specs.declared.wallet.Watch.{Watch}
use Rattle.coin_book.specs.Coins.{Made, confirmed_made, pending_made, weight_for}
use Rattle.coin_book.specs.Faults.{fault_behind, fault_of, points}
use Rattle.coin_book.specs.History.{History, confirmed_before, start_of}
use Rattle.coin_book.specs.Invariant.{HoldsChain, IsLedger, history_of, made_at, points_in, weigher}
use Rattle.coin_book.specs.Watched.{IsWatched, PlainWatched}
use Rattle.coin_book.specs.declared.fault.BookFault.{BookFault}
use Rattle.coin_book.specs.declared.held.Held.{Held}
use Rattle.coin_book.specs.declared.ledger.Ledger.{Ledger}
use Rattle.coin_book.proofs.FaultSteps.{fault_first, fault_rest, few, room_for}

-- the wallet's ledger, whatever its scripts and transactions are called
pub started : (w : PlainWallet) (seen : PlainWatched) (ws : List (Vec ℕ Global × ℕ)) (scripts : List Watch) (earlier : List Earlier) (l : Ledger) → scripts ≡ w.scripts → earlier ≡ w.earlier → weigher ws ≡ weight_for scripts
    → HoldsChain seen (weigher ws) [] (map confirmed_before earlier) l → HoldsChain seen (weight_for w.scripts) [] (map confirmed_before w.earlier) l
started w seen ws scripts earlier l s e weigh h =
    subst (λ (es : List Earlier). HoldsChain seen (weight_for w.scripts) [] (map confirmed_before es) l) e
    (subst (λ (f : List ℕ → Option ℕ). HoldsChain seen f [] (map confirmed_before earlier) l) (weigh ∙ ap weight_for s) h)

-- the fault of the confirmed coins, in the same way
pub told : (w : PlainWallet) (ws : List (Vec ℕ Global × ℕ)) (scripts : List Watch) (earlier : List Earlier) → scripts ≡ w.scripts → earlier ≡ w.earlier → weigher ws ≡ weight_for scripts
    → fault_behind [] (points_in (weight_for w.scripts) (map confirmed_before w.earlier)) ≡ fault_behind [] (points_in (weigher ws) (map confirmed_before earlier))
told w ws scripts earlier s e weigh = sym (λ j. fault_behind [] (points_in ((weigh ∙ ap weight_for s) j) (map confirmed_before (e j))))

-- a wallet whose coins have no fault has no pending ones beside
start_sound : (w : PlainWallet) → fault_behind [] (points (confirmed_made (start_of w))) ≡ None → fault_of (start_of w) ≡ None
start_sound w fresh =
    let n = few (points (confirmed_made (start_of w))) fresh in
    let m = length-map (confirmed_made (start_of w)) (λ (m : Made). m.coin.coin) in
    fault_rest (start_of w) fresh ∙ room_for (length (confirmed_made (start_of w)) + length (pending_made (start_of w))) (omega arith)

pub start_answer : (w : PlainWallet) (ws : List (Vec ℕ Global × ℕ)) (scripts : List Watch) (earlier : List Earlier) → scripts ≡ w.scripts → earlier ≡ w.earlier → weigher ws ≡ weight_for scripts
    → fault_behind [] (points_in (weigher ws) (map confirmed_before earlier)) ≡ None → fault_of (start_of w) ≡ None
start_answer w ws scripts earlier s e weigh fresh = start_sound w (told w ws scripts earlier s e weigh ∙ fresh)

pub start_fault : (w : PlainWallet) (ws : List (Vec ℕ Global × ℕ)) (scripts : List Watch) (earlier : List Earlier) (fault : BookFault) → scripts ≡ w.scripts → earlier ≡ w.earlier → weigher ws ≡ weight_for scripts
    → fault_behind [] (points_in (weigher ws) (map confirmed_before earlier)) ≡ Some fault → fault_of (start_of w) ≡ Some fault
start_fault w ws scripts earlier fault s e weigh is = fault_first (start_of w) fault (told w ws scripts earlier s e weigh ∙ is)

same_start : (w v : PlainWallet) (blocks : List (Snapshot ChainBlock)) (waiting : List (Snapshot Transaction)) → v ≡ w → blocks ≡ [] → waiting ≡ [] → start_of w ≡ history_of v blocks waiting
same_start w v blocks waiting is none_in none_wait =
    (λ k. record { scripts = w.scripts; confirmed = sym (append-nil (map confirmed_before w.earlier)) k; pending = [] })
    ∙ (λ k. history_of (sym is k) (sym none_in k) (sym none_wait k))

pub start_kept : (w v : PlainWallet) (seen : PlainWatched) (ws : List (Vec ℕ Global × ℕ)) (scripts : List Watch) (earlier : List Earlier) (l : Ledger) (blocks : List (Snapshot ChainBlock)) (waiting : List (Snapshot Transaction)) (ps : List (OutPoint × Held)) (txids : List (List ℕ)) (count : ℕ)
    → v ≡ w → scripts ≡ w.scripts → earlier ≡ w.earlier → weigher ws ≡ weight_for scripts → HoldsChain seen (weigher ws) [] (map confirmed_before earlier) l → fault_behind [] (points_in (weigher ws) (map confirmed_before earlier)) ≡ None
    → blocks ≡ [] → waiting ≡ [] → ps ≡ [] → txids ≡ [] → count ≡ length w.earlier → IsLedger (history_of v blocks waiting) seen ws l ps txids count
start_kept w v seen ws scripts earlier l blocks waiting ps txids count is s e weigh holds fresh none_in none_wait no_coins no_txids many =
    subst (λ (h : History). IsLedger h seen ws l ps txids count) (same_start w v blocks waiting is none_in none_wait)
    (record {
      weights_are = weigh ∙ ap weight_for s;
      chain = started w seen ws scripts earlier l s e weigh holds;
      waiting = record { made_is = ap (map made_at) no_coins; keys_are = ap (λ (es : List (OutPoint × Held)). keys_of es) no_coins };
      watched = All-nil (IsWatched seen);
      txids_are = no_txids;
      count_is = many ∙ sym (length-map w.earlier confirmed_before);
      sound = start_answer w ws scripts earlier s e weigh fresh;
    })
