-- One block more.
use Rattle.std.proofs.Common.{◌≡◌, ◌∙◌, ℕ, ◌+◌, true, false, cond, List, [], ◌∷◌, ◌++◌, length, map, filter, Option, Some, None, Vec, Global, refl, sym, ap, subst, arith, append_assoc, true≢false}
use Rattle.std.specs.Prelude.{bytes_eq, is_some, nat_le, nat_lt}
use Rattle.std.specs.List.{IsDistinct, flat_map}
use Rattle.std.specs.Map.{keys_of, lookup}
use Rattle.std.specs.Option.{option_or}
use Rattle.std.proofs.lemmas.Bool.{leb-false, leb-true}
use Rattle.std.proofs.lemmas.Grind.{flat_map-append}
use Rattle.std.proofs.lemmas.List.{append-nil, length-append, length-map}
use Rattle.indexmap.specs.IndexMap.{insert_all}
use Rattle.fund_base.specs.Outpoints.{same_outpoint}
use Rattle.fund_base.specs.declared.outpoint.OutPoint.{OutPoint}
use Rattle.tx_codec.specs.Transaction.{Transaction}
use Rattle.block_feed.specs.Block.{ChainBlock}
use Rattle.wallet_text.specs.PlainWallet.{PlainWallet}
use Rattle.std.specs.declared.snapshot.Snapshot.{Snapshot}
use Rattle.coin_book.specs.Coins.{Made, confirmed_made, made_by, pending_made, weight_for}
use Rattle.coin_book.specs.Faults.{fault_behind, fault_of, full_at, points}
use Rattle.coin_book.specs.History.{Confirmed, History, confirmed_at, confirmed_before, confirmed_in, with_block}
use Rattle.coin_book.specs.Invariant.{HoldsChain, HoldsCoins, IsLedger, history_of, points_in, weigher}
use Rattle.coin_book.specs.Watched.{PlainWatched, WatchedHistory, kept_height, kept_spends}
use Rattle.coin_book.specs.Merging.{shares, staying, stays}
use Rattle.coin_book.specs.Places.{spends_in}
use Rattle.coin_book.specs.declared.coin.Spend.{Spend}
use Rattle.coin_book.specs.declared.fault.BookFault.{BookFault}
use Rattle.coin_book.specs.declared.fault.BookFault.TheVariants.{Full}
use Rattle.coin_book.specs.declared.held.Held.{Held}
use Rattle.coin_book.specs.declared.ledger.Ledger.{Ledger}
use Rattle.coin_book.proofs.ChainSteps.{points_push}
use Rattle.coin_book.proofs.FaultSteps.{fault_first, fault_rest, held_count, no_room_for, room_for, sound_confirmed}
use Rattle.coin_book.proofs.MapSteps.{fault_more}
use Rattle.coin_book.proofs.MergeSteps.{coins_behind, heights_behind, lookup_both}
use Rattle.coin_book.proofs.PendingSteps.{both_hold}
use Rattle.coin_book.proofs.StaySteps.{left_is, settled}
use Rattle.coin_book.proofs.WatchSteps.{height_at, height_held, no_height, no_spends, spends_held}

-- ---- two ledgers put together

pub chain_joined : (w : PlainWatched) (weigh : List ℕ → Option ℕ) (before behind : List Confirmed) (base more new : Ledger) → HoldsChain w weigh [] before base → HoldsChain w weigh before behind more → fault_behind (points_in weigh before) (points_in weigh behind) ≡ None
    → IsDistinct bytes_eq (keys_of more.heights.entries)
    → new.coins.entries ≡ insert_all same_outpoint base.coins.entries more.coins.entries → new.heights.entries ≡ insert_all bytes_eq base.heights.entries more.heights.entries
    → ((o : OutPoint) → spends_in new.spends o ≡ spends_in base.spends o ++ spends_in more.spends o) → HoldsChain w weigh [] (before ++ behind) new
chain_joined w weigh before behind base more new under h fresh once coins heights spends =
    let known : (t : List ℕ) → kept_height w before t ≡ lookup (bytes_eq t) base.heights.entries = λ t. height_held w weigh before base t under in
    let apart : (t : List ℕ) → is_some (lookup (bytes_eq t) base.heights.entries) ≡ true → lookup (bytes_eq t) more.heights.entries ≡ None = λ t there. h.apart t (ap (λ (o : Option ℕ). is_some o) (known t) ∙ there) in
    let tall = heights ∙ heights_behind base.heights.entries more.heights.entries once apart in
    let put = coins ∙ coins_behind base.coins.entries more.coins.entries ((λ k. fault_behind (under.coins.keys_are k) (h.coins.keys_are k)) ∙ fresh) in
    record {
      coins = subst (λ (m : List Made). HoldsCoins m new.coins.entries) (sym (flat_map-append (made_by weigh) before behind))
          (both_hold (flat_map (made_by weigh) before) (flat_map (made_by weigh) behind) base.coins.entries more.coins.entries new.coins.entries under.coins h.coins put);
      spends = λ o.
          h.spends o
          ∙ ap (λ (l : List Spend). l ++ spends_in more.spends o) (spends_held w weigh before base o under)
          ∙ sym (spends o)
          ∙ ap (λ (l : List Spend). l ++ spends_in new.spends o) (sym (no_spends w o));
      heights = λ t.
          h.heights t
          ∙ ap (λ (o : Option ℕ). option_or o (lookup (bytes_eq t) more.heights.entries)) (known t)
          ∙ sym (lookup_both (bytes_eq t) base.heights.entries more.heights.entries)
          ∙ ap (lookup (bytes_eq t)) (sym tall)
          ∙ ap (λ (o : Option ℕ). option_or o (lookup (bytes_eq t) new.heights.entries)) (sym (no_height w t));
      apart = λ t there. absurd (true≢false (sym there ∙ ap (λ (o : Option ℕ). is_some o) (no_height w t)));
    }

-- a ledger that tells the same
pub chain_same : (w : PlainWatched) (weigh : List ℕ → Option ℕ) (before : List Confirmed) (base new : Ledger) → HoldsChain w weigh [] before base → new.coins.entries ≡ base.coins.entries → new.heights.entries ≡ base.heights.entries
    → ((o : OutPoint) → spends_in new.spends o ≡ spends_in base.spends o) → HoldsChain w weigh [] before new
chain_same w weigh before base new h coins heights spends = record {
  coins = subst (λ (es : List (OutPoint × Held)). HoldsCoins (flat_map (made_by weigh) before) es) (sym coins) h.coins;
  spends = λ o. h.spends o ∙ ap (λ (l : List Spend). kept_spends w [] o ++ l) (sym (spends o));
  heights = λ t. h.heights t ∙ ap (λ (es : List (List ℕ × ℕ)). option_or (kept_height w [] t) (lookup (bytes_eq t) es)) (sym heights);
  apart = λ t there. absurd (true≢false (sym there ∙ ap (λ (o : Option ℕ). is_some o) (no_height w t)));
}

-- ---- the fault of the history with the block

made_more : (h : History) (b : ChainBlock) → points (confirmed_made (with_block h b)) ≡ points (confirmed_made h) ++ points_in (weight_for h.scripts) (confirmed_in b)
made_more h b = points_push (weight_for h.scripts) h.confirmed (confirmed_in b)

confirmed_fault : (h : History) (b : ChainBlock) → fault_of h ≡ None → fault_behind [] (points (confirmed_made (with_block h b))) ≡ fault_behind (points_in (weight_for h.scripts) h.confirmed) (points_in (weight_for h.scripts) (confirmed_in b))
confirmed_fault h b sound =
    ap (fault_behind []) (made_more h b)
    ∙ fault_more [] (points (confirmed_made h)) (points_in (weight_for h.scripts) (confirmed_in b))
    ∙ ap (λ (o : Option BookFault). option_or o (fault_behind (points (confirmed_made h)) (points_in (weight_for h.scripts) (confirmed_in b)))) (sound_confirmed h sound)

pub block_fault : (h : History) (w : PlainWatched) (ws : List (Vec ℕ Global × ℕ)) (l : Ledger) (ps : List (OutPoint × Held)) (txids : List (List ℕ)) (count : ℕ) (b : ChainBlock) (e : BookFault) → IsLedger h w ws l ps txids count
    → fault_behind (points_in (weigher ws) h.confirmed) (points_in (weigher ws) (confirmed_in b)) ≡ Some e → fault_of (with_block h b) ≡ Some e
block_fault h w ws l ps txids count b e k is =
    fault_first (with_block h b) e (confirmed_fault h b k.sound ∙ sym (λ j. fault_behind (points_in (k.weights_are j) h.confirmed) (points_in (k.weights_are j) (confirmed_in b))) ∙ is)

-- the ledger under the weights that are held
pub kept_chain : (h : History) (w : PlainWatched) (ws : List (Vec ℕ Global × ℕ)) (l : Ledger) (ps : List (OutPoint × Held)) (txids : List (List ℕ)) (count : ℕ) → IsLedger h w ws l ps txids count → HoldsChain w (weigher ws) [] h.confirmed l
kept_chain h w ws l ps txids count k = subst (λ (f : List ℕ → Option ℕ). HoldsChain w f [] h.confirmed l) (sym k.weights_are) k.chain

-- What is known before a block is added: the book, the block's own ledger, and how many coins still wait.
pub record IsNext (h : History) (b : ChainBlock) (w : PlainWatched) (ws : List (Vec ℕ Global × ℕ)) (l more : Ledger) (ps : List (OutPoint × Held)) (txids : List (List ℕ)) (count left : ℕ) : Type 0 where
  pub kept : IsLedger h w ws l ps txids count
  pub holds : HoldsChain w (weigher ws) h.confirmed (confirmed_in b) more
  pub none : fault_behind (points_in (weigher ws) h.confirmed) (points_in (weigher ws) (confirmed_in b)) ≡ None
  pub many : left ≡ length (pending_made (with_block h b))

pub block_next : (h : History) (b : ChainBlock) (w : PlainWatched) (ws : List (Vec ℕ Global × ℕ)) (l more : Ledger) (ps : List (OutPoint × Held)) (txids : List (List ℕ)) (count left : ℕ) (chain : List Confirmed) → IsLedger h w ws l ps txids count → chain ≡ confirmed_in b
    → HoldsChain w (weigher ws) h.confirmed chain more → fault_behind (points_in (weigher ws) h.confirmed) (points_in (weigher ws) chain) ≡ None
    → left ≡ cond (shares txids more.heights.entries) (length (filter (stays more.heights.entries) (keys_of ps))) (length ps) → IsNext h b w ws l more ps txids count left
block_next h b w ws l more ps txids count left chain k same holds none told =
    let held = subst (λ (c : List Confirmed). HoldsChain w (weigher ws) h.confirmed c more) same holds in
    record {
      kept = k;
      holds = held;
      none = subst (λ (c : List Confirmed). fault_behind (points_in (weigher ws) h.confirmed) (points_in (weigher ws) c) ≡ None) same none;
      many = left_is h b w (weigher ws) more ps txids left k.watched held k.waiting k.txids_are told;
    }

-- ---- a block's ledger, as what a book shows speaks of it

-- the ledger holds the block, and no coin of it is at fault
abbrev pub HoldsNext : WatchedHistory → ChainBlock → Ledger → Type 0
HoldsNext v b more = HoldsChain v.watched (weight_for v.history.scripts) v.history.confirmed (confirmed_in b) more

abbrev pub IsSoundNext : WatchedHistory → ChainBlock → Type 0
IsSoundNext v b = fault_behind (points_in (weight_for v.history.scripts) v.history.confirmed) (points_in (weight_for v.history.scripts) (confirmed_in b)) ≡ None

pub holds_shown : (v : WatchedHistory) (h : History) (w : PlainWatched) (ws : List (Vec ℕ Global × ℕ)) (l more : Ledger) (ps : List (OutPoint × Held)) (txids : List (List ℕ)) (count : ℕ) (b : ChainBlock) (chain : List Confirmed) → record { history = h; watched = w } ≡ v → IsLedger h w ws l ps txids count
    → chain ≡ confirmed_in b → HoldsChain w (weigher ws) h.confirmed chain more → HoldsNext v b more
holds_shown v h w ws l more ps txids count b chain is k same holds =
    let here = subst (λ (c : List Confirmed). HoldsChain w (weigher ws) h.confirmed c more) same holds in
    let weighed = subst (λ (f : List ℕ → Option ℕ). HoldsChain w f h.confirmed (confirmed_in b) more) k.weights_are here in
    subst (λ (x : WatchedHistory). HoldsNext x b more) is weighed

pub sound_shown : (v : WatchedHistory) (h : History) (w : PlainWatched) (ws : List (Vec ℕ Global × ℕ)) (l : Ledger) (ps : List (OutPoint × Held)) (txids : List (List ℕ)) (count : ℕ) (b : ChainBlock) (chain : List Confirmed) → record { history = h; watched = w } ≡ v → IsLedger h w ws l ps txids count
    → chain ≡ confirmed_in b → fault_behind (points_in (weigher ws) h.confirmed) (points_in (weigher ws) chain) ≡ None → IsSoundNext v b
sound_shown v h w ws l ps txids count b chain is k same none =
    let here = subst (λ (c : List Confirmed). fault_behind (points_in (weigher ws) h.confirmed) (points_in (weigher ws) c) ≡ None) same none in
    let weighed = subst (λ (f : List ℕ → Option ℕ). fault_behind (points_in f h.confirmed) (points_in f (confirmed_in b)) ≡ None) k.weights_are here in
    subst (λ (x : WatchedHistory). IsSoundNext x b) is weighed

pub shown_next : (v : WatchedHistory) (h : History) (w : PlainWatched) (ws : List (Vec ℕ Global × ℕ)) (l more : Ledger) (ps : List (OutPoint × Held)) (txids : List (List ℕ)) (count left : ℕ) (b : ChainBlock) → record { history = h; watched = w } ≡ v → IsLedger h w ws l ps txids count
    → HoldsNext v b more → IsSoundNext v b → left ≡ cond (shares txids more.heights.entries) (length (filter (stays more.heights.entries) (keys_of ps))) (length ps) → IsNext h b w ws l more ps txids count left
shown_next v h w ws l more ps txids count left b is k holds none told =
    let here : HoldsChain w (weight_for h.scripts) h.confirmed (confirmed_in b) more = subst (λ (x : WatchedHistory). HoldsNext x b more) (sym is) holds in
    let fresh : fault_behind (points_in (weight_for h.scripts) h.confirmed) (points_in (weight_for h.scripts) (confirmed_in b)) ≡ None = subst (λ (x : WatchedHistory). IsSoundNext x b) (sym is) none in
    block_next h b w ws l more ps txids count left (confirmed_in b) k refl
    (subst (λ (f : List ℕ → Option ℕ). HoldsChain w f h.confirmed (confirmed_in b) more) (sym k.weights_are) here)
    (subst (λ (f : List ℕ → Option ℕ). fault_behind (points_in f h.confirmed) (points_in f (confirmed_in b)) ≡ None) (sym k.weights_are) fresh)
    told

-- how many are confirmed with the block
pub count_shown : (v : WatchedHistory) (h : History) (w : PlainWatched) (old new : ℕ) (b : ChainBlock) → record { history = h; watched = w } ≡ v → old ≡ length h.confirmed → new ≡ length v.history.confirmed + length b.txs → new ≡ old + length b.txs
count_shown v h w old new b is had has =
    let same : length h.confirmed ≡ length v.history.confirmed = ap (λ (x : WatchedHistory). length x.history.confirmed) is in
    omega (arith, had, has, same)

-- the coins of the ledgers and those that still wait are all
block_total : (h : History) (b : ChainBlock) (w : PlainWatched) (ws : List (Vec ℕ Global × ℕ)) (l more : Ledger) (ps : List (OutPoint × Held)) (txids : List (List ℕ)) (count left : ℕ) → IsNext h b w ws l more ps txids count left
    → fault_of (with_block h b) ≡ full_at (length l.coins.entries + length more.coins.entries + left)
block_total h b w ws l more ps txids count left n =
    let c = held_count (confirmed_made h) l.coins.entries n.kept.chain.coins in
    let d = held_count (flat_map (made_by (weigher ws)) (confirmed_in b)) more.coins.entries n.holds.coins in
    let w = ap (λ (f : List ℕ → Option ℕ). length (flat_map (made_by f) (confirmed_in b))) n.kept.weights_are in
    let m = ap (λ (l : List Made). length l) (flat_map-append (made_by (weight_for h.scripts)) h.confirmed (confirmed_in b)) in
    let s = length-append (confirmed_made h) (flat_map (made_by (weight_for h.scripts)) (confirmed_in b)) in
    let many = n.many in
    let all : length (confirmed_made (with_block h b)) + length (pending_made (with_block h b)) ≡ length l.coins.entries + length more.coins.entries + left = omega arith in
    fault_rest (with_block h b) (confirmed_fault h b n.kept.sound ∙ sym (λ j. fault_behind (points_in (n.kept.weights_are j) h.confirmed) (points_in (n.kept.weights_are j) (confirmed_in b))) ∙ n.none)
    ∙ ap full_at all

pub block_full : (h : History) (b : ChainBlock) (w : PlainWatched) (ws : List (Vec ℕ Global × ℕ)) (l more : Ledger) (ps : List (OutPoint × Held)) (txids : List (List ℕ)) (count left : ℕ) → IsNext h b w ws l more ps txids count left
    → nat_le (length l.coins.entries + length more.coins.entries + left) 100_000 ≡ false → fault_of (with_block h b) ≡ Some Full
block_full h b w ws l more ps txids count left n over =
    block_total h b w ws l more ps txids count left n
    ∙ no_room_for (length l.coins.entries + length more.coins.entries + left) (leb-false (length l.coins.entries + length more.coins.entries + left) 100_000 over)

pub block_sound : (h : History) (b : ChainBlock) (w : PlainWatched) (ws : List (Vec ℕ Global × ℕ)) (l more : Ledger) (ps : List (OutPoint × Held)) (txids : List (List ℕ)) (count left : ℕ) → IsNext h b w ws l more ps txids count left
    → nat_le (length l.coins.entries + length more.coins.entries + left) 100_000 ≡ true → fault_of (with_block h b) ≡ None
block_sound h b w ws l more ps txids count left n within =
    block_total h b w ws l more ps txids count left n
    ∙ room_for (length l.coins.entries + length more.coins.entries + left) (leb-true (length l.coins.entries + length more.coins.entries + left) 100_000 within)

-- ---- the book with it

-- what the ledger became
pub record Joins (l more new : Ledger) : Type 0 where
  pub coins : new.coins.entries ≡ insert_all same_outpoint l.coins.entries more.coins.entries
  pub heights : new.heights.entries ≡ insert_all bytes_eq l.heights.entries more.heights.entries
  pub spends : (o : OutPoint) → spends_in new.spends o ≡ spends_in l.spends o ++ spends_in more.spends o
  pub heights_apart : IsDistinct bytes_eq (keys_of more.heights.entries)

pub block_kept : (h g : History) (b : ChainBlock) (w : PlainWatched) (ws : List (Vec ℕ Global × ℕ)) (l more new : Ledger) (ps rest : List (OutPoint × Held)) (txids : List (List ℕ)) (count left total : ℕ) → IsNext h b w ws l more ps txids count left → Joins l more new
    → nat_le (length l.coins.entries + length more.coins.entries + left) 100_000 ≡ true → rest ≡ cond (nat_lt left (length ps)) (staying new.heights.entries ps) ps → total ≡ count + length b.txs → with_block h b ≡ g → IsLedger g w ws new rest txids total
block_kept h g b w ws l more new ps rest txids count left total n j within settle sum same =
    let weights = n.kept.weights_are in
    let chain = chain_joined w (weight_for h.scripts) h.confirmed (confirmed_in b) l more new n.kept.chain (subst (λ (f : List ℕ → Option ℕ). HoldsChain w f h.confirmed (confirmed_in b) more) weights n.holds)
    (sym (λ i. fault_behind (points_in (weights i) h.confirmed) (points_in (weights i) (confirmed_in b))) ∙ n.none) j.heights_apart j.coins j.heights j.spends in
    let a = n.kept.count_is in
    let m = length-map b.txs (confirmed_at b.height) in
    let c = length-append h.confirmed (confirmed_in b) in
    subst (λ (g : History). IsLedger g w ws new rest txids total) same
    (record {
      weights_are = weights;
      chain = chain;
      waiting = settled h b w (weigher ws) more ps rest new.heights.entries left n.kept.watched n.holds n.kept.waiting (λ t seen. height_at w (weight_for h.scripts) (h.confirmed ++ confirmed_in b) new t chain seen) n.many settle;
      watched = n.kept.watched;
      txids_are = n.kept.txids_are;
      count_is = omega arith;
      sound = block_sound h b w ws l more ps txids count left n within;
    })

-- a ledger that tells the same serves as well
pub block_back : (h : History) (w : PlainWatched) (ws : List (Vec ℕ Global × ℕ)) (l new : Ledger) (ps : List (OutPoint × Held)) (txids : List (List ℕ)) (count : ℕ) → IsLedger h w ws l ps txids count
    → new.coins.entries ≡ l.coins.entries → new.heights.entries ≡ l.heights.entries → ((o : OutPoint) → spends_in new.spends o ≡ spends_in l.spends o) → IsLedger h w ws new ps txids count
block_back h w ws l new ps txids count k coins heights spends = record {
  weights_are = k.weights_are;
  chain = chain_same w (weight_for h.scripts) h.confirmed l new k.chain coins heights spends;
  waiting = k.waiting;
  watched = k.watched;
  txids_are = k.txids_are;
  count_is = k.count_is;
  sound = k.sound;
}

pub one_block : (w : PlainWallet) (waiting : List (Snapshot Transaction)) (old all new : List (Snapshot ChainBlock)) (s : Snapshot ChainBlock) (b : ChainBlock) → s.value ≡ b → all ≡ old → new ≡ all ++ s ∷ [] → with_block (history_of w old waiting) b ≡ history_of w new waiting
one_block w waiting old all new s b is same put =
    let f : Snapshot ChainBlock → List Confirmed = λ s. confirmed_in s.value in
    let front = map confirmed_before w.earlier in
    let tail : front ++ flat_map f new ≡ (front ++ flat_map f old) ++ confirmed_in b =
    ap (λ (l : List (Snapshot ChainBlock)). front ++ flat_map f l) (put ∙ ap (λ (l : List (Snapshot ChainBlock)). l ++ s ∷ []) same)
    ∙ ap (λ (l : List Confirmed). front ++ l) (flat_map-append f old (s ∷ []) ∙ ap (λ (l : List Confirmed). flat_map f old ++ l) (append-nil (f s) ∙ ap confirmed_in is))
    ∙ sym (append_assoc front (flat_map f old) (confirmed_in b))
    in
    λ k. record { scripts = w.scripts; confirmed = sym tail k; pending = map (λ (s : Snapshot Transaction). s.value) waiting }
