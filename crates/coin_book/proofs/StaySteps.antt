-- Coins that wait on, and those that move to a block.
use Rattle.std.proofs.Common.{◌≡◌, ◌∙◌, ℕ, zero, suc, ◌≤◌, Bool, true, false, cond, ◌||◌, List, [], ◌∷◌, ◌++◌, length, map, filter, Option, Some, None, All, refl, sym, ap, subst, arith, slice_get, true≢false}
use Rattle.std.specs.Prelude.{bytes_eq, is_none, is_some, nat_le, nat_lt, option_and_then, option_map}
use Rattle.std.specs.List.{flat_map, list_any}
use Rattle.std.specs.Map.{keys_of, lookup}
use Rattle.std.specs.Option.{option_or, option_to_list}
use Rattle.std.proofs.lemmas.Bool.{ltb-false}
use Rattle.std.proofs.lemmas.List.Elements.{All-head, All-tail, filter-append}
use Rattle.std.proofs.lemmas.Map.Made.{is_some-lookup}
use Rattle.std.proofs.lemmas.Slice.Eq.{bytes_eq-Decides}
use Rattle.coin_book.proofs.WeightSteps.{or_none}
use Rattle.fund_base.proofs.Lists.{filter_le}
use Rattle.fund_base.specs.declared.outpoint.OutPoint.{OutPoint}
use Rattle.tx_codec.specs.Transaction.{Transaction}
use Rattle.tx_codec.specs.Txid.{txid_of}
use Rattle.tx_codec.specs.declared.tx.TxOut.{TxOut}
use Rattle.block_feed.specs.Block.{ChainBlock}
use Rattle.coin_book.specs.Coinbase.{is_coinbase_of}
use Rattle.coin_book.specs.Coins.{Made, coin_at, coin_of, coins_below, is_open, made_in, pending_made, weight_for}
use Rattle.coin_book.specs.Faults.{points}
use Rattle.coin_book.specs.History.{History, confirmed_in, with_block}
use Rattle.coin_book.specs.Invariant.{HoldsChain, HoldsCoins, made_at}
use Rattle.coin_book.specs.Spends.{height_of}
use Rattle.coin_book.specs.Watched.{IsWatched, PlainWatched, watches_txid}
use Rattle.coin_book.specs.Merging.{shares, staying, stays}
use Rattle.coin_book.specs.declared.held.Held.{Held}
use Rattle.coin_book.specs.declared.ledger.Ledger.{Ledger}
use Rattle.coin_book.proofs.FaultSteps.{held_count}
use Rattle.coin_book.proofs.WatchSteps.{height_behind, watched_txid}

abbrev Entries : Type 0
Entries = List (OutPoint × Held)

-- the coins that a test of their txid passes
abbrev passed : (List ℕ → Bool) → List Made → List Made
passed g made = filter (λ (m : Made). g m.coin.coin.txid) made

abbrev kept : (List ℕ → Bool) → List (OutPoint × Held) → List (OutPoint × Held)
kept g es = filter (λ (e : OutPoint × Held). g e.0.txid) es

-- ---- the coins of one transaction pass together

abbrev no_coins : List Made
no_coins = []

nothing : (b : Bool) → no_coins ≡ cond b no_coins []
nothing true = refl
nothing false = refl

together : (b : Bool) (xs ys : List Made) → cond b xs [] ++ cond b ys [] ≡ cond b (xs ++ ys) []
together true xs ys = refl
together false xs ys = refl

of_passed : (g : List ℕ → Bool) (weigh : List ℕ → Option ℕ) (height : Option ℕ) (t : Transaction) (index : ℕ) (output : TxOut)
    → passed g (option_to_list (coin_of weigh height t index output)) ≡ cond (g (txid_of t)) (option_to_list (coin_of weigh height t index output)) []
unfolding coin_of
of_passed g weigh height t index output = by (weigh output.script)
  where
    made : ℕ → Made
    made weight = record { coin = record { coin = record { txid = txid_of t; index = index }; value = output.value; script = output.script; weight = weight; height = height; coinbase = is_coinbase_of t }; maker = t }

    by : (w : Option ℕ) → passed g (option_to_list (option_map made w)) ≡ cond (g (txid_of t)) (option_to_list (option_map made w)) []
    by None = nothing (g (txid_of t))
    by (Some weight) = refl

at_passed : (g : List ℕ → Bool) (weigh : List ℕ → Option ℕ) (height : Option ℕ) (t : Transaction) (index : ℕ)
    → passed g (option_to_list (coin_at weigh height t index)) ≡ cond (g (txid_of t)) (option_to_list (coin_at weigh height t index)) []
unfolding coin_at
at_passed g weigh height t index = by (nat_le index 4294967295)
  where
    by_output : (o : Option TxOut) → passed g (option_to_list (option_and_then (coin_of weigh height t index) o)) ≡ cond (g (txid_of t)) (option_to_list (option_and_then (coin_of weigh height t index) o)) []
    by_output None = nothing (g (txid_of t))
    by_output (Some output) = of_passed g weigh height t index output

    by : (b : Bool) → passed g (option_to_list (cond b (option_and_then (coin_of weigh height t index) (slice_get t.outputs index)) None)) ≡ cond (g (txid_of t)) (option_to_list (cond b (option_and_then (coin_of weigh height t index) (slice_get t.outputs index)) None)) []
    by false = nothing (g (txid_of t))
    by true = by_output (slice_get t.outputs index)

below_passed : (g : List ℕ → Bool) (weigh : List ℕ → Option ℕ) (height : Option ℕ) (t : Transaction) (n : ℕ)
    → passed g (coins_below (coin_at weigh height t) n) ≡ cond (g (txid_of t)) (coins_below (coin_at weigh height t) n) []
unfolding coins_below
below_passed g weigh height t zero = nothing (g (txid_of t))
below_passed g weigh height t (suc n) =
    let front = coins_below (coin_at weigh height t) n in
    let last = option_to_list (coin_at weigh height t n) in
    filter-append (λ (m : Made). g m.coin.coin.txid) front last
    ∙ (λ k. below_passed g weigh height t n k ++ at_passed g weigh height t n k)
    ∙ together (g (txid_of t)) front last

own_passed : (g : List ℕ → Bool) (weigh : List ℕ → Option ℕ) (t : Transaction) → passed g (made_in weigh None t) ≡ cond (g (txid_of t)) (made_in weigh None t) []
unfolding made_in
own_passed g weigh t = below_passed g weigh None t (length t.outputs)

all_passed : (g : List ℕ → Bool) (weigh : List ℕ → Option ℕ) (ts : List Transaction) → passed g (flat_map (made_in weigh None) ts) ≡ flat_map (made_in weigh None) (filter (λ (t : Transaction). g (txid_of t)) ts)
all_passed g weigh [] = refl
all_passed g weigh (t ∷ ts) =
    filter-append (λ (m : Made). g m.coin.coin.txid) (made_in weigh None t) (flat_map (made_in weigh None) ts)
    ∙ (λ k. own_passed g weigh t k ++ all_passed g weigh ts k)
    ∙ by (g (txid_of t))
  where
    rest : List Transaction
    rest = filter (λ (t : Transaction). g (txid_of t)) ts

    by : (b : Bool) → cond b (made_in weigh None t) [] ++ flat_map (made_in weigh None) rest ≡ flat_map (made_in weigh None) (cond b (t ∷ rest) rest)
    by true = refl
    by false = refl

-- ---- tests one after the other

twice : (p q r : Transaction → Bool) (W : Transaction → Type 0) → ((t : Transaction) → W t → q t ≡ true → p t ≡ r t) → ((t : Transaction) → W t → q t ≡ false → r t ≡ false) → (ts : List Transaction) → All W ts → filter p (filter q ts) ≡ filter r ts
twice p q r W both less [] all = refl
twice p q r W both less (t ∷ ts) all = by (q t) refl (twice p q r W both less ts (All-tail W t ts all))
  where
    by : (b : Bool) → q t ≡ b → filter p (filter q ts) ≡ filter r ts → filter p (cond b (t ∷ filter q ts) (filter q ts)) ≡ cond (r t) (t ∷ filter r ts) (filter r ts)
    by true e rest = (λ k. cond (both t (All-head W t ts all) e k) (t ∷ rest k) (rest k))
    by false e rest = rest ∙ sym (ap (λ (b : Bool). cond b (t ∷ filter r ts) (filter r ts)) (less t (All-head W t ts all) e))

-- ---- entries

pub same_head : (a b : OutPoint) (xs ys : List OutPoint) → a ∷ xs ≡ b ∷ ys → (a ≡ b) × (xs ≡ ys)
same_head a b xs ys e = (cc, cc)

stay_made : (g : List ℕ → Bool) (es : List (OutPoint × Held)) → keys_of es ≡ points (map made_at es) → map made_at (kept g es) ≡ passed g (map made_at es)
stay_made g [] keys = refl
stay_made g (e ∷ es) keys =
    let k = same_head e.0 e.1.coin.coin (keys_of es) (points (map made_at es)) keys in
    ap (λ (o : OutPoint). map made_at (cond (g o.txid) (e ∷ kept g es) (kept g es))) k.0 ∙ by (g e.1.coin.coin.txid) (stay_made g es k.1)
  where
    by : (b : Bool) → map made_at (kept g es) ≡ passed g (map made_at es) → map made_at (cond b (e ∷ kept g es) (kept g es)) ≡ cond b (made_at e ∷ passed g (map made_at es)) (passed g (map made_at es))
    by true rest = ap (λ (l : List Made). made_at e ∷ l) rest
    by false rest = rest

stay_keys : (g : List ℕ → Bool) (es : List (OutPoint × Held)) → keys_of es ≡ points (map made_at es) → keys_of (kept g es) ≡ points (map made_at (kept g es))
stay_keys g [] keys = refl
stay_keys g (e ∷ es) keys =
    let k = same_head e.0 e.1.coin.coin (keys_of es) (points (map made_at es)) keys in
    by (g e.0.txid) k.0 (stay_keys g es k.1)
  where
    by : (b : Bool) → e.0 ≡ e.1.coin.coin → keys_of (kept g es) ≡ points (map made_at (kept g es)) → keys_of (cond b (e ∷ kept g es) (kept g es)) ≡ points (map made_at (cond b (e ∷ kept g es) (kept g es)))
    by true at rest = λ j. at j ∷ rest j
    by false at rest = rest

stay_holds : (g : List ℕ → Bool) (made : List Made) (es : List (OutPoint × Held)) → HoldsCoins made es → HoldsCoins (passed g made) (kept g es)
stay_holds g made es h =
    let keys = h.keys_are ∙ ap points (sym h.made_is) in
    let is = stay_made g es keys ∙ ap (passed g) h.made_is in
    record { made_is = is; keys_are = stay_keys g es keys ∙ ap points is }

-- ---- after a block

either : (a b : Option ℕ) → is_none a ≡ false → is_none (option_or a b) ≡ false
either None b e = absurd (true≢false e)
either (Some x) b e = refl

second : (a b : Option ℕ) → is_none a ≡ true → is_none (option_or a b) ≡ is_none b
second None b e = refl
second (Some x) b e = absurd (true≢false (sym e))

-- The coins of a test that agrees, on the txids that were open, with what is open after the block.
pub stay_kept : (h : History) (b : ChainBlock) (w : PlainWatched) (weigh : List ℕ → Option ℕ) (more : Ledger) (es : List (OutPoint × Held)) (g : List ℕ → Bool) → All (IsWatched w) h.pending → HoldsChain w weigh h.confirmed (confirmed_in b) more
    → ((t : Transaction) → IsWatched w t → is_open h.confirmed t ≡ true → g (txid_of t) ≡ is_open (h.confirmed ++ confirmed_in b) t) → HoldsCoins (pending_made h) es → HoldsCoins (pending_made (with_block h b)) (kept g es)
stay_kept h b w weigh more es g all holds agrees waits =
    let f = made_in (weight_for h.scripts) None in
    subst (λ (m : List Made). HoldsCoins m (kept g es))
    (all_passed g (weight_for h.scripts) (filter (is_open h.confirmed) h.pending)
    ∙ ap (flat_map f) (twice (λ (t : Transaction). g (txid_of t)) (is_open h.confirmed) (is_open (h.confirmed ++ confirmed_in b)) (IsWatched w) agrees
    (λ t seen e. ap (λ (o : Option ℕ). is_none o) (height_behind w weigh h.confirmed (confirmed_in b) more (txid_of t) holds seen.txid) ∙ either (height_of h.confirmed (txid_of t)) (lookup (bytes_eq (txid_of t)) more.heights.entries) e) h.pending all))
    (stay_holds g (pending_made h) es waits)

-- the block's own heights agree
block_agrees : (h : History) (b : ChainBlock) (w : PlainWatched) (weigh : List ℕ → Option ℕ) (more : Ledger) → HoldsChain w weigh h.confirmed (confirmed_in b) more
    → (t : Transaction) → IsWatched w t → is_open h.confirmed t ≡ true → is_none (lookup (bytes_eq (txid_of t)) more.heights.entries) ≡ is_open (h.confirmed ++ confirmed_in b) t
block_agrees h b w weigh more holds t seen e =
    sym (ap (λ (o : Option ℕ). is_none o) (height_behind w weigh h.confirmed (confirmed_in b) more (txid_of t) holds seen.txid) ∙ second (height_of h.confirmed (txid_of t)) (lookup (bytes_eq (txid_of t)) more.heights.entries) e)

-- ---- how many stay

key_filter : (p : OutPoint → Bool) (es : List (OutPoint × Held)) → length (filter p (keys_of es)) ≡ length (filter (λ (e : OutPoint × Held). p e.0) es)
key_filter p [] = refl
key_filter p (e ∷ es) = by (p e.0) (key_filter p es)
  where
    by : (b : Bool) → length (filter p (keys_of es)) ≡ length (filter (λ (e : OutPoint × Held). p e.0) es)
        → length (cond b (e.0 ∷ filter p (keys_of es)) (filter p (keys_of es))) ≡ length (cond b (e ∷ filter (λ (e : OutPoint × Held). p e.0) es) (filter (λ (e : OutPoint × Held). p e.0) es))
    by true rest = ap suc rest
    by false rest = rest

not_among : (x : List ℕ) (txids ks : List (List ℕ)) → list_any (λ (k : List ℕ). list_any (bytes_eq k) txids) ks ≡ false → list_any (bytes_eq x) txids ≡ true → list_any (bytes_eq x) ks ≡ false
not_among x txids [] free is = refl
not_among x txids (k ∷ ks) free is =
    by (list_any (bytes_eq k) txids) (bytes_eq x k) refl refl free (λ rest. not_among x txids ks rest is)
  where
    by : (a b : Bool) → list_any (bytes_eq k) txids ≡ a → bytes_eq x k ≡ b → (a || list_any (λ (k : List ℕ). list_any (bytes_eq k) txids) ks) ≡ false
        → (list_any (λ (k : List ℕ). list_any (bytes_eq k) txids) ks ≡ false → list_any (bytes_eq x) ks ≡ false) → (b || list_any (bytes_eq x) ks) ≡ false
    by true b there here free rest = absurd (true≢false free)
    by false false there here free rest = rest free
    by false true there here free rest = absurd (true≢false (sym is ∙ ap (λ (y : List ℕ). list_any (bytes_eq y) txids) ((bytes_eq-Decides x k).0 here) ∙ there))

agree_in : (p q : Transaction → Bool) (ts : List Transaction) → ((t : Transaction) → list_any (bytes_eq (txid_of t)) (map txid_of ts) ≡ true → p t ≡ q t) → filter p ts ≡ filter q ts
agree_in p q [] same = refl
agree_in p q (t ∷ ts) same =
    λ j. cond (same t (ap (λ (b : Bool). b || list_any (bytes_eq (txid_of t)) (map txid_of ts)) ((bytes_eq-Decides (txid_of t) (txid_of t)).1 refl)) j)
    (t ∷ agree_in p q ts (λ x is. same x (or_right (bytes_eq (txid_of x) (txid_of t)) (list_any (bytes_eq (txid_of x)) (map txid_of ts)) is)) j)
    (agree_in p q ts (λ x is. same x (or_right (bytes_eq (txid_of x) (txid_of t)) (list_any (bytes_eq (txid_of x)) (map txid_of ts)) is)) j)
  where
    or_right : (a b : Bool) → b ≡ true → (a || b) ≡ true
    or_right true b e = refl
    or_right false b e = e

none_is : (o : Option ℕ) → is_some o ≡ false → o ≡ None
none_is None e = refl
none_is (Some x) e = absurd (true≢false e)

pub left_is : (h : History) (b : ChainBlock) (w : PlainWatched) (weigh : List ℕ → Option ℕ) (more : Ledger) (es : List (OutPoint × Held)) (txids : List (List ℕ)) (left : ℕ) → All (IsWatched w) h.pending → HoldsChain w weigh h.confirmed (confirmed_in b) more → HoldsCoins (pending_made h) es → txids ≡ map txid_of h.pending
    → left ≡ cond (shares txids more.heights.entries) (length (filter (stays more.heights.entries) (keys_of es))) (length es) → left ≡ length (pending_made (with_block h b))
left_is h b w weigh more es txids left all holds waits are is = is ∙ by (shares txids more.heights.entries) refl
  where
    counted : length (filter (stays more.heights.entries) (keys_of es)) ≡ length (pending_made (with_block h b))
    counted =
        key_filter (stays more.heights.entries) es
        ∙ held_count (pending_made (with_block h b)) (staying more.heights.entries es)
        (stay_kept h b w weigh more es (λ x. is_none (lookup (bytes_eq x) more.heights.entries)) all holds (block_agrees h b w weigh more holds) waits)

    open_still : shares txids more.heights.entries ≡ false → (t : Transaction) → list_any (bytes_eq (txid_of t)) (map txid_of h.pending) ≡ true → is_open h.confirmed t ≡ is_open (h.confirmed ++ confirmed_in b) t
    open_still free t is =
        let none = none_is (lookup (bytes_eq (txid_of t)) more.heights.entries)
        (is_some-lookup (bytes_eq (txid_of t)) more.heights.entries ∙ not_among (txid_of t) txids (keys_of more.heights.entries) free (ap (list_any (bytes_eq (txid_of t))) are ∙ is)) in
        sym (ap (λ (o : Option ℕ). is_none o) (height_behind w weigh h.confirmed (confirmed_in b) more (txid_of t) holds (watched_txid w h.pending (txid_of t) all is) ∙ ap (option_or (height_of h.confirmed (txid_of t))) none ∙ or_none (height_of h.confirmed (txid_of t))))

    by : (x : Bool) → shares txids more.heights.entries ≡ x → cond x (length (filter (stays more.heights.entries) (keys_of es))) (length es) ≡ length (pending_made (with_block h b))
    by true e = counted
    by false e =
        held_count (pending_made h) es waits
        ∙ ap (λ (ts : List Transaction). length (flat_map (made_in (weight_for h.scripts) None) ts)) (agree_in (is_open h.confirmed) (is_open (h.confirmed ++ confirmed_in b)) h.pending (open_still e))

-- ---- what is left

filter_full : {X : Type 0} (p : X → Bool) (xs : List X) → length xs ≤ length (filter p xs) → filter p xs ≡ xs
filter_full p [] le = refl
filter_full {X = X} p (x ∷ xs) le = by (p x) (filter_le p xs) (filter_full p xs) le
  where
    by : (b : Bool) → length (filter p xs) ≤ length xs → (length xs ≤ length (filter p xs) → filter p xs ≡ xs) → length (x ∷ xs) ≤ length (cond b (x ∷ filter p xs) (filter p xs)) → cond b (x ∷ filter p xs) (filter p xs) ≡ x ∷ xs
    by true few rest le = ap (λ (l : List X). x ∷ l) (rest (omega arith))
    by false few rest le = absurd (omega arith)

pub settled : (h : History) (b : ChainBlock) (w : PlainWatched) (weigh : List ℕ → Option ℕ) (more : Ledger) (es new : List (OutPoint × Held)) (heights : List (List ℕ × ℕ)) (left : ℕ) → All (IsWatched w) h.pending → HoldsChain w weigh h.confirmed (confirmed_in b) more → HoldsCoins (pending_made h) es
    → ((t : List ℕ) → watches_txid w t ≡ true → height_of (h.confirmed ++ confirmed_in b) t ≡ lookup (bytes_eq t) heights) → left ≡ length (pending_made (with_block h b)) → new ≡ cond (nat_lt left (length es)) (staying heights es) es → HoldsCoins (pending_made (with_block h b)) new
settled h b w weigh more es new heights left all holds waits told many is =
    subst (λ (l : List (OutPoint × Held)). HoldsCoins (pending_made (with_block h b)) l) (sym is) (by (nat_lt left (length es)) refl)
  where
    filtered : HoldsCoins (pending_made (with_block h b)) (staying heights es)
    filtered = stay_kept h b w weigh more es (λ x. is_none (lookup (bytes_eq x) heights)) all holds (λ t seen e. sym (ap (λ (o : Option ℕ). is_none o) (told (txid_of t) seen.txid))) waits

    by : (x : Bool) → nat_lt left (length es) ≡ x → HoldsCoins (pending_made (with_block h b)) (cond x (staying heights es) es)
    by true e = filtered
    by false e =
        let n = held_count (pending_made (with_block h b)) (staying heights es) filtered in
        let le = ltb-false left (length es) e in
        subst (λ (l : List (OutPoint × Held)). HoldsCoins (pending_made (with_block h b)) l) (filter_full (λ (e : OutPoint × Held). stays heights e.0) es (omega arith)) filtered
