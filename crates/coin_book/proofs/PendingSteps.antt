-- One transaction more that waits.
use Rattle.std.proofs.Common.{◌≡◌, ◌≢◌, ◌∙◌, ℕ, ◌+◌, ◌<◌, ◌≤◌, Bool, true, false, cond, ◌||◌, List, [], ◌∷◌, ◌++◌, length, map, filter, Option, Some, None, All, Vec, Global, refl, sym, ap, subst, arith}
use Rattle.std.specs.Prelude.{bytes_eq, is_none, is_some, nat_le, nat_lt}
use Rattle.std.specs.declared.snapshot.Snapshot.{Snapshot}
use Rattle.std.specs.List.{flat_map, list_any}
use Rattle.std.specs.Map.{keys_of, lookup}
use Rattle.std.proofs.lemmas.Bool.{leb-false, leb-true, ltb-true}
use Rattle.std.proofs.lemmas.Grind.{flat_map-append}
use Rattle.std.proofs.lemmas.List.{append-nil, length-append, length-map, map-append}
use Rattle.std.proofs.lemmas.List.Elements.{All-head, All-push, All-tail, filter-append}
use Rattle.std.proofs.lemmas.Slice.Eq.{bytes_eq-Decides}
use Rattle.indexmap.specs.IndexMap.{insert_all}
use Rattle.indexmap.specs.IndexSet.{insert_key}
use Rattle.fund_base.specs.Outpoints.{same_outpoint}
use Rattle.fund_base.specs.declared.outpoint.OutPoint.{OutPoint}
use Rattle.tx_codec.specs.Transaction.{Transaction}
use Rattle.tx_codec.specs.Txid.{txid_of}
use Rattle.coin_book.specs.Coins.{Made, confirmed_made, is_open, made_in, pending_made, weight_for}
use Rattle.coin_book.specs.Faults.{fault_behind, fault_of, full_at, points}
use Rattle.coin_book.specs.History.{History, with_pending}
use Rattle.coin_book.specs.Invariant.{HoldsCoins, IsLedger, made_at, made_waiting, weigher}
use Rattle.coin_book.specs.Spends.{height_of}
use Rattle.coin_book.specs.Watched.{IsWatched, PlainWatched}
use Rattle.coin_book.specs.declared.fault.BookFault.{BookFault}
use Rattle.coin_book.specs.declared.fault.BookFault.TheVariants.{Full}
use Rattle.coin_book.specs.declared.held.Held.{Held}
use Rattle.coin_book.specs.declared.ledger.Ledger.{Ledger}
use Rattle.coin_book.proofs.FaultSteps.{fault_rest, held_count, no_room_for, room_for, sound_confirmed, sound_count}
use Rattle.coin_book.proofs.MapSteps.{key_count}
use Rattle.coin_book.proofs.MergeSteps.{coins_behind}
use Rattle.coin_book.proofs.WaitSteps.{free_of, own_fault, place_of}
use Rattle.coin_book.proofs.WatchSteps.{height_at}

-- ---- its coins

abbrev own : List (Vec ℕ Global × ℕ) → Ledger → Transaction → List Made
own ws l t = made_waiting (weigher ws) l.heights.entries t

one_open : (f : Transaction → List Made) (t : Transaction) (o : Option ℕ) → flat_map f (cond (is_none o) (t ∷ []) []) ≡ cond (is_some o) [] (f t)
one_open f t None = append-nil (f t)
one_open f t (Some x) = refl

pending_more : (h : History) (w : PlainWatched) (ws : List (Vec ℕ Global × ℕ)) (l : Ledger) (ps : List (OutPoint × Held)) (txids : List (List ℕ)) (count : ℕ) (t : Transaction) → IsLedger h w ws l ps txids count → IsWatched w t
    → pending_made (with_pending h t) ≡ pending_made h ++ own ws l t
pending_more h w ws l ps txids count t k seen =
    let f = made_in (weight_for h.scripts) None in
    let live = is_open h.confirmed in
    ap (flat_map f) (filter-append live h.pending (t ∷ []))
    ∙ flat_map-append f (filter live h.pending) (filter live (t ∷ []))
    ∙ ap (λ (m : List Made). pending_made h ++ m)
    (one_open f t (height_of h.confirmed (txid_of t))
    ∙ (λ j. cond (is_some (height_at w (weight_for h.scripts) h.confirmed l (txid_of t) k.chain seen.txid j)) [] (made_in (sym k.weights_are j) None t)))

-- ---- its fault

free_beside : (h : History) (w : PlainWatched) (ws : List (Vec ℕ Global × ℕ)) (l : Ledger) (ps : List (OutPoint × Held)) (txids : List (List ℕ)) (count : ℕ) (t : Transaction) → IsLedger h w ws l ps txids count
    → All (λ (p : Transaction). txid_of p ≢ txid_of t) h.pending → (n : ℕ) → list_any (same_outpoint (place_of (txid_of t) n)) (keys_of ps) ≡ false
free_beside h w ws l ps txids count t k fresh n =
    ap (list_any (same_outpoint (place_of (txid_of t) n))) k.waiting.keys_are ∙ free_of (weight_for h.scripts) (is_open h.confirmed) h.pending (txid_of t) n fresh

few_waiting : (h : History) (w : PlainWatched) (ws : List (Vec ℕ Global × ℕ)) (l : Ledger) (ps : List (OutPoint × Held)) (txids : List (List ℕ)) (count : ℕ) → IsLedger h w ws l ps txids count → length l.coins.entries + length ps ≤ 100_000
few_waiting h w ws l ps txids count k =
    let n = sound_count h k.sound in
    let a = held_count (confirmed_made h) l.coins.entries k.chain.coins in
    let b = held_count (pending_made h) ps k.waiting in
    omega arith

point_count : (m : List Made) → length (points m) ≡ length m
point_count m = length-map m (λ (m : Made). m.coin.coin)

own_told : (h : History) (w : PlainWatched) (ws : List (Vec ℕ Global × ℕ)) (l : Ledger) (ps : List (OutPoint × Held)) (txids : List (List ℕ)) (count : ℕ) (t : Transaction) → IsLedger h w ws l ps txids count
    → All (λ (p : Transaction). txid_of p ≢ txid_of t) h.pending → fault_behind (keys_of ps) (points (own ws l t)) ≡ full_at (length ps + length (own ws l t))
unfolding fault_behind
own_told h w ws l ps txids count t k fresh = by (is_some (lookup (bytes_eq (txid_of t)) l.heights.entries))
  where
    le : length (keys_of ps) ≤ 100_000
    le = let n = few_waiting h w ws l ps txids count k in let m = key_count ps in omega arith

    by : (b : Bool) → fault_behind (keys_of ps) (points (cond b [] (made_in (weigher ws) None t))) ≡ full_at (length ps + length (cond b [] (made_in (weigher ws) None t)))
    by true = let m = key_count ps in let n = le in sym (room_for (length ps + 0) (omega arith))
    by false =
        own_fault (weigher ws) None t (keys_of ps) (free_beside h w ws l ps txids count t k fresh) le
        ∙ (λ j. full_at (key_count ps j + point_count (made_in (weigher ws) None t) j))

-- with its coins the history has no fault but their number
total_told : (h : History) (w : PlainWatched) (ws : List (Vec ℕ Global × ℕ)) (l : Ledger) (ps : List (OutPoint × Held)) (txids : List (List ℕ)) (count : ℕ) (t : Transaction) → IsLedger h w ws l ps txids count → IsWatched w t
    → fault_of (with_pending h t) ≡ full_at (length l.coins.entries + length ps + length (own ws l t))
total_told h w ws l ps txids count t k seen =
    let a = held_count (confirmed_made h) l.coins.entries k.chain.coins in
    let b = held_count (pending_made h) ps k.waiting in
    let more = length-append (pending_made h) (own ws l t) in
    let all : length (confirmed_made h) + length (pending_made h ++ own ws l t) ≡ length l.coins.entries + length ps + length (own ws l t) = omega arith in
    fault_rest (with_pending h t) (sound_confirmed h k.sound)
    ∙ ap (λ (m : List Made). full_at (length (confirmed_made h) + length m)) (pending_more h w ws l ps txids count t k seen)
    ∙ ap full_at all

pub full_only : (n : ℕ) (e : BookFault) → full_at n ≡ Some e → (e ≡ Full) × (100_000 < n)
full_only n e is = by (nat_lt 100_000 n) refl is
  where
    by : (b : Bool) → nat_lt 100_000 n ≡ b → cond b (Some Full) None ≡ Some e → (e ≡ Full) × (100_000 < n)
    by true at is = (cc, ltb-true 100_000 n at)
    by false at is = absurd cc

pub pending_fault : (h : History) (w : PlainWatched) (ws : List (Vec ℕ Global × ℕ)) (l : Ledger) (ps : List (OutPoint × Held)) (txids : List (List ℕ)) (count : ℕ) (t : Transaction) (e : BookFault) → IsLedger h w ws l ps txids count → IsWatched w t
    → All (λ (p : Transaction). txid_of p ≢ txid_of t) h.pending → fault_behind (keys_of ps) (points (made_waiting (weigher ws) l.heights.entries t)) ≡ Some e → (e ≡ Full) × (fault_of (with_pending h t) ≡ Some e)
pending_fault h w ws l ps txids count t e k seen fresh is =
    let f = full_only (length ps + length (own ws l t)) e (sym (own_told h w ws l ps txids count t k fresh) ∙ is) in
    let lt = f.1 in
    (f.0, total_told h w ws l ps txids count t k seen ∙ no_room_for (length l.coins.entries + length ps + length (own ws l t)) (omega arith) ∙ ap Some (sym f.0))

pub pending_full : (h : History) (w : PlainWatched) (ws : List (Vec ℕ Global × ℕ)) (l : Ledger) (ps : List (OutPoint × Held)) (txids : List (List ℕ)) (count : ℕ) (t : Transaction) (more : ℕ) → IsLedger h w ws l ps txids count → IsWatched w t
    → more ≡ length (made_waiting (weigher ws) l.heights.entries t) → nat_le (length l.coins.entries + length ps + more) 100_000 ≡ false → fault_of (with_pending h t) ≡ Some Full
pending_full h w ws l ps txids count t more k seen is over =
    let lt = leb-false (length l.coins.entries + length ps + more) 100_000 over in
    total_told h w ws l ps txids count t k seen ∙ no_room_for (length l.coins.entries + length ps + length (own ws l t)) (omega arith)

pub pending_sound : (h : History) (w : PlainWatched) (ws : List (Vec ℕ Global × ℕ)) (l : Ledger) (ps : List (OutPoint × Held)) (txids : List (List ℕ)) (count : ℕ) (t : Transaction) (more : ℕ) → IsLedger h w ws l ps txids count → IsWatched w t
    → more ≡ length (made_waiting (weigher ws) l.heights.entries t) → nat_le (length l.coins.entries + length ps + more) 100_000 ≡ true → fault_of (with_pending h t) ≡ None
pending_sound h w ws l ps txids count t more k seen is within =
    let le = leb-true (length l.coins.entries + length ps + more) 100_000 within in
    total_told h w ws l ps txids count t k seen ∙ room_for (length l.coins.entries + length ps + length (own ws l t)) (omega arith)

-- where there is room for so many coins as it has
pub pending_fits : (h g : History) (w : PlainWatched) (ws : List (Vec ℕ Global × ℕ)) (l : Ledger) (ps : List (OutPoint × Held)) (txids : List (List ℕ)) (count : ℕ) (t : Transaction) (more a b : ℕ) (room : Bool) → h ≡ g → IsLedger h w ws l ps txids count → IsWatched w t
    → more ≡ length (made_waiting (weigher ws) l.heights.entries t) → a ≡ length l.coins.entries → b ≡ length ps → room ≡ nat_le (a + b + more) 100_000 → room ≡ true → fault_of (with_pending g t) ≡ None
pending_fits h g w ws l ps txids count t more a b room same k seen is confirmed waiting told fits =
    sym (ap (λ (h : History). fault_of (with_pending h t)) same)
    ∙ pending_sound h w ws l ps txids count t more k seen is ((λ j. nat_le (sym confirmed j + sym waiting j + more) 100_000) ∙ sym told ∙ fits)

-- ---- the book with it

not_listed : (id : List ℕ) (ts : List Transaction) → All (λ (p : Transaction). txid_of p ≢ id) ts → list_any (bytes_eq id) (map txid_of ts) ≡ false
not_listed id [] fresh = refl
not_listed id (t ∷ ts) fresh = by (bytes_eq id (txid_of t)) refl (not_listed id ts (All-tail (λ (p : Transaction). txid_of p ≢ id) t ts fresh))
  where
    by : (b : Bool) → bytes_eq id (txid_of t) ≡ b → list_any (bytes_eq id) (map txid_of ts) ≡ false → (b || list_any (bytes_eq id) (map txid_of ts)) ≡ false
    by true e rest = absurd (All-head (λ (p : Transaction). txid_of p ≢ id) t ts fresh (sym ((bytes_eq-Decides id (txid_of t)).0 e)))
    by false e rest = rest

pub both_hold : (a b : List Made) (es xs new : List (OutPoint × Held)) → HoldsCoins a es → HoldsCoins b xs → new ≡ es ++ xs → HoldsCoins (a ++ b) new
both_hold a b es xs new p q is = record {
  made_is = ap (map made_at) is ∙ map-append made_at es xs ∙ (λ j. p.made_is j ++ q.made_is j);
  keys_are = ap (λ (l : List (OutPoint × Held)). keys_of l) is ∙ map-append (λ (e : OutPoint × Held). e.0) es xs ∙ (λ j. p.keys_are j ++ q.keys_are j) ∙ sym (map-append (λ (m : Made). m.coin.coin) a b);
}

pub pending_kept : (h g : History) (w : PlainWatched) (ws : List (Vec ℕ Global × ℕ)) (l : Ledger) (ps es new : List (OutPoint × Held)) (txids listed : List (List ℕ)) (count : ℕ) (t : Transaction) (more : ℕ) → IsLedger h w ws l ps txids count → IsWatched w t
    → All (λ (p : Transaction). txid_of p ≢ txid_of t) h.pending → HoldsCoins (made_waiting (weigher ws) l.heights.entries t) es → more ≡ length (made_waiting (weigher ws) l.heights.entries t) → nat_le (length l.coins.entries + length ps + more) 100_000 ≡ true
    → fault_behind (keys_of ps) (points (made_waiting (weigher ws) l.heights.entries t)) ≡ None → new ≡ insert_all same_outpoint ps es → listed ≡ insert_key bytes_eq txids (txid_of t) → with_pending h t ≡ g → IsLedger g w ws l new listed count
pending_kept h g w ws l ps es new txids listed count t more k seen fresh holds is within none put told same =
    subst (λ (g : History). IsLedger g w ws l new listed count) same
    (record {
      weights_are = k.weights_are;
      chain = k.chain;
      waiting = subst (λ (m : List Made). HoldsCoins m new) (sym (pending_more h w ws l ps txids count t k seen))
          (both_hold (pending_made h) (own ws l t) ps es new k.waiting holds (put ∙ coins_behind ps es (ap (fault_behind (keys_of ps)) holds.keys_are ∙ none)));
      watched = All-push (IsWatched w) h.pending t k.watched seen;
      txids_are = told
          ∙ ap (λ (b : Bool). cond b txids (txids ++ txid_of t ∷ [])) (ap (list_any (bytes_eq (txid_of t))) k.txids_are ∙ not_listed (txid_of t) h.pending fresh)
          ∙ ap (λ (ids : List (List ℕ)). ids ++ txid_of t ∷ []) k.txids_are ∙ sym (map-append txid_of h.pending (t ∷ []));
      count_is = k.count_is;
      sound = pending_sound h w ws l ps txids count t more k seen is within;
    })

-- the transactions that wait, and one more
pub waiting_more : (t : Transaction) (old all new : List (Snapshot Transaction)) (s : Snapshot Transaction) → s.value ≡ t → all ≡ old → new ≡ all ++ s ∷ [] → map (λ (s : Snapshot Transaction). s.value) new ≡ map (λ (s : Snapshot Transaction). s.value) old ++ t ∷ []
waiting_more t old all new s is same put =
    ap (map (λ (s : Snapshot Transaction). s.value)) (put ∙ ap (λ (l : List (Snapshot Transaction)). l ++ s ∷ []) same)
    ∙ map-append (λ (s : Snapshot Transaction). s.value) old (s ∷ [])
    ∙ (λ k. map (λ (s : Snapshot Transaction). s.value) old ++ is k ∷ [])

pub one_waiting : (h : History) (t : Transaction) (old new : List (Snapshot Transaction)) → map (λ (s : Snapshot Transaction). s.value) old ≡ h.pending → map (λ (s : Snapshot Transaction). s.value) new ≡ map (λ (s : Snapshot Transaction). s.value) old ++ t ∷ []
    → with_pending h t ≡ record { scripts = h.scripts; confirmed = h.confirmed; pending = map (λ (s : Snapshot Transaction). s.value) new }
one_waiting h t old new was more = λ k. record { scripts = h.scripts; confirmed = h.confirmed; pending = sym (more ∙ (λ j. was j ++ t ∷ [])) k }
