-- One confirmed transaction more.
use Rattle.std.proofs.Common.{◌≡◌, ◌∙◌, ℕ, zero, suc, ◌+◌, ◌<◌, ◌≤◌, Bool, true, false, cond, ◌||◌, ◌&&◌, not, List, [], ◌∷◌, ◌++◌, length, map, take, drop, get_or, Option, Some, None, refl, sym, ap, subst, arith, append_assoc, true≢false}
use Rattle.std.specs.Prelude.{is_some, option_map, option_and_then, find, bytes_eq, slice_get}
use Rattle.std.specs.List.{flat_map, list_any}
use Rattle.std.specs.Map.{keys_of, lookup}
use Rattle.std.specs.Option.{option_or, option_to_list}
use Rattle.std.proofs.lemmas.List.{append-nil, length-append, length-map, length-take-le, map-append, take-append-drop, take_more}
use Rattle.std.proofs.lemmas.Grind.{flat_map-append}
use Rattle.std.proofs.lemmas.List.Folds.{find-append, list_any-append}
use Rattle.std.proofs.lemmas.Slice.Eq.{bytes_eq-Decides}
use Rattle.fund_base.specs.declared.outpoint.OutPoint.{OutPoint}
use Rattle.tx_codec.specs.Txid.{txid_of}
use Rattle.coin_book.specs.Coins.{Made, made_by}
use Rattle.coin_book.specs.Faults.{points, fault_behind}
use Rattle.coin_book.specs.History.{Confirmed}
use Rattle.coin_book.specs.Invariant.{HoldsChain, HoldsCoins, held_made, is_known, made_at, points_in}
use Rattle.coin_book.specs.Spends.{has_input, has_spender, height_of, spend_at, spends_below, spends_of}
use Rattle.coin_book.specs.Watched.{PlainWatched, kept_height, kept_spends, watches, watches_txid}
use Rattle.coin_book.specs.Merging.{entry_of, held_point, is_new, is_spender}
use Rattle.coin_book.specs.Places.{spends_in}
use Rattle.coin_book.specs.declared.coin.Spend.{Spend}
use Rattle.coin_book.specs.declared.fault.BookFault.{BookFault}
use Rattle.coin_book.proofs.MapSteps.{fault_among, fault_more}
use Rattle.coin_book.proofs.WatchSteps.{height_held, spends_held}
use Rattle.coin_book.specs.declared.held.Held.{Held}
use Rattle.coin_book.specs.declared.ledger.Ledger.{Ledger}

-- ---- heights

one_height : (b : Bool) (c : Confirmed) → option_map (λ (d : Confirmed). d.height) (cond b (Some c) None) ≡ cond b (Some c.height) None
one_height true c = refl
one_height false c = refl

map_or : (a b : Option Confirmed) → option_map (λ (d : Confirmed). d.height) (option_or a b) ≡ option_or (option_map (λ (d : Confirmed). d.height) a) (option_map (λ (d : Confirmed). d.height) b)
map_or None b = refl
map_or (Some c) b = refl

pub height_push : (chain : List Confirmed) (c : Confirmed) (t : List ℕ) → height_of (chain ++ c ∷ []) t ≡ option_or (height_of chain t) (cond (bytes_eq (txid_of c.tx) t) (Some c.height) None)
unfolding height_of
height_push chain c t =
    let same : Confirmed → Bool = λ d. bytes_eq (txid_of d.tx) t in
    ap (λ (o : Option Confirmed). option_map (λ (d : Confirmed). d.height) o) (find-append same chain (c ∷ []))
    ∙ map_or (find same chain) (cond (same c) (Some c) None)
    ∙ ap (option_or (option_map (λ (d : Confirmed). d.height) (find same chain))) (one_height (same c) c)

no_more : (o : Option ℕ) → option_or o None ≡ o
no_more None = refl
no_more (Some x) = refl

either : (a b : Option ℕ) → is_some (option_or a b) ≡ (is_some a || is_some b)
either None b = refl
either (Some x) b = refl

-- one height more of those that are kept
kept_height_push : (w : PlainWatched) (chain : List Confirmed) (c : Confirmed) (t : List ℕ)
    → kept_height w (chain ++ c ∷ []) t ≡ option_or (kept_height w chain t) (cond (watches_txid w t && bytes_eq (txid_of c.tx) t) (Some c.height) None)
unfolding kept_height
kept_height_push w chain c t = by (watches_txid w t)
  where
    by : (b : Bool) → cond b (height_of (chain ++ c ∷ []) t) None ≡ option_or (cond b (height_of chain t) None) (cond (b && bytes_eq (txid_of c.tx) t) (Some c.height) None)
    by true = height_push chain c t
    by false = refl

-- what is looked up after a height more, which is put where its txid is watched and not known
height_by : (height : ℕ) (h l : Option ℕ) (same seen own known : Bool) → (same ≡ true → seen ≡ own) → (same ≡ true → known ≡ (is_some h || is_some l))
    → option_or (option_or h l) (cond (seen && same) (Some height) None) ≡ option_or h (cond (not own || known) l (cond same (Some height) l))
height_by height h l false seen own known e f = ap (λ (b : Bool). option_or (option_or h l) (cond b (Some height) None)) (none_both seen) ∙ no_more (option_or h l) ∙ ap (option_or h) (sym (all_same (not own || known)))
  where
    none_both : (b : Bool) → (b && false) ≡ false
    none_both true = refl
    none_both false = refl

    all_same : (b : Bool) → cond b l l ≡ l
    all_same true = refl
    all_same false = refl
height_by height h l true seen own known e f = by_own own (e refl)
  where
    by_known : (h l : Option ℕ) (known : Bool) → known ≡ (is_some h || is_some l) → option_or (option_or h l) (Some height) ≡ option_or h (cond known l (Some height))
    by_known (Some x) l known e = refl
    by_known None None true e = absurd (true≢false e)
    by_known None None false e = refl
    by_known None (Some x) true e = refl
    by_known None (Some x) false e = absurd (true≢false (sym e))

    by_own : (own : Bool) → seen ≡ own → option_or (option_or h l) (cond (seen && true) (Some height) None) ≡ option_or h (cond (not own || known) l (Some height))
    by_own true is = ap (λ (b : Bool). option_or (option_or h l) (cond (b && true) (Some height) None)) is ∙ by_known h l known (f refl)
    by_own false is = ap (λ (b : Bool). option_or (option_or h l) (cond (b && true) (Some height) None)) is ∙ no_more (option_or h l)

-- ---- spends

left : {X : Type 0} (xs ys : List X) (n : ℕ) → n < length xs → (slice_get (xs ++ ys) n ≡ slice_get xs n) × (take n (xs ++ ys) ≡ take n xs)
left [] ys n lt = absurd (omega arith)
left (x ∷ xs) ys zero lt = (refl, refl)
left {X = X} (x ∷ xs) ys (suc n) lt = let h = left xs ys n (omega arith) in (h.0, ap (λ (l : List X). x ∷ l) h.1)

seam : {X : Type 0} (xs : List X) (y : X) → (slice_get (xs ++ y ∷ []) (length xs) ≡ Some y) × (take (length xs) (xs ++ y ∷ []) ≡ xs)
seam [] y = (refl, refl)
seam {X = X} (x ∷ xs) y = let h = seam xs y in (h.0, ap (λ (l : List X). x ∷ l) h.1)

abbrev told : ℕ → Confirmed → Spend
told n c = record { txid = txid_of c.tx; height = c.height; place = n }

abbrev by_front : List Confirmed → OutPoint → ℕ → Confirmed → Option Spend
by_front front o place c = cond (has_input o c.tx.inputs && not (has_spender front o (txid_of c.tx))) (Some (told place c)) None

same_below : (chain more : List Confirmed) (o : OutPoint) (n : ℕ) → n ≤ length chain → spends_below (chain ++ more) o n ≡ spends_below chain o n
unfolding spends_below spend_at
same_below chain more o zero le = refl
same_below chain more o (suc n) le =
    let h = left chain more n (omega arith) in
    (λ k. same_below chain more o n (omega arith) k ++ option_to_list (option_and_then (by_front (h.1 k) o n) (h.0 k)))

listed_by : (b : Bool) (s : Spend) → option_to_list (cond b (Some s) None) ≡ cond b (s ∷ []) []
listed_by true s = refl
listed_by false s = refl

spends_push : (chain : List Confirmed) (c : Confirmed) (o : OutPoint)
    → spends_of (chain ++ c ∷ []) o ≡ spends_of chain o ++ cond (has_input o c.tx.inputs && not (has_spender chain o (txid_of c.tx))) (told (length chain) c ∷ []) []
unfolding spends_below spend_at
spends_push chain c o =
    let n : length (chain ++ c ∷ []) ≡ suc (length chain) = omega (arith, length-append chain (c ∷ [])) in
    let h = seam chain c in
    ap (spends_below (chain ++ c ∷ []) o) n
    ∙ (λ k. same_below chain (c ∷ []) o (length chain) (omega arith) k ++ option_to_list (option_and_then (by_front (h.1 k) o (length chain)) (h.0 k)))
    ∙ ap (λ (l : List Spend). spends_of chain o ++ l) (listed_by (has_input o c.tx.inputs && not (has_spender chain o (txid_of c.tx))) (told (length chain) c))

-- what holds of no list, and with one more of each of which it holds, holds of all
from_front : {X : Type 0} (P : List X → Type 0) → ((xs : List X) (x : X) → P xs → P (xs ++ x ∷ [])) → (xs ys : List X) → P xs → P (xs ++ ys)
from_front P next xs [] h = subst P (sym (append-nil xs)) h
from_front P next xs (y ∷ ys) h = subst P (append_assoc xs (y ∷ []) ys) (from_front P next (xs ++ y ∷ []) ys (next xs y h))

-- a spend that is listed tells of one that spends
spender_is : (chain : List Confirmed) (o : OutPoint) (t : List ℕ) → is_spender (spends_of chain o) t ≡ has_spender chain o t
unfolding is_spender has_spender spends_below
spender_is chain o t = from_front (λ (l : List Confirmed). is_spender (spends_of l o) t ≡ has_spender l o t) next [] chain refl
  where
    one : (c : Confirmed) (n : ℕ) (old mine spent same : Bool) → bytes_eq (txid_of c.tx) t ≡ same → (same ≡ true → spent ≡ old)
        → (old || list_any (λ (s : Spend). bytes_eq s.txid t) (cond (mine && not spent) (told n c ∷ []) [])) ≡ (old || ((same && mine) || false))
    one c n old true false true e h = ap (λ (b : Bool). old || (b || false)) e
    one c n old true false false e h = ap (λ (b : Bool). old || (b || false)) e
    one c n old true true true e h = ap (λ (b : Bool). b || false) (sym (h refl)) ∙ ap (λ (b : Bool). b || true) (h refl)
    one c n old true true false e h = refl
    one c n old false spent true e h = refl
    one c n old false spent false e h = refl

    next : (l : List Confirmed) (c : Confirmed) → is_spender (spends_of l o) t ≡ has_spender l o t → is_spender (spends_of (l ++ c ∷ []) o) t ≡ has_spender (l ++ c ∷ []) o t
    next l c h =
        let spent = has_spender l o (txid_of c.tx) in
        ap (λ (s : List Spend). is_spender s t) (spends_push l c o)
        ∙ list_any-append (λ (s : Spend). bytes_eq s.txid t) (spends_of l o) (cond (has_input o c.tx.inputs && not spent) (told (length l) c ∷ []) [])
        ∙ ap (λ (b : Bool). b || list_any (λ (s : Spend). bytes_eq s.txid t) (cond (has_input o c.tx.inputs && not spent) (told (length l) c ∷ []) [])) h
        ∙ one c (length l) (has_spender l o t) (has_input o c.tx.inputs) spent (bytes_eq (txid_of c.tx) t) refl (λ same. ap (has_spender l o) ((bytes_eq-Decides (txid_of c.tx) t).0 same))
        ∙ sym (list_any-append (λ (d : Confirmed). bytes_eq (txid_of d.tx) t && has_input o d.tx.inputs) l (c ∷ []))

-- one spend more of those that are kept
kept_push : (w : PlainWatched) (chain : List Confirmed) (c : Confirmed) (o : OutPoint)
    → kept_spends w (chain ++ c ∷ []) o ≡ kept_spends w chain o ++ cond (has_input o c.tx.inputs && (watches w o && not (is_spender (kept_spends w chain o) (txid_of c.tx)))) (told (length chain) c ∷ []) []
unfolding kept_spends
kept_push w chain c o = by (watches w o)
  where
    none_both : (b : Bool) → [] ≡ cond (b && false) (told (length chain) c ∷ []) []
    none_both true = refl
    none_both false = refl

    by : (b : Bool) → cond b (spends_of (chain ++ c ∷ []) o) [] ≡ cond b (spends_of chain o) [] ++ cond (has_input o c.tx.inputs && (b && not (is_spender (cond b (spends_of chain o) []) (txid_of c.tx)))) (told (length chain) c ∷ []) []
    by true = spends_push chain c o ∙ ap (λ (b : Bool). spends_of chain o ++ cond (has_input o c.tx.inputs && not b) (told (length chain) c ∷ []) []) (sym (spender_is chain o (txid_of c.tx)))
    by false = none_both (has_input o c.tx.inputs)

-- ---- coins

made_entries : (held : List Held) → map made_at (map entry_of held) ≡ map held_made held
made_entries [] = refl
made_entries (h ∷ held) = ap (λ (l : List Made). held_made h ∷ l) (made_entries held)

keys_entries : (held : List Held) → keys_of (map entry_of held) ≡ points (map held_made held)
keys_entries [] = refl
keys_entries (h ∷ held) = ap (λ (l : List OutPoint). held_point h ∷ l) (keys_entries held)

pub coins_more : (old more : List Made) (es new : List (OutPoint × Held)) (held : List Held) → HoldsCoins old es → map held_made held ≡ more → new ≡ es ++ map entry_of held → HoldsCoins (old ++ more) new
coins_more old more es new held h is grown = record {
  made_is = ap (map made_at) grown ∙ map-append made_at es (map entry_of held) ∙ (λ k. h.made_is k ++ (made_entries held ∙ is) k);
  keys_are =
      ap (λ (l : List (OutPoint × Held)). keys_of l) grown
      ∙ map-append (λ (e : OutPoint × Held). e.0) es (map entry_of held)
      ∙ (λ k. h.keys_are k ++ (keys_entries held ∙ ap points is) k)
      ∙ sym (map-append (λ (m : Made). m.coin.coin) old more);
}

pub flat_push : (weigh : List ℕ → Option ℕ) (chain : List Confirmed) (c : Confirmed) → flat_map (made_by weigh) (chain ++ c ∷ []) ≡ flat_map (made_by weigh) chain ++ made_by weigh c
flat_push weigh chain c = flat_map-append (made_by weigh) chain (c ∷ []) ∙ ap (λ (l : List Made). flat_map (made_by weigh) chain ++ l) (append-nil (made_by weigh c))

-- ---- a ledger with one transaction more

-- a txid that stands in front gets no height here
stays_out : (skip same : Bool) (l : Option ℕ) (height : ℕ) → l ≡ None → (same ≡ true → skip ≡ true) → cond skip l (cond same (Some height) l) ≡ None
stays_out true same l height none e = none
stays_out false true l height none e = absurd (true≢false (sym (e refl)))
stays_out false false l height none e = none

or_right : (a b : Bool) → b ≡ true → (a || b) ≡ true
or_right true b e = refl
or_right false b e = e

-- what the maps of heights and spends were given
pub record Grown (w : PlainWatched) (spend : Spend) (c : Confirmed) (base old new : Ledger) : Type 0 where
  pub heights : (t : List ℕ)
      → lookup (bytes_eq t) new.heights.entries ≡ cond (not (watches_txid w spend.txid) || is_known base old spend.txid) (lookup (bytes_eq t) old.heights.entries) (cond (bytes_eq spend.txid t) (Some spend.height) (lookup (bytes_eq t) old.heights.entries))
  pub spends : (o : OutPoint) → spends_in new.spends o ≡ spends_in old.spends o ++ cond (has_input o c.tx.inputs && is_new w base.spends old.spends spend.txid o) (spend ∷ []) []

-- the spends of the transaction are put after those that are kept
spends_more : (w : PlainWatched) (weigh : List ℕ → Option ℕ) (before behind : List Confirmed) (base old : Ledger) (c : Confirmed) (spend : Spend) (o : OutPoint) → HoldsChain w weigh [] before base → HoldsChain w weigh before behind old
    → spend ≡ told (length (before ++ behind)) c
    → kept_spends w ((before ++ behind) ++ c ∷ []) o ≡ kept_spends w before o ++ (spends_in old.spends o ++ cond (has_input o c.tx.inputs && is_new w base.spends old.spends spend.txid o) (spend ∷ []) [])
unfolding is_spender
spends_more w weigh before behind base old c spend o under h is =
    let chain = before ++ behind in
    let mine = has_input o c.tx.inputs in
    let front = kept_spends w before o in
    let own = spends_in old.spends o in
    let one = told (length chain) c in
    let put : Bool → List Spend = λ b. cond (mine && (watches w o && not b)) (one ∷ []) [] in
    kept_push w chain c o
    ∙ ap (λ (l : List Spend). l ++ put (is_spender l (txid_of c.tx))) (h.spends o)
    ∙ ap (λ (b : Bool). (front ++ own) ++ put b)
    (list_any-append (λ (s : Spend). bytes_eq s.txid (txid_of c.tx)) front own ∙ ap (λ (l : List Spend). is_spender l (txid_of c.tx) || is_spender own (txid_of c.tx)) (spends_held w weigh before base o under))
    ∙ (λ k. (front ++ own) ++ cond (mine && is_new w base.spends old.spends (sym is k).txid o) (sym is k ∷ []) [])
    ∙ append_assoc front own (cond (mine && is_new w base.spends old.spends spend.txid o) (spend ∷ []) [])

pub chain_more : (w : PlainWatched) (weigh : List ℕ → Option ℕ) (before behind : List Confirmed) (base old new : Ledger) (c : Confirmed) (held : List Held) (spend : Spend)
    → HoldsChain w weigh [] before base → HoldsChain w weigh before behind old → spend ≡ record { txid = txid_of c.tx; height = c.height; place = length (before ++ behind) }
    → map held_made held ≡ made_by weigh c → new.coins.entries ≡ old.coins.entries ++ map entry_of held → Grown w spend c base old new
    → HoldsChain w weigh before (behind ++ c ∷ []) new
chain_more w weigh before behind base old new c held spend under h is made coins g =
    let id = txid_of c.tx in
    let chain = before ++ behind in
    let known = is_known base old spend.txid in
    let own = watches_txid w spend.txid in
    let id_is : spend.txid ≡ id = ap (λ (s : Spend). s.txid) is in
    let tall : spend.height ≡ c.height = ap (λ (s : Spend). s.height) is in
    let longer : before ++ (behind ++ c ∷ []) ≡ chain ++ c ∷ [] = sym (append_assoc before behind (c ∷ [])) in
    let known_at : (t : List ℕ) → is_known base old t ≡ (is_some (kept_height w before t) || is_some (lookup (bytes_eq t) old.heights.entries)) =
    λ t. ap (λ (o : Option ℕ). is_some o || is_some (lookup (bytes_eq t) old.heights.entries)) (sym (height_held w weigh before base t under))
    in
    record {
      coins = subst (λ (l : List Made). HoldsCoins l new.coins.entries) (sym (flat_push weigh behind c)) (coins_more (flat_map (made_by weigh) behind) (made_by weigh c) old.coins.entries new.coins.entries held h.coins made coins);
      spends = λ o.
          ap (λ (l : List Confirmed). kept_spends w l o) longer
          ∙ spends_more w weigh before behind base old c spend o under h is
          ∙ ap (λ (l : List Spend). kept_spends w before o ++ l) (sym (g.spends o));
      heights = λ t.
          ap (λ (l : List Confirmed). kept_height w l t) longer
          ∙ kept_height_push w chain c t
          ∙ ap (λ (o : Option ℕ). option_or o (cond (watches_txid w t && bytes_eq id t) (Some c.height) None)) (h.heights t)
          ∙ height_by c.height (kept_height w before t) (lookup (bytes_eq t) old.heights.entries) (bytes_eq id t) (watches_txid w t) own known
          (λ same. ap (watches_txid w) (sym (id_is ∙ (bytes_eq-Decides id t).0 same)))
          (λ same. ap (is_known base old) (id_is ∙ (bytes_eq-Decides id t).0 same) ∙ known_at t)
          ∙ (λ k. option_or (kept_height w before t) (cond (not own || known) (lookup (bytes_eq t) old.heights.entries) (cond (bytes_eq (sym id_is k) t) (Some (sym tall k)) (lookup (bytes_eq t) old.heights.entries))))
          ∙ ap (option_or (kept_height w before t)) (sym (g.heights t));
      apart = λ t there.
          g.heights t
          ∙ stays_out (not own || known) (bytes_eq spend.txid t) (lookup (bytes_eq t) old.heights.entries) spend.height (h.apart t there)
          (λ same. or_right (not own) known
          (known_at spend.txid ∙ ap (λ (b : Bool). b || is_some (lookup (bytes_eq spend.txid) old.heights.entries)) (ap (λ (x : List ℕ). is_some (kept_height w before x)) ((bytes_eq-Decides spend.txid t).0 same) ∙ there)));
    }

-- ---- faults after two ledgers

-- the outpoints of coins that are held
pub points_of : (held : List Held) (made : List Made) → map held_made held ≡ made → map held_point held ≡ points made
points_of held made is = sym (entries_points held) ∙ keys_entries held ∙ ap points is
  where
    entries_points : (held : List Held) → keys_of (map entry_of held) ≡ map held_point held
    entries_points [] = refl
    entries_points (x ∷ xs) = ap (λ (l : List OutPoint). held_point x ∷ l) (entries_points xs)

pub held_points : (w : PlainWatched) (weigh : List ℕ → Option ℕ) (before behind : List Confirmed) (base old : Ledger) (c : Confirmed) (held : List Held) → HoldsChain w weigh [] before base → HoldsChain w weigh before behind old → map held_made held ≡ made_by weigh c
    → fault_behind (keys_of base.coins.entries ++ keys_of old.coins.entries) (map held_point held) ≡ fault_behind (points_in weigh before ++ points_in weigh behind) (points (made_by weigh c))
held_points w weigh before behind base old c held under h is = λ k. fault_behind (under.coins.keys_are k ++ h.coins.keys_are k) (points_of held (made_by weigh c) is k)

-- ---- chains

-- a ledger of nothing after others
pub none_behind : (w : PlainWatched) (weigh : List ℕ → Option ℕ) (before : List Confirmed) (l : Ledger) → l.coins.entries ≡ [] → ((o : OutPoint) → spends_in l.spends o ≡ []) → l.heights.entries ≡ [] → HoldsChain w weigh before [] l
none_behind w weigh before l coins spends heights = record {
  coins = record { made_is = ap (map made_at) coins; keys_are = ap (λ (es : List (OutPoint × Held)). keys_of es) coins };
  spends = λ o. ap (λ (l : List Confirmed). kept_spends w l o) (append-nil before) ∙ sym (append-nil (kept_spends w before o)) ∙ ap (λ (s : List Spend). kept_spends w before o ++ s) (sym (spends o));
  heights = λ t. ap (λ (l : List Confirmed). kept_height w l t) (append-nil before) ∙ sym (no_more (kept_height w before t)) ∙ (λ k. option_or (kept_height w before t) (lookup (bytes_eq t) (sym heights k)));
  apart = λ t there. ap (lookup (bytes_eq t)) heights;
}

pub points_push : (weigh : List ℕ → Option ℕ) (front more : List Confirmed) → points_in weigh (front ++ more) ≡ points_in weigh front ++ points_in weigh more
points_push weigh front more = ap points (flat_map-append (made_by weigh) front more) ∙ map-append (λ (m : Made). m.coin.coin) (flat_map (made_by weigh) front) (flat_map (made_by weigh) more)

-- the first fault up to one transaction more
pub fault_on : (weigh : List ℕ → Option ℕ) (before : List OutPoint) (front : List Confirmed) (c : Confirmed) (r : Option BookFault) → fault_behind before (points_in weigh front) ≡ None
    → fault_behind (before ++ points_in weigh front) (points (made_by weigh c)) ≡ r → fault_behind before (points_in weigh (front ++ c ∷ [])) ≡ r
fault_on weigh before front c r fresh here =
    ap (fault_behind before) (points_push weigh front (c ∷ []) ∙ ap (λ (l : List Made). points_in weigh front ++ points l) (append-nil (made_by weigh c)))
    ∙ fault_more before (points_in weigh front) (points (made_by weigh c))
    ∙ ap (λ (o : Option BookFault). option_or o (fault_behind (before ++ points_in weigh front) (points (made_by weigh c)))) fresh
    ∙ here

-- a fault among the first transactions is the first among all
pub fault_early : (weigh : List ℕ → Option ℕ) (before : List OutPoint) (front rest : List Confirmed) (e : BookFault) → fault_behind before (points_in weigh front) ≡ Some e
    → fault_behind before (points_in weigh (front ++ rest)) ≡ Some e
fault_early weigh before front rest e here =
    ap (fault_behind before) (points_push weigh front rest) ∙ fault_among before (points_in weigh front) (points_in weigh rest) e here

-- ---- a loop over values that are seen as confirmed transactions

pub next_of : {X : Type 0} (f : X → Confirmed) (xs : List X) (i : ℕ) (x : X) → i < length xs → x ≡ get_or xs i x → map f (take (i + 1) xs) ≡ map f (take i xs) ++ f x ∷ []
next_of {X = X} f xs i x lt is = ap (map f) (take_more xs i x lt ∙ ap (λ (y : X). take i xs ++ y ∷ []) (sym is)) ∙ map-append f (take i xs) (x ∷ [])

pub all_of : {X : Type 0} (f : X → Confirmed) (xs : List X) (i : ℕ) → map f xs ≡ map f (take i xs) ++ map f (drop i xs)
all_of f xs i = ap (map f) (sym (take-append-drop i xs)) ∙ map-append f (take i xs) (drop i xs)

pub place_of : {X : Type 0} (f : X → Confirmed) (before : List Confirmed) (xs : List X) (i : ℕ) → i ≤ length xs → length before + i ≡ length (before ++ map f (take i xs))
place_of f before xs i le =
    let a = length-append before (map f (take i xs)) in
    let b = length-map (take i xs) f in
    let d = length-take-le i xs le in
    omega arith

-- what holds of so many that there are no more holds of all
pub ap_all : {X : Type 0} (f : X → Confirmed) (xs : List X) (i : ℕ) → length xs ≤ i → (P : List Confirmed → Type 0) → P (map f (take i xs)) → P (map f xs)
ap_all {X = X} f xs i le P h = subst (λ (l : List X). P (map f l)) (take_whole xs i le) h
  where
    take_whole : {X : Type 0} (xs : List X) (i : ℕ) → length xs ≤ i → take i xs ≡ xs
    take_whole [] zero le = refl
    take_whole [] (suc i) le = refl
    take_whole (x ∷ xs) zero le = absurd (omega arith)
    take_whole {X = X} (x ∷ xs) (suc i) le = ap (λ (l : List X). x ∷ l) (take_whole xs i (omega arith))
