-- What a book shows of what it holds.
use Rattle.std.proofs.Common.{◌≡◌, ◌∙◌, ℕ, zero, suc, ◌+◌, ◌-◌, ◌<◌, ◌≤◌, Bool, true, false, cond, List, [], ◌∷◌, ◌++◌, length, map, Option, Some, None, refl, sym, ap, arith}
use Rattle.std.specs.Prelude.{slice_get, find, option_map, unwrap_or}
use Rattle.std.proofs.lemmas.Option.{slice_get-map}
use Rattle.std.specs.Option.{option_or}
use Rattle.std.specs.Map.{keys_of, lookup}
use Rattle.std.proofs.lemmas.List.{length-append, length-map, map-append}
use Rattle.std.proofs.lemmas.List.Folds.{find-append}
use Rattle.std.proofs.lemmas.Simd.{map-map}
use Rattle.coin_book.proofs.StaySteps.{same_head}
use Rattle.fund_base.specs.Outpoints.{same_outpoint}
use Rattle.fund_base.specs.declared.outpoint.OutPoint.{OutPoint}
use Rattle.tx_codec.specs.Transaction.{Transaction}
use Rattle.coin_book.specs.Coins.{Made, coins_of, confirmed_made, made_of, parent_of, pending_made}
use Rattle.coin_book.specs.Faults.{points}
use Rattle.coin_book.specs.History.{History}
use Rattle.coin_book.specs.Invariant.{HoldsCoins, made_at}
use Rattle.coin_book.specs.declared.coin.Coin.{Coin}
use Rattle.coin_book.specs.declared.held.Held.{Held}

abbrev Entries : Type 0
Entries = List (OutPoint × Held)

-- the coins of entries
abbrev pub coins_in : List (OutPoint × Held) → List Coin
coins_in es = map (λ (e : OutPoint × Held). e.1.coin) es

coins_made : (made : List Made) (es : List (OutPoint × Held)) → HoldsCoins made es → map (λ (m : Made). m.coin) made ≡ coins_in es
coins_made made es h = ap (map (λ (m : Made). m.coin)) (sym h.made_is) ∙ map-map (λ (m : Made). m.coin) made_at es

pub coins_shown : (h : History) (es ps : List (OutPoint × Held)) → HoldsCoins (confirmed_made h) es → HoldsCoins (pending_made h) ps → coins_of h ≡ coins_in es ++ coins_in ps
unfolding made_of
coins_shown h es ps c w =
    map-append (λ (m : Made). m.coin) (confirmed_made h) (pending_made h)
    ∙ (λ k. coins_made (confirmed_made h) es c k ++ coins_made (pending_made h) ps w k)

pub len_shown : (h : History) (es ps : List (OutPoint × Held)) → HoldsCoins (confirmed_made h) es → HoldsCoins (pending_made h) ps → length es + length ps ≡ length (coins_of h)
len_shown h es ps c w =
    let e = ap (λ (cs : List Coin). length cs) (coins_shown h es ps c w) in
    let l = length-append (coins_in es) (coins_in ps) in
    let a = length-map es (λ (e : OutPoint × Held). e.1.coin) in
    let b = length-map ps (λ (e : OutPoint × Held). e.1.coin) in
    omega arith

get_left : {X : Type 0} (xs ys : List X) (i : ℕ) → i < length xs → slice_get (xs ++ ys) i ≡ slice_get xs i
get_left [] ys i lt = absurd (omega arith)
get_left (x ∷ xs) ys zero lt = refl
get_left (x ∷ xs) ys (suc i) lt = get_left xs ys i (omega arith)

get_right : {X : Type 0} (xs ys : List X) (n : ℕ) → slice_get (xs ++ ys) (length xs + n) ≡ slice_get ys n
get_right [] ys n = let e : 0 + n ≡ n = omega arith in ap (slice_get ys) e
get_right (x ∷ xs) ys n = let e : length (x ∷ xs) + n ≡ suc (length xs + n) = omega arith in ap (slice_get (x ∷ xs ++ ys)) e ∙ get_right xs ys n

pub at_left : (h : History) (es ps : List (OutPoint × Held)) (i : ℕ) → HoldsCoins (confirmed_made h) es → HoldsCoins (pending_made h) ps → i < length es → slice_get (coins_in es) i ≡ slice_get (coins_of h) i
at_left h es ps i c w lt =
    let n = length-map es (λ (e : OutPoint × Held). e.1.coin) in
    sym (ap (λ (cs : List Coin). slice_get cs i) (coins_shown h es ps c w) ∙ get_left (coins_in es) (coins_in ps) i (omega arith))

pub at_right : (h : History) (es ps : List (OutPoint × Held)) (i : ℕ) → HoldsCoins (confirmed_made h) es → HoldsCoins (pending_made h) ps → length es ≤ i → slice_get (coins_in ps) (i - length es) ≡ slice_get (coins_of h) i
at_right h es ps i c w le =
    let n = length-map es (λ (e : OutPoint × Held). e.1.coin) in
    let at : length (coins_in es) + (i - length es) ≡ i = omega arith in
    sym (ap (λ (cs : List Coin). slice_get cs i) (coins_shown h es ps c w) ∙ ap (slice_get (coins_in es ++ coins_in ps)) (sym at) ∙ get_right (coins_in es) (coins_in ps) (i - length es))

-- ---- the transaction of a coin

abbrev pub maker_in : OutPoint → List (OutPoint × Held) → Option Transaction
maker_in o es = option_map (λ (h : Held). h.maker.value) (lookup (same_outpoint o) es)

abbrev pub maker_among : OutPoint → List Made → Option Transaction
maker_among o made = option_map (λ (m : Made). m.maker) (find (λ (m : Made). same_outpoint o m.coin.coin) made)

found_by : (b : Bool) (x : Held) (m : Made) (r : Option Held) (s : Option Made) → x.maker.value ≡ m.maker → option_map (λ (h : Held). h.maker.value) r ≡ option_map (λ (m : Made). m.maker) s
    → option_map (λ (h : Held). h.maker.value) (cond b (Some x) r) ≡ option_map (λ (m : Made). m.maker) (cond b (Some m) s)
found_by true x m r s e rest = ap Some e
found_by false x m r s e rest = rest

own_maker : (o : OutPoint) (es : List (OutPoint × Held)) → keys_of es ≡ points (map made_at es) → maker_in o es ≡ maker_among o (map made_at es)
own_maker o [] keys = refl
own_maker o (e ∷ es) keys =
    let k = same_head e.0 e.1.coin.coin (keys_of es) (points (map made_at es)) keys in
    ap (λ (p : OutPoint). option_map (λ (h : Held). h.maker.value) (cond (same_outpoint o p) (Some e.1) (lookup (same_outpoint o) es))) k.0
    ∙ found_by (same_outpoint o e.1.coin.coin) e.1 (made_at e) (lookup (same_outpoint o) es) (find (λ (m : Made). same_outpoint o m.coin.coin) (map made_at es)) refl (own_maker o es k.1)

maker_is : (o : OutPoint) (made : List Made) (es : List (OutPoint × Held)) → HoldsCoins made es → maker_in o es ≡ maker_among o made
maker_is o made es h = own_maker o es (h.keys_are ∙ ap points (sym h.made_is)) ∙ ap (maker_among o) h.made_is

map_or : (a b : Option Made) → option_map (λ (m : Made). m.maker) (option_or a b) ≡ option_or (option_map (λ (m : Made). m.maker) a) (option_map (λ (m : Made). m.maker) b)
map_or None b = refl
map_or (Some m) b = refl

pub parent_shown : (h : History) (es ps : List (OutPoint × Held)) (o : OutPoint) → HoldsCoins (confirmed_made h) es → HoldsCoins (pending_made h) ps → option_or (maker_in o es) (maker_in o ps) ≡ parent_of h o
unfolding made_of
parent_shown h es ps o c w =
    (λ k. option_or (maker_is o (confirmed_made h) es c k) (maker_is o (pending_made h) ps w k))
    ∙ sym (map_or (find (λ (m : Made). same_outpoint o m.coin.coin) (confirmed_made h)) (find (λ (m : Made). same_outpoint o m.coin.coin) (pending_made h)))
    ∙ sym (ap (λ (f : Option Made). option_map (λ (m : Made). m.maker) f) (find-append (λ (m : Made). same_outpoint o m.coin.coin) (confirmed_made h) (pending_made h)))

-- an entry stands under the outpoint of its coin
pub own_key : (es : List (OutPoint × Held)) (i : ℕ) (k : OutPoint) (h : Held) → keys_of es ≡ points (map made_at es) → slice_get es i ≡ Some (k, h) → k ≡ h.coin.coin
own_key es i k h keys at =
    let left : slice_get (keys_of es) i ≡ Some k = slice_get-map (λ (e : OutPoint × Held). e.0) es i ∙ ap (option_map (λ (e : OutPoint × Held). e.0)) at in
    let right : slice_get (points (map made_at es)) i ≡ Some h.coin.coin =
    slice_get-map (λ (m : Made). m.coin.coin) (map made_at es) i
    ∙ ap (option_map (λ (m : Made). m.coin.coin)) (slice_get-map made_at es i ∙ ap (option_map made_at) at)
    in
    ap (λ (o : Option OutPoint). unwrap_or o k) (sym left ∙ ap (λ (ps : List OutPoint). slice_get ps i) keys ∙ right)
