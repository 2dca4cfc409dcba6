-- Coins that may be spent now, each looked up at its outpoint.
use Rattle.std.specs.Prelude.{ℕ, suc, ◌≡◌, ◌≢◌, ◌<◌, ◌++◌, ◌&&◌, ◌||◌, List, [], ◌∷◌, AllPairs, Bool, true, false, Contains, Option, Some, None, filter, find, length, map, option_and_then, option_map}
use Rattle.std.specs.List.{cons_option, filter_map}
use Rattle.std.specs.Option.{option_map_or, option_or}
use Rattle.std.proofs.Common.{refl, sym, ap, ◌∙◌, subst, cond, get_or, arith, append_assoc}
use Rattle.std.proofs.lemmas.List.Elements.{All-contains, All-contains_itself, Contains-append_left, Contains-append_right}
use Rattle.std.proofs.lemmas.List.Folds.{find-append}
use Rattle.std.proofs.lemmas.Option.{same_Some}
use Rattle.coin_book.specs.AtOutpoint.{coin_under}
use Rattle.coin_book.specs.Coins.{Made, coins_of, made_of}
use Rattle.coin_book.specs.Faults.{fault_of}
use Rattle.coin_book.specs.History.{History}
use Rattle.coin_book.specs.declared.coin.Coin.{Coin}
use Rattle.fund_base.proofs.OutpointLaws.{same_outpoint-Decides}
use Rattle.fund_base.specs.Outpoints.{same_outpoint}
use Rattle.coin_candidates.specs.declared.candidate.Candidate.{Candidate}
use Rattle.fund_base.specs.declared.outpoint.OutPoint.{OutPoint}
use Rattle.payment_states.proofs.FactSteps.{any_map, flag_is}
use Rattle.payment_states.proofs.FirstSteps.{find_agree}
use Rattle.payment_states.proofs.FitSteps.{coins_apart}
use Rattle.payment_states.proofs.GraphSteps.{filter_map_agree}
use Rattle.payment_states.proofs.KinSteps.{find_filter}
use Rattle.payment_states.proofs.MakerSteps.{at_height, found}
use Rattle.payment_states.proofs.Order.{all_abandoned, found_place}
use Rattle.payment_states.proofs.Paths.{any_has}
use Rattle.payment_facts.specs.AnyCoin.{facts_among, facts_at}
use Rattle.payment_states.specs.BookOf.{IsBookOf}
use Rattle.payment_states.specs.Candidates.{candidate_of, candidates_of, is_candidate, is_pending}
use Rattle.payment_states.specs.ByPlace.{flag_at}
use Rattle.payment_states.specs.Graph.{below}
use Rattle.payment_states.specs.PendingView.{PendingView, place_in}
use Rattle.wallet_text.specs.PlainWallet.{PlainWallet}
use Rattle.wallet_text.specs.WalletRules.{IsWallet}
use Rattle.desk_machine.specs.State.{has_point, points}
use Rattle.fund_desk.specs.Looked.{is_at}
use Rattle.fund_desk.specs.Ready.{IsOneAtEach}
use Rattle.fund_desk.proofs.LookLaws.{or_none, swapped}

-- ---- the coin at an outpoint

found_map : {X Y : Type 0} (q : Y → Bool) (f : X → Y) (xs : List X) → find q (map f xs) ≡ option_map f (find (λ x. q (f x)) xs)
found_map q f [] = refl
found_map {X = X} {Y = Y} q f (x ∷ xs) = by (q (f x)) (found_map q f xs)
  where
    by : (b : Bool) → find q (map f xs) ≡ option_map f (find (λ x. q (f x)) xs) → cond b (Some (f x)) (find q (map f xs)) ≡ option_map f (cond b (Some x) (find (λ x. q (f x)) xs))
    by true e = refl
    by false e = e

abbrev at : OutPoint → Coin → Bool
at o k = same_outpoint o k.coin

abbrev CoinsApart : List Coin → Type 0
CoinsApart cs = AllPairs (λ (a b : Coin). a.coin ≢ b.coin) cs

-- where none is at the outpoint none is found there, with a test more or without
none_there : (p : Coin → Bool) (o : OutPoint) (cs : List Coin) → ((k : ℕ) (d : Coin) → k < length cs → o ≢ (get_or cs k d).coin) → find (λ k. p k && at o k) cs ≡ None
none_there p o [] apart = refl
none_there p o (x ∷ rest) apart = by (p x) (at o x) refl (none_there p o rest (λ k d lt. apart (suc k) d (omega (arith, lt))))
  where
    by : (a b : Bool) → at o x ≡ b → find (λ k. p k && at o k) rest ≡ None → cond (a && b) (Some x) (find (λ k. p k && at o k) rest) ≡ None
    by a true e none = absurd (apart 0 x (omega arith) ((same_outpoint-Decides o x.coin).0 e))
    by true false e none = none
    by false false e none = none

-- the coin, where it passes a test
abbrev kept : (Coin → Bool) → Option Coin → Option Coin
kept p r = option_and_then (λ (k : Coin). cond (p k) (Some k) None) r

-- of coins at different outpoints, the one at this one is found, if it passes
kept_one : (p : Coin → Bool) (o : OutPoint) (cs : List Coin) → CoinsApart cs → find (λ k. p k && at o k) cs ≡ kept p (find (at o) cs)
kept_one p o [] apart = refl
kept_one p o (x ∷ rest) apart = by (at o x) refl (kept_one p o rest (λ i j d less lt. apart (suc i) (suc j) d (omega (arith, less)) (omega (arith, lt))))
  where
    both : Option Coin
    both = find (λ k. p k && at o k) rest

    one : (a : Bool) → both ≡ None → cond (a && true) (Some x) both ≡ cond a (Some x) None
    one true none = refl
    one false none = none

    other : (a : Bool) (r : Option Coin) → both ≡ r → cond (a && false) (Some x) both ≡ r
    other true r e = e
    other false r e = e

    by : (b : Bool) → at o x ≡ b → both ≡ kept p (find (at o) rest) → cond (p x && b) (Some x) both ≡ kept p (cond b (Some x) (find (at o) rest))
    by true e more =
        let here : o ≡ x.coin = (same_outpoint-Decides o x.coin).0 e in
        one (p x) (none_there p o rest (λ k d lt same. apart 0 (suc k) d (omega arith) (omega (arith, lt)) (sym here ∙ same)))
    by false e more = other (p x) (kept p (find (at o) rest)) more

-- of the coins that may be spent, the one at an outpoint is what is known of the coin there, if that may be spent
pub found_ready : (w : PlainWallet) (h : History) (tip rate : ℕ) (o : OutPoint) → IsWallet w → IsBookOf w h → fault_of h ≡ None
    → find (is_at o) (candidates_of w h tip rate) ≡ cond (option_map_or (is_candidate w h tip) (coin_under h o) false) (facts_at w h tip rate o) None
unfolding candidates_of facts_at
found_ready w h tip rate o rules book sound =
    let p = is_candidate w h tip in
    let f = candidate_of w h tip rate in
    found_map (is_at o) f (filter p (coins_of h))
    ∙ ap (option_map f) (find_agree (λ k. is_at o (f k)) (at o) (filter p (coins_of h)) (λ k c. ap (same_outpoint o) (at_height w h tip rate k k.height (place_in w.pending k.coin.txid)).point))
    ∙ ap (option_map f) (find_filter p (at o) (coins_of h))
    ∙ ap (option_map f) (kept_one p o (coins_of h) (coins_apart w h rules book sound))
    ∙ ap (λ (r : Option Coin). option_map f (kept p r)) (found_map (at o) (λ (m : Made). m.coin) (made_of h))
    ∙ cases (coin_under h o)
  where
    cases : (r : Option Coin) → option_map (candidate_of w h tip rate) (kept (is_candidate w h tip) r) ≡ cond (option_map_or (is_candidate w h tip) r false) (option_map (candidate_of w h tip rate) r) None
    cases None = refl
    cases (Some k) = by (is_candidate w h tip k)
      where
        by : (b : Bool) → option_map (candidate_of w h tip rate) (cond b (Some k) None) ≡ cond b (Some (candidate_of w h tip rate k)) None
        by true = refl
        by false = refl

-- ---- many of them

filter_given : {X Y : Type 0} (p : X → Bool) (g : X → Option Y) (xs : List X) → filter_map g (filter p xs) ≡ filter_map (λ x. cond (p x) (g x) None) xs
filter_given p g [] = refl
filter_given {X = X} {Y = Y} p g (x ∷ xs) = by (p x) (filter_given p g xs)
  where
    by : (b : Bool) → filter_map g (filter p xs) ≡ filter_map (λ x. cond (p x) (g x) None) xs → filter_map g (cond b (x ∷ filter p xs) (filter p xs)) ≡ cons_option (cond b (g x) None) (filter_map (λ x. cond (p x) (g x) None) xs)
    by true e = ap (cons_option (g x)) e
    by false e = e

-- those of these outpoints
pub all_ready : (w : PlainWallet) (h : History) (tip rate : ℕ) (os : List OutPoint) → IsWallet w → IsBookOf w h → fault_of h ≡ None
    → facts_among w h tip rate (filter (λ o. option_map_or (is_candidate w h tip) (coin_under h o) false) os) ≡ filter_map (λ o. find (is_at o) (candidates_of w h tip rate)) os
all_ready w h tip rate os rules book sound =
    let p : OutPoint → Bool = λ o. option_map_or (is_candidate w h tip) (coin_under h o) false in
    filter_given p (facts_at w h tip rate) os
    ∙ filter_map_agree (λ (o : OutPoint). cond (p o) (facts_at w h tip rate o) None) (λ (o : OutPoint). find (is_at o) (candidates_of w h tip rate)) os (λ o. sym (found_ready w h tip rate o rules book sound))

module _ (now : List Candidate) where
  abbrev found_at : OutPoint → Option Candidate
  found_at o = find (is_at o) now

  there : (o : OutPoint) (c : Candidate) → found_at o ≡ Some c → o ≡ c.coin
  there o c e = (same_outpoint-Decides o c.coin).0 (found (Contains now) (is_at o) now c (All-contains_itself now) e).0

  -- no two of them are at one outpoint
  pub one_at_each : (os : List OutPoint) → IsOneAtEach (filter_map found_at os)
  one_at_each os =
      let own = all_abandoned (λ (c : Candidate). found_at c.coin ≡ Some c) found_at os (λ o _ c e. ap found_at (sym (there o c e)) ∙ e) in
      let one = All-contains (λ (c : Candidate). found_at c.coin ≡ Some c) (filter_map found_at os) in
      λ a b in_a in_b same. same_Some a b (sym (one a own in_a) ∙ ap found_at same ∙ one b own in_b)

  -- of these outpoints each is looked up among them as among all
  pub found_among : (os : List OutPoint) (o : OutPoint) → find (is_at o) (filter_map found_at os) ≡ cond (has_point os o) (found_at o) None
  found_among [] o = refl
  found_among (q ∷ os) o = by (same_outpoint q o) refl (found_at q) refl (found_among os o)
    where
      nothing : (b : Bool) → found_at o ≡ None → cond b (found_at o) None ≡ found_at o
      nothing true e = refl
      nothing false e = sym e

      point : (b : Bool) → same_outpoint q o ≡ b → (c : Candidate) → found_at q ≡ Some c → is_at o c ≡ b
      point b e c f = ap (same_outpoint o) (sym (there q c f)) ∙ swapped o q ∙ e

      by : (b : Bool) → same_outpoint q o ≡ b → (r : Option Candidate) → found_at q ≡ r → find (is_at o) (filter_map found_at os) ≡ cond (has_point os o) (found_at o) None
          → find (is_at o) (cons_option r (filter_map found_at os)) ≡ cond (b || has_point os o) (found_at o) None
      by true e None f more =
          let here : q ≡ o = (same_outpoint-Decides q o).0 e in
          more ∙ nothing (has_point os o) (ap found_at (sym here) ∙ f)
      by true e (Some c) f more =
          let here : q ≡ o = (same_outpoint-Decides q o).0 e in
          ap (λ (b : Bool). cond b (Some c) (find (is_at o) (filter_map found_at os))) (point true e c f) ∙ sym f ∙ ap found_at here
      by false e None f more = more
      by false e (Some c) f more = ap (λ (b : Bool). cond b (Some c) (find (is_at o) (filter_map found_at os))) (point false e c f) ∙ more

-- the coins of a payment are looked up among those that are ready as among all
pub ready_same : (now coins ready : List Candidate) → ready ≡ filter_map (found_at now) (points coins) → (c : Candidate) → Contains coins c → find (is_at c.coin) ready ≡ find (is_at c.coin) now
ready_same now coins ready is c has =
    let there : has_point (points coins) c.coin ≡ true =
    any_map (λ (x : OutPoint). same_outpoint x c.coin) (λ (k : Candidate). k.coin) coins ∙ any_has (λ (k : Candidate). same_outpoint k.coin c.coin) coins c has ((same_outpoint-Decides c.coin c.coin).1 refl) in
    ap (find (is_at c.coin)) is ∙ found_among now (points coins) c.coin ∙ ap (λ (b : Bool). cond b (find (is_at c.coin) now) None) there

-- ---- put into a map

-- what is found where the coin behind these is put at its outpoint
look_more : (front rest : List Candidate) (x : Candidate) (o : OutPoint) → IsOneAtEach (front ++ x ∷ rest) → cond (same_outpoint x.coin o) (Some x) (find (is_at o) front) ≡ find (is_at o) (front ++ x ∷ [])
look_more front rest x o ones =
    ap (λ (b : Bool). cond b (Some x) (find (is_at o) front)) (swapped x.coin o)
    ∙ by (is_at o x) refl (find (is_at o) front) refl
    ∙ sym (find-append (is_at o) front (x ∷ []))
  where
    by : (b : Bool) → is_at o x ≡ b → (r : Option Candidate) → find (is_at o) front ≡ r → cond b (Some x) r ≡ option_or r (cond b (Some x) None)
    by true e None f = refl
    by true e (Some y) f =
        let is = found (Contains front) (is_at o) front y (All-contains_itself front) f in
        let same : x.coin ≡ y.coin = sym ((same_outpoint-Decides o x.coin).0 e) ∙ (same_outpoint-Decides o y.coin).0 is.0 in
        ap (λ (c : Candidate). Some c) (ones x y (Contains-append_right front (x ∷ rest) x (0, omega arith, refl)) (Contains-append_left front (x ∷ rest) y is.1) same)
    by false e r f = or_none r

-- what is found in a map of the coins before this one, once it is put in
pub point_more : (front rest all : List Candidate) (x : Candidate) (old new : Option Candidate) (o : OutPoint) → IsOneAtEach all → (front ++ x ∷ []) ++ rest ≡ all → new ≡ cond (same_outpoint x.coin o) (Some x) old → old ≡ find (is_at o) front
    → new ≡ find (is_at o) (front ++ x ∷ [])
point_more front rest all x old new o ones whole is before =
    is ∙ ap (λ (r : Option Candidate). cond (same_outpoint x.coin o) (Some x) r) before ∙ look_more front rest x o (subst IsOneAtEach (sym (sym (append_assoc front (x ∷ []) rest) ∙ whole)) ones)

-- ---- the rules

-- whether the payment of a txid is Pending, by what is known at each place
pub flag_there : (v : PendingView) (flags : List Bool) (txid : List ℕ) → flags ≡ map (is_pending v) (below (length v.pending)) → flag_at flags (place_in v.pending txid) ≡ option_map_or (is_pending v) (place_in v.pending txid) false
flag_there v flags txid are = by (place_in v.pending txid) (λ i e. (found_place v.pending txid i e).0)
  where
    by : (r : Option ℕ) → ((i : ℕ) → r ≡ Some i → i < length v.pending) → flag_at flags r ≡ option_map_or (is_pending v) r false
    by None within = refl
    by (Some i) within = flag_is v flags are i (within i refl)
