-- A coin may be spent exactly where each rule holds.
use Rattle.std.proofs.Common.{◌≡◌, ◌≢◌, ◌∙◌, ◌⊎◌, inl, inr, ℕ, ◌+◌, ◌-◌, ◌≤◌, ◌==◌, ◌&&◌, ◌||◌, Bool, true, false, List, [], ◌∷◌, length, Option, Some, None, Contains, refl, sym, ap, subst, arith}
use Rattle.std.specs.Prelude.{is_some, nat_le, not, ◌↔◌}
use Rattle.std.specs.Option.{option_map_or}
use Rattle.std.proofs.lemmas.Bool.{and_from, and_parts, false_from_ne_true, le-leb, leb-true, ne_eqb, not-true, not_from_false, true≢false}
use Rattle.std.proofs.lemmas.Option.{none-some}
use Rattle.fund_base.proofs.Lists.{any_found}
use Rattle.fund_base.specs.Outpoints.{same_outpoint}
use Rattle.fund_base.proofs.OutpointLaws.{same_outpoint-Decides}
use Rattle.tx_codec.specs.Txid.{txid_of}
use Rattle.wallet_text.specs.PlainWallet.{PlainWallet}
use Rattle.wallet_text.specs.WalletRules.{AreDistinct, ParentsComeFirst}
use Rattle.coin_book.specs.History.{History}
use Rattle.coin_book.specs.Spends.{IsSpendOf, has_input, spends_of}
use Rattle.coin_book.specs.declared.coin.Coin.{Coin}
use Rattle.coin_book.specs.declared.coin.Spend.{Spend}
use Rattle.coin_book.proofs.SpendSteps.{has_one, spends_are, spends_by_one}
use Rattle.payment_states.specs.Candidates.{depth, is_candidate, is_claimed, is_deep, is_live, is_locked, is_pending, is_spent}
use Rattle.payment_states.specs.Causes.{Spends}
use Rattle.payment_states.specs.Graph.{below}
use Rattle.payment_states.specs.Offered.{MayBeSpent, WaitsAt}
use Rattle.payment_states.specs.PendingView.{place_in, tx_at, view_of}
use Rattle.payment_states.proofs.Below.{below_within}
use Rattle.payment_states.proofs.KinSteps.{below_has}
use Rattle.payment_states.proofs.NumberSteps.{waits, waits_back}
use Rattle.payment_states.proofs.Order.{found_place}
use Rattle.payment_states.proofs.ParentSteps.{own_place}
use Rattle.payment_states.proofs.Paths.{any_has}

-- ---- how deep

deep_there : (tip : ℕ) (coinbase : Bool) (height : Option ℕ) → (not coinbase || nat_le 101 (depth tip height)) ≡ true → coinbase ≡ true → (n : ℕ) × (height ≡ Some n) × (101 + n ≤ tip + 1)
deep_there tip false height e c = absurd (true≢false (sym c))
deep_there tip true None e c = absurd (let le = leb-true 101 0 e in omega arith)
deep_there tip true (Some n) e c = let le = leb-true 101 (tip + 1 - n) e in (n, refl, omega arith)

deep_back : (tip : ℕ) (coinbase : Bool) (height : Option ℕ) → (coinbase ≡ true → (n : ℕ) × (height ≡ Some n) × (101 + n ≤ tip + 1)) → (not coinbase || nat_le 101 (depth tip height)) ≡ true
deep_back tip false height h = refl
deep_back tip true height h =
    let f = h refl in
    let le = f.2 in
    ap (λ (o : Option ℕ). nat_le 101 (depth tip o)) f.1 ∙ le-leb 101 (tip + 1 - f.0) (omega arith)

-- ---- what spends it

none_listed : {X : Type 0} (xs : List X) → ((x : X) → Contains xs x → ⊥) → not (length xs == 0) ≡ false
none_listed [] h = refl
none_listed (x ∷ xs) h = absurd (h x (0, omega arith, refl))

listed_none : {X : Type 0} (xs : List X) → not (length xs == 0) ≡ false → (x : X) → Contains xs x → ⊥
listed_none [] e x c = let lt = c.1 in absurd (omega arith)
listed_none (y ∷ ys) e x c = true≢false (sym (ap not (ne_eqb (length (y ∷ ys)) 0 (λ same. absurd (omega arith)))) ∙ e)

module _ (w : PlainWallet) (h : History) (tip : ℕ) (c : Coin) (apart : AreDistinct w.pending) (rule : ParentsComeFirst w.pending) where
  unspent : is_spent h c.coin ≡ false → (s : Spend) → IsSpendOf h.confirmed c.coin s → ⊥
  unspent e s is = listed_none (spends_of h.confirmed c.coin) e s ((spends_are h.confirmed c.coin s).1 is)

  unspent_back : ((s : Spend) → IsSpendOf h.confirmed c.coin s → ⊥) → is_spent h c.coin ≡ false
  unspent_back none = none_listed (spends_of h.confirmed c.coin) (λ s is. none s ((spends_are h.confirmed c.coin s).0 is))

  unclaimed : is_claimed (view_of w h) c.coin ≡ false → (i : ℕ) → WaitsAt w h i → Spends c.coin (tx_at (view_of w h) i) → ⊥
  unclaimed e i at spends =
      true≢false (sym (any_has (λ i. is_pending (view_of w h) i && has_input c.coin (tx_at (view_of w h) i).inputs) (below (length w.pending)) i (below_has (length w.pending) i at.0)
      (and_from (is_pending (view_of w h) i) (has_input c.coin (tx_at (view_of w h) i).inputs) (waits_back (view_of w h) apart rule i at.0 at.1) (has_one c.coin (tx_at (view_of w h) i).inputs spends))) ∙ e)

  unclaimed_back : ((i : ℕ) → WaitsAt w h i → Spends c.coin (tx_at (view_of w h) i) → ⊥) → is_claimed (view_of w h) c.coin ≡ false
  unclaimed_back none = false_from_ne_true (is_claimed (view_of w h) c.coin) (λ e.
      let f = any_found (λ i. is_pending (view_of w h) i && has_input c.coin (tx_at (view_of w h) i).inputs) (below (length w.pending)) e in
      let lt = below_within (length w.pending) f.0 f.1 in
      let p = and_parts (is_pending (view_of w h) f.0) (has_input c.coin (tx_at (view_of w h) f.0).inputs) f.2 in
      none f.0 (lt, waits (view_of w h) apart rule f.0 lt p.0) (spends_by_one c.coin (tx_at (view_of w h) f.0).inputs p.1))

  unlocked : is_locked w c.coin ≡ false → Contains w.locked c.coin → ⊥
  unlocked e in_list = true≢false (sym (any_has (λ x. same_outpoint x c.coin) w.locked c.coin in_list ((same_outpoint-Decides c.coin c.coin).1 refl)) ∙ e)

  unlocked_back : (Contains w.locked c.coin → ⊥) → is_locked w c.coin ≡ false
  unlocked_back none = false_from_ne_true (is_locked w c.coin) (λ e.
      let f = any_found (λ x. same_outpoint x c.coin) w.locked e in
      none (subst (Contains w.locked) ((same_outpoint-Decides f.0 c.coin).0 f.2) f.1))

  abbrev Counts : Option ℕ → Type 0
  Counts height = (height ≢ None) ⊎ ((i : ℕ) × WaitsAt w h i × (txid_of (tx_at (view_of w h) i) ≡ c.coin.txid))

  live : (height : Option ℕ) → (is_some height || option_map_or (is_pending (view_of w h)) (place_in w.pending c.coin.txid) false) ≡ true → Counts height
  live (Some n) e = inl (λ none. none-some n (sym none))
  live None e = by (place_in w.pending c.coin.txid) refl e
    where
      by : (r : Option ℕ) → place_in w.pending c.coin.txid ≡ r → option_map_or (is_pending (view_of w h)) r false ≡ true → Counts None
      by None is e = absurd (true≢false (sym e))
      by (Some i) is e = let f = found_place w.pending c.coin.txid i is in inr (i, (f.0, waits (view_of w h) apart rule i f.0 e), sym f.1)

  live_back : (height : Option ℕ) → Counts height → (is_some height || option_map_or (is_pending (view_of w h)) (place_in w.pending c.coin.txid) false) ≡ true
  live_back (Some n) k = refl
  live_back None (inl k) = absurd (k refl)
  live_back None (inr k) =
      ap (λ (r : Option ℕ). option_map_or (is_pending (view_of w h)) r false) (own_place (view_of w h) k.0 c.coin.txid apart k.1.0 (sym k.2))
      ∙ waits_back (view_of w h) apart rule k.0 k.1.0 k.1.1

  pub may_be_spent : (is_candidate w h tip c ≡ true) ↔ MayBeSpent w h tip c
  unfolding is_candidate
  may_be_spent = (there, back)
    where
      there : (is_live w h c && (not (is_spent h c.coin) && (not (is_claimed (view_of w h) c.coin) && (not (is_locked w c.coin) && is_deep tip c)))) ≡ true → MayBeSpent w h tip c
      there e =
          let a = and_parts (is_live w h c) (not (is_spent h c.coin) && (not (is_claimed (view_of w h) c.coin) && (not (is_locked w c.coin) && is_deep tip c))) e in
          let b = and_parts (not (is_spent h c.coin)) (not (is_claimed (view_of w h) c.coin) && (not (is_locked w c.coin) && is_deep tip c)) a.1 in
          let d = and_parts (not (is_claimed (view_of w h) c.coin)) (not (is_locked w c.coin) && is_deep tip c) b.1 in
          let f = and_parts (not (is_locked w c.coin)) (is_deep tip c) d.1 in
          record {
            counts = live c.height a.0;
            unspent = unspent (not-true (is_spent h c.coin) b.0);
            unclaimed = unclaimed (not-true (is_claimed (view_of w h) c.coin) d.0);
            unlocked = unlocked (not-true (is_locked w c.coin) f.0);
            deep = deep_there tip c.coinbase c.height f.1;
          }

      back : MayBeSpent w h tip c → (is_live w h c && (not (is_spent h c.coin) && (not (is_claimed (view_of w h) c.coin) && (not (is_locked w c.coin) && is_deep tip c)))) ≡ true
      back m =
          and_from (is_live w h c) (not (is_spent h c.coin) && (not (is_claimed (view_of w h) c.coin) && (not (is_locked w c.coin) && is_deep tip c))) (live_back c.height m.counts)
          (and_from (not (is_spent h c.coin)) (not (is_claimed (view_of w h) c.coin) && (not (is_locked w c.coin) && is_deep tip c)) (not_from_false (is_spent h c.coin) (unspent_back m.unspent))
          (and_from (not (is_claimed (view_of w h) c.coin)) (not (is_locked w c.coin) && is_deep tip c) (not_from_false (is_claimed (view_of w h) c.coin) (unclaimed_back m.unclaimed))
          (and_from (not (is_locked w c.coin)) (is_deep tip c) (not_from_false (is_locked w c.coin) (unlocked_back m.unlocked)) (deep_back tip c.coinbase c.height m.deep))))
