-- What a replacement is made from, by the rules.
use Rattle.std.proofs.Common.{◌≡◌, ◌≢◌, ◌∙◌, ◌⊎◌, inl, inr, ℕ, ◌<◌, ◌≤◌, ◌++◌, ◌&&◌, not, Bool, true, false, cond, List, [], ◌∷◌, length, map, Option, Some, None, refl, sym, ap, subst, arith, Contains, All}
use Rattle.std.specs.Prelude.{bytes_eq, fold, option_map, ◌↔◌}
use Rattle.std.specs.List.{Any, cons_option, filter_map, flat_map, list_any}
use Rattle.std.proofs.lemmas.Bool.{and_from, and_parts, false_from_ne_true, not-true, true≢false}
use Rattle.std.proofs.lemmas.List.Elements.{All-contains, All-contains_itself, All-head, All-weaker, Contains-append_cases, Contains-append_left, Contains-append_right}
use Rattle.std.proofs.lemmas.List.Folds.{list_any_none}
use Rattle.std.proofs.lemmas.Option.{none-some, same_Some}
use Rattle.std.proofs.lemmas.Slice.Eq.{bytes_eq-Decides}
use Rattle.fund_base.specs.Outpoints.{same_outpoint}
use Rattle.coin_candidates.specs.declared.candidate.Candidate.{Candidate}
use Rattle.fund_base.specs.declared.outpoint.OutPoint.{OutPoint}
use Rattle.fund_base.proofs.Lists.{any_found, cons_cases, in_tail}
use Rattle.fund_base.proofs.OutpointLaws.{same_outpoint-Decides}
use Rattle.tx_codec.specs.Transaction.{Transaction}
use Rattle.tx_codec.specs.Txid.{txid_of}
use Rattle.tx_codec.specs.declared.tx.TxIn.{TxIn}
use Rattle.wallet_text.specs.PlainWallet.{PlainWallet}
use Rattle.wallet_text.specs.WalletRules.{AreDistinct, IsWallet, ParentsComeFirst}
use Rattle.request_text.specs.PlainRequest.{PlainRequest}
use Rattle.coin_book.specs.AtOutpoint.{coin_under}
use Rattle.coin_book.specs.Faults.{fault_of as book_fault}
use Rattle.coin_book.specs.History.{History}
use Rattle.coin_book.specs.declared.coin.Coin.{Coin}
use Rattle.payment_facts.specs.AnyCoin.{facts_among, facts_at}
use Rattle.payment_states.specs.BookOf.{IsBookOf}
use Rattle.payment_states.specs.Candidates.{candidate_of}
use Rattle.payment_states.specs.Graph.{IsInOrder}
use Rattle.payment_facts.specs.LeftOut.{confirmed_without_of}
use Rattle.payment_states.specs.PendingView.{PendingView, graph, is_listed, no_tx, place_in, tx_at, view_of}
use Rattle.payment_facts.proofs.AnySteps.{own_facts, under}
use Rattle.payment_states.proofs.KinSteps.{count, tests}
use Rattle.payment_facts.proofs.LeftSteps.{filter_in, in_filter, map_from, map_has}
use Rattle.payment_states.proofs.MakerSteps.{at_height}
use Rattle.payment_states.proofs.Order.{order_from_rule}
use Rattle.payment_states.proofs.Paths.{any_has, decides, no_later}
use Rattle.known_fees.specs.Worth.{spent_by}
use Rattle.known_fees.proofs.OnceSteps.{once_from, once_has}
use Rattle.fee_bump.specs.Bump.{added_of, is_among, payment_place, presets_at, replaced_at, terms_of}
use Rattle.fee_bump.specs.Faults.{fault_of, points_of}
use Rattle.known_fees.specs.Worth.{IsKnown}
use Rattle.fee_bump.specs.Meant.{CanReplace, GoesWith}
use Rattle.fee_bump.proofs.CauseLaws.{bump_clear}
use Rattle.fee_bump.proofs.GoesSteps.{own_replaced, replaced_place}

-- ---- what the payment spends

pub spends_none : (w : PendingView) (apart : AreDistinct w.pending) (rule : ParentsComeFirst w.pending) (i : ℕ) → i < length w.pending → All (λ (x : TxIn). All (λ (t : Transaction). txid_of t ≢ x.prev.txid) (replaced_at w i)) (tx_at w i).inputs
spends_none w apart rule i lt =
    All-weaker (Contains (tx_at w i).inputs) (λ (x : TxIn). All (λ (t : Transaction). txid_of t ≢ x.prev.txid) (replaced_at w i))
    (λ x in'. All-weaker (Contains (replaced_at w i)) (λ (t : Transaction). txid_of t ≢ x.prev.txid) (λ t there. other x in' t (replaced_place w apart rule i t there)) (replaced_at w i) (All-contains_itself (replaced_at w i)))
    (tx_at w i).inputs (All-contains_itself (tx_at w i).inputs)
  where
    other : (x : TxIn) → Contains (tx_at w i).inputs x → (t : Transaction) → (j : ℕ) × GoesWith w i j × (tx_at w j ≡ t) → txid_of t ≢ x.prev.txid
    other x in' t (j, g, is) same =
        let n = count w apart rule in
        let order : IsInOrder (graph w) = order_from_rule w.chain w.pending rule in
        let j_in = g.stands in
        let le : i ≤ j = no_later (graph w) order ((decides (graph w) j i order (omega arith)).0 (tests w apart rule j i g.stands g.descends)) (omega arith) in
        All-contains (λ (x : TxIn). x.prev.txid ≢ txid_of (tx_at w j)) (tx_at w i).inputs x (rule i j no_tx le g.stands) in' (sym same ∙ ap txid_of (sym is))

-- ---- coins of outpoints

pub given_has : {X Y : Type 0} (f : X → Option Y) (xs : List X) (x : X) (y : Y) → Contains xs x → f x ≡ Some y → Contains (filter_map f xs) y
given_has f [] x y c e = let lt = c.1 in absurd (omega arith)
given_has {X = X} {Y = Y} f (z ∷ xs) x y c e = by (cons_cases z xs x c) (λ h. given_has f xs x y h e)
  where
    behind : (o : Option Y) → Contains (filter_map f xs) y → Contains (cons_option o (filter_map f xs)) y
    behind None h = h
    behind (Some v) h = in_tail v (filter_map f xs) y h

    by : (z ≡ x) ⊎ Contains xs x → (Contains xs x → Contains (filter_map f xs) y) → Contains (cons_option (f z) (filter_map f xs)) y
    by (inl s) rest = subst (λ (o : Option Y). Contains (cons_option o (filter_map f xs)) y) (sym (ap f s ∙ e)) (0, omega arith, refl)
    by (inr h) rest = behind (f z) (rest h)

pub given_from : {X Y : Type 0} (f : X → Option Y) (xs : List X) (y : Y) → Contains (filter_map f xs) y → (x : X) × Contains xs x × (f x ≡ Some y)
given_from f [] y c = let lt = c.1 in absurd (omega arith)
given_from {X = X} {Y = Y} f (z ∷ xs) y c = by (f z) refl c (λ h. given_from f xs y h)
  where
    later : (x : X) × Contains xs x × (f x ≡ Some y) → (x : X) × Contains (z ∷ xs) x × (f x ≡ Some y)
    later m = (m.0, in_tail z xs m.0 m.1, m.2)

    at : (v : Y) → f z ≡ Some v → (v ≡ y) ⊎ Contains (filter_map f xs) y → (Contains (filter_map f xs) y → (x : X) × Contains xs x × (f x ≡ Some y)) → (x : X) × Contains (z ∷ xs) x × (f x ≡ Some y)
    at v e (inl s) rest = (z, (0, omega arith, refl), e ∙ ap (λ (u : Y). Some u) s)
    at v e (inr i) rest = later (rest i)

    by : (o : Option Y) → f z ≡ o → Contains (cons_option o (filter_map f xs)) y → (Contains (filter_map f xs) y → (x : X) × Contains xs x × (f x ≡ Some y)) → (x : X) × Contains (z ∷ xs) x × (f x ≡ Some y)
    by None e h rest = later (rest h)
    by (Some v) e h rest = at v e (cons_cases v (filter_map f xs) y h) rest

-- what is known of a coin is known of the one at that outpoint
pub point_is : (w : PlainWallet) (h : History) (tip rate : ℕ) (o : OutPoint) (c : Candidate) → facts_at w h tip rate o ≡ Some c → c.coin ≡ o
unfolding facts_at
point_is w h tip rate o c e = by (coin_under h o) refl e
  where
    by : (r : Option Coin) → coin_under h o ≡ r → option_map (candidate_of w h tip rate) r ≡ Some c → c.coin ≡ o
    by None is e = absurd (none-some c e)
    by (Some k) is e =
        let u = under h o k is in
        ap (λ (x : Candidate). x.coin) (sym (same_Some (candidate_of w h tip rate k) c e)) ∙ (at_height w h tip rate k k.height (place_in w.pending k.coin.txid)).point ∙ sym u.point

-- ---- what may be added

among_told : (presets : List Candidate) (c : Candidate) → is_among presets c ≡ false → All (λ (p : Candidate). p.coin ≢ c.coin) presets
among_told presets c e =
    All-weaker (Contains presets) (λ (p : Candidate). p.coin ≢ c.coin)
    (λ p there same. true≢false (sym (any_has (λ (p : Candidate). same_outpoint c.coin p.coin) presets p there ((same_outpoint-Decides c.coin p.coin).1 (sym same))) ∙ e)) presets (All-contains_itself presets)

among_back : (presets : List Candidate) (c : Candidate) → All (λ (p : Candidate). p.coin ≢ c.coin) presets → is_among presets c ≡ false
among_back presets c all =
    list_any_none (λ (p : Candidate). same_outpoint c.coin p.coin) presets
    (All-weaker (λ (p : Candidate). p.coin ≢ c.coin) (λ (p : Candidate). same_outpoint c.coin p.coin ≡ false) (λ p ne. false_from_ne_true (same_outpoint c.coin p.coin) (λ s. ne (sym ((same_outpoint-Decides c.coin p.coin).0 s)))) presets all)

listed_told : (txids : List (List ℕ)) (txid : List ℕ) → is_listed txids txid ≡ false → All (λ (t : List ℕ). t ≢ txid) txids
listed_told txids txid e =
    All-weaker (Contains txids) (λ (t : List ℕ). t ≢ txid) (λ t there same. true≢false (sym (any_has (λ x. bytes_eq x txid) txids t there ((bytes_eq-Decides t txid).1 same)) ∙ e)) txids (All-contains_itself txids)

listed_back : (txids : List (List ℕ)) (txid : List ℕ) → All (λ (t : List ℕ). t ≢ txid) txids → is_listed txids txid ≡ false
listed_back txids txid all =
    list_any_none (λ x. bytes_eq x txid) txids
    (All-weaker (λ (t : List ℕ). t ≢ txid) (λ (t : List ℕ). bytes_eq t txid ≡ false) (λ t ne. false_from_ne_true (bytes_eq t txid) (λ s. ne ((bytes_eq-Decides t txid).0 s))) txids all)

pub added_told : (presets coins : List Candidate) (gone : List (List ℕ)) (c : Candidate)
    → (Contains (added_of presets coins gone) c ↔ (Contains coins c × All (λ (p : Candidate). p.coin ≢ c.coin) presets × All (λ (txid : List ℕ). txid ≢ c.coin.txid) gone))
added_told presets coins gone c = (there, back)
  where
    test : Candidate → Bool
    test x = not (is_among presets x) && not (is_listed gone x.coin.txid)

    there : Contains (added_of presets coins gone) c → Contains coins c × All (λ (p : Candidate). p.coin ≢ c.coin) presets × All (λ (txid : List ℕ). txid ≢ c.coin.txid) gone
    there in' =
        let f = filter_in test coins c in' in
        let b = and_parts (not (is_among presets c)) (not (is_listed gone c.coin.txid)) f.1 in
        (f.0, among_told presets c (not-true (is_among presets c) b.0), listed_told gone c.coin.txid (not-true (is_listed gone c.coin.txid) b.1))

    back : Contains coins c × All (λ (p : Candidate). p.coin ≢ c.coin) presets × All (λ (txid : List ℕ). txid ≢ c.coin.txid) gone → Contains (added_of presets coins gone) c
    back h =
        in_filter test coins c h.0
        (and_from (not (is_among presets c)) (not (is_listed gone c.coin.txid)) (ap not (among_back presets c h.1)) (ap not (listed_back gone c.coin.txid h.2)))

pub added_is : (w : PlainWallet) (h : History) (tip : ℕ) (r : PlainRequest) (c : Candidate)
    → (Contains (terms_of w h tip r).candidates c
    ↔ (Contains (confirmed_without_of w h tip (terms_of w h tip r).replaced) c × All (λ (p : Candidate). p.coin ≢ c.coin) (terms_of w h tip r).presets × All (λ (txid : List ℕ). txid ≢ c.coin.txid) (terms_of w h tip r).replaced))
unfolding terms_of
added_is w h tip r c = added_told (terms_of w h tip r).presets (confirmed_without_of w h tip (terms_of w h tip r).replaced) (terms_of w h tip r).replaced c

-- ---- the presets

head_of : {X : Type 0} (P : X → Type 0) (xs : List X) → 0 < length xs → All P xs → (x : X) × P x
head_of P [] lt h = absurd (omega arith)
head_of P (x ∷ xs) lt h = (x, All-head P x xs h)

flat_has : {X Y : Type 0} (f : X → List Y) (xs : List X) (x : X) (y : Y) → Contains xs x → Contains (f x) y → Contains (flat_map f xs) y
flat_has f [] x y c d = let lt = c.1 in absurd (omega arith)
flat_has {X = X} {Y = Y} f (z ∷ xs) x y c d = by (cons_cases z xs x c) (λ h. flat_has f xs x y h d)
  where
    by : (z ≡ x) ⊎ Contains xs x → (Contains xs x → Contains (flat_map f xs) y) → Contains (f z ++ flat_map f xs) y
    by (inl e) rest = Contains-append_left (f z) (flat_map f xs) y (subst (λ (u : X). Contains (f u) y) (sym e) d)
    by (inr h) rest = Contains-append_right (f z) (flat_map f xs) y (rest h)

module _ (w : PlainWallet) (h : History) (tip : ℕ) (r : PlainRequest) (rules : IsWallet w) (book : IsBookOf w h) (sound : book_fault h ≡ None) where
  abbrev place : ℕ
  place = payment_place (view_of w h) r

  abbrev payment : Transaction
  payment = tx_at (view_of w h) place

  pub preset_only : All (λ (c : Candidate). Any (λ (x : TxIn). x.prev ≡ c.coin) payment.inputs × (facts_at w h tip r.rate c.coin ≡ Some c)) (terms_of w h tip r).presets
  unfolding terms_of presets_at
  preset_only =
      All-weaker (Contains (facts_among w h tip r.rate (spent_by payment))) (λ (c : Candidate). Any (λ (x : TxIn). x.prev ≡ c.coin) payment.inputs × (facts_at w h tip r.rate c.coin ≡ Some c)) each
      (facts_among w h tip r.rate (spent_by payment)) (All-contains_itself (facts_among w h tip r.rate (spent_by payment)))
    where
      each : (c : Candidate) → Contains (facts_among w h tip r.rate (spent_by payment)) c → Any (λ (x : TxIn). x.prev ≡ c.coin) payment.inputs × (facts_at w h tip r.rate c.coin ≡ Some c)
      each c there =
          let g = given_from (facts_at w h tip r.rate) (spent_by payment) c there in
          let m = map_from (λ (i : TxIn). i.prev) payment.inputs g.0 (once_from (map (λ (i : TxIn). i.prev) payment.inputs) g.0 g.1) in
          let point = point_is w h tip r.rate g.0 c g.2 in
          ((m.1.0, m.0, m.1.1, m.1.2, m.2 ∙ sym point), ap (facts_at w h tip r.rate) point ∙ g.2)

  pub preset_spent : (txid : List ℕ) → r.bump ≡ Some txid → fault_of w h r ≡ None → All (λ (x : TxIn). Any (λ (c : Candidate). c.coin ≡ x.prev) (terms_of w h tip r).presets) payment.inputs
  unfolding terms_of presets_at
  preset_spent txid asked clear =
      All-weaker (Contains payment.inputs) (λ (x : TxIn). Any (λ (c : Candidate). c.coin ≡ x.prev) (facts_among w h tip r.rate (spent_by payment))) each payment.inputs (All-contains_itself payment.inputs)
    where
      can : CanReplace w h r place
      can = bump_clear w h r rules txid asked clear

      own : Contains (replaced_at (view_of w h) place) payment
      own = own_replaced (view_of w h) rules.pending_distinct rules.parents place can.reckoned.offered.named.stands can.reckoned.offered.waits

      from_known : (x : TxIn) → Contains payment.inputs x → IsKnown h (replaced_at (view_of w h) place) x.prev → Any (λ (c : Candidate). c.coin ≡ x.prev) (facts_among w h tip r.rate (spent_by payment))
      from_known x there (inl (k, in_book, same)) =
          let facts : facts_at w h tip r.rate x.prev ≡ Some (candidate_of w h tip r.rate k) = ap (facts_at w h tip r.rate) (sym same) ∙ own_facts w h tip r.rate k rules book sound in_book in
          let spent = once_has (map (λ (i : TxIn). i.prev) payment.inputs) x.prev (map_has (λ (i : TxIn). i.prev) payment.inputs x there) in
          let g = given_has (facts_at w h tip r.rate) (spent_by payment) x.prev (candidate_of w h tip r.rate k) spent facts in
          (g.0, candidate_of w h tip r.rate k, g.1, g.2, point_is w h tip r.rate x.prev (candidate_of w h tip r.rate k) facts)
      from_known x there (inr (t, in', same, lt)) =
          let none = All-contains (λ (x : TxIn). All (λ (t : Transaction). txid_of t ≢ x.prev.txid) (replaced_at (view_of w h) place)) payment.inputs x (spends_none (view_of w h) rules.pending_distinct rules.parents place can.reckoned.offered.named.stands) there in
          absurd (All-contains (λ (t : Transaction). txid_of t ≢ x.prev.txid) (replaced_at (view_of w h) place) t none in' same)

      each : (x : TxIn) → Contains payment.inputs x → Any (λ (c : Candidate). c.coin ≡ x.prev) (facts_among w h tip r.rate (spent_by payment))
      each x there =
          from_known x there
          (All-contains (IsKnown h (replaced_at (view_of w h) place)) (points_of (replaced_at (view_of w h) place)) x.prev can.reckoned.known
          (flat_has (λ (t : Transaction). map (λ (i : TxIn). i.prev) t.inputs) (replaced_at (view_of w h) place) payment x.prev own (map_has (λ (i : TxIn). i.prev) payment.inputs x there)))

  pub preset_some : (txid : List ℕ) → r.bump ≡ Some txid → fault_of w h r ≡ None → 0 < length (terms_of w h tip r).presets
  preset_some txid asked clear =
      let can : CanReplace w h r place = bump_clear w h r rules txid asked clear in
      let some : 0 < length payment.inputs = (rules.pending place no_tx can.reckoned.offered.named.stands).inputs_some in
      let first = head_of (λ (x : TxIn). Any (λ (c : Candidate). c.coin ≡ x.prev) (terms_of w h tip r).presets) payment.inputs some (preset_spent txid asked clear) in
      let within : first.1.0 < length (terms_of w h tip r).presets = first.1.2 in
      omega arith
