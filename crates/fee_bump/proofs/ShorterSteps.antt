-- What is Pending stays so where other Pending ones are left out of the list.
use Rattle.std.proofs.Common.{◌≡◌, ◌∙◌, ◌⊎◌, inl, inr, ℕ, ◌<◌, Bool, true, false, length, filter, refl, sym, ap, subst, arith, Contains, AllPairs}
use Rattle.std.specs.List.{Any}
use Rattle.std.proofs.lemmas.List.{get_or_default}
use Rattle.std.proofs.lemmas.List.Kept.{AllPairs-filter}
use Rattle.fund_base.specs.declared.outpoint.OutPoint.{OutPoint}
use Rattle.tx_codec.specs.Transaction.{Transaction}
use Rattle.tx_codec.specs.Txid.{txid_of}
use Rattle.tx_codec.specs.declared.tx.TxIn.{TxIn}
use Rattle.wallet_text.specs.WalletRules.{AreDistinct}
use Rattle.coin_book.specs.Spends.{IsSpendOf}
use Rattle.coin_book.specs.declared.coin.Spend.{Spend}
use Rattle.payment_states.specs.Causes.{HasCause, HasNoReplacer, IsAlive, IsKin, IsParent, IsUnconfirmed, Spends}
use Rattle.payment_states.specs.Causes.IsKin.{above, itself}
use Rattle.payment_states.specs.PendingView.{PendingView, no_tx, tx_at}
use Rattle.payment_states.specs.declared.state.State.TheVariants as state
use Rattle.payment_facts.proofs.LeftSteps.{filter_in, in_filter}
use Rattle.payment_states.proofs.LookSteps.{one_place}

module _ (v : PendingView) (keep : Transaction → Bool) (apart : AreDistinct v.pending) where
  -- the list without those that aren't kept
  abbrev pub shorter : PendingView
  shorter = record { chain = v.chain; pending = filter keep v.pending; abandoned = v.abandoned }

  -- one transaction stands at a place of the shorter list and at a place of the whole
  pub record Same (b a : ℕ) : Type 0 where
    pub short : b < length (filter keep v.pending)
    pub long : a < length v.pending
    pub is : tx_at shorter b ≡ tx_at v a

  to_long : (b : ℕ) → b < length (filter keep v.pending) → (a : ℕ) × Same b a
  to_long b lt =
      let t = tx_at shorter b in
      let f = filter_in keep v.pending t (b, lt, get_or_default (filter keep v.pending) b t no_tx lt) in
      (f.0.0, record { short = lt; long = f.0.1; is = sym f.0.2 ∙ get_or_default v.pending f.0.0 t no_tx f.0.1 })

  pub to_short : (a : ℕ) → a < length v.pending → keep (tx_at v a) ≡ true → (b : ℕ) × Same b a
  to_short a lt kept =
      let t = tx_at v a in
      let c = in_filter keep v.pending t (a, lt, get_or_default v.pending a t no_tx lt) kept in
      (c.0, record { short = c.1; long = lt; is = sym (get_or_default (filter keep v.pending) c.0 t no_tx c.1) ∙ c.2 })

  -- the order stays
  abbrev IsBefore : Transaction → Transaction → Type 0
  IsBefore s t = (a c : ℕ) → a < length v.pending → c < length v.pending → tx_at v a ≡ s → tx_at v c ≡ t → a < c

  before : AllPairs IsBefore v.pending
  before i j d up within a c a_in c_in a_is c_is =
      let first : i < length v.pending = omega arith in
      let p : a ≡ i = one_place v i a apart first a_in (ap txid_of (get_or_default v.pending i no_tx d first ∙ sym a_is)) in
      let q : c ≡ j = one_place v j c apart within c_in (ap txid_of (get_or_default v.pending j no_tx d within ∙ sym c_is)) in
      omega arith

  order : {b a d c : ℕ} → Same b a → Same d c → b < d → a < c
  order {b = b} {a = a} {d = d} {c = c} s t lt = AllPairs-filter IsBefore keep v.pending before b d no_tx lt t.short a c s.long t.long (sym s.is) (sym t.is)

  -- ---- ways

  spends_same : {b a : ℕ} (o : OutPoint) → Same b a → Spends o (tx_at shorter b) → Spends o (tx_at v a)
  spends_same o s there = subst (Spends o) s.is there

  spends_back : {b a : ℕ} (o : OutPoint) → Same b a → Spends o (tx_at v a) → Spends o (tx_at shorter b)
  spends_back o s there = subst (Spends o) (sym s.is) there

  abbrev Child : Transaction → Transaction → Type 0
  Child p t = Any (λ (x : TxIn). x.prev.txid ≡ txid_of p) t.inputs

  parent_long : {b a p q : ℕ} → Same b a → Same p q → IsParent shorter b p → IsParent v a q
  parent_long {b = b} {a = a} {p = p} {q = q} s t h = record {
    stands = t.long;
    unconfirmed = subst (λ (x : Transaction). IsUnconfirmed v.chain (txid_of x)) t.is h.unconfirmed;
    spends = subst (λ (x : Transaction). Child x (tx_at v a)) t.is (subst (Child (tx_at shorter p)) s.is h.spends);
  }

  parent_short : {b a p q : ℕ} → Same b a → Same p q → IsParent v a q → IsParent shorter b p
  parent_short {b = b} {a = a} {p = p} {q = q} s t h = record {
    stands = t.short;
    unconfirmed = subst (λ (x : Transaction). IsUnconfirmed v.chain (txid_of x)) (sym t.is) h.unconfirmed;
    spends = subst (λ (x : Transaction). Child x (tx_at shorter b)) (sym t.is) (subst (Child (tx_at v q)) (sym s.is) h.spends);
  }

  kin_long : {b a d : ℕ} → Same b a → IsKin shorter b d → (c : ℕ) × Same d c × IsKin v a c
  kin_long {a = a} s itself = (a, s, itself)
  kin_long s (above {p = p} h k) =
      let m = to_long p h.stands in
      let rest = kin_long m.1 k in
      (rest.0, rest.1, above (parent_long s m.1 h) rest.2)

  -- a way in the whole list is one in the shorter list, or it comes to one that is left out
  record LeavesOut (c : ℕ) : Type 0 where
    pub place : ℕ
    pub stands : place < length v.pending
    pub dropped : keep (tx_at v place) ≡ false
    pub way : IsKin v place c

  Split : ℕ → ℕ → Type 0
  Split b c = ((d : ℕ) × Same d c × IsKin shorter b d) ⊎ LeavesOut c

  kin_split : {b a c : ℕ} → Same b a → IsKin v a c → Split b c
  unfolding Split
  kin_split {b = b} s itself = inl (b, s, itself)
  kin_split {b = b} {c = c} s (above {p = p} h k) = by (keep (tx_at v p)) refl (λ (e : ℕ) (t : Same e p). kin_split t k)
    where
      more : (e : ℕ) (t : Same e p) → Split e c → Split b c
      more e t (inl (d, same, way)) = inl (d, same, above (parent_short s t h) way)
      more e t (inr out) = inr out

      by : (kept : Bool) → keep (tx_at v p) ≡ kept → ((e : ℕ) → Same e p → Split e c) → Split b c
      by true e rest = let m = to_short p h.stands e in more m.0 m.1 (rest m.0 m.1)
      by false e rest = inr (record { place = p; stands = h.stands; dropped = e; way = k })

  -- ---- states

  module _ (dropped : (p : ℕ) → p < length v.pending → keep (tx_at v p) ≡ false → IsAlive v p) where
    alive_long : {b a : ℕ} → Same b a → IsAlive shorter b → IsAlive v a
    unfolding Split
    alive_long {b = b} {a = a} s alive = record {
      unconfirmed = subst (λ (x : Transaction). IsUnconfirmed v.chain (txid_of x)) s.is alive.unconfirmed;
      unconflicted = λ spend (m, o, way, there, is). conflict spend m o there is (kin_split s way);
      kept = λ (m, way, listed). abandoned m listed (kin_split s way);
    }
      where
        conflict : (spend : Spend) (m : ℕ) (o : OutPoint) → Spends o (tx_at v m) → IsSpendOf v.chain o spend → Split b m → ⊥
        conflict spend m o there is (inl (d, same, way)) = alive.unconflicted spend (d, o, way, spends_back o same there, is)
        conflict spend m o there is (inr out) = (dropped out.place out.stands out.dropped).unconflicted spend (m, o, out.way, there, is)

        abandoned : (m : ℕ) → Contains v.abandoned (txid_of (tx_at v m)) → Split b m → ⊥
        abandoned m listed (inl (d, same, way)) = alive.kept (d, way, subst (λ (x : Transaction). Contains v.abandoned (txid_of x)) (sym same.is) listed)
        abandoned m listed (inr out) = (dropped out.place out.stands out.dropped).kept (m, out.way, listed)

    alive_short : {b a : ℕ} → Same b a → IsAlive v a → IsAlive shorter b
    alive_short {b = b} {a = a} s alive = record {
      unconfirmed = subst (λ (x : Transaction). IsUnconfirmed v.chain (txid_of x)) (sym s.is) alive.unconfirmed;
      unconflicted = λ spend (m, o, way, there, is). let r = kin_long s way in alive.unconflicted spend (r.0, o, r.2, spends_same o r.1 there, is);
      kept = λ (m, way, listed). let r = kin_long s way in alive.kept (r.0, r.2, subst (λ (x : Transaction). Contains v.abandoned (txid_of x)) r.1.is listed);
    }

    no_replacer : {b a : ℕ} → Same b a → HasNoReplacer v a → HasNoReplacer shorter b
    no_replacer s none d k way rep =
        let r = kin_long s way in
        let m = to_long k rep.stands in
        none r.0 m.0 r.2 (record {
          stands = m.1.long;
          later = order r.1 m.1 rep.later;
          alike = (rep.alike.0, spends_same rep.alike.0 r.1 rep.alike.1, spends_same rep.alike.0 m.1 rep.alike.2);
          alive = alive_long m.1 rep.alive;
        })

    -- where all that are left out are alive, a Pending one that stays is Pending in the shorter list
    pub still_pending : {b a : ℕ} → Same b a → HasCause v a state.Pending → HasCause shorter b state.Pending
    still_pending s cause = (alive_short s cause.0, no_replacer s cause.1)
