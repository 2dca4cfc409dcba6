-- A signed transaction that doesn't settle a payment has one fault, and one that does has none.
use Rattle.std.proofs.Common.{◌≡◌, ◌≢◌, ◌∙◌, ◌+◌, ◌<◌, ◌≤◌, ◌⊎◌, ◌↔◌, ℕ, ℤ, List, length, map, Result, Ok, Err, refl, sym, ap, subst, inl, inr, arith}
use Rattle.std.proofs.lemmas.List.{length-map}
use Rattle.std.specs.Prelude.{IsOk, pos, slice_get, ◌-ℤ◌}
use Rattle.std.proofs.lemmas.Option.{same_Some}
use Rattle.fund_base.specs.Least.{IsLeast}
use Rattle.psbt_codec.specs.Fault.{shown}
use Rattle.tx_codec.specs.declared.tx.TxIn.{TxIn}
use Rattle.tx_codec.specs.declared.tx.TxOut.{TxOut}
use Rattle.tx_codec.specs.Transaction.{Transaction}
use Rattle.tx_codec.specs.Weight.{weight_of}
use Rattle.settle_check.specs.declared.fault.Differing.{Differing}
use Rattle.settle_check.specs.declared.fault.Differing.TheVariants.{Version, Locktime, Count, Input, Output}
use Rattle.settle_check.specs.declared.fault.SettleFault.{SettleFault}
use Rattle.settle_check.specs.declared.fault.SettleFault.TheVariants.{Report, NotFunded, Psbt, NoValue, Foreign, Differs, Unsigned, Heavier, TooHeavy, BelowRate}
use Rattle.settle_check.specs.declared.judging.Settled.{Settled}
use Rattle.settle_check.specs.Broken.{IsBelow, IsDifference, IsFirstHeavier, IsFirstOther, IsFirstUnsigned, IsHeavierAt, IsSettleFault, IsUnsignedAt}
use Rattle.settle_check.specs.Settled.{AreSigned, AreWithin, IsSamePayment, IsUnsigned, Settles, bare_input, needed_of, true_weight_of, worth_of}
use Rattle.settle_check.proofs.FirstLaws.{one_least, read_all}

-- ---- one fault of each part

one_shown : (P : ℕ → Type 0) (m n i j : ℕ) → IsLeast P m → IsLeast P n → i ≡ shown m → j ≡ shown n → i ≡ j
one_shown P m n i j a b p q = p ∙ ap shown (one_least P m n a b) ∙ sym q

one_other : {X : Type 0} (xs ys : List X) (i j : ℕ) → IsFirstOther xs ys i → IsFirstOther xs ys j → i ≡ j
one_other xs ys i j a b = one_shown (λ k. slice_get xs k ≢ slice_get ys k) a.place b.place i j a.first b.first a.index_is b.index_is

never_other : {X : Type 0} (xs ys : List X) (i : ℕ) → xs ≡ ys → IsFirstOther xs ys i → ⊥
never_other {X = X} xs ys i e a = a.first.holds (ap (λ (l : List X). slice_get l a.place) e)

-- a count differs, or both agree
uncounted : (tx signed : Transaction) → (length signed.inputs ≢ length tx.inputs) ⊎ (length signed.outputs ≢ length tx.outputs) → length signed.inputs ≡ length tx.inputs → length signed.outputs ≡ length tx.outputs → ⊥
uncounted tx signed (inl h) a b = h a
uncounted tx signed (inr h) a b = h b

pub one_difference : (tx signed : Transaction) (d e : Differing) → IsDifference tx signed d → IsDifference tx signed e → d ≡ e
one_difference tx signed Version Version p q = refl
one_difference tx signed Version Locktime p q = absurd (p q.0)
one_difference tx signed Version Count p q = absurd (p q.0.0)
one_difference tx signed Version (Input j) p q = absurd (p q.0.0.0)
one_difference tx signed Version (Output j) p q = absurd (p q.0.0.0)
one_difference tx signed Locktime Version p q = absurd (q p.0)
one_difference tx signed Locktime Locktime p q = refl
one_difference tx signed Locktime Count p q = absurd (p.1 q.0.1)
one_difference tx signed Locktime (Input j) p q = absurd (p.1 q.0.0.1)
one_difference tx signed Locktime (Output j) p q = absurd (p.1 q.0.0.1)
one_difference tx signed Count Version p q = absurd (q p.0.0)
one_difference tx signed Count Locktime p q = absurd (q.1 p.0.1)
one_difference tx signed Count Count p q = refl
one_difference tx signed Count (Input j) p q = absurd (uncounted tx signed p.1 q.0.1 q.0.2)
one_difference tx signed Count (Output j) p q = absurd (uncounted tx signed p.1 q.0.1 q.0.2)
one_difference tx signed (Input i) Version p q = absurd (q p.0.0.0)
one_difference tx signed (Input i) Locktime p q = absurd (q.1 p.0.0.1)
one_difference tx signed (Input i) Count p q = absurd (uncounted tx signed q.1 p.0.1 p.0.2)
one_difference tx signed (Input i) (Input j) p q = ap Input (one_other (map bare_input signed.inputs) (map bare_input tx.inputs) i j p.1 q.1)
one_difference tx signed (Input i) (Output j) p q = absurd (never_other (map bare_input signed.inputs) (map bare_input tx.inputs) i q.1 p.1)
one_difference tx signed (Output i) Version p q = absurd (q p.0.0.0)
one_difference tx signed (Output i) Locktime p q = absurd (q.1 p.0.0.1)
one_difference tx signed (Output i) Count p q = absurd (uncounted tx signed q.1 p.0.1 p.0.2)
one_difference tx signed (Output i) (Input j) p q = absurd (never_other (map bare_input signed.inputs) (map bare_input tx.inputs) j p.1 q.1)
one_difference tx signed (Output i) (Output j) p q = ap Output (one_other signed.outputs tx.outputs i j p.2 q.2)

pub same_count : (xs ys : List TxIn) → map bare_input xs ≡ map bare_input ys → length xs ≡ length ys
same_count xs ys e = sym (length-map xs bare_input) ∙ ap (λ (l : List TxIn). length l) e ∙ length-map ys bare_input

-- the same payment isn't another one
pub no_difference : (tx signed : Transaction) (d : Differing) → IsDifference tx signed d → IsSamePayment tx signed → ⊥
no_difference tx signed Version p s = p s.version
no_difference tx signed Locktime p s = p.1 s.locktime
no_difference tx signed Count p s = uncounted tx signed p.1 (same_count signed.inputs tx.inputs s.inputs) (ap (λ (l : List TxOut). length l) s.outputs)
no_difference tx signed (Input i) p s = never_other (map bare_input signed.inputs) (map bare_input tx.inputs) i s.inputs p.1
no_difference tx signed (Output i) p s = never_other signed.outputs tx.outputs i s.outputs p.2

one_unsigned : (inputs : List TxIn) (i j : ℕ) → IsFirstUnsigned inputs i → IsFirstUnsigned inputs j → i ≡ j
one_unsigned inputs i j a b = one_shown (IsUnsignedAt inputs) a.place b.place i j a.first b.first a.index_is b.index_is

no_unsigned : (inputs : List TxIn) (i : ℕ) → IsFirstUnsigned inputs i → AreSigned inputs → ⊥
no_unsigned inputs i a all = let h = a.first.holds in read_all (λ (x : TxIn). IsUnsigned x → ⊥) inputs a.place h.0 all h.1 h.2

no_heavier : (declared : List ℕ) (signed : Transaction) (i most weight : ℕ) → IsFirstHeavier declared signed i most weight → AreWithin declared signed → ⊥
no_heavier declared signed i most weight a within =
    let b = a.by_so_much in
    let le = within a.place most b.input b.told b.stands in
    omega (arith, b.weighs, b.more, le)

-- ---- faults one after another

-- a fault of this part, or, where it is whole, of a later one
abbrev Then : (SettleFault → Type 0) → Type 0 → (SettleFault → Type 0) → SettleFault → Type 0
Then Broken Whole Rest f = Broken f ⊎ (Whole × Rest f)

abbrev One : (SettleFault → Type 0) → Type 0
One Broken = (f g : SettleFault) → Broken f → Broken g → f ≡ g

one_then : (Broken : SettleFault → Type 0) (Whole : Type 0) (Rest : SettleFault → Type 0) → One Broken → ((f : SettleFault) → Broken f → Whole → ⊥) → One Rest → One (Then Broken Whole Rest)
one_then Broken Whole Rest one never more f g (inl a) (inl b) = one f g a b
one_then Broken Whole Rest one never more f g (inl a) (inr b) = absurd (never f a b.0)
one_then Broken Whole Rest one never more f g (inr a) (inl b) = absurd (never g b a.0)
one_then Broken Whole Rest one never more f g (inr a) (inr b) = more f g a.1 b.1

never_then : (Broken : SettleFault → Type 0) (Whole : Type 0) (Rest : SettleFault → Type 0) → ((f : SettleFault) → Broken f → Whole → ⊥) → (f : SettleFault) → Whole → (Rest f → ⊥) → Then Broken Whole Rest f → ⊥
never_then Broken Whole Rest never f whole rest (inl a) = never f a whole
never_then Broken Whole Rest never f whole rest (inr a) = rest a.1

record Other (tx signed : Transaction) (f : SettleFault) : Type 0 where
  pub part : Differing
  pub is : f ≡ Differs part
  pub broken : IsDifference tx signed part

record Bare (signed : Transaction) (f : SettleFault) : Type 0 where
  pub index : ℕ
  pub is : f ≡ Unsigned index
  pub broken : IsFirstUnsigned signed.inputs index

record Heavy (declared : List ℕ) (signed : Transaction) (f : SettleFault) : Type 0 where
  pub index : ℕ
  pub most : ℕ
  pub weight : ℕ
  pub is : f ≡ Heavier index most weight
  pub broken : IsFirstHeavier declared signed index most weight

record Large (signed : Transaction) (f : SettleFault) : Type 0 where
  pub is : f ≡ TooHeavy (weight_of signed)
  pub more : 400_000 < weight_of signed

record Low (spent : List TxOut) (signed : Transaction) (rate : ℕ) (f : SettleFault) : Type 0 where
  pub fee : ℤ
  pub needed : ℕ
  pub is : f ≡ BelowRate fee needed
  pub broken : IsBelow spent signed rate fee needed

one_large : (signed : Transaction) → One (Large signed)
one_large signed f g a b = a.is ∙ sym b.is

one_low : (spent : List TxOut) (signed : Transaction) (rate : ℕ) → One (Low spent signed rate)
one_low spent signed rate f g a b =
    let fee : a.fee ≡ b.fee = a.broken.fee_is ∙ sym b.broken.fee_is in
    let needed : a.needed ≡ b.needed = a.broken.needed_is ∙ sym b.broken.needed_is in
    let is = a.is in
    let is' = b.is in
    cc

one_heavy : (declared : List ℕ) (signed : Transaction) → One (Heavy declared signed)
one_heavy declared signed f g a b =
    let x = a.broken in
    let y = b.broken in
    let place : x.place ≡ y.place = one_least (IsHeavierAt declared signed) x.place y.place x.first y.first in
    let index : a.index ≡ b.index = x.index_is ∙ ap shown place ∙ sym y.index_is in
    let most : a.most ≡ b.most = same_Some a.most b.most (sym x.by_so_much.told ∙ ap (λ (k : ℕ). slice_get declared k) place ∙ y.by_so_much.told) in
    let input : x.by_so_much.input ≡ y.by_so_much.input = same_Some _ _ (sym x.by_so_much.stands ∙ ap (λ (k : ℕ). slice_get signed.inputs k) place ∙ y.by_so_much.stands) in
    let weight : a.weight ≡ b.weight = x.by_so_much.weighs ∙ ap (λ (i : TxIn). true_weight_of signed.segwit i) input ∙ sym y.by_so_much.weighs in
    let is = a.is in
    let is' = b.is in
    cc

abbrev Chain : Transaction → List TxOut → List ℕ → Transaction → ℕ → SettleFault → Type 0
Chain tx spent declared signed rate =
    Then (Other tx signed) (IsSamePayment tx signed) (Then (Bare signed) (AreSigned signed.inputs) (Then (Heavy declared signed) (AreWithin declared signed) (Then (Large signed) (weight_of signed ≤ 400_000) (Low spent signed rate))))

never_different : (tx signed : Transaction) (f : SettleFault) → Other tx signed f → IsSamePayment tx signed → ⊥
never_different tx signed f a same = no_difference tx signed a.part a.broken same

never_bare : (signed : Transaction) (f : SettleFault) → Bare signed f → AreSigned signed.inputs → ⊥
never_bare signed f a all = no_unsigned signed.inputs a.index a.broken all

never_heavy : (declared : List ℕ) (signed : Transaction) (f : SettleFault) → Heavy declared signed f → AreWithin declared signed → ⊥
never_heavy declared signed f a within = no_heavier declared signed a.index a.most a.weight a.broken within

never_large : (signed : Transaction) (f : SettleFault) → Large signed f → weight_of signed ≤ 400_000 → ⊥
never_large signed f a le = omega (arith, a.more, le)

one_chain : (tx : Transaction) (spent : List TxOut) (declared : List ℕ) (signed : Transaction) (rate : ℕ) → One (Chain tx spent declared signed rate)
one_chain tx spent declared signed rate =
    one_then (Other tx signed) (IsSamePayment tx signed) (Then (Bare signed) (AreSigned signed.inputs) (Then (Heavy declared signed) (AreWithin declared signed) (Then (Large signed) (weight_of signed ≤ 400_000) (Low spent signed rate))))
    (λ f g a b. a.is ∙ ap Differs (one_difference tx signed a.part b.part a.broken b.broken) ∙ sym b.is) (never_different tx signed)
    (one_then (Bare signed) (AreSigned signed.inputs) (Then (Heavy declared signed) (AreWithin declared signed) (Then (Large signed) (weight_of signed ≤ 400_000) (Low spent signed rate)))
    (λ f g a b. a.is ∙ ap Unsigned (one_unsigned signed.inputs a.index b.index a.broken b.broken) ∙ sym b.is) (never_bare signed)
    (one_then (Heavy declared signed) (AreWithin declared signed) (Then (Large signed) (weight_of signed ≤ 400_000) (Low spent signed rate)) (one_heavy declared signed) (never_heavy declared signed)
    (one_then (Large signed) (weight_of signed ≤ 400_000) (Low spent signed rate) (one_large signed) (never_large signed) (one_low spent signed rate))))

-- each fault stands in the chain
chained : (tx : Transaction) (spent : List TxOut) (declared : List ℕ) (signed : Transaction) (rate : ℕ) (f : SettleFault) → IsSettleFault tx spent declared signed rate f → Chain tx spent declared signed rate f
chained tx spent declared signed rate (Report place) h = absurd h
chained tx spent declared signed rate NotFunded h = absurd h
chained tx spent declared signed rate (Psbt fault) h = absurd h
chained tx spent declared signed rate (NoValue index) h = absurd h
chained tx spent declared signed rate (Foreign index) h = absurd h
chained tx spent declared signed rate (Differs part) h = inl (record { part = part; is = refl; broken = h })
chained tx spent declared signed rate (Unsigned index) h = inr (h.0, inl (record { index = index; is = refl; broken = h.1 }))
chained tx spent declared signed rate (Heavier index most weight) h = inr (h.0, inr (h.1, inl (record { index = index; most = most; weight = weight; is = refl; broken = h.2 })))
chained tx spent declared signed rate (TooHeavy weight) h =
    inr (h.0, inr (h.1, inr (h.2, inl (record { is = ap TooHeavy h.3; more = subst (λ (w : ℕ). 400_000 < w) h.3 h.4 }))))
chained tx spent declared signed rate (BelowRate fee needed) h =
    inr (h.0, inr (h.1, inr (h.2, inr (h.3, record { fee = fee; needed = needed; is = refl; broken = h.4 }))))

-- ---- what follows for an answer

pub one_fault : (tx : Transaction) (spent : List TxOut) (declared : List ℕ) (signed : Transaction) (rate : ℕ) (f g : SettleFault) → IsSettleFault tx spent declared signed rate f → IsSettleFault tx spent declared signed rate g → f ≡ g
one_fault tx spent declared signed rate f g a b = one_chain tx spent declared signed rate f g (chained tx spent declared signed rate f a) (chained tx spent declared signed rate g b)

pub no_fault : (tx : Transaction) (spent : List TxOut) (declared : List ℕ) (signed : Transaction) (rate : ℕ) (f : SettleFault) → Settles tx spent declared signed rate → IsSettleFault tx spent declared signed rate f → ⊥
no_fault tx spent declared signed rate f s h =
    never_then (Other tx signed) (IsSamePayment tx signed) (Then (Bare signed) (AreSigned signed.inputs) (Then (Heavy declared signed) (AreWithin declared signed) (Then (Large signed) (weight_of signed ≤ 400_000) (Low spent signed rate)))) (never_different tx signed) f s.same
    (never_then (Bare signed) (AreSigned signed.inputs) (Then (Heavy declared signed) (AreWithin declared signed) (Then (Large signed) (weight_of signed ≤ 400_000) (Low spent signed rate))) (never_bare signed) f s.all_signed
    (never_then (Heavy declared signed) (AreWithin declared signed) (Then (Large signed) (weight_of signed ≤ 400_000) (Low spent signed rate)) (never_heavy declared signed) f s.within
    (never_then (Large signed) (weight_of signed ≤ 400_000) (Low spent signed rate) (never_large signed) f s.weight
    (λ a. let needed = a.broken.needed_is in let short = a.broken.short in let pays = s.pays in omega (arith, needed, short, pays))))) (chained tx spent declared signed rate f h)

-- what a refusal says
abbrev pub refused : SettleFault → Result Settled SettleFault
refused f = Err f

pub told_fault : (tx : Transaction) (spent : List TxOut) (declared : List ℕ) (signed : Transaction) (rate : ℕ) (f : SettleFault) → IsSettleFault tx spent declared signed rate f
    → (g : SettleFault) → (refused f ≡ Err g) ↔ IsSettleFault tx spent declared signed rate g
told_fault tx spent declared signed rate f h g =
    (λ e. let is : f ≡ g = cc in subst (IsSettleFault tx spent declared signed rate) is h, λ k. ap (λ (x : SettleFault). Err x) (one_fault tx spent declared signed rate f g h k))

pub unsettled : (tx : Transaction) (spent : List TxOut) (declared : List ℕ) (signed : Transaction) (rate : ℕ) (f : SettleFault) → IsSettleFault tx spent declared signed rate f
    → IsOk (refused f) ↔ Settles tx spent declared signed rate
unsettled tx spent declared signed rate f h = (λ e. absurd cc, λ s. absurd (no_fault tx spent declared signed rate f s h))

-- and what an answer does
pub told_none : (tx : Transaction) (spent : List TxOut) (declared : List ℕ) (signed : Transaction) (rate : ℕ) (x : Settled) → Settles tx spent declared signed rate
    → (g : SettleFault) → (Ok x ≡ Err g) ↔ IsSettleFault tx spent declared signed rate g
told_none tx spent declared signed rate x s g = (λ e. absurd cc, λ h. absurd (no_fault tx spent declared signed rate g s h))

-- ---- an answer put together

pub settled_by : (tx : Transaction) (spent : List TxOut) (declared : List ℕ) (signed : Transaction) (rate weight worth paid needed : ℕ) → IsSamePayment tx signed → AreSigned signed.inputs → AreWithin declared signed → weight ≡ weight_of signed → weight ≤ 400_000
    → worth ≡ worth_of spent → paid ≡ worth_of signed.outputs → needed ≡ needed_of rate signed → paid + needed ≤ worth → Settles tx spent declared signed rate
settled_by tx spent declared signed rate weight worth paid needed same all_signed within w light a b n pays = record {
  same = same;
  all_signed = all_signed;
  within = within;
  weight = omega (arith, w, light);
  pays = omega (arith, a, b, n, pays);
}

pub below_by : (spent : List TxOut) (signed : Transaction) (rate worth paid needed : ℕ) (fee : ℤ) → fee ≡ pos worth -ℤ pos paid → worth ≡ worth_of spent → paid ≡ worth_of signed.outputs → needed ≡ needed_of rate signed → worth < paid + needed
    → IsBelow spent signed rate fee needed
below_by spent signed rate worth paid needed fee is a b n short = record {
  fee_is = is ∙ ap (λ (k : ℕ). pos k -ℤ pos paid) a ∙ ap (λ (k : ℕ). pos (worth_of spent) -ℤ pos k) b;
  needed_is = n;
  short = omega (arith, a, b, short);
}

-- both weights of an input that is too heavy, by other names
pub renamed : (declared : List ℕ) (signed : Transaction) (i most weight j m w : ℕ) → IsFirstHeavier declared signed i most weight → j ≡ i → m ≡ most → w ≡ weight → IsFirstHeavier declared signed j m w
renamed declared signed i most weight j m w first a b d =
    subst (λ (k : ℕ). IsFirstHeavier declared signed k m w) (sym a) (subst (λ (k : ℕ). IsFirstHeavier declared signed i k w) (sym b) (subst (λ (k : ℕ). IsFirstHeavier declared signed i most k) (sym d) first))
