-- The payment of a report is one, and so is what keeps it from being told.
use Rattle.std.proofs.Common.{◌≡◌, ◌∙◌, ◌<◌, ◌≤◌, ◌⊎◌, inl, inr, ℕ, zero, suc, ◌+◌, List, [], ◌∷◌, ◌++◌, length, get_or, min, take, Option, Some, None, refl, sym, ap, subst, arith}
use Rattle.std.specs.Prelude.{All, Bool, bytes_eq, find, option_map, slice_get}
use Rattle.std.specs.List.{position_or_len}
use Rattle.std.proofs.lemmas.List.Folds.{find_at}
use Rattle.std.specs.List.{zip}
use Rattle.std.proofs.lemmas.List.{take_all, take_more}
use Rattle.std.proofs.lemmas.List.Elements.{All-cons, All-nil}
use Rattle.std.proofs.lemmas.Option.{same_Some, slice_get_within}
use Rattle.std.proofs.lemmas.Slice.Zip.{all_zipped_more, get_or-zip, length-zip}
use Rattle.closing_log.proofs.FirstFaults.{one_place}
use Rattle.closing_log.specs.Exact.{IsFirstFault}
use Rattle.fund_report.proofs.ToldLaws.{one_report}
use Rattle.fund_report.specs.PlainFunded.{PlainFunded}
use Rattle.fund_report.specs.ReportText.{IsReportText}
use Rattle.fund_report.specs.declared.report.Report as reports
use Rattle.fund_report.specs.declared.report.Report.TheVariants.{Funded}
use Rattle.psbt_codec.specs.Fault.{shown}
use Rattle.psbt_codec.specs.PartialTransaction.{PartialTransaction}
use Rattle.psbt_codec.specs.Text.{HasPsbtFault, IsPsbtText}
use Rattle.psbt_codec.specs.declared.fault.PsbtFault.{PsbtFault}
use Rattle.psbt_codec.specs.declared.psbt.Spent.{Spent}
use Rattle.report_check.proofs.SpendLaws.{one_psbt, one_psbt_fault, psbt_apart}
use Rattle.settle_check.proofs.FirstLaws.{least_at, one_least, read_all, stands}
use Rattle.settle_check.specs.declared.fault.SettleFault.{SettleFault}
use Rattle.settle_check.specs.declared.fault.SettleFault.TheVariants.{Report, NotFunded, Psbt, NoValue, Foreign, Differs, Unsigned, Heavier, TooHeavy, BelowRate}
use Rattle.tx_codec.specs.declared.tx.TxIn.{TxIn}
use Rattle.tx_codec.specs.declared.tx.TxOut.{TxOut}
use Rattle.wallet_text.specs.WalletRules.{IsWatch}
use Rattle.wallet_text.specs.declared.wallet.Watch.{Watch}
use Rattle.command_settle.specs.Stops.{IsScriptFault, IsValueFault, StopsBy}
use Rattle.command_settle.specs.declared.stop.Refusal.TheVariants as refusals
use Rattle.command_settle.specs.declared.stop.Stop.{Stop}
use Rattle.command_settle.specs.declared.stop.Stop.TheVariants as stops
use Rattle.command_settle.specs.Payment.{AreAll, HasPayment, IsFirstNone, IsPayment, IsPaymentFault, IsUnfunded, Known, known_of, output_of, weight_of}

-- ---- one entry for each

module _ {X Y : Type 0} (gives : X → Option Y) where
  pub one_all : (xs : List X) (ys zs : List Y) → AreAll gives xs ys → AreAll gives xs zs → ys ≡ zs
  one_all [] [] [] a b = refl
  one_all [] [] (z ∷ zs) a b = absurd b
  one_all [] (y ∷ ys) zs a b = absurd a
  one_all (x ∷ xs) [] zs a b = absurd a
  one_all (x ∷ xs) (y ∷ ys) [] a b = absurd b
  one_all (x ∷ xs) (y ∷ ys) (z ∷ zs) a b =
      let head : y ≡ z = same_Some y z (sym a.0 ∙ b.0) in
      ap (λ (v : Y). v ∷ ys) head ∙ ap (λ (l : List Y). z ∷ l) (one_all xs ys zs a.1 b.1)

  pub as_many : (xs : List X) (ys : List Y) → AreAll gives xs ys → length ys ≡ length xs
  as_many [] [] a = refl
  as_many [] (y ∷ ys) a = absurd a
  as_many (x ∷ xs) [] a = absurd a
  as_many (x ∷ xs) (y ∷ ys) a = ap suc (as_many xs ys a.1)

  gives_some : (x z : X) (y : Y) → gives x ≡ Some y → x ≡ z → gives z ≡ None → ⊥
  gives_some x z y some same none = let e : Some y ≡ None = sym some ∙ ap gives same ∙ none in absurd cc

  -- entries before a place that all give something
  before_gives : (xs : List X) (n : ℕ) (ys : List Y) (k : ℕ) (x : X) → AreAll gives (take n xs) ys → k < n → slice_get xs k ≡ Some x → gives x ≡ None → ⊥
  before_gives [] n ys k x a lt e none = let within : k < length {A = X} [] = slice_get_within [] k x e in omega (arith, within)
  before_gives (z ∷ xs) zero ys k x a lt e none = omega (arith, lt)
  before_gives (z ∷ xs) (suc n) [] k x a lt e none = absurd a
  before_gives (z ∷ xs) (suc n) (y ∷ ys) zero x a lt e none = gives_some z x y a.0 (same_Some z x e) none
  before_gives (z ∷ xs) (suc n) (y ∷ ys) (suc k) x a lt e none = before_gives xs n ys k x a.1 (omega (arith, lt)) e none

  pub none_all : (xs : List X) (ys : List Y) (index : ℕ) → AreAll gives xs ys → IsFirstNone gives xs index → ⊥
  none_all xs ys index a h =
      let x = h.first.holds in
      before_gives xs (length xs) ys h.place x.0 (subst (λ (l : List X). AreAll gives l ys) (sym (take_all (length xs) xs (omega arith))) a) (slice_get_within xs h.place x.0 x.1) x.1 x.2

  pub one_none : (xs : List X) (i j : ℕ) → IsFirstNone gives xs i → IsFirstNone gives xs j → i ≡ j
  one_none xs i j a b = a.index_is ∙ ap shown (one_least (λ k. (x : X) × (slice_get xs k ≡ Some x) × (gives x ≡ None)) a.place b.place a.first b.first) ∙ sym b.index_is

  -- one more entry gives something
  pub one_more : (xs : List X) (n : ℕ) (x : X) (ys : List Y) (y : Y) → n < length xs → get_or xs n x ≡ x → AreAll gives (take n xs) ys → gives x ≡ Some y → AreAll gives (take (n + 1) xs) (ys ++ y ∷ [])
  one_more xs n x ys y lt e a some =
      subst (λ (l : List X). AreAll gives l (ys ++ y ∷ [])) (sym (take_more xs n x lt ∙ ap (λ (z : X). take n xs ++ z ∷ []) e))
      (all_zipped_more (λ (u : X) (v : Y). gives u ≡ Some v) (take n xs) ys x y a some)

  -- or nothing
  pub first_none : (xs : List X) (n : ℕ) (x : X) (ys : List Y) (index : ℕ) → n < length xs → get_or xs n x ≡ x → AreAll gives (take n xs) ys → gives x ≡ None → index ≡ shown n → IsFirstNone gives xs index
  first_none xs n x ys index lt e a none is = record {
    place = n;
    first = least_at (λ k. (z : X) × (slice_get xs k ≡ Some z) × (gives z ≡ None)) n (x, stands xs n x lt (sym e), none) (λ k below there. before_gives xs n ys k there.0 a below there.1 there.2);
    index_is = is;
  }

  pub all_done : (xs : List X) (n : ℕ) (ys : List Y) → length xs ≤ n → AreAll gives (take n xs) ys → AreAll gives xs ys
  all_done xs n ys over a = subst (λ (l : List X). AreAll gives l ys) (take_all n xs over) a

-- ---- inputs, each with what is known of the output that it spends

module _ (is : List TxIn) (ss : List Spent) (len : length ss ≡ length is) where
  pub pairs_long : length (zip is ss) ≡ length is
  pairs_long = let pairs : length (zip is ss) ≡ min (length is) (length ss) = length-zip is ss in omega (arith, pairs, len)

  pub pair_at : (n : ℕ) (i : TxIn) (s : Spent) → n < length is → i ≡ get_or is n i → s ≡ get_or ss n s → get_or (zip is ss) n (i, s) ≡ (i, s)
  pair_at n i s within here beside =
      let within' : n < length ss = omega (arith, within, len) in
      let by_input : TxIn → Known = λ x. (x, get_or ss n s) in
      let by_spent : Spent → Known = λ x. (i, x) in
      get_or-zip is ss n (i, s) within within' ∙ ap by_input (sym here) ∙ ap by_spent (sym beside)

-- ---- the payment of a report

pub funded_same : (report : List ℕ) (f g : PlainFunded) → IsReportText report (Funded f) → IsReportText report (Funded g) → f ≡ g
funded_same report f g a b = let e : Funded f ≡ Funded g = one_report report (Funded f) (Funded g) a b in cc

pub one_payment : (report : List ℕ) (p q : PartialTransaction) → HasPayment report p → HasPayment report q → p ≡ q
one_payment report p q (f, a, x) (g, b, y) = one_psbt g.text p q (subst (λ (h : PlainFunded). IsPsbtText h.text p) (funded_same report f g a b) x) y

funded_apart : (report : List ℕ) (r : reports.Report) (f : PlainFunded) → IsReportText report r → IsUnfunded r → IsReportText report (Funded f) → ⊥
funded_apart report r f a none b = subst IsUnfunded (one_report report r (Funded f) a b) none

text_apart : (report : List ℕ) (f : PlainFunded) (e : PsbtFault) (p : PartialTransaction) → IsReportText report (Funded f) → HasPsbtFault f.text e → HasPayment report p → ⊥
text_apart report f e p a fault (g, b, x) = psbt_apart f.text p e (subst (λ (h : PlainFunded). IsPsbtText h.text p) (sym (funded_same report f g a b)) x) fault

module _ (report : List ℕ) (scripts : List Watch) where
  record Form (fault : SettleFault) : Type 0 where
    pub place : ℕ
    pub is : fault ≡ Report place
    pub first : IsFirstFault IsReportText report place

  record Bare (fault : SettleFault) : Type 0 where
    pub found : reports.Report
    pub is : fault ≡ NotFunded
    pub text : IsReportText report found
    pub none : IsUnfunded found

  record Text (fault : SettleFault) : Type 0 where
    pub found : PlainFunded
    pub wrong : PsbtFault
    pub is : fault ≡ Psbt wrong
    pub text : IsReportText report (Funded found)
    pub broken : HasPsbtFault found.text wrong

  record Value (fault : SettleFault) : Type 0 where
    pub psbt : PartialTransaction
    pub index : ℕ
    pub is : fault ≡ NoValue index
    pub has : HasPayment report psbt
    pub first : IsFirstNone output_of (known_of psbt) index

  record Script (fault : SettleFault) : Type 0 where
    pub psbt : PartialTransaction
    pub spent : List TxOut
    pub index : ℕ
    pub is : fault ≡ Foreign index
    pub has : HasPayment report psbt
    pub all : AreAll output_of (known_of psbt) spent
    pub first : IsFirstNone (weight_of scripts) spent index

  abbrev Level : SettleFault → Type 0
  Level fault = Form fault ⊎ (Bare fault ⊎ (Text fault ⊎ (Value fault ⊎ Script fault)))

  level : (fault : SettleFault) → IsPaymentFault report scripts fault → Level fault
  level (Report place) h = inl (record { place = place; is = refl; first = h })
  level NotFunded h = inr (inl (record { found = h.0; is = refl; text = h.1; none = h.2 }))
  level (Psbt wrong) h = inr (inr (inl (record { found = h.0; wrong = wrong; is = refl; text = h.1; broken = h.2 })))
  level (NoValue index) h = inr (inr (inr (inl (record { psbt = h.0; index = index; is = refl; has = h.1; first = h.2 }))))
  level (Foreign index) (p, spent, has, all, first) = inr (inr (inr (inr (record { psbt = p; spent = spent; index = index; is = refl; has = has; all = all; first = first }))))
  level (Differs part) h = absurd h
  level (Unsigned index) h = absurd h
  level (Heavier index most weight) h = absurd h
  level (TooHeavy weight) h = absurd h
  level (BelowRate fee needed) h = absurd h

  -- a later level has the report of a payment
  form_apart : (d : SettleFault) (f : PlainFunded) → Form d → IsReportText report (Funded f) → ⊥
  form_apart d f a text = a.first.whole (Funded f) text

  value_apart : (d e : SettleFault) → Value d → Script e → ⊥
  value_apart d e a b =
      none_all output_of (known_of a.psbt) b.spent a.index (subst (λ (p : PartialTransaction). AreAll output_of (known_of p) b.spent) (one_payment report b.psbt a.psbt b.has a.has) b.all) a.first

  same_form : (d e : SettleFault) → Form d → Form e → d ≡ e
  same_form d e a b = a.is ∙ ap (λ (n : ℕ). Report n) (one_place IsReportText report a.place b.place a.first b.first) ∙ sym b.is

  same_text : (d e : SettleFault) → Text d → Text e → d ≡ e
  same_text d e a b =
      let moved = subst (λ (f : PlainFunded). HasPsbtFault f.text a.wrong) (funded_same report a.found b.found a.text b.text) a.broken in
      a.is ∙ ap (λ (x : PsbtFault). Psbt x) (one_psbt_fault b.found.text a.wrong b.wrong moved b.broken) ∙ sym b.is

  same_value : (d e : SettleFault) → Value d → Value e → d ≡ e
  same_value d e a b =
      let moved = subst (λ (p : PartialTransaction). IsFirstNone output_of (known_of p) a.index) (one_payment report a.psbt b.psbt a.has b.has) a.first in
      a.is ∙ ap (λ (n : ℕ). NoValue n) (one_none output_of (known_of b.psbt) a.index b.index moved b.first) ∙ sym b.is

  same_script : (d e : SettleFault) → Script d → Script e → d ≡ e
  same_script d e a b =
      let all = subst (λ (p : PartialTransaction). AreAll output_of (known_of p) a.spent) (one_payment report a.psbt b.psbt a.has b.has) a.all in
      let moved = subst (λ (l : List TxOut). IsFirstNone (weight_of scripts) l a.index) (one_all output_of (known_of b.psbt) a.spent b.spent all b.all) a.first in
      a.is ∙ ap (λ (n : ℕ). Foreign n) (one_none (weight_of scripts) b.spent a.index b.index moved b.first) ∙ sym b.is

  one_level : (d e : SettleFault) → Level d → Level e → d ≡ e
  one_level d e (inl a) (inl b) = same_form d e a b
  one_level d e (inl a) (inr (inl b)) = absurd (a.first.whole b.found b.text)
  one_level d e (inl a) (inr (inr (inl b))) = absurd (form_apart d b.found a b.text)
  one_level d e (inl a) (inr (inr (inr (inl b)))) = absurd (form_apart d b.has.0 a b.has.1)
  one_level d e (inl a) (inr (inr (inr (inr b)))) = absurd (form_apart d b.has.0 a b.has.1)
  one_level d e (inr (inl a)) (inl b) = absurd (b.first.whole a.found a.text)
  one_level d e (inr (inl a)) (inr (inl b)) = a.is ∙ sym b.is
  one_level d e (inr (inl a)) (inr (inr (inl b))) = absurd (funded_apart report a.found b.found a.text a.none b.text)
  one_level d e (inr (inl a)) (inr (inr (inr (inl b)))) = absurd (funded_apart report a.found b.has.0 a.text a.none b.has.1)
  one_level d e (inr (inl a)) (inr (inr (inr (inr b)))) = absurd (funded_apart report a.found b.has.0 a.text a.none b.has.1)
  one_level d e (inr (inr (inl a))) (inl b) = absurd (form_apart e a.found b a.text)
  one_level d e (inr (inr (inl a))) (inr (inl b)) = absurd (funded_apart report b.found a.found b.text b.none a.text)
  one_level d e (inr (inr (inl a))) (inr (inr (inl b))) = same_text d e a b
  one_level d e (inr (inr (inl a))) (inr (inr (inr (inl b)))) = absurd (text_apart report a.found a.wrong b.psbt a.text a.broken b.has)
  one_level d e (inr (inr (inl a))) (inr (inr (inr (inr b)))) = absurd (text_apart report a.found a.wrong b.psbt a.text a.broken b.has)
  one_level d e (inr (inr (inr (inl a)))) (inl b) = absurd (form_apart e a.has.0 b a.has.1)
  one_level d e (inr (inr (inr (inl a)))) (inr (inl b)) = absurd (funded_apart report b.found a.has.0 b.text b.none a.has.1)
  one_level d e (inr (inr (inr (inl a)))) (inr (inr (inl b))) = absurd (text_apart report b.found b.wrong a.psbt b.text b.broken a.has)
  one_level d e (inr (inr (inr (inl a)))) (inr (inr (inr (inl b)))) = same_value d e a b
  one_level d e (inr (inr (inr (inl a)))) (inr (inr (inr (inr b)))) = absurd (value_apart d e a b)
  one_level d e (inr (inr (inr (inr a)))) (inl b) = absurd (form_apart e a.has.0 b a.has.1)
  one_level d e (inr (inr (inr (inr a)))) (inr (inl b)) = absurd (funded_apart report b.found a.has.0 b.text b.none a.has.1)
  one_level d e (inr (inr (inr (inr a)))) (inr (inr (inl b))) = absurd (text_apart report b.found b.wrong a.psbt b.text b.broken a.has)
  one_level d e (inr (inr (inr (inr a)))) (inr (inr (inr (inl b)))) = absurd (value_apart e d b a)
  one_level d e (inr (inr (inr (inr a)))) (inr (inr (inr (inr b)))) = same_script d e a b

  pub one_payment_fault : (d e : SettleFault) → IsPaymentFault report scripts d → IsPaymentFault report scripts e → d ≡ e
  one_payment_fault d e h k = one_level d e (level d h) (level e k)

  level_apart : (p : PartialTransaction) (spent : List TxOut) (declared : List ℕ) (d : SettleFault) → IsPayment report scripts p spent declared → Level d → ⊥
  level_apart p spent declared d h (inl a) = form_apart d h.psbt.0 a h.psbt.1
  level_apart p spent declared d h (inr (inl a)) = funded_apart report a.found h.psbt.0 a.text a.none h.psbt.1
  level_apart p spent declared d h (inr (inr (inl a))) = text_apart report a.found a.wrong p a.text a.broken h.psbt
  level_apart p spent declared d h (inr (inr (inr (inl a)))) =
      none_all output_of (known_of a.psbt) spent a.index (subst (λ (q : PartialTransaction). AreAll output_of (known_of q) spent) (one_payment report p a.psbt h.psbt a.has) h.spends) a.first
  level_apart p spent declared d h (inr (inr (inr (inr a)))) =
      let spends = subst (λ (q : PartialTransaction). AreAll output_of (known_of q) spent) (one_payment report p a.psbt h.psbt a.has) h.spends in
      none_all (weight_of scripts) a.spent declared a.index (subst (λ (l : List TxOut). AreAll (weight_of scripts) l declared) (one_all output_of (known_of a.psbt) spent a.spent spends a.all) h.weighs) a.first

  pub payment_apart : (p : PartialTransaction) (spent : List TxOut) (declared : List ℕ) (d : SettleFault) → IsPayment report scripts p spent declared → IsPaymentFault report scripts d → ⊥
  payment_apart p spent declared d h k = level_apart p spent declared d h (level d k)

  -- the payment is one with what it spends and what was declared
  pub same_spent : (p q : PartialTransaction) (spent spent' : List TxOut) (declared declared' : List ℕ) → IsPayment report scripts p spent declared → IsPayment report scripts q spent' declared' → spent ≡ spent'
  same_spent p q spent spent' declared declared' a b =
      one_all output_of (known_of q) spent spent' (subst (λ (x : PartialTransaction). AreAll output_of (known_of x) spent) (one_payment report p q a.psbt b.psbt) a.spends) b.spends

  pub same_declared : (p q : PartialTransaction) (spent spent' : List TxOut) (declared declared' : List ℕ) → IsPayment report scripts p spent declared → IsPayment report scripts q spent' declared' → declared ≡ declared'
  same_declared p q spent spent' declared declared' a b =
      one_all (weight_of scripts) spent' declared declared' (subst (λ (l : List TxOut). AreAll (weight_of scripts) l declared) (same_spent p q spent spent' declared declared' a b) a.weighs) b.weighs

-- ---- what a payment holds

pub spent_long : (report : List ℕ) (scripts : List Watch) (p : PartialTransaction) (spent : List TxOut) (declared : List ℕ) → IsPayment report scripts p spent declared → length spent ≡ length p.tx.inputs
spent_long report scripts p spent declared h = as_many output_of (known_of p) spent h.spends ∙ pairs_long p.tx.inputs p.spent h.psbt.2.readable.psbt.spent_len

pub declared_long : (report : List ℕ) (scripts : List Watch) (p : PartialTransaction) (spent : List TxOut) (declared : List ℕ) → IsPayment report scripts p spent declared → length declared ≡ length p.tx.inputs
declared_long report scripts p spent declared h = as_many (weight_of scripts) spent declared h.weighs ∙ spent_long report scripts p spent declared h

found_within : (scripts : List Watch) (script : List ℕ) (weight : ℕ) (o : Option Watch) → All IsWatch scripts → find (λ (s : Watch). bytes_eq script s.script) scripts ≡ o → option_map (λ (s : Watch). s.weight) o ≡ Some weight → weight ≤ 400_000
found_within scripts script weight None all found e = absurd cc
found_within scripts script weight (Some s) all found e =
    let test : Watch → Bool = λ (x : Watch). bytes_eq script x.script in
    let there = read_all IsWatch scripts (position_or_len test scripts) s all (sym (find_at test scripts) ∙ found) in
    let same : s.weight ≡ weight = same_Some s.weight weight e in
    omega (arith, there.most_weight, same)

weights_within : (scripts : List Watch) (outputs : List TxOut) (weights : List ℕ) → All IsWatch scripts → AreAll (weight_of scripts) outputs weights → All (λ w. w ≤ 400_000) weights
weights_within scripts [] [] all a = All-nil (λ w. w ≤ 400_000)
weights_within scripts [] (y ∷ ys) all a = absurd a
weights_within scripts (o ∷ os) [] all a = absurd a
weights_within scripts (o ∷ os) (y ∷ ys) all a =
    All-cons (λ w. w ≤ 400_000) y ys (found_within scripts o.script y (find (λ (s : Watch). bytes_eq o.script s.script) scripts) all refl a.0) (weights_within scripts os ys all a.1)

pub declared_within : (report : List ℕ) (scripts : List Watch) (p : PartialTransaction) (spent : List TxOut) (declared : List ℕ) → All IsWatch scripts → IsPayment report scripts p spent declared → All (λ w. w ≤ 400_000) declared
declared_within report scripts p spent declared all h = weights_within scripts spent declared all h.weighs

-- ---- where a loop stops

abbrev pub unsettled : SettleFault → Stop
unsettled fault = stops.Refused (refusals.Unsettled fault)

pub value_none : (known : List Known) (n : ℕ) (k : Known) (spent : List TxOut) (index : ℕ) (stop : Stop) → n < length known → get_or known n k ≡ k → AreAll output_of (take n known) spent → output_of k ≡ None → index ≡ shown n → stop ≡ unsettled (NoValue index)
    → StopsBy (IsValueFault known) stop
value_none known n k spent index stop lt e all none is stops_so =
    subst (λ (s : Stop). StopsBy (IsValueFault known) s) (sym stops_so) (NoValue index, refl, (index, refl, first_none output_of known n k spent index lt e all none is))

pub script_none : (scripts : List Watch) (outputs : List TxOut) (n : ℕ) (o : TxOut) (declared : List ℕ) (index : ℕ) (stop : Stop) → n < length outputs → get_or outputs n o ≡ o → AreAll (weight_of scripts) (take n outputs) declared → weight_of scripts o ≡ None → index ≡ shown n
    → stop ≡ unsettled (Foreign index) → StopsBy (IsScriptFault scripts outputs) stop
script_none scripts outputs n o declared index stop lt e all none is stops_so =
    subst (λ (s : Stop). StopsBy (IsScriptFault scripts outputs) s) (sym stops_so) (Foreign index, refl, (index, refl, first_none (weight_of scripts) outputs n o declared index lt e all none is))
