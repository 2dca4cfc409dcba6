-- The two laws of transactions: what is read is the text of a transaction, and such a text is read as it.
use Rattle.std.proofs.Common.{◌≡◌, ◌≢◌, ℕ, ◌^◌, ◌<◌, Bool, true, false, List, [], ◌∷◌, ◌++◌, length, drop, All, Result, Ok, refl, sym, ap, subst, ◌∙◌, append_assoc, arith, inl, inr}
use Rattle.std.specs.Prelude.{Any, slice_index}
use Rattle.std.specs.Int.{w32, to_le_bytes}
use Rattle.std.specs.List.{flat_map, AllByRecursion}
use Rattle.std.proofs.lemmas.Bool.{eqb-true, ne_eqb, both_ways, cases_Bool}
use Rattle.std.proofs.lemmas.List.Elements.{All-nil, All-cons, All-drop, All-weaker, All-from_recursion, recursion_from_All}
use Rattle.fund_base.proofs.Lists.{regroup3}
use Rattle.fund_base.specs.CompactSize.{compact, counted}
use Rattle.fund_base.specs.Cursor.{At, IsBytes, after}
use Rattle.fund_base.proofs.Laws.{bind_ok, bind_is, guard_ok, guard_met, ok_is, Takes, takes_then, Again, Reads}
use Rattle.fund_base.proofs.LawsOfNumbers.{compact_lead}
use Rattle.tx_codec.specs.declared.fault.TxFault.{TxFault}
use Rattle.tx_codec.specs.declared.tx.TxIn.{TxIn}
use Rattle.tx_codec.specs.Transaction.{Transaction}
use Rattle.tx_codec.specs.Reading.{are_empty, legacy_at, witnessed_at, segregated_at, is_marked, tx_at, legacy_tx_at}
use Rattle.tx_codec.specs.TransactionText.{input_text, output_text, stack_text, bare_text, segregated_text, text_of, InputFits, IsTransaction, IsLegacy}
use Rattle.tx_codec.proofs.PartLaws.{number32, bytes, BareFits, InputsFit, inputs_reads, outputs_reads}
use Rattle.tx_codec.proofs.LawsOfStacks.{strips, IsBare, stacks_take, stacks_again, length-strips, flat_map-strips, fit_with_stacks, fit_without_stacks, stacks_fit, has_stack, not_empty, no_stack, all_bare, bare_fit}

-- ---- after the version, the legacy form

-- what stands after the version
abbrev legacy_rest : Transaction → List ℕ
legacy_rest t = counted input_text t.inputs ++ (counted output_text t.outputs ++ to_le_bytes w32 t.locktime)

abbrev segregated_rest : Transaction → List ℕ
segregated_rest t = counted input_text t.inputs ++ (counted output_text t.outputs ++ (flat_map stack_text t.inputs ++ to_le_bytes w32 t.locktime))

-- a transaction of this version that has the form
pub record IsOf (version : ℕ) (segwit : Bool) (t : Transaction) : Type 0 where
  pub whole : IsTransaction t
  pub version_is : t.version ≡ version
  pub form : t.segwit ≡ segwit

pub bare_inputs : (inputs : List TxIn) → All BareFits inputs → AllByRecursion IsBare inputs
bare_inputs inputs fits = recursion_from_All IsBare inputs (All-weaker BareFits IsBare (λ i fit. fit.bare) inputs fits)

no_witness : (inputs : List TxIn) → All BareFits inputs → Any (λ (i : TxIn). i.witness ≢ []) inputs → ⊥
no_witness inputs fits some = both_ways (are_empty inputs) (not_empty inputs some.0 some.1 some.2 some.3 some.4) (no_stack inputs (bare_inputs inputs fits))

legacy_takes : (version : ℕ) → version < 2 ^ 32 → (at : At) (x : Transaction × At) → IsBytes at.rest → legacy_at version at ≡ Ok x → Takes at (legacy_rest x.0) x.1 × IsOf version false x.0
unfolding legacy_at
legacy_takes version small at x fits e =
    let a = bind_ok _ _ x e in
    let b = bind_ok _ _ x a.2 in
    let c = bind_ok _ _ x b.2 in
    let ta = inputs_reads.takes at a.0 fits a.1 in
    let tb = outputs_reads.takes a.0.1 b.0 ta.0.rest_fits b.1 in
    let tc = number32.takes b.0.1 c.0 tb.0.rest_fits c.1 in
    let bc = takes_then a.0.1 b.0.1 c.0.1 (counted output_text b.0.0) (to_le_bytes w32 c.0.0) tb.0 tc.0 in
    let ac = takes_then at a.0.1 c.0.1 (counted input_text a.0.0) (counted output_text b.0.0 ++ to_le_bytes w32 c.0.0) ta.0 bc in
    let made : Transaction × At = (record { version = version; inputs = a.0.0; outputs = b.0.0; locktime = c.0.0; segwit = false }, c.0.1) in
    let whole : IsTransaction made.0 = record {
      version = small;
      locktime = tc.1;
      inputs = All-weaker BareFits InputFits (λ i fit. fit.fits) a.0.0 ta.1.each;
      inputs_some = ta.1.some;
      inputs_len = ta.1.len;
      outputs = tb.1.each;
      outputs_some = tb.1.some;
      outputs_len = tb.1.len;
      money = tb.1.money;
      segregated = ((λ is. absurd cc), (λ some. absurd (no_witness a.0.0 ta.1.each some)));
    } in
    subst (λ (y : Transaction × At). Takes at (legacy_rest y.0) y.1 × IsOf version false y.0) (ok_is made x (Ok made) refl c.2) (ac, record { whole = whole; version_is = refl; form = refl })

regroup2 : (a b c rest : List ℕ) → (a ++ (b ++ c)) ++ rest ≡ a ++ (b ++ (c ++ rest))
regroup2 a b c rest = simp append_assoc

-- what a reader that ends here gives
abbrev read : Transaction → At → Result (Transaction × At) TxFault
read t next = Ok (t, next)

unstacked : (t : Transaction) → IsTransaction t → t.segwit ≡ false → are_empty t.inputs ≡ true
unstacked t whole form =
    elim (cases_Bool (are_empty t.inputs)) [
      | inl empty ↦ empty
      | inr stacked ↦ absurd (both_ways t.segwit form (whole.segregated.1 (has_stack t.inputs stacked)))
    ]

legacy_again : (version : ℕ) (t : Transaction) (at : At) (rest : List ℕ) → IsOf version false t → at.rest ≡ legacy_rest t ++ rest → Again (legacy_at version at) t rest
unfolding legacy_at
legacy_again version t at rest fits is =
    let w = fits.whole in
    let bare : AllByRecursion IsBare t.inputs = all_bare t.inputs (unstacked t w fits.form) in
    let each : All BareFits t.inputs = All-from_recursion BareFits t.inputs (bare_fit t.inputs bare (recursion_from_All InputFits t.inputs w.inputs)) in
    let parted = is ∙ regroup2 (counted input_text t.inputs) (counted output_text t.outputs) (to_le_bytes w32 t.locktime) rest in
    let a = inputs_reads.again t.inputs at (counted output_text t.outputs ++ (to_le_bytes w32 t.locktime ++ rest)) (record { each = each; some = w.inputs_some; len = w.inputs_len }) parted in
    let b = outputs_reads.again t.outputs a.next (to_le_bytes w32 t.locktime ++ rest) (record { each = w.outputs; money = w.money; some = w.outputs_some; len = w.outputs_len }) a.left in
    let c = number32.again t.locktime b.next rest w.locktime b.left in
    let named : read (record t { version = version; segwit = false }) c.next ≡ read (record t { segwit = false }) c.next = ap (λ (v : ℕ). read (record t { version = v; segwit = false }) c.next) (sym fits.version_is) in
    let whole : read (record t { segwit = false }) c.next ≡ read t c.next = ap (λ (s : Bool). read (record t { segwit = s }) c.next) (sym fits.form) in
    record { next = c.next; reads = bind_is _ _ _ _ a.reads (bind_is _ _ _ _ b.reads (bind_is _ _ _ _ c.reads (named ∙ whole))); left = c.left }

-- ---- after marker and flag, the segregated form

pub same_inputs : (inputs : List TxIn) → counted input_text (strips inputs) ≡ counted input_text inputs
same_inputs inputs = rw (length-strips inputs, flat_map-strips inputs) refl

witnessed_takes : (version : ℕ) → version < 2 ^ 32 → (at : At) (x : Transaction × At) → IsBytes at.rest → witnessed_at version at ≡ Ok x → Takes at (segregated_rest x.0) x.1 × IsOf version true x.0
unfolding witnessed_at
witnessed_takes version small at x fits e =
    let a = bind_ok _ _ x e in
    let b = bind_ok _ _ x a.2 in
    let c = bind_ok _ _ x b.2 in
    let g = guard_ok _ _ _ _ c.2 in
    let d = bind_ok _ _ x g.1 in
    let ta = inputs_reads.takes at a.0 fits a.1 in
    let tb = outputs_reads.takes a.0.1 b.0 ta.0.rest_fits b.1 in
    let tc = stacks_take a.0.0 b.0.1 c.0 (bare_inputs a.0.0 ta.1.each) tb.0.rest_fits c.1 in
    let td = number32.takes c.0.1 d.0 tc.takes.rest_fits d.1 in
    let inputs : Takes at (counted input_text c.0.0) a.0.1 = subst (λ (l : List ℕ). Takes at l a.0.1) (ap (λ (l : List TxIn). counted input_text l) tc.same ∙ same_inputs c.0.0) ta.0 in
    let cd = takes_then b.0.1 c.0.1 d.0.1 (flat_map stack_text c.0.0) (to_le_bytes w32 d.0.0) tc.takes td.0 in
    let bd = takes_then a.0.1 b.0.1 d.0.1 (counted output_text b.0.0) (flat_map stack_text c.0.0 ++ to_le_bytes w32 d.0.0) tb.0 cd in
    let ad = takes_then at a.0.1 d.0.1 (counted input_text c.0.0) (counted output_text b.0.0 ++ (flat_map stack_text c.0.0 ++ to_le_bytes w32 d.0.0)) inputs bd in
    let len : length a.0.0 ≡ length c.0.0 = ap (λ (l : List TxIn). length l) tc.same ∙ length-strips c.0.0 in
    let bare : AllByRecursion BareFits (strips c.0.0) = subst (λ (l : List TxIn). AllByRecursion BareFits l) tc.same (recursion_from_All BareFits a.0.0 ta.1.each) in
    let made : Transaction × At = (record { version = version; inputs = c.0.0; outputs = b.0.0; locktime = d.0.0; segwit = true }, d.0.1) in
    let whole : IsTransaction made.0 = record {
      version = small;
      locktime = td.1;
      inputs = All-from_recursion InputFits c.0.0 (fit_with_stacks c.0.0 bare tc.fits);
      inputs_some = omega (arith, len, ta.1.some);
      inputs_len = omega (arith, len, ta.1.len);
      outputs = tb.1.each;
      outputs_some = tb.1.some;
      outputs_len = tb.1.len;
      money = tb.1.money;
      segregated = ((λ is. has_stack c.0.0 g.0), (λ some. refl));
    } in
    subst (λ (y : Transaction × At). Takes at (segregated_rest y.0) y.1 × IsOf version true y.0) (ok_is made x (Ok made) refl d.2) (ad, record { whole = whole; version_is = refl; form = refl })

witnessed_again : (version : ℕ) (t : Transaction) (at : At) (rest : List ℕ) → IsOf version true t → at.rest ≡ segregated_rest t ++ rest → Again (witnessed_at version at) t rest
unfolding witnessed_at
witnessed_again version t at rest fits is =
    let w = fits.whole in
    let each : AllByRecursion InputFits t.inputs = recursion_from_All InputFits t.inputs w.inputs in
    let some = w.segregated.0 fits.form in
    let stacked : are_empty t.inputs ≡ false = not_empty t.inputs some.0 some.1 some.2 some.3 some.4 in
    let bare : InputsFit (strips t.inputs) = record {
      each = All-from_recursion BareFits (strips t.inputs) (fit_without_stacks t.inputs each);
      some = omega (arith, length-strips t.inputs, w.inputs_some);
      len = omega (arith, length-strips t.inputs, w.inputs_len);
    } in
    let parted = is ∙ regroup3 (counted input_text t.inputs) (counted output_text t.outputs) (flat_map stack_text t.inputs) (to_le_bytes w32 t.locktime) rest in
    let behind : List ℕ = counted output_text t.outputs ++ (flat_map stack_text t.inputs ++ (to_le_bytes w32 t.locktime ++ rest)) in
    let a = inputs_reads.again (strips t.inputs) at behind bare (parted ∙ ap (λ (l : List ℕ). l ++ behind) (sym (same_inputs t.inputs))) in
    let b = outputs_reads.again t.outputs a.next (flat_map stack_text t.inputs ++ (to_le_bytes w32 t.locktime ++ rest)) (record { each = w.outputs; money = w.money; some = w.outputs_some; len = w.outputs_len }) a.left in
    let c = stacks_again t.inputs b.next (to_le_bytes w32 t.locktime ++ rest) (stacks_fit t.inputs each) b.left in
    let d = number32.again t.locktime c.next rest w.locktime c.left in
    let named : read (record t { version = version; segwit = true }) d.next ≡ read (record t { segwit = true }) d.next = ap (λ (v : ℕ). read (record t { version = v; segwit = true }) d.next) (sym fits.version_is) in
    let whole : read (record t { segwit = true }) d.next ≡ read t d.next = ap (λ (s : Bool). read (record t { segwit = s }) d.next) (sym fits.form) in
    record { next = d.next; reads = bind_is _ _ _ _ a.reads (bind_is _ _ _ _ b.reads (bind_is _ _ _ _ c.reads (rw stacked (bind_is _ _ _ _ d.reads (named ∙ whole))))); left = d.left }

-- ---- after the marker

one_byte : (bytes : List ℕ) (b : ℕ) → length bytes ≡ 1 → slice_index bytes 0 ≡ b → bytes ≡ b ∷ []
one_byte [] b len is = absurd (omega arith)
one_byte (c ∷ []) b len is = ap (λ (x : ℕ). x ∷ []) is
one_byte (c ∷ d ∷ bytes) b len is = absurd (omega arith)

segregated_takes : (version : ℕ) → version < 2 ^ 32 → (at : At) (x : Transaction × At) → IsBytes at.rest → segregated_at version at ≡ Ok x → Takes at (1 ∷ segregated_rest x.0) x.1 × IsOf version true x.0
unfolding segregated_at
segregated_takes version small at x fits e =
    let a = bind_ok _ _ x e in
    let g = guard_met _ _ _ _ a.2 in
    let ta = (bytes 1).takes at a.0 fits a.1 in
    let tb = witnessed_takes version small a.0.1 x ta.0.rest_fits g.1 in
    let flag : a.0.0 ≡ 1 ∷ [] = one_byte a.0.0 1 ta.1.0 (eqb-true _ _ g.0) in
    let flagged : Takes at (1 ∷ []) a.0.1 = rw (← flag) ta.0 in
    (takes_then at a.0.1 x.1 (1 ∷ []) (segregated_rest x.0) flagged tb.0, tb.1)

segregated_again : (version : ℕ) (t : Transaction) (at : At) (rest : List ℕ) → IsOf version true t → at.rest ≡ 1 ∷ (segregated_rest t ++ rest) → Again (segregated_at version at) t rest
unfolding segregated_at
segregated_again version t at rest fits is =
    let a = (bytes 1).again (1 ∷ []) at (segregated_rest t ++ rest) (refl, All-cons (λ b. b < 256) 1 [] (omega arith) (All-nil (λ b. b < 256))) is in
    let b = witnessed_again version t a.next rest fits a.left in
    record { next = b.next; reads = bind_is _ _ _ _ a.reads b.reads; left = b.left }

-- ---- a transaction

marked : (bytes : List ℕ) → is_marked bytes ≡ true → bytes ≡ 0 ∷ drop 1 bytes
marked [] e = absurd cc
marked (b ∷ bytes) e = ap (λ (x : ℕ). x ∷ bytes) (eqb-true b 0 e)

unmarked : (bytes : List ℕ) → 0 < slice_index bytes 0 → is_marked bytes ≡ false
unmarked [] some = refl
unmarked (b ∷ bytes) some = ne_eqb b 0 (λ none. absurd (omega (arith, some, none)))

legacy_text : (t : Transaction) → t.segwit ≡ false → text_of t ≡ to_le_bytes w32 t.version ++ legacy_rest t
unfolding bare_text
legacy_text t form = rw form refl

segregated_text-is : (t : Transaction) → t.segwit ≡ true → text_of t ≡ to_le_bytes w32 t.version ++ (0 ∷ 1 ∷ segregated_rest t)
unfolding segregated_text
segregated_text-is t form = rw form refl

tx_takes : (at : At) (x : Transaction × At) → IsBytes at.rest → tx_at at ≡ Ok x → Takes at (text_of x.0) x.1 × IsTransaction x.0
unfolding tx_at
tx_takes at x fits e =
    let a = bind_ok _ _ x e in
    let v = number32.takes at a.0 fits a.1 in
    elim (cases_Bool (is_marked a.0.1.rest)) [
      | inl set ↦
          let opened : Takes a.0.1 (0 ∷ []) (after 1 a.0.1) = record { parts = marked a.0.1.rest set; place_is = refl; rest_fits = All-drop (λ b. b < 256) 1 a.0.1.rest v.0.rest_fits } in
          let t = segregated_takes a.0.0 v.1 (after 1 a.0.1) x opened.rest_fits (rw set at a.2) in
          let behind = takes_then a.0.1 (after 1 a.0.1) x.1 (0 ∷ []) (1 ∷ segregated_rest x.0) opened t.0 in
          let whole : Takes at (to_le_bytes w32 x.0.version ++ (0 ∷ 1 ∷ segregated_rest x.0)) x.1 = rw t.1.version_is (takes_then at a.0.1 x.1 (to_le_bytes w32 a.0.0) (0 ∷ 1 ∷ segregated_rest x.0) v.0 behind) in
          (rw (segregated_text-is x.0 t.1.form) whole, t.1.whole)
      | inr unset ↦
          let t = legacy_takes a.0.0 v.1 a.0.1 x v.0.rest_fits (rw unset at a.2) in
          let whole : Takes at (to_le_bytes w32 x.0.version ++ legacy_rest x.0) x.1 = rw t.1.version_is (takes_then at a.0.1 x.1 (to_le_bytes w32 a.0.0) (legacy_rest x.0) v.0 t.0) in
          (rw (legacy_text x.0 t.1.form) whole, t.1.whole)
    ]

regroup_front : (a b c rest : List ℕ) → ((a ++ b) ++ c) ++ rest ≡ a ++ (b ++ (c ++ rest))
regroup_front a b c rest = simp append_assoc

tx_again : (t : Transaction) (at : At) (rest : List ℕ) → IsTransaction t → at.rest ≡ text_of t ++ rest → Again (tx_at at) t rest
unfolding tx_at
tx_again t at rest fits is =
    elim (cases_Bool t.segwit) [
      | inl set ↦
          let parted : at.rest ≡ to_le_bytes w32 t.version ++ (0 ∷ 1 ∷ (segregated_rest t ++ rest)) = is ∙ ap (λ (l : List ℕ). l ++ rest) (segregated_text-is t set) ∙ append_assoc (to_le_bytes w32 t.version) (0 ∷ 1 ∷ segregated_rest t) rest in
          let a = number32.again t.version at (0 ∷ 1 ∷ (segregated_rest t ++ rest)) fits.version parted in
          let mark : is_marked a.next.rest ≡ true = ap is_marked a.left in
          let b = segregated_again t.version t (after 1 a.next) rest (record { whole = fits; version_is = refl; form = set }) (ap (λ (l : List ℕ). drop 1 l) a.left) in
          record { next = b.next; reads = bind_is _ _ _ _ a.reads (rw mark b.reads); left = b.left }
      | inr unset ↦
          let parted : at.rest ≡ to_le_bytes w32 t.version ++ (legacy_rest t ++ rest) = is ∙ ap (λ (l : List ℕ). l ++ rest) (legacy_text t unset) ∙ append_assoc (to_le_bytes w32 t.version) (legacy_rest t) rest in
          let a = number32.again t.version at (legacy_rest t ++ rest) fits.version parted in
          let count : List ℕ = compact (length t.inputs) in
          let items : List ℕ = flat_map input_text t.inputs in
          let behind : List ℕ = counted output_text t.outputs ++ to_le_bytes w32 t.locktime in
          let some : 0 < slice_index (legacy_rest t ++ rest) 0 = rw (regroup_front count items behind rest) (compact_lead (length t.inputs) (items ++ (behind ++ rest)) fits.inputs_some) in
          let mark : is_marked a.next.rest ≡ false = ap is_marked a.left ∙ unmarked (legacy_rest t ++ rest) some in
          let b = legacy_again t.version t a.next rest (record { whole = fits; version_is = refl; form = unset }) a.left in
          record { next = b.next; reads = bind_is _ _ _ _ a.reads (rw mark b.reads); left = b.left }
    ]

pub tx_reads : Reads tx_at text_of IsTransaction
tx_reads = record { takes = tx_takes; again = tx_again }

-- ---- in the legacy form alone

legacy_tx_takes : (at : At) (x : Transaction × At) → IsBytes at.rest → legacy_tx_at at ≡ Ok x → Takes at (text_of x.0) x.1 × IsLegacy x.0
unfolding legacy_tx_at
legacy_tx_takes at x fits e =
    let a = bind_ok _ _ x e in
    let v = number32.takes at a.0 fits a.1 in
    let t = legacy_takes a.0.0 v.1 a.0.1 x v.0.rest_fits a.2 in
    let whole : Takes at (to_le_bytes w32 x.0.version ++ legacy_rest x.0) x.1 = rw t.1.version_is (takes_then at a.0.1 x.1 (to_le_bytes w32 a.0.0) (legacy_rest x.0) v.0 t.0) in
    (rw (legacy_text x.0 t.1.form) whole, record { whole = t.1.whole; form = t.1.form })

legacy_tx_again : (t : Transaction) (at : At) (rest : List ℕ) → IsLegacy t → at.rest ≡ text_of t ++ rest → Again (legacy_tx_at at) t rest
unfolding legacy_tx_at
legacy_tx_again t at rest fits is =
    let parted : at.rest ≡ to_le_bytes w32 t.version ++ (legacy_rest t ++ rest) = is ∙ ap (λ (l : List ℕ). l ++ rest) (legacy_text t fits.form) ∙ append_assoc (to_le_bytes w32 t.version) (legacy_rest t) rest in
    let a = number32.again t.version at (legacy_rest t ++ rest) fits.whole.version parted in
    let b = legacy_again t.version t a.next rest (record { whole = fits.whole; version_is = refl; form = fits.form }) a.left in
    record { next = b.next; reads = bind_is _ _ _ _ a.reads b.reads; left = b.left }

pub legacy_tx_reads : Reads legacy_tx_at text_of IsLegacy
legacy_tx_reads = record { takes = legacy_tx_takes; again = legacy_tx_again }
