-- Transactions in either form, and whole texts: which of their fields is the first that is broken.
use Rattle.std.proofs.Common.{◌≡◌, ℕ, ◌^◌, ◌<◌, true, cond, List, [], ◌∷◌, ◌++◌, length, drop, Result, Ok, Err, refl, sym, ap, subst, ◌∙◌, append_assoc, arith, inl, inr}
use Rattle.std.specs.Prelude.{◌⊎◌, slice_index}
use Rattle.std.specs.Int.{w32, from_le_bytes, to_le_bytes}
use Rattle.std.specs.List.{flat_map}
use Rattle.std.proofs.lemmas.Bool.{cases_Bool, both_ways, eqb-true}
use Rattle.std.proofs.lemmas.List.Elements.{All-drop, All-weaker}
use Rattle.fund_base.specs.CompactSize.{compact, counted}
use Rattle.fund_base.specs.Cursor.{At, IsBytes, after, take_at as bytes_at, number_at, compact_at}
use Rattle.fund_base.specs.Parsing.{◌>>=◌, whole_of}
use Rattle.fund_base.proofs.Laws.{guard_met, ok_is, whole_again, whole_takes, Takes, Reads}
use Rattle.fund_base.proofs.LawsOfNumbers.{compact1, compact_lead, wide32}
use Rattle.tx_codec.specs.declared.fault.TxFault.{TxFault}
use Rattle.tx_codec.specs.declared.fault.TxFault.TheVariants.{Truncated, LongCompact, NoInputs, BadFlag, Trailing}
use Rattle.tx_codec.specs.declared.tx.TxIn.{TxIn}
use Rattle.tx_codec.specs.Fault.{cut_fault}
use Rattle.tx_codec.specs.Reading.{cut, inputs_at, outputs_at, legacy_at, witnessed_at, segregated_at, is_marked, tx_at, legacy_tx_at}
use Rattle.tx_codec.specs.Transaction.{Transaction}
use Rattle.tx_codec.specs.TransactionText.{input_text, output_text, text_of, InputFits, IsTransaction, IsLegacy}
use Rattle.tx_codec.proofs.PartLaws.{number32, BareFits, inputs_reads, outputs_reads}
use Rattle.tx_codec.proofs.Laws.{tx_reads, legacy_tx_reads}
use Rattle.tx_laws.specs.Broken.{IsBroken, IsFirst, IsNoSize}
use Rattle.tx_laws.specs.Fields.{Field, Breaks}
use Rattle.tx_laws.specs.Fields.Field.{Version, Opening, Flag, InputCount, LockTime, End}
use Rattle.tx_laws.specs.Order.{InputsCome, OutputsCome, AreSomeInputs, AreSomeOutputs, OutputsThen, WitnessesThen, LockTimeThen, LegacyComes, SegregatedComes, IsBehindByte, MarkedComes, FormComes, IsVersion, TransactionComes, LegacyTransactionComes, WholeComes}
use Rattle.tx_laws.proofs.Judged.{Judged, Either, first, judged_as, judged_is, mapped, met, never, or_none, then}
use Rattle.tx_laws.proofs.Cuts.{short_told, short_given, size_given, end_in, end_told, end_given}
use Rattle.tx_laws.proofs.Leaves.{sizes, count_in, count_told, count_given, flag_in, flags, flag_told, flag_given}
use Rattle.tx_laws.proofs.Parts.{bare_all, front_fits, behind_fits, number_of, inputs_judged, outputs_judged}
use Rattle.tx_laws.proofs.Witnesses.{witnesses_judged}

-- ---- inputs and outputs

some_inputs : Reads inputs_at (counted input_text) AreSomeInputs
some_inputs = record {
  takes = λ at x fits e.
      let t = inputs_reads.takes at x fits e in
      (t.0, record { some = t.1.some; small = t.1.len; each = All-weaker BareFits (λ (i : TxIn). InputFits i × (i.witness ≡ [])) (λ i b. (b.fits, b.bare)) x.0 t.1.each });
  again = λ inputs at rest is parts. inputs_reads.again inputs at rest (record { each = bare_all inputs is.each; some = is.some; len = is.small }) parts;
}

some_outputs : Reads outputs_at (counted output_text) AreSomeOutputs
some_outputs = record {
  takes = λ at x fits e.
      let t = outputs_reads.takes at x fits e in
      (t.0, record { some = t.1.some; small = t.1.len; each = record { each = t.1.each; money = t.1.money } });
  again = λ outputs at rest is parts. outputs_reads.again outputs at rest (record { each = is.each.each; money = is.each.money; some = is.some; len = is.small }) parts;
}

-- ---- the legacy form

legacy_judged : (count : Field) (version : ℕ) (at : At) → IsBytes at.rest → Judged Breaks (IsFirst count) at (count_in NoInputs at) → Judged Breaks (LegacyComes count) at (legacy_at version at)
unfolding legacy_at
legacy_judged count version at fits counted_by =
    then Breaks inputs_at (counted input_text) AreSomeInputs some_inputs (InputsCome count) (λ inputs. OutputsThen (LockTimeThen (length inputs))) at _ fits (inputs_judged count at fits counted_by) (λ inputs a _ a_fits.
    then Breaks outputs_at (counted output_text) AreSomeOutputs some_outputs OutputsCome (λ _. IsFirst LockTime) a _ a_fits (outputs_judged a a_fits) (λ outputs b _ b_fits.
    mapped Breaks (IsFirst LockTime) b (cut (number_at w32 b)) _ (first Breaks LockTime b _ (short_told cut_fault 4 b _) (short_given cut_fault 4 b _))))

-- ---- the segregated form

witnessed_judged : (version : ℕ) (at : At) → IsBytes at.rest → Judged Breaks SegregatedComes at (witnessed_at version at)
unfolding witnessed_at
witnessed_judged version at fits =
    then Breaks inputs_at (counted input_text) AreSomeInputs some_inputs (InputsCome InputCount) (λ inputs. OutputsThen (WitnessesThen (length inputs))) at _ fits (inputs_judged InputCount at fits (first Breaks InputCount at _ (λ fault. count_told NoInputs at fault fits) (λ fault. count_given NoInputs at fault fits))) (λ inputs a is a_fits.
    then Breaks outputs_at (counted output_text) AreSomeOutputs some_outputs OutputsCome (λ _. WitnessesThen (length inputs)) a _ a_fits (outputs_judged a a_fits) (λ outputs b _ b_fits.
    witnesses_judged inputs is.each b b_fits _))

-- a byte that is read, and a byte that stands there
byte_to : (C D : List ℕ → Field → Type 0) (byte : ℕ) (front : List ℕ) (field : Field) → Either C (λ (b : List ℕ). b) (λ b. b ≡ byte ∷ []) (λ _. D) front field → C front field ⊎ IsBehindByte byte D front field
byte_to C D byte front field (inl c) = inl c
byte_to C D byte front field (inr h) = inr (record { inner = h.inner; parts = h.parts ∙ ap (λ (l : List ℕ). l ++ h.inner) h.is; comes = h.comes })

byte_back : (C D : List ℕ → Field → Type 0) (byte : ℕ) (front : List ℕ) (field : Field) → C front field ⊎ IsBehindByte byte D front field → Either C (λ (b : List ℕ). b) (λ b. b ≡ byte ∷ []) (λ _. D) front field
byte_back C D byte front field (inl c) = inl c
byte_back C D byte front field (inr h) = inr (record { whole = byte ∷ []; inner = h.inner; is = refl; parts = h.parts; comes = h.comes })

segregated_judged : (version : ℕ) (at : At) → IsBytes at.rest → Judged Breaks MarkedComes at (segregated_at version at)
unfolding segregated_at
segregated_judged version at fits =
    let Parts : List ℕ → Field → Type 0 = Either (IsFirst Flag) (λ (b : List ℕ). b) (λ b. b ≡ 1 ∷ []) (λ _. SegregatedComes) in
    judged_as Breaks Parts MarkedComes at _ fits (λ front field _ c. byte_to (IsFirst Flag) SegregatedComes 1 front field c) (λ front field _ c. byte_back (IsFirst Flag) SegregatedComes 1 front field c)
    (judged_is Breaks Parts at _ _ (sym (met (cut (bytes_at 1 at)) _ _ _))
    (then Breaks flag_in (λ (b : List ℕ). b) (λ b. b ≡ 1 ∷ []) flags (IsFirst Flag) (λ _. SegregatedComes) at _ fits (first Breaks Flag at _ (λ fault. flag_told at fault fits) (λ fault. flag_given at fault fits)) (λ flag a _ a_fits.
    witnessed_judged version a a_fits)))

-- ---- which form it is

-- a number above 0 doesn't begin with 00
zero_lead : (n : ℕ) (whole behind rest : List ℕ) → 0 < n → whole ≡ compact n ++ behind → whole ≡ 0 ∷ rest → ⊥
zero_lead n whole behind rest some is marked =
    let first_is_0 : slice_index (compact n ++ behind) 0 ≡ 0 = ap (λ (l : List ℕ). slice_index l 0) (sym is ∙ marked) in
    omega (arith, compact_lead n behind some, first_is_0)

regroup3 : (whole a b c d : List ℕ) → whole ≡ ((a ++ b) ++ c) ++ d → whole ≡ a ++ (b ++ (c ++ d))
regroup3 whole a b c d is = is ∙ simp append_assoc

-- where a marker stands, nothing of the legacy form is broken
not_opening : (place : ℕ) (bytes rest front behind : List ℕ) (field : Field) (at : ℕ) (fault : TxFault) → IsBytes bytes → bytes ≡ 0 ∷ rest → bytes ≡ front ++ behind → Breaks field at behind fault → LegacyComes Opening front field → ⊥
not_opening place bytes rest front behind field at fault fits marked parts breaks (inl (inl c)) =
    let there : behind ≡ bytes = sym (parts ∙ ap (λ (l : List ℕ). l ++ behind) c.front_is) in
    let none : IsNoSize Truncated LongCompact at behind fault = subst (λ (f : Field). Breaks f at behind fault) c.field_is breaks in
    let here : At = record { rest = behind; place = at } in
    let refused : cut (compact_at here) ≡ Err fault = size_given cut_fault here fault (behind_fits bytes front behind parts fits) none in
    let a = sizes.again 0 here rest (omega arith) (there ∙ marked ∙ ap (λ (l : List ℕ). l ++ rest) (sym (compact1 0 (omega arith)))) in
    absurd (cc (refused, a.reads))
not_opening place bytes rest front behind field at fault fits marked parts breaks (inl (inr a)) =
    zero_lead a.count bytes ((flat_map input_text a.before ++ a.inner) ++ behind) rest (omega (arith, a.few)) (parts ∙ ap (λ (l : List ℕ). l ++ behind) a.parts ∙ append_assoc (compact a.count) (flat_map input_text a.before ++ a.inner) behind) marked
not_opening place bytes rest front behind field at fault fits marked parts breaks (inr h) =
    let count : List ℕ = compact (length h.whole) in
    let items : List ℕ = flat_map input_text h.whole in
    zero_lead (length h.whole) bytes (items ++ (h.inner ++ behind)) rest h.is.some (regroup3 bytes count items h.inner behind (parts ∙ ap (λ (l : List ℕ). l ++ behind) h.parts)) marked

marked_is : (bytes : List ℕ) → is_marked bytes ≡ true → bytes ≡ 0 ∷ drop 1 bytes
marked_is [] e = absurd cc
marked_is (b ∷ bytes) e = ap (λ (x : ℕ). x ∷ bytes) (eqb-true b 0 e)

-- the marker, as a part of its own
abbrev mark_in : At → Result (List ℕ × At) TxFault
mark_in at = cond (is_marked at.rest) (Ok (0 ∷ [], after 1 at)) (Err BadFlag)

read_mark : (b : List ℕ) (next : At) → Result (List ℕ × At) TxFault
read_mark b next = Ok (b, next)

marks : Reads mark_in (λ (b : List ℕ). b) (λ b. b ≡ 0 ∷ [])
unfolding read_mark
marks = record {
  takes = λ at x fits e.
      let g = guard_met (is_marked at.rest) BadFlag (Ok (0 ∷ [], after 1 at)) x e in
      let t : Takes at (0 ∷ []) (after 1 at) = record { parts = marked_is at.rest g.0; place_is = refl; rest_fits = All-drop (λ b. b < 256) 1 at.rest fits } in
      subst (λ (y : List ℕ × At). Takes at y.0 y.1 × (y.0 ≡ 0 ∷ [])) (ok_is (0 ∷ [], after 1 at) x (Ok (0 ∷ [], after 1 at)) refl g.1) (t, refl);
  again = λ b at rest is parts.
      let opened : at.rest ≡ 0 ∷ rest = parts ∙ ap (λ (l : List ℕ). l ++ rest) is in
      let set : is_marked at.rest ≡ true = ap is_marked opened in
      let same : read_mark (0 ∷ []) (after 1 at) ≡ read_mark b (after 1 at) = ap (λ (l : List ℕ). read_mark l (after 1 at)) (sym is) in
      record { next = after 1 at; reads = rw set same; left = ap (λ (l : List ℕ). drop 1 l) opened };
}

form_judged : (version : ℕ) (at : At) → IsBytes at.rest → Judged Breaks FormComes at (cond (is_marked at.rest) (segregated_at version (after 1 at)) (legacy_at version at))
form_judged version at fits =
    elim (cases_Bool (is_marked at.rest)) [
      | inl set ↦
          let Parts : List ℕ → Field → Type 0 = Either (LegacyComes Opening) (λ (b : List ℕ). b) (λ b. b ≡ 0 ∷ []) (λ _. MarkedComes) in
          let by_mark : (mark_in at >>= λ m. segregated_at version m.1) ≡ cond (is_marked at.rest) (segregated_at version (after 1 at)) (legacy_at version at) = rw set refl in
          let there : mark_in at ≡ Ok (0 ∷ [], after 1 at) = rw set refl in
          judged_as Breaks Parts FormComes at _ fits (λ front field _ c. byte_to (LegacyComes Opening) MarkedComes 0 front field c) (λ front field _ c. byte_back (LegacyComes Opening) MarkedComes 0 front field c)
          (judged_is Breaks Parts at _ _ by_mark
          (then Breaks mark_in (λ (b : List ℕ). b) (λ b. b ≡ 0 ∷ []) marks (LegacyComes Opening) (λ _. MarkedComes) at (λ m. segregated_at version m.1) fits
          (never Breaks (LegacyComes Opening) at (mark_in at) (0 ∷ [], after 1 at) there (λ fault b. not_opening at.place at.rest (drop 1 at.rest) b.front b.behind b.field b.place fault fits (marked_is at.rest set) b.parts b.breaks b.comes))
          (λ m a _ a_fits. segregated_judged version a a_fits)))
      | inr unset ↦
          let by_form : legacy_at version at ≡ cond (is_marked at.rest) (segregated_at version (after 1 at)) (legacy_at version at) = rw unset refl in
          let no_mark : (rest : List ℕ) → at.rest ≡ 0 ∷ rest → ⊥ = λ rest is. both_ways (is_marked at.rest) unset (ap is_marked is) in
          or_none Breaks (LegacyComes Opening) (IsBehindByte 0 MarkedComes) at _ fits
          (judged_is Breaks (LegacyComes Opening) at _ _ by_form (legacy_judged Opening version at fits (first Breaks Opening at _ (λ fault e. elim (count_told NoInputs at fault fits e) [
            | inl none ↦ none
            | inr zero_is ↦ absurd (no_mark zero_is.rest zero_is.parts)
          ]) (λ fault none. count_given NoInputs at fault fits (inl none)))))
          (λ fault b. no_mark (b.comes.inner ++ b.behind) (b.parts ∙ ap (λ (l : List ℕ). l ++ b.behind) b.comes.parts))
    ]

-- ---- behind the version

version_to : (C : List ℕ → Field → Type 0) (front : List ℕ) (field : Field) → Either (IsFirst Version) (to_le_bytes w32) (λ n. n < 2 ^ 32) (λ _. C) front field → Either (IsFirst Version) (λ (b : List ℕ). b) IsVersion (λ _. C) front field
version_to C front field (inl c) = inl c
version_to C front field (inr h) = inr (record { whole = to_le_bytes w32 h.whole; inner = h.inner; is = wide32.len h.whole; parts = h.parts; comes = h.comes })

version_back : (C : List ℕ → Field → Type 0) (front : List ℕ) (field : Field) → IsBytes front → Either (IsFirst Version) (λ (b : List ℕ). b) IsVersion (λ _. C) front field → Either (IsFirst Version) (to_le_bytes w32) (λ n. n < 2 ^ 32) (λ _. C) front field
version_back C front field fits (inl c) = inl c
version_back C front field fits (inr h) =
    let n = number_of h.whole h.is (front_fits front h.whole h.inner h.parts fits) in
    inr (record { whole = from_le_bytes w32 h.whole; inner = h.inner; is = n.0; parts = h.parts ∙ ap (λ (l : List ℕ). l ++ h.inner) n.1; comes = h.comes })

pub tx_judged : (at : At) → IsBytes at.rest → Judged Breaks TransactionComes at (tx_at at)
unfolding tx_at
tx_judged at fits =
    judged_as Breaks (Either (IsFirst Version) (to_le_bytes w32) (λ n. n < 2 ^ 32) (λ _. FormComes)) TransactionComes at _ fits (λ front field _ c. version_to FormComes front field c) (version_back FormComes)
    (then Breaks (λ at. cut (number_at w32 at)) (to_le_bytes w32) (λ n. n < 2 ^ 32) number32 (IsFirst Version) (λ _. FormComes) at _ fits (first Breaks Version at _ (short_told cut_fault 4 at _) (short_given cut_fault 4 at _)) (λ version a _ a_fits.
    form_judged version a a_fits))

pub legacy_tx_judged : (at : At) → IsBytes at.rest → Judged Breaks LegacyTransactionComes at (legacy_tx_at at)
unfolding legacy_tx_at
legacy_tx_judged at fits =
    judged_as Breaks (Either (IsFirst Version) (to_le_bytes w32) (λ n. n < 2 ^ 32) (λ _. LegacyComes InputCount)) LegacyTransactionComes at _ fits (λ front field _ c. version_to (LegacyComes InputCount) front field c) (version_back (LegacyComes InputCount))
    (then Breaks (λ at. cut (number_at w32 at)) (to_le_bytes w32) (λ n. n < 2 ^ 32) number32 (IsFirst Version) (λ _. LegacyComes InputCount) at _ fits (first Breaks Version at _ (short_told cut_fault 4 at _) (short_given cut_fault 4 at _)) (λ version a _ a_fits.
    legacy_judged InputCount version a a_fits (first Breaks InputCount a _ (λ fault. count_told NoInputs a fault a_fits) (λ fault. count_given NoInputs a fault a_fits))))

-- ---- the whole of a text

whole_judged : (Is : Transaction → Type 0) (C : List ℕ → Field → Type 0) (item : At → Result (Transaction × At) TxFault) → Reads item text_of Is → ((at : At) → IsBytes at.rest → Judged Breaks C at (item at)) → (at : At) → IsBytes at.rest → Judged Breaks (WholeComes Is C) at (whole_of Trailing (item at))
whole_judged Is C item laws judged at fits =
    then Breaks item text_of Is laws C (λ _. IsFirst End) at _ fits (judged at fits) (λ tx next _ _. first Breaks End next (end_in Trailing tx next) (end_told Trailing tx next) (end_given Trailing tx next))

pub tx_whole : (at : At) → IsBytes at.rest → Judged Breaks (WholeComes IsTransaction TransactionComes) at (whole_of Trailing (tx_at at))
tx_whole = whole_judged IsTransaction TransactionComes tx_at tx_reads tx_judged

pub legacy_tx_whole : (at : At) → IsBytes at.rest → Judged Breaks (WholeComes IsLegacy LegacyTransactionComes) at (whole_of Trailing (legacy_tx_at at))
legacy_tx_whole = whole_judged IsLegacy LegacyTransactionComes legacy_tx_at legacy_tx_reads legacy_tx_judged

-- ---- one verdict

-- a whole text is read as a transaction, or has a fault
verdict_by : (Is : Transaction → Type 0) (C : List ℕ → Field → Type 0) (item : At → Result (Transaction × At) TxFault) → Reads item text_of Is → (bytes : List ℕ) → IsBytes bytes → Judged Breaks (WholeComes Is C) (record { rest = bytes; place = 0 }) (whole_of Trailing (item (record { rest = bytes; place = 0 })))
    → (r : Result Transaction TxFault) → whole_of Trailing (item (record { rest = bytes; place = 0 })) ≡ r → ((tx : Transaction) × Is tx × (bytes ≡ text_of tx)) ⊎ ((fault : TxFault) × IsBroken (WholeComes Is C) Breaks 0 bytes fault)
verdict_by Is C item laws bytes fits judged (Ok tx) e =
    let t = whole_takes Trailing item text_of Is laws (record { rest = bytes; place = 0 }) tx fits e in
    inl (tx, t.0, t.1)
verdict_by Is C item laws bytes fits judged (Err fault) e = inr (fault, judged.tells fault e)

pub tx_verdict : (bytes : List ℕ) → IsBytes bytes → ((tx : Transaction) × IsTransaction tx × (bytes ≡ text_of tx)) ⊎ ((fault : TxFault) × IsBroken (WholeComes IsTransaction TransactionComes) Breaks 0 bytes fault)
tx_verdict bytes fits = verdict_by IsTransaction TransactionComes tx_at tx_reads bytes fits (tx_whole (record { rest = bytes; place = 0 }) fits) (whole_of Trailing (tx_at (record { rest = bytes; place = 0 }))) refl

pub tx_neither : (bytes : List ℕ) (tx : Transaction) (fault : TxFault) → IsBytes bytes → IsTransaction tx → bytes ≡ text_of tx → IsBroken (WholeComes IsTransaction TransactionComes) Breaks 0 bytes fault → ⊥
tx_neither bytes tx fault fits whole is broken =
    let refused = (tx_whole (record { rest = bytes; place = 0 }) fits).gives fault broken in
    let read = whole_again Trailing tx_at text_of IsTransaction tx_reads (record { rest = bytes; place = 0 }) tx whole is in
    absurd (cc (refused, read))
