-- The witnesses of all inputs: which of their fields is the first that is broken, and what comes behind them.
use Rattle.std.proofs.Common.{◌≡◌, ◌≢◌, ℕ, zero, suc, ◌<◌, Bool, true, false, cond, eqb, List, [], ◌∷◌, ◌++◌, length, slice_index_or, Ok, Err, refl, sym, ap, subst, ◌∙◌, append_assoc, arith, inl, inr}
use Rattle.std.specs.Prelude.{◌⊎◌, Any, replicate}
use Rattle.std.specs.Int.{w32}
use Rattle.std.specs.List.{flat_map, AllByRecursion}
use Rattle.std.proofs.lemmas.Bool.{ne_eqb, and_left, and_right}
use Rattle.std.proofs.lemmas.List.{append-nil, nil_from_length}
use Rattle.std.proofs.lemmas.List.Concat.{flat_map-cons}
use Rattle.std.proofs.lemmas.List.Elements.{All-cons, All-head, All-nil, All-tail, All-weaker, All-from_recursion, recursion_from_All}
use Rattle.fund_base.specs.CompactSize.{compact, prefixed}
use Rattle.fund_base.specs.Cursor.{At, IsBytes, number_at, compact_at}
use Rattle.fund_base.specs.Parsing.{◌>>=◌, counted_at}
use Rattle.fund_base.proofs.Laws.{Again, Reads}
use Rattle.fund_base.proofs.LawsOfNumbers.{compact1}
use Rattle.fund_base.proofs.Repeat.{AllFrom, all_from, from_all, counted_reads}
use Rattle.tx_codec.specs.declared.fault.TxFault.{TxFault}
use Rattle.tx_codec.specs.declared.fault.TxFault.TheVariants.{EmptyWitness}
use Rattle.tx_codec.specs.declared.tx.TxIn.{TxIn}
use Rattle.tx_codec.specs.Fault.{cut_fault}
use Rattle.tx_codec.specs.Reading.{cut, item_at, stack_at, stacks_at, are_empty}
use Rattle.tx_codec.specs.TransactionText.{stack_text, InputFits}
use Rattle.tx_codec.proofs.PartLaws.{string, StringFits}
use Rattle.tx_codec.proofs.LawsOfStacks.{StackFits, WitnessFits, IsBare, strips, stacks_take, stacks_again, length-strips, has_stack, no_stack, all_bare}
use Rattle.tx_laws.specs.Broken.{IsFirst}
use Rattle.tx_laws.specs.Fields.{Field, Breaks}
use Rattle.tx_laws.specs.Fields.Field.{ItemCount, SomeWitness, LockTime}
use Rattle.tx_laws.specs.Order.{ItemComes, IsAmong, AreInputs, AreStrings, WitnessComes, witness_text, AreWitnesses, IsAmongWitnesses, AreNone, AreSome, WitnessesThen}
use Rattle.tx_laws.proofs.Judged.{Judged, Either, IsWithin, first, judged_as, many, mapped, never, then}
use Rattle.tx_laws.proofs.Cuts.{short_told, short_given, size_told, size_given}
use Rattle.tx_laws.proofs.Leaves.{sizes}
use Rattle.tx_laws.proofs.Parts.{IsSize, AmongParts, among_to, among_back, either_to, item_judged}

-- ---- a witness

stack_reads : Reads stack_at witness_text StackFits
stack_reads = counted_reads cut_fault item_at prefixed StringFits string

strings_whole : (strings : List (List ℕ)) → AllFrom (λ _. StringFits) [] strings → AreStrings strings
strings_whole strings fits = All-from_recursion StringFits strings (from_all StringFits [] strings fits)

strings_fit : (strings : List (List ℕ)) → AreStrings strings → AllFrom (λ _. StringFits) [] strings
strings_fit strings whole = all_from StringFits [] strings (recursion_from_All StringFits strings whole)

stack_judged : (at : At) → IsBytes at.rest → Judged Breaks WitnessComes at (stack_at at)
unfolding counted_at
stack_judged at fits =
    judged_as Breaks (Either (IsFirst ItemCount) compact IsSize (λ n. IsWithin prefixed (λ _. StringFits) (λ _. ItemComes) n [])) WitnessComes at _ fits
    (λ front field _ c. either_to (IsFirst ItemCount) (AmongParts prefixed (λ _. StringFits) (λ _. ItemComes) IsSize) (IsAmong prefixed AreStrings (λ _. ItemComes)) front field (among_to prefixed (λ _. StringFits) (λ _. ItemComes) AreStrings IsSize (λ n is. is) strings_whole front field) c)
    (λ front field _ c. either_to (IsFirst ItemCount) (IsAmong prefixed AreStrings (λ _. ItemComes)) (AmongParts prefixed (λ _. StringFits) (λ _. ItemComes) IsSize) front field (among_back prefixed (λ _. StringFits) (λ _. ItemComes) AreStrings IsSize (λ n k small few. small) strings_fit front field) c)
    (then Breaks (λ at. cut (compact_at at)) compact IsSize sizes (IsFirst ItemCount) (λ n. IsWithin prefixed (λ _. StringFits) (λ _. ItemComes) n []) at _ fits (first Breaks ItemCount at _ (λ fault. size_told cut_fault at fault fits) (λ fault. size_given cut_fault at fault fits)) (λ n next _ next_fits.
    many Breaks (λ _. item_at) prefixed (λ _. StringFits) (λ _. string) (λ _. ItemComes) (λ before. item_judged) n [] next next_fits))

-- ---- the witness of each input

stacks_more : (n : ℕ) (front : List ℕ) (field : Field) → Either WitnessComes witness_text StackFits (λ _. IsAmongWitnesses n) front field → IsAmongWitnesses (suc n) front field
stacks_more n front field (inl c) = record { before = []; inner = front; parts = refl; few = omega arith; whole = All-nil StackFits; comes = c }
stacks_more n front field (inr h) =
    let w = h.comes in
    record {
      before = h.whole ∷ w.before;
      inner = w.inner;
      parts = h.parts ∙ ap (λ (l : List ℕ). witness_text h.whole ++ l) w.parts ∙ sym (append_assoc (witness_text h.whole) (flat_map witness_text w.before) w.inner) ∙ ap (λ (l : List ℕ). l ++ w.inner) (sym (flat_map-cons witness_text h.whole w.before));
      few = omega (arith, w.few);
      whole = All-cons StackFits h.whole w.before h.is w.whole;
      comes = w.comes;
    }

stacks_less : (n : ℕ) (front : List ℕ) (field : Field) (before : List (List (List ℕ))) (inner : List ℕ) → front ≡ flat_map witness_text before ++ inner → length before < suc n → AreWitnesses before → WitnessComes inner field → Either WitnessComes witness_text StackFits (λ _. IsAmongWitnesses n) front field
stacks_less n front field [] inner parts few whole comes = inl (subst (λ (l : List ℕ). WitnessComes l field) (sym parts) comes)
stacks_less n front field (w ∷ before) inner parts few whole comes =
    inr (record {
      whole = w;
      inner = flat_map witness_text before ++ inner;
      is = All-head StackFits w before whole;
      parts = parts ∙ ap (λ (l : List ℕ). l ++ inner) (flat_map-cons witness_text w before) ∙ append_assoc (witness_text w) (flat_map witness_text before) inner;
      comes = record { before = before; inner = inner; parts = refl; few = omega (arith, few); whole = All-tail StackFits w before whole; comes = comes };
    })

stacks_judged : (inputs : List TxIn) (at : At) → IsBytes at.rest → Judged Breaks (IsAmongWitnesses (length inputs)) at (stacks_at inputs at)
unfolding stacks_at
stacks_judged [] at fits = never Breaks (IsAmongWitnesses 0) at _ ([], at) refl (λ fault b. omega (arith, b.comes.few))
stacks_judged (i ∷ inputs) at fits =
    judged_as Breaks (Either WitnessComes witness_text StackFits (λ _. IsAmongWitnesses (length inputs))) (IsAmongWitnesses (suc (length inputs))) at _ fits
    (λ front field _ c. stacks_more (length inputs) front field c)
    (λ front field _ c. stacks_less (length inputs) front field c.before c.inner c.parts c.few c.whole c.comes)
    (then Breaks stack_at witness_text StackFits stack_reads WitnessComes (λ _. IsAmongWitnesses (length inputs)) at _ fits (stack_judged at fits) (λ stack next _ next_fits.
    mapped Breaks (IsAmongWitnesses (length inputs)) next (stacks_at inputs next) _ (stacks_judged inputs next next_fits)))

-- ---- inputs with their witnesses, and the witnesses alone

-- inputs, now with a witness each
record IsFilled (inputs filled : List TxIn) : Type 0 where
  same : inputs ≡ strips filled
  fits : AllByRecursion WitnessFits filled

filled_reads : (inputs : List TxIn) → AllByRecursion IsBare inputs → Reads (stacks_at inputs) (flat_map stack_text) (IsFilled inputs)
filled_reads inputs bare = record {
  takes = λ at x fits e.
      let t = stacks_take inputs at x bare fits e in
      (t.takes, record { same = t.same; fits = t.fits });
  again = λ x at rest is parts.
      let a = stacks_again x at rest is.fits parts in
      subst (λ (l : List TxIn). Again (stacks_at l at) x rest) (sym is.same) a;
}

abbrev stacks_of : List TxIn → List (List (List ℕ))
stacks_of [] = []
stacks_of (i ∷ inputs) = i.witness ∷ stacks_of inputs

length_stacks : (inputs : List TxIn) → length (stacks_of inputs) ≡ length inputs
length_stacks [] = refl
length_stacks (i ∷ inputs) = ap suc (length_stacks inputs)

stacks_text : (inputs : List TxIn) → flat_map stack_text inputs ≡ flat_map witness_text (stacks_of inputs)
unfolding stack_text
stacks_text [] = refl
stacks_text (i ∷ inputs) = ap (λ (l : List ℕ). witness_text i.witness ++ l) (stacks_text inputs)

stacks_whole : (inputs : List TxIn) → AllByRecursion WitnessFits inputs → AreWitnesses (stacks_of inputs)
stacks_whole [] fits = All-nil StackFits
stacks_whole (i ∷ inputs) fits = All-cons StackFits i.witness (stacks_of inputs) fits.0 (stacks_whole inputs fits.1)

whole_stacks : (inputs : List TxIn) → AreWitnesses (stacks_of inputs) → AllByRecursion WitnessFits inputs
whole_stacks [] whole = tt
whole_stacks (i ∷ inputs) whole = (All-head StackFits i.witness (stacks_of inputs) whole, whole_stacks inputs (All-tail StackFits i.witness (stacks_of inputs) whole))

some_stack : (inputs : List TxIn) (k : ℕ) (i : TxIn) → k < length inputs → slice_index_or inputs k i ≡ i → i.witness ≢ [] → Any (λ (w : List (List ℕ)). w ≢ []) (stacks_of inputs)
some_stack [] k i lt is some = absurd (omega arith)
some_stack (j ∷ inputs) zero i lt is some = (0, i.witness, omega arith, ap (λ (x : TxIn). x.witness) is, some)
some_stack (j ∷ inputs) (suc k) i lt is some =
    let a = some_stack inputs k i (omega arith) is some in
    (suc a.0, a.1, omega (arith, a.2), a.3, a.4)

stack_some : (inputs : List TxIn) (k : ℕ) (w : List (List ℕ)) → k < length (stacks_of inputs) → slice_index_or (stacks_of inputs) k w ≡ w → w ≢ [] → are_empty inputs ≡ false
stack_some [] k w lt is some = absurd (omega arith)
stack_some (i ∷ inputs) zero w lt is some = and_left (eqb (length i.witness) 0) (are_empty inputs) (ne_eqb (length i.witness) 0 (λ none. some (sym is ∙ nil_from_length i.witness none)))
stack_some (i ∷ inputs) (suc k) w lt is some = and_right (eqb (length i.witness) 0) (are_empty inputs) (stack_some inputs k w (omega arith) is some)

-- witnesses that are empty
empty_text : (inputs : List TxIn) → AllByRecursion IsBare inputs → flat_map stack_text inputs ≡ replicate (length inputs) 0
unfolding stack_text
empty_text [] bare = refl
empty_text (i ∷ inputs) bare =
    let one : witness_text i.witness ≡ 0 ∷ [] = ap witness_text bare.0 ∙ ap (λ (l : List ℕ). l ++ []) (compact1 0 (omega arith)) in
    ap (λ (l : List ℕ). l ++ flat_map stack_text inputs) one ∙ ap (λ (l : List ℕ). 0 ∷ l) (empty_text inputs bare.1)

bare_same : (inputs : List TxIn) → AllByRecursion IsBare inputs → inputs ≡ strips inputs
bare_same [] bare = refl
bare_same (i ∷ inputs) bare =
    let first_same : i ≡ record i { witness = [] } = ap (λ (w : List (List ℕ)). record i { witness = w }) bare.0 in
    ap (λ (j : TxIn). j ∷ inputs) first_same ∙ ap (λ (l : List TxIn). record i { witness = [] } ∷ l) (bare_same inputs bare.1)

bare_fits : (inputs : List TxIn) → AllByRecursion IsBare inputs → AllByRecursion WitnessFits inputs
bare_fits [] bare = tt
bare_fits (i ∷ inputs) bare = (subst (λ (w : List (List ℕ)). StackFits w) (sym bare.0) (All-nil StringFits, omega arith), bare_fits inputs bare.1)

-- inputs with these witnesses
abbrev fill : List TxIn → List (List (List ℕ)) → List TxIn
fill [] witnesses = []
fill (i ∷ inputs) [] = []
fill (i ∷ inputs) (w ∷ witnesses) = record i { witness = w } ∷ fill inputs witnesses

fill_same : (inputs : List TxIn) (witnesses : List (List (List ℕ))) → AllByRecursion IsBare inputs → length witnesses ≡ length inputs → inputs ≡ strips (fill inputs witnesses)
fill_same [] witnesses bare len = refl
fill_same (i ∷ inputs) [] bare len = absurd (omega (arith, len))
fill_same (i ∷ inputs) (w ∷ witnesses) bare len =
    let first_same : i ≡ record i { witness = [] } = ap (λ (v : List (List ℕ)). record i { witness = v }) bare.0 in
    ap (λ (j : TxIn). j ∷ inputs) first_same ∙ ap (λ (l : List TxIn). record i { witness = [] } ∷ l) (fill_same inputs witnesses bare.1 (omega (arith, len)))

fill_stacks : (inputs : List TxIn) (witnesses : List (List (List ℕ))) → length witnesses ≡ length inputs → stacks_of (fill inputs witnesses) ≡ witnesses
fill_stacks [] [] len = refl
fill_stacks [] (w ∷ witnesses) len = absurd (omega (arith, len))
fill_stacks (i ∷ inputs) [] len = absurd (omega (arith, len))
fill_stacks (i ∷ inputs) (w ∷ witnesses) len = ap (λ (l : List (List (List ℕ))). w ∷ l) (fill_stacks inputs witnesses (omega (arith, len)))

-- ---- the witnesses, and what comes behind them

abbrev end_field : Bool → Field
end_field empty = cond empty SomeWitness LockTime

abbrev WitnessParts : List TxIn → List ℕ → Field → Type 0
WitnessParts inputs = Either (IsAmongWitnesses (length inputs)) (flat_map stack_text) (IsFilled inputs) (λ filled. IsFirst (end_field (are_empty filled)))

ending_to : (n : ℕ) (filled : List TxIn) (front : List ℕ) (field : Field) → length filled ≡ n → AllByRecursion WitnessFits filled → front ≡ flat_map stack_text filled → (b : Bool) → are_empty filled ≡ b → field ≡ end_field b → AreNone n front field ⊎ AreSome n front field
ending_to n filled front field len fits is true e field_is = inl (record { front_is = is ∙ empty_text filled (all_bare filled e) ∙ ap (λ (k : ℕ). replicate k 0) len; field_is = field_is })
ending_to n filled front field len fits is false e field_is =
    let s = has_stack filled e in
    inr (record { witnesses = stacks_of filled; front_is = is ∙ stacks_text filled; count = length_stacks filled ∙ len; whole = stacks_whole filled fits; some = some_stack filled s.0 s.1 s.2 s.3 s.4; field_is = field_is })

witness_to : (inputs : List TxIn) (front : List ℕ) (field : Field) → WitnessParts inputs front field → WitnessesThen (length inputs) front field
witness_to inputs front field (inl a) = inl a
witness_to inputs front field (inr h) =
    let len : length h.whole ≡ length inputs = sym (ap (λ (l : List TxIn). length l) h.is.same ∙ length-strips h.whole) in
    let text : front ≡ flat_map stack_text h.whole = h.parts ∙ ap (λ (l : List ℕ). flat_map stack_text h.whole ++ l) h.comes.front_is ∙ append-nil (flat_map stack_text h.whole) in
    inr (ending_to (length inputs) h.whole front field len h.is.fits text (are_empty h.whole) refl h.comes.field_is)

witness_back : (inputs : List TxIn) → AllByRecursion IsBare inputs → (front : List ℕ) (field : Field) → WitnessesThen (length inputs) front field → WitnessParts inputs front field
witness_back inputs bare front field (inl a) = inl a
witness_back inputs bare front field (inr (inl none)) =
    inr (record {
      whole = inputs;
      inner = [];
      is = record { same = bare_same inputs bare; fits = bare_fits inputs bare };
      parts = none.front_is ∙ sym (empty_text inputs bare) ∙ sym (append-nil (flat_map stack_text inputs));
      comes = record { front_is = refl; field_is = none.field_is ∙ sym (ap end_field (no_stack inputs bare)) };
    })
witness_back inputs bare front field (inr (inr some)) =
    let filled : List TxIn = fill inputs some.witnesses in
    let stacks : stacks_of filled ≡ some.witnesses = fill_stacks inputs some.witnesses some.count in
    let there : Any (λ (w : List (List ℕ)). w ≢ []) (stacks_of filled) = subst (λ (l : List (List (List ℕ))). Any (λ (w : List (List ℕ)). w ≢ []) l) (sym stacks) some.some in
    let text : flat_map stack_text filled ≡ flat_map witness_text some.witnesses = stacks_text filled ∙ ap (λ (l : List (List (List ℕ))). flat_map witness_text l) stacks in
    inr (record {
      whole = filled;
      inner = [];
      is = record { same = fill_same inputs some.witnesses bare some.count; fits = whole_stacks filled (subst (λ (l : List (List (List ℕ))). AreWitnesses l) (sym stacks) some.whole) };
      parts = some.front_is ∙ sym text ∙ sym (append-nil (flat_map stack_text filled));
      comes = record { front_is = refl; field_is = some.field_is ∙ sym (ap end_field (stack_some filled there.0 there.1 there.2 there.3 there.4)) };
    })

ends_judged : {Y : Type 0} (empty : Bool) (at : At) (g : ℕ × At → Y) → Judged Breaks (IsFirst (end_field empty)) at (cond empty (Err EmptyWitness) (cut (number_at w32 at) >>= λ l. Ok (g l)))
ends_judged true at g = first Breaks SomeWitness at _ (λ fault e. cc) (λ fault is. ap (λ (f : TxFault). Err f) (sym is))
ends_judged false at g = mapped Breaks (IsFirst LockTime) at (cut (number_at w32 at)) g (first Breaks LockTime at _ (short_told cut_fault 4 at _) (short_given cut_fault 4 at _))

pub witnesses_judged : {Y : Type 0} (inputs : List TxIn) → AreInputs inputs → (at : At) → IsBytes at.rest → (g : List TxIn × At → ℕ × At → Y)
    → Judged Breaks (WitnessesThen (length inputs)) at (stacks_at inputs at >>= λ s. cond (are_empty s.0) (Err EmptyWitness) (cut (number_at w32 s.1) >>= λ l. Ok (g s l)))
witnesses_judged inputs whole at fits g =
    let bare : AllByRecursion IsBare inputs = recursion_from_All IsBare inputs (All-weaker (λ (i : TxIn). InputFits i × (i.witness ≡ [])) IsBare (λ i b. b.1) inputs whole) in
    judged_as Breaks (WitnessParts inputs) (WitnessesThen (length inputs)) at _ fits (λ front field _ c. witness_to inputs front field c) (λ front field _ c. witness_back inputs bare front field c)
    (then Breaks (stacks_at inputs) (flat_map stack_text) (IsFilled inputs) (filled_reads inputs bare) (IsAmongWitnesses (length inputs)) (λ filled. IsFirst (end_field (are_empty filled))) at _ fits (stacks_judged inputs at fits) (λ filled next _ _.
    ends_judged (are_empty filled) next (g (filled, next))))
