-- The laws of witnesses, which stand apart from the inputs that they belong to.
use Rattle.std.proofs.Common.{◌≡◌, ◌≢◌, ℕ, zero, suc, ◌^◌, ◌<◌, true, false, eqb, List, [], ◌∷◌, ◌++◌, length, slice_index_or, All, Ok, refl, sym, ap, subst, ◌∙◌, append_assoc, arith, inl, inr}
use Rattle.std.specs.Prelude.{Any}
use Rattle.std.specs.List.{flat_map, AllByRecursion}
use Rattle.std.proofs.lemmas.Bool.{eqb-true, eq-eqb, ne_eqb, eqb-false, and_left, and_right, and_from, and_cases, and_parts}
use Rattle.std.proofs.lemmas.List.{nil_from_length}
use Rattle.std.proofs.lemmas.List.Concat.{flat_map-cons}
use Rattle.std.proofs.lemmas.List.Elements.{All-nil}
use Rattle.fund_base.specs.CompactSize.{prefixed, counted}
use Rattle.fund_base.specs.Cursor.{At, IsBytes}
use Rattle.fund_base.proofs.Laws.{bind_ok, bind_is, ok_is, Takes, takes_then, takes_none, Again, Reads}
use Rattle.fund_base.proofs.Repeat.{counted_reads}
use Rattle.tx_codec.specs.declared.tx.TxIn.{TxIn}
use Rattle.tx_codec.specs.Fault.{cut_fault}
use Rattle.tx_codec.specs.Reading.{item_at, stack_at, stacks_at, are_empty}
use Rattle.tx_codec.specs.TransactionText.{input_text, stack_text, InputFits}
use Rattle.tx_codec.proofs.PartLaws.{StringFits, string, BareFits}

-- a witness whose numbers and bytes fit
abbrev pub StackFits : List (List ℕ) → Type 0
StackFits stack = All StringFits stack × (length stack < 2 ^ 64)

stack_reads : Reads stack_at (counted prefixed) StackFits
stack_reads = counted_reads cut_fault item_at prefixed StringFits string

-- an input without its witness
abbrev pub strip : TxIn → TxIn
strip i = record i { witness = [] }

abbrev pub strips : List TxIn → List TxIn
strips [] = []
strips (i ∷ inputs) = strip i ∷ strips inputs

abbrev pub IsBare : TxIn → Type 0
IsBare i = i.witness ≡ []

abbrev pub WitnessFits : TxIn → Type 0
WitnessFits i = StackFits i.witness

-- the inputs with the witnesses that were read
pub record TakesStacks (inputs : List TxIn) (at : At) (x : List TxIn × At) : Type 0 where
  pub takes : Takes at (flat_map stack_text x.0) x.1
  pub fits : AllByRecursion WitnessFits x.0
  pub same : inputs ≡ strips x.0

pub stacks_take : (inputs : List TxIn) (at : At) (x : List TxIn × At) → AllByRecursion IsBare inputs → IsBytes at.rest → stacks_at inputs at ≡ Ok x → TakesStacks inputs at x
unfolding stacks_at stack_text
stacks_take [] at x bare fits e =
    subst (λ (y : List TxIn × At). TakesStacks [] at y) (ok_is ([], at) x _ refl e) (record { takes = takes_none at fits; fits = tt; same = refl })
stacks_take (i ∷ inputs) at x bare fits e =
    let a = bind_ok _ _ x e in
    let b = bind_ok _ _ x a.2 in
    let ta = stack_reads.takes at a.0 fits a.1 in
    let tb = stacks_take inputs a.0.1 b.0 bare.1 ta.0.rest_fits b.1 in
    let made : List TxIn × At = (record i { witness = a.0.0 } ∷ b.0.0, b.0.1) in
    let whole : Takes at (flat_map stack_text made.0) made.1 = rw flat_map-cons (takes_then at a.0.1 b.0.1 (counted prefixed a.0.0) (flat_map stack_text b.0.0) ta.0 tb.takes) in
    let first : i ≡ record i { witness = [] } = ap (λ (w : List (List ℕ)). record i { witness = w }) bare.0 in
    let same : i ∷ inputs ≡ strips made.0 = ap (λ (j : TxIn). j ∷ inputs) first ∙ ap (λ (l : List TxIn). record i { witness = [] } ∷ l) tb.same in
    subst (λ (y : List TxIn × At). TakesStacks (i ∷ inputs) at y) (ok_is made x (Ok made) refl b.2) (record { takes = whole; fits = (ta.1, tb.fits); same = same })

pub stacks_again : (inputs : List TxIn) (at : At) (rest : List ℕ) → AllByRecursion WitnessFits inputs → at.rest ≡ flat_map stack_text inputs ++ rest → Again (stacks_at (strips inputs) at) inputs rest
unfolding stacks_at stack_text
stacks_again [] at rest fits is = record { next = at; reads = refl; left = is }
stacks_again (i ∷ inputs) at rest fits is =
    let parted : at.rest ≡ counted prefixed i.witness ++ (flat_map stack_text inputs ++ rest) = is ∙ ap (λ (l : List ℕ). l ++ rest) (flat_map-cons stack_text i inputs) ∙ append_assoc (counted prefixed i.witness) (flat_map stack_text inputs) rest in
    let a = stack_reads.again i.witness at (flat_map stack_text inputs ++ rest) fits.0 parted in
    let b = stacks_again inputs a.next rest fits.1 a.left in
    record { next = b.next; reads = bind_is _ _ _ _ a.reads (bind_is _ _ _ _ b.reads refl); left = b.left }

-- ---- what doesn't depend on the witnesses

pub length-strips : (inputs : List TxIn) → length (strips inputs) ≡ length inputs
length-strips [] = refl
length-strips (i ∷ inputs) = ap suc (length-strips inputs)

pub flat_map-strips : (inputs : List TxIn) → flat_map input_text (strips inputs) ≡ flat_map input_text inputs
unfolding input_text
flat_map-strips [] = refl
flat_map-strips (i ∷ inputs) = ap (λ (l : List ℕ). input_text i ++ l) (flat_map-strips inputs)

pub bare_strips : (inputs : List TxIn) → AllByRecursion IsBare (strips inputs)
bare_strips [] = tt
bare_strips (i ∷ inputs) = (refl, bare_strips inputs)

-- an input fits where it does without its witness, and its witness does
pub fit_with_stacks : (inputs : List TxIn) → AllByRecursion BareFits (strips inputs) → AllByRecursion WitnessFits inputs → AllByRecursion InputFits inputs
fit_with_stacks [] bare stacks = tt
fit_with_stacks (i ∷ inputs) bare stacks =
    let b = bare.0.fits in
    let s = stacks.0 in
    (record { txid_len = b.txid_len; txid = b.txid; index = b.index; script = b.script; script_len = b.script_len; sequence = b.sequence; stack = s.0; stack_len = s.1 }, fit_with_stacks inputs bare.1 stacks.1)

pub fit_without_stacks : (inputs : List TxIn) → AllByRecursion InputFits inputs → AllByRecursion BareFits (strips inputs)
fit_without_stacks [] fits = tt
fit_without_stacks (i ∷ inputs) fits =
    let f = fits.0 in
    (record { fits = record { txid_len = f.txid_len; txid = f.txid; index = f.index; script = f.script; script_len = f.script_len; sequence = f.sequence; stack = All-nil StringFits; stack_len = omega arith }; bare = refl }, fit_without_stacks inputs fits.1)

pub stacks_fit : (inputs : List TxIn) → AllByRecursion InputFits inputs → AllByRecursion WitnessFits inputs
stacks_fit [] fits = tt
stacks_fit (i ∷ inputs) fits = ((fits.0.stack, fits.0.stack_len), stacks_fit inputs fits.1)

-- ---- whether some witness isn't empty

abbrev HasStack : TxIn → Type 0
HasStack i = i.witness ≢ []

pub has_stack : (inputs : List TxIn) → are_empty inputs ≡ false → Any (λ (i : TxIn). i.witness ≢ []) inputs
has_stack [] e = absurd cc
has_stack (i ∷ inputs) e =
    elim (and_cases (eqb (length i.witness) 0) (are_empty inputs) e) [
      | inl here ↦ (0, i, omega arith, refl, λ is. eqb-false (length i.witness) 0 here (ap length is))
      | inr later ↦
          let a = has_stack inputs later in
          (suc a.0, a.1, omega (arith, a.2), a.3, a.4)
    ]

pub not_empty : (inputs : List TxIn) (k : ℕ) (i : TxIn) → k < length inputs → slice_index_or inputs k i ≡ i → i.witness ≢ [] → are_empty inputs ≡ false
not_empty [] k i lt is some = absurd (omega arith)
not_empty (j ∷ inputs) zero i lt is some =
    let same : j.witness ≡ i.witness = ap (λ (x : TxIn). x.witness) is in
    and_left (eqb (length j.witness) 0) (are_empty inputs) (ne_eqb (length j.witness) 0 (λ none. some (sym same ∙ nil_from_length j.witness none)))
not_empty (j ∷ inputs) (suc k) i lt is some = and_right (eqb (length j.witness) 0) (are_empty inputs) (not_empty inputs k i (omega arith) is some)

pub no_stack : (inputs : List TxIn) → AllByRecursion IsBare inputs → are_empty inputs ≡ true
no_stack [] bare = refl
no_stack (i ∷ inputs) bare = and_from (eqb (length i.witness) 0) (are_empty inputs) (eq-eqb (length i.witness) 0 (ap (λ (w : List (List ℕ)). length w) bare.0)) (no_stack inputs bare.1)

pub all_bare : (inputs : List TxIn) → are_empty inputs ≡ true → AllByRecursion IsBare inputs
all_bare [] e = tt
all_bare (i ∷ inputs) e =
    let p = and_parts (eqb (length i.witness) 0) (are_empty inputs) e in
    (nil_from_length i.witness (eqb-true (length i.witness) 0 p.0), all_bare inputs p.1)

pub bare_fit : (inputs : List TxIn) → AllByRecursion IsBare inputs → AllByRecursion InputFits inputs → AllByRecursion BareFits inputs
bare_fit [] bare fits = tt
bare_fit (i ∷ inputs) bare fits = (record { fits = fits.0; bare = bare.0 }, bare_fit inputs bare.1 fits.1)
