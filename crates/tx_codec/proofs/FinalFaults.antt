-- A transaction's fault doesn't depend on the bytes after the text, unless it says that they are missing.
use Rattle.std.proofs.Common.{◌≡◌, ℕ, ◌==◌, cond, List, [], ◌∷◌, ◌++◌, Result, Ok, Err, refl, sym, ap, ◌∙◌, inl, inr}
use Rattle.std.specs.Int.{w32, w64}
use Rattle.std.proofs.lemmas.List.{append-nil}
use Rattle.fund_base.specs.declared.cursor.CutFault.{CutFault}
use Rattle.fund_base.specs.Cursor.{At, after, compact_at}
use Rattle.fund_base.specs.Parsing.{counted_at}
use Rattle.fund_base.proofs.Laws.{ok_is, Reads}
use Rattle.tx_codec.specs.declared.fault.TxFault.{TxFault}
use Rattle.tx_codec.specs.declared.fault.TxFault.TheVariants.{Truncated, NoInputs, NoOutputs, BadFlag, EmptyWitness}
use Rattle.tx_codec.specs.declared.tx.TxIn.{TxIn}
use Rattle.tx_codec.specs.declared.tx.TxOut.{TxOut}
use Rattle.tx_codec.specs.Fault.{cut_fault}
use Rattle.tx_codec.specs.Truncation.{IsCut, BeginsNone, IsPart, IsCutOff}
use Rattle.tx_codec.specs.Reading.{cut, input_at, output_at, output_in, some_at, inputs_at, outputs_at, item_at, stack_at, stacks_at, legacy_at, witnessed_at, segregated_at, is_marked, tx_at, legacy_tx_at}
use Rattle.tx_codec.specs.Transaction.{Transaction}
use Rattle.tx_codec.specs.TransactionText.{text_of}
use Rattle.tx_codec.proofs.MoreBytes.{spot, longer, Carries, then, done, pick, refused, IsShort, reported, take_longer, number_longer, count_longer, string_longer, many_longer}

told : {X : Type 0} (more : List ℕ) (read again : Result (X × At) CutFault) → Carries IsShort more read again → Carries IsCut more (cut read) (cut again)
told more read again h = reported IsCut cut_fault more read again (λ place. record { place = place; is = refl }) h

input_longer : (more : List ℕ) (at : At) → Carries IsCut more (input_at at) (input_at (longer more at))
unfolding input_at
input_longer more at =
    then IsCut more _ _ _ _ (told more _ _ (take_longer 32 more at)) (λ a.
    then IsCut more _ _ _ _ (told more _ _ (number_longer w32 more a.1)) (λ b.
    then IsCut more _ _ _ _ (told more _ _ (string_longer more b.1)) (λ c.
    then IsCut more _ _ _ _ (told more _ _ (number_longer w32 more c.1)) (λ d.
    done IsCut more _ d.1))))

output_longer : (more : List ℕ) (before : List TxOut) (at : At) → Carries IsCut more (output_in before at) (output_in before (longer more at))
unfolding output_at
output_longer more before at =
    then IsCut more _ _ _ _ (told more _ _ (number_longer w64 more at)) (λ a.
    pick IsCut more _ _ _ _ _ (refused IsCut more _)
    (then IsCut more _ _ _ _ (told more _ _ (string_longer more a.1)) (λ b.
    done IsCut more _ b.1)))

some_longer : {X : Type 0} (more : List ℕ) (none : TxFault) (item : List X → At → Result (X × At) TxFault) → ((before : List X) (at : At) → Carries IsCut more (item before at) (item before (longer more at)))
    → (at : At) → Carries IsCut more (some_at none item at) (some_at none item (longer more at))
unfolding some_at
some_longer more none item each at =
    then IsCut more _ _ _ _ (told more _ _ (count_longer more at)) (λ n.
    pick IsCut more _ _ _ _ _ (refused IsCut more none) (many_longer IsCut more item each n.0 [] n.1))

stack_longer : (more : List ℕ) (at : At) → Carries IsCut more (stack_at at) (stack_at (longer more at))
unfolding counted_at
stack_longer more at =
    then IsCut more _ _ _ _ (told more _ _ (count_longer more at)) (λ n.
    many_longer IsCut more (λ _. item_at) (λ before next. told more _ _ (string_longer more next)) n.0 [] n.1)

stacks_longer : (more : List ℕ) (inputs : List TxIn) (at : At) → Carries IsCut more (stacks_at inputs at) (stacks_at inputs (longer more at))
unfolding stacks_at
stacks_longer more [] at = done IsCut more [] at
stacks_longer more (i ∷ inputs) at =
    then IsCut more _ _ _ _ (stack_longer more at) (λ a.
    then IsCut more _ _ _ _ (stacks_longer more inputs a.1) (λ b.
    done IsCut more _ b.1))

inputs_longer : (more : List ℕ) (at : At) → Carries IsCut more (inputs_at at) (inputs_at (longer more at))
inputs_longer more at = some_longer more NoInputs (λ _. input_at) (λ before next. input_longer more next) at

outputs_longer : (more : List ℕ) (at : At) → Carries IsCut more (outputs_at at) (outputs_at (longer more at))
outputs_longer more at = some_longer more NoOutputs output_in (output_longer more) at

legacy_longer : (more : List ℕ) (version : ℕ) (at : At) → Carries IsCut more (legacy_at version at) (legacy_at version (longer more at))
unfolding legacy_at
legacy_longer more version at =
    then IsCut more _ _ _ _ (inputs_longer more at) (λ a.
    then IsCut more _ _ _ _ (outputs_longer more a.1) (λ b.
    then IsCut more _ _ _ _ (told more _ _ (number_longer w32 more b.1)) (λ c.
    done IsCut more _ c.1)))

witnessed_longer : (more : List ℕ) (version : ℕ) (at : At) → Carries IsCut more (witnessed_at version at) (witnessed_at version (longer more at))
unfolding witnessed_at
witnessed_longer more version at =
    then IsCut more _ _ _ _ (inputs_longer more at) (λ a.
    then IsCut more _ _ _ _ (outputs_longer more a.1) (λ b.
    then IsCut more _ _ _ _ (stacks_longer more a.0 b.1) (λ c.
    pick IsCut more _ _ _ _ _ (refused IsCut more EmptyWitness)
    (then IsCut more _ _ _ _ (told more _ _ (number_longer w32 more c.1)) (λ d.
    done IsCut more _ d.1)))))

segregated_longer : (more : List ℕ) (version : ℕ) (at : At) → Carries IsCut more (segregated_at version at) (segregated_at version (longer more at))
unfolding segregated_at
segregated_longer more version at =
    then IsCut more _ _ _ _ (told more _ _ (take_longer 1 more at)) (λ a.
    pick IsCut more _ _ _ _ _ (witnessed_longer more version a.1) (refused IsCut more BadFlag))

-- after the version, in one form or the other
abbrev formed_at : ℕ → At → Result (Transaction × At) TxFault
formed_at version at = cond (is_marked at.rest) (segregated_at version (after 1 at)) (legacy_at version at)

-- where nothing is left there is no count
unmarked_end : (version place : ℕ) → legacy_at version (spot [] place) ≡ Err (Truncated place)
unfolding legacy_at some_at compact_at
unmarked_end version place = refl

formed_longer : (more : List ℕ) (version : ℕ) (rest : List ℕ) (place : ℕ) → Carries IsCut more (formed_at version (spot rest place)) (formed_at version (longer more (spot rest place)))
formed_longer more version [] place = record {
  ok = λ x e. let f = unmarked_end version place in absurd cc;
  err = λ e is. let f = unmarked_end version place in inl (record { place = place; is = cc });
}
formed_longer more version (b ∷ rest) place = pick IsCut more (b == 0) _ _ _ _ (segregated_longer more version _) (legacy_longer more version (spot (b ∷ rest) place))

pub tx_longer : (more : List ℕ) (at : At) → Carries IsCut more (tx_at at) (tx_at (longer more at))
unfolding tx_at
tx_longer more at = then IsCut more _ _ _ _ (told more _ _ (number_longer w32 more at)) (λ version. formed_longer more version.0 version.1.rest version.1.place)

pub legacy_tx_longer : (more : List ℕ) (at : At) → Carries IsCut more (legacy_tx_at at) (legacy_tx_at (longer more at))
unfolding legacy_tx_at
legacy_tx_longer more at = then IsCut more _ _ _ _ (told more _ _ (number_longer w32 more at)) (λ version. legacy_longer more version.0 version.1)

-- ---- what follows of the laws of a reader

abbrev pub start : List ℕ → At
start bytes = spot bytes 0

pub final_by : (item : At → Result (Transaction × At) TxFault) → ((more : List ℕ) (at : At) → Carries IsCut more (item at) (item (longer more at)))
    → (bytes more : List ℕ) (fault : TxFault) → item (start bytes) ≡ Err fault → (IsCut fault → ⊥) → item (start (bytes ++ more)) ≡ Err fault
final_by item carries bytes more fault e whole =
    elim ((carries more (start bytes)).err fault e) [
      | inl cut ↦ absurd (whole cut)
      | inr is ↦ is
    ]

-- a reading is no fault where it is a value
pub apart : {A E : Type 0} (r : Result A E) (x : A) (e : E) → r ≡ Ok x → r ≡ Err e → ⊥
apart r x e p q = absurd (cc (p, q))

pub none_by : (item : At → Result (Transaction × At) TxFault) (Is : Transaction → Type 0) → Reads item text_of Is → ((more : List ℕ) (at : At) → Carries IsCut more (item at) (item (longer more at)))
    → (bytes : List ℕ) (fault : TxFault) → item (start bytes) ≡ Err fault → (IsCut fault → ⊥) → BeginsNone Is bytes
none_by item Is laws carries bytes fault e whole more tx rest fits is =
    let a = laws.again tx (start (bytes ++ more)) rest fits is in
    apart (item (start (bytes ++ more))) (tx, a.next) fault a.reads (final_by item carries bytes more fault e whole)

-- a list with another after it is empty only where both are
pub no_more : (xs more : List ℕ) → xs ++ more ≡ [] → more ≡ []
no_more [] more e = e
no_more (x ∷ xs) more e = absurd cc

cut_by : (item : At → Result (Transaction × At) TxFault) (Is : Transaction → Type 0) → Reads item text_of Is → ((more : List ℕ) (at : At) → Carries IsCut more (item at) (item (longer more at)))
    → (bytes : List ℕ) → IsPart Is bytes → (read : Result (Transaction × At) TxFault) → item (start bytes) ≡ read → IsCutOff read
cut_by item Is laws carries bytes part (Ok x) e =
    let longer_read = (carries part.more (start bytes)).ok x e in
    let a = laws.again part.tx (start (bytes ++ part.more)) [] part.whole (part.parts ∙ sym (append-nil (text_of part.tx))) in
    let same : (x.0, longer part.more x.1) ≡ (part.tx, a.next) = ok_is _ _ (item (start (bytes ++ part.more))) longer_read a.reads in
    let nothing : x.1.rest ++ part.more ≡ [] = ap (λ (p : Transaction × At). p.1.rest) same ∙ a.left in
    absurd (part.some (no_more x.1.rest part.more nothing))
cut_by item Is laws carries bytes part (Err fault) e =
    let a = laws.again part.tx (start (bytes ++ part.more)) [] part.whole (part.parts ∙ sym (append-nil (text_of part.tx))) in
    elim ((carries part.more (start bytes)).err fault e) [
      | inl cut ↦ record { fault = fault; refused = refl; cut = cut }
      | inr is ↦ absurd (apart (item (start (bytes ++ part.more))) (part.tx, a.next) fault a.reads is)
    ]

pub cut_off_by : (item : At → Result (Transaction × At) TxFault) (Is : Transaction → Type 0) → Reads item text_of Is → ((more : List ℕ) (at : At) → Carries IsCut more (item at) (item (longer more at)))
    → (bytes : List ℕ) → IsPart Is bytes → IsCutOff (item (start bytes))
cut_off_by item Is laws carries bytes part = cut_by item Is laws carries bytes part (item (start bytes)) refl
