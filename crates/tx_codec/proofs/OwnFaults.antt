-- Reading a transaction ends in no fault but those of its own text: not in that of the bytes after it, and not in want
-- of memory.
use Rattle.std.proofs.Common.{◌≡◌, ◌≢◌, ℕ, zero, suc, Bool, true, false, cond, eqb, List, [], ◌∷◌, ◌++◌, Result, Ok, Err, ap, ◌∙◌}
use Rattle.fund_base.specs.declared.cursor.CutFault.{CutFault}
use Rattle.fund_base.specs.declared.cursor.CutFault.TheVariants as cuts
use Rattle.std.specs.Prelude.{length, min}
use Rattle.std.specs.Int.{w32, w64}
use Rattle.fund_base.specs.Cursor.{At, take_at, number_at, compact_at}
use Rattle.fund_base.specs.Parsing.{◌>>=◌, string_at, counted_at, many_from, whole_of, Yields}
use Rattle.tx_codec.specs.declared.fault.TxFault.{TxFault}
use Rattle.tx_codec.specs.declared.fault.TxFault.TheVariants.{Truncated, LongCompact, ValueRange, NoInputs, NoOutputs, BadFlag, EmptyWitness, Trailing, Memory}
use Rattle.tx_codec.specs.declared.tx.TxIn.{TxIn}
use Rattle.tx_codec.specs.declared.tx.TxOut.{TxOut}
use Rattle.tx_codec.specs.Reading.{cut, input_at, output_at, output_in, some_at, item_at, stack_at, stacks_at, legacy_at, witnessed_at, segregated_at, tx_at, legacy_tx_at}
use Rattle.tx_codec.specs.Transaction.{Transaction}

-- a fault that isn't one of a transaction's text
pub record Foreign : Type 0 where
  pub fault : TxFault
  pub truncated : (place : ℕ) → Truncated place ≢ fault
  pub long : (place : ℕ) → LongCompact place ≢ fault
  pub range : (output : ℕ) → ValueRange output ≢ fault
  pub inputs : NoInputs ≢ fault
  pub outputs : NoOutputs ≢ fault
  pub flag : BadFlag ≢ fault
  pub stack : EmptyWitness ≢ fault

-- the fault that bytes follow
trailing : ℕ → Foreign
trailing place = record {
  fault = Trailing place;
  truncated = λ at e. absurd cc;
  long = λ at e. absurd cc;
  range = λ output e. absurd cc;
  inputs = λ e. absurd cc;
  outputs = λ e. absurd cc;
  flag = λ e. absurd cc;
  stack = λ e. absurd cc;
}

-- out of memory
memory : Foreign
memory = record {
  fault = Memory;
  truncated = λ at e. absurd cc;
  long = λ at e. absurd cc;
  range = λ output e. absurd cc;
  inputs = λ e. absurd cc;
  outputs = λ e. absurd cc;
  flag = λ e. absurd cc;
  stack = λ e. absurd cc;
}

-- reading ended in it
pub record EndsIn {A : Type 0} (o : Foreign) (read : Result A TxFault) : Type 0 where
  pub is : read ≡ Err o.fault

ended : {A : Type 0} (o : Foreign) (read : Result A TxFault) → read ≡ Err o.fault → EndsIn o read
ended o read e = record { is = e }

-- it comes from one of the steps
then : {A B : Type 0} (o : Foreign) (read : Result A TxFault) (f : A → Result B TxFault) → (read >>= f) ≡ Err o.fault → (EndsIn o read → ⊥) → ((x : A) → f x ≡ Err o.fault → ⊥) → ⊥
then o (Ok x) f e here later = later x e
then o (Err d) f e here later = here (record { is = cc })

either : {A : Type 0} (o : Foreign) (b : Bool) (x y : Result A TxFault) → cond b x y ≡ Err o.fault → (EndsIn o x → ⊥) → (EndsIn o y → ⊥) → ⊥
either o true x y e p q = p (record { is = e })
either o false x y e p q = q (record { is = e })

-- but no step gives it
cut_short : {A : Type 0} (o : Foreign) (read : Result A CutFault) → EndsIn o (cut read) → ⊥
cut_short o (Ok x) h = let e = h.is in absurd cc
cut_short o (Err (cuts.Truncated at)) h = let e = h.is in o.truncated at cc
cut_short o (Err (cuts.LongCompact at)) h = let e = h.is in o.long at cc

other : {A : Type 0} (o : Foreign) (d : TxFault) → (d ≡ o.fault → ⊥) → EndsIn {A = A} o (Err d) → ⊥
other {A = A} o d apart h = let e = h.is in apart cc

range : {A : Type 0} (o : Foreign) (output : ℕ) → EndsIn {A = A} o (Err (ValueRange output)) → ⊥
range o output = other o (ValueRange output) (o.range output)

no_stack : {A : Type 0} (o : Foreign) → EndsIn {A = A} o (Err EmptyWitness) → ⊥
no_stack o = other o EmptyWitness o.stack

no_flag : {A : Type 0} (o : Foreign) → EndsIn {A = A} o (Err BadFlag) → ⊥
no_flag o = other o BadFlag o.flag

done : {A : Type 0} (o : Foreign) (x : A) → Ok x ≡ Err o.fault → ⊥
done o x e = absurd cc

many_own : {X : Type 0} (o : Foreign) (item : List X → At → Result (X × At) TxFault) → ((before : List X) (at : At) → EndsIn o (item before at) → ⊥) → (n : ℕ) (before : List X) (at : At) → EndsIn o (many_from item n before at) → ⊥
unfolding many_from
many_own o item never zero before at h = done o (before, at) h.is
many_own o item never (suc n) before at h =
    let a = then o _ _ h.is in
    a (never before at) (λ x e. many_own o item never n (before ++ x.0 ∷ []) x.1 (ended o _ e))

some_own : {X : Type 0} (o : Foreign) (none : TxFault) (item : List X → At → Result (X × At) TxFault) → (none ≡ o.fault → ⊥) → ((before : List X) (at : At) → EndsIn o (item before at) → ⊥) → (at : At) → EndsIn o (some_at none item at) → ⊥
unfolding some_at
some_own o none item apart never at h =
    let a = then o _ _ h.is in
    a (cut_short o (compact_at at)) (λ n e.
    let b = either o _ _ _ e in
    b (other o none apart) (many_own o item never n.0 [] n.1))

input_own : (o : Foreign) (at : At) → EndsIn o (input_at at) → ⊥
unfolding input_at
input_own o at h =
    let a = then o _ _ h.is in
    a (cut_short o (take_at 32 at)) (λ x ex.
    let b = then o _ _ ex in
    b (cut_short o (number_at w32 x.1)) (λ y ey.
    let c = then o _ _ ey in
    c (cut_short o (string_at y.1)) (λ z ez.
    let d = then o _ _ ez in
    d (cut_short o (number_at w32 z.1)) (λ w ew. absurd cc))))

abbrev script_of : ℕ → At → Result (TxOut × At) TxFault
script_of value at = cut (string_at at) >>= λ script. Ok (record { value = value; script = script.0 }, script.1)

script_own : (o : Foreign) (value : ℕ) (at : At) → EndsIn o (script_of value at) → ⊥
script_own o value at h =
    let a = then o _ _ h.is in
    a (cut_short o (string_at at)) (λ x ex. absurd cc)

output_own : (o : Foreign) (before : List TxOut) (at : At) → EndsIn o (output_in before at) → ⊥
unfolding output_at
output_own o before at h =
    let a = then o _ _ h.is in
    a (cut_short o (number_at w64 at)) (λ x ex.
    let b = either o _ _ _ ex in
    b (range o (min (length before) 4_294_967_295)) (script_own o x.0 x.1))

stack_own : (o : Foreign) (at : At) → EndsIn o (stack_at at) → ⊥
unfolding counted_at
stack_own o at h =
    let a = then o _ _ h.is in
    a (cut_short o (compact_at at)) (λ n e. many_own o (λ _. item_at) (λ before now. cut_short o (string_at now)) n.0 [] n.1 (ended o _ e))

stacks_own : (o : Foreign) (inputs : List TxIn) (at : At) → EndsIn o (stacks_at inputs at) → ⊥
unfolding stacks_at
stacks_own o [] at h = let e = h.is in absurd cc
stacks_own o (i ∷ inputs) at h =
    let a = then o _ _ h.is in
    a (stack_own o at) (λ x ex.
    let b = then o _ _ ex in
    b (stacks_own o inputs x.1) (λ y ey. absurd cc))

inputs_own : (o : Foreign) (at : At) → EndsIn o (some_at NoInputs (λ _. input_at) at) → ⊥
inputs_own o = some_own o NoInputs (λ _. input_at) o.inputs (λ before now. input_own o now)

outputs_own : (o : Foreign) (at : At) → EndsIn o (some_at NoOutputs output_in at) → ⊥
outputs_own o = some_own o NoOutputs output_in o.outputs (output_own o)

legacy_own : (o : Foreign) (version : ℕ) (at : At) → EndsIn o (legacy_at version at) → ⊥
unfolding legacy_at
legacy_own o version at h =
    let a = then o _ _ h.is in
    a (inputs_own o at) (λ x ex.
    let b = then o _ _ ex in
    b (outputs_own o x.1) (λ y ey.
    let c = then o _ _ ey in
    c (cut_short o (number_at w32 y.1)) (λ z ez. absurd cc)))

abbrev end_of : ℕ → List TxIn → List TxOut → At → Result (Transaction × At) TxFault
end_of version inputs outputs at = cut (number_at w32 at) >>= λ locktime. Ok (record { version = version; inputs = inputs; outputs = outputs; locktime = locktime.0; segwit = true }, locktime.1)

end_own : (o : Foreign) (version : ℕ) (inputs : List TxIn) (outputs : List TxOut) (at : At) → EndsIn o (end_of version inputs outputs at) → ⊥
end_own o version inputs outputs at h =
    let a = then o _ _ h.is in
    a (cut_short o (number_at w32 at)) (λ x ex. absurd cc)

witnessed_own : (o : Foreign) (version : ℕ) (at : At) → EndsIn o (witnessed_at version at) → ⊥
unfolding witnessed_at
witnessed_own o version at h =
    let a = then o _ _ h.is in
    a (inputs_own o at) (λ x ex.
    let b = then o _ _ ex in
    b (outputs_own o x.1) (λ y ey.
    let c = then o _ _ ey in
    c (stacks_own o x.0 y.1) (λ z ez.
    let d = either o _ _ _ ez in
    d (no_stack o) (end_own o version z.0 y.0 z.1))))

segregated_own : (o : Foreign) (version : ℕ) (at : At) → EndsIn o (segregated_at version at) → ⊥
unfolding segregated_at
segregated_own o version at h =
    let a = then o _ _ h.is in
    a (cut_short o (take_at 1 at)) (λ x ex.
    let b = either o _ _ _ ex in
    b (witnessed_own o version x.1) (no_flag o))

tx_own : (o : Foreign) (at : At) → tx_at at ≡ Err o.fault → ⊥
unfolding tx_at
tx_own o at e =
    let a = then o _ _ e in
    a (cut_short o (number_at w32 at)) (λ x ex.
    let b = either o _ _ _ ex in
    b (segregated_own o x.0 _) (legacy_own o x.0 x.1))

legacy_tx_own : (o : Foreign) (at : At) → legacy_tx_at at ≡ Err o.fault → ⊥
unfolding legacy_tx_at
legacy_tx_own o at e =
    let a = then o _ _ e in
    a (cut_short o (number_at w32 at)) (λ x ex. legacy_own o x.0 x.1 (ended o _ ex))

-- ---- so it never wants memory

pub tx_never : (at : At) → tx_at at ≡ Err Memory → ⊥
unfolding memory
tx_never at e = tx_own memory at e

pub legacy_tx_never : (at : At) → legacy_tx_at at ≡ Err Memory → ⊥
unfolding memory
legacy_tx_never at e = legacy_tx_own memory at e

-- nor does reading the whole of one
whole_own : (o : Foreign) (read : Result (Transaction × At) TxFault) → ((place : ℕ) → Trailing place ≢ o.fault) → (read ≡ Err o.fault → ⊥) → whole_of Trailing read ≡ Err o.fault → ⊥
whole_own o read apart never e =
    let a = then o read (λ x. cond (eqb (length x.1.rest) 0) (Ok x.0) (Err (Trailing x.1.place))) e in
    a (λ h. never h.is) (λ x ex.
    let b = either o (eqb (length x.1.rest) 0) (Ok x.0) (Err (Trailing x.1.place)) ex in
    b (λ h. done o x.0 h.is) (other o (Trailing x.1.place) (apart x.1.place)))

pub whole_never : (at : At) → whole_of Trailing (tx_at at) ≡ Err Memory → ⊥
unfolding memory
whole_never at e = whole_own memory (tx_at at) (λ place is. absurd cc) (tx_never at) e

-- ---- nor has it the fault of the bytes after

pub record Untrailed {A : Type 0} (read : Result A TxFault) : Type 0 where
  pub never : (place : ℕ) → read ≡ Err (Trailing place) → ⊥

pub tx_untrailed : (at : At) → Untrailed (tx_at at)
unfolding trailing
tx_untrailed at = record { never = λ place e. tx_own (trailing place) at e }

pub legacy_tx_untrailed : (at : At) → Untrailed (legacy_tx_at at)
unfolding trailing
legacy_tx_untrailed at = record { never = λ place e. legacy_tx_own (trailing place) at e }

-- nor does a call that yields such a reading
pub yields_untrailed : (new : At) (result : Result Transaction TxFault) (read : Result (Transaction × At) TxFault) → Untrailed read → Yields Memory (λ t. t) new result read → (place : ℕ) → result ≢ Err (Trailing place)
yields_untrailed new (Ok t) read never given place e = absurd cc
yields_untrailed new (Err f) read never given place e =
    let is : f ≡ Trailing place = cc in
    let differs : f ≢ Memory = λ memory. absurd cc in
    never.never place (given differs ∙ ap (λ (x : TxFault). Err x) is)
