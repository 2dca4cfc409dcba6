-- Passing over the parts of a transaction says what reading them says.
use Rattle.std.proofs.Common.{◌≡◌, ◌≢◌, ◌∙◌, inl, inr, ℕ, ◌+◌, ◌≤◌, ◌<◌, ◌==◌, ltb, ◌&&◌, ◌||◌, Bool, true, false, cond, not, List, [], ◌∷◌, ◌++◌, length, get_or, set, take, Result, Ok, Err, refl, sym, ap, add-one, arith}
use Rattle.std.proofs.lemmas.List.{length-append, length-set, take_all}
use Rattle.std.proofs.lemmas.List.Folds.{list_all-append}
use Rattle.std.proofs.lemmas.Bool.{eq-eqb, le-ltb, ne_eqb}
use Rattle.std.proofs.Math.Seq.{take-suc-set}
use Rattle.fund_base.specs.declared.cursor.CutFault.{CutFault}
use Rattle.std.specs.Prelude.{slice_index}
use Rattle.std.specs.Int.{w32}
use Rattle.fund_base.specs.CompactSize.{counted}
use Rattle.fund_base.specs.Cursor.{At, IsBytes, after, compact_at, number_at, take_at}
use Rattle.fund_base.specs.Parsing.{◌>>=◌, counted_at, cut_as, many_at, many_from}
use Rattle.fund_base.proofs.Laws.{Takes, bind_is, guard_ok, ok_is, takes_then, told_is}
use Rattle.fund_base.proofs.Repeat.{SoFar, so_far_all, so_far_fails, so_far_more, so_far_none}
use Rattle.tx_codec.specs.Fault.{cut_fault}
use Rattle.tx_codec.specs.Passing.{FailsBody, HoldsBody, HoldsList, HoldsMany, HoldsStack, HoldsStacks, HoldsTx}
use Rattle.tx_codec.specs.Reading.{are_empty, inputs_at, is_marked, item_at, legacy_at, outputs_at, output_at, output_in, segregated_at, some_at, stack_at, stacks_at, tx_at, witnessed_at}
use Rattle.tx_codec.specs.Transaction.{Transaction}
use Rattle.tx_codec.specs.TransactionText.{input_text, output_text}
use Rattle.tx_codec.specs.declared.fault.TxFault.{TxFault}
use Rattle.tx_codec.specs.declared.fault.TxFault.TheVariants.{EmptyWitness, Memory}
use Rattle.tx_codec.specs.declared.tx.TxIn.{TxIn}
use Rattle.tx_codec.specs.declared.tx.TxOut.{TxOut}
use Rattle.tx_codec.proofs.Laws.{bare_inputs, same_inputs}
use Rattle.tx_codec.proofs.LawsOfStacks.{stacks_take}
use Rattle.tx_codec.proofs.Outputs.{OutputsSoFar, outputs_all, outputs_fail, outputs_more, outputs_none}
use Rattle.tx_codec.proofs.PartLaws.{InputsFit, inputs_reads, outputs_reads}
use Rattle.tx_codec.proofs.Stacks.{StacksSoFar, stacks_all, stacks_fail, stacks_more, stacks_none}

-- ---- a loop over a count

pub record ManySoFar {X : Type 0} (item : List X → At → Result (X × At) TxFault) (count : ℕ) (from : At) (i : ℕ) (now : At) : Type 0 where
  pub done : List X
  pub so_far : SoFar item count from done i now
  pub long : length done ≡ i
  pub within : i ≤ count

pub many_none : {X : Type 0} (item : List X → At → Result (X × At) TxFault) (count : ℕ) (from : At) → ManySoFar item count from 0 from
many_none item count from = record { done = []; so_far = so_far_none item count from; long = refl; within = omega arith }

pub many_more : {X : Type 0} (item : List X → At → Result (X × At) TxFault) (count : ℕ) (from : At) (i : ℕ) (now next : At) (x : X) → i < count → (m : ManySoFar item count from i now) → item m.done now ≡ Ok (x, next) → ManySoFar item count from (i + 1) next
many_more item count from i now next x lt m h = record {
  done = m.done ++ x ∷ [];
  so_far = so_far_more item count from m.done i now x next lt h m.so_far;
  long = omega (arith, m.long, length-append m.done (x ∷ []));
  within = omega (arith, lt);
}

pub many_all : {X : Type 0} (item : List X → At → Result (X × At) TxFault) (count : ℕ) (from : At) (i : ℕ) (now : At) → count ≤ i → ManySoFar item count from i now → HoldsMany item count from now
many_all item count from i now le m = record { items = m.done; read = so_far_all item count from m.done i now le m.so_far; long = omega (arith, m.long, le, m.within) }

pub many_fails : {X : Type 0} (item : List X → At → Result (X × At) TxFault) (count : ℕ) (from : At) (i : ℕ) (now : At) (e : TxFault) → i < count → (m : ManySoFar item count from i now) → (e ≢ Memory → item m.done now ≡ Err e) → e ≢ Memory → many_from item count [] from ≡ Err e
many_fails item count from i now e lt m h = so_far_fails item count from m.done i now Memory e lt h m.so_far

-- outputs, with the sum of their values
pub record WorthSoFar (count : ℕ) (from : At) (i sum : ℕ) (now : At) : Type 0 where
  pub done : List TxOut
  pub so_far : OutputsSoFar count from done i sum now
  pub within : i ≤ count

pub worth_none : (count : ℕ) (from : At) → WorthSoFar count from 0 0 from
worth_none count from = record { done = []; so_far = outputs_none count from; within = omega arith }

pub worth_more : (count : ℕ) (from : At) (i sum : ℕ) (now : At) (o : TxOut) (next : At) → i < count → output_at i sum now ≡ Ok (o, next) → sum + o.value ≤ 2_100_000_000_000_000 → WorthSoFar count from i sum now → WorthSoFar count from (i + 1) (sum + o.value) next
worth_more count from i sum now o next lt h range w = record { done = w.done ++ o ∷ []; so_far = outputs_more count from w.done i sum now o next lt h range w.so_far; within = omega (arith, lt) }

pub worth_all : (count : ℕ) (from : At) (i sum : ℕ) (now : At) → count ≤ i → WorthSoFar count from i sum now → HoldsMany output_in count from now
worth_all count from i sum now le w = record { items = w.done; read = outputs_all count from w.done i sum now le w.so_far; long = omega (arith, w.so_far.number, le, w.within) }

pub worth_fails : (count : ℕ) (from : At) (i sum : ℕ) (now : At) (e : TxFault) → i < count → WorthSoFar count from i sum now → (e ≢ Memory → output_at i sum now ≡ Err e) → e ≢ Memory → many_from output_in count [] from ≡ Err e
worth_fails count from i sum now e lt w h = outputs_fail count from w.done i sum now e lt h w.so_far

-- ---- a witness

twice : (b : Bool) → b ≡ not (not b)
twice true = refl
twice false = refl

pub stack_holds : (old mid new : At) (n : ℕ) → compact_at old ≡ Ok (n, mid) → HoldsMany (λ _. item_at) n mid new → HoldsStack old new (not (n == 0))
unfolding counted_at
stack_holds old mid new n h m = record {
  stack = m.items;
  is = bind_is (cut_as cut_fault (compact_at old)) (λ c. many_at item_at c.0 c.1) (n, mid) (Ok (m.items, new)) (told_is cut_fault (compact_at old) (n, mid) h) m.read;
  empty = ap (λ k. k == 0) m.long ∙ twice (n == 0);
}

pub stack_items_fail : (old mid : At) (n : ℕ) (e : TxFault) → compact_at old ≡ Ok (n, mid) → many_at item_at n mid ≡ Err e → stack_at old ≡ Err e
unfolding counted_at
stack_items_fail old mid n e h is = bind_is (cut_as cut_fault (compact_at old)) (λ c. many_at item_at c.0 c.1) (n, mid) (Err e) (told_is cut_fault (compact_at old) (n, mid) h) is

pub stack_count_fails : (old : At) (e : CutFault) → compact_at old ≡ Err e → stack_at old ≡ Err (cut_fault e)
unfolding counted_at
stack_count_fails old e h = ap (λ (r : Result (ℕ × At) CutFault). cut_as cut_fault r >>= λ c. many_at item_at c.0 c.1) h

-- ---- the witnesses of inputs

pub record WitnessesSoFar (inputs : List TxIn) (from : At) (some : Bool) (i : ℕ) (now : At) : Type 0 where
  pub with_stacks : List TxIn
  pub so_far : StacksSoFar inputs from with_stacks i now
  pub long : length with_stacks ≡ length inputs
  pub empty : are_empty (take i with_stacks) ≡ not some

pub witnesses_none : (inputs : List TxIn) (from : At) → WitnessesSoFar inputs from false 0 from
witnesses_none inputs from = record { with_stacks = inputs; so_far = stacks_none inputs from; long = refl; empty = refl }

-- no input
no_input : TxIn
no_input = record { prev = record { txid = []; index = 0 }; script = []; sequence = 0; witness = [] }

neither : (a b : Bool) → (not a && (not b && true)) ≡ not (a || b)
neither true b = refl
neither false true = refl
neither false false = refl

pub witnesses_more : (inputs : List TxIn) (from : At) (some here : Bool) (i : ℕ) (now next : At) → i < length inputs → HoldsStack now next here → WitnessesSoFar inputs from some i now → WitnessesSoFar inputs from (some || here) (i + 1) next
witnesses_more inputs from some here i now next lt h w =
    let before = w.with_stacks in
    let within : i < length before = omega (arith, lt, w.long) in
    let made : TxIn = record (get_or before i no_input) { witness = h.stack } in
    let front : take (i + 1) (set before i made) ≡ take i before ++ made ∷ [] = rw add-one (take-suc-set before i made within) in
    record {
      with_stacks = set before i made;
      so_far = stacks_more inputs from before i now no_input h.stack next within h.is w.so_far;
      long = length-set before i made ∙ w.long;
      empty =
          ap are_empty front
          ∙ list_all-append (λ (x : TxIn). length x.witness == 0) (take i before) (made ∷ [])
          ∙ (λ k. w.empty k && (h.empty k && true))
          ∙ neither some here;
    }

pub witnesses_all : (inputs : List TxIn) (from : At) (some : Bool) (i : ℕ) (now : At) → length inputs ≤ i → WitnessesSoFar inputs from some i now → HoldsStacks inputs from now some
witnesses_all inputs from some i now le w =
    let over : length w.with_stacks ≤ i = omega (arith, le, w.long) in
    record {
      with_stacks = w.with_stacks;
      is = stacks_all inputs from w.with_stacks i now over w.so_far;
      empty = ap are_empty (sym (take_all i w.with_stacks over)) ∙ w.empty;
    }

pub witnesses_fail : (inputs : List TxIn) (from : At) (some : Bool) (i : ℕ) (now : At) (e : TxFault) → i < length inputs → (e ≢ Memory → stack_at now ≡ Err e) → WitnessesSoFar inputs from some i now → e ≢ Memory → stacks_at inputs from ≡ Err e
witnesses_fail inputs from some i now e lt h w =
    let within : i < length w.with_stacks = omega (arith, lt, w.long) in
    stacks_fail inputs from w.with_stacks i now no_input e within h w.so_far

-- ---- a number that isn't 0, and so many items

pub some_holds : {X : Type 0} (none : TxFault) (item : List X → At → Result (X × At) TxFault) (old mid new : At) (n : ℕ) → compact_at old ≡ Ok (n, mid) → (n ≡ 0 → ⊥) → HoldsMany item n mid new → HoldsList (some_at none item old) n new
unfolding some_at
some_holds none item old mid new n h some m = record {
  items = m.items;
  is = bind_is (cut_as cut_fault (compact_at old)) (λ c. cond (c.0 == 0) (Err none) (many_from item c.0 [] c.1)) (n, mid) (Ok (m.items, new)) (told_is cut_fault (compact_at old) (n, mid) h)
      (ap (λ (b : Bool). cond b (Err none) (many_from item n [] mid)) (ne_eqb n 0 some) ∙ m.read);
  long = m.long;
}

pub some_none : {X : Type 0} (none : TxFault) (item : List X → At → Result (X × At) TxFault) (old mid : At) (n : ℕ) → compact_at old ≡ Ok (n, mid) → n ≡ 0 → some_at none item old ≡ Err none
unfolding some_at
some_none none item old mid n h zero =
    bind_is (cut_as cut_fault (compact_at old)) (λ c. cond (c.0 == 0) (Err none) (many_from item c.0 [] c.1)) (n, mid) (Err none) (told_is cut_fault (compact_at old) (n, mid) h)
    (ap (λ (b : Bool). cond b (Err none) (many_from item n [] mid)) (eq-eqb n 0 zero))

pub some_items_fail : {X : Type 0} (none : TxFault) (item : List X → At → Result (X × At) TxFault) (old mid : At) (n : ℕ) (e : TxFault) → compact_at old ≡ Ok (n, mid) → (n ≡ 0 → ⊥) → many_from item n [] mid ≡ Err e → some_at none item old ≡ Err e
unfolding some_at
some_items_fail none item old mid n e h some is =
    bind_is (cut_as cut_fault (compact_at old)) (λ c. cond (c.0 == 0) (Err none) (many_from item c.0 [] c.1)) (n, mid) (Err e) (told_is cut_fault (compact_at old) (n, mid) h)
    (ap (λ (b : Bool). cond b (Err none) (many_from item n [] mid)) (ne_eqb n 0 some) ∙ is)

pub some_count_fails : {X : Type 0} (none : TxFault) (item : List X → At → Result (X × At) TxFault) (old : At) (e : CutFault) → compact_at old ≡ Err e → some_at none item old ≡ Err (cut_fault e)
unfolding some_at
some_count_fails none item old e h = ap (λ (r : Result (ℕ × At) CutFault). cut_as cut_fault r >>= λ c. cond (c.0 == 0) (Err none) (many_from item c.0 [] c.1)) h

-- ---- inputs and outputs

-- what inputs and outputs take of the bytes
record BodyTakes (old between new : At) (inputs : List TxIn) (outputs : List TxOut) : Type 0 where
  pub inputs_take : Takes old (counted input_text inputs) between
  pub inputs_fit : InputsFit inputs
  pub outputs_take : Takes between (counted output_text outputs) new

body_takes : (old between new : At) (inputs : List TxIn) (outputs : List TxOut) → IsBytes old.rest → inputs_at old ≡ Ok (inputs, between) → outputs_at between ≡ Ok (outputs, new) → BodyTakes old between new inputs outputs
body_takes old between new inputs outputs fits ins outs =
    let a = inputs_reads.takes old (inputs, between) fits ins in
    let b = outputs_reads.takes between (outputs, new) a.0.rest_fits outs in
    record { inputs_take = a.0; inputs_fit = a.1; outputs_take = b.0 }

pub body_len : (old between new : At) (n k : ℕ) → IsBytes old.rest → (ins : HoldsList (inputs_at old) n between) → (outs : HoldsList (outputs_at between) k new) → length old.rest ≡ length (counted input_text ins.items ++ counted output_text outs.items) + length new.rest
body_len old between new n k fits ins outs =
    let t = body_takes old between new ins.items outs.items fits ins.is outs.is in
    let whole = takes_then old between new (counted input_text ins.items) (counted output_text outs.items) t.inputs_take t.outputs_take in
    ap (λ (l : List ℕ). length l) whole.parts ∙ length-append (counted input_text ins.items ++ counted output_text outs.items) new.rest

pub body_holds : (old mid new : At) (n k len : ℕ) → IsBytes old.rest → HoldsList (inputs_at old) n mid → HoldsList (outputs_at mid) k new → length old.rest ≡ len + length new.rest → HoldsBody old new n len
body_holds old mid new n k len fits ins outs is = record {
  inputs = ins.items;
  outputs = outs.items;
  between = mid;
  inputs_is = ins.is;
  outputs_is = outs.is;
  long = ins.long;
  text_len = omega (arith, is, body_len old mid new n k fits ins outs);
}

pub body_inputs_fail : (old : At) (e : TxFault) → inputs_at old ≡ Err e → FailsBody old e
body_inputs_fail old e h = inl h

pub body_outputs_fail : (old mid : At) (n : ℕ) (e : TxFault) → HoldsList (inputs_at old) n mid → outputs_at mid ≡ Err e → FailsBody old e
body_outputs_fail old mid n e ins h = inr (record { inputs = ins.items; between = mid; inputs_is = ins.is; outputs_fail = h })

bind_fails : {A B E : Type 0} (r : Result A E) (f : A → Result B E) (e : E) → r ≡ Err e → (r >>= f) ≡ Err e
bind_fails {A = A} {E = E} r f e h = ap (λ (s : Result A E). s >>= f) h

cut_fails : {A : Type 0} (r : Result A CutFault) (e : CutFault) → r ≡ Err e → cut_as cut_fault r ≡ Err (cut_fault e)
cut_fails {A = A} r e h = ap (λ (s : Result A CutFault). cut_as cut_fault s) h

-- ---- the legacy form

pub legacy_holds : (version : ℕ) (old mid new : At) (lock n len : ℕ) → HoldsBody old mid n len → number_at w32 mid ≡ Ok (lock, new) → HoldsTx (legacy_at version old) new false len
unfolding legacy_at
legacy_holds version old mid new lock n len body h = record {
  tx = record { version = version; inputs = body.inputs; outputs = body.outputs; locktime = lock; segwit = false };
  is = bind_is _ _ _ _ body.inputs_is (bind_is _ _ _ _ body.outputs_is (bind_is _ _ _ _ (told_is cut_fault (number_at w32 mid) (lock, new) h) refl));
  form = refl;
  text_len = body.text_len;
}

pub legacy_lock_fails : (version : ℕ) (old mid : At) (n len : ℕ) (e : CutFault) → HoldsBody old mid n len → number_at w32 mid ≡ Err e → legacy_at version old ≡ Err (cut_fault e)
unfolding legacy_at
legacy_lock_fails version old mid n len e body h =
    bind_is _ _ _ _ body.inputs_is (bind_is _ _ _ _ body.outputs_is (bind_fails _ _ (cut_fault e) (cut_fails (number_at w32 mid) e h)))

pub legacy_body_fails : (version : ℕ) (old : At) (e : TxFault) → FailsBody old e → legacy_at version old ≡ Err e
unfolding legacy_at
legacy_body_fails version old e f =
    elim f [
      | inl ins ↦ bind_fails _ _ e ins
      | inr outs ↦ bind_is _ _ _ _ outs.inputs_is (bind_fails _ _ e outs.outputs_fail)
    ]

-- ---- the segregated form

-- what is made of the parts of the segregated form
abbrev whole_tx : ℕ → List TxIn → List TxOut → ℕ × At → Result (Transaction × At) TxFault
whole_tx version inputs outputs locktime = Ok (record { version = version; inputs = inputs; outputs = outputs; locktime = locktime.0; segwit = true }, locktime.1)

pub witnessed_holds : (version : ℕ) (old mid behind new : At) (lock n len : ℕ) → IsBytes old.rest → (body : HoldsBody old mid n len) → HoldsStacks body.inputs mid behind true → number_at w32 behind ≡ Ok (lock, new) → HoldsTx (witnessed_at version old) new true len
unfolding witnessed_at
witnessed_holds version old mid behind new lock n len fits body stacks h =
    let t = body_takes old body.between mid body.inputs body.outputs fits body.inputs_is body.outputs_is in
    let s = stacks_take body.inputs mid (stacks.with_stacks, behind) (bare_inputs body.inputs t.inputs_fit.each) t.outputs_take.rest_fits stacks.is in
    let same : counted input_text body.inputs ≡ counted input_text stacks.with_stacks = ap (λ (l : List TxIn). counted input_text l) s.same ∙ same_inputs stacks.with_stacks in
    let ends : (cut_as cut_fault (number_at w32 behind) >>= whole_tx version stacks.with_stacks body.outputs) ≡ whole_tx version stacks.with_stacks body.outputs (lock, new) =
    bind_is _ _ _ _ (told_is cut_fault (number_at w32 behind) (lock, new) h) refl in
    record {
      tx = record { version = version; inputs = stacks.with_stacks; outputs = body.outputs; locktime = lock; segwit = true };
      is = bind_is _ _ _ _ body.inputs_is (bind_is _ _ _ _ body.outputs_is (bind_is _ _ _ _ stacks.is (rw stacks.empty ends)));
      form = refl;
      text_len = ap (λ (l : List ℕ). length (l ++ counted output_text body.outputs)) (sym same) ∙ body.text_len;
    }

pub witnessed_lock_fails : (version : ℕ) (old mid behind : At) (n len : ℕ) (e : CutFault) → (body : HoldsBody old mid n len) → HoldsStacks body.inputs mid behind true → number_at w32 behind ≡ Err e → witnessed_at version old ≡ Err (cut_fault e)
unfolding witnessed_at
witnessed_lock_fails version old mid behind n len e body stacks h =
    let ends : (cut_as cut_fault (number_at w32 behind) >>= whole_tx version stacks.with_stacks body.outputs) ≡ Err (cut_fault e) = bind_fails _ _ (cut_fault e) (cut_fails (number_at w32 behind) e h) in
    bind_is _ _ _ _ body.inputs_is (bind_is _ _ _ _ body.outputs_is (bind_is _ _ _ _ stacks.is (rw stacks.empty ends)))

pub witnessed_none : (version : ℕ) (old mid behind : At) (n len : ℕ) → (body : HoldsBody old mid n len) → HoldsStacks body.inputs mid behind false → witnessed_at version old ≡ Err EmptyWitness
unfolding witnessed_at
witnessed_none version old mid behind n len body stacks =
    bind_is _ _ _ _ body.inputs_is (bind_is _ _ _ _ body.outputs_is (bind_is _ _ _ _ stacks.is (rw stacks.empty refl)))

pub witnessed_stacks_fail : (version : ℕ) (old mid : At) (n len : ℕ) (e : TxFault) → (body : HoldsBody old mid n len) → stacks_at body.inputs mid ≡ Err e → witnessed_at version old ≡ Err e
unfolding witnessed_at
witnessed_stacks_fail version old mid n len e body f = bind_is _ _ _ _ body.inputs_is (bind_is _ _ _ _ body.outputs_is (bind_fails _ _ e f))

pub witnessed_body_fails : (version : ℕ) (old : At) (e : TxFault) → FailsBody old e → witnessed_at version old ≡ Err e
unfolding witnessed_at
witnessed_body_fails version old e f =
    elim f [
      | inl ins ↦ bind_fails _ _ e ins
      | inr outs ↦ bind_is _ _ _ _ outs.inputs_is (bind_fails _ _ e outs.outputs_fail)
    ]

-- ---- behind the marker

pub flag_holds : (version : ℕ) (old mid new : At) (flag : List ℕ) (len : ℕ) → take_at 1 old ≡ Ok (flag, mid) → slice_index flag 0 ≡ 1 → HoldsTx (witnessed_at version mid) new true len → HoldsTx (segregated_at version old) new true len
unfolding segregated_at
flag_holds version old mid new flag len t one h = record {
  tx = h.tx;
  is = bind_is _ _ _ _ (told_is cut_fault (take_at 1 old) (flag, mid) t) (rw (eq-eqb (slice_index flag 0) 1 one) h.is);
  form = h.form;
  text_len = h.text_len;
}

pub flag_then_fails : (version : ℕ) (old mid : At) (flag : List ℕ) (e : TxFault) → take_at 1 old ≡ Ok (flag, mid) → slice_index flag 0 ≡ 1 → witnessed_at version mid ≡ Err e → segregated_at version old ≡ Err e
unfolding segregated_at
flag_then_fails version old mid flag e t one h = bind_is _ _ _ _ (told_is cut_fault (take_at 1 old) (flag, mid) t) (rw (eq-eqb (slice_index flag 0) 1 one) h)

-- ---- a transaction

pub version_fails : (old : At) (e : CutFault) → number_at w32 old ≡ Err e → tx_at old ≡ Err (cut_fault e)
unfolding tx_at
version_fails old e h = bind_fails _ _ (cut_fault e) (cut_fails (number_at w32 old) e h)

-- after the marker
marker_taken : (mid new : At) (marker : List ℕ) → take_at 1 mid ≡ Ok (marker, new) → after 1 mid ≡ new
marker_taken mid new marker is =
    let g = guard_ok _ _ _ _ is in
    ap (λ (p : List ℕ × At). p.1) (ok_is _ (marker, new) _ refl g.1)

not_cut : (test : Bool) (d e : CutFault) (y : List ℕ × At) → test ≡ false → cond test (Err d) (Ok y) ≡ Err e → ⊥
not_cut true d e y f is = absurd cc
not_cut false d e y f is = absurd cc

stands : (rest : List ℕ) (place : ℕ) (e : CutFault) → is_marked rest ≡ true → take_at 1 (record { rest = rest; place = place }) ≡ Err e → ⊥
stands [] place e set is = absurd cc
stands (b ∷ rest) place e set is = not_cut (ltb (length (b ∷ rest)) 1) _ e _ (le-ltb _ _ (omega arith)) is

-- a marker that was seen can be taken
pub marker_stands : (mid : At) (e : CutFault) → is_marked mid.rest ≡ true → take_at 1 mid ≡ Err e → ⊥
marker_stands mid e set is = stands mid.rest mid.place e set is

pub marked_holds : (version : ℕ) (old mid behind new : At) (marker : List ℕ) (len : ℕ) → number_at w32 old ≡ Ok (version, mid) → is_marked mid.rest ≡ true → take_at 1 mid ≡ Ok (marker, behind) → HoldsTx (segregated_at version behind) new true len → HoldsTx (tx_at old) new true len
unfolding tx_at
marked_holds version old mid behind new marker len v set taken h = record {
  tx = h.tx;
  is = bind_is _ _ _ _ (told_is cut_fault (number_at w32 old) (version, mid) v) (rw set (ap (λ (at : At). segregated_at version at) (marker_taken mid behind marker taken) ∙ h.is));
  form = h.form;
  text_len = h.text_len;
}

pub marked_fails : (version : ℕ) (old mid behind : At) (marker : List ℕ) (e : TxFault) → number_at w32 old ≡ Ok (version, mid) → is_marked mid.rest ≡ true → take_at 1 mid ≡ Ok (marker, behind) → segregated_at version behind ≡ Err e → tx_at old ≡ Err e
unfolding tx_at
marked_fails version old mid behind marker e v set taken h =
    bind_is _ _ _ _ (told_is cut_fault (number_at w32 old) (version, mid) v) (rw set (ap (λ (at : At). segregated_at version at) (marker_taken mid behind marker taken) ∙ h))

pub unmarked_holds : (version : ℕ) (old mid new : At) (len : ℕ) → number_at w32 old ≡ Ok (version, mid) → is_marked mid.rest ≡ false → HoldsTx (legacy_at version mid) new false len → HoldsTx (tx_at old) new false len
unfolding tx_at
unmarked_holds version old mid new len v unset h = record {
  tx = h.tx;
  is = bind_is _ _ _ _ (told_is cut_fault (number_at w32 old) (version, mid) v) (rw unset h.is);
  form = h.form;
  text_len = h.text_len;
}

pub unmarked_fails : (version : ℕ) (old mid : At) (e : TxFault) → number_at w32 old ≡ Ok (version, mid) → is_marked mid.rest ≡ false → legacy_at version mid ≡ Err e → tx_at old ≡ Err e
unfolding tx_at
unmarked_fails version old mid e v unset h = bind_is _ _ _ _ (told_is cut_fault (number_at w32 old) (version, mid) v) (rw unset h)
