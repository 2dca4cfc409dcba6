-- The witness that a value holds.
use Rattle.std.proofs.Common.{◌≡◌, ◌≢◌, ◌∙◌, ℕ, List, [], ◌++◌, length, Result, Ok, Err, sym, ap}
use Rattle.std.specs.Result.{result_ok}
use Rattle.std.specs.Prelude.{Some, None}
use Rattle.std.proofs.lemmas.List.{append-nil, nil_from_length}
use Rattle.fund_base.specs.CompactSize.{counted, prefixed}
use Rattle.fund_base.specs.Cursor.{At, IsBytes}
use Rattle.fund_base.specs.Parsing.{Yields}
use Rattle.fund_base.proofs.Laws.{Reads, ok_is}
use Rattle.fund_base.proofs.Repeat.{counted_reads}
use Rattle.tx_codec.specs.Fault.{cut_fault}
use Rattle.tx_codec.specs.Reading.{item_at, stack_at}
use Rattle.tx_codec.specs.declared.fault.TxFault.{TxFault}
use Rattle.tx_codec.specs.declared.fault.TxFault.TheVariants.{Memory}
use Rattle.tx_codec.proofs.PartLaws.{string}
use Rattle.psbt_codec.specs.Psbt.{IsString}
use Rattle.signed_psbt.specs.Signed.{StackFits}

pub stack_reads : Reads stack_at (counted prefixed) StackFits
stack_reads = counted_reads cut_fault item_at prefixed IsString string

abbrev pub start : List ℕ → At
start bytes = record { rest = bytes; place = 0 }

-- a witness that was read, behind which nothing is left
pub stack_is : (bytes : List ℕ) (new : At) (stack : List (List ℕ)) → IsBytes bytes → stack_at (start bytes) ≡ Ok (stack, new) → length new.rest ≡ 0 → StackFits stack × (bytes ≡ counted prefixed stack)
stack_is bytes new stack fits e none =
    let t = stack_reads.takes (start bytes) (stack, new) fits e in
    (t.1, t.0.parts ∙ ap (λ (l : List ℕ). counted prefixed stack ++ l) (nil_from_length new.rest none) ∙ append-nil (counted prefixed stack))

-- none has the text where something is left, or where none was read
pub stack_left : (bytes : List ℕ) (new : At) (stack : List (List ℕ)) → stack_at (start bytes) ≡ Ok (stack, new) → (length new.rest ≡ 0 → ⊥) → (other : List (List ℕ)) → StackFits other → bytes ≢ counted prefixed other
stack_left bytes new stack e some other fits is =
    let a = stack_reads.again other (start bytes) [] fits (is ∙ sym (append-nil (counted prefixed other))) in
    let pair : (stack, new) ≡ (other, a.next) = ok_is (stack, new) (other, a.next) (stack_at (start bytes)) e a.reads in
    let same : new ≡ a.next = ap (λ (x : List (List ℕ) × At). x.1) pair in
    some (ap (λ (x : At). length x.rest) same ∙ ap (λ (l : List ℕ). length l) a.left)

pub stack_none : (bytes : List ℕ) (fault : TxFault) → stack_at (start bytes) ≡ Err fault → (other : List (List ℕ)) → StackFits other → bytes ≢ counted prefixed other
stack_none bytes fault e other fits is =
    let a = stack_reads.again other (start bytes) [] fits (is ∙ sym (append-nil (counted prefixed other))) in
    let reads = a.reads in
    absurd cc

-- what a call has read, by what it answered
pub some_read : (at new : At) (r : Result (List (List ℕ)) TxFault) (stack : List (List ℕ)) → Yields Memory (λ x. x) new r (stack_at at) → Some stack ≡ result_ok r → stack_at at ≡ Ok (stack, new)
some_read at new (Ok x) stack given e = let given' = given in cc
some_read at new (Err f) stack given e = absurd cc

pub none_read : (at new : At) (r : Result (List (List ℕ)) TxFault) → Yields Memory (λ x. x) new r (stack_at at) → None ≡ result_ok r → r ≢ Err Memory → (f : TxFault) × (stack_at at ≡ Err f)
none_read at new (Ok x) given e never = absurd cc
none_read at new (Err f) given e never = (f, given (λ memory. never (ap Err memory)))
