-- Reading the witnesses, one after the other.
use Rattle.std.proofs.Common.{◌≡◌, ◌≢◌, ℕ, ◌+◌, ◌≤◌, ◌<◌, List, [], ◌∷◌, ◌++◌, length, get_or, take, drop, Result, Ok, Err, refl, sym, ap, ◌∙◌, append_assoc, arith}
use Rattle.std.specs.Prelude.{Vec}
use Rattle.std.specs.declared.alloc.Global.{Global}
use Rattle.std.proofs.Common.{add-one}
use Rattle.std.proofs.Math.ListN.{set}
use Rattle.std.proofs.Math.Seq.{take-suc-set, drop-cons}
use Rattle.std.proofs.lemmas.List.{map_push, length-map, append-nil, take_all, drop_all, drop-set-lt}
use Rattle.fund_base.specs.Cursor.{At}
use Rattle.fund_base.specs.Parsing.{◌>>=◌}
use Rattle.tx_codec.specs.declared.fault.TxFault.{TxFault}
use Rattle.tx_codec.specs.declared.fault.TxFault.TheVariants.{Memory}
use Rattle.tx_codec.specs.declared.tx.TxIn.{TxIn}
use Rattle.tx_codec.specs.Reading.{stack_at, stacks_at}
use Rattle.tx_codec.specs.Stack.{lists}

pub lists_more : (items : List (Vec ℕ Global)) (item : Vec ℕ Global) → lists (items ++ item ∷ []) ≡ lists items ++ item.items ∷ []
lists_more items item = map_push _ items item

pub lists_len : (items : List (Vec ℕ Global)) → length (lists items) ≡ length items
lists_len items = simp length-map

-- inputs whose witnesses were read, and those whose witnesses are still read
abbrev pub with_front : List TxIn → Result (List TxIn × At) TxFault → Result (List TxIn × At) TxFault
with_front front read = read >>= λ x. Ok (front ++ x.0, x.1)

regroup : (front : List TxIn) (i : TxIn) (read : Result (List TxIn × At) TxFault) → with_front front (read >>= λ x. Ok (i ∷ x.0, x.1)) ≡ with_front (front ++ i ∷ []) read
regroup front i (Ok x) = ap (λ (l : List TxIn). Ok (l, x.1)) (simp append_assoc)
regroup front i (Err f) = refl

nothing_before : (read : Result (List TxIn × At) TxFault) → with_front [] read ≡ read
nothing_before (Ok x) = refl
nothing_before (Err f) = refl

-- What the loop has read after i inputs, of which those before i have their witnesses.
pub record StacksSoFar (first : List TxIn) (from : At) (inputs : List TxIn) (i : ℕ) (now : At) : Type 0 where
  pub goes_on : with_front (take i inputs) (stacks_at (drop i inputs) now) ≡ stacks_at first from

pub stacks_none : (first : List TxIn) (from : At) → StacksSoFar first from first 0 from
stacks_none first from = record { goes_on = nothing_before (stacks_at first from) }

pub stacks_more : (first : List TxIn) (from : At) (inputs : List TxIn) (i : ℕ) (now : At) (d : TxIn) (stack : List (List ℕ)) (next : At) → i < length inputs → stack_at now ≡ Ok (stack, next)
    → StacksSoFar first from inputs i now → StacksSoFar first from (set inputs i (record (get_or inputs i d) { witness = stack })) (i + 1) next
unfolding stacks_at
stacks_more first from inputs i now d stack next lt h so_far =
    let made : TxIn = record (get_or inputs i d) { witness = stack } in
    let front : take (i + 1) (set inputs i made) ≡ take i inputs ++ made ∷ [] = rw add-one (take-suc-set inputs i made lt) in
    let behind : drop (i + 1) (set inputs i made) ≡ drop (i + 1) inputs = drop-set-lt (i + 1) inputs i made (omega arith) in
    let opened : drop i inputs ≡ get_or inputs i d ∷ drop (i + 1) inputs = rw add-one (drop-cons inputs i d lt) in
    let one : with_front (take i inputs) (stacks_at (drop i inputs) now) ≡ with_front (take i inputs ++ made ∷ []) (stacks_at (drop (i + 1) inputs) next) = rw (opened, h) (regroup (take i inputs) made (stacks_at (drop (i + 1) inputs) next)) in
    record { goes_on = rw (front, behind) (sym one ∙ so_far.goes_on) }

pub stacks_all : (first : List TxIn) (from : At) (inputs : List TxIn) (i : ℕ) (now : At) → length inputs ≤ i → StacksSoFar first from inputs i now → stacks_at first from ≡ Ok (inputs, now)
unfolding stacks_at
stacks_all first from inputs i now le so_far =
    let front : take i inputs ≡ inputs = take_all i inputs le in
    let behind : drop i inputs ≡ [] = drop_all i inputs le in
    let one : with_front (take i inputs) (stacks_at (drop i inputs) now) ≡ Ok (inputs, now) = rw (front, behind) (ap (λ (l : List TxIn). Ok (l, now)) (append-nil inputs)) in
    sym so_far.goes_on ∙ one

pub stacks_fail : (first : List TxIn) (from : At) (inputs : List TxIn) (i : ℕ) (now : At) (d : TxIn) (e : TxFault) → i < length inputs → (e ≢ Memory → stack_at now ≡ Err e)
    → StacksSoFar first from inputs i now → e ≢ Memory → stacks_at first from ≡ Err e
unfolding stacks_at
stacks_fail first from inputs i now d e lt h so_far other =
    let opened : drop i inputs ≡ get_or inputs i d ∷ drop (i + 1) inputs = rw add-one (drop-cons inputs i d lt) in
    let one : with_front (take i inputs) (stacks_at (drop i inputs) now) ≡ Err e = rw (opened, h other) refl in
    sym so_far.goes_on ∙ one
