-- The txids that are read of a block are those of its transactions.
use Rattle.std.proofs.Common.{◌≡◌, ℕ, zero, suc, Bool, true, false, cond, not, List, [], ◌∷◌, ◌++◌, length, map, eqb, Result, Ok, Err, Some, None, refl, sym, ap, ◌∙◌}
use Rattle.std.specs.Prelude.{IfOk, bytes_eq}
use Rattle.std.proofs.lemmas.Bool.{not_from_true}
use Rattle.std.proofs.lemmas.List.{map-append}
use Rattle.fund_base.specs.Cursor.{At, after, compact_at, take_at}
use Rattle.fund_base.specs.Parsing.{◌>>=◌, YieldsAll, fault_as, many_at, many_from}
use Rattle.fund_base.proofs.Laws.{bind_is, bind_ok, guard_ok, ok_is, told_is}
use Rattle.fund_base.proofs.Lists.{same_bytes}
use Rattle.tx_codec.specs.Reading.{cut, tx_at}
use Rattle.tx_codec.specs.Transaction.{Transaction}
use Rattle.tx_codec.specs.Txid.{txid_of}
use Rattle.tx_codec.specs.declared.fault.TxFault.{TxFault}
use Rattle.block_feed.specs.Names.{counted_names_at, held_block, held_txs, in_read, name_at, names_at}
use Rattle.block_feed.specs.Block.{previous_of}
use Rattle.block_feed.specs.Reading.{block_at, counted_txs_at, sealed_at, tx_fault, txs_at}
use Rattle.block_feed.specs.declared.fault.FeedFault.{FeedFault}
use Rattle.block_feed.specs.declared.fault.FeedFault.TheVariants.{Empty, Memory, NotLinked, Trailing}
use Rattle.block_feed.proofs.BlockLaws.{start}
use Rattle.block_feed.proofs.Failing.{bind_fails}

-- the txids of what was read, and what follows it
abbrev named : List Transaction × At → Result (List (List ℕ) × At) TxFault
named read = Ok (map txid_of read.0, read.1)

abbrev all_named : List Transaction → Result (List (List ℕ)) FeedFault
all_named found = Ok (map txid_of found)

abbrev one_named : Transaction × At → Result (List ℕ × At) TxFault
one_named read = Ok (txid_of read.0, read.1)

pub name_given : (at : At) (tx : Transaction) (next : At) → tx_at at ≡ Ok (tx, next) → name_at at ≡ Ok (txid_of tx, next)
unfolding name_at
name_given at tx next is = bind_is (tx_at at) one_named (tx, next) (Ok (txid_of tx, next)) is refl

pub name_fails : (at : At) (fault : TxFault) → tx_at at ≡ Err fault → name_at at ≡ Err fault
unfolding name_at
name_fails at fault is = bind_fails (tx_at at) one_named fault is

-- one transaction, and then others
step : (n : ℕ) (before : List Transaction) (read : Result (Transaction × At) TxFault)
    → ((x : Transaction × At) → many_from (λ _. name_at) n (map txid_of (before ++ x.0 ∷ [])) x.1 ≡ (many_from (λ _. tx_at) n (before ++ x.0 ∷ []) x.1 >>= named))
    → ((read >>= one_named) >>= λ x. many_from (λ _. name_at) n (map txid_of before ++ x.0 ∷ []) x.1) ≡ ((read >>= λ x. many_from (λ _. tx_at) n (before ++ x.0 ∷ []) x.1) >>= named)
step n before (Ok x) others = ap (λ (l : List (List ℕ)). many_from (λ _. name_at) n l x.1) (sym (map-append txid_of before (x.0 ∷ []))) ∙ others x
step n before (Err fault) others = refl

many_named : (n : ℕ) (before : List Transaction) (at : At) → many_from (λ _. name_at) n (map txid_of before) at ≡ (many_from (λ _. tx_at) n before at >>= named)
unfolding many_from name_at
many_named zero before at = refl
many_named (suc n) before at = step n before (tx_at at) (λ x. many_named n (before ++ x.0 ∷ []) x.1)

whole_named : (height : ℕ) (read : Result (List Transaction × At) TxFault)
    → (fault_as (tx_fault height) (read >>= named) >>= λ r. cond (eqb (length r.1.rest) 0) (Ok r.0) (Err (Trailing height))) ≡ ((fault_as (tx_fault height) read >>= λ r. cond (eqb (length r.1.rest) 0) (Ok r.0) (Err (Trailing height))) >>= all_named)
whole_named height (Ok x) = ended (eqb (length x.1.rest) 0) x.0
  where
    ended : (none : Bool) (found : List Transaction) → cond none (Ok (map txid_of found)) (Err (Trailing height)) ≡ (cond none (Ok found) (Err (Trailing height)) >>= all_named)
    ended true found = refl
    ended false found = refl
whole_named height (Err fault) = refl

names_are : (height count : ℕ) (at : At) → names_at height count at ≡ (txs_at height count at >>= all_named)
unfolding names_at txs_at
names_are height count at =
    ap (λ (read : Result (List (List ℕ) × At) TxFault). fault_as (tx_fault height) read >>= λ r. cond (eqb (length r.1.rest) 0) (Ok r.0) (Err (Trailing height))) (many_named count [] at)
    ∙ whole_named height (many_at tx_at count at)

counted : (height : ℕ) (read : Result (ℕ × At) FeedFault)
    → (read >>= λ c. cond (eqb c.0 0) (Err (Empty height)) (names_at height c.0 c.1)) ≡ ((read >>= λ c. cond (eqb c.0 0) (Err (Empty height)) (txs_at height c.0 c.1)) >>= all_named)
counted height (Ok c) = some (eqb c.0 0)
  where
    some : (none : Bool) → cond none (Err (Empty height)) (names_at height c.0 c.1) ≡ (cond none (Err (Empty height)) (txs_at height c.0 c.1) >>= all_named)
    some true = refl
    some false = names_are height c.0 c.1
counted height (Err fault) = refl

pub counted_names : (height : ℕ) (at : At) → counted_names_at height at ≡ (counted_txs_at height at >>= all_named)
unfolding counted_names_at counted_txs_at
counted_names height at = counted height (fault_as (tx_fault height) (cut (compact_at at)))

-- ---- the transactions of which the txids were read

pub record NamesRead (height : ℕ) (at : At) (names : List (List ℕ)) : Type 0 where
  pub txs : List Transaction
  pub read : counted_txs_at height at ≡ Ok txs
  pub names_are : names ≡ map txid_of txs

pub names_read : (height : ℕ) (at : At) (names : List (List ℕ)) → counted_names_at height at ≡ Ok names → NamesRead height at names
names_read height at names is =
    let a = bind_ok (counted_txs_at height at) all_named names (sym (counted_names height at) ∙ is) in
    record { txs = a.0; read = a.1; names_are = cc (a.2) }

fails_there : (read : Result (List Transaction) FeedFault) (fault : FeedFault) → (read >>= all_named) ≡ Err fault → read ≡ Err fault
fails_there (Ok found) fault is = absurd cc
fails_there (Err other) fault is = cc

pub names_fail : (height : ℕ) (at : At) (fault : FeedFault) → counted_names_at height at ≡ Err fault → counted_txs_at height at ≡ Err fault
names_fail height at fault is = fails_there (counted_txs_at height at) fault (sym (counted_names height at) ∙ is)

-- ---- a block that stays in its bytes

pub held_is : (height : ℕ) (body : List ℕ) (found : List Transaction) → counted_txs_at height (after 80 (record { rest = body; place = 0 })) ≡ Ok found → held_txs height body ≡ found
unfolding held_txs
held_is height body found is = ap in_read is

pub held_same : (h k : ℕ) (hash x y : List ℕ) → h ≡ k → x ≡ y → held_block h hash x ≡ held_block k hash y
held_same h k hash x y height body = ap (λ (n : ℕ). held_block n hash x) height ∙ ap (λ (l : List ℕ). held_block k hash l) body

-- the bytes after a header
pub taken : (at next : At) (front : List ℕ) → take_at 80 at ≡ Ok (front, next) → after 80 at ≡ next
taken at next front is =
    let g = guard_ok _ _ _ _ is in
    ap (λ (p : List ℕ × At). p.1) (ok_is _ (front, next) _ refl g.1)

linked_here : (previous header : List ℕ) → previous_of header ≡ previous → not (bytes_eq (previous_of header) previous) ≡ false
linked_here previous header is = not_from_true _ (same_bytes _ _ is)

-- a block that its header names, by the txids of what follows
pub held_given : (previous : List ℕ) (height : ℕ) (hash bytes header : List ℕ) (mid : At) (names : List (List ℕ)) → take_at 80 (start bytes) ≡ Ok (header, mid) → previous_of header ≡ previous → counted_names_at height mid ≡ Ok names
    → ((txs : List Transaction) → names ≡ map txid_of txs → sealed_at height header txs ≡ Ok (record { height = height; hash = hash; txs = txs })) → block_at previous height (start bytes) ≡ Ok (held_block height hash bytes)
unfolding block_at
held_given previous height hash bytes header mid names front linked counts seals =
    let n = names_read height mid names counts in
    let there : counted_txs_at height (after 80 (start bytes)) ≡ Ok n.txs = ap (λ (at : At). counted_txs_at height at) (taken (start bytes) mid header front) ∙ n.read in
    let held : held_txs height bytes ≡ n.txs = held_is height bytes n.txs there in
    let seal : sealed_at height header n.txs ≡ Ok (held_block height hash bytes) = seals n.txs n.names_are ∙ ap (λ (l : List Transaction). Ok (record { height = height; hash = hash; txs = l })) (sym held) in
    bind_is _ _ _ _ (told_is (tx_fault height) _ (header, mid) (told_is _ (take_at 80 (start bytes)) (header, mid) front)) (rw (linked_here previous header linked) (bind_is _ _ _ _ n.read seal))

-- and one that is refused for what follows its header, or by it
pub held_uncounted : (previous : List ℕ) (height : ℕ) (bytes header : List ℕ) (mid : At) (fault : FeedFault) → take_at 80 (start bytes) ≡ Ok (header, mid) → previous_of header ≡ previous → counted_names_at height mid ≡ Err fault → block_at previous height (start bytes) ≡ Err fault
unfolding block_at
held_uncounted previous height bytes header mid fault front linked counts =
    bind_is _ _ _ _ (told_is (tx_fault height) _ (header, mid) (told_is _ (take_at 80 (start bytes)) (header, mid) front)) (rw (linked_here previous header linked) (bind_fails (counted_txs_at height mid) _ fault (names_fail height mid fault counts)))

pub held_unsealed : (previous : List ℕ) (height : ℕ) (bytes header : List ℕ) (mid : At) (names : List (List ℕ)) (fault : FeedFault) → take_at 80 (start bytes) ≡ Ok (header, mid) → previous_of header ≡ previous → counted_names_at height mid ≡ Ok names
    → ((txs : List Transaction) → names ≡ map txid_of txs → sealed_at height header txs ≡ Err fault) → block_at previous height (start bytes) ≡ Err fault
unfolding block_at
held_unsealed previous height bytes header mid names fault front linked counts seals =
    let n = names_read height mid names counts in
    bind_is _ _ _ _ (told_is (tx_fault height) _ (header, mid) (told_is _ (take_at 80 (start bytes)) (header, mid) front)) (rw (linked_here previous header linked) (bind_is _ _ _ _ n.read (seals n.txs n.names_are)))

unlinked : (test : Bool) (fault other : FeedFault) → Some fault ≡ cond test (Some other) None → (test ≡ true) × (other ≡ fault)
unlinked true fault other is = (refl, cc)
unlinked false fault other is = absurd cc

pub held_unlinked : (previous : List ℕ) (height : ℕ) (bytes header : List ℕ) (mid : At) (fault : FeedFault) → take_at 80 (start bytes) ≡ Ok (header, mid) → Some fault ≡ cond (not (bytes_eq (previous_of header) previous)) (Some (NotLinked previous (previous_of header))) None → block_at previous height (start bytes) ≡ Err fault
unfolding block_at
held_unlinked previous height bytes header mid fault front is =
    let u = unlinked (not (bytes_eq (previous_of header) previous)) fault (NotLinked previous (previous_of header)) is in
    bind_is _ _ _ _ (told_is (tx_fault height) _ (header, mid) (told_is _ (take_at 80 (start bytes)) (header, mid) front)) (rw u.0 (ap (λ (f : FeedFault). Err f) u.1))

-- what a call gives, seen as a block of these bytes
pub held_yields : {X : Type 0} (tall : X → ℕ) (hash : X → List ℕ) (previous : List ℕ) (height : ℕ) (bytes header : List ℕ) (mid : At) (names : List (List ℕ)) (result : Result X FeedFault) → take_at 80 (start bytes) ≡ Ok (header, mid) → previous_of header ≡ previous → counted_names_at height mid ≡ Ok names
    → ((txs : List Transaction) → names ≡ map txid_of txs → YieldsAll Memory (λ x. record { height = tall x; hash = hash x; txs = txs }) result (sealed_at height header txs)) → IfOk result (λ x. tall x ≡ height) → YieldsAll Memory (λ x. held_block height (hash x) bytes) result (block_at previous height (start bytes))
held_yields tall hash previous height bytes header mid names (Ok x) front linked counts seals tall_is =
    held_given previous height (hash x) bytes header mid names front linked counts (λ txs are. seals txs are ∙ ap (λ (n : ℕ). Ok (record { height = n; hash = hash x; txs = txs })) tall_is)
held_yields tall hash previous height bytes header mid names (Err e) front linked counts seals tall_is = λ other. held_unsealed previous height bytes header mid names e front linked counts (λ txs are. seals txs are other)

pub held_names : (height : ℕ) (bytes header : List ℕ) (mid : At) (names : List (List ℕ)) → take_at 80 (start bytes) ≡ Ok (header, mid) → counted_names_at height mid ≡ Ok names → names ≡ map txid_of (held_txs height bytes)
held_names height bytes header mid names front counts =
    let n = names_read height mid names counts in
    let there : counted_txs_at height (after 80 (start bytes)) ≡ Ok n.txs = ap (λ (at : At). counted_txs_at height at) (taken (start bytes) mid header front) ∙ n.read in
    n.names_are ∙ ap (map txid_of) (sym (held_is height bytes n.txs there))

pub ok_named : {X : Type 0} (view : X → List (List ℕ)) (names whole : List (List ℕ)) (result : Result X FeedFault) → IfOk result (λ x. view x ≡ names) → names ≡ whole → IfOk result (λ x. view x ≡ whole)
ok_named view names whole (Ok x) given is = given ∙ is
ok_named view names whole (Err e) given is = tt
