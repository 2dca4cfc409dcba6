-- What stands in a file so is refused.
use Rattle.std.proofs.Common.{◌≡◌, ◌≢◌, ℕ, ◌+◌, ◌^◌, ◌<◌, ◌≤◌, Bool, true, false, cond, not, ltb, eqb, List, [], ◌++◌, length, take, drop, map, Result, Ok, Err, Option, Some, refl, sym, ap, subst, ◌∙◌, append_assoc, arith, inl, inr}
use Rattle.std.specs.Prelude.{◌==◌, ◌||◌, ◌&&◌, ◌⊎◌, bytes_eq}
use Rattle.std.specs.Int.{w32, to_le_bytes}
use Rattle.std.specs.List.{flat_map, list_all}
use Rattle.std.proofs.lemmas.Bool.{cases_Bool, cases_lt, not_from_true, not_from_false, lt-ltb, le-ltb, ne_eqb, false_from_ne_true, and_parts, or_left, or_right}
use Rattle.std.proofs.lemmas.List.{take-append-drop, length-append, length-drop, length-map, append-nil, nil_from_length}
use Rattle.std.proofs.lemmas.List.Elements.{All-take, All-drop, recursion_from_All}
use Rattle.std.proofs.Math.Seq.{take-append_seam}
use Rattle.fund_base.proofs.Lists.{equal_bytes, same_bytes}
use Rattle.fund_base.specs.CompactSize.{compact, counted}
use Rattle.fund_base.specs.Cursor.{At, IsBytes, compact_at}
use Rattle.fund_base.specs.Parsing.{fault_as, many_at}
use Rattle.fund_base.proofs.Laws.{bind_is, told_is}
use Rattle.fund_base.proofs.LawsOfNumbers.{count_reads}
use Rattle.fund_base.proofs.Repeat.{many_reads}
use Rattle.tx_codec.specs.Fault.{cut_fault}
use Rattle.tx_codec.specs.Reading.{cut, tx_at}
use Rattle.tx_codec.specs.Transaction.{Transaction}
use Rattle.tx_codec.specs.TransactionText.{text_of, IsTransaction}
use Rattle.tx_codec.specs.Txid.{txid_of}
use Rattle.tx_codec.specs.declared.fault.TxFault.{TxFault}
use Rattle.tx_codec.proofs.Laws.{tx_reads}
use Rattle.tx_codec.proofs.OwnFaults.{tx_never}
use Rattle.block_feed.specs.Block.{ChainBlock, magic, previous_of, root_of, height_after}
use Rattle.block_feed.specs.BlockFile.{IsTail}
use Rattle.block_feed.specs.Faults.{LacksMagic, IsPartOfMagic, IsCutOff, IsNoLength, IsRecordFault, HoldsRecord, LacksCount, LacksTx, HoldsTxs, IsBlockFault}
use Rattle.block_feed.specs.Feed.{next_in}
use Rattle.block_feed.specs.Merkle.{merkle_root, is_mutated, IsRoot, IsMutated}
use Rattle.block_feed.specs.Reading.{tx_fault, magic_at, sized_at, body_at, record_at, sealed_at, txs_at, counted_txs_at, block_at}
use Rattle.block_feed.specs.declared.fault.FeedFault.{FeedFault}
use Rattle.block_feed.specs.declared.fault.FeedFault.TheVariants.{Magic, Length, Tx, Merkle, Mutated, NotLinked, Trailing, Empty, Read, Limit, Memory}
use Rattle.block_feed.proofs.BlockLaws.{IsSized, start, magic_again, number_again, tail_is, txs_few, counted_again, record_again}
use Rattle.block_feed.proofs.Failing.{bind_fails, told_fails, many_fail_again}
use Rattle.block_feed.proofs.Refusals.{behind_header, field, listed, block_is, tell_cut, tell_tx}
use Rattle.block_feed.proofs.TreeLaws.{merkle_root_is, root_is, is_found}

abbrev no_body : FeedFault → Result (Option (List ℕ)) FeedFault
no_body d = Err d

abbrev no_block : FeedFault → Result ChainBlock FeedFault
no_block d = Err d

-- ---- no record

not_tail : (bytes : List ℕ) → (IsTail bytes → ⊥) → list_all (λ b. b == 0) bytes ≡ false
not_tail bytes some = false_from_ne_true _ (λ zeros. some ((tail_is bytes).0 zeros))

some_record : (longer : Bool) (place : ℕ) (bytes : List ℕ) (d : FeedFault) → (IsTail bytes → ⊥) → magic_at longer place bytes ≡ Err d → record_at longer place bytes ≡ Err d
unfolding record_at
some_record longer place bytes d some e = rw (not_tail bytes some) (bind_fails (magic_at longer place bytes) _ d e)

lacks_magic : (longer : Bool) (place : ℕ) (bytes : List ℕ) → LacksMagic bytes → (longer ≡ true → IsPartOfMagic bytes → ⊥) → magic_at longer place bytes ≡ Err (Magic place)
unfolding magic_at
lacks_magic longer place bytes lacks apart =
    elim (cases_lt (length bytes) 4) [
      | inl few ↦
          let short : ltb (length bytes) 4 ≡ true = lt-ltb (length bytes) 4 few in
          let other : (longer && bytes_eq bytes (take (length bytes) magic)) ≡ false =
          false_from_ne_true _ (λ both. let p = and_parts longer (bytes_eq bytes (take (length bytes) magic)) both in apart p.0 (record { few = few; front = equal_bytes bytes (take (length bytes) magic) p.1 })) in
          rw (short, other) refl
      | inr enough ↦
          let long : ltb (length bytes) 4 ≡ false = le-ltb (length bytes) 4 enough in
          let other : bytes_eq (take 4 bytes) magic ≡ false = false_from_ne_true _ (λ same. lacks.none (drop 4 bytes) (sym (take-append-drop 4 bytes) ∙ ap (λ (l : List ℕ). l ++ drop 4 bytes) (equal_bytes (take 4 bytes) magic same))) in
          rw (long, other) refl
    ]

part_of_magic : (place : ℕ) (bytes : List ℕ) → IsPartOfMagic bytes → magic_at true place bytes ≡ Err Limit
unfolding magic_at
part_of_magic place bytes part =
    let short : ltb (length bytes) 4 ≡ true = lt-ltb (length bytes) 4 part.few in
    let same : bytes_eq bytes (take (length bytes) magic) ≡ true = same_bytes _ _ part.front in
    rw (short, same) refl

cut_off_there : (longer : Bool) (place : ℕ) (behind : List ℕ) → IsCutOff behind → body_at longer place behind ≡ Err (cond longer Limit (Length place))
unfolding body_at sized_at
cut_off_there longer place behind (inl few) =
    let short : ltb (length behind) 4 ≡ true = lt-ltb (length behind) 4 few in
    rw short refl
cut_off_there longer place behind (inr block) =
    let most = block.most in
    let n = number_again behind block.behind block.size (omega arith) block.parts in
    let low : ltb block.size 81 ≡ false = le-ltb block.size 81 block.least in
    let high : ltb 4_000_000 block.size ≡ false = le-ltb 4_000_000 block.size block.most in
    let few : ltb (length block.behind) block.size ≡ true = lt-ltb (length block.behind) block.size block.few in
    rw (n.0, n.1, n.2, low, high, few) refl

no_length_there : (longer : Bool) (place : ℕ) (behind : List ℕ) → IsNoLength behind → body_at longer place behind ≡ Err (Length place)
unfolding body_at sized_at
no_length_there longer place behind none =
    let n = number_again behind none.behind none.size none.small none.parts in
    let wrong : (ltb none.size 81 || ltb 4_000_000 none.size) ≡ true =
    elim none.range [
      | inl low ↦ or_left _ _ (lt-ltb none.size 81 low)
      | inr high ↦ or_right _ _ (lt-ltb 4_000_000 none.size high)
    ] in
    rw (n.0, n.1, wrong) refl

-- a fault behind the magic
behind_magic : (longer : Bool) (place : ℕ) (bytes behind : List ℕ) (d : FeedFault) → bytes ≡ magic ++ behind → body_at longer (place + 4) behind ≡ Err d → record_at longer place bytes ≡ Err d
unfolding record_at
behind_magic longer place bytes behind d parts e =
    ap (λ (l : List ℕ). record_at longer place l) parts ∙ bind_is _ _ _ _ (magic_again longer place behind) (bind_fails (body_at longer (place + 4) behind) _ d e)

cut_there : (longer : Bool) (place : ℕ) (bytes behind : List ℕ) (d : FeedFault) → bytes ≡ magic ++ behind → IsCutOff behind → cond longer Limit (Length (place + 4)) ≡ d → record_at longer place bytes ≡ Err d
cut_there longer place bytes behind d parts off is = behind_magic longer place bytes behind d parts (cut_off_there longer (place + 4) behind off ∙ ap (λ (x : FeedFault). Err x) is)

tail_there : (place : ℕ) (bytes : List ℕ) → IsTail bytes → record_at true place bytes ≡ Err Limit
unfolding record_at
tail_there place bytes tail = rw ((tail_is bytes).1 tail) refl

-- a part of the magic isn't zero bytes alone, or is nothing
limit_there : (place : ℕ) (bytes : List ℕ) → IsPartOfMagic bytes → record_at true place bytes ≡ Err Limit
unfolding record_at
limit_there place bytes part =
    elim (cases_Bool (list_all (λ b. b == 0) bytes)) [
      | inl zeros ↦ rw zeros refl
      | inr some ↦ rw some (bind_fails (magic_at true place bytes) _ Limit (part_of_magic place bytes part))
    ]

pub record_there : (longer : Bool) (place : ℕ) (d : FeedFault) (bytes : List ℕ) → IsRecordFault longer place d bytes → record_at longer place bytes ≡ Err d
record_there longer place (Magic at) bytes h =
    some_record longer place bytes (Magic at) h.1.some (lacks_magic longer place bytes h.1 h.2 ∙ ap (λ (p : ℕ). Err (Magic p)) (sym h.0))
record_there longer place (Length at) bytes h =
    let told : Length (place + 4) ≡ Length at = ap (λ (p : ℕ). Length p) (sym h.0) in
    elim h.1.2 [
      | inl off ↦ cut_there longer place bytes h.1.0 (Length at) h.1.1 off.1 (ap (λ (b : Bool). cond b Limit (Length (place + 4))) off.0 ∙ told)
      | inr none ↦ behind_magic longer place bytes h.1.0 (Length at) h.1.1 (no_length_there longer (place + 4) h.1.0 none ∙ ap (λ (x : FeedFault). Err x) told)
    ]
record_there longer place (Tx height fault) bytes h = absurd h
record_there longer place (Merkle height) bytes h = absurd h
record_there longer place (Mutated height) bytes h = absurd h
record_there longer place (NotLinked kept found) bytes h = absurd h
record_there longer place (Trailing height) bytes h = absurd h
record_there longer place (Empty height) bytes h = absurd h
record_there longer place Read bytes h = absurd h
record_there longer place Limit bytes h =
    let at_limit : (b : Bool) → longer ≡ b → record_at b place bytes ≡ Err Limit → record_at longer place bytes ≡ Err Limit = λ b is e. ap (λ (c : Bool). record_at c place bytes) is ∙ e in
    elim h.1 [
      | inl tail ↦ at_limit true h.0 (tail_there place bytes tail)
      | inr other ↦
          elim other [
            | inl part ↦ at_limit true h.0 (limit_there place bytes part)
            | inr off ↦ cut_there longer place bytes off.0 Limit off.1 off.2 (ap (λ (b : Bool). cond b Limit (Length (place + 4))) h.0)
          ]
    ]
record_there longer place Memory bytes h = absurd h

-- ---- a block

-- a block that names another
unlinked_there : (hash : List ℕ) (height : ℕ) (body kept found : List ℕ) → 80 ≤ length body → kept ≡ hash → found ≡ previous_of body → found ≢ hash → block_at hash height (start body) ≡ Err (NotLinked kept found)
unlinked_there hash height body kept found long is names apart =
    let other : not (bytes_eq (previous_of body) hash) ≡ true = not_from_false _ (false_from_ne_true _ (λ same. apart (names ∙ equal_bytes _ _ same))) in
    let told : no_block (NotLinked hash (previous_of body)) ≡ no_block (NotLinked kept found) = ap (λ (l : List ℕ). no_block (NotLinked l (previous_of body))) (sym is) ∙ ap (λ (l : List ℕ). no_block (NotLinked kept l)) (sym names) in
    block_is hash height body long ∙ ap (λ (b : Bool). cond b (no_block (NotLinked hash (previous_of body))) (listed height body)) other ∙ told

linked_is : (hash : List ℕ) (height : ℕ) (body : List ℕ) → 80 ≤ length body → previous_of body ≡ hash → block_at hash height (start body) ≡ listed height body
linked_is hash height body long linked =
    let same : not (bytes_eq (previous_of body) hash) ≡ false = not_from_true _ (same_bytes (previous_of body) hash linked) in
    block_is hash height body long ∙ ap (λ (b : Bool). cond b (no_block (NotLinked hash (previous_of body))) (listed height body)) same

-- a fault behind the header
list_there : (hash : List ℕ) (height : ℕ) (body : List ℕ) (d : FeedFault) → 80 ≤ length body → previous_of body ≡ hash → counted_txs_at height (behind_header body) ≡ Err d → block_at hash height (start body) ≡ Err d
list_there hash height body d long linked e = linked_is hash height body long linked ∙ bind_fails (counted_txs_at height (behind_header body)) _ d e

lacks_count : (height : ℕ) (body : List ℕ) (fault : TxFault) → LacksCount fault body → counted_txs_at height (behind_header body) ≡ Err (Tx height fault)
unfolding counted_txs_at
lacks_count height body fault h =
    let at : At = behind_header body in
    bind_fails (fault_as (tx_fault height) (cut (compact_at at))) _ (Tx height fault) (
    told_fails (tx_fault height) (cut (compact_at at)) (cut_fault h.cut) (told_fails cut_fault (compact_at at) h.cut h.refused)
    ∙ ap (λ (x : FeedFault). Err x) (tell_cut height h.cut ∙ ap (λ (x : TxFault). Tx height x) (sym h.told)))

-- a count that is read, and what follows it
record Counts (n : ℕ) (body behind : List ℕ) : Type 0 where
  at : At
  reads : compact_at (behind_header body) ≡ Ok (n, at)
  rest : at.rest ≡ behind
  place : at.place ≡ 80 + length (compact n)
  fits : IsBytes at.rest

counts : (n : ℕ) (body behind : List ℕ) → IsBytes body → n < 2 ^ 64 → drop 80 body ≡ compact n ++ behind → Counts n body behind
counts n body behind fits small parts =
    let a = count_reads.again n (behind_header body) behind small parts in
    let t = count_reads.takes (behind_header body) (n, a.next) (All-drop (λ b. b < 256) 80 body fits) a.reads in
    record { at = a.next; reads = a.reads; rest = a.left; place = t.0.place_is; fits = t.0.rest_fits }

counted_is : (height n : ℕ) (body behind : List ℕ) (c : Counts n body behind) → counted_txs_at height (behind_header body) ≡ cond (eqb n 0) (Err (Empty height)) (txs_at height n c.at)
unfolding counted_txs_at
counted_is height n body behind c = bind_is _ _ _ _ (told_is (tx_fault height) _ (n, c.at) (told_is cut_fault (compact_at (behind_header body)) (n, c.at) c.reads)) refl

lacks_tx : (height : ℕ) (body : List ℕ) (fault : TxFault) → IsBytes body → LacksTx fault body → counted_txs_at height (behind_header body) ≡ Err (Tx height fault)
unfolding txs_at
lacks_tx height body fault fits h =
    let c = counts h.count body (flat_map text_of h.txs ++ h.behind) fits h.small h.text in
    let few = h.few in
    let some : eqb h.count 0 ≡ false = ne_eqb h.count 0 (λ none. absurd (omega arith)) in
    let next : At = record { rest = h.behind; place = 80 + length (compact h.count ++ flat_map text_of h.txs) } in
    let place : next.place ≡ c.at.place + length (flat_map text_of h.txs) = omega (arith, c.place, length-append (compact h.count) (flat_map text_of h.txs)) in
    let fails : many_at tx_at h.count c.at ≡ Err fault = many_fail_again tx_at text_of IsTransaction tx_reads h.txs h.count [] c.at next fault c.fits (recursion_from_All IsTransaction h.txs h.each) h.few c.rest place h.refused in
    let told : tx_fault height fault ≡ Tx height fault = tell_tx height fault (λ memory. tx_never next (h.refused ∙ ap (λ (x : TxFault). Err x) memory)) in
    counted_is height h.count body (flat_map text_of h.txs ++ h.behind) c
    ∙ rw some (bind_fails (fault_as (tx_fault height) (many_at tx_at h.count c.at)) _ (Tx height fault) (told_fails (tx_fault height) (many_at tx_at h.count c.at) fault fails ∙ ap (λ (x : FeedFault). Err x) told))

empty_there : (height : ℕ) (body behind : List ℕ) → IsBytes body → drop 80 body ≡ compact 0 ++ behind → counted_txs_at height (behind_header body) ≡ Err (Empty height)
empty_there height body behind fits parts =
    let c = counts 0 body behind fits (omega arith) parts in
    counted_is height 0 body behind c

-- a block has few transactions
count_small : (body : List ℕ) (txs : List Transaction) (behind : List ℕ) → length body ≤ 4_000_000 → drop 80 body ≡ counted text_of txs ++ behind → length txs < 2 ^ 64
count_small body txs behind most text =
    let few = txs_few txs in
    let len = ap (λ (l : List ℕ). length l) text in
    omega (arith, length-drop 80 body, length-append (counted text_of txs) behind, length-append (compact (length txs)) (flat_map text_of txs))

trailing_there : (height : ℕ) (body behind : List ℕ) (txs : List Transaction) → IsBytes body → length body ≤ 4_000_000 → HoldsTxs txs behind body → behind ≢ [] → counted_txs_at height (behind_header body) ≡ Err (Trailing height)
unfolding txs_at
trailing_there height body behind txs fits most h left =
    let parts : drop 80 body ≡ compact (length txs) ++ (flat_map text_of txs ++ behind) = h.text ∙ append_assoc (compact (length txs)) (flat_map text_of txs) behind in
    let c = counts (length txs) body (flat_map text_of txs ++ behind) fits (count_small body txs behind most h.text) parts in
    let count = h.some in
    let some : eqb (length txs) 0 ≡ false = ne_eqb (length txs) 0 (λ none. absurd (omega arith)) in
    let a = (many_reads tx_at text_of IsTransaction tx_reads (length txs)).again txs c.at behind (refl, h.each) c.rest in
    let more : eqb (length a.next.rest) 0 ≡ false = ne_eqb (length a.next.rest) 0 (λ none. left (sym a.left ∙ nil_from_length a.next.rest none)) in
    counted_is height (length txs) body (flat_map text_of txs ++ behind) c
    ∙ rw some (bind_is _ _ _ _ (told_is (tx_fault height) (many_at tx_at (length txs) c.at) (txs, a.next) a.reads) (rw more refl))

-- the list of a block whose transactions stand there whole
list_is : (height : ℕ) (body : List ℕ) (txs : List Transaction) → length body ≤ 4_000_000 → HoldsTxs txs [] body → listed height body ≡ sealed_at height (take 80 body) txs
list_is height body txs most h =
    let whole : drop 80 body ≡ counted text_of txs = h.text ∙ append-nil (counted text_of txs) in
    bind_is _ _ _ _ (counted_again height (behind_header body) txs (count_small body txs [] most h.text) (record { text = whole; each = h.each; some = h.some })) refl

merkle_there : (height : ℕ) (body : List ℕ) (txs : List Transaction) → 80 ≤ length body → HoldsTxs txs [] body → (IsRoot (map txid_of txs) (root_of body) → ⊥) → sealed_at height (take 80 body) txs ≡ Err (Merkle height)
unfolding sealed_at
merkle_there height body txs long h apart =
    let ids : List (List ℕ) = map txid_of txs in
    let carried : root_of (take 80 body) ≡ root_of body = field 36 body (omega arith) long in
    let some : 0 < length ids = rw length-map h.some in
    let other : not (bytes_eq (root_of (take 80 body)) (merkle_root ids)) ≡ true =
    not_from_false _ (false_from_ne_true _ (λ same. apart (subst (λ (r : List ℕ). IsRoot ids r) (sym (equal_bytes _ _ same) ∙ carried) (merkle_root_is ids some)))) in
    rw other refl

mutated_there : (height : ℕ) (body : List ℕ) (txs : List Transaction) → 80 ≤ length body → IsRoot (map txid_of txs) (root_of body) → IsMutated (map txid_of txs) → sealed_at height (take 80 body) txs ≡ Err (Mutated height)
unfolding sealed_at
mutated_there height body txs long root mutated =
    let ids : List (List ℕ) = map txid_of txs in
    let carried : root_of (take 80 body) ≡ root_of body = field 36 body (omega arith) long in
    let same : not (bytes_eq (root_of (take 80 body)) (merkle_root ids)) ≡ false = not_from_true _ (same_bytes _ _ (carried ∙ sym (root_is ids (root_of body) root))) in
    let twice : is_mutated ids ≡ true = is_found ids mutated in
    rw (same, twice) refl

pub block_there : (hash : List ℕ) (height : ℕ) (d : FeedFault) (body : List ℕ) → IsBytes body → 80 ≤ length body → length body ≤ 4_000_000 → IsBlockFault hash height d body → block_at hash height (start body) ≡ Err d
block_there hash height (Magic place) body fits long most h = absurd h
block_there hash height (Length place) body fits long most h = absurd h
block_there hash height (Tx at fault) body fits long most h =
    let named : no_block (Tx height fault) ≡ no_block (Tx at fault) = ap (λ (n : ℕ). no_block (Tx n fault)) (sym h.0) in
    elim h.2 [
      | inl count ↦ list_there hash height body (Tx height fault) long h.1 (lacks_count height body fault count) ∙ named
      | inr tx ↦ list_there hash height body (Tx height fault) long h.1 (lacks_tx height body fault fits tx) ∙ named
    ]
block_there hash height (Merkle at) body fits long most h =
    linked_is hash height body long h.1 ∙ list_is height body h.2.0 most h.2.1 ∙ merkle_there height body h.2.0 long h.2.1 h.2.2 ∙ ap (λ (n : ℕ). no_block (Merkle n)) (sym h.0)
block_there hash height (Mutated at) body fits long most h =
    linked_is hash height body long h.1 ∙ list_is height body h.2.0 most h.2.1 ∙ mutated_there height body h.2.0 long h.2.2 h.2.3 ∙ ap (λ (n : ℕ). no_block (Mutated n)) (sym h.0)
block_there hash height (NotLinked kept found) body fits long most h = unlinked_there hash height body kept found long h.0 h.1 h.2
block_there hash height (Trailing at) body fits long most h =
    list_there hash height body (Trailing height) long h.1 (trailing_there height body h.2.1 h.2.0 fits most h.2.2 h.2.3) ∙ ap (λ (n : ℕ). no_block (Trailing n)) (sym h.0)
block_there hash height (Empty at) body fits long most h =
    list_there hash height body (Empty height) long h.1 (empty_there height body h.2.0 fits h.2.1) ∙ ap (λ (n : ℕ). no_block (Empty n)) (sym h.0)
block_there hash height Read body fits long most h = absurd h
block_there hash height Limit body fits long most h = absurd h
block_there hash height Memory body fits long most h = absurd h

-- ---- both

pub next_there : (longer : Bool) (bytes hash : List ℕ) (height place : ℕ) (d : FeedFault) → IsBytes bytes
    → IsRecordFault longer place d (drop place bytes) ⊎ ((body : List ℕ) × HoldsRecord body (drop place bytes) × IsBlockFault hash (height_after height) d body) → next_in longer bytes hash height place ≡ Err d
unfolding next_in
next_there longer bytes hash height place d fits (inl none) = bind_fails (record_at longer place (drop place bytes)) _ d (record_there longer place d (drop place bytes) none)
next_there longer bytes hash height place d fits (inr block) =
    let held = block.1 in
    let body : List ℕ = block.0 in
    let sized : IsSized body (to_le_bytes w32 (length body) ++ (body ++ held.rest)) held.rest = record { parts = refl; least = held.least; most = held.most } in
    let read : record_at longer place (drop place bytes) ≡ Ok (Some body) = ap (λ (l : List ℕ). record_at longer place l) held.parts ∙ record_again longer place (to_le_bytes w32 (length body) ++ (body ++ held.rest)) body held.rest sized in
    let fits_rest : IsBytes (drop place bytes) = All-drop (λ b. b < 256) place bytes fits in
    let here : take (length body) (drop 8 (drop place bytes)) ≡ body = ap (λ (x : List ℕ). take (length body) (drop 8 x)) held.parts ∙ take-append_seam body held.rest in
    let body_fits : IsBytes body = subst (λ (x : List ℕ). IsBytes x) here (All-take (λ b. b < 256) (length body) (drop 8 (drop place bytes)) (All-drop (λ b. b < 256) 8 (drop place bytes) fits_rest)) in
    let least = held.least in
    bind_is _ _ _ _ read (bind_fails (block_at hash (height_after height) (start body)) _ d (block_there hash (height_after height) d body body_fits (omega arith) held.most block.2))
