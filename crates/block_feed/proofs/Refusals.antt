-- What stands in a file where it is refused.
use Rattle.std.proofs.Common.{◌≡◌, ◌≢◌, ℕ, ◌+◌, ◌^◌, ◌<◌, ◌≤◌, Bool, true, false, cond, not, ltb, eqb, List, [], ◌++◌, length, take, drop, map, Result, Ok, Err, Option, Some, None, refl, sym, ap, subst, ◌∙◌, append_assoc, arith, inl, inr}
use Rattle.std.specs.Prelude.{◌==◌, ◌||◌, ◌&&◌, ◌⊎◌, bytes_eq}
use Rattle.std.specs.Int.{w32, to_le_bytes, from_le_bytes}
use Rattle.std.specs.List.{flat_map, list_all}
use Rattle.std.proofs.lemmas.Bool.{cases_Bool, not-false, not_from_true, ltb-true, ltb-false, le-ltb, eqb-true, eqb-false, both_ways, and_parts, and_from, or_cases, or_parts}
use Rattle.std.proofs.lemmas.List.{take-append-drop, take-append-le, drop-append-le, length-take-le, length-drop, length-append, length-map, append-nil}
use Rattle.std.proofs.lemmas.List.Elements.{All-take, All-drop, All-from_recursion}
use Rattle.std.proofs.Math.Seq.{take-append_seam}
use Rattle.fund_base.proofs.Lists.{equal_bytes, same_bytes}
use Rattle.fund_base.specs.CompactSize.{compact, counted}
use Rattle.fund_base.specs.declared.cursor.CutFault.{CutFault}
use Rattle.fund_base.specs.declared.cursor.CutFault.TheVariants as cuts
use Rattle.fund_base.specs.Cursor.{At, IsBytes, compact_at, take_at as bytes_at}
use Rattle.fund_base.specs.Parsing.{◌>>=◌, fault_as, many_at}
use Rattle.fund_base.proofs.Laws.{bind_is, told_ok, told_is, Takes}
use Rattle.fund_base.proofs.LawsOfNumbers.{count_reads, wide32}
use Rattle.fund_base.proofs.Repeat.{many_reads}
use Rattle.tx_codec.specs.Fault.{cut_fault}
use Rattle.tx_codec.specs.Reading.{cut, tx_at}
use Rattle.tx_codec.specs.Transaction.{Transaction}
use Rattle.tx_codec.specs.TransactionText.{text_of, IsTransaction}
use Rattle.tx_codec.specs.Txid.{txid_of}
use Rattle.tx_codec.specs.declared.fault.TxFault.{TxFault}
use Rattle.tx_codec.specs.declared.fault.TxFault.TheVariants as txs
use Rattle.tx_codec.proofs.Laws.{tx_reads}
use Rattle.tx_codec.proofs.OwnFaults.{tx_never}
use Rattle.block_feed.specs.Block.{ChainBlock, magic, previous_of, root_of, height_after}
use Rattle.block_feed.specs.BlockFile.{IsTail}
use Rattle.block_feed.specs.Faults.{IsCutOff, IsRecordFault, HoldsRecord, HoldsTxs, IsBlockFault}
use Rattle.block_feed.specs.Feed.{linked_at, next_in}
use Rattle.block_feed.specs.Merkle.{merkle_root, is_mutated, IsRoot}
use Rattle.block_feed.specs.Reading.{tx_fault, magic_at, sized_at, body_at, record_at, sealed_at, txs_at, counted_txs_at, block_at}
use Rattle.block_feed.specs.declared.fault.FeedFault.{FeedFault}
use Rattle.block_feed.specs.declared.fault.FeedFault.TheVariants.{Magic, Length, Tx, Merkle, Mutated, NotLinked, Trailing, Empty, Limit}
use Rattle.block_feed.proofs.BlockLaws.{start, number_takes, magic_takes, tail_is, tail_or, body_in, counted_take, record_takes}
use Rattle.block_feed.proofs.Failing.{bind_err, guard_err, guard_unmet, told_err, many_fail}
use Rattle.block_feed.proofs.TreeLaws.{merkle_root_is, root_is, mutated_is}

-- ---- no record

cut_refused : (longer : Bool) (place : ℕ) (behind : List ℕ) (d : FeedFault) → IsCutOff behind → d ≡ cond longer Limit (Length (place + 4)) → IsRecordFault longer place d (magic ++ behind)
cut_refused true place behind d off is = subst (λ (x : FeedFault). IsRecordFault true place x (magic ++ behind)) (sym is) (refl, inr (inr (behind, refl, off)))
cut_refused false place behind d off is = subst (λ (x : FeedFault). IsRecordFault false place x (magic ++ behind)) (sym is) (refl, (behind, refl, inl (refl, off)))

too_few : (rest behind : List ℕ) → length rest < 4 → rest ≡ magic ++ behind → ⊥
too_few rest behind few is =
    let len = ap (λ (l : List ℕ). length l) is in
    omega arith

short_refused : (longer : Bool) (place : ℕ) (rest : List ℕ) (d : FeedFault) → (IsTail rest → ⊥) → length rest < 4 → d ≡ cond (longer && bytes_eq rest (take (length rest) magic)) Limit (Magic place) → IsRecordFault longer place d rest
short_refused longer place rest d some few is =
    elim (cases_Bool (longer && bytes_eq rest (take (length rest) magic))) [
      | inl part ↦
          let both = and_parts longer (bytes_eq rest (take (length rest) magic)) part in
          let limit : d ≡ Limit = is ∙ ap (λ (b : Bool). cond b Limit (Magic place)) part in
          subst (λ (x : FeedFault). IsRecordFault longer place x rest) (sym limit) (both.0, inr (inl (record { few = few; front = equal_bytes rest (take (length rest) magic) both.1 })))
      | inr apart ↦
          let other : d ≡ Magic place = is ∙ ap (λ (b : Bool). cond b Limit (Magic place)) apart in
          subst (λ (x : FeedFault). IsRecordFault longer place x rest) (sym other) (refl, record { some = some; none = λ behind here. too_few rest behind few here }, λ long part. both_ways _ apart (and_from longer _ long (same_bytes rest _ part.front)))
    ]

magic_refused : (longer : Bool) (place : ℕ) (rest : List ℕ) (d : FeedFault) → (IsTail rest → ⊥) → magic_at longer place rest ≡ Err d → IsRecordFault longer place d rest
unfolding magic_at
magic_refused longer place rest d some e =
    elim (guard_err (ltb (length rest) 4) _ _ d e) [
      | inl short ↦ short_refused longer place rest d some (ltb-true (length rest) 4 short.0) short.1
      | inr long ↦
          let a = guard_unmet (bytes_eq (take 4 rest) magic) (Magic place) (drop 4 rest) d long.1 in
          let enough : 4 ≤ length rest = ltb-false (length rest) 4 long.0 in
          subst (λ (x : FeedFault). IsRecordFault longer place x rest) (sym a.1) (refl, record { some = some; none = λ behind is. both_ways _ a.0 (same_bytes _ _ (ap (λ (l : List ℕ). take 4 l) is)) }, λ _ part. let few = part.few in omega arith)
    ]

out_of_range : (size : ℕ) → (ltb size 81 || ltb 4_000_000 size) ≡ true → (size < 81) ⊎ (4_000_000 < size)
out_of_range size e =
    elim (or_cases (ltb size 81) (ltb 4_000_000 size) e) [
      | inl low ↦ inl (ltb-true size 81 low)
      | inr high ↦ inr (ltb-true 4_000_000 size high)
    ]

in_range : (size : ℕ) → (ltb size 81 || ltb 4_000_000 size) ≡ false → (81 ≤ size) × (size ≤ 4_000_000)
in_range size e =
    let both = or_parts (ltb size 81) (ltb 4_000_000 size) e in
    (ltb-false size 81 both.0, ltb-false 4_000_000 size both.1)

sized_refused : (longer : Bool) (place : ℕ) (behind : List ℕ) (d : FeedFault) → IsBytes behind → ltb (length behind) 4 ≡ false → sized_at longer (place + 4) (from_le_bytes w32 (take 4 behind)) (drop 4 behind) ≡ Err d → IsRecordFault longer place d (magic ++ behind)
unfolding sized_at
sized_refused longer place behind d fits long e =
    let size : ℕ = from_le_bytes w32 (take 4 behind) in
    let after : List ℕ = drop 4 behind in
    let parts : behind ≡ to_le_bytes w32 size ++ after = number_takes behind (All-take (λ b. b < 256) 4 behind fits) long in
    let small : size < 2 ^ 32 = wide32.below (take 4 behind) (All-take (λ b. b < 256) 4 behind fits) in
    elim (guard_err (ltb size 81 || ltb 4_000_000 size) (Length (place + 4)) _ d e) [
      | inl wrong ↦ subst (λ (x : FeedFault). IsRecordFault longer place x (magic ++ behind)) (sym wrong.1) (refl, (behind, refl, inr (record { size = size; behind = after; parts = parts; small = small; range = out_of_range size wrong.0 })))
      | inr right ↦
          let range = in_range size right.0 in
          elim (guard_err (ltb (length after) size) _ _ d right.1) [
            | inl few ↦ cut_refused longer place behind d (inr (record { size = size; behind = after; parts = parts; least = range.0; most = range.1; few = ltb-true (length after) size few.0 })) few.1
            | inr enough ↦ let taken = enough.1 in absurd cc
          ]
    ]

body_refused : (longer : Bool) (place : ℕ) (behind : List ℕ) (d : FeedFault) → IsBytes behind → body_at longer (place + 4) behind ≡ Err d → IsRecordFault longer place d (magic ++ behind)
unfolding body_at
body_refused longer place behind d fits e =
    elim (guard_err (ltb (length behind) 4) _ _ d e) [
      | inl short ↦ cut_refused longer place behind d (inl (ltb-true (length behind) 4 short.0)) short.1
      | inr long ↦ sized_refused longer place behind d fits long.0 long.1
    ]

body_in_refused : (longer : Bool) (place : ℕ) (rest : List ℕ) (d : FeedFault) → IsBytes rest → (IsTail rest → ⊥) → body_in longer place rest ≡ Err d → IsRecordFault longer place d rest
body_in_refused longer place rest d fits some e =
    elim (bind_err (magic_at longer place rest) _ d e) [
      | inl none ↦ magic_refused longer place rest d some none
      | inr found ↦
          let whole : rest ≡ magic ++ found.0 = magic_takes longer place rest found.0 found.1 in
          let behind : drop 4 rest ≡ found.0 = ap (λ (l : List ℕ). drop 4 l) whole in
          let fits_behind : IsBytes found.0 = subst (λ (l : List ℕ). IsBytes l) behind (All-drop (λ b. b < 256) 4 rest fits) in
          elim (bind_err (body_at longer (place + 4) found.0) _ d found.2) [
            | inl fails ↦ subst (λ (l : List ℕ). IsRecordFault longer place d l) (sym whole) (body_refused longer place found.0 d fits_behind fails)
            | inr read ↦ let taken = read.2 in absurd cc
          ]
    ]

tail_refused : (longer tail : Bool) (read : Result (Option (List ℕ)) FeedFault) (d : FeedFault) → tail_or tail longer read ≡ Err d → ((tail ≡ true) × (longer ≡ true) × (d ≡ Limit)) ⊎ ((tail ≡ false) × (read ≡ Err d))
tail_refused true true read d e = inl (refl, refl, cc)
tail_refused false true read d e = absurd cc
tail_refused longer false read d e = inr (refl, e)

pub record_refused : (longer : Bool) (place : ℕ) (rest : List ℕ) (d : FeedFault) → IsBytes rest → record_at longer place rest ≡ Err d → IsRecordFault longer place d rest
unfolding record_at
record_refused longer place rest d fits e =
    elim (tail_refused longer (list_all (λ b. b == 0) rest) (body_in longer place rest) d e) [
      | inl zeros ↦ subst (λ (x : FeedFault). IsRecordFault longer place x rest) (sym zeros.2) (zeros.1, inl ((tail_is rest).0 zeros.0))
      | inr some ↦ body_in_refused longer place rest d fits (λ tail. both_ways _ some.0 ((tail_is rest).1 tail)) some.1
    ]

-- ---- a block's header

-- what stands behind the header
abbrev pub behind_header : List ℕ → At
behind_header body = record { rest = drop 80 body; place = 80 }

-- a field of the header is one of the block
pub field : (n : ℕ) (body : List ℕ) → n + 32 ≤ 80 → 80 ≤ length body → take 32 (drop n (take 80 body)) ≡ take 32 (drop n body)
field n body within long =
    let header : List ℕ = take 80 body in
    let len : length header ≡ 80 = length-take-le 80 body long in
    let front : n ≤ length header = omega arith in
    let enough : 32 ≤ length (drop n header) = omega (arith, length-drop n header) in
    let whole : header ++ drop 80 body ≡ body = take-append-drop 80 body in
    sym (
    ap (λ (l : List ℕ). take 32 (drop n l)) (sym whole)
    ∙ ap (λ (l : List ℕ). take 32 l) (drop-append-le n header (drop 80 body) front)
    ∙ take-append-le 32 (drop n header) (drop 80 body) enough)

-- the block behind its header
abbrev pub listed : ℕ → List ℕ → Result ChainBlock FeedFault
listed height body = counted_txs_at height (behind_header body) >>= λ found. sealed_at height (take 80 body) found

pub block_is : (previous : List ℕ) (height : ℕ) (body : List ℕ) → 80 ≤ length body → block_at previous height (start body) ≡ cond (not (bytes_eq (previous_of body) previous)) (Err (NotLinked previous (previous_of body))) (listed height body)
unfolding block_at
block_is previous height body long =
    let enough : ltb (length body) 80 ≡ false = le-ltb (length body) 80 long in
    let header : bytes_at 80 (start body) ≡ Ok (take 80 body, behind_header body) = rw enough refl in
    bind_is _ _ (take 80 body, behind_header body) _ (told_is (tx_fault height) _ (take 80 body, behind_header body) (told_is cut_fault (bytes_at 80 (start body)) (take 80 body, behind_header body) header)) (ap (λ (l : List ℕ). cond (not (bytes_eq l previous)) (Err (NotLinked previous l)) (listed height body)) (field 4 body (omega arith) long))

-- ---- its transactions

pub tell_cut : (height : ℕ) (c : CutFault) → tx_fault height (cut_fault c) ≡ Tx height (cut_fault c)
tell_cut height (cuts.Truncated place) = refl
tell_cut height (cuts.LongCompact place) = refl

pub tell_tx : (height : ℕ) (x : TxFault) → (x ≡ txs.Memory → ⊥) → tx_fault height x ≡ Tx height x
tell_tx height (txs.Truncated place) some = refl
tell_tx height (txs.LongCompact place) some = refl
tell_tx height (txs.ValueRange output) some = refl
tell_tx height txs.NoInputs some = refl
tell_tx height txs.NoOutputs some = refl
tell_tx height txs.BadFlag some = refl
tell_tx height txs.EmptyWitness some = refl
tell_tx height (txs.Trailing place) some = refl
tell_tx height txs.Memory some = absurd (some refl)

-- at a place of a list of bytes
spot_is : (at : At) (place : ℕ) → at.place ≡ place → record { rest = at.rest; place = place } ≡ at
spot_is at place is = ap (λ (p : ℕ). record at { place = p }) (sym is)

txs_refused : (hash : List ℕ) (height : ℕ) (body : List ℕ) (n : ℕ) (at : At) (d : FeedFault) → previous_of body ≡ hash → Takes (behind_header body) (compact n) at → n < 2 ^ 64 → (n ≡ 0 → ⊥) → txs_at height n at ≡ Err d → IsBlockFault hash height d body
unfolding txs_at
txs_refused hash height body n at d linked taken small some e =
    elim (bind_err (fault_as (tx_fault height) (many_at tx_at n at)) _ d e) [
      | inl fails ↦
          let a = told_err (tx_fault height) (many_at tx_at n at) d fails in
          let f = many_fail tx_at text_of IsTransaction tx_reads n [] at a.0 taken.rest_fits a.1 in
          let is : d ≡ Tx height a.0 = a.2 ∙ tell_tx height a.0 (λ memory. tx_never f.next (f.fails ∙ ap (λ (x : TxFault). Err x) memory)) in
          let place : f.next.place ≡ 80 + length (compact n ++ flat_map text_of f.items) = omega (arith, taken.place_is, f.takes.place_is, length-append (compact n) (flat_map text_of f.items)) in
          subst (λ (x : FeedFault). IsBlockFault hash height x body) (sym is) (
            refl,
            linked,
            inr (record {
              count = n;
              txs = f.items;
              behind = f.next.rest;
              text = taken.parts ∙ ap (λ (l : List ℕ). compact n ++ l) f.takes.parts;
              each = All-from_recursion IsTransaction f.items f.fits;
              small = small;
              few = f.few;
              refused = ap tx_at (spot_is f.next _ place) ∙ f.fails;
            }),
          )
      | inr read ↦
          let t = (many_reads tx_at text_of IsTransaction tx_reads n).takes at read.0 taken.rest_fits (told_ok (tx_fault height) (many_at tx_at n at) read.0 read.1) in
          let g = guard_unmet (eqb (length read.0.1.rest) 0) (Trailing height) read.0.0 d read.2 in
          let rest : List ℕ = read.0.1.rest in
          let text : drop 80 body ≡ compact n ++ (flat_map text_of read.0.0 ++ rest) = taken.parts ∙ ap (λ (l : List ℕ). compact n ++ l) t.0.parts in
          let named : compact n ++ (flat_map text_of read.0.0 ++ rest) ≡ counted text_of read.0.0 ++ rest = ap (λ (k : ℕ). compact k ++ (flat_map text_of read.0.0 ++ rest)) (sym t.1.0) ∙ sym (append_assoc (compact (length read.0.0)) (flat_map text_of read.0.0) rest) in
          let count : 0 < length read.0.0 = some_count (length read.0.0) (λ none. some (sym t.1.0 ∙ none)) in
          let left : rest ≢ [] = λ none. eqb-false (length rest) 0 g.0 (ap (λ (l : List ℕ). length l) none) in
          subst (λ (x : FeedFault). IsBlockFault hash height x body) (sym g.1) (refl, linked, (read.0.0, rest, record { text = text ∙ named; each = t.1.1; some = count }, left))
    ]
  where
    some_count : (k : ℕ) → (k ≡ 0 → ⊥) → 0 < k
    some_count k apart = omega arith

counted_refused : (hash : List ℕ) (height : ℕ) (body : List ℕ) (d : FeedFault) → previous_of body ≡ hash → IsBytes (drop 80 body) → counted_txs_at height (behind_header body) ≡ Err d → IsBlockFault hash height d body
unfolding counted_txs_at
counted_refused hash height body d linked fits e =
    let at : At = behind_header body in
    elim (bind_err (fault_as (tx_fault height) (cut (compact_at at))) _ d e) [
      | inl fails ↦
          let a = told_err (tx_fault height) (cut (compact_at at)) d fails in
          let b = told_err cut_fault (compact_at at) a.0 a.1 in
          let is : d ≡ Tx height a.0 = a.2 ∙ ap (tx_fault height) b.2 ∙ tell_cut height b.0 ∙ ap (λ (x : TxFault). Tx height x) (sym b.2) in
          subst (λ (x : FeedFault). IsBlockFault hash height x body) (sym is) (refl, linked, inl (record { cut = b.0; told = b.2; refused = b.1 }))
      | inr count ↦
          let n = count_reads.takes at count.0 fits (told_ok cut_fault (compact_at at) count.0 (told_ok (tx_fault height) (cut (compact_at at)) count.0 count.1)) in
          elim (guard_err (eqb count.0.0 0) (Empty height) _ d count.2) [
            | inl none ↦ subst (λ (x : FeedFault). IsBlockFault hash height x body) (sym none.1) (refl, linked, (count.0.1.rest, n.0.parts ∙ ap (λ (k : ℕ). compact k ++ count.0.1.rest) (eqb-true count.0.0 0 none.0)))
            | inr some ↦ txs_refused hash height body count.0.0 count.0.1 d linked n.0 n.1 (eqb-false count.0.0 0 some.0) some.1
          ]
    ]

sealed_refused : (hash : List ℕ) (height : ℕ) (body : List ℕ) (txs : List Transaction) (d : FeedFault) → previous_of body ≡ hash → 80 ≤ length body → HoldsTxs txs [] body → sealed_at height (take 80 body) txs ≡ Err d → IsBlockFault hash height d body
unfolding sealed_at
sealed_refused hash height body txs d linked long held e =
    let ids : List (List ℕ) = map txid_of txs in
    let carried : root_of (take 80 body) ≡ root_of body = field 36 body (omega arith) long in
    let some : 0 < length ids = rw length-map held.some in
    elim (guard_err (not (bytes_eq (root_of (take 80 body)) (merkle_root ids))) (Merkle height) _ d e) [
      | inl other ↦
          let never : IsRoot ids (root_of body) → ⊥ = λ root. both_ways _ (not_from_true _ (same_bytes _ _ (carried ∙ sym (root_is ids (root_of body) root)))) other.0 in
          subst (λ (x : FeedFault). IsBlockFault hash height x body) (sym other.1) (refl, linked, (txs, held, never))
      | inr same ↦
          let root : merkle_root ids ≡ root_of body = sym (equal_bytes _ _ (not-false _ same.0)) ∙ carried in
          let is : IsRoot ids (root_of body) = subst (λ (r : List ℕ). IsRoot ids r) root (merkle_root_is ids some) in
          elim (guard_err (is_mutated ids) (Mutated height) _ d same.1) [
            | inl twice ↦ subst (λ (x : FeedFault). IsBlockFault hash height x body) (sym twice.1) (refl, linked, (txs, held, is, mutated_is ids twice.0))
            | inr made ↦ let block = made.1 in absurd cc
          ]
    ]

pub block_refused : (hash : List ℕ) (height : ℕ) (body : List ℕ) (d : FeedFault) → 80 ≤ length body → IsBytes body → block_at hash height (start body) ≡ Err d → IsBlockFault hash height d body
block_refused hash height body d long fits e =
    let fits_behind : IsBytes (drop 80 body) = All-drop (λ b. b < 256) 80 body fits in
    elim (guard_err (not (bytes_eq (previous_of body) hash)) (NotLinked hash (previous_of body)) (listed height body) d (sym (block_is hash height body long) ∙ e)) [
      | inl other ↦ subst (λ (x : FeedFault). IsBlockFault hash height x body) (sym other.1) (refl, refl, λ same. both_ways _ (not_from_true _ (same_bytes (previous_of body) hash same)) other.0)
      | inr named ↦
          let linked : previous_of body ≡ hash = equal_bytes (previous_of body) hash (not-false _ named.0) in
          elim (bind_err (counted_txs_at height (behind_header body)) _ d named.1) [
            | inl fails ↦ counted_refused hash height body d linked fits_behind fails
            | inr found ↦
                let list = counted_take height (behind_header body) found.0 fits_behind found.1 in
                sealed_refused hash height body found.0 d linked long (record { text = list.text ∙ sym (append-nil (counted text_of found.0)); each = list.each; some = list.some }) found.2
          ]
    ]

-- ---- both

linked_refused : (longer : Bool) (hash : List ℕ) (height place : ℕ) (rest : List ℕ) (read : Option (List ℕ)) (d : FeedFault) → IsBytes rest → record_at longer place rest ≡ Ok read → linked_at hash height place read ≡ Err d → (body : List ℕ) × HoldsRecord body rest × IsBlockFault hash (height_after height) d body
linked_refused longer hash height place rest None d fits reads e = absurd cc
linked_refused longer hash height place rest (Some body) d fits reads e =
    let r = record_takes longer place rest body (All-take (λ b. b < 256) 4 (drop 4 rest) (All-drop (λ b. b < 256) 4 rest fits)) reads in
    let behind : List ℕ = drop (8 + length body) rest in
    let whole : rest ≡ magic ++ (to_le_bytes w32 (length body) ++ (body ++ behind)) = r.begins ∙ ap (λ (x : List ℕ). magic ++ x) r.is_sized.parts in
    let here : take (length body) (drop 8 rest) ≡ body = ap (λ (x : List ℕ). take (length body) (drop 8 x)) whole ∙ take-append_seam body behind in
    let body_fits : IsBytes body = subst (λ (x : List ℕ). IsBytes x) here (All-take (λ b. b < 256) (length body) (drop 8 rest) (All-drop (λ b. b < 256) 8 rest fits)) in
    let least = r.is_sized.least in
    elim (bind_err (block_at hash (height_after height) (start body)) _ d e) [
      | inl fails ↦ (body, record { rest = behind; parts = whole; least = r.is_sized.least; most = r.is_sized.most }, block_refused hash (height_after height) body d (omega arith) body_fits fails)
      | inr made ↦ let block = made.2 in absurd cc
    ]

pub next_refused : (longer : Bool) (bytes hash : List ℕ) (height place : ℕ) (d : FeedFault) → IsBytes bytes → next_in longer bytes hash height place ≡ Err d
    → IsRecordFault longer place d (drop place bytes) ⊎ ((body : List ℕ) × HoldsRecord body (drop place bytes) × IsBlockFault hash (height_after height) d body)
unfolding next_in
next_refused longer bytes hash height place d fits e =
    let fits_rest : IsBytes (drop place bytes) = All-drop (λ b. b < 256) place bytes fits in
    elim (bind_err (record_at longer place (drop place bytes)) (λ body. linked_at hash height place body) d e) [
      | inl fails ↦ inl (record_refused longer place (drop place bytes) d fits_rest fails)
      | inr read ↦ inr (linked_refused longer hash height place (drop place bytes) read.0 d fits_rest read.1 read.2)
    ]
