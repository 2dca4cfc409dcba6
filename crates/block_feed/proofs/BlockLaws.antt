-- What is read of a block file is its blocks' text, and that text is read as those blocks.
use Rattle.std.proofs.Common.{◌≡◌, ℕ, ◌+◌, ◌^◌, ◌<◌, ◌≤◌, Bool, true, false, cond, not, ltb, eqb, List, [], ◌∷◌, ◌++◌, length, take, drop, map, All, Result, Ok, Err, Option, Some, None, refl, sym, ap, subst, ◌∙◌, arith, inl, inr}
use Rattle.std.specs.Prelude.{◌==◌, bytes_eq, IfOk}
use Rattle.std.specs.Int.{w32, to_le_bytes, from_le_bytes}
use Rattle.fund_base.specs.CompactSize.{compact, counted}
use Rattle.fund_base.specs.Cursor.{At, IsBytes, after, compact_at}
use Rattle.fund_base.specs.Parsing.{◌>>=◌, many_at, YieldsAll}
use Rattle.fund_base.proofs.Laws.{bind_ok, bind_is, guard_ok, guard_met, ok_is, told_ok, told_is, Again}
use Rattle.fund_base.proofs.LawsOfNumbers.{count_reads, number32_reads, wide32}
use Rattle.fund_base.proofs.Repeat.{many_reads}
use Rattle.tx_codec.specs.Transaction.{Transaction}
use Rattle.tx_codec.specs.TransactionText.{text_of, bare_text, segregated_text, IsTransaction}
use Rattle.tx_codec.specs.Txid.{txid_of}
use Rattle.tx_codec.specs.Reading.{tx_at}
use Rattle.tx_codec.proofs.Laws.{tx_reads}
use Rattle.block_feed.specs.declared.fault.FeedFault.{FeedFault}
use Rattle.block_feed.specs.declared.fault.FeedFault.TheVariants.{Memory, Limit}
use Rattle.block_feed.specs.Block.{ChainBlock, IsBlock, IsLinked, previous_of, root_of, magic}
use Rattle.block_feed.specs.Merkle.{double_sha256, merkle_root, is_mutated, IsRoot}
use Rattle.block_feed.specs.Reading.{tx_fault, magic_at, sized_at, body_at, record_at, sealed_at, txs_at, counted_txs_at, block_at}
use Rattle.std.specs.List.{flat_map, list_all}
use Rattle.std.proofs.lemmas.Bool.{cases_Bool, not-false, not_from_true, ltb-false, le-ltb, eqb-true, eqb-false, ne_eqb, both_ways, or_parts}
use Rattle.std.proofs.lemmas.List.{take-append-drop, drop-drop, length-take-le, length-map, nil_from_length, append-nil, length-append}
use Rattle.std.proofs.lemmas.List.Concat.{flat_map-cons}
use Rattle.std.proofs.Math.Seq.{take-append_seam, drop-append_seam}
use Rattle.std.proofs.lemmas.Bool.Decides.{Decides-by_and, Decides-eqb}
use Rattle.std.specs.Bool.{Decides}
use Rattle.block_feed.specs.BlockFile.{IsTail}
use Rattle.fund_base.proofs.Lists.{equal_bytes, same_bytes}
use Rattle.fund_base.specs.Cursor.{take_at as bytes_at}
use Rattle.fund_base.proofs.LawsOfNumbers.{bytes_reads}
use Rattle.block_feed.proofs.TreeLaws.{merkle_root_is, root_is, mutated_is, is_found}

-- ---- the transactions of a block

-- all bytes are the transactions and their count
pub record IsList (txs : List Transaction) (bytes : List ℕ) : Type 0 where
  pub text : bytes ≡ counted text_of txs
  pub each : All IsTransaction txs
  pub some : 0 < length txs

txs_take : (height n : ℕ) (at : At) (txs : List Transaction) → IsBytes at.rest → txs_at height n at ≡ Ok txs → (at.rest ≡ flat_map text_of txs) × ((length txs ≡ n) × All IsTransaction txs)
unfolding txs_at
txs_take height n at txs fits e =
    let a = bind_ok _ _ txs e in
    let t = (many_reads tx_at text_of IsTransaction tx_reads n).takes at a.0 fits (told_ok (tx_fault height) (many_at tx_at n at) a.0 a.1) in
    let g = guard_met _ _ _ _ a.2 in
    let nothing : a.0.1.rest ≡ [] = nil_from_length a.0.1.rest (eqb-true _ _ g.0) in
    let whole : at.rest ≡ flat_map text_of a.0.0 = t.0.parts ∙ ap (λ (r : List ℕ). flat_map text_of a.0.0 ++ r) nothing ∙ append-nil (flat_map text_of a.0.0) in
    subst (λ (l : List Transaction). (at.rest ≡ flat_map text_of l) × ((length l ≡ n) × All IsTransaction l)) (ok_is a.0.0 txs (Ok a.0.0) refl g.1) (whole, t.1)

pub counted_take : (height : ℕ) (at : At) (txs : List Transaction) → IsBytes at.rest → counted_txs_at height at ≡ Ok txs → IsList txs at.rest
unfolding counted_txs_at
counted_take height at txs fits e =
    let a = bind_ok _ _ txs e in
    let n = count_reads.takes at a.0 fits (told_ok _ (compact_at at) a.0 (told_ok _ _ a.0 a.1)) in
    let g = guard_ok _ _ _ _ a.2 in
    let t = txs_take height a.0.0 a.0.1 txs n.0.rest_fits g.1 in
    let text : at.rest ≡ compact (length txs) ++ flat_map text_of txs = n.0.parts ∙ ap (λ (r : List ℕ). compact a.0.0 ++ r) t.0 ∙ ap (λ (k : ℕ). compact k ++ flat_map text_of txs) (sym t.1.0) in
    let some : 0 < length txs = let h = eqb-false _ _ g.0 in omega (arith, t.1.0) in
    record { text = text; each = t.1.1; some = some }

txs_again : (height : ℕ) (at : At) (txs : List Transaction) → All IsTransaction txs → at.rest ≡ flat_map text_of txs → txs_at height (length txs) at ≡ Ok txs
unfolding txs_at
txs_again height at txs each is =
    let a = (many_reads tx_at text_of IsTransaction tx_reads (length txs)).again txs at [] (refl, each) (is ∙ sym (append-nil (flat_map text_of txs))) in
    let nothing : length a.next.rest ≡ 0 = ap (λ (r : List ℕ). length r) a.left in
    bind_is _ _ _ _ (told_is (tx_fault height) (many_at tx_at (length txs) at) (txs, a.next) a.reads) (rw nothing refl)

pub counted_again : (height : ℕ) (at : At) (txs : List Transaction) → length txs < 2 ^ 64 → IsList txs at.rest → counted_txs_at height at ≡ Ok txs
unfolding counted_txs_at
counted_again height at txs small list =
    let a = count_reads.again (length txs) at (flat_map text_of txs) small list.text in
    let none : eqb (length txs) 0 ≡ false = ne_eqb (length txs) 0 (λ e. let h = list.some in absurd (omega arith)) in
    bind_is _ _ _ _ (told_is (tx_fault height) _ (length txs, a.next) (told_is _ (compact_at at) (length txs, a.next) a.reads)) (rw none (txs_again height a.next txs list.each a.left))

-- ---- a block

sealed_takes : (height : ℕ) (header : List ℕ) (txs : List Transaction) (block : ChainBlock) → sealed_at height header txs ≡ Ok block
    → (root_of header ≡ merkle_root (map txid_of txs)) × (is_mutated (map txid_of txs) ≡ false) × (record { height = height; hash = double_sha256 header; txs = txs } ≡ block)
unfolding sealed_at
sealed_takes height header txs block e =
    let a = guard_ok _ _ _ _ e in
    let b = guard_ok _ _ _ _ a.1 in
    let made : ChainBlock = record { height = height; hash = double_sha256 header; txs = txs } in
    (equal_bytes (root_of header) (merkle_root (map txid_of txs)) (not-false _ a.0), b.0, ok_is made block (Ok made) refl b.1)

sealed_again : (height : ℕ) (header : List ℕ) (block : ChainBlock) → root_of header ≡ merkle_root (map txid_of block.txs) → is_mutated (map txid_of block.txs) ≡ false → block.height ≡ height → block.hash ≡ double_sha256 header → sealed_at height header block.txs ≡ Ok block
unfolding sealed_at
sealed_again height header block root single height_is hash_is =
    let same : not (bytes_eq (root_of header) (merkle_root (map txid_of block.txs))) ≡ false = not_from_true _ (same_bytes _ _ root) in
    let made : ChainBlock = record { height = height; hash = double_sha256 header; txs = block.txs } in
    let at_height : made ≡ record block { hash = double_sha256 header } = ap (λ (h : ℕ). record block { height = h; hash = double_sha256 header }) (sym height_is) in
    let hashed : record block { hash = double_sha256 header } ≡ block = ap (λ (h : List ℕ). record block { hash = h }) (sym hash_is) in
    rw (same, single) (ap (λ (b : ChainBlock). Ok b) (at_height ∙ hashed))

abbrev pub start : List ℕ → At
start bytes = record { rest = bytes; place = 0 }

pub block_takes : (previous : List ℕ) (height : ℕ) (bytes : List ℕ) (block : ChainBlock) → IsBytes bytes → block_at previous height (start bytes) ≡ Ok block → IsBlock previous height block bytes
unfolding block_at
block_takes previous height bytes block fits e =
    let a = bind_ok _ _ block e in
    let h = (bytes_reads 80).takes (start bytes) a.0 fits (told_ok _ (bytes_at 80 (start bytes)) a.0 (told_ok _ _ a.0 a.1)) in
    let g = guard_ok _ _ _ _ a.2 in
    let b = bind_ok _ _ block g.1 in
    let list = counted_take height a.0.1 b.0 h.0.rest_fits b.1 in
    let sealed = sealed_takes height a.0.0 b.0 block b.2 in
    let some : 0 < length (map txid_of b.0) = rw length-map list.some in
    let made : ChainBlock = record { height = height; hash = double_sha256 a.0.0; txs = b.0 } in
    let is : IsBlock previous height made bytes = record {
      header = a.0.0;
      header_len = h.1.0;
      text = h.0.parts ∙ ap (λ (l : List ℕ). a.0.0 ++ l) list.text;
      linked = equal_bytes (previous_of a.0.0) previous (not-false _ g.0);
      height_is = refl;
      hash_is = refl;
      each = list.each;
      some = list.some;
      root = subst (λ (r : List ℕ). IsRoot (map txid_of b.0) r) (sym sealed.0) (merkle_root_is (map txid_of b.0) some);
      single = λ mutated. both_ways (is_mutated (map txid_of b.0)) sealed.1 (is_found (map txid_of b.0) mutated);
    } in
    subst (λ (c : ChainBlock). IsBlock previous height c bytes) sealed.2 is

-- so what a call read, seen as one, is a block
pub yields_linked : {X : Type 0} (view : X → ChainBlock) (previous : List ℕ) (height : ℕ) (bytes : List ℕ) (result : Result X FeedFault) → IsBytes bytes → YieldsAll Memory view result (block_at previous height (start bytes)) → IfOk result (λ x. IsLinked previous height (view x))
yields_linked view previous height bytes (Ok x) fits given = record { bytes = bytes; is_block = block_takes previous height bytes (view x) fits given }
yields_linked view previous height bytes (Err e) fits given = tt

-- each transaction has a byte at least
text_some : (t : Transaction) → 1 ≤ length (text_of t)
unfolding bare_text segregated_text
text_some t =
    elim (cases_Bool t.segwit) [
      | inl form ↦ rw (form, length-append) (omega arith)
      | inr form ↦ rw (form, length-append) (omega arith)
    ]

pub txs_few : (txs : List Transaction) → length txs ≤ length (flat_map text_of txs)
txs_few [] = omega arith
txs_few (t ∷ txs) = let h = text_some t in let k = txs_few txs in rw (flat_map-cons, length-append) (omega arith)

-- a first part of known length
front_again : (n : ℕ) (x : List ℕ) (at : At) (rest : List ℕ) → length x ≡ n → at.rest ≡ x ++ rest → Again (bytes_at n at) x rest
front_again n x at rest len is =
    let long : ltb (length at.rest) n ≡ false = le-ltb _ _ (rw is (omega (arith, length-append x rest))) in
    let front : take n at.rest ≡ x = rw (is, ← len) (take-append_seam x rest) in
    record { next = after n at; reads = rw (long, front) refl; left = rw (is, ← len) (drop-append_seam x rest) }

pub block_again : (previous : List ℕ) (height : ℕ) (bytes : List ℕ) (block : ChainBlock) → length bytes < 2 ^ 64 → IsBlock previous height block bytes → block_at previous height (start bytes) ≡ Ok block
unfolding block_at
block_again previous height bytes block small is =
    let h = front_again 80 is.header (start bytes) (counted text_of block.txs) is.header_len is.text in
    let few = txs_few block.txs in
    let whole = ap (λ (l : List ℕ). length l) is.text in
    let len : length block.txs < 2 ^ 64 = omega (arith, length-append is.header (counted text_of block.txs), length-append (compact (length block.txs)) (flat_map text_of block.txs)) in
    let list : IsList block.txs h.next.rest = record { text = h.left; each = is.each; some = is.some } in
    let linked : not (bytes_eq (previous_of is.header) previous) ≡ false = not_from_true _ (same_bytes _ _ is.linked) in
    let single : is_mutated (map txid_of block.txs) ≡ false =
    elim (cases_Bool (is_mutated (map txid_of block.txs))) [ inl found ↦ absurd (is.single (mutated_is (map txid_of block.txs) found)) | inr none ↦ none ] in
    let sealed = sealed_again height is.header block (sym (root_is (map txid_of block.txs) (root_of is.header) is.root)) single is.height_is is.hash_is in
    bind_is _ _ _ _ (told_is (tx_fault height) _ (is.header, h.next) (told_is _ (bytes_at 80 (start bytes)) (is.header, h.next) h.reads)) (rw linked (bind_is _ _ _ _ (counted_again height h.next block.txs len list) sealed))

-- ---- the record of a block

pub magic_takes : (longer : Bool) (place : ℕ) (rest after : List ℕ) → magic_at longer place rest ≡ Ok after → rest ≡ magic ++ after
unfolding magic_at
magic_takes longer place rest behind e =
    let a = guard_ok _ _ _ _ e in
    let b = guard_met _ _ _ _ a.1 in
    let here : take 4 rest ≡ magic = equal_bytes (take 4 rest) magic b.0 in
    let left : drop 4 rest ≡ behind = ok_is (drop 4 rest) behind (Ok (drop 4 rest)) refl b.1 in
    sym (take-append-drop 4 rest) ∙ ap (λ (l : List ℕ). l ++ drop 4 rest) here ∙ ap (λ (l : List ℕ). magic ++ l) left

pub magic_again : (longer : Bool) (place : ℕ) (after : List ℕ) → magic_at longer place (magic ++ after) ≡ Ok after
unfolding magic_at
magic_again longer place behind =
    let long : ltb (length (magic ++ behind)) 4 ≡ false = le-ltb _ _ (omega arith) in
    rw long refl

-- the bytes are a length in its range, so many bytes, and the rest
pub record IsSized (body bytes rest : List ℕ) : Type 0 where
  pub parts : bytes ≡ to_le_bytes w32 (length body) ++ (body ++ rest)
  pub least : 81 ≤ length body
  pub most : length body ≤ 4_000_000

-- a number of four bytes
pub number_again : (bytes rest : List ℕ) (n : ℕ) → n < 2 ^ 32 → bytes ≡ to_le_bytes w32 n ++ rest → (ltb (length bytes) 4 ≡ false) × (from_le_bytes w32 (take 4 bytes) ≡ n) × (drop 4 bytes ≡ rest)
number_again bytes rest n lt is =
    let a = number32_reads.again n (start bytes) rest lt is in
    let g = guard_ok _ _ _ _ a.reads in
    let same : (from_le_bytes w32 (take 4 bytes), after 4 (start bytes)) ≡ (n, a.next) = ok_is _ (n, a.next) (Ok (n, a.next)) (sym g.1 ∙ refl) refl in
    (g.0, ap (λ (p : ℕ × At). p.0) same, ap (λ (p : ℕ × At). p.1.rest) same ∙ a.left)

pub number_takes : (bytes : List ℕ) → IsBytes (take 4 bytes) → ltb (length bytes) 4 ≡ false → bytes ≡ to_le_bytes w32 (from_le_bytes w32 (take 4 bytes)) ++ drop 4 bytes
number_takes bytes fits long =
    let len : length (take 4 bytes) ≡ 4 = length-take-le 4 bytes (ltb-false (length bytes) 4 long) in
    sym (take-append-drop 4 bytes) ∙ ap (λ (l : List ℕ). l ++ drop 4 bytes) (sym (wide32.back (take 4 bytes) len fits))

sized_takes : (longer : Bool) (place size : ℕ) (bytes rest body : List ℕ) → bytes ≡ to_le_bytes w32 size ++ rest → sized_at longer place size rest ≡ Ok body → IsSized body bytes (drop (length body) rest)
unfolding sized_at
sized_takes longer place size bytes rest body parts e =
    let b = guard_ok _ _ _ _ e in
    let range = or_parts (ltb size 81) (ltb 4_000_000 size) b.0 in
    let c = guard_ok _ _ _ _ b.1 in
    let here : take size rest ≡ body = ok_is (take size rest) body (Ok (take size rest)) refl c.1 in
    let enough : size ≤ length rest = ltb-false (length rest) size c.0 in
    let len : length body ≡ size = ap (λ (l : List ℕ). length l) (sym here) ∙ length-take-le size rest enough in
    let behind : rest ≡ body ++ drop (length body) rest = sym (take-append-drop size rest) ∙ ap (λ (l : List ℕ). l ++ drop size rest) here ∙ ap (λ (n : ℕ). body ++ drop n rest) (sym len) in
    let least : 81 ≤ size = ltb-false size 81 range.0 in
    let most : size ≤ 4_000_000 = ltb-false 4_000_000 size range.1 in
    record {
      parts = parts ∙ ap (λ (l : List ℕ). to_le_bytes w32 size ++ l) behind ∙ ap (λ (n : ℕ). to_le_bytes w32 n ++ (body ++ drop (length body) rest)) (sym len);
      least = omega arith;
      most = omega arith;
    }

sized_again : (longer : Bool) (place : ℕ) (body rest : List ℕ) → 81 ≤ length body → length body ≤ 4_000_000 → sized_at longer place (length body) (body ++ rest) ≡ Ok body
unfolding sized_at
sized_again longer place body rest least most =
    let low : ltb (length body) 81 ≡ false = le-ltb (length body) 81 least in
    let high : ltb 4_000_000 (length body) ≡ false = le-ltb 4_000_000 (length body) most in
    let enough : ltb (length (body ++ rest)) (length body) ≡ false = le-ltb _ _ (omega (arith, length-append body rest)) in
    rw (low, high, enough, take-append_seam body rest) refl

body_takes : (longer : Bool) (place : ℕ) (rest body : List ℕ) → IsBytes (take 4 rest) → body_at longer place rest ≡ Ok body → IsSized body rest (drop (length body) (drop 4 rest))
unfolding body_at
body_takes longer place rest body fits e =
    let a = guard_ok _ _ _ _ e in
    sized_takes longer place (from_le_bytes w32 (take 4 rest)) rest (drop 4 rest) body (number_takes rest fits a.0) a.1

body_again : (longer : Bool) (place : ℕ) (bytes body rest : List ℕ) → IsSized body bytes rest → body_at longer place bytes ≡ Ok body
unfolding body_at
body_again longer place bytes body rest sized =
    let small : length body < 2 ^ 32 = let h = sized.most in omega arith in
    let n = number_again bytes (body ++ rest) (length body) small sized.parts in
    rw n.0 (
    ap (λ (k : ℕ). sized_at longer place k (drop 4 bytes)) n.1
    ∙ ap (λ (l : List ℕ). sized_at longer place (length body) l) n.2
    ∙ sized_again longer place body rest sized.least sized.most)

-- ---- nothing, or zero bytes alone

pub tail_is : (bytes : List ℕ) → Decides (list_all (λ b. b == 0) bytes) (IsTail bytes)
tail_is bytes = Decides-by_and (λ b. b == 0) (λ b. b ≡ 0) (λ l. list_all (λ b. b == 0) l) (λ b. Decides-eqb b 0) refl (λ _ _. refl) bytes

-- ---- a record

-- the bytes of the block whose magic stands here
abbrev pub body_in : Bool → ℕ → List ℕ → Result (Option (List ℕ)) FeedFault
body_in longer place rest = magic_at longer place rest >>= λ behind. body_at longer (place + 4) behind >>= λ body. Ok (Some body)

-- and where nothing or zero bytes alone follow, none
abbrev pub tail_or : Bool → Bool → Result (Option (List ℕ)) FeedFault → Result (Option (List ℕ)) FeedFault
tail_or tail longer read = cond tail (cond longer (Err Limit) (Ok None)) read

some_at : (longer tail : Bool) (read : Result (Option (List ℕ)) FeedFault) (body : List ℕ) → tail_or tail longer read ≡ Ok (Some body) → read ≡ Ok (Some body)
some_at true true read body e = absurd cc
some_at false true read body e = absurd cc
some_at longer false read body e = e

abbrev some_body : List ℕ → Result (Option (List ℕ)) FeedFault
some_body body = Ok (Some body)

not_none : (body : List ℕ) → some_body body ≡ Ok None → ⊥
not_none body e = absurd cc

body_not_none : (longer : Bool) (place : ℕ) (rest : List ℕ) → body_in longer place rest ≡ Ok None → ⊥
body_not_none longer place rest e =
    let a = bind_ok (magic_at longer place rest) (λ behind. body_at longer (place + 4) behind >>= λ body. Ok (Some body)) None e in
    let b = bind_ok (body_at longer (place + 4) a.0) (λ body. Ok (Some body)) None a.2 in
    not_none b.0 b.2

none_at : (longer tail : Bool) (read : Result (Option (List ℕ)) FeedFault) → (read ≡ Ok None → ⊥) → tail_or tail longer read ≡ Ok None → (tail ≡ true) × (longer ≡ false)
none_at true true read never e = absurd cc
none_at false true read never e = (refl, refl)
none_at longer false read never e = absurd (never e)

is_some : (a b : List ℕ) → some_body a ≡ Ok (Some b) → a ≡ b
is_some a b e = cc

-- the record of a block, and the rest
pub record IsRecord (body bytes rest : List ℕ) : Type 0 where
  pub sized : List ℕ
  pub begins : bytes ≡ magic ++ sized
  pub is_sized : IsSized body sized rest

pub record_takes : (longer : Bool) (place : ℕ) (rest body : List ℕ) → IsBytes (take 4 (drop 4 rest)) → record_at longer place rest ≡ Ok (Some body) → IsRecord body rest (drop (8 + length body) rest)
unfolding record_at
record_takes longer place rest body fits e =
    let s : body_in longer place rest ≡ Ok (Some body) = some_at longer (list_all (λ b. b == 0) rest) (body_in longer place rest) body e in
    let a = bind_ok (magic_at longer place rest) (λ behind. body_at longer (place + 4) behind >>= λ b. Ok (Some b)) (Some body) s in
    let b = bind_ok (body_at longer (place + 4) a.0) (λ b. Ok (Some b)) (Some body) a.2 in
    let same : b.0 ≡ body = is_some b.0 body b.2 in
    let whole = magic_takes longer place rest a.0 a.1 in
    let behind : drop 4 rest ≡ a.0 = ap (λ (l : List ℕ). drop 4 l) whole in
    let fits_behind : IsBytes (take 4 a.0) = subst (λ (l : List ℕ). IsBytes (take 4 l)) behind fits in
    let sized = body_takes longer (place + 4) a.0 b.0 fits_behind b.1 in
    let left : drop (length b.0) (drop 4 a.0) ≡ drop (8 + length body) rest =
    ap (λ (l : List ℕ). drop (length b.0) (drop 4 l)) (sym behind)
    ∙ ap (λ (l : List ℕ). drop (length b.0) l) (drop-drop 4 4 rest)
    ∙ drop-drop (length b.0) 8 rest
    ∙ ap (λ (l : List ℕ). drop (8 + length l) rest) same in
    record { sized = a.0; begins = whole; is_sized = subst (λ (r : List ℕ). IsSized body a.0 r) left (subst (λ (x : List ℕ). IsSized x a.0 (drop (length b.0) (drop 4 a.0))) same sized) }

pub record_again : (longer : Bool) (place : ℕ) (bytes body rest : List ℕ) → IsSized body bytes rest → record_at longer place (magic ++ bytes) ≡ Ok (Some body)
unfolding record_at
record_again longer place bytes body rest sized =
    bind_is _ _ _ _ (magic_again longer place bytes) (bind_is _ _ _ _ (body_again longer (place + 4) bytes body rest sized) refl)

pub record_none : (longer : Bool) (place : ℕ) (rest : List ℕ) → record_at longer place rest ≡ Ok None → IsTail rest × (longer ≡ false)
unfolding record_at
record_none longer place rest e =
    let n = none_at longer (list_all (λ b. b == 0) rest) (body_in longer place rest) (body_not_none longer place rest) e in
    ((tail_is rest).0 n.0, n.1)

pub none_again : (place : ℕ) (rest : List ℕ) → IsTail rest → record_at false place rest ≡ Ok None
unfolding record_at
none_again place rest tail = rw ((tail_is rest).1 tail) refl
