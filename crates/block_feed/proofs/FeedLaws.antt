-- What a call of the feed gives is what the file holds there.
use Rattle.std.proofs.Common.{◌≡◌, ◌≢◌, ℕ, ◌+◌, ◌-◌, ◌<◌, ◌≤◌, Bool, false, ltb, List, [], ◌∷◌, ◌++◌, length, take, drop, Result, Ok, Err, Option, Some, None, refl, sym, ap, subst, ◌∙◌, append_assoc, arith, inl, inr}
use Rattle.std.specs.Prelude.{◌⊎◌, IfOk, IfSome, MatchResult, MatchOption}
use Rattle.std.specs.Int.{w32, to_le_bytes}
use Rattle.std.proofs.lemmas.Bool.{ltb-false, le-ltb}
use Rattle.std.proofs.lemmas.List.{take-append-drop, take_all, length-take, length-drop, length-append, drop-drop, drop-take, take-take, take-append-le, drop-append-le}
use Rattle.std.proofs.Math.Seq.{drop-append_seam, take-append_seam}
use Rattle.fund_base.specs.Cursor.{IsBytes}
use Rattle.fund_base.proofs.Laws.{bind_ok, bind_is}
use Rattle.std.proofs.lemmas.List.Elements.{All-take, All-drop}
use Rattle.block_feed.specs.declared.fault.FeedFault.{FeedFault}
use Rattle.block_feed.specs.declared.fault.FeedFault.TheVariants.{Magic, Length, Tx, Merkle, Mutated, NotLinked, Trailing, Empty, Read, Limit, Memory}
use Rattle.block_feed.specs.Block.{ChainBlock, IsBlock, Begins, magic, height_after}
use Rattle.block_feed.specs.BlockFile.{IsTail, IsBlockFile}
use Rattle.block_feed.specs.Reading.{record_at, block_at}
use Rattle.block_feed.specs.Feed.{FeedState, linked_at, next_in, Gives, Moves, IsOutside, StandsBefore, IsFirst}
use Rattle.block_feed.proofs.BlockLaws.{start, IsSized, record_takes, record_again, record_none, none_again, block_takes, block_again}

-- ---- a list in two parts

-- where a list begins with a text, seen in a longer one
begins_with : (xs beyond text rest : List ℕ) → xs ++ beyond ≡ text ++ rest → length text ≤ length xs → xs ≡ text ++ drop (length text) xs
begins_with xs beyond text rest same le =
    let front : take (length text) xs ≡ text = sym (take-append-le (length text) xs beyond le) ∙ ap (λ (l : List ℕ). take (length text) l) same ∙ take-append_seam text rest in
    sym (take-append-drop (length text) xs) ∙ ap (λ (l : List ℕ). l ++ drop (length text) xs) front

abbrev record_text : List ℕ → List ℕ
record_text body = magic ++ (to_le_bytes w32 (length body) ++ body)

length-record_text : (body : List ℕ) → length (record_text body) ≡ 8 + length body
length-record_text body = omega (arith, length-append (to_le_bytes w32 (length body)) body)

regroup : (body rest : List ℕ) → magic ++ (to_le_bytes w32 (length body) ++ (body ++ rest)) ≡ record_text body ++ rest
regroup body rest = simp append_assoc

-- ---- the next record of a list of bytes

abbrev next_is : ChainBlock → ℕ → Result (Option (ChainBlock × ℕ)) FeedFault
next_is block behind = Ok (Some (block, behind))

-- what is linked is a block
pub record IsNext (hash : List ℕ) (height place : ℕ) (body : Option (List ℕ)) (block : ChainBlock) (behind : ℕ) : Type 0 where
  pub bytes : List ℕ
  pub some : body ≡ Some bytes
  pub reads : block_at hash (height_after height) (start bytes) ≡ Ok block
  pub behind_is : behind ≡ place + 8 + length bytes

pair_is : (a block : ChainBlock) (m n : ℕ) (made : Result (Option (ChainBlock × ℕ)) FeedFault) → made ≡ Ok (Some (a, m)) → made ≡ Ok (Some (block, n)) → (a ≡ block) × (n ≡ m)
pair_is a block m n made p q =
    let same : (a, m) ≡ (block, n) = cc in
    (ap (λ (x : ChainBlock × ℕ). x.0) same, sym (ap (λ (x : ChainBlock × ℕ). x.1) same))

linked_found : (hash : List ℕ) (height place : ℕ) (body : Option (List ℕ)) (block : ChainBlock) (behind : ℕ) → linked_at hash height place body ≡ Ok (Some (block, behind)) → IsNext hash height place body block behind
linked_found hash height place None block behind e = absurd cc
linked_found hash height place (Some bytes) block behind e =
    let a = bind_ok (block_at hash (height_after height) (start bytes)) (λ found. Ok (Some (found, place + 8 + length bytes))) (Some (block, behind)) e in
    let p = pair_is a.0 block (place + 8 + length bytes) behind (Ok (Some (a.0, place + 8 + length bytes))) refl a.2 in
    record { bytes = bytes; some = refl; reads = a.1 ∙ ap (λ (b : ChainBlock). Ok b) p.0; behind_is = p.1 }

not_none : (block : ChainBlock) (behind : ℕ) → next_is block behind ≡ Ok None → ⊥
not_none block behind e = absurd cc

linked_none : (hash : List ℕ) (height place : ℕ) (body : Option (List ℕ)) → linked_at hash height place body ≡ Ok None → body ≡ None
linked_none hash height place None e = refl
linked_none hash height place (Some bytes) e =
    let a = bind_ok (block_at hash (height_after height) (start bytes)) (λ found. Ok (Some (found, place + 8 + length bytes))) None e in
    absurd (not_none a.0 (place + 8 + length bytes) a.2)

-- the record at a place
pub record IsFound (hash : List ℕ) (height : ℕ) (bytes : List ℕ) (place : ℕ) (block : ChainBlock) (behind : ℕ) : Type 0 where
  pub body : List ℕ
  pub is_block : IsBlock hash (height_after height) block body
  pub parts : drop place bytes ≡ record_text body ++ drop (8 + length body) (drop place bytes)
  pub least : 81 ≤ length body
  pub most : length body ≤ 4_000_000
  pub behind_is : behind ≡ place + 8 + length body

-- a part of bytes
part_fits : (n k m : ℕ) (rest : List ℕ) → IsBytes (take n rest) → k + m ≤ n → IsBytes (take m (drop k rest))
part_fits n k m rest fits le =
    let whole : n ≡ k + (n - k) = omega arith in
    let cut : drop k (take n rest) ≡ take (n - k) (drop k rest) = ap (λ (j : ℕ). drop k (take j rest)) whole ∙ drop-take k (n - k) rest in
    let inner : IsBytes (take (n - k) (drop k rest)) = subst (λ (l : List ℕ). IsBytes l) cut (All-drop (λ b. b < 256) k (take n rest) fits) in
    subst (λ (l : List ℕ). IsBytes l) (take-take m (n - k) (drop k rest) (omega arith)) (All-take (λ b. b < 256) m (take (n - k) (drop k rest)) inner)

-- Of the bytes it is asked only that those of the record are bytes.
next_found : (longer : Bool) (bytes hash : List ℕ) (height place : ℕ) (block : ChainBlock) (behind : ℕ) → IsBytes (take (behind - place) (drop place bytes)) → next_in longer bytes hash height place ≡ Ok (Some (block, behind)) → IsFound hash height bytes place block behind
unfolding next_in
next_found longer bytes hash height place block behind fits e =
    let a = bind_ok (record_at longer place (drop place bytes)) (λ body. linked_at hash height place body) (Some (block, behind)) e in
    let l = linked_found hash height place a.0 block behind a.2 in
    let there = l.behind_is in
    let count : behind - place ≡ 8 + length l.bytes = omega arith in
    let fits_record : IsBytes (take (8 + length l.bytes) (drop place bytes)) = subst (λ (n : ℕ). IsBytes (take n (drop place bytes))) count fits in
    let r = record_takes longer place (drop place bytes) l.bytes (part_fits (8 + length l.bytes) 4 4 (drop place bytes) fits_record (omega arith)) (a.1 ∙ ap (λ (o : Option (List ℕ)). Ok o) l.some) in
    let behind_magic : List ℕ = drop (8 + length l.bytes) (drop place bytes) in
    let whole : drop place bytes ≡ magic ++ (to_le_bytes w32 (length l.bytes) ++ (l.bytes ++ behind_magic)) = r.begins ∙ ap (λ (x : List ℕ). magic ++ x) r.is_sized.parts in
    let here : take (length l.bytes) (drop 8 (drop place bytes)) ≡ l.bytes = ap (λ (x : List ℕ). take (length l.bytes) (drop 8 x)) whole ∙ take-append_seam l.bytes behind_magic in
    let body_fits : IsBytes l.bytes = subst (λ (x : List ℕ). IsBytes x) here (part_fits (8 + length l.bytes) 8 (length l.bytes) (drop place bytes) fits_record (omega arith)) in
    record {
      body = l.bytes;
      is_block = block_takes hash (height_after height) l.bytes block body_fits l.reads;
      parts = whole ∙ regroup l.bytes (drop (8 + length l.bytes) (drop place bytes));
      least = r.is_sized.least;
      most = r.is_sized.most;
      behind_is = l.behind_is;
    }

next_again : (longer : Bool) (bytes hash : List ℕ) (height place : ℕ) (block : ChainBlock) (body rest : List ℕ) → IsBlock hash (height_after height) block body → 81 ≤ length body → length body ≤ 4_000_000 → drop place bytes ≡ record_text body ++ rest
    → next_in longer bytes hash height place ≡ Ok (Some (block, place + 8 + length body))
unfolding next_in
next_again longer bytes hash height place block body rest is least most parts =
    let whole : drop place bytes ≡ magic ++ (to_le_bytes w32 (length body) ++ (body ++ rest)) = parts ∙ sym (regroup body rest) in
    let sized : IsSized body (to_le_bytes w32 (length body) ++ (body ++ rest)) rest = record { parts = refl; least = least; most = most } in
    let read : record_at longer place (drop place bytes) ≡ Ok (Some body) = ap (λ (l : List ℕ). record_at longer place l) whole ∙ record_again longer place (to_le_bytes w32 (length body) ++ (body ++ rest)) body rest sized in
    bind_is _ _ _ _ read (bind_is _ _ _ _ (block_again hash (height_after height) body block (omega arith) is) refl)

next_none : (longer : Bool) (bytes hash : List ℕ) (height place : ℕ) → next_in longer bytes hash height place ≡ Ok None → IsTail (drop place bytes) × (longer ≡ false)
unfolding next_in
next_none longer bytes hash height place e =
    let a = bind_ok (record_at longer place (drop place bytes)) (λ body. linked_at hash height place body) None e in
    record_none longer place (drop place bytes) (a.1 ∙ ap (λ (o : Option (List ℕ)). Ok o) (linked_none hash height place a.0 a.2))

none_next : (bytes hash : List ℕ) (height place : ℕ) → IsTail (drop place bytes) → next_in false bytes hash height place ≡ Ok None
unfolding next_in
none_next bytes hash height place tail = bind_is _ _ _ _ (none_again place (drop place bytes) tail) refl

-- ---- the next record of a file

-- what is read of bytes is bytes
pub fits_from : (m at n : ℕ) (file : List ℕ) → IsBytes (take m file) → IsBytes (take n (drop at (take m file)))
fits_from m at n file fits = All-take (λ b. b < 256) n (drop at (take m file)) (All-drop (λ b. b < 256) at (take m file) fits)

-- what a file of which at most m bytes are read holds at a place
abbrev next_at : ℕ → List ℕ → List ℕ → ℕ → ℕ → Result (Option (ChainBlock × ℕ)) FeedFault
next_at m file hash height place = next_in (ltb m (length file)) (take m file) hash height place

pub file_found : (m : ℕ) (file hash : List ℕ) (height place : ℕ) (block : ChainBlock) (behind : ℕ) → IsBytes (take (behind - place) (drop place (take m file))) → next_at m file hash height place ≡ Ok (Some (block, behind)) → Begins hash height block (drop place file) (drop behind file)
file_found m file hash height place block behind fits e =
    let front : List ℕ = take m file in
    let beyond : List ℕ = drop m file in
    let f = next_found (ltb m (length file)) front hash height place block behind fits e in
    let rest : List ℕ = drop (8 + length f.body) (drop place front) in
    let len = ap (λ (l : List ℕ). length l) f.parts in
    let within : place + (8 + length f.body) ≤ length front = let l = f.least in omega (arith, length-append (record_text f.body) rest, length-record_text f.body, length-drop place front) in
    let whole : front ++ beyond ≡ file = take-append-drop m file in
    let left : drop place file ≡ drop place front ++ beyond = ap (λ (l : List ℕ). drop place l) (sym whole) ∙ drop-append-le place front beyond (omega arith) in
    let there : behind ≡ place + (8 + length f.body) = let h = f.behind_is in omega arith in
    let right : rest ++ beyond ≡ drop behind file =
    ap (λ (l : List ℕ). l ++ beyond) (drop-drop (8 + length f.body) place front)
    ∙ sym (drop-append-le (place + (8 + length f.body)) front beyond within)
    ∙ ap (λ (l : List ℕ). drop (place + (8 + length f.body)) l) whole
    ∙ ap (λ (n : ℕ). drop n file) (sym there) in
    record {
      body = f.body;
      is_block = f.is_block;
      parts =
          left
          ∙ ap (λ (l : List ℕ). l ++ beyond) f.parts
          ∙ append_assoc (record_text f.body) rest beyond
          ∙ ap (λ (l : List ℕ). record_text f.body ++ l) right
          ∙ sym (regroup f.body (drop behind file));
      least = f.least;
      most = f.most;
    }

-- the place behind a record is greater than its own, and within the file
pub file_moves : (m : ℕ) (file hash : List ℕ) (height place : ℕ) (block : ChainBlock) (behind : ℕ) → IsBytes (take (behind - place) (drop place (take m file))) → next_at m file hash height place ≡ Ok (Some (block, behind)) → (place < behind) × (behind ≤ length file)
file_moves m file hash height place block behind fits e =
    let front : List ℕ = take m file in
    let f = next_found (ltb m (length file)) front hash height place block behind fits e in
    let rest : List ℕ = drop (8 + length f.body) (drop place front) in
    let len = ap (λ (l : List ℕ). length l) f.parts in
    let within : place + (8 + length f.body) ≤ length front = let l = f.least in omega (arith, length-append (record_text f.body) rest, length-record_text f.body, length-drop place front) in
    let few = length-take m file in
    let there = f.behind_is in
    (omega arith, omega arith)

-- what is read of a record that stands at a place, and the place behind it
pub record IsRead (m : ℕ) (file hash : List ℕ) (height place : ℕ) (block : ChainBlock) (rest : List ℕ) : Type 0 where
  pub behind : ℕ
  pub reads : next_at m file hash height place ≡ Ok (Some (block, behind))
  pub left : drop behind file ≡ rest

pub file_again : (m : ℕ) (file hash : List ℕ) (height place : ℕ) (block : ChainBlock) (rest : List ℕ) → Begins hash height block (drop place file) rest → length file ≤ m + length rest → IsRead m file hash height place block rest
file_again m file hash height place block rest begins within =
    let front : List ℕ = take m file in
    let beyond : List ℕ = drop m file in
    let text : List ℕ = record_text begins.body in
    let here : drop place file ≡ text ++ rest = begins.parts ∙ regroup begins.body rest in
    let len = ap (λ (l : List ℕ). length l) here in
    let long : place + (8 + length begins.body) ≤ length front = let l = begins.least in omega (arith, length-append text rest, length-record_text begins.body, length-drop place file, length-take m file) in
    let whole : front ++ beyond ≡ file = take-append-drop m file in
    let left : drop place front ++ beyond ≡ text ++ rest = sym (drop-append-le place front beyond (omega arith)) ∙ ap (λ (l : List ℕ). drop place l) whole ∙ here in
    let enough : length text ≤ length (drop place front) = omega (arith, length-record_text begins.body, length-drop place front) in
    let seen = begins_with (drop place front) beyond text rest left enough in
    let behind : place + 8 + length begins.body ≡ place + length text = omega (arith, length-record_text begins.body) in
    record {
      behind = place + 8 + length begins.body;
      reads = next_again (ltb m (length file)) front hash height place block begins.body (drop (length text) (drop place front)) begins.is_block begins.least begins.most seen;
      left =
          ap (λ (n : ℕ). drop n file) behind
          ∙ sym (drop-drop (length text) place file)
          ∙ ap (λ (l : List ℕ). drop (length text) l) here
          ∙ drop-append_seam text rest;
    }

pub file_none : (m : ℕ) (file hash : List ℕ) (height place : ℕ) → next_at m file hash height place ≡ Ok None → IsTail (drop place file) × (length file ≤ m)
file_none m file hash height place e =
    let n = next_none (ltb m (length file)) (take m file) hash height place e in
    let few : length file ≤ m = ltb-false m (length file) n.1 in
    (subst (λ (l : List ℕ). IsTail (drop place l)) (take_all m file few) n.0, few)

pub none_file : (m : ℕ) (file hash : List ℕ) (height place : ℕ) → IsTail (drop place file) → length file ≤ m → next_at m file hash height place ≡ Ok None
none_file m file hash height place tail few =
    let all : take m file ≡ file = take_all m file few in
    let test : ltb m (length file) ≡ false = le-ltb m (length file) few in
    ap (λ (b : Bool). next_in b (take m file) hash height place) test
    ∙ none_next (take m file) hash height place (subst (λ (l : List ℕ). IsTail (drop place l)) (sym all) tail)

-- ---- what a call gave

-- a fault is the outside's where it can't be another
only_outside : (e : FeedFault) → (e ≢ Memory → e ≢ Read → ⊥) → (e ≡ Memory) ⊎ (e ≡ Read)
only_outside (Magic place) h = absurd (h (λ e. absurd cc) (λ e. absurd cc))
only_outside (Length place) h = absurd (h (λ e. absurd cc) (λ e. absurd cc))
only_outside (Tx height fault) h = absurd (h (λ e. absurd cc) (λ e. absurd cc))
only_outside (Merkle height) h = absurd (h (λ e. absurd cc) (λ e. absurd cc))
only_outside (Mutated height) h = absurd (h (λ e. absurd cc) (λ e. absurd cc))
only_outside (NotLinked kept found) h = absurd (h (λ e. absurd cc) (λ e. absurd cc))
only_outside (Trailing height) h = absurd (h (λ e. absurd cc) (λ e. absurd cc))
only_outside (Empty height) h = absurd (h (λ e. absurd cc) (λ e. absurd cc))
only_outside Read h = inr refl
only_outside Limit h = absurd (h (λ e. absurd cc) (λ e. absurd cc))
only_outside Memory h = inl refl

abbrev answer : Option (ChainBlock × ℕ) → Result (Option (ChainBlock × ℕ)) FeedFault
answer o = Ok o

not_error : (o : Option (ChainBlock × ℕ)) (e : FeedFault) (next : Result (Option (ChainBlock × ℕ)) FeedFault) → next ≡ answer o → next ≡ Err e → ⊥
not_error o e next p q = absurd cc

not_end : (block : ChainBlock) (behind : ℕ) (next : Result (Option (ChainBlock × ℕ)) FeedFault) → next ≡ answer None → next ≡ answer (Some (block, behind)) → ⊥
not_end block behind next p q = absurd cc

-- what it gave stands there
pub gives_found : (m : ℕ) (file : List ℕ) (old new : FeedState) (result : Result (Option ChainBlock) FeedFault) → Gives old new result (next_at m file old.hash old.height old.place) → IfOk result (λ o. IfSome o (λ _. IsBytes (take (new.place - old.place) (drop old.place (take m file)))))
    → IfOk result (λ o. MatchOption o (IsTail (drop old.place file) × (length file ≤ m)) (λ block. Begins old.hash old.height block (drop old.place file) (drop new.place file)))
gives_found m file old new (Ok None) given fits = file_none m file old.hash old.height old.place given
gives_found m file old new (Ok (Some block)) given fits = file_found m file old.hash old.height old.place block new.place fits given
gives_found m file old new (Err e) given fits = tt

-- and what stands there is given
pub gives_only : (m : ℕ) (file : List ℕ) (old new : FeedState) (result : Result (Option ChainBlock) FeedFault) → Gives old new result (next_at m file old.hash old.height old.place) → (block : ChainBlock) (rest : List ℕ) → Begins old.hash old.height block (drop old.place file) rest → length file ≤ m + length rest
    → MatchResult result (λ o. (o ≡ Some block) × (drop new.place file ≡ rest)) IsOutside
gives_only m file old new (Ok None) given block rest begins within =
    let r = file_again m file old.hash old.height old.place block rest begins within in
    absurd (not_end block r.behind (next_at m file old.hash old.height old.place) given r.reads)
gives_only m file old new (Ok (Some found)) given block rest begins within =
    let r = file_again m file old.hash old.height old.place block rest begins within in
    let p = pair_is found block new.place r.behind (next_at m file old.hash old.height old.place) given r.reads in
    (ap (λ (b : ChainBlock). Some b) p.0, ap (λ (n : ℕ). drop n file) (sym p.1) ∙ r.left)
gives_only m file old new (Err e) given block rest begins within =
    let r = file_again m file old.hash old.height old.place block rest begins within in
    only_outside e (λ memory read. not_error (Some (block, r.behind)) e (next_at m file old.hash old.height old.place) r.reads (given memory read))

-- as is the end
pub gives_end : (m : ℕ) (file : List ℕ) (old new : FeedState) (result : Result (Option ChainBlock) FeedFault) → Gives old new result (next_at m file old.hash old.height old.place) → IsTail (drop old.place file) → length file ≤ m → MatchResult result (λ o. o ≡ None) IsOutside
gives_end m file old new (Ok None) given tail few = refl
gives_end m file old new (Ok (Some found)) given tail few = absurd (not_end found new.place (next_at m file old.hash old.height old.place) (none_file m file old.hash old.height old.place tail few) given)
gives_end m file old new (Err e) given tail few =
    only_outside e (λ memory read. not_error None e (next_at m file old.hash old.height old.place) (none_file m file old.hash old.height old.place tail few) (given memory read))

-- ---- the blocks of the whole file

pub gives_before : (m : ℕ) (file : List ℕ) (old new : FeedState) (result : Result (Option ChainBlock) FeedFault) → Gives old new result (next_at m file old.hash old.height old.place) → IfOk result (λ o. IfSome o (λ _. IsBytes (take (new.place - old.place) (drop old.place (take m file))))) → Moves old new result
    → IfOk result (λ o. StandsBefore file old new o)
gives_before m file old new (Ok None) given fits moves = (file_none m file old.hash old.height old.place given).0
gives_before m file old new (Ok (Some block)) given fits moves =
    λ blocks is.
    let begins = file_found m file old.hash old.height old.place block new.place fits given in
    let behind : List ℕ = drop new.place file in
    let at_hash : IsBlockFile block.hash new.height blocks behind = subst (λ (h : List ℕ). IsBlockFile h new.height blocks behind) moves.1 is in
    (behind, begins, subst (λ (h : ℕ). IsBlockFile block.hash h blocks behind) moves.2 at_hash)
gives_before m file old new (Err e) given fits moves = tt

given_first : (file : List ℕ) (new : FeedState) (block found : ChainBlock) (blocks : List ChainBlock) (rest : List ℕ) → found ≡ block → drop new.place file ≡ rest → new.hash ≡ found.hash → new.height ≡ found.height → IsBlockFile block.hash block.height blocks rest → IsFirst file new (block ∷ blocks) (Some found)
given_first file new block found blocks rest same left hash height is =
    let at_hash : IsBlockFile new.hash block.height blocks rest = subst (λ (h : List ℕ). IsBlockFile h block.height blocks rest) (sym (hash ∙ ap (λ (b : ChainBlock). b.hash) same)) is in
    let at_height : IsBlockFile new.hash new.height blocks rest = subst (λ (h : ℕ). IsBlockFile new.hash h blocks rest) (sym (height ∙ ap (λ (b : ChainBlock). b.height) same)) at_hash in
    (ap (λ (b : ChainBlock). Some b) same, subst (λ (l : List ℕ). IsBlockFile new.hash new.height blocks l) (sym left) at_height)

pub gives_first : (m : ℕ) (file : List ℕ) (old new : FeedState) (result : Result (Option ChainBlock) FeedFault) → Gives old new result (next_at m file old.hash old.height old.place) → Moves old new result → (blocks : List ChainBlock) → IsBlockFile old.hash old.height blocks (drop old.place file) → length file ≤ m
    → MatchResult result (λ o. IsFirst file new blocks o) IsOutside
gives_first m file old new result given moves [] is few = gives_end m file old new result given is few
gives_first m file old new (Ok None) given moves (block ∷ blocks) is few =
    let r = file_again m file old.hash old.height old.place block is.0 is.1 (omega arith) in
    absurd (not_end block r.behind (next_at m file old.hash old.height old.place) given r.reads)
gives_first m file old new (Ok (Some found)) given moves (block ∷ blocks) is few =
    let r = file_again m file old.hash old.height old.place block is.0 is.1 (omega arith) in
    let p = pair_is found block new.place r.behind (next_at m file old.hash old.height old.place) given r.reads in
    given_first file new block found blocks is.0 p.0 (ap (λ (n : ℕ). drop n file) (sym p.1) ∙ r.left) moves.1 moves.2 is.2
gives_first m file old new (Err e) given moves (block ∷ blocks) is few =
    let r = file_again m file old.hash old.height old.place block is.0 is.1 (omega arith) in
    only_outside e (λ memory read. not_error (Some (block, r.behind)) e (next_at m file old.hash old.height old.place) r.reads (given memory read))

-- the feed moves on within the file
pub gives_within : (m : ℕ) (file : List ℕ) (old new : FeedState) (result : Result (Option ChainBlock) FeedFault) → Gives old new result (next_at m file old.hash old.height old.place) → IfOk result (λ o. IfSome o (λ _. IsBytes (take (new.place - old.place) (drop old.place (take m file)))))
    → IfOk result (λ o. IfSome o (λ _. (old.place < new.place) × (new.place ≤ length file)))
gives_within m file old new (Ok None) given fits = tt
gives_within m file old new (Ok (Some block)) given fits = file_moves m file old.hash old.height old.place block new.place fits given
gives_within m file old new (Err e) given fits = tt
