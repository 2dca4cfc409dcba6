-- The blocks that are read stand at the front of the bytes.
use Rattle.std.specs.Prelude.{ℕ, suc, zero, ◌≡◌, ◌<◌, ◌+◌, ◌-◌, List, [], ◌∷◌, length, nat_lt, drop, take, Option, Some, None, Result, Ok, Err}
use Rattle.std.proofs.Common.{refl, sym, subst, arith, length-drop}
use Rattle.std.proofs.lemmas.List.Elements.{All-drop, All-take}
use Rattle.block_feed.proofs.FeedLaws.{file_found, file_moves, file_none}
use Rattle.block_feed.specs.Block.{ChainBlock}
use Rattle.block_feed.specs.BlockFile.{IsBlockFile, IsTail}
use Rattle.block_feed.specs.Feed.{most, next_in}
use Rattle.block_feed.specs.declared.fault.FeedFault.{FeedFault}
use Rattle.fund_base.specs.Cursor.{IsBytes}
use Rattle.desk_machine.specs.Records.{BeginsWith, EndsBehind, Records, by_next, records_from, records_of}

-- these records stand at the front of the bytes
abbrev Fronts : List ℕ → ℕ → List ℕ → Records → Type 0
Fronts hash height bytes r = (rest : List ℕ) × BeginsWith hash height r.blocks bytes rest × EndsBehind r.fault rest

no_bytes : (file : List ℕ) (place : ℕ) → length file < place → IsTail (drop place file)
no_bytes file place far = λ k d lt. let n = length-drop place file in absurd (omega (arith, far, lt, n))

pub fronts_from : (n : ℕ) (file hash : List ℕ) (height place : ℕ) → IsBytes (take 1_073_741_824 file) → length file < n + place → Fronts hash height (drop place file) (records_from n file hash height place)
unfolding records_from
fronts_from zero file hash height place fits far = (drop place file, refl, no_bytes file place (omega (arith, far)))
fronts_from (suc n) file hash height place fits far = by (next_in (nat_lt most (length file)) (take most file) hash height place) refl (λ b behind near. fronts_from n file b.hash b.height behind fits (omega (arith, far, near)))
  where
    by : (next : Result (Option (ChainBlock × ℕ)) FeedFault) → next_in (nat_lt most (length file)) (take most file) hash height place ≡ next
        → ((b : ChainBlock) (behind : ℕ) → place < behind → Fronts b.hash b.height (drop behind file) (records_from n file b.hash b.height behind))
        → Fronts hash height (drop place file) (by_next (λ block behind. records_from n file block.hash block.height behind) next)
    by (Err e) is more = (drop place file, refl, tt)
    by (Ok None) is more = (drop place file, refl, (file_none 1_073_741_824 file hash height place is).0)
    by (Ok (Some read)) is more =
        let part : IsBytes (take (read.1 - place) (drop place (take 1_073_741_824 file))) = All-take (λ b. b < 256) (read.1 - place) (drop place (take 1_073_741_824 file)) (All-drop (λ b. b < 256) place (take 1_073_741_824 file) fits) in
        let begins = file_found 1_073_741_824 file hash height place read.0 read.1 part is in
        let moves = file_moves 1_073_741_824 file hash height place read.0 read.1 part is in
        let rest = more read.0 read.1 moves.0 in
        (rest.0, (drop read.1 file, begins, rest.1), rest.2)

-- blocks with nothing behind them are a block file
pub are_file : (hash : List ℕ) (height : ℕ) (blocks : List ChainBlock) (bytes rest : List ℕ) → BeginsWith hash height blocks bytes rest → IsTail rest → IsBlockFile hash height blocks bytes
are_file hash height [] bytes rest begins tail = subst IsTail (sym begins) tail
are_file hash height (b ∷ blocks) bytes rest begins tail = (begins.0, begins.1, are_file b.hash b.height blocks begins.0 rest begins.2 tail)

pub fronts_of : (file hash : List ℕ) (height : ℕ) → IsBytes (take 1_073_741_824 file) → Fronts hash height file (records_of file hash height)
fronts_of file hash height fits = fronts_from (suc (length file)) file hash height 0 fits (omega arith)

pub whole_of : (file hash : List ℕ) (height : ℕ) → IsBytes (take 1_073_741_824 file) → (records_of file hash height).fault ≡ None → IsBlockFile hash height (records_of file hash height).blocks file
whole_of file hash height fits none =
    let f = fronts_of file hash height fits in
    are_file hash height (records_of file hash height).blocks file f.0 f.1 (subst (λ (o : Option FeedFault). EndsBehind o f.0) none f.2)
