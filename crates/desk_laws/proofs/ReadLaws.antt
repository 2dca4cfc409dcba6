-- The blocks of a block file are read, and a fault is that of the bytes behind those that were.
use Rattle.std.specs.Prelude.{ℕ, suc, zero, ◌≡◌, ◌≤◌, ◌<◌, ◌+◌, ◌-◌, ◌++◌, List, [], ◌∷◌, length, nat_lt, drop, take, Option, Some, None, Result, Ok, Err}
use Rattle.std.specs.Int.{w32, to_le_bytes}
use Rattle.std.proofs.Common.{refl, sym, ap, ◌∙◌, subst, inl, inr, arith, length-append, length-drop}
use Rattle.std.proofs.lemmas.Bool.{cases_lt}
use Rattle.std.proofs.lemmas.List.Elements.{All-take}
use Rattle.block_feed.proofs.FeedLaws.{file_again, file_found, fits_from, none_file}
use Rattle.block_feed.proofs.Refusals.{next_refused}
use Rattle.block_feed.proofs.Refused.{next_there}
use Rattle.block_feed.specs.Block.{Begins, ChainBlock}
use Rattle.block_feed.specs.BlockFile.{IsBlockFile}
use Rattle.block_feed.specs.Feed.{most, next_in}
use Rattle.block_feed.specs.declared.fault.FeedFault.{FeedFault}
use Rattle.fund_base.specs.Cursor.{IsBytes}
use Rattle.fund_files.specs.Chain.{tip_behind}
use Rattle.fund_files.specs.declared.chain.Tip.{Tip}
use Rattle.desk_machine.proofs.RecordLaws.{next_records}
use Rattle.desk_machine.specs.Records.{BeginsWith, behind_block, by_next, records_from, records_of}
use Rattle.desk_laws.specs.Refused.{IsRefusedBehind}

-- ---- the blocks of a file

-- a record is longer than what stands behind it
rest_shorter : (hash : List ℕ) (height : ℕ) (b : ChainBlock) (bytes rest : List ℕ) → Begins hash height b bytes rest → length rest < length bytes
rest_shorter hash height b bytes rest begins =
    let len = ap (λ (l : List ℕ). length l) begins.parts in
    let front = length-append (to_le_bytes w32 (length begins.body)) (begins.body ++ rest) in
    let behind = length-append begins.body rest in
    omega (arith, len, front, behind)

none_from : (file hash : List ℕ) (height place : ℕ) → records_from zero file hash height place ≡ record { blocks = []; fault = None }
unfolding records_from
none_from file hash height place = refl

read_from : (n : ℕ) (file hash : List ℕ) (height place : ℕ) (blocks : List ChainBlock) → IsBlockFile hash height blocks (drop place file) → length file ≤ 1_073_741_824 → length file < n + place
    → records_from n file hash height place ≡ record { blocks = blocks; fault = None }
read_from zero file hash height place [] is fits far = none_from file hash height place
read_from zero file hash height place (b ∷ blocks) is fits far =
    let short = rest_shorter hash height b (drop place file) is.0 is.1 in
    absurd (omega (arith, far, short, length-drop place file))
read_from (suc n) file hash height place [] is fits far = next_records file hash height place n (Ok None) (none_file 1_073_741_824 file hash height place is fits)
read_from (suc n) file hash height place (b ∷ blocks) is fits far =
    let r = file_again 1_073_741_824 file hash height place b is.0 is.1 (omega (arith, fits)) in
    let short = rest_shorter hash height b (drop place file) is.0 is.1 in
    let left = ap (λ (l : List ℕ). length l) r.left in
    next_records file hash height place n (Ok (Some (b, r.behind))) r.reads
    ∙ ap (behind_block b)
    (read_from n file b.hash b.height r.behind blocks (subst (IsBlockFile b.hash b.height blocks) (sym r.left) is.2) fits (omega (arith, far, short, left, length-drop place file, length-drop r.behind file)))

pub file_read : (file hash : List ℕ) (height : ℕ) (blocks : List ChainBlock) → IsBlockFile hash height blocks file → length file ≤ 1_073_741_824 → records_of file hash height ≡ record { blocks = blocks; fault = None }
file_read file hash height blocks is fits = read_from (suc (length file)) file hash height 0 blocks is fits (omega arith)

-- ---- a fault

refused_from : (n : ℕ) (file hash : List ℕ) (height place : ℕ) (fault : FeedFault) → IsBytes file → (records_from n file hash height place).fault ≡ Some fault
    → IsRefusedBehind file (record { height = height; hash = hash }) (records_from n file hash height place).blocks (drop place file) fault
unfolding records_from
refused_from zero file hash height place fault fits e = absurd cc
refused_from (suc n) file hash height place fault fits e = by (next_in (nat_lt most (length file)) (take most file) hash height place) refl e (λ b behind. refused_from n file b.hash b.height behind fault fits)
  where
    seen : IsBytes (take 1_073_741_824 file)
    seen = All-take (λ b. b < 256) 1_073_741_824 file fits

    by : (next : Result (Option (ChainBlock × ℕ)) FeedFault) → next_in (nat_lt most (length file)) (take most file) hash height place ≡ next
        → (by_next (λ block behind. records_from n file block.hash block.height behind) next).fault ≡ Some fault
        → ((b : ChainBlock) (behind : ℕ) → (records_from n file b.hash b.height behind).fault ≡ Some fault → IsRefusedBehind file (record { height = b.height; hash = b.hash }) (records_from n file b.hash b.height behind).blocks (drop behind file) fault)
        → IsRefusedBehind file (record { height = height; hash = hash }) (by_next (λ block behind. records_from n file block.hash block.height behind) next).blocks (drop place file) fault
    by (Err f) is h more =
        let same : f ≡ fault = cc in
        record { place = place; begins = refl; there = next_refused (nat_lt most (length file)) (take most file) hash height place fault seen (is ∙ ap (λ (x : FeedFault). Err x) same) }
    by (Ok None) is h more = absurd cc
    by (Ok (Some read)) is h more =
        let rest = more read.0 read.1 h in
        let begins = file_found 1_073_741_824 file hash height place read.0 read.1 (fits_from 1_073_741_824 place (read.1 - place) file seen) is in
        record { place = rest.place; begins = (drop read.1 file, begins, rest.begins); there = rest.there }

pub file_refused : (file hash : List ℕ) (height : ℕ) (fault : FeedFault) → IsBytes file → (records_of file hash height).fault ≡ Some fault → IsRefusedBehind file (record { height = height; hash = hash }) (records_of file hash height).blocks file fault
file_refused file hash height fault fits e = refused_from (suc (length file)) file hash height 0 fault fits e

-- ---- blocks with a fault behind them

-- at a place with a fault something is left
fault_within : (file hash : List ℕ) (height place : ℕ) (fault : FeedFault) → length file ≤ 1_073_741_824 → next_in (nat_lt most (length file)) (take most file) hash height place ≡ Err fault → place < length file
fault_within file hash height place fault fits is =
    elim (cases_lt place (length file)) [
      | inl within ↦ within
      | inr past ↦ absurd (never (none_file 1_073_741_824 file hash height place (λ k d lt. let n = length-drop place file in absurd (omega (arith, past, lt, n))) fits))
    ]
  where
    never : next_in (nat_lt most (length file)) (take most file) hash height place ≡ Ok None → ⊥
    never none = absurd (cc (none, is))

with_fault : (n : ℕ) (file : List ℕ) (tip : Tip) (place : ℕ) (blocks : List ChainBlock) (last : ℕ) (fault : FeedFault) → length file ≤ 1_073_741_824 → length file < n + place → BeginsWith tip.hash tip.height blocks (drop place file) (drop last file)
    → next_in (nat_lt most (length file)) (take most file) (tip_behind tip blocks).hash (tip_behind tip blocks).height last ≡ Err fault → records_from n file tip.hash tip.height place ≡ record { blocks = blocks; fault = Some fault }
with_fault n file tip place [] last fault fits far begins is = by n far
  where
    here : place ≡ last
    here =
        let left = ap (λ (l : List ℕ). length l) begins in
        let within = fault_within file tip.hash tip.height last fault fits is in
        omega (arith, left, within, length-drop place file, length-drop last file)

    by : (n : ℕ) → length file < n + place → records_from n file tip.hash tip.height place ≡ record { blocks = []; fault = Some fault }
    by zero far = let within = fault_within file tip.hash tip.height last fault fits is in let same = here in absurd (omega (arith, far, within, same))
    by (suc m) far = next_records file tip.hash tip.height place m (Err fault) (ap (λ (at : ℕ). next_in (nat_lt most (length file)) (take most file) tip.hash tip.height at) here ∙ is)
with_fault zero file tip place (b ∷ blocks) last fault fits far begins is =
    let short = rest_shorter tip.hash tip.height b (drop place file) begins.0 begins.1 in
    absurd (omega (arith, far, short, length-drop place file))
with_fault (suc n) file tip place (b ∷ blocks) last fault fits far begins is =
    let r = file_again 1_073_741_824 file tip.hash tip.height place b begins.0 begins.1 (omega (arith, fits)) in
    let short = rest_shorter tip.hash tip.height b (drop place file) begins.0 begins.1 in
    let left = ap (λ (l : List ℕ). length l) r.left in
    next_records file tip.hash tip.height place n (Ok (Some (b, r.behind))) r.reads
    ∙ ap (behind_block b)
    (with_fault n file (record { height = b.height; hash = b.hash }) r.behind blocks last fault fits (omega (arith, far, short, left, length-drop place file, length-drop r.behind file))
    (subst (λ (l : List ℕ). BeginsWith b.hash b.height blocks l (drop last file)) (sym r.left) begins.2) is)

pub refused_read : (file hash : List ℕ) (height : ℕ) (blocks : List ChainBlock) (fault : FeedFault) → IsBytes file → length file ≤ 1_073_741_824 → IsRefusedBehind file (record { height = height; hash = hash }) blocks file fault
    → records_of file hash height ≡ record { blocks = blocks; fault = Some fault }
refused_read file hash height blocks fault bytes fits h =
    let tip : Tip = record { height = height; hash = hash } in
    let end = tip_behind tip blocks in
    with_fault (suc (length file)) file tip 0 blocks h.place fault fits (omega arith) h.begins
    (next_there (nat_lt most (length file)) (take most file) end.hash end.height h.place fault (All-take (λ b. b < 256) 1_073_741_824 file bytes) h.there)
