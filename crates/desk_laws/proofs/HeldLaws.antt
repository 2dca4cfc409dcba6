-- The wallet and its chain keep their rules through all commands.
use Rattle.std.specs.Prelude.{ℕ, ◌≡◌, ◌<◌, List, [], ◌∷◌, All, Bool, true, false, Option, None, Some, Result, Ok, Err, length, nat_le}
use Rattle.std.specs.List.{list_any}
use Rattle.std.proofs.Common.{refl, sym, ap, ◌∙◌, subst, inl, inr, arith, cond}
use Rattle.std.proofs.lemmas.List.{get_or_default}
use Rattle.std.proofs.lemmas.List.Elements.{All-cons, All-head, All-nil, All-tail, All-take}
use Rattle.hex.proofs.HexLemmas.{decode_of-ok}
use Rattle.hex.specs.Hex.{decode_of}
use Rattle.hex.specs.declared.error.FromHexError.{FromHexError}
use Rattle.block_feed.specs.Block.{ChainBlock}
use Rattle.block_feed.specs.declared.fault.FeedFault.{FeedFault}
use Rattle.coin_book.specs.Faults.{fault_of}
use Rattle.coin_book.specs.History as histories
use Rattle.coin_book.specs.declared.fault.BookFault.{BookFault}
use Rattle.fund_base.proofs.Laws.{whole_takes}
use Rattle.fund_base.specs.Cursor.{IsBytes}
use Rattle.coin_candidates.specs.declared.candidate.Candidate.{Candidate}
use Rattle.desk_chain.proofs.ChainLaws.{held_block, held_pending}
use Rattle.fund_files.specs.declared.chain.Chain.{Chain}
use Rattle.fund_plan.specs.Selection.{PlainFunded}
use Rattle.fund_steps.specs.Plan.{PlainPlan}
use Rattle.tx_codec.proofs.Laws.{tx_reads}
use Rattle.tx_codec.specs.Reading.{tx_at}
use Rattle.tx_codec.specs.Transaction.{Transaction}
use Rattle.tx_codec.specs.TransactionText.{IsTransaction, text_of}
use Rattle.tx_codec.specs.Txid.{txid_of}
use Rattle.tx_codec.specs.declared.fault.TxFault.{TxFault}
use Rattle.tx_codec.specs.declared.fault.TxFault.TheVariants.{Trailing}
use Rattle.desk_machine.proofs.FrontLaws.{fronts_of}
use Rattle.desk_machine.specs.Commands.{Command, Open, Turn, Commit, Close, Release, Blocks, Pending}
use Rattle.desk_machine.specs.Does.{Does}
use Rattle.desk_machine.specs.Machine.{add_blocks, add_pending, blocks_end, by_book, by_funded, by_plan, by_taken, close_step, commit_by, commit_step, funded_of, has_txid, is_later, is_repeat, open_step, pending_by_book, pending_by_hex, pending_by_tx, plan_for, refused_at, release_step, stay, taken_at, turn_step, whole_tx, with_block, with_committed, with_jobs, without_payment}
use Rattle.desk_machine.specs.Records.{BeginsWith, records_of}
use Rattle.desk_machine.specs.Replies.{Reply, Refusal, AllOpen, Closed, ComesLater, NoJob, NotCommitted, Released, Repeats, TakenName}
use Rattle.desk_machine.specs.State.{Job, PlainDesk, has_job, job_at, without_job}
use Rattle.desk_laws.specs.Claimed.{HasBytes, IsBooked}

-- ---- blocks

-- a block that a book can take
record IsGood (b : ChainBlock) : Type 0 where
  texts : All IsTransaction b.txs
  height : b.height < 4294967295

begun_good : (hash : List ℕ) (height : ℕ) (blocks : List ChainBlock) (bytes rest : List ℕ) → BeginsWith hash height blocks bytes rest → All IsGood blocks
begun_good hash height [] bytes rest h = All-nil IsGood
begun_good hash height (b ∷ blocks) bytes rest h =
    let is = h.1.is_block in
    let low = is.height_is in
    All-cons IsGood b blocks (record { texts = is.each; height = omega (arith, low) }) (begun_good b.hash b.height blocks h.0 rest h.2)

read_good : (file hash : List ℕ) (height : ℕ) → IsBytes file → All IsGood (records_of file hash height).blocks
read_good file hash height fits =
    let f = fronts_of file hash height (All-take (λ b. b < 256) 1_073_741_824 file fits) in
    begun_good hash height (records_of file hash height).blocks file f.0 f.1

blocks_booked : (k : Chain) (blocks : List ChainBlock) (fault : Option FeedFault) → IsBooked k → All IsGood blocks → IsBooked (add_blocks k blocks fault).held
unfolding add_blocks
blocks_booked k [] fault h good = by fault
  where
    by : (o : Option FeedFault) → IsBooked (blocks_end k o).held
    by None = h
    by (Some f) = h
blocks_booked k (b ∷ blocks) fault h good = by (fault_of (histories.with_block k.book b)) refl (λ sound. blocks_booked (with_block k b) blocks fault (more sound) (All-tail IsGood b blocks good))
  where
    more : fault_of (histories.with_block k.book b) ≡ None → IsBooked (with_block k b)
    more sound = let g = All-head IsGood b blocks good in record { held = held_block k b h.held g.texts g.height; sound = sound }

    by : (o : Option BookFault) → fault_of (histories.with_block k.book b) ≡ o → (fault_of (histories.with_block k.book b) ≡ None → IsBooked (add_blocks (with_block k b) blocks fault).held) → IsBooked (by_book k o (add_blocks (with_block k b) blocks fault)).held
    by (Some f) is rest = h
    by None is rest = rest is

-- ---- a transaction that waits

hex_bytes : (hex bytes : List ℕ) → decode_of hex ≡ Ok bytes → IsBytes bytes
hex_bytes hex bytes e = λ k d lt. subst (λ b. b < 256) (get_or_default bytes k 0 d lt) ((decode_of-ok hex bytes e).3 k)

pending_booked : (k : Chain) (hex : List ℕ) → IsBooked k → IsBooked (add_pending k hex).held
unfolding add_pending
pending_booked k hex h = by_hex (decode_of hex) refl
  where
    by_fault : (t : Transaction) (o : Option BookFault) → fault_of (histories.with_pending k.book t) ≡ o → IsTransaction t → is_repeat k.wallet.pending (txid_of t) ≡ false → is_later k.wallet.pending t ≡ false → IsBooked (pending_by_book k t o).held
    by_fault t (Some f) is text fresh first = h
    by_fault t None is text fresh first = record { held = held_pending k t h.held text fresh first; sound = is }

    by_rules : (t : Transaction) (a b : Bool) → is_repeat k.wallet.pending (txid_of t) ≡ a → is_later k.wallet.pending t ≡ b → IsTransaction t
        → IsBooked (cond a (refused_at k Repeats) (cond b (refused_at k ComesLater) (pending_by_book k t (fault_of (histories.with_pending k.book t))))).held
    by_rules t true b x y text = h
    by_rules t false true x y text = h
    by_rules t false false x y text = by_fault t (fault_of (histories.with_pending k.book t)) refl text x y

    by_tx : (bytes : List ℕ) → IsBytes bytes → (r : Result Transaction TxFault) → whole_tx bytes ≡ r → IsBooked (pending_by_tx k r).held
    by_tx bytes fits (Err f) is = h
    by_tx bytes fits (Ok t) is =
        by_rules t (is_repeat k.wallet.pending (txid_of t)) (is_later k.wallet.pending t) refl refl
        (whole_takes Trailing tx_at text_of IsTransaction tx_reads (record { rest = bytes; place = 0 }) t fits is).0

    by_hex : (r : Result (List ℕ) FromHexError) → decode_of hex ≡ r → IsBooked (pending_by_hex k r).held
    by_hex (Err e) is = h
    by_hex (Ok bytes) is = by_tx bytes (hex_bytes hex bytes is) (whole_tx bytes) refl

-- ---- commands that leave it

open_held : (d : PlainDesk) (name request : List ℕ) → (open_step d name request).next.held ≡ d.held
unfolding open_step
open_held d name request = by (has_job d.jobs name) (nat_le 64 (length d.jobs)) (plan_for d request)
  where
    by : (a b : Bool) (p : Result PlainPlan Refusal) → (cond a (stay d TakenName) (cond b (stay d AllOpen) (by_plan d name p))).next.held ≡ d.held
    by true b p = refl
    by false true p = refl
    by false false (Err refusal) = refl
    by false false (Ok p) = refl

turn_held : (d : PlainDesk) (name : List ℕ) (n : ℕ) → (turn_step d name n).next.held ≡ d.held
unfolding turn_step
turn_held d name n = refl

commit_held : (d : PlainDesk) (name : List ℕ) → (commit_step d name).next.held ≡ d.held
unfolding commit_step
commit_held d name = by_job (job_at d.jobs name)
  where
    by_coin : (i : Job) (f : PlainFunded) (o : Option Candidate) → (by_taken d name i f o).next.held ≡ d.held
    by_coin i f (Some c) = refl
    by_coin i f None = refl

    by_payment : (i : Job) (o : Option PlainFunded) → (by_funded d name i o).next.held ≡ d.held
    by_payment i None = refl
    by_payment i (Some f) = by_coin i f (taken_at d i f)

    by_job : (o : Option Job) → (commit_by d name o).next.held ≡ d.held
    by_job None = refl
    by_job (Some i) = by_payment i (funded_of i.answer)

close_held : (d : PlainDesk) (name : List ℕ) → (close_step d name).next.held ≡ d.held
unfolding close_step
close_held d name = by (has_job d.jobs name)
  where
    by : (b : Bool) → (cond b (record { reply = Closed; next = with_jobs d (without_job name d.jobs) }) (stay d NoJob)).next.held ≡ d.held
    by true = refl
    by false = refl

release_held : (d : PlainDesk) (txid : List ℕ) → (release_step d txid).next.held ≡ d.held
unfolding release_step
release_held d txid = by (list_any (has_txid txid) d.committed)
  where
    by : (b : Bool) → (cond b (record { reply = Released; next = with_committed d (without_payment txid d.committed) }) (stay d NotCommitted)).next.held ≡ d.held
    by true = refl
    by false = refl

-- ---- any

pub one_booked : (d new : PlainDesk) (c : Command) (reply : Reply) → Does d c reply new → HasBytes c → IsBooked d.held → IsBooked new.held
one_booked d new c reply does bytes h = by c does bytes
  where
    from : new.held ≡ d.held → IsBooked new.held
    from is = subst IsBooked (sym is) h

    held : PlainDesk → Chain
    held x = x.held

    by : (c : Command) → Does d c reply new → HasBytes c → IsBooked new.held
    by (Open name request) (inl s) b = from (ap held s.next_is ∙ open_held d name request)
    by (Open name request) (inr s) b = from (ap held s.leaves)
    by (Turn name n) (inl s) b = from (ap held s.next_is ∙ turn_held d name n)
    by (Turn name n) (inr s) b = from (ap held s.leaves.2)
    by (Commit name) (inl s) b = from (ap held s.next_is ∙ commit_held d name)
    by (Commit name) (inr s) b = from (ap held s.leaves)
    by (Close name) (inl s) b = from (ap held s.next_is ∙ close_held d name)
    by (Close name) (inr s) b = from (ap held s.leaves)
    by (Release txid) (inl s) b = from (ap held s.next_is ∙ release_held d txid)
    by (Release txid) (inr s) b = from (ap held s.leaves)
    by (Blocks file) (inl s) b = subst IsBooked (sym (ap held s.next_is)) (blocks_booked d.held _ _ h (read_good file d.held.tip.hash d.held.tip.height b))
    by (Blocks file) (inr s) b =
        subst IsBooked (sym (ap held s.leaves.1))
        (blocks_booked d.held _ None h (All-take IsGood s.leaves.0 (records_of file d.held.tip.hash d.held.tip.height).blocks (read_good file d.held.tip.hash d.held.tip.height b)))
    by (Pending hex) (inl s) b = subst IsBooked (sym (ap held s.next_is)) (pending_booked d.held hex h)
    by (Pending hex) (inr s) b = from (ap held s.leaves)
