use Rattle.std.proofs.Common.{◌≡◌, ◌∙◌, ap, subst, List, ℕ, refl, Ok, Err, Some, None}
use Rattle.std.proofs.lemmas.Result.{err_from_is_err_and}
use Rattle.fund_shelf.proofs.FrameLaws.{frame_fine, frame_none, frame_passed, frame_then, ok_not}
use Rattle.block_feed.specs.Block.{ChainBlock}
use Rattle.block_feed.specs.Feed.{IsEnd, next_of}
use Rattle.block_feed.proofs.FeedLaws.{file_none, gives_before}
use Rattle.wallet_text.specs.PlainWallet.{PlainWallet}
use Rattle.fund_files.proofs.DigestSteps.{taken_all, taken_more, taken_none}
use Rattle.fund_files.proofs.FeedSteps.{so_far_none, so_far_all, so_far_fault, so_far_more}
use Rattle.fund_files.proofs.blocks.read_blocks.Goals as goal

pub reading-init : goal.reading-init
reading-init g c =
    let hash = ap (λ (x : PlainWallet). x.hash) c.wallet.view_is in
    let height = ap (λ (x : PlainWallet). x.height) c.wallet.view_is in
    let starts = c.requires.starts in
    record {
      fine = starts.fault;
      frame = frame_none _ ⊥ _ _ (λ failed. failed);
      so_far = so_far_none g.H.Shelf.tells ((g.H.Shelf.view c.args.shelf.now).files c.args.name.now) c.args.wallet.now c.args.feed.now c.wallet.inside.height c.wallet.inside.hash c.args.booked starts height hash c.requires.rules.height c.requires.begun;
      keeps = λ kept k. k;
      hashing = refl;
      taken = taken_none _ ((g.H.Shelf.view c.args.shelf.now).files c.args.name.now) c.args.feed.now starts.place starts.taken;
    }

pub returns-in_err-block-clause-fault : goal.returns-in_err-block-clause-fault
returns-in_err-block-clause-fault g c = λ t.
    let p = err_from_is_err_and c.from_residual.result c.from_residual.ensures.1 in
    rw (p.1, p.2) (λ memory read.
    so_far_fault g.H.Shelf.tells _ _ _ _ _ _ t
    (subst (λ (files : List ℕ → List ℕ). next_of (files c.args.name.now) c.reading.feed ≡ Err c.in_err-block.field-0.0) (c.reading.invariant.frame.same t) (c.in_err-block.ensures.exact t c.reading.invariant.fine memory read))
    c.reading.invariant.so_far)

pub returns-in_default-clause-read : goal.returns-in_default-clause-read
returns-in_default-clause-read g c =
    let exact = rw c.in_default.is at c.in_ok-block.ensures.exact in
    let file : List ℕ = (g.H.Shelf.view c.args.shelf.now).files c.args.name.now in
    let ends : g.H.Shelf.tells → IsEnd file c.reading.feed.place = λ t.
    file_none 1_073_741_824 file c.reading.feed.hash c.reading.feed.height c.reading.feed.place
    (subst (λ (files : List ℕ → List ℕ). next_of (files c.args.name.now) c.reading.feed ≡ Ok None) (c.reading.invariant.frame.same t) (exact t c.reading.invariant.fine)) in
    so_far_all g.H.Shelf.tells _ _ _ c.reading.feed c.next_raw.new.self _
    (λ t. (ends t).0) (λ t. (ends t).1)
    c.reading.invariant.so_far

pub returns-in_default-clause-digest : goal.returns-in_default-clause-digest
returns-in_default-clause-digest g c =
    let digests = rw c.in_default.is at c.in_ok-block.ensures.digests in
    taken_all g.H.Shelf.tells _ ((g.H.Shelf.view c.reading.shelf).files c.args.name.now) c.args.feed.now c.reading.feed c.next_raw.new.self c.reading.invariant.hashing (λ t. ap (λ (files : List ℕ → List ℕ). files c.args.name.now) (c.reading.invariant.frame.same t))
    (λ t. digests t c.reading.invariant.fine) c.reading.invariant.taken

pub reading-preserved : goal.reading-preserved
reading-preserved g c =
    let e = c.in_ok-block.ensures in
    let moves = rw c.in-Some.is at e.moves in
    let linked = rw c.in-Some.is at e.linked in
    let exact = rw c.in-Some.is at e.exact in
    let within = rw c.in-Some.is at e.within in
    let bytes = rw c.in-Some.is at e.bytes in
    let digests = rw c.in-Some.is at e.digests in
    let hash = ap (λ (b : ChainBlock). b.hash) c.block.view_is in
    let height = ap (λ (b : ChainBlock). b.height) c.block.view_is in
    record {
      fine = e.fine;
      frame = frame_then _ ⊥ ⊥ _ _ _ _ (λ failed. failed) c.reading.invariant.frame (frame_fine _ _ ⊥ _ _ _ (ok_not _ _) (λ failed. failed) e.frame);
      keeps = λ kept k. c.in_default-add_block.ensures.keeps kept (c.reading.invariant.keeps kept k);
      hashing = e.asked_for ∙ c.reading.invariant.hashing;
      taken = taken_more g.H.Shelf.tells _ ((g.H.Shelf.view c.reading.shelf).files c.args.name.now) c.reading.feed c.next_raw.new.self c.in-Some.block (λ t. ap (λ (files : List ℕ → List ℕ). files c.args.name.now) (c.reading.invariant.frame.same t))
          (λ t. digests t c.reading.invariant.fine) (λ t. (within t c.reading.invariant.fine).0) c.reading.invariant.taken;
      so_far = so_far_more g.H.Shelf.tells _ _ _ _ c.reading.feed c.next_raw.new.self c.reading.booked c.add_block.new.booked c.in-Some.block _ _ linked moves (λ t. ap (λ (files : List ℕ → List ℕ). files c.args.name.now) (c.reading.invariant.frame.same t))
          (λ t. exact t c.reading.invariant.fine) (λ t. within t c.reading.invariant.fine) (λ t. gives_before 1_073_741_824 ((g.H.Shelf.view c.reading.shelf).files c.args.name.now) c.reading.feed c.next_raw.new.self (Ok (Some c.in-Some.block)) (exact t c.reading.invariant.fine) (bytes t) moves) _ _ height hash c.in_default-add_block.ensures.booked c.reading.invariant.so_far;
    }

-- ---- what is left of the shelf

pub returns-in_err-block-clause-frame : goal.returns-in_err-block-clause-frame
returns-in_err-block-clause-frame g c =
    frame_then _ ⊥ _ _ _ _ _ (λ failed. failed) c.reading.invariant.frame
    (frame_passed _ _ _ _ c.in_err-block.field-0.0 _ c.from_residual.result c.from_residual.ensures.1 c.in_err-block.ensures.frame)

pub returns-in_default-clause-frame : goal.returns-in_default-clause-frame
returns-in_default-clause-frame g c = frame_then _ ⊥ _ _ _ _ _ (λ failed. failed) c.reading.invariant.frame (frame_fine _ _ _ _ _ _ (ok_not _ _) (ok_not _ _) c.in_ok-block.ensures.frame)

pub returns-in-Err-clause-frame : goal.returns-in-Err-clause-frame
returns-in-Err-clause-frame g c = frame_then _ ⊥ _ _ _ _ _ (λ failed. failed) c.reading.invariant.frame (frame_fine _ _ _ _ _ _ (ok_not _ _) (λ is. absurd cc) c.in_ok-block.ensures.frame)

pub returns-clause-frame : goal.returns-clause-frame
returns-clause-frame g c = frame_fine _ ⊥ _ _ _ _ (λ failed. failed) (λ is. absurd cc) c.reading.invariant.frame
