use Rattle.std.specs.Prelude.{ℕ, ◌≡◌, ◌≤◌, List, Some, None, Ok, Err, codes, length}
use Rattle.std.proofs.Common.{ap, refl, subst, ◌∙◌}
use Rattle.block_feed.specs.Feed.{next_of}
use Rattle.block_feed.proofs.Limits.{gives_limit}
use Rattle.fund_files.specs.declared.chain.Chain.{Chain}
use Rattle.desk_machine.proofs.RecordLaws.{so_far_more, so_far_none}
use Rattle.desk_chain.proofs.BlockLaws.{any_err, book_ends, bytes_end, never_limit, never_rose, none_added, on_ends, own_of, part_added, reply_of, tip_ends}
use Rattle.desk_chain.proofs.records.add_blocks.Goals as goal

pub returns-in_err-shelf-clause-memory : goal.returns-in_err-shelf-clause-memory
returns-in_err-shelf-clause-memory c = any_err c.from_residual.result _ (none_added c.args.bytes.now c.args.held.now)

pub reading-init : goal.reading-init
reading-init c =
    let k = c.args.held.now in
    rw (c.new-feed.ensures, ap (λ (x : Chain). x.tip.hash) c.held.view_is, ap (λ (x : Chain). x.tip.height) c.held.view_is) (record {
      held = c.requires.held;
      file = c.in_ok-shelf.ensures;
      fine = refl;
      wallet = refl;
      so_far = so_far_none c.args.bytes.now k (record { hash = k.tip.hash; height = k.tip.height; place = 0; fault = None; hasher = None; digest = None }) refl refl refl;
    })

pub returns-in-Ok-None-clause-reply : goal.returns-in-Ok-None-clause-reply
returns-in-Ok-None-clause-reply c =
    let i = c.reading.invariant in
    let exact = rw c.in-Ok-None.field-0-is at c.in-Ok-None.ensures.exact in
    rw (ap (λ (x : Chain). x.tip.height) c.held-in-reading.view_is, ap (λ (x : Chain). x.tip.hash) c.held-in-reading.view_is)
    (tip_ends c.args.bytes.now c.args.held.now c.reading.held c.reading.feed i.so_far (subst (λ (file : List ℕ). next_of file c.reading.feed ≡ Ok None) i.file (exact tt i.fine))).reply

pub returns-in-Ok-None-clause-next : goal.returns-in-Ok-None-clause-next
returns-in-Ok-None-clause-next c =
    let i = c.reading.invariant in
    let exact = rw c.in-Ok-None.field-0-is at c.in-Ok-None.ensures.exact in
    (tip_ends c.args.bytes.now c.args.held.now c.reading.held c.reading.feed i.so_far (subst (λ (file : List ℕ). next_of file c.reading.feed ≡ Ok None) i.file (exact tt i.fine))).next

pub returns-in-Err-clause-reply : goal.returns-in-Err-clause-reply
returns-in-Err-clause-reply c =
    let i = c.reading.invariant in
    let e = c.in-Err.fault in
    reply_of c.args.bytes.now c.args.held.now c.reading.held c.refuse_bytes.result
    (bytes_end c.args.bytes.now c.args.held.now c.reading.held c.reading.feed e c.refuse_bytes.result i.so_far (λ memory read. subst (λ (file : List ℕ). next_of file c.reading.feed ≡ Err e) i.file (c.in-Err.ensures.exact tt i.fine memory read))
    (λ same. never_rose (c.in-Err.ensures.frame.cause (cc))) (λ same. never_limit c.args.bytes.now c.args.bytes.now refl c.requires.fits (gives_limit 1_073_741_824 c.args.bytes.now c.reading.feed c.next.new.self (Err e) (λ memory read. subst (λ (file : List ℕ). next_of file c.reading.feed ≡ Err e) i.file (c.in-Err.ensures.exact tt i.fine memory read)) (cc))) c.refuse_bytes.ensures.reply)

pub returns-in-Err-clause-own : goal.returns-in-Err-clause-own
returns-in-Err-clause-own c =
    let i = c.reading.invariant in
    let e = c.in-Err.fault in
    own_of c.args.bytes.now c.args.held.now c.reading.held c.refuse_bytes.result
    (bytes_end c.args.bytes.now c.args.held.now c.reading.held c.reading.feed e c.refuse_bytes.result i.so_far (λ memory read. subst (λ (file : List ℕ). next_of file c.reading.feed ≡ Err e) i.file (c.in-Err.ensures.exact tt i.fine memory read))
    (λ same. never_rose (c.in-Err.ensures.frame.cause (cc))) (λ same. never_limit c.args.bytes.now c.args.bytes.now refl c.requires.fits (gives_limit 1_073_741_824 c.args.bytes.now c.reading.feed c.next.new.self (Err e) (λ memory read. subst (λ (file : List ℕ). next_of file c.reading.feed ≡ Err e) i.file (c.in-Err.ensures.exact tt i.fine memory read)) (cc))) c.refuse_bytes.ensures.reply)

pub returns-in-Err-clause-next : goal.returns-in-Err-clause-next
returns-in-Err-clause-next c =
    let i = c.reading.invariant in
    let e = c.in-Err.fault in
    on_ends c.args.bytes.now c.args.held.now c.reading.held c.refuse_bytes.result
    (bytes_end c.args.bytes.now c.args.held.now c.reading.held c.reading.feed e c.refuse_bytes.result i.so_far (λ memory read. subst (λ (file : List ℕ). next_of file c.reading.feed ≡ Err e) i.file (c.in-Err.ensures.exact tt i.fine memory read))
    (λ same. never_rose (c.in-Err.ensures.frame.cause (cc))) (λ same. never_limit c.args.bytes.now c.args.bytes.now refl c.requires.fits (gives_limit 1_073_741_824 c.args.bytes.now c.reading.feed c.next.new.self (Err e) (λ memory read. subst (λ (file : List ℕ). next_of file c.reading.feed ≡ Err e) i.file (c.in-Err.ensures.exact tt i.fine memory read)) (cc))) c.refuse_bytes.ensures.reply)

pub returns-in-Err-clause-memory : goal.returns-in-Err-clause-memory
returns-in-Err-clause-memory c = any_err c.refuse_bytes.result _ (part_added c.args.bytes.now c.args.held.now c.reading.held c.reading.held c.reading.feed c.reading.invariant.so_far refl)

pub returns-in-Err-add_block-clause-reply : goal.returns-in-Err-add_block-clause-reply
returns-in-Err-add_block-clause-reply c =
    let i = c.reading.invariant in
    let b = c.in-Ok-Some.block in
    let exact = rw c.in-Ok-Some.field-0-is at c.in-Ok-Some.ensures.exact in
    reply_of c.args.bytes.now c.args.held.now c.add_block.new.held c.refuse_book.result
    (book_ends c.args.bytes.now c.args.held.now c.reading.held c.add_block.new.held c.reading.feed b c.next.new.self.place c.in-Err-add_block.fault c.refuse_book.result i.so_far c.in-Err-add_block.ensures.kept
    (subst (λ (file : List ℕ). next_of file c.reading.feed ≡ Ok (Some (b, c.next.new.self.place))) i.file (exact tt i.fine)) c.in-Err-add_block.ensures.exact c.refuse_book.ensures.reply)

pub returns-in-Err-add_block-clause-next : goal.returns-in-Err-add_block-clause-next
returns-in-Err-add_block-clause-next c =
    let i = c.reading.invariant in
    let b = c.in-Ok-Some.block in
    let exact = rw c.in-Ok-Some.field-0-is at c.in-Ok-Some.ensures.exact in
    on_ends c.args.bytes.now c.args.held.now c.add_block.new.held c.refuse_book.result
    (book_ends c.args.bytes.now c.args.held.now c.reading.held c.add_block.new.held c.reading.feed b c.next.new.self.place c.in-Err-add_block.fault c.refuse_book.result i.so_far c.in-Err-add_block.ensures.kept
    (subst (λ (file : List ℕ). next_of file c.reading.feed ≡ Ok (Some (b, c.next.new.self.place))) i.file (exact tt i.fine)) c.in-Err-add_block.ensures.exact c.refuse_book.ensures.reply)

pub returns-in-Err-add_block-clause-memory : goal.returns-in-Err-add_block-clause-memory
returns-in-Err-add_block-clause-memory c = any_err c.refuse_book.result _ (part_added c.args.bytes.now c.args.held.now c.reading.held c.add_block.new.held c.reading.feed c.reading.invariant.so_far c.in-Err-add_block.ensures.kept)

pub reading-preserved : goal.reading-preserved
reading-preserved c =
    let i = c.reading.invariant in
    let b = c.in-Ok-Some.block in
    let e = c.in-Ok-Some.ensures in
    let exact = rw c.in-Ok-Some.field-0-is at e.exact in
    let within = rw c.in-Ok-Some.field-0-is at e.within in
    let moves = rw c.in-Ok-Some.field-0-is at e.moves in
    record {
      held = c.in-Ok.ensures.held;
      file = ap (λ (files : List ℕ → List ℕ). files (codes "blocks")) (e.frame.same tt) ∙ i.file;
      fine = e.fine;
      wallet = ap (λ (k : Chain). k.wallet) c.in-Ok.ensures.added ∙ i.wallet;
      so_far = so_far_more c.args.bytes.now c.args.held.now c.reading.held c.add_block.new.held c.reading.feed c.next.new.self b i.so_far
          (subst (λ (file : List ℕ). next_of file c.reading.feed ≡ Ok (Some (b, c.next.new.self.place))) i.file (exact tt i.fine)) (within tt i.fine).0 (subst (λ (file : List ℕ). c.next.new.self.place ≤ length file) i.file (within tt i.fine).1) moves.1
          moves.2 c.in-Ok.ensures.exact c.in-Ok.ensures.added;
    }
