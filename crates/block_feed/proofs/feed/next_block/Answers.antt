use Rattle.std.proofs.Common.{◌≡◌, ℕ, Bool, ltb, List, Option, length, map, take, Ok, None, sym, ◌∙◌, ap, subst, arith}
use Rattle.std.specs.Prelude.{IfSome, option_map}
use Rattle.fund_base.specs.Cursor.{IsBytes}
use Rattle.tx_codec.specs.Txid.{txid_of}
use Rattle.block_feed.specs.Block.{ChainBlock, IsLinked, height_after}
use Rattle.block_feed.specs.Feed.{next_in, seen_from}
use Rattle.block_feed.specs.Parts.{StandsAt, behind_record, block_found, body_in}
use Rattle.block_feed.specs.Reading.{block_at, record_at}
use Rattle.block_feed.specs.declared.records.Record.{Record}
use Rattle.block_feed.proofs.BlockLaws.{start}
use Rattle.fund_shelf.proofs.FrameLaws.{frame_fine, frame_none, frame_passed, frame_then, ok_not}
use Rattle.block_feed.proofs.NameLaws.{held_same}
use Rattle.block_feed.proofs.NextLaws.{block_there, fault_exit, next_end, next_fault, next_given, next_refusal}
use Rattle.block_feed.proofs.feed.next_block.Goals as goal

-- ---- what was found

pub returns-in_err-found-clause-gives : goal.returns-in_err-found-clause-gives
returns-in_err-found-clause-gives g c = λ told.
    let file : List ℕ = (g.H.Shelf.view c.args.shelf.now).files c.args.name.now in
    let longer : Bool = ltb 1073741824 (length file) in
    fault_exit c.in_err-found.field-0.0 c.from_residual.result (record_at longer c.args.place (seen_from file c.args.place)) (next_in longer (take 1073741824 file) c.args.hash.now c.args.height c.args.place) (λ o. option_map body_in o) (λ o. option_map (behind_record c.args.place) o) c.from_residual.ensures.1
    (c.in_err-found.ensures.gives told)
    (λ d e. next_fault longer (take 1073741824 file) c.args.hash.now c.args.height c.args.place d e)

pub returns-in_default-clause-gives : goal.returns-in_default-clause-gives
returns-in_default-clause-gives g c = λ told.
    let file : List ℕ = (g.H.Shelf.view c.args.shelf.now).files c.args.name.now in
    let longer : Bool = ltb 1073741824 (length file) in
    let none : c.in_ok-found.field-0 ≡ None = first_of (cc, grind (arith)) in
    next_end longer (take 1073741824 file) c.args.hash.now c.args.height c.args.place (c.in_ok-found.ensures.gives told ∙ ap (λ (o : Option Record). Ok (option_map body_in o)) none)

pub returns-in_err-names-clause-gives : goal.returns-in_err-names-clause-gives
returns-in_err-names-clause-gives g c = λ told.
    let file : List ℕ = (g.H.Shelf.view c.args.shelf.now).files c.args.name.now in
    let longer : Bool = ltb 1073741824 (length file) in
    let body : List ℕ = c.in-Some.found.body.items in
    let same = block_there c.args.hash.now c.height_after.result (height_after c.args.height) c.deref.result.now body c.height_after.ensures c.deref.ensures.value in
    fault_exit c.in_err-names.field-0.0 c.from_residual-in_err-names.result (block_at c.args.hash.now c.height_after.result (start c.deref.result.now)) (next_in longer (take 1073741824 file) c.args.hash.now c.args.height c.args.place) (λ b. b) (λ o. option_map (behind_record c.args.place) o) c.from_residual-in_err-names.ensures.1
    (λ memory failed. c.in_err-names.ensures.gives memory)
    (λ d e. next_refusal longer (take 1073741824 file) c.args.hash.now c.args.height c.args.place body d (c.in_ok-found.ensures.gives told ∙ ap (λ (o : Option Record). Ok (option_map body_in o)) c.in-Some.is) (sym same ∙ e))

pub returns-clause-gives : goal.returns-clause-gives
returns-clause-gives g c = λ told.
    let file : List ℕ = (g.H.Shelf.view c.args.shelf.now).files c.args.name.now in
    let longer : Bool = ltb 1073741824 (length file) in
    let body : List ℕ = c.in-Some.found.body.items in
    let same = block_there c.args.hash.now c.height_after.result (height_after c.args.height) c.deref.result.now body c.height_after.ensures c.deref.ensures.value in
    let held = held_same c.height_after.result c.in_ok-names.names.height c.in_ok-names.names.hash c.deref.result.now body (sym c.in_ok-names.ensures.height) c.deref.ensures.value in
    next_given longer (take 1073741824 file) c.args.hash.now c.args.height c.args.place body _ (c.in_ok-found.ensures.gives told ∙ ap (λ (o : Option Record). Ok (option_map body_in o)) c.in-Some.is) (sym same ∙ c.in_ok-names.ensures.gives ∙ ap (λ (b : ChainBlock). Ok b) held)

pub returns-clause-found : goal.returns-clause-found
returns-clause-found g c =
    let rest : List ℕ = seen_from ((g.H.Shelf.view c.args.shelf.now).files c.args.name.now) c.args.place in
    let body : List ℕ = c.in-Some.found.body.items in
    let held = held_same c.height_after.result c.in_ok-names.names.height c.in_ok-names.names.hash c.deref.result.now body (sym c.in_ok-names.ensures.height) c.deref.ensures.value in
    let linked : IsLinked c.args.hash.now c.height_after.result (block_found (c.in_ok-names.names, c.in-Some.found)) = subst (λ (b : ChainBlock). IsLinked c.args.hash.now c.height_after.result b) held c.in_ok-names.ensures.linked in
    record {
      stands = subst (λ (o : Option Record). IfSome o (StandsAt g.H.Shelf.tells rest c.args.place)) c.in-Some.is c.in_ok-found.ensures.stands;
      fits = subst (λ (l : List ℕ). IsBytes l) c.deref.ensures.value c.in_ok-names.ensures.bytes;
      height_is = c.in_ok-names.ensures.height ∙ c.height_after.ensures;
      linked = subst (λ (n : ℕ). IsLinked c.args.hash.now n (block_found (c.in_ok-names.names, c.in-Some.found))) c.height_after.ensures linked;
      txids = c.in_ok-names.ensures.txids ∙ ap (λ (b : ChainBlock). map txid_of b.txs) held;
    }

-- ---- what it leaves of the shelf

pub returns-in_err-found-clause-frame : goal.returns-in_err-found-clause-frame
returns-in_err-found-clause-frame g c = frame_passed _ _ _ _ c.in_err-found.field-0.0 _ c.from_residual.result c.from_residual.ensures.1 c.in_err-found.ensures.frame

pub returns-in_default-clause-frame : goal.returns-in_default-clause-frame
returns-in_default-clause-frame g c = frame_fine _ _ _ _ _ _ (ok_not _ _) (ok_not _ _) c.in_ok-found.ensures.frame

pub returns-in_err-names-clause-frame : goal.returns-in_err-names-clause-frame
returns-in_err-names-clause-frame g c =
    frame_then _ _ _ _ _ _ _ (ok_not _ _) c.in_ok-found.ensures.frame
    (frame_passed _ _ _ _ c.in_err-names.field-0.0 _ c.from_residual-in_err-names.result c.from_residual-in_err-names.ensures.1 (frame_none _ _ _ _ c.in_err-names.ensures.never_read))

pub returns-clause-frame : goal.returns-clause-frame
returns-clause-frame g c = frame_fine _ _ _ _ _ _ (ok_not _ _) (ok_not _ _) c.in_ok-found.ensures.frame
