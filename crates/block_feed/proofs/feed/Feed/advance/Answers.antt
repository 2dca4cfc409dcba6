use Rattle.std.proofs.Common.{◌≡◌, ℕ, ◌+◌, ◌-◌, ◌++◌, ltb, List, Option, Ok, Some, None, length, take, refl, sym, ◌∙◌, ap, subst, arith}
use Rattle.sha2.specs.declared.Sha256.{Sha256}
use Rattle.fund_base.specs.Writer.{Feeds}
use Rattle.block_feed.specs.Block.{IsLinked, height_after}
use Rattle.block_feed.specs.Digest.{HasTaken}
use Rattle.block_feed.specs.Feed.{FeedState, next_in, next_of, seen_from}
use Rattle.block_feed.specs.Parts.{IsNextAt, block_found}
use Rattle.block_feed.proofs.DigestLaws.{block_takes}
use Rattle.fund_shelf.proofs.FrameLaws.{frame_fine, frame_none, frame_passed, ok_not}
use Rattle.block_feed.proofs.FrameLaws.{feed_memory_not}
use Rattle.block_feed.proofs.NextLaws.{record_fits}
use Rattle.block_feed.proofs.feed.Feed.advance.Goals as goal

pub returns-in-Ok-Some-clause-exact : goal.returns-in-Ok-Some-clause-exact
returns-in-Ok-Some-clause-exact g c = λ told fine.
    let file : List ℕ = (g.H.Shelf.view c.args.shelf.now).files c.args.name.now in
    let len : c.len.result ≡ length c.in-Ok-Some.found.body.items = c.len.ensures ∙ c.in-Ok-Some.found.body.ok.0 in
    let given : next_in (ltb 1073741824 (length file)) (take 1073741824 file) c.self.inside.hash c.self.inside.height c.self.inside.place ≡ Ok (Some (block_found (c.in-Ok-Some.names, c.in-Ok-Some.found), c.self.inside.place + 8 + length c.in-Ok-Some.found.body.items)) = rw c.in-Ok-Some.field-0-is at (c.in-Ok-Some.ensures.gives told) in
    sym (ap (λ (f : FeedState). next_of file f) c.self.view_is) ∙ given ∙ ap (λ (n : ℕ). Ok (Some (block_found (c.in-Ok-Some.names, c.in-Ok-Some.found), c.self.inside.place + 8 + n))) (sym len)

pub returns-in-Ok-None-clause-exact : goal.returns-in-Ok-None-clause-exact
returns-in-Ok-None-clause-exact g c = λ told fine.
    let file : List ℕ = (g.H.Shelf.view c.args.shelf.now).files c.args.name.now in
    let given : next_in (ltb 1073741824 (length file)) (take 1073741824 file) c.self.inside.hash c.self.inside.height c.self.inside.place ≡ Ok None = rw c.in-Ok-None.field-0-is at (c.in-Ok-None.ensures.gives told) in
    sym (ap (λ (f : FeedState). next_of file f) c.self.view_is) ∙ given

pub returns-in-Err-clause-exact : goal.returns-in-Err-clause-exact
returns-in-Err-clause-exact g c = λ told fine memory failed.
    let file : List ℕ = (g.H.Shelf.view c.args.shelf.now).files c.args.name.now in
    sym (ap (λ (f : FeedState). next_of file f) c.self.view_is) ∙ c.in-Err.ensures.gives told memory failed

pub returns-in-Ok-Some-clause-past : goal.returns-in-Ok-Some-clause-past
returns-in-Ok-Some-clause-past g c =
    let file : List ℕ = (g.H.Shelf.view c.args.shelf.now).files c.args.name.now in
    let rest : List ℕ = seen_from file c.args.self.now.place in
    let place : c.self.inside.place ≡ c.args.self.now.place = ap (λ (f : FeedState). f.place) c.self.view_is in
    let height : c.self.inside.height ≡ c.args.self.now.height = ap (λ (f : FeedState). f.height) c.self.view_is in
    let hash : c.self.inside.hash ≡ c.args.self.now.hash = ap (λ (f : FeedState). f.hash) c.self.view_is in
    let hasher : c.self.inside.hasher ≡ c.args.self.now.hasher = ap (λ (f : FeedState). f.hasher) c.self.view_is in
    let found : IsNextAt g.H.Shelf.tells (seen_from file c.self.inside.place) c.self.inside.hash c.self.inside.height c.self.inside.place c.in-Ok-Some.names c.in-Ok-Some.found = rw c.in-Ok-Some.field-0-is at c.in-Ok-Some.ensures.found in
    let len : c.len.result ≡ length c.in-Ok-Some.found.body.items = c.len.ensures ∙ c.in-Ok-Some.found.body.ok.0 in
    let count : c.self.inside.place + 8 + c.len.result - c.args.self.now.place ≡ 8 + length c.in-Ok-Some.found.body.items = omega arith in
    let parts : g.H.Shelf.tells → c.in-Ok-Some.found.head.items ++ c.in-Ok-Some.found.body.items ≡ take (8 + length c.in-Ok-Some.found.body.items) rest =
    λ told. found.stands.bytes told ∙ ap (λ (p : ℕ). take (8 + length c.in-Ok-Some.found.body.items) (seen_from file p)) place in
    let taken : Feeds HasTaken c.args.self.now.hasher c.take_in.new.hasher c.deref.result.now = subst (λ (h : Option Sha256). Feeds HasTaken h c.take_in.new.hasher c.deref.result.now) hasher c.take_in.ensures.taken in
    let top = found.stands.within in
    record {
      linked = subst (λ (h : List ℕ). IsLinked h (height_after c.args.self.now.height) (block_found (c.in-Ok-Some.names, c.in-Ok-Some.found))) hash (subst (λ (n : ℕ). IsLinked c.self.inside.hash (height_after n) (block_found (c.in-Ok-Some.names, c.in-Ok-Some.found))) height found.linked);
      up = omega arith;
      within = omega (arith, c.len.ensures);
      bytes = λ told. record_fits rest c.in-Ok-Some.found.head.items c.in-Ok-Some.found.body.items (c.self.inside.place + 8 + c.len.result - c.args.self.now.place) (parts told) count found.stands.fits found.fits;
      taken = λ told. block_takes c.args.self.now.hasher c.take_in.new.hasher c.take_in-in-Ok-Some.new.hasher rest c.deref.result.now c.in-Ok-Some.found.head.items c.deref-in-Ok-Some.result.now c.in-Ok-Some.found.body.items (c.self.inside.place + 8 + c.len.result - c.args.self.now.place)
          c.deref.ensures.value c.deref-in-Ok-Some.ensures.value taken c.take_in-in-Ok-Some.ensures.taken (parts told) count;
    }

pub returns-in-Some-clause-frame : goal.returns-in-Some-clause-frame
returns-in-Some-clause-frame g c = frame_none _ _ _ _ (λ failed. c.self.invariant.0 cc)

pub returns-in_err-tail-clause-frame : goal.returns-in_err-tail-clause-frame
returns-in_err-tail-clause-frame g c = frame_none _ _ _ _ (feed_memory_not c.from_residual.result c.from_residual.ensures.1)

pub returns-in-Ok-Some-clause-frame : goal.returns-in-Ok-Some-clause-frame
returns-in-Ok-Some-clause-frame g c = frame_fine _ _ _ _ _ _ (ok_not _ _) (ok_not _ _) c.in-Ok-Some.ensures.frame

pub returns-in-Ok-None-clause-frame : goal.returns-in-Ok-None-clause-frame
returns-in-Ok-None-clause-frame g c = frame_fine _ _ _ _ _ _ (ok_not _ _) (ok_not _ _) c.in-Ok-None.ensures.frame

pub returns-in-Err-clause-frame : goal.returns-in-Err-clause-frame
returns-in-Err-clause-frame g c = frame_passed _ _ _ _ c.in-Err.fault _ _ refl c.in-Err.ensures.frame
