use Rattle.fund_shelf.proofs.FrameLaws.{frame_fine, frame_none, frame_read, frame_same, frame_then, memory_not, ok_not, short_not}
use Rattle.fund_files.proofs.first_pass.look_in_file.Goals as goal

pub reading-init : goal.reading-init
reading-init g c = frame_none _ ⊥ _ _ (λ failed. failed)

pub reading-preserved : goal.reading-preserved
reading-preserved g c =
    let e = c.in_ok-read.ensures in
    frame_then _ ⊥ ⊥ _ _ _ _ (λ failed. failed) c.reading.invariant (frame_same _ ⊥ _ _ _ (λ failed. failed) e.same e.unfailed e.writes e.asked)

pub returns-in_err-read : goal.returns-in_err-read
returns-in_err-read g c =
    let e = c.in_err-read.ensures in
    record {
      frame = frame_then _ ⊥ _ _ _ _ _ (λ failed. failed) c.reading.invariant (frame_read _ _ _ _ c.in_err-read.field-0.0 c.from_residual.result c.from_residual.ensures.1 e.same e.reads e.writes e.cause e.short e.asked);
    }

pub returns-then-read-eq0 : goal.returns-then-read-eq0
returns-then-read-eq0 g c =
    let e = c.in_ok-read.ensures in
    record { frame = frame_then _ ⊥ _ _ _ _ _ (λ failed. failed) c.reading.invariant (frame_same _ _ _ _ _ (ok_not _ _) e.same e.unfailed e.writes e.asked) }

pub returns-in_err-extend_from_slice : goal.returns-in_err-extend_from_slice
returns-in_err-extend_from_slice g c =
    let e = c.in_ok-read.ensures in
    record {
      frame = frame_then _ ⊥ _ _ _ _ _ (λ failed. failed) c.reading.invariant
          (frame_same _ _ _ _ _ (memory_not c.from_residual-in_err-extend_from_slice.result c.from_residual-in_err-extend_from_slice.ensures.1) e.same e.unfailed e.writes e.asked);
    }

pub returns-in-Ok-false : goal.returns-in-Ok-false
returns-in-Ok-false g c =
    let e = c.in_ok-read.ensures in
    record { frame = frame_then _ ⊥ _ _ _ _ _ (λ failed. failed) c.reading.invariant (frame_same _ _ _ _ _ (ok_not _ _) e.same e.unfailed e.writes e.asked) }

pub returns-in-Err : goal.returns-in-Err
returns-in-Err g c =
    let e = c.in_ok-read.ensures in
    record { frame = frame_then _ ⊥ _ _ _ _ _ (λ failed. failed) c.reading.invariant (frame_same _ _ _ _ _ short_not e.same e.unfailed e.writes e.asked) }

pub returns : goal.returns
returns g c = record { frame = frame_fine _ ⊥ _ _ _ _ (λ failed. failed) (ok_not _ _) c.reading.invariant }
