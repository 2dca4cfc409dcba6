use Rattle.std.proofs.Common.{◌≡◌, ◌∙◌, ap, ℕ, ltb, length}
use Rattle.fund_shelf.proofs.FrameLaws.{frame_fine, frame_none, frame_passed, memory_not, ok_not}
use Rattle.fund_shelf.proofs.Parts.{front_bytes, front_longer}
use Rattle.fund_shelf.proofs.pieces.read_front.Goals as goal

pub returns-clause-front : goal.returns-clause-front
returns-clause-front g c = λ told.
    let seen = c.in_ok-bytes.ensures.bytes told in
    let len : c.len.result ≡ length c.in_ok-bytes.bytes.items = c.len.ensures ∙ c.in_ok-bytes.bytes.ok.0 in
    record {
      bytes = c.truncate.ensures.items ∙ front_bytes c.args.most _ c.in_ok-bytes.bytes.items seen.front seen.enough;
      longer = ap (λ (n : ℕ). ltb c.args.most n) len ∙ front_longer c.args.most _ c.in_ok-bytes.bytes.items seen.front seen.enough;
    }

pub returns-in_err-piece-clause-frame : goal.returns-in_err-piece-clause-frame
returns-in_err-piece-clause-frame g c = frame_none _ _ _ _ (memory_not c.from_residual.result c.from_residual.ensures.1)

pub returns-in_err-bytes-clause-frame : goal.returns-in_err-bytes-clause-frame
returns-in_err-bytes-clause-frame g c = frame_passed _ _ _ _ c.in_err-bytes.field-0.0 _ c.from_residual-in_err-bytes.result c.from_residual-in_err-bytes.ensures.1 c.in_err-bytes.ensures.frame

pub returns-clause-frame : goal.returns-clause-frame
returns-clause-frame g c = frame_fine _ _ _ _ _ _ (ok_not _ _) (ok_not _ _) c.in_ok-bytes.ensures.frame
