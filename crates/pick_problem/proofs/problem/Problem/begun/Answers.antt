use Rattle.std.specs.Int.{w32, w64, to_le_bytes}
use Rattle.std.proofs.Common.{◌≡◌, ℕ, [], ◌∷◌, ap, ◌∙◌}
use Rattle.pick_problem.specs.Digest.{head_bytes, kind_byte}
use Rattle.pick_problem.proofs.DigestLaws.{taken}
use Rattle.pick_problem.proofs.problem.Problem.begun.Goals as goal

pub returns : goal.returns
unfolding head_bytes
returns c =
    let p = c.args.self.now in
    let kind : c.kind_byte.result ≡ kind_byte p.kind = c.kind_byte.ensures ∙ ap kind_byte c.kind.ensures in
    let one = taken c.new-hasher.result c.update.new.self [] (c.kind_byte.result ∷ []) (kind_byte p.kind ∷ []) (ap (λ (n : ℕ). n ∷ []) kind) c.new-hasher.ensures c.update.ensures in
    let two = taken c.update.new.self c.update-2.new.self _ c.to_le_bytes.result (to_le_bytes w64 p.lo) (c.to_le_bytes.ensures ∙ ap (to_le_bytes w64) c.lo.ensures) one c.update-2.ensures in
    let three = taken c.update-2.new.self c.update-3.new.self _ c.to_le_bytes-2.result (to_le_bytes w64 p.hi) (c.to_le_bytes-2.ensures ∙ ap (to_le_bytes w64) c.hi.ensures) two c.update-3.ensures in
    let four = taken c.update-3.new.self c.update-4.new.self _ c.to_le_bytes-3.result (to_le_bytes w64 p.most_weight) (c.to_le_bytes-3.ensures ∙ ap (to_le_bytes w64) c.most_weight.ensures) three c.update-4.ensures in
    taken c.update-4.new.self c.update-5.new.self _ c.to_le_bytes-4.result (to_le_bytes w32 _) (c.to_le_bytes-4.ensures ∙ ap (to_le_bytes w32) c.count.ensures.count) four c.update-5.ensures
