use Rattle.std.proofs.Common.{ℕ, Vec, vec_len, arith}
use Rattle.std.specs.declared.alloc.Global.{Global}
use Rattle.block_feed.proofs.PartLaws.{some_if}
use Rattle.block_feed.proofs.parts.room.Goals as goal

pub returns : goal.returns
returns c = some_if (λ (v : Vec ℕ Global). vec_len v) c.max.result c.vec.result (omega (arith, c.max.ensures)) c.vec.ensures.len
