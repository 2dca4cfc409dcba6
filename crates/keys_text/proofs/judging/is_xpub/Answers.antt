use Rattle.std.proofs.Common.{◌≡◌, subst, ◌∙◌}
use Rattle.keys_text.specs.Judging.{is_xpub}
use Rattle.keys_text.specs.PlainKeys.{PlainKeyPath}
use Rattle.keys_text.proofs.Cuts.{extended}
use Rattle.keys_text.proofs.judging.is_xpub.Goals as goal

pub returns-then-bytes-len : goal.returns-then-bytes-len
returns-then-bytes-len c =
    let k : PlainKeyPath = record { key = c.key.inside.key.items; fingerprint = c.key.inside.fingerprint; path = c.key.inside.path.items } in
    subst (λ (j : PlainKeyPath). c.is_compressed.result ≡ is_xpub j) c.key.view_is
    (extended k c.as_slice-bytes.result.now c.len.result c.is_compressed.result c.as_slice-bytes.ensures.value c.if-bytes-ne78.false c.if-bytes-len.true (c.len.ensures ∙ c.key.inside.path.ok.0) c.is_compressed.ensures)
