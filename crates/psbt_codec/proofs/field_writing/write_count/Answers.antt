use Rattle.std.proofs.Common.{◌≡◌, ◌∙◌, ◌++◌, List, ℕ, [], subst}
use Rattle.std.specs.Prelude.{OnOk}
use Rattle.fund_base.specs.CompactSize.{compact}
use Rattle.psbt_codec.specs.Psbt.{pair_text, typed}
use Rattle.psbt_codec.proofs.field_writing.write_count.Goals as goal

pub returns : goal.returns
returns c =
    let same : c.deref.result.now ≡ compact c.args.number = c.deref.ensures.value ∙ c.in_ok-write_compact.ensures.feeds [] c.new-value.ensures.items in
    subst (λ (l : List ℕ). OnOk c.write_typed.result (c.write_typed.new.out.items ≡ c.args.out.now.items ++ pair_text (typed c.args.kind l))) same c.write_typed.ensures
