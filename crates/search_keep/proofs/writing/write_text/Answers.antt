use Rattle.std.proofs.Common.{sym, subst}
use Rattle.fund_base.specs.Writer.{Feeds}
use Rattle.search_keep.specs.SavedText.{PlainSaved, position_text}
use Rattle.search_keep.proofs.WrittenLaws.{feeds_saved}
use Rattle.search_keep.proofs.writing.write_text.Goals as goal

pub returns : goal.returns
returns g c =
    feeds_saved _ _ _ _ _ _ _ _ _ _ _ c.saved.view_is c.in_ok-write_version.ensures c.in_ok-write_job.ensures c.in_ok-write_number.ensures c.in_ok-write_number-2.ensures c.in_ok-write_stage.ensures
    (subst (λ (p : PlainSaved). Feeds g.W.Writer.holds c.write_stage.new.out c.write_position.new.out (position_text p)) (sym c.saved.view_is) c.in_ok-write_position.ensures) c.in_ok-write_log.ensures
