use Rattle.std.proofs.Common.{◌≡◌, ◌∙◌, Some, None, ap, subst, sym}
use Rattle.fund_plan.proofs.SavedLaws.{saved_where_open}
use Rattle.search_keep.specs.SavedText.{CanBeSaved, IsSavedText, PlainSaved, text_of}
use Rattle.kept_job.proofs.SavingLaws.{can_with}
use Rattle.kept_job.specs.Jobs.{with_log}
use Rattle.kept_job.proofs.saving.saved_text.Goals as goal

pub unreachable-requires : goal.unreachable-requires
unreachable-requires c =
    let some = (saved_where_open c.args.plan.now c.args.digest c.args.parts).0 c.requires.unfinished in
    let e : None ≡ Some some.0 = sym c.in-None.is ∙ (c.in_ok-saved.ensures ∙ some.1) in
    absurd (cc)

pub returns : goal.returns
returns c =
    let saves = sym c.in_ok-saved.ensures ∙ c.in-Some.is in
    let same = ap (λ (s : PlainSaved). with_log s c.args.log) c.saved-in-Some.view_is in
    record {
      saved = c.in-Some.saved;
      saves = saves;
      text_is = c.in_ok-text-in-Some.ensures.text ∙ ap text_of same;
      reads =
          subst (λ (s : PlainSaved). IsSavedText c.in_ok-text-in-Some.text.items s) same
          (c.in_ok-text-in-Some.ensures.means
          (subst CanBeSaved (sym same) (can_with c.in-Some.saved c.args.log (c.requires.text c.args.digest c.in-Some.saved saves)))
          c.saved_fits.ensures);
    }
