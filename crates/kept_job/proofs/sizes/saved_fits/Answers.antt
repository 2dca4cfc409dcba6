use Rattle.std.proofs.Common.{subst}
use Rattle.search_keep.specs.SavedText.{IsSized, PlainSaved}
use Rattle.kept_job.proofs.sizes.saved_fits.Goals as goal

pub returns : goal.returns
returns c =
    subst (λ (s : PlainSaved). IsSized s) c.saved.view_is
    (record {
      job = (c.digest_fits.ensures.length, c.digest_fits.ensures.bytes);
      log = c.log_fits.ensures;
      numbers = record {
        tries = c.counts_fit.ensures.tries;
        row = c.counts_fit.ensures.row;
        chosen = c.places_fit.ensures;
        next = c.counts_fit.ensures.next;
        best = c.best_fits.ensures;
        parts = c.counts_fit.ensures.parts;
      };
    })
