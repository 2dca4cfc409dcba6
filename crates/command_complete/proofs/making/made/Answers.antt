use Rattle.std.proofs.Common.{subst, sym}
use Rattle.fund_files.specs.Chain.{HasTexts}
use Rattle.fund_payment.proofs.ParentLaws.{held_texts}
use Rattle.command_complete.proofs.making.made.Goals as goal

pub completed_file-requires : goal.completed_file-requires
completed_file-requires c = subst HasTexts (sym c.known-book.ensures) (held_texts c.args.held.now c.requires)
