use Rattle.command_work.proofs.TextLaws.{texts_apart}
use Rattle.command_work.proofs.load_laws.texts_differ.Goals as goal

pub returns : goal.returns
returns c = texts_apart
