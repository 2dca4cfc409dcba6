use Rattle.command_complete.proofs.TextLaws.{written_spelled}
use Rattle.command_complete.proofs.making.text_of.Goals as goal

pub returns : goal.returns
returns c =
    written_spelled c.in_ok-text.text.items c.in_ok-bytes.bytes.items c.args.version c.args.psbt.now c.requires.psbt c.requires.version (rw c.deref.ensures.value at c.are_bytes.ensures.bytes) c.in_ok-bytes.ensures.text c.in_ok-bytes.ensures.first c.in_ok-bytes.ensures.second
    (rw c.deref-2.ensures.value at c.in_ok-text.ensures)
