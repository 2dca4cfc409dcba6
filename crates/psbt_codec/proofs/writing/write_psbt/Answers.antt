use Rattle.psbt_codec.proofs.writing.write_psbt.Goals as goal

pub returns-clause-first : goal.returns-clause-first
returns-clause-first c = λ psbt is. (rw c.deref.ensures.value at c.written_is_readable.ensures.first) c.args.psbt.now psbt is c.in_ok-bytes.ensures

pub returns-clause-second : goal.returns-clause-second
returns-clause-second c = λ psbt is. (rw c.deref.ensures.value at c.written_is_readable.ensures.second) c.args.psbt.now psbt is c.in_ok-bytes.ensures
