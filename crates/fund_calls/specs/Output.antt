-- What is printed, in memory.
use Rattle.fund_shelf.specs.Causes.{SinkView}
use Rattle.fund_calls.specs.declared.output.Output.{Output}

-- what was put, and how often it found no memory; it never fails
abbrev pub view_of : Output → SinkView
view_of out = record { written = out.written.items; faults = 0; refusals = out.refusals }
