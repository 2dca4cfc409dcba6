-- The standard output.
use Rattle.std.specs.Prelude.{[]}
use Rattle.fund_shelf.specs.Causes.{SinkView}
use Rattle.fund_shelf.specs.declared.std_sink.StdSink.{StdSink}

-- what it counts; what was written isn't told
abbrev pub view_of : {R : Type 0} → StdSink R → SinkView
view_of sink = record { written = []; faults = sink.faults; refusals = 0 }
