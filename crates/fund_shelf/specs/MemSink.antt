-- The sink in memory whose failures are told beforehand.
use Rattle.fund_shelf.specs.Causes.{SinkView}
use Rattle.fund_shelf.specs.Failures.{FailurePlan}
use Rattle.fund_shelf.specs.declared.mem_sink.MemSink.{MemSink}

-- what was written, and how often it failed and found no memory
abbrev pub view_of : MemSink → SinkView
view_of sink = record { written = sink.written.items; faults = sink.faults; refusals = sink.refusals }

-- which of its puts are to fail
abbrev pub put_plan : MemSink → FailurePlan
put_plan sink = sink.puts
