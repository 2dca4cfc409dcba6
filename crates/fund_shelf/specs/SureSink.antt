-- The sink in memory that doesn't fail.
use Rattle.fund_shelf.specs.Causes.{SinkView}
use Rattle.fund_shelf.specs.declared.sure_sink.SureSink.{SureSink}

-- what was written, and how often it found no memory; it never fails
abbrev pub view_of : SureSink → SinkView
view_of sink = record { written = sink.written.items; faults = 0; refusals = sink.refusals }
