-- What writing leaves in a sink: as the loop over lines has it.
pub use Rattle.line_loop.specs.Output.{SinkView, seen, Wrote, Breaks, Finishes, Flushes, FinishesAlone, FinishesBehind, HasWritten}
