use Rattle.std.specs.Iterator.Adapters.{enumerate_source, enumerate_count}
use Rattle.trace.specs.Lines.{lines_from}
use Rattle.playback.proofs.Playing.{Playing}
use Rattle.playback.proofs.replaying.play.Given as goal

abbrev pub invariant-loop-n : goal.invariant-loop-n
invariant-loop-n l =
    let lines = enumerate_source l.n-iterator in
    Playing l.text l.d (enumerate_count l.n-iterator) (lines_from lines.text.now lines.at)
