use Rattle.std.proofs.Common.{true, sym, ap, ◌∙◌, Result}
use Rattle.device.specs.declared.unit.Device.{Device}
use Rattle.playback.specs.Replay.{written_step, read_step, step_of}
use Rattle.playback.specs.declared.step.Step.{Step}
use Rattle.answer.specs.declared.Refusal.{Refusal}
use Rattle.answer.specs.declared.Reading.{Reading}
use Rattle.playback.proofs.step.stepped.Goals as goal

pub returns-in-Write : goal.returns-in-Write
unfolding step_of
returns-in-Write c =
    let d = c.args.d in
    c.written.ensures
    ∙ ap (λ (w : Result Device Refusal). written_step d w c.in-Write.n) c.write.ensures
    ∙ ap (step_of d) (sym c.in-Write.is)

pub returns-in-Read : goal.returns-in-Read
unfolding step_of
returns-in-Read c =
    let d = c.args.d in
    c.read-in-Read.ensures
    ∙ ap (λ (g : Result (Reading Device) Refusal). read_step d g c.in-Read.v c.in-Read.n) c.read.ensures
    ∙ ap (step_of d) (sym c.in-Read.is)

pub returns-in-Vector : goal.returns-in-Vector
unfolding step_of
returns-in-Vector c =
    let d = c.args.d in
    c.written-in-Vector.ensures
    ∙ ap (λ (w : Result Device Refusal). written_step d w c.in-Vector.n) c.take_vector.ensures
    ∙ ap (step_of d) (sym c.in-Vector.is)

abbrev same : Device → Step
same d = record { device = d; same = true }

pub returns-in-Clocks : goal.returns-in-Clocks
unfolding step_of
returns-in-Clocks c =
    ap (λ (h : Reading Device). same h.after) c.hold.ensures ∙ ap (step_of c.args.d) (sym c.in-Clocks.is)
