use Rattle.std.proofs.Common.{rules, [], ◌∷◌}
use Rattle.trace.specs.Text.{letter_of, numbers_of, fields_of}
use Rattle.trace.proofs.FillLaws.{sent_short, sent_then}
use Rattle.trace.proofs.PutLaws.{three-fields}
use Rattle.trace.proofs.sending.send_line.Goals as goal

pub returns-in_err-bytes : goal.returns-in_err-bytes
returns-in_err-bytes g c =
    sent_short g.met.S.Sink.laws _ _ (letter_of c.args.i ∷ 9 ∷ []) (fields_of (numbers_of c.args.i)) _ _
    c.in_err-bytes.ensures (search rules)

pub returns-in-Write : goal.returns-in-Write
returns-in-Write g c =
    let e = three-fields c.args.i c.in-Write.a c.in-Write.v c.in-Write.n c.in-Write.is in
    sent_then g.met.S.Sink.laws _ _ _ (letter_of c.args.i ∷ 9 ∷ []) (fields_of (numbers_of c.args.i)) _
    (rw c.letter_of.ensures at c.in_ok-bytes.ensures) (rw (← e) c.send_three.ensures)

pub returns-in-Vector : goal.returns-in-Vector
returns-in-Vector g c =
    sent_then g.met.S.Sink.laws _ _ _ (letter_of c.args.i ∷ 9 ∷ []) (fields_of (numbers_of c.args.i)) _
    (rw c.letter_of.ensures at c.in_ok-bytes.ensures) (rw c.in-Vector.is c.send_two.ensures)

pub returns-in-Clocks : goal.returns-in-Clocks
returns-in-Clocks g c =
    sent_then g.met.S.Sink.laws _ _ _ (letter_of c.args.i ∷ 9 ∷ []) (fields_of (numbers_of c.args.i)) _
    (rw c.letter_of.ensures at c.in_ok-bytes.ensures) (rw c.in-Clocks.is c.send_two-in-Clocks.ensures)
