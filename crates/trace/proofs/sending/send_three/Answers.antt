use Rattle.std.proofs.Common.{rules, [], ◌∷◌}
use Rattle.trace.specs.Putting.{closed_by}
use Rattle.trace.specs.Text.{fields_of}
use Rattle.trace.proofs.FillLaws.{sent_short, sent_then}
use Rattle.trace.proofs.PutLaws.{fields-more}
use Rattle.trace.proofs.sending.send_three.Goals as goal

pub returns-in_err-number : goal.returns-in_err-number
returns-in_err-number g c =
    rw (fields-more c.args.x c.args.y (c.args.z ∷ []))
    (sent_short g.met.S.Sink.laws _ _ (closed_by 9 c.args.x) (fields_of (c.args.y ∷ c.args.z ∷ [])) _ _
    c.in_err-number.ensures (search rules))

pub returns : goal.returns
returns g c =
    rw (fields-more c.args.x c.args.y (c.args.z ∷ []))
    (sent_then g.met.S.Sink.laws _ _ _ (closed_by 9 c.args.x) (fields_of (c.args.y ∷ c.args.z ∷ [])) _
    c.in_ok-number.ensures c.send_two.ensures)
