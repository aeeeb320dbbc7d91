use Rattle.std.proofs.Common.{rules, arith, refl, ◌≡◌, ◌+◌, ◌≤◌, length}
use Rattle.trace.proofs.PutLaws.{put-part}
use Rattle.trace.proofs.page.PageSink.bytes.Goals as goal

pub returns : goal.returns
returns c =
    let q : c.in_ok-next.next ≡ c.args.self.now.at + length c.args.bytes.now = search rules in
    let h : c.in_ok-next.next ≤ length c.args.self.now.buffer.now = search rules in
    record {
      same = refl;
      put = record { stored = put-part _ _ _ _ _ c.copy_from_slice.ensures.after (omega arith) (omega arith); past = q };
    }
