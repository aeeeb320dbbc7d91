use Rattle.std.proofs.Common.{rules, ap, ◌∙◌, ◌≡◌, ◌++◌}
use Rattle.std.specs.Slice.Iter.{chunks_rest}
use Rattle.trace.specs.Listing.{Listing, listing_of}
use Rattle.trace.specs.Text.{first_line, line_of, lines_of}
use Rattle.trace.proofs.EntryLaws.{listing-chunk, listing-none}
use Rattle.trace.proofs.FillLaws.{sent_short, sending_on, sending_short, sending_all}
use Rattle.trace.proofs.PassLaws.{listed-next, listed-out}
use Rattle.trace.proofs.writing.send_list.Goals as goal

pub returns-in_err-send_first : goal.returns-in_err-send_first
returns-in_err-send_first g c =
    sent_short g.met.S.Sink.laws _ _ first_line (lines_of (listing_of c.args.list.now).items) _ _
    c.in_err-send_first.ensures (search rules)

pub loop-entry-init : goal.loop-entry-init
loop-entry-init g c =
    let e : listing_of (chunks_rest c.into_iter-entry-iterator.result) ≡ listing_of c.args.list.now = search rules in
    record {
      size = search rules;
      sending = record {
        before = first_line;
        so_far = c.in_ok-send_first.ensures;
        parted = ap (λ (l : Listing). first_line ++ lines_of l.items) e;
      };
    }

pub returns-in_err-send_line : goal.returns-in_err-send_line
returns-in_err-send_line g c =
    let i = c.loop-entry.invariant in
    let s = c.in-Some.ensures.steps.1 in
    let e = listing-chunk _ _ _ _ i.size s.0 s.1 s.2 c.entry_of.result c.entry_of.ensures in
    sending_short g.met.S.Sink.laws _ _ _ _ i.sending (line_of c.in-Some-entry_of.i) _
    (listed-next _ _ _ e _ c.in-Some-entry_of.is) _ _ _ c.in_err-send_line.ensures (search rules)

pub loop-entry-preserved : goal.loop-entry-preserved
loop-entry-preserved g c =
    let i = c.loop-entry.invariant in
    let s = c.in-Some.ensures.steps in
    let e = listing-chunk _ _ _ _ i.size s.1.0 s.1.1 s.1.2 c.entry_of.result c.entry_of.ensures in
    record {
      size = s.0 ∙ i.size;
      sending =
          sending_on g.met.S.Sink.laws _ _ _ _ i.sending (line_of c.in-Some-entry_of.i) _
          (listed-next _ _ _ e _ c.in-Some-entry_of.is) _ c.in_ok-send_line.ensures;
    }

pub returns-in-None : goal.returns-in-None
returns-in-None g c =
    sending_all g.met.S.Sink.laws _ _ _ _ c.loop-entry.invariant.sending
    (ap (λ (l : Listing). lines_of l.items) (listing-none _ c.in-None.ensures.steps.1.0))

pub returns-in_default : goal.returns-in_default
returns-in_default g c =
    let i = c.loop-entry.invariant in
    let s = c.in-Some.ensures.steps.1 in
    let e = listing-chunk _ _ _ _ i.size s.0 s.1 s.2 c.entry_of.result c.entry_of.ensures in
    sending_all g.met.S.Sink.laws _ _ _ _ i.sending (listed-out _ _ _ e c.in_default.not-Some)
