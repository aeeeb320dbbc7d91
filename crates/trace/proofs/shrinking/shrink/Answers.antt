use Rattle.std.proofs.Common.{rules, arith, refl, sym, ◌≡◌, ◌∙◌}
use Rattle.trace.specs.Contents.{contents_at, contents_of}
use Rattle.trace.specs.Filling.{is_well, buffer_shrunk}
use Rattle.trace.specs.Shrinking.{shrunk_of}
use Rattle.trace.proofs.FillLaws.{fills-malformed, fills-longer, fills-text, fills-as}
use Rattle.trace.proofs.PassLaws.{well-items, well-sound, bad-sound}
use Rattle.trace.proofs.shrinking.shrink.Goals as goal

pub returns-then-is_err : goal.returns-then-is_err
returns-then-is_err c =
    let r = contents_of c.args.text.now in
    let p =
    fills-malformed (is_well r.check) (shrunk_of r.items) c.args.buffer.now
    (bad-sound c.args.text.now _ c.check_text.ensures (sym c.is_err.ensures.value ∙ c.if-is_err.true)) in
    record { value = p.0; buffer_after = p.1; within = tt }

pub returns-in_err-send_shrunk : goal.returns-in_err-send_shrunk
returns-in_err-send_shrunk c =
    let r = contents_of c.args.text.now in
    let w = sym c.is_err.ensures.value ∙ c.if-is_err.false in
    let p =
    fills-as (is_well r.check) (shrunk_of (contents_at c.args.text.now 8 2).items) (shrunk_of r.items) c.args.buffer.now
    c.from_residual.result c.args.buffer.now (well-items c.args.text.now _ c.check_text.ensures w)
    (fills-longer (is_well r.check) (shrunk_of (contents_at c.args.text.now 8 2).items) c.args.buffer.now
    (well-sound c.args.text.now _ c.check_text.ensures w) c.from_residual.result _ c.in_err-send_shrunk.ensures (search rules)) in
    record { value = p.0; buffer_after = p.1; within = search rules }

pub returns-clause-value : goal.returns-clause-value
returns-clause-value c =
    let r = contents_of c.args.text.now in
    let w = sym c.is_err.ensures.value ∙ c.if-is_err.false in
    (fills-as (is_well r.check) (shrunk_of (contents_at c.args.text.now 8 2).items) (shrunk_of r.items) c.args.buffer.now
    _ _ (well-items c.args.text.now _ c.check_text.ensures w)
    (fills-text (is_well r.check) (shrunk_of (contents_at c.args.text.now 8 2).items) c.args.buffer.now
    (well-sound c.args.text.now _ c.check_text.ensures w) _ _ refl refl (omega (arith, c.in_ok-send_shrunk.ensures))
    c.in_ok-send_shrunk-2.ensures)).0

pub returns-clause-buffer_after : goal.returns-clause-buffer_after
returns-clause-buffer_after c =
    let r = contents_of c.args.text.now in
    let w = sym c.is_err.ensures.value ∙ c.if-is_err.false in
    let s = sym c.in_ok-send_shrunk-2.ensures.same in
    let p : c.send_shrunk-2.new.sink.buffer.now ≡ buffer_shrunk c.args.text.now c.args.buffer.now =
    (fills-as (is_well r.check) (shrunk_of (contents_at c.args.text.now 8 2).items) (shrunk_of r.items) c.args.buffer.now
    _ _ (well-items c.args.text.now _ c.check_text.ensures w)
    (fills-text (is_well r.check) (shrunk_of (contents_at c.args.text.now 8 2).items) c.args.buffer.now
    (well-sound c.args.text.now _ c.check_text.ensures w) _ _ refl refl (omega (arith, c.in_ok-send_shrunk.ensures))
    c.in_ok-send_shrunk-2.ensures)).1 in
    search rules

pub returns-clause-within : goal.returns-clause-within
returns-clause-within c = omega (arith, c.in_ok-send_shrunk.ensures, c.in_ok-send_shrunk-2.ensures.put.past)
