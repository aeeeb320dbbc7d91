use Rattle.std.proofs.Common.{rules, arith, refl, sym, ◌≡◌, ◌∙◌}
use Rattle.trace.specs.Listing.{listing_of}
use Rattle.trace.specs.Filling.{buffer_written}
use Rattle.trace.proofs.FillLaws.{fills-malformed, fills-longer, fills-text}
use Rattle.trace.proofs.writing.write.Goals as goal

pub returns-then-not-check_list : goal.returns-then-not-check_list
returns-then-not-check_list c =
    let l = listing_of c.args.list.now in
    let p = fills-malformed l.sound l.items c.args.buffer.now (sym c.check_list.ensures ∙ c.if-not-check_list.true) in
    record { value = p.0; buffer_after = p.1; within = search rules }

pub returns-in_err-send_list : goal.returns-in_err-send_list
returns-in_err-send_list c =
    let l = listing_of c.args.list.now in
    let p =
    fills-longer l.sound l.items c.args.buffer.now (sym c.check_list.ensures ∙ c.if-not-check_list.false)
    c.from_residual.result _ c.in_err-send_list.ensures (search rules) in
    record { value = p.0; buffer_after = p.1; within = search rules }

pub returns-clause-value : goal.returns-clause-value
returns-clause-value c =
    let l = listing_of c.args.list.now in
    (fills-text l.sound l.items c.args.buffer.now (sym c.check_list.ensures ∙ c.if-not-check_list.false) _ _ refl refl
    (omega (arith, c.in_ok-send_list.ensures)) c.in_ok-send_list-2.ensures).0

pub returns-clause-buffer_after : goal.returns-clause-buffer_after
returns-clause-buffer_after c =
    let l = listing_of c.args.list.now in
    let s = sym c.in_ok-send_list-2.ensures.same in
    let w : c.send_list-2.new.sink.buffer.now ≡ buffer_written c.args.list.now c.args.buffer.now =
    (fills-text l.sound l.items c.args.buffer.now (sym c.check_list.ensures ∙ c.if-not-check_list.false) _ _ refl refl
    (omega (arith, c.in_ok-send_list.ensures)) c.in_ok-send_list-2.ensures).1 in
    search rules

pub returns-clause-within : goal.returns-clause-within
returns-clause-within c = omega (arith, c.in_ok-send_list.ensures, c.in_ok-send_list-2.ensures.put.past)
