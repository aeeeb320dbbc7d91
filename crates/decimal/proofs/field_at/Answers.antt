use Rattle.std.proofs.Common.{refl, sym, ltb-false}
use Rattle.decimal.proofs.FieldLaws.{start-digit, start-other, start-past}
use Rattle.decimal.proofs.field_at.Goals as goal

pub returns-in_err-byte : goal.returns-in_err-byte
returns-in_err-byte c =
    start-past _ _ _ _ _ (ltb-false _ _ (sym c.in_err-byte.ensures.lookup.0)) c.from_residual.ensures

pub returns-then-not-is_digit : goal.returns-then-not-is_digit
returns-then-not-is_digit c =
    let byte = c.in_ok-byte.ensures.lookup.3 in
    start-other _ _ _ _ _ byte.0 (rw (byte.1 0) at (sym c.if-not-is_digit.ensures)) refl

pub returns : goal.returns
returns c =
    let byte = c.in_ok-byte.ensures.lookup.3 in
    start-digit _ _ _ _ _ byte.0 (rw (byte.1 0) at (sym c.if-not-is_digit.ensures)) _
    (rw (byte.1 0) at c.with_digit.ensures) c.rest_of.ensures
