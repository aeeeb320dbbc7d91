use Rattle.std.proofs.Common.{◌≡◌, ◌-◌, sym, ap, ◌∙◌, length, Some}
use Rattle.std.specs.List.{slice_get}
use Rattle.std.specs.Option.{option_copied}
use Rattle.spi.specs.Means.{with_sck}
use Rattle.spi.specs.declared.clock.Levels.{Levels}
use Rattle.device.proofs.RunLaws.{off-last, off-none}
use Rattle.device.proofs.spi_run.off_clocks.Goals as goal

pub returns-in-Some : goal.returns-in-Some
returns-in-Some c =
    let a = c.args in
    let l = a.levels.now in
    let e : slice_get l (length l - 1) ≡ Some c.in-Some.level.now = sym c.last.ensures.value ∙ ap option_copied c.in-Some.is in
    ap (λ (x : Levels). with_sck a.s x.sck) c.pin_levels.ensures ∙ sym (off-last a.s l _ e c.requires)

pub returns-in-None : goal.returns-in-None
returns-in-None c =
    let a = c.args in
    sym (off-none a.s a.levels.now (sym c.last.ensures.value ∙ ap option_copied c.in-None.is))
