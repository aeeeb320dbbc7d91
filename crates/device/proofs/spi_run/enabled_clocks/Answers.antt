use Rattle.std.proofs.Common.{◌≡◌, sym, ◌∙◌}
use Rattle.spi.specs.Clock.{clock_of, master_clock}
use Rattle.spi.specs.declared.clock.Levels.{Levels}
use Rattle.spi.specs.declared.unit.Spi.{Spi}
use Rattle.device.proofs.RunLaws.{unit-clocks, master-clocks}
use Rattle.device.proofs.spi_run.enabled_clocks.Goals as goal

pub spi_clocks-requires-clause-clocks : goal.spi_clocks-requires-clause-clocks
spi_clocks-requires-clause-clocks c = master-clocks _ (λ (s : Spi) (l : Levels) (t : Spi) (p : Spi × Levels × t ≡ master_clock s l). p.2) _ _ (sym c.keeps_master.ensures ∙ c.if-keeps_master.true)

pub spi_clocks-requires-2-clause-clocks : goal.spi_clocks-requires-2-clause-clocks
spi_clocks-requires-2-clause-clocks c = unit-clocks _ (λ (s : Spi) (l : Levels) (t : Spi) (p : Spi × Levels × t ≡ clock_of s l). p.2) _ _
