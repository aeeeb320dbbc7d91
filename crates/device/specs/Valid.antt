-- A device whose fields are all in their ranges.
use Rattle.usart.specs.Valid.{Valid as ValidUsart}
use Rattle.spi.specs.Valid.{Valid as ValidSpi}
use Rattle.device.specs.declared.unit.Device.{Device}

pub record Valid (d : Device) : Type 0 where
  pub usart : ValidUsart d.usart
  pub spi : ValidSpi d.spi
