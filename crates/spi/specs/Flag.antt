-- SPIF and WCOL and their arming (document 01, 'SPI': 'Reading SPSR arms SPIF and WCOL as they stand set; the next SPDR
-- access clears the armed ones first, then does its own work').
use Rattle.std.specs.Prelude.{Bool, true, false}
use Rattle.spi.specs.declared.flag.Flag.{Flag}
use Rattle.spi.specs.declared.flag.Flag.TheVariants.{Clear, Set, Armed}
use Rattle.spi.specs.declared.flag.Flags.{Flags}

abbrev pub is_up : Flag → Bool
is_up Clear = false
is_up Set = true
is_up Armed = true

-- an armed flag that is set again stays armed
abbrev pub raised_of : Flag → Flag
raised_of Clear = Set
raised_of Set = Set
raised_of Armed = Armed

-- by a read of SPSR
abbrev pub armed_of : Flag → Flag
armed_of Clear = Clear
armed_of Set = Armed
armed_of Armed = Armed

-- by the SPDR access after it
abbrev pub cleared_of : Flag → Flag
cleared_of Clear = Clear
cleared_of Set = Set
cleared_of Armed = Clear

-- SPIF is set
abbrev pub raised_flags : Flags → Flags
raised_flags f = record { spif = raised_of f.spif; wcol = f.wcol }

abbrev pub armed_flags : Flags → Flags
armed_flags f = record { spif = armed_of f.spif; wcol = armed_of f.wcol }

abbrev pub cleared_flags : Flags → Flags
cleared_flags f = record { spif = cleared_of f.spif; wcol = cleared_of f.wcol }

-- by a write of SPDR that is not taken: WCOL is set, and not armed
abbrev pub collided_flags : Flags → Flags
collided_flags f = record { spif = f.spif; wcol = Set }
