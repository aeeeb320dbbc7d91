-- A transfer and what an edge does to it (document 01, 'SPI'); the edges 1 to 16 themselves are `shifter`'s.
use Rattle.std.specs.Prelude.{Bool, true, not, eqb}
use Rattle.choice.specs.Pick.{pick}
use Rattle.shifter.specs.declared.Exchange.{Exchange}
use Rattle.shifter.specs.declared.Edged.{Edged}
use Rattle.shifter.specs.declared.Edged.TheVariants.{Onward, Complete}
use Rattle.spi.specs.Flag.{raised_flags}
use Rattle.spi.specs.declared.divisor.Clocks.{Clocks}
use Rattle.spi.specs.declared.flag.Flags.{Flags}
use Rattle.spi.specs.declared.transfer.Transfer.{Transfer}

-- 1 to 15 edges seen, or a master transfer not yet finished
unfoldable pub is_under_way : Transfer → Bool
is_under_way t = pick (eqb t.edges 0) (not (eqb t.left.0 0)) true

-- a dropped transfer leaves the shift register as it then stands
abbrev pub dropped_of : Transfer → Transfer
dropped_of t = record { shift = t.shift; received = t.received; edges = 0; left = record { 0 = 0 } }

-- the byte of a transfer, with the bit that is out
abbrev pub byte_of : Transfer → Bool → Exchange
byte_of t out = record { register = record { shift = t.shift; out = out }; edges = t.edges }

-- after an edge, with the clocks to the next one; at edge 16 the shift register is copied to the receive buffer, and an
-- unread byte is lost ..
abbrev pub edged_transfer : Transfer → Clocks → Edged → Transfer
edged_transfer t left (Onward x) =
    record { shift = x.register.shift; received = t.received; edges = x.edges; left = left }
edged_transfer t left (Complete r) = record { shift = r.shift; received = r.shift; edges = 0; left = record { 0 = 0 } }

-- .. and SPIF is set
abbrev pub edged_flags : Flags → Edged → Flags
edged_flags f (Onward x) = f
edged_flags f (Complete r) = raised_flags f

-- the bit that is out after it
abbrev pub edged_out : Edged → Bool
edged_out (Onward x) = x.register.out
edged_out (Complete r) = r.out
