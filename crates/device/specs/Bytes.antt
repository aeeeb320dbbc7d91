-- What each bit of a level byte, an output byte and a report says (document 01, 'SPI': level byte and output byte;
-- 'Receiver': requests): what `rxd_in`, `levels_in`, `output_of` and `requests_of` must come to, bit by bit. Proved in
-- proofs/ByteLaws.antt.
use Rattle.std.specs.Prelude.{ℕ, ◌+◌, ◌*◌, ◌/◌, ◌%◌, Bool, not, ◌&&◌, ◌≡◌}
use Rattle.choice.specs.Pick.{digit}
use Rattle.usart.specs.Sender.{txd_of}
use Rattle.usart.specs.Unit.{is_driven, rxc_requested, udre_requested, txc_requested}
use Rattle.usart.specs.declared.unit.Usart.{Usart}
use Rattle.spi.specs.Control.{is_enabled, is_master, drives}
use Rattle.spi.specs.Unit.{sck_of, is_requested}
use Rattle.spi.specs.declared.unit.Spi.{Spi}
use Rattle.device.specs.Unit.{rxd_in, levels_in}

-- level byte: RxD, MISO, MOSI, SCK, SS in bits 0 to 4
abbrev pub level_byte : Bool → Bool → Bool → Bool → Bool → ℕ
level_byte rxd miso mosi sck ss = digit rxd + 2 * digit miso + 4 * digit mosi + 8 * digit sck + 16 * digit ss

-- these five levels are read in the byte l
pub record LevelBits (l : ℕ) (rxd miso mosi sck ss : Bool) : Type 0 where
  pub bit0 : rxd_in l ≡ rxd
  pub bit1 : (levels_in l).miso ≡ miso
  pub bit2 : (levels_in l).mosi ≡ mosi
  pub bit3 : (levels_in l).sck ≡ sck
  pub bit4 : (levels_in l).ss ≡ ss

-- driven: MOSI and SCK as master, MISO as slave with SS low, each with SPE and its DDRB bit (MOSI 3, MISO 4, SCK 5;
-- here by their weights). TxD is driven with TXEN or frames left: the serial unit's `is_driven`
abbrev pub mosi_driven : Spi → Bool
mosi_driven s = is_enabled s.control && is_master s.control && drives s.control 8

abbrev pub miso_driven : Spi → Bool → Bool
miso_driven s ss = is_enabled s.control && not (is_master s.control) && not ss && drives s.control 16

abbrev pub sck_driven : Spi → Bool
sck_driven s = is_enabled s.control && is_master s.control && drives s.control 32

-- undriven shows 0
abbrev pub shown_as : Bool → Bool → ℕ
shown_as driven level = digit (driven && level)

-- output byte: TxD, MOSI, MISO, SCK in bits 0 to 3, driven marks in 4 to 7
pub record OutputBits (o : ℕ) (u : Usart) (s : Spi) (ss : Bool) : Type 0 where
  pub txd : o % 2 ≡ shown_as (is_driven u) (txd_of u.format u.sender.shifter)
  pub mosi : o / 2 % 2 ≡ shown_as (mosi_driven s) s.pins.mosi
  pub miso : o / 4 % 2 ≡ shown_as (miso_driven s ss) s.pins.miso
  pub sck : o / 8 % 2 ≡ shown_as (sck_driven s) (sck_of s)
  pub txd_mark : o / 16 % 2 ≡ digit (is_driven u)
  pub mosi_mark : o / 32 % 2 ≡ digit (mosi_driven s)
  pub miso_mark : o / 64 % 2 ≡ digit (miso_driven s ss)
  pub sck_mark : o / 128 ≡ digit (sck_driven s)

-- requests: RXC with RXCIE, UDRE with UDRIE, TXC with TXCIE, SPIF with SPIE, bits 0 to 3 of the report
pub record RequestBits (r : ℕ) (u : Usart) (s : Spi) : Type 0 where
  pub rxc : r % 2 ≡ digit (rxc_requested u)
  pub udre : r / 2 % 2 ≡ digit (udre_requested u)
  pub txc : r / 4 % 2 ≡ digit (txc_requested u)
  pub spif : r / 8 ≡ digit (is_requested s)
