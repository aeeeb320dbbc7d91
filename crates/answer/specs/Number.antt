-- The numbers of the refusals (document 01, 'Numbers the rig sees'). 0 is done; 9 to 12 are document 02's, of which 9
-- and 10 are M-100's, 11 is M-104's and 12 is M-109's.
use Rattle.std.specs.Prelude.{ℕ, Result, Ok, Err}
use Rattle.answer.specs.declared.Refusal.{Refusal}
use Rattle.answer.specs.declared.Refusal.TheVariants.{Unknown, Reserved, Unmodelled, UnderWay, Record, Length, Level, Unrequested, Malformed, Different, Range, Room}

abbrev pub number_of : Refusal → ℕ
number_of Unknown = 1
number_of Reserved = 2
number_of Unmodelled = 3
number_of UnderWay = 4
number_of Record = 5
number_of Length = 6
number_of Level = 7
number_of Unrequested = 8
number_of Malformed = 9
number_of Different = 10
number_of Range = 11
number_of Room = 12

-- the number that a call answers: 0 where it is done
abbrev pub number_in : {A : Type 0} → Result A Refusal → ℕ
number_in (Ok x) = 0
number_in (Err r) = number_of r

-- what a call came to, or what stands for it where it is refused
abbrev pub value_or : {A : Type 0} → A → Result A Refusal → A
value_or none (Ok x) = x
value_or none (Err r) = none
