-- The decision of three samples (document 01, 'Receiver': 'the majority decides'; document 02, M-101: 'The majority
-- decision must answer the level and whether all three samples agreed').
use Rattle.std.specs.Prelude.{Bool, ◌+◌, ◌%◌, eqb, leb}
use Rattle.choice.specs.Pick.{digit}
use Rattle.frame.specs.declared.vote.Vote.{Vote}

-- high where two or three samples are
abbrev pub majority_of : Bool → Bool → Bool → Bool
majority_of a b c = leb 2 (digit a + digit b + digit c)

-- none of them is high, or all three are
abbrev pub is_unanimous : Bool → Bool → Bool → Bool
is_unanimous a b c = eqb ((digit a + digit b + digit c) % 3) 0

abbrev pub vote_of : Bool → Bool → Bool → Vote
vote_of a b c = record { level = majority_of a b c; unanimous = is_unanimous a b c }
