-- The receive buffer of two places (document 01, 'Receiver', second paragraph), and the frame that waits for one of
-- them in the shift register (document 02, M-103).
use Rattle.std.specs.Prelude.{Bool, true, false, List, [], ◌∷◌, ◌++◌}
use Rattle.usart.specs.declared.queue.Frame.{Frame}
use Rattle.usart.specs.declared.queue.Places.{Places}
use Rattle.usart.specs.declared.queue.Places.TheVariants.{Empty, One, Two, Three}
use Rattle.usart.specs.declared.queue.Queue.{Queue}

-- the frames held, oldest first
abbrev pub held_in : Places → List Frame
held_in Empty = []
held_in (One a) = a ∷ []
held_in (Two a b) = a ∷ b ∷ []
held_in (Three a b c) = a ∷ b ∷ []

-- the one that waits: both places are full
abbrev pub waiting_in : Places → List Frame
waiting_in Empty = []
waiting_in (One a) = []
waiting_in (Two a b) = []
waiting_in (Three a b c) = c ∷ []

-- all that have completed and are neither read nor lost
abbrev pub kept_in : Places → List Frame
kept_in p = held_in p ++ waiting_in p

-- RXC says that the buffer is not empty
abbrev pub is_empty : Places → Bool
is_empty Empty = true
is_empty (One a) = false
is_empty (Two a b) = false
is_empty (Three a b c) = false

abbrev pub marked_of : Frame → Bool → Frame
marked_of f d = record { «data» = f.«data»; fe = f.fe; upe = f.upe; dor = d; splits = f.splits }

abbrev pub holding : Places → Queue
holding p = record { places = p; lost = false }

-- M-103: 'with both places full a completed frame waits'. After a loss it is 'the next frame that completes' and
-- carries DOR, held or waiting. (While one waits none completes: the start of the frame that would has lost the one
-- before. Where it is not so, the one that waits is lost here.)
abbrev pub stored_in : Places → Bool → Frame → Queue
stored_in Empty lost f = holding (One (marked_of f lost))
stored_in (One a) lost f = holding (Two a (marked_of f lost))
stored_in (Two a b) lost f = holding (Three a b (marked_of f lost))
stored_in (Three a b c) lost f = holding (Three a b (marked_of f true))

abbrev pub stored_of : Queue → Frame → Queue
stored_of q f = stored_in q.places q.lost f

-- M-103: 'an accepted start bit .. while one waits loses that one'
abbrev pub started_from : Places → Queue → Queue
started_from Empty q = q
started_from (One a) q = q
started_from (Two a b) q = q
started_from (Three a b c) q = record { places = Two a b; lost = true }

abbrev pub started_of : Queue → Queue
started_of q = started_from q.places q

-- a UDR0 read takes the oldest frame away, and moves the one that waits in at once
abbrev pub taken_from : Places → Places
taken_from Empty = Empty
taken_from (One a) = Empty
taken_from (Two a b) = One b
taken_from (Three a b c) = Two b c

abbrev pub without_oldest : Queue → Queue
without_oldest q = record { places = taken_from q.places; lost = q.lost }

-- empty: all read 0
abbrev pub no_frame : Frame
no_frame = record { «data» = 0; fe = false; upe = false; dor = false; splits = 0 }

-- FE, DOR, UPE and RXB8 are those of the oldest frame held, the one the next UDR0 read takes away
abbrev pub oldest_of : Places → Frame
oldest_of Empty = no_frame
oldest_of (One a) = a
oldest_of (Two a b) = a
oldest_of (Three a b c) = a
