-- Lists of clocks and register accesses on the serial unit.
use Rattle.std.specs.Prelude.{ℕ, suc, Bool, true, false, List, [], ◌∷◌, ◌++◌, ◌≡◌, Err, Ok, Result}
use Rattle.usart.specs.Unit.{clock_of}
use Rattle.usart.specs.Read.{read_of}
use Rattle.usart.specs.Write.{write_of, vector_of}
use Rattle.usart.specs.declared.unit.Usart.{Usart}
use Rattle.usart.specs.declared.write.Register.{Register}
use Rattle.usart.specs.declared.write.Register.TheVariants.{Ucsr0a, Ucsr0b, Ucsr0c, Ubrr0l, Ubrr0h, Udr0}
use Rattle.answer.specs.declared.Refusal.{Refusal}

-- a clock with its level on RxD, a write, a read, or vector 0 taken
pub data Event : Type 0 where
  clock : Bool → Event
  write : Register → ℕ → Event
  read : Register → Event
  vector : Event

-- a refused access leaves the unit as it was
abbrev pub settled : Usart → Result Usart Refusal → Usart
settled u (Ok v) = v
settled u (Err r) = u

abbrev pub next_of : Usart → Event → Usart
next_of u (clock rxd) = clock_of u rxd
next_of u (write r v) = settled u (write_of u r v)
next_of u (read r) = (read_of u r).after
next_of u vector = settled u (vector_of u)

abbrev pub final_of : Usart → List Event → Usart
final_of u [] = u
final_of u (e ∷ es) = final_of (next_of u e) es

abbrev pub is_refused : Result Usart Refusal → Bool
is_refused (Ok u) = false
is_refused (Err r) = true

abbrev pub is_udr0 : Register → Bool
is_udr0 Ucsr0a = false
is_udr0 Ucsr0b = false
is_udr0 Ucsr0c = false
is_udr0 Ubrr0l = false
is_udr0 Ubrr0h = false
is_udr0 Udr0 = true

-- no serial register but UDR0 is written: a write to another is refused
abbrev pub OnlyData : Usart → List Event → Type 0
OnlyData u [] = Unit {0}
OnlyData u (clock rxd ∷ es) = OnlyData (clock_of u rxd) es
OnlyData u (write r v ∷ es) = (is_udr0 r ≡ false → is_refused (write_of u r v) ≡ true) × OnlyData (next_of u (write r v)) es
OnlyData u (read r ∷ es) = OnlyData (next_of u (read r)) es
OnlyData u (vector ∷ es) = OnlyData (next_of u vector) es

-- what each clock of a list gives, by its number, the unit before it and its level, in order; the first is clock j
abbrev pub at_clocks : {A : Type 0} → (ℕ → Usart → Bool → List A) → ℕ → Usart → List Event → List A
at_clocks g j u [] = []
at_clocks g j u (clock rxd ∷ es) = g j u rxd ++ at_clocks g (suc j) (clock_of u rxd) es
at_clocks g j u (write r v ∷ es) = at_clocks g j (next_of u (write r v)) es
at_clocks g j u (read r ∷ es) = at_clocks g j (next_of u (read r)) es
at_clocks g j u (vector ∷ es) = at_clocks g j (next_of u vector) es

-- the levels of RxD, one for each clock
abbrev pub levels_of : List Event → List Bool
levels_of [] = []
levels_of (clock rxd ∷ es) = rxd ∷ levels_of es
levels_of (write r v ∷ es) = levels_of es
levels_of (read r ∷ es) = levels_of es
levels_of (vector ∷ es) = levels_of es
