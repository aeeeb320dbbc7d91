-- Whether all chunks of a list are items: what an `all` over them answers.
use Prim.Native.Nat.{ℕ}
use mathlib.Core.Path.{◌≡◌, refl, ap, sym, subst, ◌∙◌}
use mathlib.Core.Bool.{Bool, true, false}
use mathlib.Core.List.{List, [], ◌∷◌}
use denote.Ref.{Bor}
use denote.Param.Members.{Mut}
use Rattle.std.specs.Fn.{Called}
use Rattle.std.specs.Prelude.{Option, Some, None}
use Rattle.std.specs.Iterator.{YieldsThen}
use Rattle.std.specs.List.{FoldsTo}
use Rattle.std.specs.Option.{MatchOption, is_some}
use Rattle.std.specs.Slice.Iter.{chunks_rest, chunks_size, chunks_steps}
use Rattle.std.specs.declared.slice.Chunks.{Chunks}
use Rattle.trace.specs.Listing.{Listing, entry_at, with_entry, listing_of}
use Rattle.trace.proofs.EntryLaws.{listing-chunk, listing-none, sound-on, sound-out}

abbrev Bytes : Type 0
Bytes = Bor (List ℕ)

-- by the chunk that comes off
sound_by : (s t : Chunks ℕ) (x : Bytes) → chunks_size s ≡ 8 → chunks_steps s (Some x) t
    → (listing_of (chunks_rest s)).sound ≡ (with_entry (entry_at x.now 0) (listing_of (chunks_rest t))).sound
sound_by s t x e c = ap (λ (l : Listing). l.sound) (listing-chunk _ _ _ _ e c.1.0 c.1.1 c.1.2 _ refl)

module _ {F : Type 0} {g : Mut F (Bytes × Unit {0}) Bool} where
  pub all-sound : (r : Bool) (xs : List Bytes) (o : Option Bytes) (s u : Chunks ℕ) (f j : F) → chunks_size s ≡ 8
      → YieldsThen chunks_steps s xs o u → FoldsTo (λ p x q. Called g p (x, tt) true q) f xs j
      → MatchOption o (r ≡ true) (λ x. (r ≡ false) × ((h : F) × Called g j (x, tt) false h))
      → ((p : F) (x : Bytes) (b : Bool) (q : F) → Called g p (x, tt) b q → b ≡ is_some (entry_at x.now 0))
      → r ≡ (listing_of (chunks_rest s)).sound
  all-sound r [] None s u f j e y c m k =
      let n = subst (λ t. chunks_steps t None u) (sym y.1) y.2 in
      m ∙ sym (ap (λ (l : Listing). l.sound) (listing-none _ n.1.0))
  all-sound r [] (Some x) s u f j e y c m k =
      let n = subst (λ t. chunks_steps t (Some x) u) (sym y.1) y.2 in
      m.0 ∙ sym (sound-out (entry_at x.now 0) (listing_of (chunks_rest u)) (sym (k _ _ _ _ m.1.1))) ∙ sym (sound_by s u x e n)
  all-sound r (x ∷ xs) o s u f j e y c m k =
      all-sound r xs o y.1.0 u c.0 j (y.1.1.0 ∙ e) (y.0, y.1.2, y.2) c.2 m k
      ∙ sym (sound-on (entry_at x.now 0) (listing_of (chunks_rest y.1.0)) (sym (k _ _ _ _ c.1))) ∙ sym (sound_by s y.1.0 x e y.1.1)
