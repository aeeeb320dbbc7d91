use Rattle.std.proofs.Common.{rules, ◌≡◌, ℕ, Bool, List, true, ltb, ◌&&◌, refl, sym, ap, ◌∙◌}
use Rattle.std.proofs.lemmas.Fn.{fold_over, fronts, slice_gives}
use Rattle.device.specs.Run.{are_levels}
use Rattle.device.proofs.LoopLaws.{level-more}
use Rattle.device.proofs.run.are_levels.Goals as goal

pub returns : goal.returns
unfolding are_levels
returns c =
    fold_over fronts (λ y. y.now) _ (λ (ls : List ℕ) (low : Bool). low ≡ are_levels ls) _
    (λ ls low x b f' j k. let e : b ≡ (low && ltb x.now 32) = search rules in (e ∙ ap (λ (t : Bool). t && ltb x.now 32) j ∙ sym (level-more ls x.now), refl))
    c.iter.result c.args.levels.now true c.fold.result (search (rules, slice_gives)) refl c.fold.ensures.ran
