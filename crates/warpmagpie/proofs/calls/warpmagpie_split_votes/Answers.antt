use Rattle.device.specs.Unit.{split_votes}
use Rattle.warpmagpie.proofs.Cases.{told_is}
use Rattle.warpmagpie.proofs.calls.warpmagpie_split_votes.Goals as goal

pub returns : goal.returns
returns c =
    let h = told_is split_votes c.args.image.now c.split_votes.ensures c.told.ensures.value c.told.ensures.place_after in
    record { value = h.0; count_after = h.1 }
