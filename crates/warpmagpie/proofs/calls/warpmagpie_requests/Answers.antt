use Rattle.device.specs.Unit.{requests_of}
use Rattle.warpmagpie.proofs.Cases.{told_is}
use Rattle.warpmagpie.proofs.calls.warpmagpie_requests.Goals as goal

pub returns : goal.returns
returns c =
    let h = told_is requests_of c.args.image.now c.requests.ensures c.told.ensures.value c.told.ensures.place_after in
    record { value = h.0; requests_after = h.1 }
