use Rattle.std.proofs.Common.{rules, tests, ap, ◌∙◌}
use Rattle.trace.specs.Listing.{listing_of}
use Rattle.trace.proofs.ChunkLaws.{all-sound}
use Rattle.trace.proofs.listing.check_list.Goals as goal

pub returns : goal.returns
returns c =
    let d = c.all.ensures.ran in
    all-sound c.all.result d.0 d.1 c.chunks.result c.all.new.self _ d.2 c.chunks.ensures.size d.3 d.4 d.5
    (λ p x b q h. search (rules, tests))
    ∙ ap (λ l. (listing_of l).sound) c.chunks.ensures.rest
