use Rattle.std.proofs.Common.{ap, ◌∙◌}
use Rattle.netmap.specs.declared.sizes.Sizes.{Sizes}
use Rattle.netmap.proofs.ImageNets.{count_in}
use Rattle.netmap.proofs.image.Image.sizes.Goals as goal

pub returns-clause-places : goal.returns-clause-places
returns-clause-places c = ap (λ (s : Sizes). s.places) c.unwrap_or.ensures ∙ count_in c.args.self.now.sizes c.args.self.now.bytes.now
