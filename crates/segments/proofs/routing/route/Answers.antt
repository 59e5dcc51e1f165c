use Rattle.std.proofs.Common.{◌*◌, ◌≤◌, sym, subst}
use Rattle.segments.proofs.TableSlots.{empty_kept}
use Rattle.segments.proofs.routing.route.Goals as goal

pub fill_figures-requires-clause-empty : goal.fill_figures-requires-clause-empty
fill_figures-requires-clause-empty g c =
    empty_kept c.args.nodes c.find_distances.new.dist c.find_distances.new.spread (subst (λ m. c.args.nodes * c.args.nodes ≤ m) (sym c.find_distances.auto.spread) c.requires.space) c.find_distances.ensures.kept
