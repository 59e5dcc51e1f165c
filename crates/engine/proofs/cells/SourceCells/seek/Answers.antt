use Rattle.std.proofs.Common.{ℕ, Option, subst, arith, rules}
use Rattle.std.proofs.iter.runs.Sources.{range_runs}
use Rattle.std.specs.Iterator.Runs.{ItemsCountUp}
use Rattle.segments.specs.Algebra.{algebra, laws}
use Rattle.engine.specs.Cells.{best_of}
use Rattle.engine.specs.Rebuilds.{TriedCode}
use Rattle.engine.proofs.CodesTried.{none_given, first_given}
use Rattle.engine.proofs.ListRebuilt.{found_at, tried_all}
use Rattle.engine.proofs.cells.SourceCells.seek.Goals as goal

pub unreachable-requires : goal.unreachable-requires
unreachable-requires g c =
    let net = g.M.Map.meaning c.args.self.now.search.routes.map.now in
    let alg = algebra g.V.Ranking.good g.V.Tariff.joining in
    let lawful = laws g.V.Ranking.good g.V.Tariff.joining g.met.V.Ranking.ranks g.met.V.Tariff.joins in
    let grain = c.args.self.now.search.grain.length.0 in
    let total = c.args.total in
    let row = best_of c.args.self.now.search.routes.nodes c.args.self.now.search.top c.args.self.now.table.now c.args.prefix.left in
    let p = c.args.prefix in
    let told : ℕ → Option _ → Type 0 = TriedCode net alg grain total row p.value p.grains p.end in
    let run = c.in-None.ensures.runs in
    let up : ItemsCountUp run.0 0 512 = subst (λ s. ItemsCountUp run.0 s.start s.end) run.1 (range_runs run.0 run.0.seen) in
    let none = none_given _ _ told (λ a r f' q. search rules) (λ k r q. search rules) run.0 512 up run.2.0 run.2.1 in
    tried_all net alg lawful grain total row p.value p.grains p.end 512 none (omega arith) c.requires.some

pub returns : goal.returns
returns g c =
    let net = g.M.Map.meaning c.args.self.now.search.routes.map.now in
    let alg = algebra g.V.Ranking.good g.V.Tariff.joining in
    let lawful = laws g.V.Ranking.good g.V.Tariff.joining g.met.V.Ranking.ranks g.met.V.Tariff.joins in
    let grain = c.args.self.now.search.grain.length.0 in
    let total = c.args.total in
    let row = best_of c.args.self.now.search.routes.nodes c.args.self.now.search.top c.args.self.now.table.now c.args.prefix.left in
    let p = c.args.prefix in
    let told : ℕ → Option _ → Type 0 = TriedCode net alg grain total row p.value p.grains p.end in
    let run = c.in-Some.ensures.runs in
    let up : ItemsCountUp run.0 0 512 = subst (λ s. ItemsCountUp run.0 s.start s.end) run.1 (range_runs run.0 run.0.seen) in
    let first = first_given _ _ told (λ a r f' q. search rules) (λ k r q. search rules) run.0 512 up c.in-Some.found run.2.0 run.2.1 run.2.3 in
    found_at net alg lawful grain total row p.value p.grains p.end run.2.0 c.in-Some.found first.0 first.1
