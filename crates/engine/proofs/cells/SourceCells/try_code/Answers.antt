use Rattle.std.proofs.Common.{◌≡◌, ◌+◌, T, Some, None, sym, ap, ◌∙◌, subst, arith}
use Rattle.segments.specs.Algebra.{algebra, laws}
use Rattle.engine.specs.Cells.{best_of}
use Rattle.engine.specs.Rebuilds.{TriedCode}
use Rattle.engine.proofs.ListRebuilt.{code_none, code_far, code_empty, code_worse, code_better, code_found}
use Rattle.engine.proofs.cells.SourceCells.try_code.Goals as goal
use Rattle.engine.proofs.cells.SourceCells.try_code.Goals.{else-as_good-via-then-as_good+else-as_good-2, else-as_good-via-else-as_good}

pub returns-in_err-leg : goal.returns-in_err-leg
returns-in_err-leg g c =
    let net = g.M.Map.meaning c.args.self.now.search.routes.map.now in
    let alg = algebra g.V.Ranking.good g.V.Tariff.joining in
    let lawful = laws g.V.Ranking.good g.V.Tariff.joining g.met.V.Ranking.ranks g.met.V.Tariff.joins in
    let grain = c.args.self.now.search.grain.length.0 in
    let total = c.args.total in
    let row = best_of c.args.self.now.search.routes.nodes c.args.self.now.search.top c.args.self.now.table.now c.args.prefix.left in
    let p = c.args.prefix.value in
    let d = c.args.prefix.grains in
    let v = c.args.prefix.end in
    let code = c.args.code in
    subst (TriedCode net alg grain total row p d v code) (sym c.from_residual.ensures) (code_none net alg lawful grain total row p d v code c.in_err-leg.ensures)

pub returns-in_err-rest : goal.returns-in_err-rest
returns-in_err-rest g c =
    let net = g.M.Map.meaning c.args.self.now.search.routes.map.now in
    let alg = algebra g.V.Ranking.good g.V.Tariff.joining in
    let lawful = laws g.V.Ranking.good g.V.Tariff.joining g.met.V.Ranking.ranks g.met.V.Tariff.joins in
    let grain = c.args.self.now.search.grain.length.0 in
    let total = c.args.total in
    let row = best_of c.args.self.now.search.routes.nodes c.args.self.now.search.top c.args.self.now.table.now c.args.prefix.left in
    let p = c.args.prefix.value in
    let d = c.args.prefix.grains in
    let v = c.args.prefix.end in
    let code = c.args.code in
    subst (TriedCode net alg grain total row p d v code) (sym c.from_residual-in_err-rest.ensures) (code_far net alg lawful grain total row p d v code c.in_ok-leg.field-0 c.in_ok-leg.ensures (omega (arith, c.in_err-rest.ensures)))

pub returns-in_err-suffix : goal.returns-in_err-suffix
returns-in_err-suffix g c =
    let net = g.M.Map.meaning c.args.self.now.search.routes.map.now in
    let alg = algebra g.V.Ranking.good g.V.Tariff.joining in
    let lawful = laws g.V.Ranking.good g.V.Tariff.joining g.met.V.Ranking.ranks g.met.V.Tariff.joins in
    let grain = c.args.self.now.search.grain.length.0 in
    let total = c.args.total in
    let row = best_of c.args.self.now.search.routes.nodes c.args.self.now.search.top c.args.self.now.table.now c.args.prefix.left in
    let p = c.args.prefix.value in
    let d = c.args.prefix.grains in
    let v = c.args.prefix.end in
    let code = c.args.code in
    let h = c.in_ok-leg.field-0 in
    let does = c.in_ok-leg.ensures in
    let is : h.grains + c.in_ok-rest.rest ≡ d = omega (arith, c.in_ok-rest.ensures) in
    let empty : row c.in_ok-rest.rest h.leg.to ≡ None = sym c.in_err-suffix.ensures in
    subst (TriedCode net alg grain total row p d v code) (sym c.from_residual-in_err-suffix.ensures) (code_empty net alg lawful grain total row p d v code h does c.in_ok-rest.rest is empty)

pub returns-then-as_good-2 : goal.returns-then-as_good-2
returns-then-as_good-2 g c =
    let net = g.M.Map.meaning c.args.self.now.search.routes.map.now in
    let alg = algebra g.V.Ranking.good g.V.Tariff.joining in
    let lawful = laws g.V.Ranking.good g.V.Tariff.joining g.met.V.Ranking.ranks g.met.V.Tariff.joins in
    let grain = c.args.self.now.search.grain.length.0 in
    let total = c.args.total in
    let row = best_of c.args.self.now.search.routes.nodes c.args.self.now.search.top c.args.self.now.table.now c.args.prefix.left in
    let p = c.args.prefix.value in
    let d = c.args.prefix.grains in
    let v = c.args.prefix.end in
    let code = c.args.code in
    let h = c.in_ok-leg.field-0 in
    let does = c.in_ok-leg.ensures in
    let is : h.grains + c.in_ok-rest.rest ≡ d = omega (arith, c.in_ok-rest.ensures) in
    let x = c.in_ok-suffix.suffix in
    let below : row c.in_ok-rest.rest h.leg.to ≡ Some x = sym c.in_ok-suffix.ensures in
    let whole : c.join-whole.result ≡ alg.join (alg.join p h.leg.value) x = c.join-whole.ensures ∙ ap (λ q. alg.join q x) c.join.ensures in
    code_found net alg lawful grain total row p d v code h does c.in_ok-rest.rest is x c.join-whole.result below whole
    (subst T (sym c.if-as_good.true ∙ c.as_good.ensures) tt) (subst T (sym c.if-as_good-2.true ∙ c.as_good-then-as_good.ensures) tt)

pub returns-else-as_good : goal.returns-else-as_good
returns-else-as_good g c =
    let net = g.M.Map.meaning c.args.self.now.search.routes.map.now in
    let alg = algebra g.V.Ranking.good g.V.Tariff.joining in
    let lawful = laws g.V.Ranking.good g.V.Tariff.joining g.met.V.Ranking.ranks g.met.V.Tariff.joins in
    let grain = c.args.self.now.search.grain.length.0 in
    let total = c.args.total in
    let row = best_of c.args.self.now.search.routes.nodes c.args.self.now.search.top c.args.self.now.table.now c.args.prefix.left in
    let p = c.args.prefix.value in
    let d = c.args.prefix.grains in
    let v = c.args.prefix.end in
    let code = c.args.code in
    let h = c.in_ok-leg.field-0 in
    let does = c.in_ok-leg.ensures in
    let is : h.grains + c.in_ok-rest.rest ≡ d = omega (arith, c.in_ok-rest.ensures) in
    let x = c.in_ok-suffix.suffix in
    let below : row c.in_ok-rest.rest h.leg.to ≡ Some x = sym c.in_ok-suffix.ensures in
    let whole : c.join-whole.result ≡ alg.join (alg.join p h.leg.value) x = c.join-whole.ensures ∙ ap (λ q. alg.join q x) c.join.ensures in
    elim c.else-as_good.branch [
      | else-as_good-via-then-as_good+else-as_good-2 w ↦
          code_better net alg lawful grain total row p d v code h does c.in_ok-rest.rest is x c.join-whole.result below whole (λ t. subst T (sym w.as_good-then-as_good.ensures ∙ w.if-as_good-2.false) t)
      | else-as_good-via-else-as_good w ↦
          code_worse net alg lawful grain total row p d v code h does c.in_ok-rest.rest is x c.join-whole.result below whole (λ t. subst T (sym c.as_good.ensures ∙ w.if-as_good.false) t)
    ]
